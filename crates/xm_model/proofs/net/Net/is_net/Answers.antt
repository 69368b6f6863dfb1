use Rattle.xm_model.proofs.net.Net.is_net.Goals as goal

pub returns : goal.returns
returns c = rw (← c.self.view_is) (record { limits = c.self.invariant.limits; wired = c.self.invariant.wired })
