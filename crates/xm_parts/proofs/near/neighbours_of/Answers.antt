use Rattle.std.proofs.Common.{◌<◌, ℕ, subst}
use Rattle.std.proofs.lemmas.Result.{IfOk-weaker}
use Rattle.xm_model.specs.ListView.{ListView}
use Rattle.xm_parts.proofs.Neighbouring.{are_near, small_label}
use Rattle.xm_parts.specs.Kept.{label_at}
use Rattle.xm_parts.specs.Near.{AreNear, ArePartsOf}
use Rattle.xm_parts.proofs.near.neighbours_of.Goals as goal

pub returns : goal.returns
returns c =
    let net = c.args.net.now in let label = label_at c.args.labels.now in
    IfOk-weaker c.far_parts.result (λ (made : ListView ℕ). ArePartsOf c.args.cuts.now 64 made.items) (λ (made : ListView ℕ). AreNear net label c.args.p made.items)
    (λ made of. are_near net label c.args.p c.args.cuts.now c.requires.cuts made.items of (λ q near. subst (λ (x : ℕ). x < 64) near.there (small_label c.args.labels.now c.requires.labels near.far))) c.far_parts.ensures
