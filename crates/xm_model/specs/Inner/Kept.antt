-- What a net keeps beside its primitives.
use Rattle.std.specs.Prelude.{◌≡◌, List, length}
use Rattle.xm_model.specs.Net.{Network, IsWellWired, IsWithinLimits, inputs, outputs, ports}
use Rattle.xm_model.specs.Inner.FirstTwo.{AreFirstTwo}
use Rattle.xm_model.specs.declared.net.FirstTwo.{FirstTwo}

pub record IsKept (net : Network) (by_outputs by_inputs : List FirstTwo) : Type 0 where
  pub limits : IsWithinLimits net
  pub wired : IsWellWired net
  pub outputs_len : length by_outputs ≡ net.channels
  pub inputs_len : length by_inputs ≡ net.channels
  pub initiators_met : AreFirstTwo (ports outputs net.prims 0) by_outputs
  pub targets_met : AreFirstTwo (ports inputs net.prims 0) by_inputs
