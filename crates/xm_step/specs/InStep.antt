-- A frame from which the next cycle of a state can be made.
use Rattle.std.specs.Prelude.{◌≡◌, List, length}
use Rattle.xm_model.specs.Net.{Network}
use Rattle.xm_model.specs.Views.{content_at, signals_of}
use Rattle.xm_model.specs.declared.state.Cell.{Cell}
use Rattle.xm_plan.specs.Shown.{AreShown}
use Rattle.xm_step.specs.declared.running.RunningFrame.{RunningFrame}

-- it has a wire for each channel, and shows what each primitive holds that is noted as unchanged
pub record IsInStep (net : Network) (cells : List Cell) (it : RunningFrame) : Type 0 where
  pub wires : length it.frame.wires.items ≡ net.channels
  pub changed : length it.changed.items ≡ length net.prims
  pub shown : AreShown net.prims (content_at cells) it.changed.items (signals_of it.frame.wires.items)
