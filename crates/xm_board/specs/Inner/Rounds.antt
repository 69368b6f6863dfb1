-- What the next round changes in what a board keeps.
use Rattle.std.specs.Prelude.{◌≡◌, ℕ, List, [], Some, length, slice_get}
use Rattle.xm_model.specs.ListView.{ListView}
use Rattle.xm_trace.specs.declared.trace.Move.{Move}

-- all moves have gone, and the room is left
pub record AreCleared (old new : List (ListView Move)) : Type 0 where
  pub whole : length new ≡ length old
  pub each : (p : ℕ) (was ms : ListView Move) → slice_get old p ≡ Some was → slice_get new p ≡ Some ms →
      (ms.items ≡ []) × (ms.room ≡ was.room)
