-- Primitives that hold nothing between cycles.
use Rattle.std.specs.Prelude.{◌≡◌, ℕ, List, Some, slice_get}
use Rattle.xm_model.specs.Component.{Component, Fork, Function, Join, Nothing, Switch}
use Rattle.xm_model.specs.Views.{content_at}
use Rattle.xm_model.specs.declared.state.Cell.{Cell}

abbrev pub HoldsNothing : Component → Type 0
HoldsNothing (Function _ _ _) = Unit {0}
HoldsNothing (Fork _ _ _ _ _) = Unit {0}
HoldsNothing (Join _ _ _ _) = Unit {0}
HoldsNothing (Switch _ _ _ _) = Unit {0}
HoldsNothing _ = ⊥

-- their cells are empty, as they are in each state of a run
abbrev pub AreStill : List Component → List Cell → Type 0
AreStill ms cells =
    (p : ℕ) (m : Component) → slice_get ms p ≡ Some m → HoldsNothing m → content_at cells p ≡ Nothing
