-- Which choices a part reads: those of its own sources and sinks.
use Rattle.std.specs.Prelude.{◌≡◌, ℕ, Bool, true, cond, List, [], ◌∷◌, Some, slice_get}
use Rattle.xm_model.specs.Component.{Component}
use Rattle.xm_model.specs.Net.{HasPrim, Network}
use Rattle.xm_model.specs.Views.{choice_at, is_oracle}
use Rattle.xm_model.specs.declared.state.Choice.{Choice}
use Rattle.xm_parts.specs.Partition.{touches, touches_at}

-- of each source and sink, in primitive order, whether it lies in part p
abbrev pub own_oracles : (ℕ → ℕ) → ℕ → List Component → List Bool
own_oracles label p [] = []
own_oracles label p (m ∷ ms) =
    cond (is_oracle m) (touches label p (Some m) ∷ own_oracles label p ms) (own_oracles label p ms)

-- for the sources and sinks of part p the row chooses as these choices
abbrev pub ChoosesAs : Network → (ℕ → ℕ) → ℕ → List Choice → (ℕ → Choice) → Type 0
ChoosesAs net label p w x =
    (i : ℕ) (m : Component) → HasPrim net i m → is_oracle m ≡ true → touches_at net label p i ≡ true →
    choice_at net.prims w i ≡ x i

-- a row that is another one at the places of these sources and sinks chooses as that one
abbrev pub ChoosingLaw : Type 0
ChoosingLaw =
    (net : Network) (label : ℕ → ℕ) (p : ℕ) (whole row : List Choice) →
    ((k : ℕ) → slice_get (own_oracles label p net.prims) k ≡ Some true → slice_get row k ≡ slice_get whole k) →
    ChoosesAs net label p row (choice_at net.prims whole)
