-- The rows of a written tape: one mark for each source and sink, in primitive order.
use Rattle.std.specs.Prelude.{ℕ, suc, ◌-◌, List, [], ◌∷◌, ◌&&◌, ◌==◌, filter, length, nat_le, if◌then◌else◌, Option, Some, None, option_and_then, option_map, slice_get, Result, Ok}
use Rattle.xm_model.specs.Component.{Component, Fork, Function, Join, Merge, Queue, Sink, Source, Switch}
use Rattle.xm_model.specs.Views.{is_oracle}
use Rattle.xm_model.specs.Steps.{◌>>=◌, check, demand}
use Rattle.xm_model.specs.declared.state.Choice.{Choice}
use Rattle.xm_model.specs.declared.state.Choice.TheVariants.{Offer, Ready}
use Rattle.std.specs.Prelude.{true, false}
use Rattle.xm_tape.specs.Fault.{Fault, bad_mark, row_length}

-- the sources and sinks
abbrev pub oracles_of : List Component → List Component
oracles_of prims = filter is_oracle prims

-- 0 to 9 and a to z are the places 0 to 35
abbrev pub place_marked : ℕ → Option ℕ
place_marked mark =
    if nat_le 48 mark && nat_le mark 57 then Some (mark - 48)
    else (if nat_le 97 mark && nat_le mark 122 then Some (mark - 87) else None)

-- a dot is silence, and a place is the colour there in the source's list
abbrev pub offer_marked : List ℕ → ℕ → Option Choice
offer_marked colours mark =
    if mark == 46 then Some (Offer None)
    else option_map (λ d. Offer (Some d)) (option_and_then (slice_get colours) (place_marked mark))

-- 1 is ready, and a dot is not
abbrev pub ready_marked : ℕ → Option Choice
ready_marked mark = if mark == 46 then Some (Ready false) else (if mark == 49 then Some (Ready true) else None)

-- the choice that a mark is for a source or a sink
abbrev pub choice_marked : Component → ℕ → Option Choice
choice_marked (Source out colours mode) mark = offer_marked colours mark
choice_marked (Sink input mode) mark = ready_marked mark
choice_marked (Queue input out capacity initial) mark = None
choice_marked (Function input out table) mark = None
choice_marked (Fork input a b ta tb) mark = None
choice_marked (Join a b out pass) mark = None
choice_marked (Switch input a b to_a) mark = None
choice_marked (Merge a b out) mark = None

-- the choices of row t from oracle o on
abbrev pub marks_from : ℕ → ℕ → List Component → List ℕ → Result (List Choice) Fault
marks_from t o (m ∷ ms) (mark ∷ marks) = do
  choice ← demand (choice_marked m mark) (bad_mark t o)
  choices ← marks_from t (suc o) ms marks
  Ok (choice ∷ choices)
marks_from t o [] marks = Ok []
marks_from t o (m ∷ ms) [] = Ok []

-- its length is tested before its marks
abbrev pub row_at : List Component → ℕ → List ℕ → Result (List Choice) Fault
row_at prims t text = do
  _ ← check (length text == length (oracles_of prims)) (row_length t (length text))
  marks_from t 0 (oracles_of prims) text
