-- Lemmas: a primitive that the code reads from its list, as a component.
use Rattle.std.proofs.Common.{◌≡◌, ℕ, ◌<◌, List, length, map, get_or, slice_get, refl, Some}
use Rattle.std.proofs.lemmas.Option.{slice_get-map, slice_get_read}
use Rattle.xm_model.specs.Component.{component_of}
use Rattle.xm_model.specs.declared.primitive.Primitive.{Primitive}

-- the component that stands at i
pub component_at : (xs : List Primitive) (i : ℕ) (x : Primitive) → i < length xs → x ≡ get_or xs i x →
    slice_get (map component_of xs) i ≡ Some (component_of x)
component_at xs i x below e = rw (slice_get-map component_of xs i, slice_get_read xs (length xs) i x refl below e) refl
