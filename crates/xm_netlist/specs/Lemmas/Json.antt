-- Lemmas: the bytes as JSON, from what the reader of JSON says.
use Rattle.std.proofs.Common.{◌≡◌, ℕ, true, false, List, Some, None, Ok, Err, refl}
use Rattle.std.specs.Str.{is_utf8, IsUtf8}
use Rattle.std.proofs.lemmas.Str.{is_utf8-from_IsUtf8, IsUtf8-from_is_utf8}
use Rattle.serde_json.specs.Data.{Data}
use Rattle.serde_json.specs.Read.{read}
use Rattle.xm_model.specs.Steps.{demand}
use Rattle.xm_shape.specs.Fault.{not_json}
use Rattle.xm_netlist.specs.Reading.{json_of}

pub json_known : (bytes : List ℕ) (d : Data) → IsUtf8 bytes → read bytes ≡ Some d → demand (json_of bytes) not_json ≡ Ok d
unfolding json_of
json_known bytes d utf8 is = rw (is_utf8-from_IsUtf8 bytes utf8, is) refl

pub json_refused : (bytes : List ℕ) → (IsUtf8 bytes → read bytes ≡ None) → demand (json_of bytes) not_json ≡ Err not_json
unfolding json_of
json_refused bytes none =
    elim (is_utf8 bytes) as (λ b. is_utf8 bytes ≡ b → demand (json_of bytes) not_json ≡ Err not_json) [
      | true ↦ λ e. rw (e, none (IsUtf8-from_is_utf8 bytes e)) refl
      | false ↦ λ e. rw e refl
    ] refl
