use Rattle.std.proofs.Common.{◌≡◌, ℕ, List, drop}
use Rattle.std.specs.HashMap.{get_by_text}
use Rattle.std.specs.Str.{IsUtf8}
use Rattle.xm_model.specs.Naming.{texts_of}
use Rattle.xm_proof_reader.specs.Known.{place_from}
use Rattle.xm_proof_reader.proofs.name_table.places_of.Given as goal

abbrev pub invariant-loop-i : goal.invariant-loop-i
invariant-loop-i l = (q : List ℕ) → IsUtf8 q → get_by_text l.places q ≡ place_from l.i (texts_of (drop l.i l.names)) q
