-- What calls over a whole stream take from a source and leave in a sink.
use Rattle.std.specs.Prelude.{ℕ, ◌<◌, ◌≤◌, List, take, length}
use Rattle.std.specs.declared.option.Option.{Option}
use Rattle.std.specs.Io.KnownBytes.{Appends, Consumes, IsAtEnd}

-- all that was left is these bytes, and nothing is left
pub record ReadsWhole (old new : Option (List ℕ)) (text : List ℕ) : Type 0 where
  pub taken : Consumes old new text
  pub ended : IsAtEnd new

-- some bytes from the front were taken
abbrev pub TakesFront : Option (List ℕ) → Option (List ℕ) → Type 0
TakesFront old new = (bytes : List ℕ) × Consumes old new bytes

-- at most limit bytes from the front were taken
abbrev pub TakesAtMost : ℕ → Option (List ℕ) → Option (List ℕ) → Type 0
TakesAtMost limit old new = (bytes : List ℕ) × (length bytes ≤ limit) × Consumes old new bytes

-- more than limit bytes from the front were taken
abbrev pub TakesMoreThan : ℕ → Option (List ℕ) → Option (List ℕ) → Type 0
TakesMoreThan limit old new = (bytes : List ℕ) × (limit < length bytes) × Consumes old new bytes

-- the first bytes of text were appended
abbrev pub AppendsFront : Option (List ℕ) → Option (List ℕ) → List ℕ → Type 0
AppendsFront old new text = (n : ℕ) × (n ≤ length text) × Appends old new (take n text)
