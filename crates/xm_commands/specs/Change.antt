-- What a call did to a source or to a sink.
use Rattle.std.specs.Prelude.{ℕ, List, Option}

-- a source or a sink before and after a call: itself, its bytes (what is left in a source, what a sink holds), and its
-- count of faults
pub record Change (T : Type 0) : Type 0 where
  pub before : T
  pub after : T
  pub bytes_before : Option (List ℕ)
  pub bytes_after : Option (List ℕ)
  pub faults_before : ℕ
  pub faults_after : ℕ

abbrev pub change : {T : Type 0} → (T → Option (List ℕ)) → (T → ℕ) → T → T → Change T
change bytes faults before after = record {
  before = before;
  after = after;
  bytes_before = bytes before;
  bytes_after = bytes after;
  faults_before = faults before;
  faults_after = faults after;
}
