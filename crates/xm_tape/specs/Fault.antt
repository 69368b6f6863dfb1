-- What is wrong with a tape, and where.
use Rattle.std.specs.Prelude.{ℕ}
use Rattle.xm_json.specs.Path.{Path}

-- A path begins with `tape`. A row is named by its place in the rows, or in the stem followed by the cycle once, and an
-- oracle by its place among the sources and sinks.
pub data Fault : Type 0 where
  tape_shape : (path : Path) → Fault
  tape_limit : (count : ℕ) → Fault
  row_length : (row bytes : ℕ) → Fault
  bad_mark : (row oracle : ℕ) → Fault
