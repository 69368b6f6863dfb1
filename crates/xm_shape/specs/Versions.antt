-- The versions of documents, and what has come with each.
use Rattle.std.specs.Prelude.{ℕ}

abbrev pub first_version : ℕ
first_version = 1

-- a queue may begin with packets
abbrev pub initial_version : ℕ
initial_version = 2

-- a source may be fair
abbrev pub fair_version : ℕ
fair_version = 3

abbrev pub newest_version : ℕ
newest_version = 3
