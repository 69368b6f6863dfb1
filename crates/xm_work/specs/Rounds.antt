-- The rounds of a simulation, and its text.
use Rattle.std.specs.Prelude.{ℕ, zero, suc, ◌+◌, ◌-◌, min, List, [], ◌++◌, Result, Ok, Err}
use Rattle.xm_work.specs.declared.rounds.SimFault.{SimFault}
use Rattle.xm_work.specs.declared.rounds.SimFault.TheVariants.{Write, OutOfMemory}

-- a round has at most this many cycles
abbrev pub round_cycles : ℕ
round_cycles = 1024

-- the last cycle of the round that begins at `first`, of a run of n cycles
abbrev pub round_end : ℕ → ℕ → ℕ
round_end first n = min (first + round_cycles) n - 1

-- the text of n cycles from a cycle on, where `line` is that of each
abbrev pub lines : (ℕ → List ℕ) → ℕ → ℕ → List ℕ
lines line from zero = []
lines line from (suc n) = lines line from n ++ line (from + n)

-- where a write failed, this holds
abbrev pub OnWrite : {T : Type 0} → Result T SimFault → Type 0 → Type 0
OnWrite (Ok x) P = Unit {0}
OnWrite (Err Write) P = P
OnWrite (Err OutOfMemory) P = Unit {0}

-- unless a write failed, this holds
abbrev pub UnlessWrite : {T : Type 0} → Result T SimFault → Type 0 → Type 0
UnlessWrite (Ok x) P = P
UnlessWrite (Err Write) P = Unit {0}
UnlessWrite (Err OutOfMemory) P = P
