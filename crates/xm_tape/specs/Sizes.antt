-- The limits of a tape.
use Rattle.std.specs.Prelude.{ℕ}

abbrev pub most_cycles : ℕ
most_cycles = 10000000

-- of the product of cycles and channels
abbrev pub most_cycles_by_channels : ℕ
most_cycles_by_channels = 64000000
