-- The text of a run: a line for each cycle, the sums of the moves, and the number of cycles.
use Rattle.std.specs.Prelude.{◌≡◌, ℕ, zero, suc, ◌+◌, List, [], ◌++◌, length, codes, decimal}
use Rattle.std.specs.List.{flat_map}
use Rattle.xm_model.specs.Component.{Content}
use Rattle.xm_model.specs.TextLines.{line, name_at}
use Rattle.xm_model.specs.Naming.{Naming}
use Rattle.xm_model.specs.Net.{Network}
use Rattle.xm_model.specs.Run.{moves}
use Rattle.xm_model.specs.Signals.{Signals}
use Rattle.xm_trace.specs.Moves.{cycle_moves}
use Rattle.xm_tape.specs.Taped.{Taped, cycles_of}
use Rattle.xm_trace.specs.Runs.{IsRunOf}
use Rattle.xm_trace.specs.declared.trace.Move.{Move}

-- a space, the channel and a colon
abbrev pub move_label : List ℕ → List ℕ
move_label channel = codes " " ++ channel ++ codes ":"

-- and the colour
abbrev pub move_text : Naming → Move → List ℕ
move_text names m = move_label (name_at names.channels m.channel) ++ name_at names.colours m.colour

-- the number of the cycle and its moves
abbrev pub cycle_line : Naming → (ℕ → Signals) → ℕ → List ℕ
cycle_line names φ t = line (decimal t ++ flat_map (move_text names) (cycle_moves (φ t) t (length names.channels)))

-- the lines of so many cycles from a cycle on
abbrev pub round_lines : Naming → (ℕ → Signals) → ℕ → ℕ → List ℕ
round_lines names φ from zero = []
round_lines names φ from (suc n) = round_lines names φ from n ++ cycle_line names φ (from + n)

-- how often the colour moved on the channel, where it did
abbrev pub sum_line : Naming → ℕ → ℕ → ℕ → List ℕ
sum_line names c d zero = []
sum_line names c d (suc n) =
    line (codes "sum " ++ name_at names.channels c ++ codes "." ++ name_at names.colours d
    ++ codes " " ++ decimal (suc n))

-- the sums of the first colours on channel c, where colour d moved (n c d) times on it
abbrev pub channel_sums : Naming → (ℕ → ℕ → ℕ) → ℕ → ℕ → List ℕ
channel_sums names n c zero = []
channel_sums names n c (suc d) = channel_sums names n c d ++ sum_line names c d (n c d)

-- the sums of all colours on the first channels
abbrev pub sum_lines : Naming → (ℕ → ℕ → ℕ) → ℕ → List ℕ
sum_lines names n zero = []
sum_lines names n (suc c) = sum_lines names n c ++ channel_sums names n c (length names.colours)

abbrev pub end_line : ℕ → List ℕ
end_line cycles = line (codes "end " ++ decimal cycles)

-- what follows the lines of all cycles
abbrev pub end_text : Naming → (ℕ → Signals) → ℕ → List ℕ
end_text names φ cycles = sum_lines names (λ c d. moves φ c d cycles) (length names.channels) ++ end_line cycles

abbrev pub run_text : Naming → (ℕ → Signals) → ℕ → List ℕ
run_text names φ cycles = round_lines names φ 0 cycles ++ end_text names φ cycles

-- the text is that of the tape's run
pub record IsTextOfRun (net : Network) (names : Naming) (tape : Taped) (text : List ℕ) : Type 0 where
  pub states : ℕ → ℕ → Content
  pub frames : ℕ → Signals
  pub run : IsRunOf net tape states frames
  pub same : text ≡ run_text names frames (cycles_of tape)
