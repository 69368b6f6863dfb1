-- The line of a snapshot: how many packets of each colour each queue holds at a cycle, where it holds some.
use Rattle.std.specs.List.{flat_map}
use Rattle.std.specs.Prelude.{ℕ, zero, suc, List, [], ◌++◌, codes, decimal}
use Rattle.xm_colours.specs.Family.{colours_at}
use Rattle.xm_colours.specs.Pairs.{queue_pairs}
use Rattle.xm_design.specs.Designed.{Designed}
use Rattle.xm_model.specs.Component.{Content}
use Rattle.xm_model.specs.Naming.{Naming}
use Rattle.xm_model.specs.Run.{count}
use Rattle.xm_model.specs.TextLines.{line}
use Rattle.xm_report.specs.Invariants.{pair_text}

-- what is said of so many packets of a queue pair: nothing of none, else a space, the pair, and how many
abbrev pub packets_text : Naming → ℕ × ℕ → ℕ → List ℕ
packets_text names pair zero = []
packets_text names pair (suc n) = codes " " ++ pair_text names pair ++ codes "=" ++ decimal (suc n)

-- of the packets that a queue pair has in a state
abbrev pub held_text : Naming → (ℕ → Content) → ℕ × ℕ → List ℕ
held_text names s pair = packets_text names pair (count s pair.0 pair.1)

-- the state at cycle t: its packets by queue and then colour
abbrev pub snap_line : Naming → Designed → ℕ → (ℕ → Content) → List ℕ
snap_line names it t s =
    line (codes "snap " ++ decimal t
    ++ flat_map (held_text names s) (queue_pairs (colours_at it.colours) 0 it.net.prims))
