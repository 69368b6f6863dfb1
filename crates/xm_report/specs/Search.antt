-- The texts of what a search for a proof finds: a candidate of a deadlock, or how far the budget went.
use Rattle.std.specs.Fmt.{signed_decimal}
use Rattle.std.specs.List.{flat_map, zip}
use Rattle.std.specs.Prelude.{ℕ, List, ◌++◌, codes, decimal, ℤ}
use Rattle.xm_colours.specs.Family.{colours_at}
use Rattle.xm_colours.specs.Pairs.{queue_pairs}
use Rattle.xm_design.specs.Designed.{Designed}
use Rattle.xm_lits.specs.declared.literal.Lit.{Lit}
use Rattle.xm_lits.specs.declared.literal.Lit.TheVariants.{Dead, Full, Has, Idle, Lacks, Stuck}
use Rattle.xm_model.specs.Naming.{Naming}
use Rattle.xm_model.specs.TextLines.{line, name_at}
use Rattle.xm_report.specs.Invariants.{pair_text}

-- the channel, a dot and the colour
abbrev pub on_channel : Naming → ℕ → ℕ → List ℕ
on_channel names c d = name_at names.channels c ++ codes "." ++ name_at names.colours d

abbrev pub literal_text : Naming → Lit → List ℕ
literal_text names (Stuck c) = codes "Stuck " ++ name_at names.channels c
literal_text names (Dead c d) = codes "Dead " ++ on_channel names c d
literal_text names (Idle c d) = codes "Idle " ++ on_channel names c d
literal_text names (Full q) = codes "Full " ++ name_at names.prims q
literal_text names (Has q d) = codes "Has " ++ pair_text names (q, d)
literal_text names (Lacks q d) = codes "Lacks " ++ pair_text names (q, d)

-- a word and a literal
abbrev pub literal_line : List ℕ → Naming → Lit → List ℕ
literal_line word names l = line (word ++ codes " " ++ literal_text names l)

-- so many packets, over the denominator
abbrev pub packets_line : Naming → (ℕ × ℕ) × ℤ → List ℕ
packets_line names it = line (codes "count " ++ pair_text names it.0 ++ codes " " ++ signed_decimal it.1)

-- a word and a number
abbrev pub number_line : List ℕ → ℤ → List ℕ
number_line word n = line (word ++ codes " " ++ signed_decimal n)

-- the goal and the literals of a candidate
abbrev pub literal_lines : Naming → Lit → List Lit → List ℕ
literal_lines names goal lits =
    literal_line (codes "open") names goal ++ flat_map (literal_line (codes "lit") names) lits

-- the packets of each queue pair, over the denominator
abbrev pub packets_lines : Naming → List (ℕ × ℕ) → List ℤ → ℤ → List ℕ
packets_lines names pairs counts denominator =
    flat_map (packets_line names) (zip pairs counts) ++ number_line (codes "denominator") denominator

-- those of a candidate
abbrev pub open_text : Naming → Designed → Lit → List Lit → List ℤ → ℤ → List ℕ
open_text names it goal lits counts denominator =
    literal_lines names goal lits
    ++ packets_lines names (queue_pairs (colours_at it.colours) 0 it.net.prims) counts denominator
    ++ codes "end\n"

-- the nodes and pivots that were spent, the goal at work, and the partial proof
abbrev pub spent_text : Naming → ℕ → ℕ → Lit → List ℕ → List ℕ
spent_text names nodes pivots goal partial =
    line (codes "spent " ++ decimal nodes ++ codes " " ++ decimal pivots)
    ++ literal_line (codes "goal") names goal
    ++ line partial
