-- The text of a demonstration: the document that was drawn, and what its run counts.
use Rattle.std.specs.Prelude.{ℕ, List, ◌++◌, codes, decimal}
use Rattle.xm_model.specs.TextLines.{line}
use Rattle.xm_report.specs.Check.{count_line}
use Rattle.xm_report.specs.declared.demo.RunCounts.{RunCounts}

-- the size and the seed of the document
abbrev pub demo_line : ℕ → ℕ → List ℕ
demo_line size seed = line (codes "demo " ++ decimal size ++ codes " " ++ decimal seed)

-- a line for each count
abbrev pub run_counts_text : RunCounts → List ℕ
run_counts_text it =
    count_line (codes "primitives") it.primitives ++ count_line (codes "channels") it.channels
    ++ count_line (codes "cycles") it.cycles ++ count_line (codes "moves") it.moves
    ++ count_line (codes "delivered") it.delivered

abbrev pub demo_text : ℕ → ℕ → RunCounts → List ℕ
demo_text size seed it = demo_line size seed ++ run_counts_text it ++ line (codes "end")
