-- The text of invariants: a line for each row over queue pairs, and how many there are.
use Rattle.std.specs.Fmt.{signed_decimal}
use Rattle.std.specs.List.{flat_map}
use Rattle.std.specs.Prelude.{ℕ, List, ◌++◌, length, codes, slice_index_or}
use Rattle.xm_colours.specs.Family.{colours_at}
use Rattle.xm_colours.specs.Pairs.{queue_pairs}
use Rattle.xm_design.specs.Designed.{Designed}
use Rattle.xm_flow.specs.ValidLemma.{Lemma}
use Rattle.xm_model.specs.Naming.{Naming}
use Rattle.xm_model.specs.TextLines.{line, name_at}
use Rattle.xm_report.specs.Check.{count_line}
use Rattle.xm_rows.specs.declared.row.Entry.{Entry}

-- the queue, a dot and the colour
abbrev pub pair_text : Naming → ℕ × ℕ → List ℕ
pair_text names pair = name_at names.prims pair.0 ++ codes "." ++ name_at names.colours pair.1

-- a space, the number, and the queue pair in whose column it stands
abbrev pub term_text : Naming → List (ℕ × ℕ) → Entry → List ℕ
term_text names pairs entry =
    codes " " ++ signed_decimal entry.value ++ codes "*" ++ pair_text names (slice_index_or pairs entry.column (0, 0))

-- the terms in the order of columns, and the constant
abbrev pub invariant_line : Naming → List (ℕ × ℕ) → Lemma → List ℕ
invariant_line names pairs it =
    line (codes "inv" ++ flat_map (term_text names pairs) it.row.entries ++ codes " = "
    ++ signed_decimal it.row.constant)

abbrev pub invariant_lines : Naming → Designed → List Lemma → List ℕ
invariant_lines names it lemmas =
    flat_map (invariant_line names (queue_pairs (colours_at it.colours) 0 it.net.prims)) lemmas

abbrev pub invariant_text : Naming → Designed → List Lemma → List ℕ
invariant_text names it lemmas = invariant_lines names it lemmas ++ count_line (codes "end") (length lemmas)
