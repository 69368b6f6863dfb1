-- What a path says of the packets in queues, as constraints over the queue pairs.
use Rattle.std.specs.Prelude.{ℕ, suc, List, [], ◌∷◌, ◌++◌, Option, Some, None, true, false, cond, map}
use Rattle.xm_design.specs.Designed.{Designed}
use Rattle.xm_flow.specs.ValidLemma.{Lemma}
use Rattle.xm_lits.specs.declared.literal.Lit.{Lit}
use Rattle.xm_lp.specs.declared.decision.Con.{Con}
use Rattle.xm_model.specs.Component.{Component}
use Rattle.xm_proof.specs.Tests.{capacity_row, is_queue, literal_row, only_where}
use Rattle.xm_proof.specs.Valid.{of_a_queue}
use Rattle.xm_rows.specs.Row.{SparseRow}

-- a lemma is an equation; what else is said is that a left side is at least its constant
abbrev pub equation : Lemma → Con
equation l = record { row = l.row; equal = true }

abbrev pub at_least : SparseRow → Con
at_least row = record { row = row; equal = false }

-- the capacity of each queue, of these primitives, numbered from q on
abbrev pub capacities : Designed → ℕ → List Component → List Con
capacities it q [] = []
capacities it q (m ∷ ms) =
    cond (is_queue (Some m)) (at_least (capacity_row it q) ∷ capacities it (suc q) ms) (capacities it (suc q) ms)

-- what a literal says, where it speaks of a queue
abbrev pub said_row : Designed → Lit → Option SparseRow
said_row it l = only_where (of_a_queue it l) (literal_row it l)

abbrev pub said_by : Option SparseRow → List Con
said_by None = []
said_by (Some row) = at_least row ∷ []

abbrev pub said : Designed → List Lit → List Con
said it [] = []
said it (l ∷ ls) = said_by (said_row it l) ++ said it ls

-- the lemmas, the capacities, and what the literals of the path say, in order
abbrev pub constraints : Designed → List Lemma → List Lit → List Con
constraints it lemmas path = map equation lemmas ++ capacities it 0 it.net.prims ++ said it path
