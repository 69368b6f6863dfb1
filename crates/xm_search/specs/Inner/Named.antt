-- Constraints, each with the item that names it in a sum.
use Rattle.std.specs.Prelude.{◌≡◌, ℕ, ◌<◌, List, [], ◌∷◌, ◌++◌, Bool, true, false, Some, None, Option, All, length, map, slice_get, pos, neg_ℤ}
use Rattle.xm_design.specs.Designed.{Designed}
use Rattle.xm_flow.specs.ValidLemma.{Lemma}
use Rattle.xm_lits.specs.Repeating.{capacity_at}
use Rattle.xm_lits.specs.declared.literal.Lit.{Lit}
use Rattle.xm_lits.specs.declared.literal.Lit.TheVariants.{Full, Has, Lacks}
use Rattle.xm_lp.specs.declared.decision.Con.{Con}
use Rattle.xm_proof.specs.Tests.{entries_where, of_pair, of_queue, queue_columns}
use Rattle.xm_proof.specs.Valid.{item_row, of_a_queue}
use Rattle.xm_proof.specs.declared.proof.Item.{Item}
use Rattle.xm_proof.specs.declared.proof.Item.TheVariants as item
use Rattle.xm_rows.specs.Row.{IsRow, SparseRow}
use Rattle.xm_search.specs.Constraints.{capacities, equation}
use Rattle.xm_search.specs.declared.bounds.Bounds.{Bounds}

-- the pair is one of the queue, or the one of the queue with the colour
abbrev pub is_counted : ℕ → Option ℕ → ℕ × ℕ → Bool
is_counted q None pair = of_queue q pair
is_counted q (Some d) pair = of_pair q d pair

abbrev pub is_lemma : Item → Bool
is_lemma (item.Lemma _ _) = true
is_lemma _ = false

-- what a literal says of a queue with this capacity
abbrev pub row_said : List (ℕ × ℕ) → ℕ → Lit → Option SparseRow
row_said pairs n (Full q) = Some (record { entries = entries_where (of_queue q) (pos 1) 0 pairs; constant = pos n })
row_said pairs n (Has q d) = Some (record { entries = entries_where (of_pair q d) (pos 1) 0 pairs; constant = pos 1 })
row_said pairs n (Lacks q d) =
    Some (record { entries = entries_where (of_pair q d) (neg_ℤ (pos 1)) 0 pairs; constant = pos 0 })
row_said pairs n _ = None

-- the item has the constraint's row, and is a lemma where that is an equation
pub record Names (it : Designed) (lemmas : List Lemma) (path : List Lit) (i : Item) (c : Con) : Type 0 where
  pub row : item_row it lemmas path i ≡ Some c.row
  pub sign : is_lemma i ≡ c.equal
  pub is_row : IsRow c.row
  pub below : All (λ e. e.column < length (queue_columns it)) c.row.entries

abbrev pub AllNamed : Designed → List Lemma → List Lit → List Item → List Con → Type 0
AllNamed it lemmas path [] [] = Unit {0}
AllNamed it lemmas path [] (c ∷ cs) = ⊥
AllNamed it lemmas path (i ∷ is) [] = ⊥
AllNamed it lemmas path (i ∷ is) (c ∷ cs) = Names it lemmas path i c × AllNamed it lemmas path is cs

-- each of them is named, on this path
pub record AreNamed (it : Designed) (lemmas : List Lemma) (path : List Lit) (b : Bounds) : Type 0 where
  pub all : AllNamed it lemmas path b.items.items b.cons.items

-- they are the lemmas and the capacities
pub record AreShared (it : Designed) (lemmas : List Lemma) (b : Bounds) : Type 0 where
  pub cons : b.cons.items ≡ map equation lemmas ++ capacities it 0 it.net.prims
  pub named : (path : List Lit) → AreNamed it lemmas path b

-- the literal speaks of a queue, which has this capacity where the literal says that it is full
pub record HasCapacity (it : Designed) (l : Lit) (capacity : ℕ) : Type 0 where
  pub speaks : of_a_queue it l ≡ true
  pub full : (q : ℕ) → l ≡ Full q → capacity_at (slice_get it.net.prims q) ≡ capacity
