-- Lemmas: lemmas that are written are read again.
use Rattle.std.proofs.Common.{◌≡◌, ◌≢◌, ℕ, suc, true, List, [], ◌∷◌, Some, None, Option, Ok, All, map, ℤ, pos, int_eq, refl, ap}
use Rattle.std.specs.Prelude.{codes, not, slice_index_or}
use Rattle.std.proofs.lemmas.Bool.{false_from_ne_true, lt-ltb}
use Rattle.std.proofs.lemmas.Bool.Decides.{Decides-int_eq}
use Rattle.std.proofs.lemmas.List.Elements.{All-head, All-tail}
use Rattle.xm_flow.specs.ValidLemma.{Lemma}
use Rattle.xm_flow.specs.declared.invariant.Part.{Part}
use Rattle.xm_json.specs.Members.{only}
use Rattle.xm_json.specs.Path.{Path, member_of, place_of}
use Rattle.xm_proof_reader.specs.Known.{Known, pair_from}
use Rattle.xm_proof_reader.specs.Reading.{each_after, follows, items_member, lemma_at, number_member, part_at, queue_and_colour, rises_to, rows_in, term_at, term_in, terms_in}
use Rattle.xm_proof.specs.OfNet.{IsColour, IsQueue}
use Rattle.xm_proof_writer.specs.Writable.{AreParts, HasNames, IsLemmaOf, IsPartOf}
use Rattle.xm_proof_writer.specs.Writing.{lemma_data, part_data, term_data}
use Rattle.xm_proof_writer.proofs.Numbers.{number_again, place_again}
use Rattle.xm_proof_writer.proofs.Steps.{few_mapped, items_again}
use Rattle.xm_rows.specs.Row.{Fits128, IsRising}
use Rattle.xm_rows.specs.declared.row.Entry.{Entry}

-- ---- parts

part_again : (path : Path) (before : Option Part) (p : Part) → IsPartOf p → rises_to before p ≡ true → part_at path before (part_data p) ≡ Ok p
unfolding part_at
part_again path before p is rises = rw (place_again (place_of path 0) p.flow is.flow, number_again (place_of path 1) p.factor is.factor, rises) refl

parts_again : (path : Path) (before : Option Part) (i : ℕ) (ps : List Part) → AreParts before ps
    → each_after (λ before i x. part_at (place_of path i) before x) before i (map part_data ps) ≡ Ok ps
parts_again path before i [] are = refl
parts_again path before i (p ∷ ps) are = rw (part_again (place_of path i) before p are.0 are.1, parts_again path (Some p) (suc i) ps are.2) refl

-- ---- terms

-- the column is the place of a queue pair, and no earlier one
pub record IsColumn (known : Known) (column : ℕ) : Type 0 where
  pub queue : ℕ
  pub colour : ℕ
  pub pair : slice_index_or known.pairs column (0, 0) ≡ (queue, colour)
  pub first : pair_from 0 known.pairs queue colour ≡ Some column
  pub is_queue : IsQueue known.net queue
  pub is_colour : IsColour known.net colour

-- each entry's column is one
abbrev pub AreColumns : Known → List Entry → Type 0
AreColumns known es = All (λ (e : Entry). IsColumn known e.column) es

-- the first of the entries follows the one before
abbrev pub FirstFollows : Option Entry → List Entry → Type 0
FirstFollows before [] = Unit {0}
FirstFollows before (e ∷ es) = follows before e ≡ true

nonzero_passes : (z : ℤ) → z ≢ pos 0 → not (int_eq z (pos 0)) ≡ true
nonzero_passes z nonzero = ap not (false_from_ne_true (int_eq z (pos 0)) (λ t. nonzero ((Decides-int_eq z (pos 0)).0 t)))

first_follows : (es : List Entry) → All (λ (e : Entry). e.value ≢ pos 0) es → FirstFollows None es
first_follows [] nonzero = tt
first_follows (e ∷ es) nonzero = nonzero_passes e.value (All-head (λ (x : Entry). x.value ≢ pos 0) e es nonzero)

next_follows : (e : Entry) (es : List Entry) → IsRising (e ∷ es) → All (λ (x : Entry). x.value ≢ pos 0) es → FirstFollows (Some e) es
next_follows e [] rising nonzero = tt
next_follows e (f ∷ es) rising nonzero =
    rw (lt-ltb e.column f.column rising.0, nonzero_passes f.value (All-head (λ (x : Entry). x.value ≢ pos 0) f es nonzero)) refl

rises_on : (e : Entry) (es : List Entry) → IsRising (e ∷ es) → IsRising es
rises_on e [] rising = tt
rises_on e (f ∷ es) rising = rising.1

module _ (known : Known) (names : HasNames known) where
  term_again : (path : Path) (before : Option Entry) (e : Entry) → IsColumn known e.column → Fits128 e.value → follows before e ≡ true → term_at known path before (term_data known e) ≡ Ok e
  unfolding term_at term_in queue_and_colour
  term_again path before e is fits comes =
      rw (is.pair, names.queues is.queue is.is_queue, names.colours is.colour is.is_colour, is.first, number_again (place_of path 2) e.value fits, comes) refl

  terms_again : (path : Path) (before : Option Entry) (i : ℕ) (es : List Entry) → AreColumns known es → IsRising es → All (λ (e : Entry). e.value ≢ pos 0) es → All (λ (e : Entry). Fits128 e.value) es → FirstFollows before es
      → each_after (λ before i x. term_at known (place_of path i) before x) before i (map (term_data known) es) ≡ Ok es
  terms_again path before i [] columns rising nonzero fit comes = refl
  terms_again path before i (e ∷ es) columns rising nonzero fit comes =
      let later = All-tail (λ (x : Entry). x.value ≢ pos 0) e es nonzero in
      rw (
        term_again (place_of path i) before e (All-head (λ (x : Entry). IsColumn known x.column) e es columns) (All-head (λ (x : Entry). Fits128 x.value) e es fit) comes,
        terms_again path (Some e) (suc i) es (All-tail (λ (x : Entry). IsColumn known x.column) e es columns) (rises_on e es rising) later (All-tail (λ (x : Entry). Fits128 x.value) e es fit) (next_follows e es rising later),
      ) refl

  -- ---- lemmas

  pub lemma_again : (path : Path) (l : Lemma) → IsLemmaOf known l → AreColumns known l.row.entries → lemma_at known path (lemma_data known l) ≡ Ok l
  unfolding lemma_at number_member rows_in terms_in items_member only
  lemma_again path l is columns =
      rw (
        number_again (member_of path (codes "constant")) l.row.constant is.row.constant_fits,
        items_again (member_of path (codes "rows")) (map part_data l.parts) (few_mapped part_data l.parts is.few_parts),
        parts_again (member_of path (codes "rows")) None 0 l.parts is.parts,
        number_again (member_of path (codes "scale")) l.scale is.scale,
        items_again (member_of path (codes "terms")) (map (term_data known) l.row.entries) (few_mapped (term_data known) l.row.entries is.few_entries),
        terms_again (member_of path (codes "terms")) None 0 l.row.entries columns is.row.rising is.row.nonzero is.row.fit (first_follows l.row.entries is.row.nonzero),
      ) refl
