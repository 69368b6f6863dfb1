-- The line of a cycle that is made at once, channel by channel.
use Rattle.std.proofs.Common.{decimal, ◌≡◌, ℕ, zero, suc, ◌<◌, ◌≤◌, ◌+◌, List, [], ◌++◌, length, get_or, Option, Some, None, refl, sym, ap, ap₂, ◌∙◌, append_assoc, arith, length-append}
use Rattle.std.specs.List.{flat_map}
use Rattle.std.specs.Option.{option_to_list}
use Rattle.std.specs.Prelude.{slice_index_or}
use Rattle.std.proofs.lemmas.Grind.{flat_map-append}
use Rattle.std.proofs.lemmas.List.{get_or-map, length-map}
use Rattle.xm_model.specs.Naming.{Naming}
use Rattle.xm_model.specs.Next.{move}
use Rattle.xm_model.specs.Signals.{Signals, only_if}
use Rattle.xm_model.specs.TextLines.{line}
use Rattle.xm_model.specs.Views.{signals_of}
use Rattle.xm_model.specs.declared.state.Wire.{Wire}
use Rattle.xm_trace.proofs.Counting.{sum_few}
use Rattle.xm_trace.proofs.Cycles.{sum-append}
use Rattle.xm_trace.proofs.Running.{cycle_more}
use Rattle.xm_trace.specs.Inner.Labels.{label_text}
use Rattle.xm_trace.specs.Labels.{AreLabelsOf, Labelled}
use Rattle.xm_trace.specs.Moves.{cycle_moves, moved_on, round_moves}
use Rattle.xm_trace.specs.Sums.{sum_in}
use Rattle.xm_trace.specs.Text.{cycle_line, move_label, move_text}
use Rattle.xm_trace.specs.declared.trace.Move.{Move}

-- a channel has at most one move in a cycle
few_moved : (t c : ℕ) (o : Option ℕ) → length (moved_on t c o) ≤ 1
few_moved t c None = omega arith
few_moved t c (Some d) = omega arith

few_moves : (φ : Signals) (t n : ℕ) → length (cycle_moves φ t n) ≤ n
few_moves φ t zero = omega arith
few_moves φ t (suc c) =
    let before = few_moves φ t c in
    let one = few_moved t c (move φ c) in
    omega (arith, before, one, length-append (cycle_moves φ t c) (moved_on t c (move φ c)))

pub sum_in_cycle_few : (φ : Signals) (t n c d : ℕ) → sum_in (cycle_moves φ t n) c d ≤ n
sum_in_cycle_few φ t n c d =
    let few = sum_few (cycle_moves φ t n) c d in
    let moves = few_moves φ t n in
    omega (arith, few, moves)

-- one more channel: its text behind those before, and its move in the sums
module _ (wires : List Wire) (t c : ℕ) (e : Wire) (below : c < length wires) (it : Option Move) (is : option_to_list it ≡ moved_on t c (only_if (get_or wires c e).ready (get_or wires c e).offer)) where
  pub texts_more : (f : Move → List ℕ) (front before after : List ℕ) → before ≡ front ++ flat_map f (cycle_moves (signals_of wires) t c) → after ≡ before ++ flat_map f (option_to_list it)
      → after ≡ front ++ flat_map f (cycle_moves (signals_of wires) t (c + 1))
  texts_more f front before after so_far more =
      more ∙ ap₂ (λ (x : List ℕ) (ms : List Move). x ++ flat_map f ms) so_far is
      ∙ append_assoc front (flat_map f (cycle_moves (signals_of wires) t c)) (flat_map f (moved_on t c (only_if (get_or wires c e).ready (get_or wires c e).offer)))
      ∙ ap (λ (x : List ℕ). front ++ x) (sym (flat_map-append f (cycle_moves (signals_of wires) t c) (moved_on t c (only_if (get_or wires c e).ready (get_or wires c e).offer)))
      ∙ ap (flat_map f) (sym (cycle_more wires t c e below)))

  pub sums_more : (k d base old new : ℕ) → old ≡ sum_in (cycle_moves (signals_of wires) t c) k d + base → new ≡ sum_in (option_to_list it) k d + old
      → new ≡ sum_in (cycle_moves (signals_of wires) t (c + 1)) k d + base
  sums_more k d base old new so_far more =
      let here = ap (λ (ms : List Move). sum_in ms k d) is in
      let both = ap (λ (ms : List Move). sum_in ms k d) (cycle_more wires t c e below) ∙ sum-append (cycle_moves (signals_of wires) t c) (moved_on t c (only_if (get_or wires c e).ready (get_or wires c e).offer)) k d in
      omega (arith, so_far, more, here, both)

-- the labels of the names make the text of a move
module _ (names : Naming) (labels : Labelled) (are : AreLabelsOf names labels) where
  pub many_labels : length labels.channels ≡ length names.channels
  many_labels = ap length are.channels ∙ length-map names.channels move_label

  moved_text : (t c : ℕ) (o : Option ℕ) → c < length names.channels → flat_map (label_text labels) (moved_on t c o) ≡ flat_map (move_text names) (moved_on t c o)
  moved_text t c None below = refl
  moved_text t c (Some d) below =
      let label : slice_index_or labels.channels c [] ≡ move_label (slice_index_or names.channels c []) =
      ap (λ (xs : List (List ℕ)). slice_index_or xs c []) are.channels ∙ get_or-map move_label names.channels c [] [] below in
      let colour = ap (λ (xs : List (List ℕ)). slice_index_or xs d []) are.colours in
      ap (λ (x : List ℕ). x ++ []) (ap₂ (λ (x y : List ℕ). x ++ y) label colour)

  cycle_text : (φ : Signals) (t n : ℕ) → n ≤ length names.channels → flat_map (label_text labels) (cycle_moves φ t n) ≡ flat_map (move_text names) (cycle_moves φ t n)
  cycle_text φ t zero few = refl
  cycle_text φ t (suc c) few =
      flat_map-append (label_text labels) (cycle_moves φ t c) (moved_on t c (move φ c))
      ∙ ap₂ (λ (x y : List ℕ). x ++ y) (cycle_text φ t c (omega arith)) (moved_text t c (move φ c) (omega arith))
      ∙ sym (flat_map-append (move_text names) (cycle_moves φ t c) (moved_on t c (move φ c)))

  -- the line is that of the run's cycle
  pub line_made : (φ : ℕ → Signals) (t now n : ℕ) (moved : List Move) (before after : List ℕ) → length labels.channels ≡ n → now ≡ t → moved ≡ cycle_moves (φ t) t n
      → after ≡ before ++ line (decimal now ++ flat_map (label_text labels) moved) → after ≡ before ++ cycle_line names φ (t + 0)
  line_made φ t now n moved before after many is same made =
      let all : n ≡ length names.channels = sym many ∙ many_labels in
      let here : t ≡ t + 0 = omega arith in
      made
      ∙ ap₂ (λ (i : ℕ) (ms : List Move). before ++ line (decimal i ++ flat_map (label_text labels) ms)) is (same ∙ ap (cycle_moves (φ t) t) all)
      ∙ ap (λ (x : List ℕ). before ++ line (decimal t ++ x)) (cycle_text (φ t) t (length names.channels) (omega arith))
      ∙ ap (λ (i : ℕ). before ++ cycle_line names φ i) here

-- the moves of one cycle are those of a round of one
pub one_round : (φ : ℕ → Signals) (t n : ℕ) → cycle_moves (φ t) t n ≡ round_moves φ n t 1
one_round φ t n =
    let here : t ≡ t + 0 = omega arith in
    ap (λ (i : ℕ). cycle_moves (φ i) i n) here
