-- Lemmas: literals, items and steps that are written are read again.
use Rattle.std.proofs.Common.{◌≡◌, ◌^◌, ℕ, suc, List, [], ◌∷◌, Some, None, Option, Result, Ok, All, length, map, refl, sym, subst}
use Rattle.std.specs.Prelude.{codes}
use Rattle.std.proofs.lemmas.Bool.{lt-ltb}
use Rattle.std.proofs.lemmas.List.{length-map}
use Rattle.std.proofs.lemmas.List.Elements.{All-head, All-tail}
use Rattle.serde_json.specs.Data.{Data}
use Rattle.xm_json.specs.Members.{list_member, only, small_number_member}
use Rattle.xm_json.specs.Path.{Path, member_of, place_of}
use Rattle.xm_lits.specs.declared.inference.RuleName.{RuleName}
use Rattle.xm_lits.specs.declared.inference.RuleName.TheVariants.{P0, S1, S2, S3, S4, S5, S6, P1, P2, P3, P4, O1, O2}
use Rattle.xm_lits.specs.declared.inference.RuleName.TheVariants.{O3, O4, O5, O6, I2, I3, I4, I5, I6, I7}
use Rattle.xm_lits.specs.declared.literal.Lit.{Lit}
use Rattle.xm_lits.specs.declared.literal.Lit.TheVariants.{Dead, Full, Has, Idle, Lacks, Stuck}
use Rattle.xm_model.specs.Steps.{each_from}
use Rattle.xm_proof.specs.Argument.{Cite, Clash, Eager, Open, Split, Step, Sum}
use Rattle.xm_proof.specs.declared.proof.Item.{Item}
use Rattle.xm_proof.specs.declared.proof.Item.TheVariants as item
use Rattle.xm_proof_reader.specs.Known.{Known}
use Rattle.xm_proof_reader.specs.Reading.{channel_and_colour, cite_in, clash_in, eager_in, item_at, items_at, items_member, literal_at, literal_member, long_item, long_literal}
use Rattle.xm_proof_reader.specs.Reading.{node_at, open_in, queue_and_colour, rule_of, short_item, short_literal, split_in, split_plain, split_via, sum_in, sum_items}
use Rattle.xm_proof.specs.OfNet.{IsItemOf, IsLiteralOf, IsPlace, IsStepOf}
use Rattle.xm_proof_writer.specs.Writable.{HasNames}
use Rattle.xm_proof_writer.specs.Writing.{item_data, list_data, literal_data, rule_name, step_data}
use Rattle.xm_proof_writer.proofs.Numbers.{number_again, place_again}
use Rattle.xm_writer.specs.Lemmas.Values.{list_of-items_of}

-- ---- lists

pub each_again : {B E : Type 0} (P : B → Type 0) (f : ℕ → Data → Result B E) (g : B → Data) → ((i : ℕ) (y : B) → P y → f i (g y) ≡ Ok y)
    → (i : ℕ) (ys : List B) → All P ys → each_from f i (map g ys) ≡ Ok ys
each_again P f g one i [] all = refl
each_again P f g one i (y ∷ ys) all = rw (one i y (All-head P y ys all), each_again P f g one (suc i) ys (All-tail P y ys all)) refl

pub items_again : (path : Path) (ds : List Data) → IsPlace (length ds) → items_at path (list_data ds) ≡ Ok ds
unfolding items_at
items_again path ds few = rw (list_of-items_of ds, lt-ltb (length ds) (2 ^ 32) few) refl

pub few_mapped : {B : Type 0} (g : B → Data) (ys : List B) → IsPlace (length ys) → IsPlace (length (map g ys))
few_mapped g ys few = subst IsPlace (sym (length-map ys g)) few

-- ---- rules

rule_again : (name : RuleName) → rule_of (rule_name name) ≡ Some name
unfolding rule_of
rule_again P0 = refl
rule_again S1 = refl
rule_again S2 = refl
rule_again S3 = refl
rule_again S4 = refl
rule_again S5 = refl
rule_again S6 = refl
rule_again P1 = refl
rule_again P2 = refl
rule_again P3 = refl
rule_again P4 = refl
rule_again O1 = refl
rule_again O2 = refl
rule_again O3 = refl
rule_again O4 = refl
rule_again O5 = refl
rule_again O6 = refl
rule_again I2 = refl
rule_again I3 = refl
rule_again I4 = refl
rule_again I5 = refl
rule_again I6 = refl
rule_again I7 = refl

module _ (known : Known) (names : HasNames known) where
  -- ---- literals and items

  pub literal_again : (path : Path) (l : Lit) → IsLiteralOf known.net l → literal_at known path (literal_data known l) ≡ Ok l
  unfolding literal_at short_literal long_literal channel_and_colour queue_and_colour
  literal_again path (Stuck c) is = rw (names.channels c is) refl
  literal_again path (Dead c d) is = rw (names.channels c is.0, names.colours d is.1) refl
  literal_again path (Idle c d) is = rw (names.channels c is.0, names.colours d is.1) refl
  literal_again path (Full q) is = rw (names.queues q is) refl
  literal_again path (Has q d) is = rw (names.queues q is.0, names.colours d is.1) refl
  literal_again path (Lacks q d) is = rw (names.queues q is.0, names.colours d is.1) refl

  pub item_again : (path : Path) (i : Item) → IsItemOf known.net i → item_at known path (item_data known i) ≡ Ok i
  unfolding item_at short_item long_item queue_and_colour
  item_again path (item.Lemma k n) is = rw (place_again (place_of path 1) k is.0, number_again (place_of path 2) n is.1) refl
  item_again path (item.Cap q n) is = rw (names.queues q is.0, number_again (place_of path 2) n is.1) refl
  item_again path (item.Low q d n) is = rw (names.queues q is.0, names.colours d is.1, number_again (place_of path 3) n is.2) refl
  item_again path (item.Path l n) is = rw (literal_again (place_of path 1) l is.0, number_again (place_of path 2) n is.1) refl

  -- ---- steps

  split_again : (path : Path) (name : RuleName) (on : Lit) (via : Option ℕ) (kids : ℕ) → IsStepOf known.net (Split name on via kids)
      → node_at known path (step_data known (Split name on via kids)) ≡ Ok (Split name on via kids)
  unfolding node_at split_in split_plain split_via small_number_member literal_member only
  split_again path name on None kids is =
      rw (place_again (member_of path (codes "kids")) kids is.2, literal_again (member_of path (codes "on")) on is.0, rule_again name, is.1) refl
  split_again path name on (Some d) kids is =
      rw (place_again (member_of path (codes "kids")) kids is.2, literal_again (member_of path (codes "on")) on is.0, rule_again name, is.1.0, names.colours d is.1.1) refl

  sum_again : (path : Path) (items : List Item) → IsStepOf known.net (Sum items) → node_at known path (step_data known (Sum items)) ≡ Ok (Sum items)
  unfolding node_at sum_in sum_items items_member only
  sum_again path items is =
      rw (
        items_again (member_of path (codes "sum")) (map (item_data known) items) (few_mapped (item_data known) items is.0),
        each_again (IsItemOf known.net) (λ i x. item_at known (place_of (member_of path (codes "sum")) i) x) (item_data known) (λ i y p. item_again (place_of (member_of path (codes "sum")) i) y p) 0 items is.1,
      ) refl

  clash_again : (path : Path) (one : Lit) (other : Option Lit) → IsStepOf known.net (Clash one other) → node_at known path (step_data known (Clash one other)) ≡ Ok (Clash one other)
  unfolding node_at clash_in list_member only
  clash_again path one None is = rw (literal_again (place_of (member_of path (codes "clash")) 0) one is.0) refl
  clash_again path one (Some other) is =
      rw (literal_again (place_of (member_of path (codes "clash")) 0) one is.0, literal_again (place_of (member_of path (codes "clash")) 1) other is.1) refl

  pub step_again : (path : Path) (step : Step) → IsStepOf known.net step → node_at known path (step_data known step) ≡ Ok step
  unfolding node_at eager_in cite_in open_in small_number_member only
  step_again path (Split name on via kids) is = split_again path name on via kids is
  step_again path (Clash one other) is = clash_again path one other is
  step_again path (Eager c) is = rw (names.channels c is) refl
  step_again path (Sum items) is = sum_again path items is
  step_again path (Cite place) is = rw (place_again (member_of path (codes "cite")) place is) refl
  step_again path Open is = refl
