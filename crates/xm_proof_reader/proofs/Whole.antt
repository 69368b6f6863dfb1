-- Lemmas: what is known of a proof that was read.
use Rattle.std.proofs.Common.{◌≡◌, ◌<◌, ◌^◌, ℕ, suc, true, List, [], ◌∷◌, length, Option, Result, Ok, subst, All, ltb-true, arith}
use Rattle.std.specs.Prelude.{codes, nat_lt}
use Rattle.std.proofs.lemmas.List.Elements.{All-cons, All-nil, All-weaker}
use Rattle.serde_json.specs.Data.{Data}
use Rattle.serde_json.specs.Find.{as_object, get}
use Rattle.xm_flow.specs.ValidLemma.{Lemma}
use Rattle.xm_json.specs.Lemmas.StepFacts.{bound, checked, cons, each_length, passed}
use Rattle.xm_json.specs.Path.{Path, member_of, place_of}
use Rattle.xm_json.specs.Values.{list_at}
use Rattle.xm_model.specs.Steps.{demand, each_from}
use Rattle.xm_proof.specs.Argument.{Argument, Refutation, Step}
use Rattle.xm_proof.specs.Form.{IsFormed, are_trees}
use Rattle.xm_proof_reader.specs.Known.{Known}
use Rattle.xm_proof_reader.specs.Reading.{goal_at, goals_in, items_at, items_member, lemma_at, lemmas_in, literal_member, node_at, object_in, proof, proof_in, steps_in, tree_in}

-- ---- lists of fewer than 2^32 items

few_at : (path : Path) (d : Data) (items : List Data) → items_at path d ≡ Ok items → length items < 2 ^ 32
unfolding items_at
few_at path d items is =
    let l = bound (list_at path d) _ items is in
    let t = passed _ (Ok l.0) items l.2 in
    let same : l.0 ≡ items = cc (t.1) in
    subst (λ (xs : List Data). length xs < 2 ^ 32) same (ltb-true _ _ (checked (nat_lt (length l.0) (2 ^ 32)) path t.0))

few_member : (path : Path) (k : List ℕ) (d : Data) (items : List Data) → items_member path k d ≡ Ok items → length items < 2 ^ 32
unfolding items_member
few_member path k d items is = let v = bound (demand (get k d) (member_of path k)) _ items is in few_at (member_of path k) v.0 items v.2

-- a list that was read of such a list
few_read : {B : Type 0} (f : ℕ → Data → Result B Path) (path : Path) (k : List ℕ) (d : Data) (xs : List Data) (ys : List B)
    → items_member path k d ≡ Ok xs → each_from f 0 xs ≡ Ok ys → length ys < 2 ^ 32
few_read f path k d xs ys are is = let few = few_member path k d xs are in let same = each_length f 0 xs ys is in omega arith

-- what is known of each item that was read
all_read : {B : Type 0} (P : B → Type 0) (f : ℕ → Data → Result B Path) → ((i : ℕ) (d : Data) (y : B) → f i d ≡ Ok y → P y)
    → (i : ℕ) (xs : List Data) (ys : List B) → each_from f i xs ≡ Ok ys → All P ys
all_read P f one i [] ys is = let none : [] ≡ ys = cc in subst (All P) none (All-nil P)
all_read P f one i (x ∷ xs) ys is =
    let c = cons f i x xs ys is in
    subst (All P) c.same (All-cons P c.first c.others (one i x c.first c.is_first) (all_read P f one (suc i) xs c.others c.are_others))

-- ---- goals

record IsTree (steps : List Step) : Type 0 where
  short : length steps < 2 ^ 32
  tree : are_trees 1 steps ≡ true

steps_read : (known : Known) (path : Path) (d : Data) (steps : List Step) → steps_in known path d ≡ Ok steps → length steps < 2 ^ 32
unfolding steps_in
steps_read known path d steps is =
    let v = bound (items_member path (codes "tree") d) _ steps is in
    few_read (λ i x. node_at known (place_of (member_of path (codes "tree")) i) x) path (codes "tree") d v.0 steps v.1 v.2

tree_read : (known : Known) (path : Path) (d : Data) (steps : List Step) → tree_in known path d ≡ Ok steps → IsTree steps
unfolding tree_in
tree_read known path d steps is =
    let s = bound (steps_in known path d) _ steps is in
    let t = passed _ (Ok s.0) steps s.2 in
    let same : s.0 ≡ steps = cc (t.1) in
    subst IsTree same (record { short = steps_read known path d s.0 s.1; tree = checked (are_trees 1 s.0) (member_of path (codes "tree")) t.0 })

goal_read : (known : Known) (path : Path) (d : Data) (g : Refutation) → goal_at known path d ≡ Ok g → IsTree g.steps
unfolding goal_at
goal_read known path d g is =
    let o = bound (demand (as_object d) path) _ g is in
    let l = bound (literal_member known path (codes "goal") d) _ g o.2 in
    let t = bound (tree_in known path d) _ g l.2 in
    let rest = passed _ (Ok (record { lit = l.0; steps = t.0 })) g t.2 in
    let same : t.0 ≡ g.steps = cc (rest.1) in
    subst IsTree same (tree_read known path d t.0 t.1)

record AreGoals (gs : List Refutation) : Type 0 where
  few : length gs < 2 ^ 32
  trees : All (λ (g : Refutation). IsTree g.steps) gs

goals_read : (known : Known) (d : Data) (gs : List Refutation) → goals_in known d ≡ Ok gs → AreGoals gs
unfolding goals_in
goals_read known d gs is =
    let v = bound (items_member proof (codes "goals") d) _ gs is in
    record {
      few = few_read (λ i x. goal_at known (place_of (member_of proof (codes "goals")) i) x) proof (codes "goals") d v.0 gs v.1 v.2;
      trees = all_read (λ (g : Refutation). IsTree g.steps) (λ i x. goal_at known (place_of (member_of proof (codes "goals")) i) x)
          (λ i x g. goal_read known (place_of (member_of proof (codes "goals")) i) x g) 0 v.0 gs v.2;
    }

-- ---- lemmas, and the proof

lemmas_read : (known : Known) (d : Data) (ls : List Lemma) → lemmas_in known d ≡ Ok ls → length ls < 2 ^ 32
unfolding lemmas_in
lemmas_read known d ls is =
    let v = bound (items_member proof (codes "lemmas") d) _ ls is in
    few_read (λ i x. lemma_at known (place_of (member_of proof (codes "lemmas")) i) x) proof (codes "lemmas") d v.0 ls v.1 v.2

object_read : (known : Known) (d : Data) (a : Argument) → object_in known d ≡ Ok a → IsFormed a
unfolding object_in
object_read known d a is =
    let l = bound (lemmas_in known d) _ a is in
    let g = bound (goals_in known d) _ a l.2 in
    let rest = passed _ (Ok (record { lemmas = l.0; goals = g.0 })) a g.2 in
    let same : record { lemmas = l.0; goals = g.0 } ≡ a = cc (rest.1) in
    let goals = goals_read known d g.0 g.1 in
    subst IsFormed same (record {
      few_lemmas = lemmas_read known d l.0 l.1;
      few_goals = goals.few;
      short = All-weaker (λ (x : Refutation). IsTree x.steps) (λ (x : Refutation). length x.steps < 2 ^ 32) (λ x is_tree. is_tree.short) g.0 goals.trees;
      trees = All-weaker (λ (x : Refutation). IsTree x.steps) (λ (x : Refutation). are_trees 1 x.steps ≡ true) (λ x is_tree. is_tree.tree) g.0 goals.trees;
    })

pub proof_read : (known : Known) (value : Option Data) (a : Argument) → proof_in known value ≡ Ok a → IsFormed a
unfolding proof_in
proof_read known value a is =
    let d = bound (demand value proof) _ a is in
    let o = bound (demand (as_object d.0) proof) _ a d.2 in
    object_read known d.0 a o.2
