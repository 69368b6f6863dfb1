-- Trees refute their goals, and goals one after another are a proof.
use Rattle.std.proofs.Common.{◌≡◌, ℕ, suc, zero, ◌+◌, ◌≤◌, ◌<◌, List, [], ◌∷◌, ◌++◌, Some, length, map, take, get_or, refl, sym, ◌∙◌, ap, subst, append_assoc, length-append, arith, inl, slice_get}
use Rattle.std.proofs.lemmas.List.{append-nil, length-map, length-take, take_more}
use Rattle.std.proofs.Math.Seq.{take-length}
use Rattle.std.proofs.lemmas.List.Elements.{All-cons, All-head, All-nil, All-push, All-tail, All-take, All-weaker}
use Rattle.std.proofs.lemmas.Option.{slice_get_read}
use Rattle.std.specs.Prelude.{◌^◌, ◌-◌, All, true}
use Rattle.xm_design.specs.Designed.{Designed, IsDesigned}
use Rattle.xm_flow.specs.ValidLemma.{Lemma}
use Rattle.xm_lits.specs.declared.literal.Lit.{Lit}
use Rattle.xm_model.specs.Membership.{IsIn}
use Rattle.xm_proof.specs.Argument.{Cite, Clash, Eager, Open, Refutation, Split, Step, Sum, literals, refutation_of, step_of}
use Rattle.xm_proof.specs.Form.{are_trees, kids_of}
use Rattle.xm_proof.specs.OfNet.{IsLiteralOf}
use Rattle.xm_proof.specs.Valid.{AllRefuted, AreLemmas, GoalsRefuted, IsProof, Refutes}
use Rattle.xm_proof.specs.declared.proof.Node.{Node}
use Rattle.xm_rows.specs.Row.{SparseRow}
use Rattle.xm_search.proofs.Orders.{order_complete, order_goals}
use Rattle.xm_search.proofs.TreesOfNet.{AreBelow, goal_of_net, goals_of_net, kid_count}
use Rattle.xm_search.specs.Candidate.{IsCandidate}
use Rattle.xm_search.specs.GoalOrder.{IsGoalOrder}
use Rattle.xm_search.specs.Inner.Fitting.{FitsStep}
use Rattle.xm_search.specs.Inner.Goals.{IsFaultOn, IsGoalFound, tree_for}
use Rattle.xm_search.specs.Inner.Progress.{Adds, FitsFound, FitsTrees, IsHalted, IsNext, IsProgress, TakesIn, refutations}
use Rattle.xm_search.specs.Partial.{AreFinished, ArePaid, IsAtWork, IsPaidTree, IsPartial, all_nodes, for_root, no_root, none, one_more, some_kids}
use Rattle.xm_search.specs.Pivots.{all_whole}
use Rattle.xm_search.specs.Searched.{IsFault, IsFull, IsOfForm, IsOpen, IsSpent}
use Rattle.xm_search.specs.Trees.{AreTrees, IsStep, kids, open_at, open_paths, root}
use Rattle.xm_search.specs.declared.found.Candidate.{Candidate}
use Rattle.xm_search.specs.declared.found.SearchFault.{SearchFault}
use Rattle.xm_search.specs.declared.found.SearchFault.TheVariants as fault
use Rattle.xm_search.specs.declared.goal.GoalFound.{GoalFound}
use Rattle.xm_search.specs.declared.goal.GoalFound.TheVariants as found
use Rattle.xm_search.specs.declared.searching.Next.{Next}
use Rattle.xm_search.specs.declared.searching.Next.TheVariants as next
use Rattle.xm_search.specs.declared.searching.Progress.{Progress}

both_nothing : {X : Type 0} (xs ys : List X) → xs ++ ys ≡ [] → (xs ≡ []) × (ys ≡ [])
both_nothing [] ys h = (refl, h)
both_nothing (x ∷ xs) ys h = absurd (cc)

step_refutes : (it : Designed) (lemmas : List Lemma) (before path : List Lit) (s : Step) → IsStep it lemmas before path s → open_at path s ≡ [] → Refutes it lemmas before path s (kids it path s)
step_refutes it lemmas before path (Split name on via count) is shut = is.0
step_refutes it lemmas before path (Clash one other) is shut = is
step_refutes it lemmas before path (Eager c) is shut = is
step_refutes it lemmas before path (Sum items) is shut = is
step_refutes it lemmas before path (Cite k) is shut = is
step_refutes it lemmas before path Open is shut = absurd (cc)

trees_refute : (it : Designed) (lemmas : List Lemma) (before : List Lit) (steps : List Step) (paths : List (List Lit)) →
    AreTrees it lemmas before steps paths → open_paths it steps paths ≡ [] → AllRefuted it lemmas before steps paths
trees_refute it lemmas before [] [] are shut = tt
trees_refute it lemmas before [] (p ∷ ps) are shut = absurd are
trees_refute it lemmas before (s ∷ steps) [] are shut = absurd are
trees_refute it lemmas before (s ∷ steps) (p ∷ ps) are shut =
    let more = kids it p s in
    let both = both_nothing (open_at p s) (open_paths it steps (more ++ ps)) shut in
    (more, (step_refutes it lemmas before p s are.0 both.0, trees_refute it lemmas before steps (more ++ ps) are.1 both.1))

refuted_more : (it : Designed) (lemmas : List Lemma) (before : List Lit) (gs : List Refutation) (g : Refutation) → GoalsRefuted it lemmas before gs →
    AllRefuted it lemmas (before ++ literals gs) g.steps ((g.lit ∷ []) ∷ []) → GoalsRefuted it lemmas before (gs ++ g ∷ [])
refuted_more it lemmas before [] g are new = (subst (λ (l : List Lit). AllRefuted it lemmas l g.steps ((g.lit ∷ []) ∷ [])) (append-nil before) new, tt)
refuted_more it lemmas before (h ∷ gs) g are new = (
  are.0,
  refuted_more it lemmas (before ++ h.lit ∷ []) gs g are.1
      (subst (λ (l : List Lit). AllRefuted it lemmas l g.steps ((g.lit ∷ []) ∷ [])) (sym (append_assoc before (h.lit ∷ []) (literals gs))) new),
)

pub finished_refuted : (it : Designed) (lemmas : List Lemma) (gs : List Refutation) (n p : ℕ) → AreFinished it lemmas gs n p → GoalsRefuted it lemmas [] gs
finished_refuted it lemmas _ _ _ (none) = tt
finished_refuted it lemmas _ _ _ (one_more gs g n m p r are tree) =
    refuted_more it lemmas [] gs g (finished_refuted it lemmas gs n p are) (trees_refute it lemmas (literals gs) g.steps (root g.lit) tree.tree.tree tree.tree.closed)

literals_more : (gs : List Refutation) (g : Refutation) → literals (gs ++ g ∷ []) ≡ literals gs ++ g.lit ∷ []
literals_more [] g = refl
literals_more (h ∷ gs) g = ap (λ (l : List Lit). h.lit ∷ l) (literals_more gs g)

-- the goals in order, all refuted
pub whole_proof : (it : Designed) → IsDesigned it → (lemmas : List Lemma) (order : List Lit) (gs : List Refutation) (n p : ℕ) → IsGoalOrder it order →
    literals gs ≡ order → AreFinished it lemmas gs n p → (rows : List SparseRow) → AreLemmas it rows lemmas → IsProof it rows (record { lemmas = lemmas; goals = gs })
whole_proof it is lemmas order gs n p ordered same are rows valid =
    let o : IsGoalOrder it (literals gs) = subst (IsGoalOrder it) (sym same) ordered in
    record { lemmas = valid; goals = order_goals it is (literals gs) o; complete = order_complete it (literals gs) o; refuted = finished_refuted it lemmas gs n p are }

module _ (it : Designed) (lemmas : List Lemma) (order : List Lit) (budget place : ℕ) (old new : Progress) (lit : Lit) (tree : List Node) (nodes pivots : ℕ)
    (g : IsProgress it lemmas order budget place old) (there : place < length order) (is : lit ≡ get_or order place lit) (adds : Adds old lit tree nodes pivots new) where
  first_new : literals (refutations new) ≡ take (place + 1) order
  first_new =
      ap literals adds.goals ∙ literals_more (refutations old) (tree_for lit tree) ∙ ap (λ (l : List Lit). l ++ lit ∷ []) g.first
      ∙ ap (λ (x : Lit). take place order ++ x ∷ []) is ∙ sym (take_more order place lit there)

  fits_new : All FitsStep (map step_of tree) → FitsTrees (refutations old) → FitsTrees (refutations new)
  fits_new small known = subst FitsTrees (sym adds.goals) (All-push (λ (h : Refutation). All FitsStep h.steps) (refutations old) (tree_for lit tree) known small)

  pub tree_next : IsPaidTree it lemmas (take place order) (tree_for lit tree) nodes pivots → nodes + pivots ≤ budget - old.nodes - old.pivots → All FitsStep (map step_of tree) →
      IsProgress it lemmas order budget (place + 1) new
  tree_next paid fits small =
      let known = g.within in
      record {
        finished = subst (λ (l : List Refutation). AreFinished it lemmas l new.nodes new.pivots) (sym adds.goals)
            (subst (λ (k : ℕ). AreFinished it lemmas (refutations old ++ tree_for lit tree ∷ []) k new.pivots) (sym adds.node_count)
            (subst (λ (k : ℕ). AreFinished it lemmas (refutations old ++ tree_for lit tree ∷ []) (old.nodes + nodes) k) (sym adds.pivot_count)
            (one_more (refutations old) (tree_for lit tree) old.nodes nodes old.pivots pivots g.finished
            (subst (λ (l : List Lit). IsPaidTree it lemmas l (tree_for lit tree) nodes pivots) (sym g.first) paid))));
        first = first_new;
        within = let a = adds.node_count in let b = adds.pivot_count in omega arith;
        fits = fits_new small g.fits;
      }

  count_new : length (refutations new) ≡ place + 1
  count_new =
      let lits = length-map (refutations new) (λ (r : Refutation). r.lit) in let first = ap length first_new in
      let taken = length-take (place + 1) order in omega arith

  pub spent_next : IsAtWork it lemmas (take place order) (tree_for lit tree) nodes pivots → nodes + pivots ≡ budget - old.nodes - old.pivots → All FitsStep (map step_of tree) →
      IsHalted it lemmas order budget new
  spent_next work fits small =
      let known = g.within in
      record {
        partial = record {
          finished = refutations old;
          last = tree_for lit tree;
          goals = adds.goals;
          first = first_new ∙ ap (λ (k : ℕ). take k order) (sym count_new);
          done_nodes = old.nodes;
          done_pivots = old.pivots;
          done = g.finished;
          more_nodes = nodes;
          more_pivots = pivots;
          at_work = subst (λ (l : List Lit). IsAtWork it lemmas l (tree_for lit tree) nodes pivots) (sym g.first) work;
          node_count = adds.node_count;
          pivot_count = adds.pivot_count;
        };
        spent = let a = adds.node_count in let b = adds.pivot_count in omega arith;
        fits = fits_new small g.fits;
      }

none_paid : (it : Designed) (lemmas : List Lemma) (gs : List Refutation) (n p : ℕ) → AreFinished it lemmas gs n p → length gs ≡ 0 → (n ≡ 0) × (p ≡ 0)
none_paid it lemmas _ _ _ (none) size = (refl, refl)
none_paid it lemmas _ _ _ (one_more gs g n m p r are tree) size = absurd (let k = length-append gs (g ∷ []) in omega arith)

-- a root that is not paid
pub unpaid_root : (it : Designed) (lemmas : List Lemma) (before : List Lit) (lit : Lit) (tree : List Node) → 0 < length before → map step_of tree ≡ Open ∷ [] → IsAtWork it lemmas before (tree_for lit tree) 0 0
unpaid_root it lemmas before lit tree some is =
    subst (λ (l : List Step). IsAtWork it lemmas before (record { lit = lit; steps = l }) 0 0) (sym is)
    (record {
      tree = record { tree = (tt, tt); opens = λ none. (let bad : (lit ∷ []) ∷ [] ≡ [] = none in cc) };
      runs = record { path = lit ∷ []; pivots = 0 } ∷ [];
      paths = refl;
      made = all_whole (record { path = lit ∷ []; pivots = 0 } ∷ []) (inl refl, tt);
      pivot_count = refl;
      paid = no_root some refl;
      needs = for_root refl;
    })

-- where the budget is spent before a goal, some goal stands before it
pub some_before : (it : Designed) (lemmas : List Lemma) (order : List Lit) (budget place : ℕ) (g : Progress) → IsProgress it lemmas order budget place g → 1 ≤ budget →
    budget ≤ g.nodes + g.pivots → place < length order → 0 < length (take place order)
some_before it lemmas order budget zero g is enough spent there =
    absurd (let lits = length-map (refutations g) (λ (r : Refutation). r.lit) in let first = ap length is.first in
    let zeros = none_paid it lemmas (refutations g) g.nodes g.pivots is.finished (omega arith) in let a = zeros.0 in let b = zeros.1 in omega arith)
some_before it lemmas order budget (suc place) g is enough spent there = let k = length-take (suc place) order in omega arith

-- what is found for a goal fits 64 bits, and is taken in
module _ (it : Designed) (lemmas : List Lemma) (order : List Lit) (budget place : ℕ) (old : Progress) (lit : Lit) (g : IsProgress it lemmas order budget place old)
    (there : place < length order) (is : lit ≡ get_or order place lit) (small : budget < 2 ^ 64) where
  pub fits_found : (f : GoalFound) → IsGoalFound it lemmas (take place order) lit (budget - old.nodes - old.pivots) f → FitsFound old f
  fits_found (found.Tree tree nodes pivots) right = let known = g.within in let more = right.1 in (omega arith, omega arith)
  fits_found (found.Open c) right = tt
  fits_found (found.Spent tree nodes pivots) right = let known = g.within in let more = right.1 in (omega arith, omega arith)

  pub took : (f : GoalFound) (n : Next) → IsGoalOrder it order → IsGoalFound it lemmas (take place order) lit (budget - old.nodes - old.pivots) f → TakesIn old lit f n →
      IsNext it lemmas order budget place n
  took (found.Tree tree nodes pivots) (next.On new) ordered right taken = tree_next it lemmas order budget place old new lit tree.items nodes pivots g there is taken right.0 right.1 right.2
  took (found.Open c) (next.Open d) ordered right taken =
      let size : length (refutations old) ≡ place = (let lits = length-map (refutations old) (λ (r : Refutation). r.lit) in let first = ap length g.first in let taken = length-take place order in omega arith) in
      subst (λ (x : Candidate). IsOpen it lemmas x.goal x.lits.items x.denominator x.counts.items) taken
      (record {
        order = order;
        is_order = ordered;
        before = refutations old;
        first = g.first ∙ ap (λ (k : ℕ). take k order) (sym size);
        next = ap (slice_get order) size ∙ slice_get_read order (length order) place lit refl there is ∙ ap (λ (l : Lit). Some l) (sym right.0);
        refuted = finished_refuted it lemmas (refutations old) old.nodes old.pivots g.finished;
        candidate = subst (λ (l : Lit). IsCandidate it lemmas l c.lits.items c.denominator c.counts.items) (sym right.0) right.1;
      })
  took (found.Spent tree nodes pivots) (next.Spent new) ordered right taken = spent_next it lemmas order budget place old new lit tree.items nodes pivots g there is taken right.0 right.1 right.2
  took (found.Tree tree nodes pivots) (next.Open d) ordered right taken = absurd taken
  took (found.Tree tree nodes pivots) (next.Spent d) ordered right taken = absurd taken
  took (found.Open c) (next.On d) ordered right taken = absurd taken
  took (found.Open c) (next.Spent d) ordered right taken = absurd taken
  took (found.Spent tree nodes pivots) (next.On d) ordered right taken = absurd taken
  took (found.Spent tree nodes pivots) (next.Open d) ordered right taken = absurd taken

-- an open root adds up nothing
pub root_fits : (tree : List Node) → map step_of tree ≡ Open ∷ [] → All FitsStep (map step_of tree)
root_fits tree is = subst (All FitsStep) (sym is) (All-cons FitsStep Open [] tt (All-nil FitsStep))

-- 128 bits are left on a path that a goal of the order begins
pub fault_in : (it : Designed) (lemmas : List Lemma) (order : List Lit) (lit : Lit) (f : SearchFault) → IsGoalOrder it order → IsIn order lit → IsFaultOn it lemmas lit f → IsFault it lemmas f
fault_in it lemmas order lit (fault.Overflow path pivots) ordered in_order is = record {
  order = order;
  is_order = ordered;
  goal = lit;
  is_goal = in_order;
  later = is.0.0;
  path_is = is.0.1;
  left = is.1.0;
  overflows = is.1.1;
}
fault_in it lemmas order lit fault.OutOfMemory ordered in_order is = tt

-- the steps are as many trees as there are paths
trees_form : (it : Designed) (lemmas : List Lemma) (before : List Lit) (steps : List Step) (paths : List (List Lit)) → AreTrees it lemmas before steps paths → are_trees (length paths) steps ≡ true
trees_form it lemmas before [] [] are = refl
trees_form it lemmas before [] (p ∷ ps) are = absurd are
trees_form it lemmas before (s ∷ steps) [] are = absurd are
trees_form it lemmas before (s ∷ steps) (p ∷ ps) are =
    let size : length (kids it p s ++ ps) ≡ kids_of s + length ps = length-append (kids it p s) ps ∙ ap (λ (k : ℕ). k + length ps) (kid_count it lemmas before p s are.0) in
    ap (λ (k : ℕ). are_trees k steps) (sym size) ∙ trees_form it lemmas before steps (kids it p s ++ ps) are.1

-- a tree, with leaves that may be open, whose steps and earlier goals are numbered in 32 bits
record IsGrownTree (it : Designed) (lemmas : List Lemma) (g : Refutation) : Type 0 where
  pub before : List Lit
  pub few : length before < 2 ^ 32
  pub tree : AreTrees it lemmas before g.steps (root g.lit)
  pub short : length g.steps < 2 ^ 32

finished_grown : (it : Designed) (lemmas : List Lemma) (gs : List Refutation) (n p : ℕ) → AreFinished it lemmas gs n p → length gs < 2 ^ 32 → n < 2 ^ 32 → All (IsGrownTree it lemmas) gs
finished_grown it lemmas _ _ _ (none) few small = All-nil (IsGrownTree it lemmas)
finished_grown it lemmas _ _ _ (one_more gs g n m p r are tree) few small =
    let size = length-append gs (g ∷ []) in
    let lits = length-map gs (λ (h : Refutation). h.lit) in
    let steps = tree.node_count in
    All-push (IsGrownTree it lemmas) gs g (finished_grown it lemmas gs n p are (omega arith) (omega arith))
    (record { before = literals gs; few = omega arith; tree = tree.tree.tree; short = omega arith })

paid_short : (it : Designed) (before : List Lit) (steps : List Step) (leaves : List (List Lit)) (n : ℕ) → ArePaid it before steps leaves n → n < 2 ^ 32 → length steps < 2 ^ 32
paid_short it before steps leaves _ (all_nodes) small = small
paid_short it before steps leaves _ (no_root some is) small = subst (λ (l : List Step). length l < 2 ^ 32) (sym is) (omega arith)
paid_short it before steps leaves _ (some_kids more path rule on needs some less) small = omega arith

partial_grown : (it : Designed) (lemmas : List Lemma) (order : List Lit) (gs : List Refutation) (n p : ℕ) → IsPartial it lemmas order gs n p → length gs < 2 ^ 32 → n < 2 ^ 32 →
    All (IsGrownTree it lemmas) gs
partial_grown it lemmas order gs n p is few small =
    let size = ap length is.goals ∙ length-append is.finished (is.last ∷ []) in
    let lits = length-map is.finished (λ (h : Refutation). h.lit) in
    let count = is.node_count in
    subst (All (IsGrownTree it lemmas)) (sym is.goals)
    (All-push (IsGrownTree it lemmas) is.finished is.last (finished_grown it lemmas is.finished is.done_nodes is.done_pivots is.done (omega arith) (omega arith))
    (record {
      before = literals is.finished;
      few = omega arith;
      tree = is.at_work.tree.tree;
      short = paid_short it (literals is.finished) is.last.steps (open_paths it is.last.steps (root is.last.lit)) is.more_nodes is.at_work.paid (omega arith);
    }))

lits_each : (P : Lit → Type 0) (gs : List Refutation) → All P (literals gs) → All (λ (g : Refutation). P g.lit) gs
lits_each P [] all = All-nil (λ (g : Refutation). P g.lit)
lits_each P (g ∷ gs) all = All-cons (λ (h : Refutation). P h.lit) g gs (All-head P g.lit (literals gs) all) (lits_each P gs (All-tail P g.lit (literals gs) all))

module _ (it : Designed) (is : IsDesigned it) (below : AreBelow it) (lemmas : List Lemma) (order : List Lit) (few_lemmas : length lemmas < 4294967296) (ordered : IsGoalOrder it order)
    (few : length order < 4294967296) (budget : ℕ) (small : budget ≤ 10000000) where
  few_goals : (gs : List Refutation) (k : ℕ) → literals gs ≡ take k order → length gs < 2 ^ 32
  few_goals gs k first =
      let lits = length-map gs (λ (g : Refutation). g.lit) in let size = ap length first in let taken = length-take k order in
      omega arith

  -- trees whose goals are the first of the order, within bounds, are of the form that is read
  formed : (gs : List Refutation) (k : ℕ) → literals gs ≡ take k order → All (IsGrownTree it lemmas) gs → FitsTrees gs → IsOfForm it lemmas (record { lemmas = lemmas; goals = gs })
  formed gs k first grown fits =
      let goals : All (IsLiteralOf it.net) order = goals_of_net it below [] order (order_goals it is order ordered) in
      let lits : All (λ (g : Refutation). IsLiteralOf it.net g.lit) gs =
      lits_each (IsLiteralOf it.net) gs (subst (All (IsLiteralOf it.net)) (sym first) (All-take (IsLiteralOf it.net) k order goals)) in
      record {
        cites = refl;
        formed = record {
          few_lemmas = few_lemmas;
          few_goals = few_goals gs k first;
          short = All-weaker (IsGrownTree it lemmas) (λ (g : Refutation). length g.steps < 2 ^ 32) (λ g tree. tree.short) gs grown;
          trees = All-weaker (IsGrownTree it lemmas) (λ (g : Refutation). are_trees 1 g.steps ≡ true) (λ g tree. trees_form it lemmas tree.before g.steps (root g.lit) tree.tree) gs grown;
        };
        goals = λ i d h. (
            let tree = grown i d h in
            goal_of_net it is below lemmas few_lemmas tree.before tree.few (get_or gs i d) (lits i d h) tree.tree (fits i d h) tree.short);
      }

  -- all goals are refuted
  pub proved_all : (g : Progress) → IsProgress it lemmas order budget (length order) g → IsFull it lemmas budget (record { lemmas = lemmas; goals = refutations g })
  proved_all g done =
      let gs = refutations g in
      let within = done.within in
      let lits : literals gs ≡ order = done.first ∙ take-length order in
      record {
        form = formed gs (length order) done.first (finished_grown it lemmas gs g.nodes g.pivots done.finished (few_goals gs (length order) done.first) (omega arith)) done.fits;
        order = subst (IsGoalOrder it) (sym lits) ordered;
        paid = record { nodes = g.nodes; pivots = g.pivots; finished = done.finished; within = done.within };
        proof = λ rows valid. whole_proof it is lemmas order gs g.nodes g.pivots ordered lits done.finished rows valid;
      }

  -- the budget is spent
  pub halted_all : (g : Progress) → IsHalted it lemmas order budget g → IsSpent it lemmas budget (record { lemmas = lemmas; goals = refutations g }) g.nodes g.pivots
  halted_all g halt =
      let gs = refutations g in
      let part = halt.partial in
      let spent = halt.spent in
      record {
        form = formed gs (length gs) part.first (partial_grown it lemmas order gs g.nodes g.pivots part (few_goals gs (length gs) part.first) (omega arith)) halt.fits;
        order = order;
        is_order = ordered;
        partial = part;
        spent = halt.spent;
      }

take_none : (order : List Lit) → take 0 order ≡ []
take_none [] = refl
take_none (l ∷ ls) = refl

-- no goal is done with
pub started : (it : Designed) (lemmas : List Lemma) (order : List Lit) (budget : ℕ) (g : Progress) → g.goals.items ≡ [] → g.nodes ≡ 0 → g.pivots ≡ 0 → IsProgress it lemmas order budget 0 g
started it lemmas order budget g empty no_nodes no_pivots =
    let gs : refutations g ≡ [] = ap (map refutation_of) empty in
    record {
      finished = subst (λ (l : List Refutation). AreFinished it lemmas l g.nodes g.pivots) (sym gs)
          (subst (λ (k : ℕ). AreFinished it lemmas [] k g.pivots) (sym no_nodes) (subst (λ (k : ℕ). AreFinished it lemmas [] 0 k) (sym no_pivots) none));
      first = ap literals gs ∙ sym (take_none order);
      within = omega arith;
      fits = subst FitsTrees (sym gs) (All-nil (λ (h : Refutation). All FitsStep h.steps));
    }
