-- A tree grows by one step, ends, or is stopped.
use Rattle.std.proofs.Common.{◌≡◌, ℕ, zero, suc, ◌-◌, Some, slice_get, take, drop, get_or, ◌+◌, ◌≤◌, ◌<◌, List, [], ◌∷◌, ◌++◌, length, map, refl, sym, ◌∙◌, ap, subst}
use Rattle.std.proofs.Common.{append_assoc, length-append, arith, inl, inr}
use Rattle.std.proofs.lemmas.List.{append-nil}
use Rattle.std.proofs.lemmas.List.Elements.{All-nil, All-push}
use Rattle.std.proofs.Math.Seq.{drop-cons}
use Rattle.std.specs.List.{remove}
use Rattle.xm_design.specs.Designed.{Designed}
use Rattle.xm_flow.specs.ValidLemma.{Lemma}
use Rattle.xm_lits.specs.Inference.{Inference, alternatives_of}
use Rattle.xm_lits.specs.declared.literal.Lit.{Lit}
use Rattle.xm_model.specs.ListView.{ListView}
use Rattle.xm_model.specs.Membership.{IsIn}
use Rattle.xm_proof.specs.Argument.{Open, Step}
use Rattle.xm_search.specs.Inner.Growing.{AllBegin, IsGrown, stacked}
use Rattle.xm_proof.specs.Tests.{longer}
use Rattle.xm_search.specs.Inner.Choosing.{IsChosen}
use Rattle.xm_search.specs.Inner.Fitting.{FitsStep}
use Rattle.xm_search.specs.Partial.{ArePaid, IsAtWork, IsPaidTree, IsUndecided, NeedsOne, NeedsSplit, all_nodes, for_pivot, for_split, paths_of, some_kids}
use Rattle.xm_search.specs.Pivots.{AreWhole, IsRun, IsWholeRun, NeedsPivot, Run, one_cut, total}
use Rattle.xm_search.specs.Trees.{AreTrees, IsStep, kids, open_at, open_paths, root, step_paths}

-- a pushed path comes next
pub stacked_push : (ps : List (ListView Lit)) (p : ListView Lit) (paths : List (List Lit)) → stacked (ps ++ p ∷ []) paths ≡ p.items ∷ stacked ps paths
stacked_push [] p paths = refl
stacked_push (q ∷ ps) p paths = stacked_push ps p (q.items ∷ paths)

pub stacked_onto : (ps : List (ListView Lit)) (paths : List (List Lit)) → stacked ps paths ≡ stacked ps [] ++ paths
stacked_onto [] paths = refl
stacked_onto (q ∷ ps) paths = stacked_onto ps (q.items ∷ paths) ∙ sym (append_assoc (stacked ps []) (q.items ∷ []) paths) ∙ ap (λ (l : List (List Lit)). l ++ paths) (sym (stacked_onto ps (q.items ∷ [])))

-- the last of a stack comes next
off : (ps : List (ListView Lit)) (p : ListView Lit) (n : ℕ) (paths : List (List Lit)) → length ps ≡ n + 1 → slice_get ps n ≡ Some p → stacked ps paths ≡ p.items ∷ stacked (take n ps ++ drop (suc n) ps) paths
off [] p n paths size at = absurd (omega arith)
off (q ∷ []) p zero paths size at = let e : q ≡ p = cc in ap (λ (x : ListView Lit). x.items ∷ paths) e
off (q ∷ r ∷ rs) p zero paths size at = absurd (omega arith)
off (q ∷ qs) p (suc n) paths size at = off qs p n (q.items ∷ paths) (omega arith) at

pub next_off : (ps qs : List (ListView Lit)) (p : ListView Lit) (count : ℕ) → count ≡ length ps → 0 < length ps → slice_get ps (count - 1) ≡ Some p → qs ≡ remove ps (count - 1) →
    stacked ps [] ≡ p.items ∷ stacked qs []
next_off ps qs p count is some at left =
    off ps p (count - 1) [] (omega arith) at ∙ ap (λ (l : List (ListView Lit)). p.items ∷ stacked l []) (sym left)

-- the path with one alternative more
pub kids_next : (path : List Lit) (alternatives : List (ListView Lit)) (i : ℕ) (old : List (List Lit)) (ps qs : List (ListView Lit)) (a kid : ListView Lit) →
    i < length alternatives → a ≡ get_or alternatives (length alternatives - 1 - i) a → kid.items ≡ path ++ a.items → qs ≡ ps ++ kid ∷ [] →
    stacked ps [] ≡ longer path (alternatives_of (drop (length alternatives - i) alternatives)) ++ old →
    stacked qs [] ≡ longer path (alternatives_of (drop (length alternatives - (i + 1)) alternatives)) ++ old
kids_next path alternatives i old ps qs a kid within is items pushed so_far =
    let j = length alternatives - (i + 1) in
    let below : j < length alternatives = omega arith in
    let place : length alternatives - 1 - i ≡ j = omega arith in
    let next : suc j ≡ length alternatives - i = omega arith in
    let there : a ≡ get_or alternatives j a = is ∙ ap (λ (n : ℕ). get_or alternatives n a) place in
    let split : drop j alternatives ≡ a ∷ drop (length alternatives - i) alternatives =
    drop-cons alternatives j a below ∙ ap (λ (x : ListView Lit). x ∷ drop (suc j) alternatives) (sym there) ∙ ap (λ (n : ℕ). a ∷ drop n alternatives) next in
    ap (λ (l : List (ListView Lit)). stacked l []) pushed ∙ stacked_push ps kid [] ∙ ap (λ (l : List (List Lit)). kid.items ∷ l) so_far
    ∙ ap (λ (x : List Lit). x ∷ longer path (alternatives_of (drop (length alternatives - i) alternatives)) ++ old) items
    ∙ ap (λ (l : List (ListView Lit)). longer path (alternatives_of l) ++ old) (sym split)

pub total_append : (rs ss : List Run) → total (rs ++ ss) ≡ total rs + total ss
total_append [] ss = omega arith
total_append (r ∷ rs) ss = let e = total_append rs ss in omega arith

pub whole_append : (it : Designed) (lemmas : List Lemma) (rs ss : List Run) → AreWhole it lemmas rs → AreWhole it lemmas ss → AreWhole it lemmas (rs ++ ss)
whole_append it lemmas [] ss a b = b
whole_append it lemmas (r ∷ rs) ss a b = (a.0, whole_append it lemmas rs ss a.1 b)

paths_append : (rs ss : List Run) → paths_of (rs ++ ss) ≡ paths_of rs ++ paths_of ss
paths_append [] ss = refl
paths_append (r ∷ rs) ss = ap (λ (l : List (List Lit)). r.path ∷ l) (paths_append rs ss)

pub begin_append : (goal : Lit) (ps qs : List (List Lit)) → AllBegin goal ps → AllBegin goal qs → AllBegin goal (ps ++ qs)
begin_append goal [] qs a b = b
begin_append goal (p ∷ ps) qs a b = (a.0, begin_append goal ps qs a.1 b)

module _ (it : Designed) (lemmas : List Lemma) (before : List Lit) (goal : Lit) where
  -- the root alone
  pub planted : (budget : ℕ) → 1 ≤ budget → IsGrown it lemmas before goal budget [] (root goal) 1 0
  planted budget enough = record {
    trees = λ rest are. are;
    leaves = λ rest. refl;
    runs = [];
    ran = λ rest. refl;
    whole = tt;
    begin = (([], refl), tt);
    fits = All-nil FitsStep;
    node_count = refl;
    pivot_count = refl;
    within = omega arith;
  }

  -- a step on the next path
  pub grown : (budget : ℕ) (steps : List Step) (path : List Lit) (paths more : List (List Lit)) (nodes pivots : ℕ) (step : Step) (n after : ℕ) →
      IsGrown it lemmas before goal budget steps (path ∷ paths) nodes pivots → IsStep it lemmas before path step →
      kids it path step ≡ more → open_at path step ≡ [] → IsWholeRun it lemmas path n → AllBegin goal more → FitsStep step →
      after ≡ nodes + length more → after + (pivots + n) ≤ budget →
      IsGrown it lemmas before goal budget (steps ++ step ∷ []) (more ++ paths) after (pivots + n)
  grown budget steps path paths more nodes pivots step n after g is left shut run begin small count fits =
      let on : (rest : List Step) → (steps ++ step ∷ []) ++ rest ≡ steps ++ step ∷ rest = λ rest. append_assoc steps (step ∷ []) rest in
      let new : List Run = record { path = path; pivots = n } ∷ [] in
      record {
        trees = λ rest are. subst (λ (l : List Step). AreTrees it lemmas before l (root goal)) (sym (on rest))
            (g.trees (step ∷ rest) (is, subst (λ (l : List (List Lit)). AreTrees it lemmas before rest (l ++ paths)) (sym left) are));
        leaves = λ rest. ap (λ (l : List Step). open_paths it l (root goal)) (on rest) ∙ g.leaves (step ∷ rest)
            ∙ ap (λ (l : List (List Lit)). l ++ open_paths it rest (kids it path step ++ paths)) shut
            ∙ ap (λ (l : List (List Lit)). open_paths it rest (l ++ paths)) left;
        runs = g.runs ++ new;
        ran = λ rest. ap (λ (l : List Step). step_paths it l (root goal)) (on rest) ∙ g.ran (step ∷ rest)
            ∙ ap (λ (l : List (List Lit)). paths_of g.runs ++ path ∷ step_paths it rest (l ++ paths)) left
            ∙ sym (append_assoc (paths_of g.runs) (path ∷ []) (step_paths it rest (more ++ paths)))
            ∙ ap (λ (l : List (List Lit)). l ++ step_paths it rest (more ++ paths)) (sym (paths_append g.runs new));
        whole = whole_append it lemmas g.runs new g.whole (run, tt);
        begin = begin_append goal more paths begin g.begin.1;
        fits = All-push FitsStep steps step g.fits small;
        node_count =
            let now = g.node_count in let one = length-append steps (step ∷ []) in let two = length-append more paths in
            omega arith;
        pivot_count = let now = g.pivot_count in let sum = total_append g.runs new in omega arith;
        within = fits;
      }

  -- nothing is open
  pub ended : (budget : ℕ) (steps : List Step) (nodes pivots : ℕ) → IsGrown it lemmas before goal budget steps [] nodes pivots →
      IsPaidTree it lemmas before (record { lit = goal; steps = steps }) nodes pivots
  ended budget steps nodes pivots g =
      let all = append-nil steps in
      record {
        tree = record {
          tree = subst (λ (l : List Step). AreTrees it lemmas before l (root goal)) all (g.trees [] tt);
          closed = ap (λ (l : List Step). open_paths it l (root goal)) (sym all) ∙ g.leaves [];
        };
        node_count = let now = g.node_count in omega arith;
        runs = g.runs;
        paths = sym (append-nil (paths_of g.runs)) ∙ sym (g.ran []) ∙ ap (λ (l : List Step). step_paths it l (root goal)) all;
        whole = g.whole;
        pivot_count = g.pivot_count;
      }

-- one open step for each path
abbrev pub opens : List (List Lit) → List Step
opens [] = []
opens (p ∷ ps) = Open ∷ opens ps

opens_on : (ps : List (ListView Lit)) (steps : List Step) → map (λ _. Open) ps ++ Open ∷ steps ≡ Open ∷ map (λ _. Open) ps ++ steps
opens_on [] steps = refl
opens_on (p ∷ ps) steps = ap (λ (l : List Step). Open ∷ l) (opens_on ps steps)

opens_stacked : (ps : List (ListView Lit)) (paths : List (List Lit)) → opens (stacked ps paths) ≡ map (λ _. Open) ps ++ opens paths
opens_stacked [] paths = refl
opens_stacked (p ∷ ps) paths = opens_stacked ps (p.items ∷ paths) ∙ opens_on ps (opens paths)

-- the nodes of a tree that is stopped
pub stopped_steps : (steps : List Step) (ps : List (ListView Lit)) → (steps ++ Open ∷ []) ++ map (λ _. Open) ps ≡ steps ++ Open ∷ opens (stacked ps [])
stopped_steps steps ps = append_assoc steps (Open ∷ []) (map (λ _. Open) ps)
    ∙ ap (λ (l : List Step). steps ++ Open ∷ l) (sym (append-nil (map (λ _. Open) ps)) ∙ sym (opens_stacked ps []))

opens_count : (ps : List (List Lit)) → length (opens ps) ≡ length ps
opens_count [] = refl
opens_count (p ∷ ps) = let e = opens_count ps in omega arith

opens_are : (it : Designed) (lemmas : List Lemma) (before : List Lit) (ps : List (List Lit)) → AreTrees it lemmas before (opens ps) ps
opens_are it lemmas before [] = tt
opens_are it lemmas before (p ∷ ps) = (tt, opens_are it lemmas before ps)

opens_leaves : (it : Designed) (ps : List (List Lit)) → open_paths it (opens ps) ps ≡ ps
opens_leaves it [] = refl
opens_leaves it (p ∷ ps) = ap (λ (l : List (List Lit)). p ∷ l) (opens_leaves it ps)

opens_paths : (it : Designed) (ps : List (List Lit)) → step_paths it (opens ps) ps ≡ ps
opens_paths it [] = refl
opens_paths it (p ∷ ps) = ap (λ (l : List (List Lit)). p ∷ l) (opens_paths it ps)

-- no pivots on any of the paths
abbrev unrun : List (List Lit) → List Run
unrun [] = []
unrun (p ∷ ps) = record { path = p; pivots = 0 } ∷ unrun ps

unrun_paths : (ps : List (List Lit)) → paths_of (unrun ps) ≡ ps
unrun_paths [] = refl
unrun_paths (p ∷ ps) = ap (λ (l : List (List Lit)). p ∷ l) (unrun_paths ps)

unrun_whole : (it : Designed) (lemmas : List Lemma) (ps : List (List Lit)) → AreWhole it lemmas (unrun ps)
unrun_whole it lemmas [] = tt
unrun_whole it lemmas (p ∷ ps) = (inl refl, unrun_whole it lemmas ps)

unrun_total : (ps : List (List Lit)) → total (unrun ps) ≡ 0
unrun_total [] = refl
unrun_total (p ∷ ps) = let e = unrun_total ps in omega arith

in_middle : {X : Type 0} (xs ys : List X) (x : X) → IsIn (xs ++ x ∷ ys) x
in_middle [] ys x = inl refl
in_middle (y ∷ xs) ys x = inr (in_middle xs ys x)

module _ (it : Designed) (lemmas : List Lemma) (before : List Lit) (goal : Lit) (budget : ℕ) (steps : List Step) (path : List Lit) (paths : List (List Lit)) (nodes pivots : ℕ) where
  -- the tree with an open leaf on each path that is left
  abbrev pub halted_steps : List Step
  halted_steps = steps ++ Open ∷ opens paths

  halted_count : IsGrown it lemmas before goal budget steps (path ∷ paths) nodes pivots → length halted_steps ≡ nodes
  halted_count g = let now = g.node_count in let one = length-append steps (Open ∷ opens paths) in let two = opens_count paths in omega arith

  -- stopped on the path, with so many pivots there
  halted : (g : IsGrown it lemmas before goal budget steps (path ∷ paths) nodes pivots) (n m : ℕ) → IsRun it lemmas path n →
      ArePaid it before halted_steps (path ∷ paths) m →
      NeedsOne it lemmas before halted_steps (path ∷ paths) (g.runs ++ record { path = path; pivots = n } ∷ unrun paths) m →
      IsAtWork it lemmas before (record { lit = goal; steps = halted_steps }) m (pivots + n)
  halted g n m run paid needs =
      let new : Run = record { path = path; pivots = n } in
      let runs : List Run = g.runs ++ new ∷ unrun paths in
      let leaves : open_paths it halted_steps (root goal) ≡ path ∷ paths = g.leaves (opens (path ∷ paths)) ∙ opens_leaves it (path ∷ paths) in
      record {
        tree = record {
          tree = g.trees (opens (path ∷ paths)) (opens_are it lemmas before (path ∷ paths));
          opens = λ none. (let bad : path ∷ paths ≡ [] = sym leaves ∙ none in cc);
        };
        runs = runs;
        paths = paths_append g.runs (new ∷ unrun paths) ∙ ap (λ (l : List (List Lit)). paths_of g.runs ++ path ∷ l) (unrun_paths paths)
            ∙ ap (λ (l : List (List Lit)). paths_of g.runs ++ l) (sym (opens_paths it (path ∷ paths))) ∙ sym (g.ran (opens (path ∷ paths)));
        made = one_cut g.runs (unrun paths) new g.whole run (unrun_whole it lemmas paths);
        pivot_count = let now = g.pivot_count in let one = total_append g.runs (new ∷ unrun paths) in let two = unrun_total paths in omega arith;
        paid = subst (λ (l : List (List Lit)). ArePaid it before halted_steps l m) (sym leaves) paid;
        needs = subst (λ (l : List (List Lit)). NeedsOne it lemmas before halted_steps l runs m) (sym leaves) needs;
      }

  -- a pivot more is needed than are left
  pub halted_by_pivot : IsGrown it lemmas before goal budget steps (path ∷ paths) nodes pivots → (left : ℕ) → IsUndecided it before path →
      NeedsPivot it lemmas path left → IsAtWork it lemmas before (record { lit = goal; steps = halted_steps }) nodes (pivots + left)
  halted_by_pivot g left undecided needed =
      halted g left nodes (inr (needed.tableau, needed.after))
      (subst (λ (k : ℕ). ArePaid it before halted_steps (path ∷ paths) k) (halted_count g) all_nodes)
      (for_pivot (record { path = path; pivots = left }) (in_middle g.runs (unrun paths) (record { path = path; pivots = left })) (inl refl) undecided needed)

  paid_with : IsGrown it lemmas before goal budget steps (path ∷ paths) nodes pivots → (left : ℕ) (rule : Inference) → NeedsSplit it path rule →
      left < length rule.alternatives → ArePaid it before halted_steps (path ∷ paths) (nodes + left)
  paid_with g zero rule needs less =
      let count = halted_count g in subst (λ (k : ℕ). ArePaid it before halted_steps (path ∷ paths) k) (omega arith) all_nodes
  paid_with g (suc left) rule needs less =
      let count = halted_count g in
      subst (λ (k : ℕ). ArePaid it before halted_steps (path ∷ paths) (k + suc left)) count (some_kids (suc left) path rule (inl refl) needs (omega arith) less)

  -- a rule has more alternatives than nodes are left
  pub halted_by_split : IsGrown it lemmas before goal budget steps (path ∷ paths) nodes pivots → (left : ℕ) (on : Lit) (rule : Inference) → IsUndecided it before path →
      IsChosen it path on rule → left < length rule.alternatives → IsAtWork it lemmas before (record { lit = goal; steps = halted_steps }) (nodes + left) (pivots + 0)
  halted_by_split g left on rule undecided chosen less =
      let needs : NeedsSplit it path rule = record { on = on; here = chosen.here; of = chosen.of; fresh = chosen.fresh } in
      halted g 0 (nodes + left) (inl refl) (paid_with g left rule needs less) (for_split path rule (inl refl) undecided needs)
