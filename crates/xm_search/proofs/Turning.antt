-- One step of the search of a goal.
use Rattle.std.proofs.Common.{◌≡◌, ℕ, suc, ◌+◌, ◌≤◌, ◌<◌, List, [], ◌∷◌, ◌++◌, length, map, refl, sym, ◌∙◌, ap, subst, length-append, arith, inl, true, All}
use Rattle.std.proofs.lemmas.Bool.{or_left}
use Rattle.std.proofs.lemmas.List.{length-map}
use Rattle.std.proofs.lemmas.List.Elements.{All-append, All-map, All-push}
use Rattle.xm_design.specs.Designed.{Designed}
use Rattle.xm_flow.specs.ValidLemma.{Lemma}
use Rattle.xm_lits.specs.Inference.{inference_of}
use Rattle.xm_lits.specs.Paths.{are_same, is_on_path}
use Rattle.xm_lits.specs.declared.literal.Lit.{Lit}
use Rattle.xm_model.specs.ListView.{ListView}
use Rattle.xm_proof.specs.Argument.{Open, Split, Step, step_of}
use Rattle.xm_proof.specs.Tests.{longer}
use Rattle.xm_proof.specs.declared.proof.Node.{Node}
use Rattle.xm_search.proofs.Choices.{nothing_in}
use Rattle.xm_search.proofs.Growing.{ended, grown, halted_by_pivot, halted_by_split, opens, planted, stopped_steps}
use Rattle.xm_search.proofs.Looks.{same_lit, splits}
use Rattle.xm_search.specs.Candidate.{IsCandidate}
use Rattle.xm_search.specs.Inner.Choosing.{IsChoice}
use Rattle.xm_search.specs.Inner.Fitting.{FitsStep}
use Rattle.xm_search.specs.Inner.Goals.{IsGoalFound, IsTurned, SplitsOrStops, StopsAs}
use Rattle.xm_search.specs.Inner.Growing.{AllBegin, BeginsWith, Grows, IsGrown, IsUnderWay, Splits, pending, stacked, steps_of}
use Rattle.xm_search.specs.Inner.Looking.{EndsPath, IsCut, IsPoint}
use Rattle.xm_search.specs.Partial.{IsAtWork, IsUndecided}
use Rattle.xm_search.specs.Pivots.{IsWholeRun}
use Rattle.xm_search.specs.Trees.{HoldsGoal, left_by, root}
use Rattle.xm_search.specs.declared.choosing.Chosen.{Chosen}
use Rattle.xm_search.specs.declared.goal.GoalFound.{GoalFound}
use Rattle.xm_search.specs.declared.goal.GoalFound.TheVariants as found
use Rattle.xm_search.specs.declared.goal.Turned.{Turned}
use Rattle.xm_search.specs.declared.goal.Turned.TheVariants as turned
use Rattle.xm_search.specs.declared.growth.Growth.{Growth}
use Rattle.xm_search.specs.declared.found.Candidate.{Candidate}

longer_begin : (goal : Lit) (path : List Lit) (alternatives : List (List Lit)) → BeginsWith goal path → AllBegin goal (longer path alternatives)
longer_begin goal path [] b = tt
longer_begin goal path (a ∷ others) b = ((b.0 ++ a, ap (λ (l : List Lit). l ++ a) b.1), longer_begin goal path others b)

pub goal_on : (goal : Lit) (path : List Lit) → BeginsWith goal path → is_on_path path goal ≡ true
goal_on goal path b = subst (λ (l : List Lit). is_on_path l goal ≡ true) (sym b.1) (or_left (are_same goal goal) (is_on_path b.0 goal) (same_lit goal))

module _ (it : Designed) (lemmas : List Lemma) (before : List Lit) (goal : Lit) (budget : ℕ) where
  -- the new growth stands as it is told
  abbrev Stands : List Step → List (List Lit) → ℕ → ℕ → Type 0
  Stands steps paths n p = IsGrown it lemmas before goal budget steps paths n p

  moved : (steps steps_new : List Step) (paths paths_new : List (List Lit)) (n n_new p p_new : ℕ) → steps_new ≡ steps → paths_new ≡ paths → n_new ≡ n → p_new ≡ p →
      Stands steps paths n p → Stands steps_new paths_new n_new p_new
  moved steps steps_new paths paths_new n n_new p p_new a b c d g =
      subst (λ (l : List Step). Stands l paths_new n_new p_new) (sym a)
      (subst (λ (l : List (List Lit)). Stands steps l n_new p_new) (sym b)
      (subst (λ (k : ℕ). Stands steps paths k p_new) (sym c) (subst (λ (k : ℕ). Stands steps paths n k) (sym d) g)))

  one_more_done : (old new : Growth) (step : Step) → steps_of new ≡ steps_of old ++ step ∷ [] → length new.done.items ≡ suc (length old.done.items)
  one_more_done old new step is =
      let size = ap length is in let more = length-append (steps_of old) (step ∷ []) in
      let one = length-map new.done.items step_of in let two = length-map old.done.items step_of in omega arith

  module _ (old : Growth) (path : List Lit) (left : ℕ) (g : IsGrown it lemmas before goal budget (steps_of old) (path ∷ pending old) old.nodes old.pivots)
      (fits : old.nodes + old.pivots + left ≡ budget) where
    pub closed_on : (new : Growth) (step : Step) (n : ℕ) → EndsPath it lemmas before path step → IsWholeRun it lemmas path n → n ≤ left →
        Grows old step [] 0 n new → IsTurned it lemmas before goal budget (length old.done.items) (turned.On new)
    closed_on new step n ends run within grows =
        let made = grown it lemmas before goal budget (steps_of old) path (pending old) [] old.nodes old.pivots step n (old.nodes + 0) g ends.is ends.last ends.shut run tt ends.fits refl (omega arith) in (
          moved (steps_of old ++ step ∷ []) (steps_of new) (pending old) (pending new) (old.nodes + 0) new.nodes (old.pivots + n) new.pivots grows.steps grows.paths grows.node_count grows.pivot_count made,
          one_more_done old new step grows.steps,
        )

    pub split_on : (new : Growth) (c : Chosen) → IsUndecided it before path → IsChoice it path c → Splits old path c new →
        length c.rule.alternatives.items ≤ left → IsTurned it lemmas before goal budget (length old.done.items) (turned.On new)
    split_on new c undecided choice grows enough =
        let rule = inference_of c.rule in
        let kids = length c.rule.alternatives.items in
        let more = longer path rule.alternatives in
        let step = Split rule.name c.on rule.via kids in
        let whole : length rule.alternatives ≡ kids = length-map c.rule.alternatives.items (λ (a : ListView Lit). a.items) in
        let is = splits it lemmas before path c.on rule kids choice whole undecided in
        let out = ap (left_by path) choice.found in
        let size : length more ≡ length rule.alternatives = length-map rule.alternatives (λ (a : List Lit). path ++ a) in
        let made = grown it lemmas before goal budget (steps_of old) path (pending old) more old.nodes old.pivots step 0 (old.nodes + kids) g is out refl (inl refl)
        (longer_begin goal path rule.alternatives g.begin.0) tt (omega arith) (omega arith) in (
          moved (steps_of old ++ step ∷ []) (steps_of new) (more ++ pending old) (pending new) (old.nodes + kids) new.nodes (old.pivots + 0) new.pivots grows.steps grows.paths grows.node_count grows.pivot_count made,
          one_more_done old new step grows.steps,
        )

    -- the open leaves add up nothing
    stopped_fits : All FitsStep ((steps_of old ++ Open ∷ []) ++ map (λ _. Open) old.leaves.items)
    stopped_fits =
        All-append FitsStep (steps_of old ++ Open ∷ []) (map (λ _. Open) old.leaves.items) (All-push FitsStep (steps_of old) Open g.fits tt)
        (All-map FitsStep (λ _. Open) old.leaves.items (λ i d h. tt))

    stops_as : (tree : ListView Node) (nodes pivots n p m k : ℕ) → map step_of tree.items ≡ (steps_of old ++ Open ∷ []) ++ map (λ _. Open) old.leaves.items →
        nodes ≡ m → pivots ≡ k → m + k ≡ budget →
        IsAtWork it lemmas before (record { lit = goal; steps = steps_of old ++ Open ∷ opens (pending old) }) m k →
        IsGoalFound it lemmas before goal budget (found.Spent tree nodes pivots)
    stops_as tree nodes pivots n p m k steps is_m is_k all work = (
      subst (λ (l : List Step). IsAtWork it lemmas before (record { lit = goal; steps = l }) nodes pivots) (sym (steps ∙ stopped_steps (steps_of old) old.leaves.items))
          (subst (λ (x : ℕ). IsAtWork it lemmas before (record { lit = goal; steps = steps_of old ++ Open ∷ opens (pending old) }) x pivots) (sym is_m)
          (subst (λ (x : ℕ). IsAtWork it lemmas before (record { lit = goal; steps = steps_of old ++ Open ∷ opens (pending old) }) m x) (sym is_k) work)),
      omega arith,
      subst (All FitsStep) (sym steps) stopped_fits,
    )

    pub cut_on : (f : GoalFound) → IsCut it lemmas before path left → StopsAs old 0 left f → IsGoalFound it lemmas before goal budget f
    cut_on (found.Tree tree nodes pivots) cut stops = absurd stops
    cut_on (found.Open c) cut stops = absurd stops
    cut_on (found.Spent tree nodes pivots) cut stops =
        stops_as tree nodes pivots 0 0 old.nodes (old.pivots + left) stops.0 (let e = stops.1 in omega arith) stops.2 (omega arith)
        (halted_by_pivot it lemmas before goal budget (steps_of old) path (pending old) old.nodes old.pivots g left cut.undecided cut.needed)

    pub short_on : (f : GoalFound) (c : Chosen) → IsUndecided it before path → IsChoice it path c → left < length c.rule.alternatives.items → StopsAs old left 0 f →
        IsGoalFound it lemmas before goal budget f
    short_on (found.Tree tree nodes pivots) c undecided choice less stops = absurd stops
    short_on (found.Open d) c undecided choice less stops = absurd stops
    short_on (found.Spent tree nodes pivots) c undecided choice less stops =
        let rule = inference_of c.rule in
        let whole : length rule.alternatives ≡ length c.rule.alternatives.items = length-map c.rule.alternatives.items (λ (a : ListView Lit). a.items) in
        stops_as tree nodes pivots 0 0 (old.nodes + left) (old.pivots + 0) stops.0 stops.1 stops.2 (omega arith)
        (halted_by_split it lemmas before goal budget (steps_of old) path (pending old) old.nodes old.pivots g left c.on rule undecided choice (omega arith))

    pub splits_or_stops : (t : Turned) (c : Chosen) → IsUndecided it before path → IsChoice it path c → SplitsOrStops old path c left t →
        IsTurned it lemmas before goal budget (length old.done.items) t
    splits_or_stops (turned.On new) c undecided choice is = split_on new c undecided choice is.0 is.1
    splits_or_stops (turned.Found f) c undecided choice is = short_on f c undecided choice is.1 is.0

    pub point_on : (c : Candidate) → c.goal ≡ goal → c.lits.items ≡ path → IsPoint it lemmas before path c.denominator c.counts.items →
        IsGoalFound it lemmas before goal budget (found.Open c)
    point_on c same on point = (
      same,
      subst (λ (l : List Lit). IsCandidate it lemmas goal l c.denominator c.counts.items) (sym on)
          (record { holds_goal = goal_on goal path g.begin.0; consistent = point.consistent; answered = λ l rule here of. point.answered l here rule of; met = point.met }),
      subst (λ (l : List Lit). HoldsGoal before l → ⊥) (sym on) point.no_goal,
    )

  -- the root
  pub planted_on : (new : Growth) → 1 ≤ budget → new.done.items ≡ [] → pending new ≡ root goal → new.nodes ≡ 1 → new.pivots ≡ 0 → IsUnderWay it lemmas before goal budget new
  planted_on new enough none is one zero =
      moved [] (steps_of new) (root goal) (pending new) 1 new.nodes 0 new.pivots (ap (map step_of) none) is one zero (planted it lemmas before goal budget enough)

  -- nothing is open
  pub ended_on : (g : Growth) → length g.leaves.items ≡ 0 → IsUnderWay it lemmas before goal budget g → IsGoalFound it lemmas before goal budget (found.Tree g.done g.nodes g.pivots)
  ended_on g none grown =
      let empty : pending g ≡ [] = ap (λ (l : List (ListView Lit)). stacked l []) (nothing_in g.leaves.items none) in
      (ended it lemmas before goal budget (steps_of g) g.nodes g.pivots (subst (λ (l : List (List Lit)). Stands (steps_of g) l g.nodes g.pivots) empty grown), grown.within, grown.fits)
