-- The steps of the walk.
use Rattle.std.proofs.Common.{◌≡◌, ◌≢◌, ℕ, suc, ◌+◌, ◌-◌, ◌*◌, ◌<◌, ◌≤◌, List, [], ◌∷◌, ◌++◌, Some, length, replicate, set, take, slice_get, get_or, refl, sym, ◌∙◌, ap, subst, inl, inr, arith, length-append}
use Rattle.std.proofs.lemmas.Bool.{cases_lt}
use Rattle.std.proofs.lemmas.List.{length-replicate, length-set, take_all, take_more}
use Rattle.std.proofs.lemmas.List.Folds.{sum_by-replicate}
use Rattle.std.proofs.lemmas.Option.{get_or_from_slice_get, slice_get-get_or, slice_get_within}
use Rattle.xm_model.specs.Lemmas.PortCounts.{counted}
use Rattle.xm_model.specs.Net.{IsNet, Network}
use Rattle.xm_order.proofs.Progressing.{advanced, holds_less, holds_more, holds_still, left_written, progress_new}
use Rattle.xm_order.specs.Lemmas.Items.{get-append_left, get-push_last, get-replicate, push_cases}
use Rattle.xm_order.proofs.Within.{listed_below}
use Rattle.xm_order.specs.Dependence.{Depends, IsOrder, channel_of}
use Rattle.xm_order.specs.Inner.Listed.{ListsAll}
use Rattle.xm_order.specs.Loop.{rank}
use Rattle.xm_order.specs.Inner.Path.{IsPath, LastNeeds}
use Rattle.xm_order.specs.Inner.Walk.{Advances, HoldsAt, HasProgress, IsWalkOver, all_left, steps_left}
use Rattle.xm_order.specs.declared.signal.Signal.{Signal}
use Rattle.xm_order.specs.declared.signal.Signal.TheVariants as signal
use Rattle.xm_order.specs.declared.walk.Progress.{Progress}
use Rattle.xm_order.specs.declared.walk.Progress.TheVariants.{Unseen, OnPath, Done}

rank_within : (n : ℕ) (σ : Signal) → channel_of σ < n → rank σ < 2 * n
rank_within n (signal.Offer c) h = omega arith
rank_within n (signal.Ready c) h = omega arith

channel_within : (n : ℕ) (σ : Signal) → rank σ < 2 * n → channel_of σ < n
channel_within n (signal.Offer c) h = omega arith
channel_within n (signal.Ready c) h = omega arith

pub last_needs : (net : Network) (path : List Signal) (last next : Signal) → slice_get path (length path - 1) ≡ Some last → Depends net last next → LastNeeds net path next
last_needs net path last next at d σ at_σ = let same : last ≡ σ = cc in subst (λ (x : Signal). Depends net x next) same d

-- a list is its front and its last
split_last : (xs : List Signal) (last : Signal) → slice_get xs (length xs - 1) ≡ Some last → xs ≡ take (length xs - 1) xs ++ last ∷ []
split_last xs last at =
    let inside = slice_get_within xs (length xs - 1) last at in
    let more = take_more xs (length xs - 1) last inside in
    let all : length xs - 1 + 1 ≡ length xs = omega arith in
    sym (take_all (length xs) xs (omega arith)) ∙ ap (λ n. take n xs) (sym all) ∙ more ∙ ap (λ (σ : Signal). take (length xs - 1) xs ++ σ ∷ []) (get_or_from_slice_get xs (length xs - 1) last last at)

-- before the first step
holds_none : (n : ℕ) (reached : Progress) → reached ≢ Unseen → HoldsAt (replicate n Unseen) reached []
holds_none n reached apart = record {
  each = λ k σ at. absurd cc;
  listed = λ σ h. absurd (apart (sym (get-replicate n Unseen reached (rank σ) h)));
  once = λ j k σ at_j at_k. absurd cc;
}

pub unmet_walk : (net : Network) (n : ℕ) → n ≡ 2 * net.channels → IsWalkOver net [] [] (replicate n Unseen)
unmet_walk net n e = record {
  whole = simp length-replicate e;
  is_done = holds_none n Done (λ same. absurd cc);
  on_path = holds_none n OnPath (λ same. absurd cc);
  after = λ k σ τ at d. absurd cc;
  next = λ k σ τ at_k at_next. absurd cc;
  short = let left = sum_by-replicate steps_left n Unseen in omega arith;
}

module _ (net : Network) (done path : List Signal) (progress : List Progress) (walk : IsWalkOver net done path progress) where
  pub in_progress : (σ : Signal) → channel_of σ < net.channels → rank σ < length progress
  in_progress σ h = rw walk.whole (rank_within net.channels σ h)

  pub channel_in : (σ : Signal) (reached : Progress) → HasProgress progress σ reached → channel_of σ < net.channels
  channel_in σ reached h = channel_within net.channels σ (let inside = slice_get_within progress (rank σ) reached h in omega (arith, walk.whole))

  pub is_path : IsPath net path
  is_path = record { distinct = walk.on_path.once; next = walk.next }

  -- the signals that a signal needs have their progress
  pub needs_in_progress : IsNet net → (σ : Signal) (places : List Signal) → ListsAll (Depends net σ) places → (k : ℕ) (τ : Signal) → slice_get places k ≡ Some τ → rank τ < length progress
  needs_in_progress is_net σ places lists k τ at = in_progress τ (listed_below net (counted net is_net) σ places lists k τ at)

  pub last_below : (last : Signal) → slice_get path (length path - 1) ≡ Some last → channel_of last < net.channels
  last_below last at = channel_in last OnPath (walk.on_path.each (length path - 1) last at)

  -- on to a signal that was not met
  pub entered : (σ : Signal) → HasProgress progress σ Unseen → LastNeeds net path σ → IsWalkOver net done (path ++ σ ∷ []) (set progress (rank σ) OnPath)
  entered σ was last = record {
    whole = length-set progress (rank σ) OnPath ∙ walk.whole;
    is_done = holds_still progress σ Unseen OnPath was Done done walk.is_done (λ same. absurd cc) (λ same. absurd cc);
    on_path = holds_more progress σ Unseen OnPath was OnPath path walk.on_path (λ same. absurd cc) refl;
    after = walk.after;
    next = next;
    short = let left = left_written progress σ Unseen OnPath was in let less = walk.short in simp length-append (omega arith);
  } where
    next : (k : ℕ) (ρ τ : Signal) → slice_get (path ++ σ ∷ []) k ≡ Some ρ → slice_get (path ++ σ ∷ []) (suc k) ≡ Some τ → Depends net ρ τ
    next k ρ τ at_k at_next = elim (push_cases path σ (suc k) τ at_next) [
      | inl h ↦ (
          let inside = slice_get_within path (suc k) τ h in
          elim (push_cases path σ k ρ at_k) [ inl i ↦ walk.next k ρ τ i h | inr w ↦ absurd (let e = w.0 in omega arith) ])
      | inr v ↦ elim (push_cases path σ k ρ at_k) [
        | inl i ↦ (
            let e : k ≡ length path - 1 = let end = v.0 in omega arith in
            subst (λ (x : Signal). Depends net ρ x) v.1 (last ρ (subst (λ (j : ℕ). slice_get path j ≡ Some ρ) e i)))
        | inr w ↦ absurd (let e = w.0 in let end = v.0 in omega arith)
      ]
    ]

  -- nothing is on the path, and all are done
  pub is_order : path ≡ [] → ((σ : Signal) → channel_of σ < net.channels → HasProgress progress σ Done) → IsOrder net done
  is_order none all = record {
    whole = λ σ h. walk.is_done.listed σ (all σ h);
    within = λ k σ at. channel_in σ Done (walk.is_done.each k σ at);
    once = walk.is_done.once;
    after = walk.after;
  }

  off_path : path ≡ [] → (σ : Signal) → HasProgress progress σ OnPath → ⊥
  off_path none σ h = let at = walk.on_path.listed σ h in let there : slice_get [] at.0 ≡ Some σ = subst (λ (xs : List Signal). slice_get xs at.0 ≡ Some σ) none at.1 in cc

-- a signal all of whose needs are done is done
pub finished : (net : Network) (done front : List Signal) (progress : List Progress) (σ : Signal) → IsWalkOver net done (front ++ σ ∷ []) progress →
    ((τ : Signal) → Depends net σ τ → HasProgress progress τ Done) → IsWalkOver net (done ++ σ ∷ []) front (set progress (rank σ) Done)
finished net done front progress σ walk needs = record {
  whole = length-set progress (rank σ) Done ∙ walk.whole;
  is_done = holds_more progress σ OnPath Done was Done done walk.is_done (λ same. absurd cc) refl;
  on_path = holds_less progress σ OnPath Done was OnPath front walk.on_path (λ same. absurd cc);
  after = after;
  next = λ k ρ τ at_k at_next. walk.next k ρ τ (get-append_left front (σ ∷ []) k ρ at_k) (get-append_left front (σ ∷ []) (suc k) τ at_next);
  short = let left = left_written progress σ OnPath Done was in let less : length (front ++ σ ∷ []) + all_left progress ≤ 4 * net.channels = walk.short in omega (arith, simp length-append at less);
} where
  was : HasProgress progress σ OnPath
  was = walk.on_path.each (length front) σ (get-push_last front σ)

  after : (k : ℕ) (ρ τ : Signal) → slice_get (done ++ σ ∷ []) k ≡ Some ρ → Depends net ρ τ → (j : ℕ) × ((j < k) × (slice_get (done ++ σ ∷ []) j ≡ Some τ))
  after k ρ τ at d = elim (push_cases done σ k ρ at) [
    | inl h ↦ (let before = walk.after k ρ τ h d in (before.0, (before.1.0, get-append_left done (σ ∷ []) before.0 τ before.1.1)))
    | inr w ↦ (
        let there = walk.is_done.listed τ (needs τ (subst (λ (x : Signal). Depends net x τ) (sym w.1) d)) in
        let inside = slice_get_within done there.0 τ there.1 in
        let end = w.0 in
        (there.0, (omega arith, get-append_left done (σ ∷ []) there.0 τ there.1)))
  ]

-- what a step leaves
pub record Stepped (net : Network) (progress : List Progress) (done' path' : List Signal) (progress' : List Progress) : Type 0 where
  pub walk : IsWalkOver net done' path' progress'
  pub less : all_left progress' < all_left progress
  pub advances : Advances progress progress'

module _ (net : Network) (done path : List Signal) (progress : List Progress) (walk : IsWalkOver net done path progress) (done' path' : List Signal) (progress' : List Progress) where
  pub finish_step : (last : Signal) → slice_get path (length path - 1) ≡ Some last → ((τ : Signal) → Depends net last τ → HasProgress progress τ Done) →
      done' ≡ done ++ last ∷ [] → path' ≡ take (length path - 1) path → progress' ≡ set progress (rank last) Done → Stepped net progress done' path' progress'
  finish_step last at needs done_is path_is progress_is =
      let was = walk.on_path.each (length path - 1) last at in
      let whole : path ≡ take (length path - 1) path ++ last ∷ [] = split_last path last at in
      let over : IsWalkOver net (done ++ last ∷ []) (take (length path - 1) path) (set progress (rank last) Done) =
      finished net done (take (length path - 1) path) progress last (subst (λ (xs : List Signal). IsWalkOver net done xs progress) whole walk) needs in
      rw (done_is, path_is, progress_is) (record {
        walk = over;
        less = let left = left_written progress last OnPath Done was in omega arith;
        advances = advanced progress last OnPath Done was (omega arith);
      })

  pub enter_step : (next : Signal) → HasProgress progress next Unseen → LastNeeds net path next →
      done' ≡ done → path' ≡ path ++ next ∷ [] → progress' ≡ set progress (rank next) OnPath → Stepped net progress done' path' progress'
  enter_step next was last done_is path_is progress_is =
      rw (done_is, path_is, progress_is) (record {
        walk = entered net done path progress walk next was last;
        less = let left = left_written progress next Unseen OnPath was in omega arith;
        advances = advanced progress next Unseen OnPath was (omega arith);
      })

-- what a walk has done stays done, and what it has met is done or on the path
is_done_from : (reached : Progress) → steps_left reached ≤ 0 → reached ≡ Done
is_done_from Unseen h = absurd (omega arith)
is_done_from OnPath h = absurd (omega arith)
is_done_from Done h = refl

met_from : (reached : Progress) → steps_left reached ≤ 1 → (reached ≢ OnPath) → reached ≡ Done
met_from Unseen h apart = absurd (omega arith)
met_from OnPath h apart = absurd (apart refl)
met_from Done h apart = refl

module _ (before after : List Progress) (advances : Advances before after) (same : length after ≡ length before) (σ : Signal) where
  read_progress : rank σ < length after → HasProgress after σ (get_or after (rank σ) Done)
  read_progress h = slice_get-get_or after (rank σ) Done h

  steps : (reached : Progress) → HasProgress before σ reached → steps_left (get_or after (rank σ) Done) ≤ steps_left reached
  steps reached was = let then = ap steps_left (get_or_from_slice_get before (rank σ) reached Done was) in let at = advances.at (rank σ) in omega arith

  pub stays_done : HasProgress before σ Done → HasProgress after σ Done
  stays_done was =
      let inside = slice_get_within before (rank σ) Done was in
      read_progress (omega arith) ∙ ap Some (is_done_from (get_or after (rank σ) Done) (steps Done was))

  pub comes_done : HasProgress before σ OnPath → (HasProgress after σ OnPath → ⊥) → HasProgress after σ Done
  comes_done was off =
      let inside = slice_get_within before (rank σ) OnPath was in
      let there : HasProgress after σ (get_or after (rank σ) Done) = read_progress (omega arith) in
      there ∙ ap Some (met_from (get_or after (rank σ) Done) (steps OnPath was) (λ e. off (there ∙ ap Some e)))

pub unseen_from : (reached : Progress) → reached ≢ OnPath → reached ≢ Done → reached ≡ Unseen
unseen_from Unseen on done = refl
unseen_from OnPath on done = absurd (on refl)
unseen_from Done on done = absurd (done refl)

pub empty_from : (xs : List Signal) → length xs ≡ 0 → xs ≡ []
empty_from [] e = refl
empty_from (x ∷ xs) e = absurd (omega arith)

module _ (net : Network) (done path : List Signal) (progress : List Progress) (walk : IsWalkOver net done path progress) (none : path ≡ []) (σ : Signal) where
  -- with nothing on the path, a signal that was on it is done
  pub entered_done : (before : List Progress) → length before ≡ 2 * net.channels → Advances before progress → HasProgress before σ OnPath → HasProgress progress σ Done
  entered_done before whole advances was = comes_done before progress advances (walk.whole ∙ sym whole) σ was (off_path net done path progress walk none σ)

-- what the start of a visit leaves, and its root on the path
pub entered_alone : (net : Network) (done path : List Signal) (progress : List Progress) → IsWalkOver net done path progress → path ≡ [] → (σ : Signal) → HasProgress progress σ Unseen →
    (done' path' : List Signal) (progress' : List Progress) → done' ≡ done → path' ≡ path ++ σ ∷ [] → progress' ≡ set progress (rank σ) OnPath → Stepped net progress done' path' progress' × HasProgress progress' σ OnPath
entered_alone net done path progress walk none σ was done' path' progress' done_is path_is progress_is = (
  enter_step net done path progress walk done' path' progress' σ was
      (λ τ at. absurd (let there : slice_get [] (length path - 1) ≡ Some τ = subst (λ (xs : List Signal). slice_get xs (length path - 1) ≡ Some τ) none at in cc)) done_is path_is progress_is,
  rw progress_is (progress_new progress σ Unseen OnPath was),
)

pub advances_on : (before between after : List Progress) → Advances before between → Advances between after → Advances before after
advances_on before between after first second = record { at = λ i. let one = first.at i in let two = second.at i in omega arith }

pub advances_none : (progress : List Progress) → Advances progress progress
advances_none progress = record { at = λ i. omega arith }

-- the signals of one more channel are done
pub done_more : (n : ℕ) (progress between after : List Progress) → length between ≡ length progress → length after ≡ length between → Advances progress between → Advances between after →
    ((σ : Signal) → channel_of σ < n → HasProgress progress σ Done) → HasProgress between (signal.Offer n) Done → HasProgress after (signal.Ready n) Done →
    (σ : Signal) → channel_of σ < n + 1 → HasProgress after σ Done
done_more n progress between after same same' first second done offer ready σ h = elim (cases_lt (channel_of σ) n) [
  | inl below ↦ stays_done between after second same' σ (stays_done progress between first same σ (done σ below))
  | inr above ↦ last σ (let e : channel_of σ ≡ n = omega arith in e)
] where
  last : (τ : Signal) → channel_of τ ≡ n → HasProgress after τ Done
  last (signal.Offer c) e = stays_done between after second same' (signal.Offer c) (subst (λ (k : ℕ). HasProgress between (signal.Offer k) Done) (sym e) offer)
  last (signal.Ready c) e = subst (λ (k : ℕ). HasProgress after (signal.Ready k) Done) (sym e) ready
