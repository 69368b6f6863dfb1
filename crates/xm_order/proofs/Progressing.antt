-- The lists of the signals that have come so far, as progress is written.
use Rattle.std.proofs.Common.{◌≡◌, ◌≢◌, ℕ, ◌+◌, ◌<◌, ◌≤◌, ◌⊎◌, List, [], ◌∷◌, ◌++◌, Some, length, set, slice_get, get_or, sym, ◌∙◌, ap, subst, inl, inr, arith}
use Rattle.std.proofs.lemmas.Bool.{cases_eq}
use Rattle.std.proofs.lemmas.List.{get_or-set_other}
use Rattle.std.proofs.lemmas.List.Sums.{sum_by-set}
use Rattle.std.proofs.lemmas.Option.{get_or_from_slice_get, slice_get_within}
use Rattle.xm_order.specs.Lemmas.Items.{get-append_left, get-push_last, get-set_other, get-set_same, push_cases}
use Rattle.xm_order.specs.Loop.{rank}
use Rattle.xm_order.specs.Inner.Walk.{Advances, HoldsAt, HasProgress, all_left, steps_left}
use Rattle.xm_order.specs.declared.signal.Signal.{Signal}
use Rattle.xm_order.specs.declared.signal.Signal.TheVariants as signal
use Rattle.xm_order.specs.declared.walk.Progress.{Progress}
use Rattle.xm_order.specs.declared.walk.Progress.TheVariants.{Done}

pub rank_apart : (σ τ : Signal) → rank σ ≡ rank τ → σ ≡ τ
rank_apart (signal.Offer c) (signal.Offer d) e = ap signal.Offer (let same : c ≡ d = omega arith in same)
rank_apart (signal.Offer c) (signal.Ready d) e = absurd (omega arith)
rank_apart (signal.Ready c) (signal.Offer d) e = absurd (omega arith)
rank_apart (signal.Ready c) (signal.Ready d) e = ap signal.Ready (let same : c ≡ d = omega arith in same)

one_progress : (progress : List Progress) (σ : Signal) (m n : Progress) → HasProgress progress σ m → HasProgress progress σ n → m ≡ n
one_progress progress σ m n h i = cc

-- where `σ` changes its reached from `old` to `new`
module _ (progress : List Progress) (σ : Signal) (old new : Progress) (was : HasProgress progress σ old) where
  abbrev pub written : List Progress
  written = set progress (rank σ) new

  pub progress_new : HasProgress written σ new
  progress_new = get-set_same progress (rank σ) new (slice_get_within progress (rank σ) old was)

  pub progress_other : (τ : Signal) → τ ≢ σ → slice_get written (rank τ) ≡ slice_get progress (rank τ)
  progress_other τ apart = get-set_other progress (rank σ) (rank τ) new (λ e. apart (rank_apart τ σ e))

  progress_cases : (τ : Signal) (n : Progress) → HasProgress written τ n → ((τ ≡ σ) × (n ≡ new)) ⊎ ((τ ≢ σ) × HasProgress progress τ n)
  progress_cases τ n h = elim (cases_eq (rank τ) (rank σ)) [
    | inl same ↦ (
        let equal = rank_apart τ σ same in
        let here : slice_get written (rank σ) ≡ Some n = subst (λ (k : ℕ). slice_get written k ≡ Some n) same h in
        let there = progress_new in
        inl (equal, cc))
    | inr apart ↦ (
        let differ : τ ≢ σ = λ e. apart (ap rank e) in
        inr (differ, sym (progress_other τ differ) ∙ h))
  ]

  kept : (reached : Progress) (τ : Signal) → HasProgress progress τ reached → τ ≢ σ → HasProgress written τ reached
  kept reached τ h apart = progress_other τ apart ∙ h

  module _ (reached : Progress) (xs : List Signal) (held : HoldsAt progress reached xs) (before : old ≢ reached) where
    absent : (k : ℕ) (τ : Signal) → slice_get xs k ≡ Some τ → τ ≢ σ
    absent k τ at same = before (one_progress progress σ old reached was (subst (λ (x : Signal). HasProgress progress x reached) same (held.each k τ at)))

    -- the signals of another reached stay
    pub holds_still : new ≢ reached → HoldsAt written reached xs
    holds_still after = record {
      each = λ k τ at. kept reached τ (held.each k τ at) (absent k τ at);
      listed = λ τ h. elim (progress_cases τ reached h) [ inl w ↦ absurd (after (sym w.1)) | inr w ↦ held.listed τ w.1 ];
      once = held.once;
    }

    -- those of the new reached are one more
    pub holds_more : new ≡ reached → HoldsAt written reached (xs ++ σ ∷ [])
    holds_more is_new = record { each = each; listed = listed; once = once } where
      each : (k : ℕ) (τ : Signal) → slice_get (xs ++ σ ∷ []) k ≡ Some τ → HasProgress written τ reached
      each k τ at = elim (push_cases xs σ k τ at) [
        | inl h ↦ kept reached τ (held.each k τ h) (absent k τ h)
        | inr w ↦ subst (λ (x : Signal). HasProgress written x reached) w.1 (progress_new ∙ ap Some is_new)
      ]

      listed : (τ : Signal) → HasProgress written τ reached → (k : ℕ) × (slice_get (xs ++ σ ∷ []) k ≡ Some τ)
      listed τ h = elim (progress_cases τ reached h) [
        | inl w ↦ (length xs, get-push_last xs σ ∙ ap Some (sym w.0))
        | inr w ↦ (let at = held.listed τ w.1 in (at.0, get-append_left xs (σ ∷ []) at.0 τ at.1))
      ]

      once : (j k : ℕ) (τ : Signal) → slice_get (xs ++ σ ∷ []) j ≡ Some τ → slice_get (xs ++ σ ∷ []) k ≡ Some τ → j ≡ k
      once j k τ at_j at_k = elim (push_cases xs σ j τ at_j) [
        | inl h ↦ elim (push_cases xs σ k τ at_k) [ inl i ↦ held.once j k τ h i | inr w ↦ absurd (absent j τ h (sym w.1)) ]
        | inr v ↦ elim (push_cases xs σ k τ at_k) [ inl i ↦ absurd (absent k τ i (sym v.1)) | inr w ↦ v.0 ∙ sym w.0 ]
      ]

  -- those of the old reached are one less
  pub holds_less : (reached : Progress) (xs : List Signal) → HoldsAt progress reached (xs ++ σ ∷ []) → new ≢ reached → HoldsAt written reached xs
  holds_less reached xs held after = record { each = each; listed = listed; once = once } where
    apart : (k : ℕ) (τ : Signal) → slice_get xs k ≡ Some τ → τ ≢ σ
    apart k τ at same =
        let inside = slice_get_within xs k τ at in
        let both = held.once k (length xs) τ (get-append_left xs (σ ∷ []) k τ at) (get-push_last xs σ ∙ ap Some (sym same)) in
        absurd (omega arith)

    each : (k : ℕ) (τ : Signal) → slice_get xs k ≡ Some τ → HasProgress written τ reached
    each k τ at = kept reached τ (held.each k τ (get-append_left xs (σ ∷ []) k τ at)) (apart k τ at)

    listed : (τ : Signal) → HasProgress written τ reached → (k : ℕ) × (slice_get xs k ≡ Some τ)
    listed τ h = elim (progress_cases τ reached h) [
      | inl w ↦ absurd (after (sym w.1))
      | inr w ↦ (
          let at = held.listed τ w.1 in
          elim (push_cases xs σ at.0 τ at.1) [ inl i ↦ (at.0, i) | inr v ↦ absurd (w.0 (sym v.1)) ])
    ]

    once : (j k : ℕ) (τ : Signal) → slice_get xs j ≡ Some τ → slice_get xs k ≡ Some τ → j ≡ k
    once j k τ at_j at_k = held.once j k τ (get-append_left xs (σ ∷ []) j τ at_j) (get-append_left xs (σ ∷ []) k τ at_k)

  pub left_written : all_left written + steps_left old ≡ all_left progress + steps_left new
  left_written =
      let sums = sum_by-set steps_left progress (rank σ) new Done (slice_get_within progress (rank σ) old was) in
      let then = ap steps_left (get_or_from_slice_get progress (rank σ) old Done was) in
      omega arith

  module _ (less : steps_left new < steps_left old) where
    pub advanced : Advances progress written
    advanced = record { at = at } where
      at : (i : ℕ) → steps_left (get_or written i Done) ≤ steps_left (get_or progress i Done)
      at i = elim (cases_eq i (rank σ)) [
        | inl same ↦ (
            let now = get_or_from_slice_get written (rank σ) new Done progress_new in
            let then = get_or_from_slice_get progress (rank σ) old Done was in
            rw (same, now, then) (omega arith))
        | inr apart ↦ rw (get_or-set_other progress (rank σ) i new Done apart) (omega arith)
      ]
