-- What a text that is made round by round has had, after one more round.
use Rattle.std.proofs.Common.{◌≡◌, ℕ, zero, suc, ◌<◌, ◌+◌, ◌^◌, List, [], ◌++◌, length, ap, ap₂, refl, subst, sym, ◌∙◌, arith}
use Rattle.std.specs.List.{refill}
use Rattle.xm_model.specs.Lending.{refill-full}
use Rattle.xm_model.specs.Naming.{Naming}
use Rattle.xm_model.specs.Run.{moves}
use Rattle.xm_model.specs.Signals.{Signals}
use Rattle.xm_trace.proofs.Cycles.{moves_few, sum_lines_same, sum_round}
use Rattle.xm_trace.specs.Sums.{sum_at, sum_in}
use Rattle.xm_trace.specs.Text.{end_line, end_text, sum_lines}
use Rattle.xm_trace.specs.RunTextState.{Follows, FollowsSome, HasHad, IsNamedBy, RunTextState, channel_totals, total_if, totals_of}
use Rattle.xm_trace.specs.declared.run_text.Total.{Total}
use Rattle.xm_trace.specs.declared.trace.Move.{Move}

-- no sum is above the number of cycles
pub few_had : (state : RunTextState) (φ : ℕ → Signals) (c d : ℕ) → HasHad state φ → state.cycles < 2 ^ 32 → c < state.channels → d < state.colours → sum_at state.sums state.colours c d < 2 ^ 32
few_had state φ c d had few below within =
    let is = had.sums c d below within in
    let most = moves_few φ c d state.cycles in
    omega arith

-- What the code keeps is `shown`, and `state` what callers see.
module _ (state shown : RunTextState) (is : shown ≡ state) where
  -- there is room in the sums
  pub few_shown : (cycles : ℕ) (part : List Move) (lent : List ℕ) → FollowsSome state cycles part → lent ≡ shown.sums → (c d : ℕ) → c < shown.channels → d < shown.colours → sum_at lent shown.colours c d < 2 ^ 32
  few_shown cycles part lent some same c d below within =
      let back : FollowsSome shown cycles part = subst (λ (t : RunTextState). FollowsSome t cycles part) (sym is) some in
      rw same (few_had shown back.frames c d back.follows.had (omega (arith, back.few)) below within)

  -- one more round
  pub had_more : (φ : ℕ → Signals) (cycles : ℕ) (part moved : List Move) (lent new : List ℕ) → Follows state φ cycles part → lent ≡ shown.sums → moved ≡ part → length new ≡ length lent →
      ((c d : ℕ) → c < shown.channels → d < shown.colours → sum_at new shown.colours c d ≡ sum_in moved c d + sum_at lent shown.colours c d) →
      HasHad (record { cycles = shown.cycles + cycles; channels = shown.channels; colours = shown.colours; sums = refill (length shown.sums) shown.sums new }) φ
  had_more φ cycles part moved lent new follows same same_moves keeps counted =
      let back : Follows shown φ cycles part = subst (λ (t : RunTextState). Follows t φ cycles part) (sym is) follows in
      let whole : length new ≡ length shown.sums = keeps ∙ ap length same in
      let written = refill-full (length shown.sums) shown.sums new whole in
      rw written (record {
        whole = whole ∙ back.had.whole;
        sums = λ c d below within.
            counted c d below within
            ∙ ap₂ (λ (x y : ℕ). x + y) (ap (λ (ms : List Move). sum_in ms c d) (same_moves ∙ back.moves))
            (ap (λ (xs : List ℕ). sum_at xs shown.colours c d) same ∙ back.had.sums c d below within)
            ∙ sum_round φ shown.channels shown.cycles cycles c d below;
      })

  -- the end of the text
  pub had_ended : (names : Naming) (φ : ℕ → Signals) (begun lent text : List ℕ) → IsNamedBy state names → HasHad state φ → begun ≡ [] → lent ≡ shown.sums →
      text ≡ begun ++ (sum_lines names (sum_at lent (length names.colours)) (length names.channels) ++ end_line shown.cycles) → text ≡ end_text names φ state.cycles
  had_ended names φ begun lent text named had empty same made =
      let k = length names.colours in
      let n = length names.channels in
      let counted = sum_lines_same names (sum_at state.sums k) (λ c d. moves φ c d state.cycles) n
      (λ c d below within. ap (λ (i : ℕ). sum_at state.sums i c d) named.colours
      ∙ had.sums c d (subst (λ (i : ℕ). c < i) named.channels below) (subst (λ (i : ℕ). d < i) named.colours within)) in
      made
      ∙ ap₂ (λ (x y : List ℕ). x ++ (sum_lines names (sum_at y k) n ++ end_line shown.cycles)) empty (same ∙ ap (λ (t : RunTextState). t.sums) is)
      ∙ ap (λ (i : ℕ). sum_lines names (sum_at state.sums k) n ++ end_line i) (ap (λ (t : RunTextState). t.cycles) is)
      ∙ ap (λ (x : List ℕ). x ++ end_line state.cycles) counted

channel_totals_same : (f g : ℕ → ℕ → ℕ) (c k : ℕ) → ((d : ℕ) → d < k → f c d ≡ g c d) → channel_totals f c k ≡ channel_totals g c k
channel_totals_same f g c zero same = refl
channel_totals_same f g c (suc d) same =
    ap₂ (λ (x y : List Total). x ++ y) (channel_totals_same f g c d (λ e h. same e (omega arith))) (ap (total_if c d) (same d (omega arith)))

pub totals_same : (f g : ℕ → ℕ → ℕ) (colours n : ℕ) → ((c d : ℕ) → c < n → d < colours → f c d ≡ g c d) → totals_of f colours n ≡ totals_of g colours n
totals_same f g colours zero same = refl
totals_same f g colours (suc c) same =
    ap₂ (λ (x y : List Total). x ++ y) (totals_same f g colours c (λ b d h. same b d (omega arith))) (channel_totals_same f g c colours (λ d. same c d (omega arith)))

-- the pairs with sums that are not 0 are those with moves
pub had_totals : (state shown : RunTextState) (φ : ℕ → Signals) (lent : List ℕ) (totals : List Total) → shown ≡ state → HasHad state φ → lent ≡ shown.sums → totals ≡ totals_of (sum_at lent shown.colours) shown.colours shown.channels
    → totals ≡ totals_of (λ c d. moves φ c d state.cycles) state.colours state.channels
had_totals state shown φ lent totals is had same made =
    made
    ∙ ap (λ (xs : List ℕ). totals_of (sum_at xs shown.colours) shown.colours shown.channels) same
    ∙ ap (λ (t : RunTextState). totals_of (sum_at t.sums t.colours) t.colours t.channels) is
    ∙ totals_same (sum_at state.sums state.colours) (λ c d. moves φ c d state.cycles) state.colours state.channels had.sums
