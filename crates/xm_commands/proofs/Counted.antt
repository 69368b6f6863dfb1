-- What is counted of a run is counted from its totals, and is small.
use Rattle.std.proofs.Common.{◌≡◌, ℕ, zero, suc, ◌+◌, ◌*◌, ◌^◌, ◌<◌, ◌≤◌, true, false, Bool, cond, List, [], length, refl, sym, ap, ◌∙◌, subst, arith}
use Rattle.std.proofs.Math.Nat.{mul-le-mul}
use Rattle.std.proofs.lemmas.List.Elements.{All-append, All-cons, All-nil}
use Rattle.std.proofs.lemmas.List.Sums.{sum_by-append, sum_by-cons}
use Rattle.std.specs.List.{sum_by}
use Rattle.std.specs.Prelude.{All, if◌then◌else◌}
use Rattle.xm_commands.specs.Demonstrating.{all_moves, delivered_moves, enters_sink, run_counts, sum_below}
use Rattle.xm_commands.specs.Inner.Counting.{AreTotals, count_of, delivered_by}
use Rattle.xm_model.specs.Limits.{most_channels, most_colours}
use Rattle.xm_model.specs.Net.{IsNet, Network}
use Rattle.xm_model.specs.Next.{move}
use Rattle.xm_model.specs.Run.{is_offer, moves}
use Rattle.xm_model.specs.Signals.{Signals}
use Rattle.xm_tape.specs.Sizes.{most_cycles}
use Rattle.xm_tape.specs.Taped.{Taped, cycles_of}
use Rattle.xm_trace.specs.RunTextState.{channel_totals, total_if, totals_of}
use Rattle.xm_trace.specs.declared.run_text.Total.{Total}

-- ---- choices

nothing : (b : Bool) → ◌≡◌ {A = ℕ} (if b then 0 else 0) 0
nothing true = refl
nothing false = refl

both : (b : Bool) (x y : ℕ) → (if b then x + y else 0) ≡ (if b then x else 0) + (if b then y else 0)
both true x y = refl
both false x y = refl

at_most : (b : Bool) (x m : ℕ) → x ≤ m → (if b then x else 0) ≤ m
at_most true x m few = few
at_most false x m few = omega arith

one_at_most : (b : Bool) → cond b 1 0 ≤ 1
one_at_most true = omega arith
one_at_most false = omega arith

-- ---- sums of totals are sums over channels and colours

module _ (p : ℕ → Bool) (n : ℕ → ℕ → ℕ) where
  -- the moves of a total on one of these channels
  counted : Total → ℕ
  counted it = if p it.channel then it.count else 0

  of_one : (c d k : ℕ) → sum_by counted (total_if c d k) ≡ (if p c then k else 0)
  unfolding counted
  of_one c d zero = sym (nothing (p c))
  of_one c d (suc k) = let e = sum_by-cons counted (record { channel = c; colour = d; count = suc k }) [] in omega (arith, e)

  of_channel : (c colours : ℕ) → sum_by counted (channel_totals n c colours) ≡ (if p c then sum_below (n c) colours else 0)
  of_channel c zero = sym (nothing (p c))
  of_channel c (suc d) =
      let e = sum_by-append counted (channel_totals n c d) (total_if c d (n c d)) in
      let before = of_channel c d in
      let last = of_one c d (n c d) in
      let same = both (p c) (sum_below (n c) d) (n c d) in
      omega (arith, e, before, last, same)

  of_all : (colours channels : ℕ) → sum_by counted (totals_of n colours channels) ≡ sum_below (λ c. if p c then sum_below (n c) colours else 0) channels
  of_all colours zero = refl
  of_all colours (suc c) =
      let e = sum_by-append counted (totals_of n colours c) (channel_totals n c colours) in
      let before = of_all colours c in
      let last = of_channel c colours in
      omega (arith, e, before, last)

-- ---- they are on channels

module _ (n : ℕ → ℕ → ℕ) (channels : ℕ) where
  one_within : (c d k : ℕ) → c < channels → All (λ it. it.channel < channels) (total_if c d k)
  one_within c d zero here = All-nil (λ (it : Total). it.channel < channels)
  one_within c d (suc k) here = All-cons (λ (it : Total). it.channel < channels) (record { channel = c; colour = d; count = suc k }) [] here (All-nil (λ (it : Total). it.channel < channels))

  channel_within : (c colours : ℕ) → c < channels → All (λ it. it.channel < channels) (channel_totals n c colours)
  channel_within c zero here = All-nil (λ (it : Total). it.channel < channels)
  channel_within c (suc d) here = All-append (λ (it : Total). it.channel < channels) (channel_totals n c d) (total_if c d (n c d)) (channel_within c d here) (one_within c d (n c d) here)

  all_within : (colours some : ℕ) → some ≤ channels → All (λ it. it.channel < channels) (totals_of n colours some)
  all_within colours zero few = All-nil (λ (it : Total). it.channel < channels)
  all_within colours (suc c) few = All-append (λ (it : Total). it.channel < channels) (totals_of n colours c) (channel_totals n c colours) (all_within colours c (omega arith)) (channel_within c colours (omega arith))

-- ---- they are few

below : (f : ℕ → ℕ) (m : ℕ) → ((i : ℕ) → f i ≤ m) → (n : ℕ) → sum_below f n ≤ n * m
below f m each zero = omega arith
below f m each (suc n) =
    let before = below f m each n in
    let last = each n in
    omega (arith, before, last)

moves_few : (φ : ℕ → Signals) (c d n : ℕ) → moves φ c d n ≤ n
moves_few φ c d zero = omega arith
moves_few φ c d (suc t) =
    let before = moves_few φ c d t in
    let last = one_at_most (is_offer d (move (φ t) c)) in
    omega (arith, before, last)

module _ (p : ℕ → Bool) (φ : ℕ → Signals) (cycles colours channels : ℕ) where
  sums_few : cycles ≤ most_cycles → colours ≤ most_colours → channels ≤ most_channels
      → sum_below (λ c. if p c then sum_below (λ d. moves φ c d cycles) colours else 0) channels < 2 ^ 64
  sums_few short few_colours few_channels =
      let on = λ (c : ℕ). below (λ d. moves φ c d cycles) cycles (λ d. moves_few φ c d cycles) colours in
      let sum = below (λ c. if p c then sum_below (λ d. moves φ c d cycles) colours else 0) (colours * cycles) (λ c. at_most (p c) _ _ (on c)) channels in
      let pairs : colours * cycles ≤ 64 * 10000000 = mul-le-mul few_colours short in
      let all : channels * (colours * cycles) ≤ 8192 * (64 * 10000000) = mul-le-mul few_channels pairs in
      omega (arith, sum, all)

-- ---- for the totals of a run

module _ (net : Network) (tape : Taped) (totals : List Total) (are : AreTotals net tape totals) where
  counts : ℕ → ℕ → ℕ
  counts c d = moves are.frames c d (cycles_of tape)

  of_run : (p : ℕ → Bool) → sum_by (λ (it : Total). if p it.channel then it.count else 0) totals ≡ sum_below (λ c. if p c then sum_below (λ d. moves are.frames c d (cycles_of tape)) net.colours else 0) net.channels
  unfolding counted
  of_run p = ap (sum_by (λ (it : Total). if p it.channel then it.count else 0)) are.same ∙ of_all p (λ c d. moves are.frames c d (cycles_of tape)) net.colours net.channels

  few_of_run : IsNet net → cycles_of tape ≤ most_cycles → (p : ℕ → Bool) → sum_by (λ (it : Total). if p it.channel then it.count else 0) totals < 2 ^ 64
  few_of_run is short p =
      let few = sums_few p are.frames (cycles_of tape) net.colours net.channels short is.limits.colours is.limits.channels in
      subst (λ (n : ℕ). n < 2 ^ 64) (sym (of_run p)) few

  pub moves_counted : sum_by count_of totals ≡ all_moves net are.frames (cycles_of tape)
  moves_counted = of_run (λ c. true)

  pub delivered_counted : sum_by (delivered_by net) totals ≡ delivered_moves net are.frames (cycles_of tape)
  delivered_counted = of_run (enters_sink net)

  pub few_moves : IsNet net → cycles_of tape ≤ most_cycles → sum_by count_of totals < 2 ^ 64
  few_moves is short = few_of_run is short (λ c. true)

  pub few_delivered : IsNet net → cycles_of tape ≤ most_cycles → sum_by (delivered_by net) totals < 2 ^ 64
  few_delivered is short = few_of_run is short (enters_sink net)

  pub on_channels : All (λ it. it.channel < net.channels) totals
  on_channels = subst (λ (xs : List Total). All (λ it. it.channel < net.channels) xs) (sym are.same) (all_within (λ c d. moves are.frames c d (cycles_of tape)) net.channels net.colours net.channels (omega arith))

  pub all_counted : (p c t m d : ℕ) → p ≡ length net.prims → c ≡ net.channels → t ≡ cycles_of tape → m ≡ sum_by count_of totals → d ≡ sum_by (delivered_by net) totals
      → record { primitives = p; channels = c; cycles = t; moves = m; delivered = d } ≡ run_counts net are.frames (cycles_of tape)
  all_counted p c t m d is_p is_c is_t is_m is_d =
      let is_moves = is_m ∙ moves_counted in
      let is_delivered = is_d ∙ delivered_counted in
      rw (is_p, is_c, is_t, is_moves, is_delivered) refl
