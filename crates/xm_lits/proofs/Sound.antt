-- Each rule holds on every fair cycle that repeats.
use Rattle.std.proofs.Common.{◌≡◌, ◌≢◌, ℕ, ◌<◌, Bool, true, false, ◌&&◌, Option, Some, List, [], ◌∷◌, ◌++◌, slice_index}
use Rattle.std.proofs.Common.{nat_eq, cond, refl, sym, ◌∙◌, ap, subst, inl, inr, is_some, arith}
use Rattle.std.specs.Prelude.{◌⊎◌}
use Rattle.std.proofs.lemmas.Bool.{eq-eqb, ne_eqb, cases_Bool}
use Rattle.xm_lits.proofs.Alternatives.{where_idle, all_idle, all_idle_of, in_taken_to, in_with_itself, in_with_other}
use Rattle.xm_lits.proofs.Alternatives.{in_without, some_one, taken_to_maps, times_head, times_none}
use Rattle.xm_model.specs.Lemmas.PrimitiveFits.{prim_fits}
use Rattle.xm_lits.proofs.Arbiter.{MergeRun, dead_out, dead_side, swapped}
use Rattle.xm_lits.proofs.IdleMerge.{idle_merge}
use Rattle.xm_lits.proofs.Turnover.{QueueRun, idle_queue, stuck_queue}
use Rattle.xm_lits.proofs.Forever.{AllSound, IsForever, SomeHolds}
use Rattle.xm_lits.specs.Inference.{Inference, dead_one, idle_all, idle_rules, offering_rules, one_of, passing_rules}
use Rattle.xm_lits.specs.Inference.{rule, stuck_rules, taken_to, via_rules, with_colour, without}
use Rattle.xm_lits.specs.Repeating.{capacity_at}
use Rattle.xm_lits.specs.declared.inference.RuleName.TheVariants.{I6}
use Rattle.xm_lits.specs.declared.literal.Lit.TheVariants.{Stuck, Dead, Idle, Full}
use Rattle.xm_model.specs.Lemmas.PortCounts.{IsCounted, counted, apart, at_first, at_second, output_below, input_below}
use Rattle.xm_model.specs.Lemmas.PortCounts.{times_within, times_within_in}
use Rattle.xm_model.specs.Component.{Component, Content, Fork, Join, Merge, Queue, Switch}
use Rattle.xm_model.specs.Frame.{Equation, ForkEquation, JoinEquation}
use Rattle.xm_model.specs.Net.{HasPrim, Network}
use Rattle.xm_model.specs.Next.{next_at}
use Rattle.xm_model.specs.Ports.{HasOutput, HasInput, fork_output_a, fork_output_b, fork_input, function_output}
use Rattle.xm_model.specs.Ports.{function_input, join_output, join_input_a, join_input_b, merge_output, merge_input_a}
use Rattle.xm_model.specs.Ports.{merge_input_b, queue_output, queue_input, sink_input, source_output, switch_output_a}
use Rattle.xm_model.specs.Ports.{switch_output_b, switch_input}
use Rattle.xm_model.specs.Membership.{IsIn}
use Rattle.xm_model.specs.Signals.{Signals, at_side, only_if, other, packets_in, pref_in, takes_a}
use Rattle.xm_model.specs.declared.state.Choice.{Choice}
use Rattle.xm_model.specs.declared.primitive.Side.{Side}
use Rattle.xm_model.specs.declared.primitive.Side.TheVariants.{A, B}
use Rattle.xm_lits.proofs.Repeat
use Rattle.xm_lits.proofs.Channels

module _ (net : Network) (colours : ℕ → List ℕ) (n : ℕ) (w : ℕ → ℕ → Choice) (s : ℕ → ℕ → Content) (φ : ℕ → Signals) (fair : IsForever net colours n w s φ) where
  wired : IsCounted net
  wired = counted net fair.is_net

  now : (t i : ℕ) (p : Component) → HasPrim net i p → Equation p (s t i) (w t i) (φ t)
  now t i p has = fair.frames t i p has

  pub stays : (c : ℕ) → c < net.channels → Repeat.Stays c φ
  stays c below = fair.offers_stay c below

  stays_out : (i : ℕ) (p : Component) (c : ℕ) → HasPrim net i p → HasOutput p c → Repeat.Stays c φ
  stays_out i p c has drives = stays c (output_below net wired i p c has drives)

  stays_in : (i : ℕ) (p : Component) (c : ℕ) → HasPrim net i p → HasInput p c → Repeat.Stays c φ
  stays_in i p c has takes = stays c (input_below net wired i p c has takes)

  merge_run : (i a b out : ℕ) → HasPrim net i (Merge a b out) → MergeRun a b out (λ t. pref_in (s t i)) φ
  merge_run i a b out has =
      record { equation = λ t. now t i _ has; step = λ t. ap pref_in (fair.steps t i) ∙ ap (λ o. pref_in (next_at o (s t i) (φ t))) has }

  queue_run : (i input out capacity : ℕ) (initial : List ℕ) → HasPrim net i (Queue input out capacity initial) →
      QueueRun input out capacity (λ t. packets_in (s t i)) φ
  queue_run i input out capacity initial has =
      record {
        holds_some = (prim_fits net fair.is_net i _ has).0;
        fits = λ t. fair.fits i input out capacity t initial has;
        equation = λ t. now t i _ has;
        step = λ t. ap packets_in (fair.steps t i) ∙ ap (λ o. packets_in (next_at o (s t i) (φ t))) has;
      }

  out_below : (i : ℕ) (p : Component) (c : ℕ) → HasPrim net i p → HasOutput p c → c < net.channels
  out_below i p c has drives = output_below net wired i p c has drives

  in_below : (i : ℕ) (p : Component) (c : ℕ) → HasPrim net i p → HasInput p c → c < net.channels
  in_below i p c has takes = input_below net wired i p c has takes

  in_colours : (c : ℕ) → c < net.channels → (d : ℕ) → Repeat.Dead c d φ → IsIn (colours c) d
  in_colours c below d dead = fair.coloured 0 c d below (dead 0).0

  swapped_join : (a b out : ℕ) (pass : Side) → ((t : ℕ) → JoinEquation a b out pass (φ t)) → (t : ℕ) →
      JoinEquation b a out (other pass) (φ t)
  swapped_join a b out pass e t = record {
    offer_out = (e t).offer_out ∙ commuted pass (is_some ((φ t).offer a)) (is_some ((φ t).offer b)) ((φ t).offer a) ((φ t).offer b);
    ready_a = (e t).ready_b;
    ready_b = (e t).ready_a;
  } where
    commuted : (pass : Side) (x y : Bool) (o u : Option ℕ) →
        only_if (x && y) (at_side pass o u) ≡ only_if (y && x) (at_side (other pass) u o)
    commuted A true true o u = refl
    commuted A true false o u = refl
    commuted A false true o u = refl
    commuted A false false o u = refl
    commuted B true true o u = refl
    commuted B true false o u = refl
    commuted B false true o u = refl
    commuted B false false o u = refl

  swapped_fork : (input a b : ℕ) (ta tb : List ℕ) → ((t : ℕ) → ForkEquation input a b ta tb (φ t)) → (t : ℕ) →
      ForkEquation input b a tb ta (φ t)
  swapped_fork input a b ta tb e t = record {
    offer_a = (e t).offer_b;
    offer_b = (e t).offer_a;
    ready_in = (e t).ready_in ∙ both ((φ t).ready a) ((φ t).ready b);
  } where
    both : (x y : Bool) → (x && y) ≡ (y && x)
    both true true = refl
    both true false = refl
    both false true = refl
    both false false = refl

  -- a channel that is stuck offers nothing, or one colour for ever
  silent_or_dead : (c : ℕ) → c < net.channels → Repeat.Stays c φ → Repeat.Stuck c φ →
      SomeHolds net s φ (idle_all colours c ∷ dead_one c (colours c))
  silent_or_dead c below stays_c stuck =
      elim (Channels.stuck_is_dead_or_idle φ n fair.is_long fair.frames_again c stays_c stuck) [
        | inl x ↦ inr (some_one net s φ (λ d. Dead c d ∷ []) (colours c) x.0 (in_colours c below x.0 x.1) (x.1, tt))
        | inr none ↦ inl (all_idle net s φ c (colours c) none)
      ]

  join_apart : (i a b out : ℕ) (pass : Side) → HasPrim net i (Join a b out pass) → nat_eq b a ≡ false
  join_apart i a b out pass has =
      let within = times_within_in net i _ a has in
      let once = wired.one_target a (input_below net wired i _ a has join_input_a) in
      apart a b (omega arith)

  pub stuck_sound : (i : ℕ) (p : Component) (c : ℕ) → HasPrim net i p → HasInput p c → Repeat.Stuck c φ →
      AllSound net s φ (stuck_rules colours c i p)
  stuck_sound i p c has (sink_input {mode = mode}) stuck =
      let once = fair.sinks i c mode has in let never = stuck once.0 in let is = once.1 in absurd (cc)
  stuck_sound i p c has (queue_input {out = out} {capacity = capacity} {initial = initial}) stuck =
      let both = stuck_queue c out capacity (λ t. packets_in (s t i)) φ (queue_run i c out capacity initial has) stuck in (
        some_one net s φ (λ e. Full i ∷ Dead out e ∷ []) (colours out) both.1.0 (in_colours out (out_below i _ out has queue_output) both.1.0 both.1.1)
            (both.0 ∙ ap capacity_at (sym has), (both.1.1, tt)),
        tt,
      )
  stuck_sound i p c has (function_input {out = out} {table = table}) stuck =
      (inl (Channels.stuck_function φ n fair.is_long fair.frames_again c out table (λ t. now t i _ has) stuck, tt), tt)
  stuck_sound i p c has (fork_input {a = a} {b = b} {table_a = ta} {table_b = tb}) stuck =
      elim (Channels.stuck_fork φ n fair.is_long fair.frames_again c a b ta tb (λ t. now t i _ has)
      (fair.forks_stay_a i c a b ta tb has) (fair.forks_stay_b i c a b ta tb has) stuck)
      [ inl x ↦ (inl (x, tt), tt) | inr x ↦ (inr (inl (x, tt)), tt) ]
  stuck_sound i p c has (join_input_a {b = b} {out = out} {pass = pass}) stuck = (
    rw (at_first c b c) (elim (Channels.stuck_join φ n fair.is_long fair.frames_again c b out pass (λ t. now t i _ has) (stays_in i _ b has join_input_b) stuck)
        [ inl none ↦ inl (all_idle net s φ b (colours b) none) | inr x ↦ inr (inl (x, tt)) ]),
    tt,
  )
  stuck_sound i p c has (join_input_b {a = a} {out = out} {pass = pass}) stuck = (
    rw (at_second a c c a (join_apart i a c out pass has)) (elim (Channels.stuck_join φ n fair.is_long fair.frames_again c a out (other pass)
        (swapped_join a c out pass (λ t. now t i _ has)) (stays_in i _ a has join_input_a) stuck)
        [ inl none ↦ inl (all_idle net s φ a (colours a) none) | inr x ↦ inr (inl (x, tt)) ]),
    tt,
  )
  stuck_sound i p c has switch_input stuck = (silent_or_dead c (in_below i _ c has switch_input) (stays_in i _ c has switch_input) stuck, tt)
  stuck_sound i p c has merge_input_a stuck = (silent_or_dead c (in_below i _ c has merge_input_a) (stays_in i _ c has merge_input_a) stuck, tt)
  stuck_sound i p c has merge_input_b stuck = (silent_or_dead c (in_below i _ c has merge_input_b) (stays_in i _ c has merge_input_b) stuck, tt)

  merge_apart : (i a b out : ℕ) → HasPrim net i (Merge a b out) → nat_eq b a ≡ false
  merge_apart i a b out has =
      let within = times_within_in net i _ a has in
      let once = wired.one_target a (input_below net wired i _ a has merge_input_a) in
      apart a b (omega arith)

  fork_apart : (i input a b : ℕ) (ta tb : List ℕ) → HasPrim net i (Fork input a b ta tb) → nat_eq b a ≡ false
  fork_apart i input a b ta tb has =
      let within = times_within net i _ a has in
      let once = wired.one_initiator a (output_below net wired i _ a has fork_output_a) in
      apart a b (omega arith)

  stuck_first : (c d : ℕ) → Repeat.Dead c d φ → SomeHolds net s φ ((Stuck c ∷ []) ∷ [])
  stuck_first c d dead = inl (λ t. (dead t).1, tt)

  -- a dead output of a merge whose side is dead
  merge_out_dead : (a b out d : ℕ) → b < net.channels →
      (e : ℕ) × Repeat.Dead out e φ × ((e ≡ d) ⊎ ((φ 0).offer b ≡ Some e)) →
      SomeHolds net s φ (dead_one out (with_colour d (colours b)))
  merge_out_dead a b out d below x =
      some_one net s φ (λ e. Dead out e ∷ []) (with_colour d (colours b)) x.0
      (elim x.2 [
        | inl same ↦ subst (λ (y : ℕ). IsIn (with_colour d (colours b)) y) (sym same) (in_with_itself d (colours b))
        | inr is_offered ↦ in_with_other d x.0 (colours b) (fair.coloured 0 b x.0 below is_offered)
      ])
      (x.1, tt)

  passed_a : (pass : Side) (c b out d v : ℕ) → nat_eq b c ≡ false → Repeat.Dead out (at_side pass d v) φ →
      IsIn (colours b) v →
      SomeHolds net s φ (dead_one out (cond (nat_eq c (at_side pass c b)) (d ∷ []) (colours (at_side pass c b))))
  passed_a A c b out d v differ dead inside = rw (at_first c (d ∷ []) (colours c)) (inl (dead, tt))
  passed_a B c b out d v differ dead inside =
      let e : nat_eq c b ≡ false = ne_eqb c b (λ same. let yes' = eq-eqb b c (sym same) in cc) in
      rw (at_second b c (d ∷ []) (colours b) e) (some_one net s φ (λ x. Dead out x ∷ []) (colours b) v inside (dead, tt))

  passed_b : (pass : Side) (a c out d v : ℕ) → nat_eq c a ≡ false → Repeat.Dead out (at_side (other pass) d v) φ →
      IsIn (colours a) v →
      SomeHolds net s φ (dead_one out (cond (nat_eq c (at_side pass a c)) (d ∷ []) (colours (at_side pass a c))))
  passed_b B a c out d v differ dead inside = rw (at_first c (d ∷ []) (colours c)) (inl (dead, tt))
  passed_b A a c out d v differ dead inside =
      rw (at_second a c (d ∷ []) (colours a) differ) (some_one net s φ (λ x. Dead out x ∷ []) (colours a) v inside (dead, tt))

  both_sides : (pass : Side) (a b d x y : ℕ) → a < net.channels → b < net.channels → Repeat.Dead a x φ →
      Repeat.Dead b y φ → at_side pass x y ≡ d →
      SomeHolds net s φ (one_of (λ e. Dead (at_side pass a b) d ∷ Dead (at_side pass b a) e ∷ []) (colours (at_side pass b a)))
  both_sides A a b d x y below_a below_b on_a on_b passed =
      some_one net s φ (λ e. Dead a d ∷ Dead b e ∷ []) (colours b) y (in_colours b below_b y on_b) (subst (λ (v : ℕ). Repeat.Dead a v φ) passed on_a, (on_b, tt))
  both_sides B a b d x y below_a below_b on_a on_b passed =
      some_one net s φ (λ e. Dead b d ∷ Dead a e ∷ []) (colours a) x (in_colours a below_a x on_a) (subst (λ (v : ℕ). Repeat.Dead b v φ) passed on_b, (on_a, tt))

  pub dead_sound_below : (i : ℕ) (p : Component) (c d : ℕ) → HasPrim net i p → HasInput p c → Repeat.Dead c d φ →
      AllSound net s φ (passing_rules colours c d i p)
  dead_sound_below i p c d has sink_input dead = tt
  dead_sound_below i p c d has queue_input dead = tt
  dead_sound_below i p c d has (function_input {out = out} {table = table}) dead =
      (inl (Channels.dead_function_in φ n fair.is_long fair.frames_again c out table (λ t. now t i _ has) d dead, tt), tt)
  dead_sound_below i p c d has fork_input dead = tt
  dead_sound_below i p c d has (join_input_a {b = b} {out = out} {pass = pass}) dead = (
    rw (at_first c b c)
        (elim (Channels.dead_join_side φ n fair.is_long fair.frames_again c b out pass (λ t. now t i _ has) d (stays_in i _ b has join_input_b) dead) [
          | inl none ↦ inl (all_idle net s φ b (colours b) none)
          | inr x ↦ inr (passed_a pass c b out d x.0 (join_apart i c b out pass has) x.1.1 (in_colours b (in_below i _ b has join_input_b) x.0 x.1.0))
        ]),
    tt,
  )
  dead_sound_below i p c d has (join_input_b {a = a} {out = out} {pass = pass}) dead = (
    rw (at_second a c c a (join_apart i a c out pass has))
        (elim (Channels.dead_join_side φ n fair.is_long fair.frames_again c a out (other pass) (swapped_join a c out pass (λ t. now t i _ has)) d (stays_in i _ a has join_input_a) dead) [
          | inl none ↦ inl (all_idle net s φ a (colours a) none)
          | inr x ↦ inr (passed_b pass a c out d x.0 (join_apart i a c out pass has) x.1.1 (in_colours a (in_below i _ a has join_input_a) x.0 x.1.0))
        ]),
    tt,
  )
  dead_sound_below i p c d has (switch_input {a = a} {b = b} {to_a = to_a}) dead =
      let sides = Channels.dead_switch_in φ n fair.is_long fair.frames_again c a b to_a (λ t. now t i _ has) d dead in (
        elim (cases_Bool (takes_a to_a d))
            [ inl to ↦ rw to (inl (sides.0 to, tt)) | inr to ↦ rw to (inl (sides.1 to, tt)) ],
        tt,
      )
  dead_sound_below i p c d has (merge_input_a {b = b} {out = out}) dead = (
    rw (at_first c b c) (merge_out_dead c b out d (in_below i _ b has merge_input_b)
        (dead_out c b out (λ t. pref_in (s t i)) φ (merge_run i c b out has) n fair.is_long fair.frames_again d (stays_out i _ out has merge_output) dead)),
    tt,
  )
  dead_sound_below i p c d has (merge_input_b {a = a} {out = out}) dead = (
    rw (at_second a c c a (merge_apart i a c out has)) (merge_out_dead c a out d (in_below i _ a has merge_input_a)
        (dead_out c a out (λ t. other (pref_in (s t i))) φ (swapped a c out (λ t. pref_in (s t i)) φ (merge_run i a c out has)) n fair.is_long fair.frames_again d (stays_out i _ out has merge_output) dead)),
    tt,
  )

  pub dead_sound_above : (i : ℕ) (p : Component) (c d : ℕ) → HasPrim net i p → HasOutput p c → Repeat.Dead c d φ →
      AllSound net s φ (offering_rules colours c d i p)
  dead_sound_above i p c d has source_output dead = tt
  dead_sound_above i p c d has queue_output dead =
      (inl (times_head d (packets_in (s 0 i)) (sym (now 0 i _ has).offer_out ∙ (dead 0).0), tt), tt)
  dead_sound_above i p c d has (function_output {input = input} {table = table}) dead =
      let x = Channels.dead_function_out φ n fair.is_long fair.frames_again input c table (λ t. now t i _ has) d (stays_in i _ input has function_input) dead in
      (some_one net s φ (λ e. Dead input e ∷ []) (taken_to table d (colours input)) x.0 (in_taken_to table d x.0 (colours input) (in_colours input (in_below i _ input has function_input) x.0 x.1.0) x.1.1) (x.1.0, tt), tt)
  dead_sound_above i p c d has (fork_output_a {input = input} {b = b} {table_a = ta} {table_b = tb}) dead =
      let x = Channels.dead_fork_a φ n fair.is_long fair.frames_again input c b ta tb (λ t. now t i _ has) d (stays_in i _ input has fork_input) dead in
      (rw (at_first c ta tb) (some_one net s φ (λ e. Dead input e ∷ []) (taken_to ta d (colours input)) x.0 (in_taken_to ta d x.0 (colours input) (in_colours input (in_below i _ input has fork_input) x.0 x.1.0) x.1.1) (x.1.0, tt)), tt)
  dead_sound_above i p c d has (fork_output_b {input = input} {a = a} {table_a = ta} {table_b = tb}) dead =
      let x = Channels.dead_fork_a φ n fair.is_long fair.frames_again input c a tb ta (swapped_fork input a c ta tb (λ t. now t i _ has)) d (stays_in i _ input has fork_input) dead in
      (rw (at_second a c ta tb (fork_apart i input a c ta tb has)) (some_one net s φ (λ e. Dead input e ∷ []) (taken_to tb d (colours input)) x.0 (in_taken_to tb d x.0 (colours input) (in_colours input (in_below i _ input has fork_input) x.0 x.1.0) x.1.1) (x.1.0, tt)), tt)
  dead_sound_above i p c d has (join_output {a = a} {b = b} {pass = pass}) dead =
      let x = Channels.dead_join_out φ n fair.is_long fair.frames_again a b c pass (λ t. now t i _ has) d (stays_in i _ a has join_input_a) (stays_in i _ b has join_input_b) dead in
      (both_sides pass a b d x.0 x.1 (in_below i _ a has join_input_a) (in_below i _ b has join_input_b) x.2.0 x.2.1 x.2.2, tt)
  dead_sound_above i p c d has (switch_output_a {input = input} {b = b} {to_a = to_a}) dead =
      (inl (Channels.dead_switch_a φ n fair.is_long fair.frames_again input c b to_a (λ t. now t i _ has) d dead, tt), tt)
  dead_sound_above i p c d has (switch_output_b {input = input} {a = a} {to_a = to_a}) dead =
      (inl (Channels.dead_switch_b φ n fair.is_long fair.frames_again input a c to_a (λ t. now t i _ has) d dead, tt), tt)
  dead_sound_above i p c d has (merge_output {a = a} {b = b}) dead = (
    elim (dead_side a b c (λ t. pref_in (s t i)) φ (merge_run i a b c has) d (stays_in i _ a has merge_input_a) (stays_in i _ b has merge_input_b) dead)
        [ inl x ↦ inl (x, tt) | inr x ↦ inr (inl (x, tt)) ],
    tt,
  )

  -- a dead channel of another colour
  other_dead : (c d : ℕ) → c < net.channels → (e : ℕ) × (Repeat.Dead c e φ × (e ≢ d)) →
      SomeHolds net s φ (dead_one c (without d (colours c)))
  other_dead c d below x = some_one net s φ (λ e. Dead c e ∷ []) (without d (colours c)) x.0 (in_without d x.0 (colours c) (in_colours c below x.0 x.1.0) x.1.1) (x.1.0, tt)

  via_sound : (input c b d : ℕ) (tc tb : List ℕ) → ((t : ℕ) → ForkEquation input c b tc tb (φ t)) →
      Repeat.Stays input φ → Repeat.Idle c d φ → (xs : List ℕ) → ((x : ℕ) → IsIn xs x → slice_index tc x ≡ d) →
      AllSound net s φ (via_rules input b xs)
  via_sound input c b d tc tb e stays_i idle [] maps = tt
  via_sound input c b d tc tb e stays_i idle (x ∷ xs) maps = (
    elim (Channels.idle_fork_a φ n fair.is_long fair.frames_again input c b tc tb e d x stays_i (maps x (inl refl)) idle)
        [ inl quiet ↦ inl (quiet, tt) | inr both ↦ inr (inl (both.0, (both.1, tt))) ],
    via_sound input c b d tc tb e stays_i idle xs (λ y h. maps y (inr h)),
  )

  idle_join_sound : (pass : Side) (i a b out d : ℕ) → HasPrim net i (Join a b out pass) → Repeat.Idle out d φ →
      SomeHolds net s φ ((Idle (at_side pass a b) d ∷ []) ∷ (Dead (at_side pass a b) d ∷ idle_all colours (at_side pass b a)) ∷ [])
  idle_join_sound A i a b out d has idle =
      elim (Channels.idle_join φ n fair.is_long fair.frames_again a b out A (λ t. now t i _ has) d refl (stays_in i _ a has join_input_a) idle)
      [ inl quiet ↦ inl (quiet, tt) | inr x ↦ inr (inl (x.0, all_idle net s φ b (colours b) x.1)) ]
  idle_join_sound B i a b out d has idle =
      elim (Channels.idle_join φ n fair.is_long fair.frames_again b a out A (swapped_join a b out B (λ t. now t i _ has)) d refl (stays_in i _ b has join_input_b) idle)
      [ inl quiet ↦ inl (quiet, tt) | inr x ↦ inr (inl (x.0, all_idle net s φ a (colours a) x.1)) ]

  switch_apart : (i input a b : ℕ) (to_a : List Bool) → HasPrim net i (Switch input a b to_a) → nat_eq b a ≡ false
  switch_apart i input a b to_a has =
      let within = times_within net i _ a has in
      let once = wired.one_initiator a (output_below net wired i _ a has switch_output_a) in
      apart a b (omega arith)

  turned : (a b : ℕ) → nat_eq a b ≡ false → nat_eq b a ≡ false
  turned a b differ = ne_eqb b a (λ same. let found = eq-eqb a b (sym same) in cc)

  pub idle_sound : (i : ℕ) (p : Component) (c d : ℕ) → HasPrim net i p → HasOutput p c → Repeat.Idle c d φ →
      AllSound net s φ (idle_rules colours c d i p)
  idle_sound i p c d has source_output idle = tt
  idle_sound i p c d has (queue_output {input = input} {capacity = capacity} {initial = initial}) idle = (
    elim (idle_queue input c capacity (λ t. packets_in (s t i)) φ (queue_run i input c capacity initial has) n fair.is_long fair.frames_again
        (λ t. ap packets_in (fair.states_again t i)) d (stays_in i _ input has queue_input) idle)
        [ inl x ↦ inl (times_none d (packets_in (s 0 i)) x.0, where_idle net s φ input d (colours input) x.1) | inr x ↦ inr (other_dead c d (out_below i _ c has queue_output) x) ],
    tt,
  )
  idle_sound i p c d has (function_output {input = input} {table = table}) idle = (
    inl (all_idle_of net s φ input (taken_to table d (colours input)) (λ x h.
        Channels.idle_function φ n fair.is_long fair.frames_again input c table (λ t. now t i _ has) d x idle (taken_to_maps table d x (colours input) h))),
    tt,
  )
  idle_sound i p c d has (fork_output_a {input = input} {b = b} {table_a = ta} {table_b = tb}) idle =
      rw (at_first c b c, at_first c ta tb) (via_sound input c b d ta tb (λ t. now t i _ has) (stays_in i _ input has fork_input) idle (taken_to ta d (colours input)) (λ x h. taken_to_maps ta d x (colours input) h))
  idle_sound i p c d has (fork_output_b {input = input} {a = a} {table_a = ta} {table_b = tb}) idle =
      let e = fork_apart i input a c ta tb has in
      rw (at_second a c c a e, at_second a c ta tb e) (via_sound input c a d tb ta (swapped_fork input a c ta tb (λ t. now t i _ has)) (stays_in i _ input has fork_input) idle (taken_to tb d (colours input)) (λ x h. taken_to_maps tb d x (colours input) h))
  idle_sound i p c d has (join_output {a = a} {b = b} {pass = pass}) idle = (idle_join_sound pass i a b c d has idle, tt)
  idle_sound i p c d has (switch_output_a {input = input} {b = b} {to_a = to_a}) idle =
      elim (cases_Bool (takes_a to_a d)) [
        | inl to ↦ rw to (rw (at_first c (rule I6 ((Idle input d ∷ []) ∷ []) ∷ []) []) (inl (Channels.idle_switch_a φ n fair.is_long fair.frames_again input c b to_a (λ t. now t i _ has) d to idle, tt), tt))
        | inr to ↦ rw to (rw (at_second b c (rule I6 ((Idle input d ∷ []) ∷ []) ∷ []) [] (turned b c (switch_apart i input c b to_a has))) tt)
      ]
  idle_sound i p c d has (switch_output_b {input = input} {a = a} {to_a = to_a}) idle =
      elim (cases_Bool (takes_a to_a d)) [
        | inl to ↦ rw to (rw (at_second a c (rule I6 ((Idle input d ∷ []) ∷ []) ∷ []) [] (switch_apart i input a c to_a has)) tt)
        | inr to ↦ rw to (rw (at_first c (rule I6 ((Idle input d ∷ []) ∷ []) ∷ []) []) (inl (Channels.idle_switch_b φ n fair.is_long fair.frames_again input a c to_a (λ t. now t i _ has) d to idle, tt), tt))
      ]
  idle_sound i p c d has (merge_output {a = a} {b = b}) idle = (
    elim (idle_merge a b c (λ t. pref_in (s t i)) φ (merge_run i a b c has) n fair.is_long fair.frames_again d
        (stays_in i _ a has merge_input_a) (stays_in i _ b has merge_input_b) (stays_out i _ c has merge_output) idle)
        [ inl x ↦ inl (x.0, (x.1, tt)) | inr x ↦ inr (other_dead c d (out_below i _ c has merge_output) x) ],
    tt,
  )

  pub sound-append : (xs ys : List Inference) → AllSound net s φ xs → AllSound net s φ ys → AllSound net s φ (xs ++ ys)
  sound-append [] ys on_xs on_ys = on_ys
  sound-append (x ∷ xs) ys on_xs on_ys = (on_xs.0, sound-append xs ys on_xs.1 on_ys)
