-- The rules and clashes hold on every fair repeating run.
use Rattle.std.proofs.Common.{◌≡◌, ◌≢◌, ℕ, suc, ◌+◌, ◌%◌, ◌<◌, ◌≤◌, Bool, true, false, not, nat_eq, nat_lt, ◌&&◌}
use Rattle.std.proofs.Common.{Option, Some, None, List, [], ◌∷◌, map, length, slice_get, refl, sym, ◌∙◌, ap, subst, inl}
use Rattle.std.proofs.Common.{inr, is_some, arith}
use Rattle.std.proofs.Math.Nat.{mod-lt}
use Rattle.xm_colours.specs.Family.{colours_at}
use Rattle.xm_design.specs.ColouredRuns.{ColoursHold}
use Rattle.xm_design.specs.Designed.{Designed}
use Rattle.xm_design.specs.Lemmas.Offers.{is_some_true}
use Rattle.xm_lits.proofs.Forever as forever
use Rattle.xm_lits.proofs.Forever.{AllSound, IsForever, SomeHolds}
use Rattle.xm_lits.proofs.Repeat
use Rattle.xm_lits.proofs.Channels.{dead_when}
use Rattle.xm_lits.proofs.Sound.{dead_sound_above, dead_sound_below, idle_sound, sound-append, stuck_sound}
use Rattle.xm_lits.proofs.Unroll.{at_own_place, below, first_place, frames_again, frames_for_ever, states_again}
use Rattle.xm_lits.proofs.Unroll.{steps_for_ever}
use Rattle.std.proofs.lemmas.Bool.{and_parts, eq-eqb, eqb-true, ltb-false, ltb-true}
use Rattle.xm_lits.specs.Clashes.{IsClash, all_idle, is_offering, lacks_colour, offers_again, one_offers, one_outside}
use Rattle.xm_lits.specs.Clashes.{are_opposed, is_outside, two_opposed}
use Rattle.xm_lits.specs.Inference.{Inference, by_one, has_colour, by_prim, idle_rules, offering_rules, passing_rules}
use Rattle.xm_lits.specs.Inference.{rules_at, stuck_rules}
use Rattle.xm_lits.specs.Laws.{ClashesHold, IsFairRun, JamsAreDead, RulesHold}
use Rattle.xm_lits.specs.Repeating.{AllOf, Holds, IsJammed, Repetition, SomeOf}
use Rattle.xm_lits.specs.declared.literal.Lit.{Lit}
use Rattle.xm_lits.specs.declared.literal.Lit.TheVariants.{Stuck, Dead, Idle, Full, Has, Lacks}
use Rattle.xm_model.specs.Component.{Component, Content, Fork, Queue, Source}
use Rattle.xm_model.specs.Lemmas.PortCounts.{counted, output_below, initiator_from, first_or_rest, target_from}
use Rattle.xm_model.specs.Frame.{Equation, IsFrame}
use Rattle.xm_model.specs.Lemmas.PrimitiveFits.{prim_fits}
use Rattle.xm_model.specs.Net.{HasPrim, initiators, inputs, outputs, targets}
use Rattle.xm_model.specs.Next.{next}
use Rattle.xm_model.specs.Lemmas.ChannelEnds.{end_of}
use Rattle.xm_model.specs.Ports.{HasOutput, HasInput, fork_output_a, fork_output_b, source_output}
use Rattle.xm_model.specs.Membership.{IsIn, times}
use Rattle.xm_model.specs.Signals.{Signals, offer_chosen, packets_in, pending_in, source_offer}
use Rattle.xm_model.specs.declared.state.Choice.{Choice}
use Rattle.xm_model.specs.declared.primitive.SourceMode.{SourceMode}
use Rattle.xm_model.specs.declared.primitive.SourceMode.TheVariants as source_mode
use Rattle.xm_persist.specs.Rights.{ForksTarget, Granted, GrantsHold, Initiator, HoldsOver, Right, Target}

-- an eager source offers
eager_offers : (cs : List ℕ) (pending choice : Option ℕ) → 0 < length cs →
    (d : ℕ) × (source_offer source_mode.Eager cs pending choice ≡ Some d)
eager_offers [] pending choice h = absurd (omega arith)
eager_offers (c ∷ cs) None None h = (c, refl)
eager_offers (c ∷ cs) None (Some d) h = (d, refl)
eager_offers (c ∷ cs) (Some d) choice h = (d, refl)

-- a packet that is counted stands somewhere
found : (d : ℕ) (ps : List ℕ) → 1 ≤ times d ps → (j : ℕ) × (slice_get ps j ≡ Some d)
found d [] h = absurd (omega arith)
found d (p ∷ ps) h =
    elim (first_or_rest p d (times d ps) h)
    [ inl same ↦ (0, ap Some same) | inr more ↦ let rest = found d ps more in (suc rest.0, rest.1) ]

true_false : true ≡ false → ⊥
true_false e = cc

not_true : (b : Bool) → not b ≡ true → b ≡ false
not_true true e = cc
not_true false e = refl

in_some : (d : ℕ) (ds : List ℕ) → IsIn ds d → 0 < times d ds
in_some d [] inside = absurd inside
in_some d (x ∷ xs) (inl same) = rw (eq-eqb x d same) (omega arith)
in_some d (x ∷ xs) (inr more) = let rest = in_some d xs more in omega (arith, rest)

module _ (grants : GrantsHold) (forks : ForksTarget) (coloured : ColoursHold) (it : Designed) (r : Repetition) (run : IsFairRun it r) where
  abbrev chosen : ℕ → ℕ → Choice
  chosen t = r.choices (r.stem + t % r.cycle)

  abbrev states : ℕ → ℕ → Content
  states t = r.states (r.stem + t % r.cycle)

  abbrev frames : ℕ → Signals
  frames t = r.frames (r.stem + t % r.cycle)

  then : (t : ℕ) → IsFrame it.net (next it.net (states t) (frames t)) (chosen (suc t)) (frames (suc t))
  then t i p has = subst (λ (cell : Content). Equation p cell (chosen (suc t) i) (frames (suc t))) (steps_for_ever it.net r run.repeating t i) (frames_for_ever it.net r run.repeating (suc t) i p has)

  kept : (right : Right) → Granted it.net right → (t : ℕ) → HoldsOver right (frames t) (frames (suc t))
  kept right granted t = grants it.net (states t) (chosen t) (chosen (suc t)) (frames t) (frames (suc t)) right (frames_for_ever it.net r run.repeating t) (then t) granted

  fork_targets : (i input a b : ℕ) (ta tb : List ℕ) → HasPrim it.net i (Fork input a b ta tb) →
      Granted it.net (Target a) × Granted it.net (Target b)
  fork_targets i input a b ta tb has =
      let wired = counted it.net run.designed.net in
      forks it.net i input a b ta tb run.designed.net has
      (run.granted a (output_below it.net wired i _ a has fork_output_a)) (run.granted b (output_below it.net wired i _ b has fork_output_b))

  for_ever : IsForever it.net (colours_at it.colours) r.cycle chosen states frames
  for_ever =
      let known = coloured it.net it.order (colours_at it.colours) (r.stem + r.cycle) r.choices r.states r.frames run.designed.net run.designed.order run.designed.colours.closed run.repeating.choices run.repeating.run in
      let inside : (t : ℕ) → r.stem + t % r.cycle < r.stem + r.cycle = λ t. below it.net r run.repeating t in
      record {
        is_net = run.designed.net;
        offers_stay = λ c h t. kept (Initiator c) (run.granted c h) t;
        forks_stay_a = λ i input a b ta tb has t. kept (Target a) (fork_targets i input a b ta tb has).0 t;
        forks_stay_b = λ i input a b ta tb has t. kept (Target b) (fork_targets i input a b ta tb has).1 t;
        is_long = run.repeating.is_long;
        frames = frames_for_ever it.net r run.repeating;
        steps = steps_for_ever it.net r run.repeating;
        frames_again = frames_again it.net r run.repeating;
        states_again = states_again it.net r run.repeating;
        sinks = λ i input mode has. let at = run.fair.sinks i input mode has in
            (at.0, ap (λ (m : ℕ). (r.frames m).ready input) (at_own_place it.net r run.repeating at.0 at.1.0) ∙ at.1.1);
        sources = λ i out cs has. let at = run.fair.sources i out cs has in
            (at.0, ap (λ (m : ℕ). is_some ((r.frames m).offer out)) (at_own_place it.net r run.repeating at.0 at.1.0) ∙ at.1.1);
        fits = λ i input out capacity t initial has. (known.0 (r.stem + t % r.cycle) i _ (let h = inside t in omega arith) has).1;
        packets = λ i input out capacity j d initial has at. (known.0 (r.stem + 0 % r.cycle) i _ (let h = inside 0 in omega arith) has).0 j d at;
        coloured = λ t c d h is. known.1 (r.stem + t % r.cycle) c d (inside t) h is;
      }

  own : (P : ℕ → Type 0) (t : ℕ) → t < r.cycle → P (r.stem + t % r.cycle) → P (r.stem + t)
  own P t h x = subst P (at_own_place it.net r run.repeating t h) x

  -- a literal says the same of the cycle once and of the cycle for ever
  go_on : (l : Lit) → Holds it.net r l → forever.Holds it.net states frames l
  go_on (Stuck c) h = λ t. h (t % r.cycle) (mod-lt t run.repeating.is_long)
  go_on (Dead c d) h = λ t. h (t % r.cycle) (mod-lt t run.repeating.is_long)
  go_on (Idle c d) h = λ t. h (t % r.cycle) (mod-lt t run.repeating.is_long)
  go_on (Full q) h = ap (λ (m : ℕ). length (packets_in (r.states m q))) (first_place it.net r run.repeating) ∙ h
  go_on (Has q d) h = subst (λ (m : ℕ). 1 ≤ times d (packets_in (r.states m q))) (sym (first_place it.net r run.repeating)) h
  go_on (Lacks q d) h = ap (λ (m : ℕ). times d (packets_in (r.states m q))) (first_place it.net r run.repeating) ∙ h

  come_back : (l : Lit) → forever.Holds it.net states frames l → Holds it.net r l
  come_back (Stuck c) h = λ t short. own (λ (m : ℕ). (r.frames m).ready c ≡ false) t short (h t)
  come_back (Dead c d) h = λ t short. own (λ (m : ℕ). ((r.frames m).offer c ≡ Some d) × ((r.frames m).ready c ≡ false)) t short (h t)
  come_back (Idle c d) h = λ t short. own (λ (m : ℕ). (r.frames m).offer c ≢ Some d) t short (h t)
  come_back (Full q) h = ap (λ (m : ℕ). length (packets_in (r.states m q))) (sym (first_place it.net r run.repeating)) ∙ h
  come_back (Has q d) h = subst (λ (m : ℕ). 1 ≤ times d (packets_in (r.states m q))) (first_place it.net r run.repeating) h
  come_back (Lacks q d) h = ap (λ (m : ℕ). times d (packets_in (r.states m q))) (sym (first_place it.net r run.repeating)) ∙ h

  all_go_on : (ls : List Lit) → AllOf (Holds it.net r) ls → AllOf (forever.Holds it.net states frames) ls
  all_go_on [] h = tt
  all_go_on (l ∷ ls) h = (go_on l h.0, all_go_on ls h.1)

  all_come_back : (ls : List Lit) → AllOf (forever.Holds it.net states frames) ls → AllOf (Holds it.net r) ls
  all_come_back [] h = tt
  all_come_back (l ∷ ls) h = (come_back l h.0, all_come_back ls h.1)

  some_come_back : (alternatives : List (List Lit)) → SomeOf (forever.Holds it.net states frames) alternatives →
      SomeOf (Holds it.net r) alternatives
  some_come_back [] h = h
  some_come_back (a ∷ others) h = elim h [ inl x ↦ inl (all_come_back a x) | inr x ↦ inr (some_come_back others x) ]

  -- the rules by the one end of a channel hold where those by each such end do
  by_end : (f : ℕ → Component → List Inference) (p : ℕ) → (o : Option Component) →
      ((m : Component) → o ≡ Some m → AllSound it.net states frames (f p m)) →
      AllSound it.net states frames (by_prim f p o)
  by_end f p None sound = tt
  by_end f p (Some m) sound = sound m refl

  by_taker : (c : ℕ) (f : ℕ → Component → List Inference) →
      ((p : ℕ) (m : Component) → HasPrim it.net p m → HasInput m c → AllSound it.net states frames (f p m)) →
      (ps : List ℕ) → targets it.net.prims c ≡ ps → AllSound it.net states frames (by_one f it.net ps)
  by_taker c f sound [] at = tt
  by_taker c f sound (p ∷ []) at =
      let target = target_from it.net p c (end_of inputs it.net.prims c p at) in
      by_end f p (slice_get it.net.prims p) (λ m has. sound p m has (subst (λ (x : Component). HasInput x c) (let e : target.prim ≡ m = cc (target.has, has) in e) target.has_input))
  by_taker c f sound (p ∷ q ∷ ps) at = tt

  by_driver : (c : ℕ) (f : ℕ → Component → List Inference) →
      ((p : ℕ) (m : Component) → HasPrim it.net p m → HasOutput m c → AllSound it.net states frames (f p m)) →
      (ps : List ℕ) → initiators it.net.prims c ≡ ps → AllSound it.net states frames (by_one f it.net ps)
  by_driver c f sound [] at = tt
  by_driver c f sound (p ∷ []) at =
      let initiator = initiator_from it.net p c (end_of outputs it.net.prims c p at) in
      by_end f p (slice_get it.net.prims p) (λ m has. sound p m has (subst (λ (x : Component). HasOutput x c) (let e : initiator.prim ≡ m = cc (initiator.has, has) in e) initiator.has_output))
  by_driver c f sound (p ∷ q ∷ ps) at = tt

  all_sound : (l : Lit) → forever.Holds it.net states frames l →
      AllSound it.net states frames (rules_at it.net (colours_at it.colours) l)
  all_sound (Stuck c) holds =
      by_taker c (stuck_rules (colours_at it.colours) c)
      (λ p m has takes. stuck_sound it.net (colours_at it.colours) r.cycle chosen states frames for_ever p m c has takes holds) (targets it.net.prims c) refl
  all_sound (Dead c d) holds = (
    inl (λ t. (holds t).1, tt),
    sound-append it.net (colours_at it.colours) r.cycle chosen states frames for_ever
        (by_one (passing_rules (colours_at it.colours) c d) it.net (targets it.net.prims c)) (by_one (offering_rules (colours_at it.colours) c d) it.net (initiators it.net.prims c))
        (by_taker c (passing_rules (colours_at it.colours) c d)
        (λ p m has takes. dead_sound_below it.net (colours_at it.colours) r.cycle chosen states frames for_ever p m c d has takes holds) (targets it.net.prims c) refl)
        (by_driver c (offering_rules (colours_at it.colours) c d)
        (λ p m has drives. dead_sound_above it.net (colours_at it.colours) r.cycle chosen states frames for_ever p m c d has drives holds) (initiators it.net.prims c) refl),
  )
  all_sound (Idle c d) holds =
      by_driver c (idle_rules (colours_at it.colours) c d)
      (λ p m has drives. idle_sound it.net (colours_at it.colours) r.cycle chosen states frames for_ever p m c d has drives holds) (initiators it.net.prims c) refl
  all_sound (Full q) holds = tt
  all_sound (Has q d) holds = tt
  all_sound (Lacks q d) holds = tt

  sound_in : (rs : List Inference) (rule : Inference) → IsIn rs rule → AllSound it.net states frames rs →
      SomeHolds it.net states frames rule.alternatives
  sound_in [] rule at sound = absurd at
  sound_in (x ∷ xs) rule at sound =
      elim at [ inl same ↦ subst (λ (y : Inference). SomeHolds it.net states frames y.alternatives) same sound.0 | inr more ↦ sound_in xs rule more sound.1 ]

  pub rule_holds : (l : Lit) (rule : Inference) → IsIn (rules_at it.net (colours_at it.colours) l) rule →
      Holds it.net r l → SomeOf (Holds it.net r) rule.alternatives
  rule_holds l rule at holds = some_come_back rule.alternatives (sound_in (rules_at it.net (colours_at it.colours) l) rule at (all_sound l (go_on l holds)))

  idle_each : (c d : ℕ) (ds : List ℕ) → AllOf (forever.Holds it.net states frames) (map (λ x. Idle c x) ds) →
      IsIn ds d → Repeat.Idle c d frames
  idle_each c d [] all inside = absurd inside
  idle_each c d (x ∷ xs) all inside =
      elim inside [ inl same ↦ subst (λ (y : ℕ). Repeat.Idle c y frames) same all.0 | inr rest ↦ idle_each c d xs all.1 rest ]

  dead_idle_fails : (c d e f : ℕ) → (nat_eq c e && nat_eq d f) ≡ true → Repeat.Dead c d frames →
      Repeat.Idle e f frames → ⊥
  dead_idle_fails c d e f test dead idle =
      let both = and_parts (nat_eq c e) (nat_eq d f) test in let x = eqb-true c e both.0 in let y = eqb-true d f both.1 in
      idle 0 (ap (frames 0).offer (sym x) ∙ (dead 0).0 ∙ ap Some y)

  opposed_fails : (l m : Lit) → are_opposed l m ≡ true → forever.Holds it.net states frames l →
      forever.Holds it.net states frames m → ⊥
  opposed_fails (Dead c d) (Idle e f) test on_l on_m = dead_idle_fails c d e f test on_l on_m
  opposed_fails (Idle c d) (Dead e f) test on_l on_m =
      let both = and_parts (nat_eq c e) (nat_eq d f) test in let x = eqb-true c e both.0 in let y = eqb-true d f both.1 in
      on_l 0 (ap (frames 0).offer x ∙ (on_m 0).0 ∙ ap Some (sym y))
  opposed_fails (Dead c d) (Dead e f) test on_l on_m =
      let both = and_parts (nat_eq c e) (not (nat_eq d f)) test in
      let x = eqb-true c e both.0 in
      let one : (frames 0).offer e ≡ Some d = ap (frames 0).offer (sym x) ∙ (on_l 0).0 in
      let two = (on_m 0).0 in
      let y : d ≡ f = cc in
      let same = eq-eqb d f y in
      let differ = both.1 in
      true_false (sym differ ∙ ap not same)
  opposed_fails _ _ test on_l on_m = true_false (sym test)

  -- a colour that stands in a set is found there
  not_outside : (ds : List ℕ) (d : ℕ) → IsIn ds d → has_colour ds d ≡ false → ⊥
  not_outside ds d inside test = let few = ltb-false 0 (times d ds) test in let some = in_some d ds inside in absurd (omega arith)

  queue_fails : (q d : ℕ) (o : Option Component) → slice_get it.net.prims q ≡ o →
      lacks_colour (colours_at it.colours) d o ≡ true → forever.Holds it.net states frames (Has q d) → ⊥
  queue_fails q d (Some (Queue input out capacity initial)) has test on =
      let at = found d (packets_in (states 0 q)) on in
      not_outside (colours_at it.colours out) d (for_ever.packets q input out capacity at.0 d initial has at.1) (not_true (has_colour (colours_at it.colours out) d) test)
  queue_fails q d _ has test on = true_false (sym test)

  outside_fails : (l : Lit) → is_outside it l ≡ true → forever.Holds it.net states frames l → ⊥
  outside_fails (Dead c d) test on =
      let both = and_parts (nat_lt c it.net.channels) (not (has_colour (colours_at it.colours c) d)) test in
      not_outside (colours_at it.colours c) d (for_ever.coloured 0 c d (ltb-true c it.net.channels both.0) (on 0).0) (not_true (has_colour (colours_at it.colours c) d) both.1)
  outside_fails (Has q d) test on = queue_fails q d (slice_get it.net.prims q) refl test on
  outside_fails _ test on = true_false (sym test)

  offers_some : (i c : ℕ) (cs : List ℕ) (mode : SourceMode) → offers_again mode ≡ true →
      HasPrim it.net i (Source c cs mode) → (t : ℕ) × ((d : ℕ) × ((frames t).offer c ≡ Some d))
  offers_some i c cs source_mode.Eager test has =
      let e = for_ever.frames 0 i (Source c cs source_mode.Eager) has in
      let o = eager_offers cs (pending_in (states 0 i)) (offer_chosen (chosen 0 i)) (prim_fits it.net run.designed.net i _ has).0 in
      (0, (o.0, e.offer_out ∙ o.1))
  offers_some i c cs source_mode.Fair test has =
      let at = for_ever.sources i c cs has in
      (at.0, is_some_true ((frames at.0).offer c) at.1)
  offers_some i c cs source_mode.Keep test has = absurd (true_false (sym test))
  offers_some i c cs source_mode.Free test has = absurd (true_false (sym test))

  source_fails : (c p : ℕ) (m : Component) → HasPrim it.net p m → HasOutput m c → is_offering (Some m) ≡ true →
      AllOf (forever.Holds it.net states frames) (map (λ x. Idle c x) (colours_at it.colours c)) → ⊥
  source_fails c p m has (source_output {colours = cs} {mode = mode}) test all =
      let at = offers_some p c cs mode test has in
      let short = output_below it.net (counted it.net run.designed.net) p _ c has source_output in
      idle_each c at.1.0 (colours_at it.colours c) all (for_ever.coloured at.0 c at.1.0 short at.1.1) at.0 at.1.1
  source_fails c p m has _ test all = true_false (sym test)

  offered_fails : (c : ℕ) (ps : List ℕ) → initiators it.net.prims c ≡ ps → one_offers it.net ps ≡ true →
      AllOf (forever.Holds it.net states frames) (map (λ x. Idle c x) (colours_at it.colours c)) → ⊥
  offered_fails c [] at test all = true_false (sym test)
  offered_fails c (p ∷ []) at test all =
      let initiator = initiator_from it.net p c (end_of outputs it.net.prims c p at) in
      source_fails c p initiator.prim initiator.has initiator.has_output (ap is_offering (sym initiator.has) ∙ test) all
  offered_fails c (p ∷ q ∷ ps) at test all = true_false (sym test)

  pub clash_fails : (ls : List Lit) → IsClash it ls → AllOf (Holds it.net r) ls → ⊥
  clash_fails ls (two_opposed l m are) all = opposed_fails l m are (go_on l all.0) (go_on m all.1.0)
  clash_fails ls (one_outside l is) all = outside_fails l is (go_on l all.0)
  clash_fails ls (all_idle c is) all = offered_fails c (initiators it.net.prims c) refl is (all_go_on (map (λ x. Idle c x) (colours_at it.colours c)) all)

  pub jam_is_dead : (c : ℕ) → c < it.net.channels → IsJammed r c →
      (d : ℕ) × (IsIn (colours_at it.colours c) d × Holds it.net r (Dead c d))
  jam_is_dead c short jammed =
      let o = is_some_true ((frames 0).offer c) (jammed (0 % r.cycle) (mod-lt 0 run.repeating.is_long)).0 in
      let dead = dead_when frames r.cycle run.repeating.is_long for_ever.frames_again c o.0 (for_ever.offers_stay c short)
      (λ u here. (jammed (u % r.cycle) (mod-lt u run.repeating.is_long)).1) 0 o.1 in
      (o.0, (for_ever.coloured 0 c o.0 short o.1, come_back (Dead c o.0) dead))

pub jams_are_dead : GrantsHold → ForksTarget → ColoursHold → JamsAreDead
jams_are_dead grants forks coloured it r run c short jammed = jam_is_dead grants forks coloured it r run c short jammed

pub rules_hold : GrantsHold → ForksTarget → ColoursHold → RulesHold
rules_hold grants forks coloured it r run l rule at holds = rule_holds grants forks coloured it r run l rule at holds

pub clashes_hold : GrantsHold → ForksTarget → ColoursHold → ClashesHold
clashes_hold grants forks coloured it r run ls clash all = clash_fails grants forks coloured it r run ls clash all
