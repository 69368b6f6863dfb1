-- What the rules of a literal of the net lead to are literals of the net.
use Rattle.std.proofs.Common.{◌≡◌, ◌⊎◌, ℕ, ◌<◌, Bool, true, false, List, [], ◌∷◌, map, All, cond, Some, None, refl, inl, inr, arith, slice_get}
use Rattle.std.specs.Prelude.{Option, nat_eq, nat_lt, slice_index}
use Rattle.std.proofs.lemmas.List.Elements.{All-append, All-cons, All-nil}
use Rattle.std.proofs.lemmas.Option.{get_or_from_slice_get, slice_get_within}
use Rattle.xm_colours.specs.Family.{colours_at}
use Rattle.xm_design.specs.Designed.{Designed}
use Rattle.xm_lits.specs.Inference.{Inference, by_one, by_prim, dead_one, dead_other, idle_all, idle_of, idle_rules, idle_where}
use Rattle.xm_lits.specs.Inference.{map_to, offering_rules, one_rule, other_than, passed, passing_rules, rule, rules_of, stuck_rules, taken_to, via_rule, via_rules, way_of, with_colour, without}
use Rattle.xm_lits.specs.declared.inference.RuleName.TheVariants.{I6}
use Rattle.xm_lits.specs.declared.literal.Lit.{Lit}
use Rattle.xm_lits.specs.declared.literal.Lit.TheVariants.{Dead, Full, Has, Idle, Lacks, Stuck}
use Rattle.xm_model.specs.Component.{Component, Fork, Function, Join, Merge, Queue, Sink, Source, Switch}
use Rattle.xm_model.specs.Lemmas.PrimitiveFits.{prim_fits}
use Rattle.xm_model.specs.Membership.{IsIn}
use Rattle.xm_model.specs.Net.{FitsComponent, HasPrim, IsNet, Network, initiators, inputs, outputs, targets}
use Rattle.xm_model.specs.Signals.{at_side}
use Rattle.xm_model.specs.declared.primitive.Side.{Side}
use Rattle.xm_model.specs.declared.primitive.Side.TheVariants as side
use Rattle.xm_proof.specs.OfNet.{IsChannel, IsColour, IsLiteralOf, IsQueue, IsViaOf}

-- the rule's colour and its alternatives are of the net
pub record IsRuleOf (net : Network) (r : Inference) : Type 0 where
  pub via : IsViaOf net r.name r.via
  pub alternatives : All (All (IsLiteralOf net)) r.alternatives

-- ---- lists

each_of : {X : Type 0} (P : X → Type 0) (f : ℕ → X) (ds : List ℕ) → ((d : ℕ) → IsIn ds d → P (f d)) → All P (map f ds)
each_of P f [] each = All-nil P
each_of P f (d ∷ ds) each = All-cons P (f d) (map f ds) (each d (inl refl)) (each_of P f ds (λ e h. each e (inr h)))

one : {X : Type 0} (P : X → Type 0) (x : X) → P x → All P (x ∷ [])
one P x h = All-cons P x [] h (All-nil P)

two : {X : Type 0} (P : X → Type 0) (x y : X) → P x → P y → All P (x ∷ y ∷ [])
two P x y h g = All-cons P x (y ∷ []) h (one P y g)

either : {X : Type 0} (P : X → Type 0) (b : Bool) (x y : X) → P x → P y → P (cond b x y)
either P true x y h g = h
either P false x y h g = g

at_either : (P : ℕ → Type 0) (s : Side) (a b : ℕ) → P a → P b → P (at_side s a b)
at_either P side.A a b h g = h
at_either P side.B a b h g = g

in_cond : {X : Type 0} (b : Bool) (xs ys : List X) (x : X) → IsIn (cond b xs ys) x → IsIn xs x ⊎ IsIn ys x
in_cond true xs ys x h = inl h
in_cond false xs ys x h = inr h

in_taken : (table : List ℕ) (d : ℕ) (xs : List ℕ) (e : ℕ) → IsIn (taken_to table d xs) e → IsIn xs e
in_taken table d [] e h = absurd h
in_taken table d (x ∷ xs) e h =
    elim (in_cond _ (x ∷ taken_to table d xs) (taken_to table d xs) e h) [
      | inl (inl same) ↦ inl same
      | inl (inr g) ↦ inr (in_taken table d xs e g)
      | inr g ↦ inr (in_taken table d xs e g)
    ]

in_without : (d : ℕ) (xs : List ℕ) (e : ℕ) → IsIn (without d xs) e → IsIn xs e
in_without d [] e h = absurd h
in_without d (x ∷ xs) e h =
    elim (in_cond _ (without d xs) (x ∷ without d xs) e h) [
      | inl g ↦ inr (in_without d xs e g)
      | inr (inl same) ↦ inl same
      | inr (inr g) ↦ inr (in_without d xs e g)
    ]

in_with : (d : ℕ) (xs : List ℕ) (e : ℕ) → IsIn (with_colour d xs) e → (d ≡ e) ⊎ IsIn xs e
in_with d [] e (inl same) = inl same
in_with d [] e (inr h) = absurd h
in_with d (x ∷ xs) e h =
    elim (in_cond (nat_eq x d) (x ∷ xs) (cond (nat_lt d x) (d ∷ x ∷ xs) (x ∷ with_colour d xs)) e h) [
      | inl g ↦ inr g
      | inr g ↦ elim (in_cond (nat_lt d x) (d ∷ x ∷ xs) (x ∷ with_colour d xs) e g) [
        | inl (inl same) ↦ inl same
        | inl (inr k) ↦ inr k
        | inr (inl same) ↦ inr (inl same)
        | inr (inr k) ↦ elim (in_with d xs e k) [ inl same ↦ inl same | inr k2 ↦ inr (inr k2) ]
      ]
    ]

-- ---- rules of one primitive

module _ (net : Network) (colours : ℕ → List ℕ) (below : (c d : ℕ) → IsIn (colours c) d → d < net.colours) where
  abbrev Lits : List Lit → Type 0
  Lits ls = All (IsLiteralOf net) ls

  one_lit : (l : Lit) → IsLiteralOf net l → Lits (l ∷ [])
  one_lit l h = one (IsLiteralOf net) l h

  idle_lits : (c : ℕ) (ds : List ℕ) → IsChannel net c → ((d : ℕ) → IsIn ds d → IsColour net d) → Lits (idle_of c ds)
  idle_lits c ds channel each = each_of (IsLiteralOf net) (λ d. Idle c d) ds (λ d h. (channel, each d h))

  all_idle : (c : ℕ) → IsChannel net c → Lits (idle_all colours c)
  all_idle c channel = idle_lits c (colours c) channel (below c)

  dead_lits : (c : ℕ) (ds : List ℕ) → IsChannel net c → ((d : ℕ) → IsIn ds d → IsColour net d) → All Lits (dead_one c ds)
  dead_lits c ds channel each = each_of Lits (λ d. Dead c d ∷ []) ds (λ d h. one_lit (Dead c d) (channel, each d h))

  one_alternative : (ls : List Lit) → Lits ls → All Lits (ls ∷ [])
  one_alternative ls h = one Lits ls h

  two_alternatives : (ls ms : List Lit) → Lits ls → Lits ms → All Lits (ls ∷ ms ∷ [])
  two_alternatives ls ms h g = two Lits ls ms h g

  more : (ls : List Lit) (rest : List (List Lit)) → Lits ls → All Lits rest → All Lits (ls ∷ rest)
  more ls rest h g = All-cons Lits ls rest h g

  abbrev Rules : List Inference → Type 0
  Rules rs = All (IsRuleOf net) rs

  no_rules : Rules []
  no_rules = All-nil (IsRuleOf net)

  one_of_net : (r : Inference) → IsRuleOf net r → Rules (r ∷ [])
  one_of_net r h = one (IsRuleOf net) r h

  -- the colours of the other input of a join or a merge, and that input
  other_channel : (c a b : ℕ) → IsChannel net a → IsChannel net b → IsChannel net (other_than c a b)
  other_channel c a b h g = either (IsChannel net) _ b a g h

  stuck_of_net : (c p : ℕ) (m : Component) → HasPrim net p m → IsChannel net c → All (IsChannel net) (outputs m) → All (IsChannel net) (inputs m) → Rules (stuck_rules colours c p m)
  stuck_of_net c p (Source out cs mode) has channel outs ins = no_rules
  stuck_of_net c p (Sink input mode) has channel outs ins = one_of_net _ (record { via = refl; alternatives = All-nil Lits })
  stuck_of_net c p (Queue input out capacity initial) has channel outs ins =
      let at : IsChannel net out = outs 0 out (omega arith) in
      let queue : IsQueue net p = rw has refl in
      one_of_net _ (record { via = refl; alternatives = each_of Lits (λ e. Full p ∷ Dead out e ∷ []) (colours out) (λ e h. two (IsLiteralOf net) (Full p) (Dead out e) queue (at, below out e h)) })
  stuck_of_net c p (Function input out table) has channel outs ins = one_of_net _ (record { via = refl; alternatives = one_alternative _ (one_lit (Stuck out) (outs 0 out (omega arith))) })
  stuck_of_net c p (Fork input a b ta tb) has channel outs ins =
      one_of_net _ (record { via = refl; alternatives = two_alternatives (Stuck a ∷ []) (Stuck b ∷ []) (one_lit (Stuck a) (outs 0 a (omega arith))) (one_lit (Stuck b) (outs 1 b (omega arith))) })
  stuck_of_net c p (Join a b out pass) has channel outs ins =
      let other : IsChannel net (other_than c a b) = other_channel c a b (ins 0 a (omega arith)) (ins 1 b (omega arith)) in
      one_of_net _ (record { via = refl; alternatives = two_alternatives (idle_all colours (other_than c a b)) (Stuck out ∷ []) (all_idle (other_than c a b) other) (one_lit (Stuck out) (outs 0 out (omega arith))) })
  stuck_of_net c p (Switch input a b to_a) has channel outs ins = one_of_net _ (record { via = refl; alternatives = more _ _ (all_idle c channel) (dead_lits c (colours c) channel (below c)) })
  stuck_of_net c p (Merge a b out) has channel outs ins = one_of_net _ (record { via = refl; alternatives = more _ _ (all_idle c channel) (dead_lits c (colours c) channel (below c)) })

  passing_of_net : (c d p : ℕ) (m : Component) → IsChannel net c → IsColour net d → FitsComponent net.colours m → All (IsChannel net) (outputs m) → All (IsChannel net) (inputs m) → Rules (passing_rules colours c d p m)
  passing_of_net c d p (Source out cs mode) channel colour fits outs ins = no_rules
  passing_of_net c d p (Sink input mode) channel colour fits outs ins = no_rules
  passing_of_net c d p (Queue input out capacity initial) channel colour fits outs ins = no_rules
  passing_of_net c d p (Function input out table) channel colour fits outs ins =
      let image : IsColour net (slice_index table d) = fits.1 d 0 (omega (arith, fits.0, colour)) in
      one_of_net _ (record { via = refl; alternatives = one_alternative _ (one_lit (Dead out (slice_index table d)) (outs 0 out (omega arith), image)) })
  passing_of_net c d p (Fork input a b ta tb) channel colour fits outs ins = no_rules
  passing_of_net c d p (Join a b out pass) channel colour fits outs ins =
      let other : IsChannel net (other_than c a b) = other_channel c a b (ins 0 a (omega arith)) (ins 1 b (omega arith)) in
      let from = at_side pass a b in
      let each : (e : ℕ) → IsIn (passed colours c d from) e → IsColour net e = λ e h. elim (in_cond _ (d ∷ []) (colours from) e h) [
        | inl (inl same) ↦ (let k : e < net.colours = omega (arith, same, colour) in k)
        | inl (inr g) ↦ absurd g
        | inr g ↦ below from e g
      ] in
      one_of_net _ (record { via = refl; alternatives = more _ _ (all_idle _ other) (dead_lits out (passed colours c d from) (outs 0 out (omega arith)) each) })
  passing_of_net c d p (Switch input a b to_a) channel colour fits outs ins =
      one_of_net _ (record { via = refl; alternatives = one_alternative _ (one_lit (Dead (way_of to_a d a b) d) (either (IsChannel net) _ a b (outs 0 a (omega arith)) (outs 1 b (omega arith)), colour)) })
  passing_of_net c d p (Merge a b out) channel colour fits outs ins =
      let other = other_than c a b in
      let each : (e : ℕ) → IsIn (with_colour d (colours other)) e → IsColour net e = λ e h. elim (in_with d (colours other) e h) [
        | inl same ↦ (let k : e < net.colours = omega (arith, same, colour) in k)
        | inr g ↦ below other e g
      ] in
      one_of_net _ (record { via = refl; alternatives = dead_lits out (with_colour d (colours other)) (outs 0 out (omega arith)) each })

  offering_of_net : (c d p : ℕ) (m : Component) → HasPrim net p m → IsChannel net c → IsColour net d → All (IsChannel net) (outputs m) → All (IsChannel net) (inputs m) → Rules (offering_rules colours c d p m)
  offering_of_net c d p (Source out cs mode) has channel colour outs ins = no_rules
  offering_of_net c d p (Sink input mode) has channel colour outs ins = no_rules
  offering_of_net c d p (Queue input out capacity initial) has channel colour outs ins =
      let queue : IsQueue net p = rw has refl in
      one_of_net _ (record { via = refl; alternatives = one_alternative _ (one_lit (Has p d) (queue, colour)) })
  offering_of_net c d p (Function input out table) has channel colour outs ins =
      one_of_net _ (record { via = refl; alternatives = dead_lits input (taken_to table d (colours input)) (ins 0 input (omega arith)) (λ e h. below input e (in_taken table d (colours input) e h)) })
  offering_of_net c d p (Fork input a b ta tb) has channel colour outs ins =
      one_of_net _ (record { via = refl; alternatives = dead_lits input (taken_to (map_to c a ta tb) d (colours input)) (ins 0 input (omega arith)) (λ e h. below input e (in_taken (map_to c a ta tb) d (colours input) e h)) })
  offering_of_net c d p (Join a b out pass) has channel colour outs ins =
      let at : IsChannel net (at_side pass a b) = at_either (IsChannel net) pass a b (ins 0 a (omega arith)) (ins 1 b (omega arith)) in
      let other : IsChannel net (at_side pass b a) = at_either (IsChannel net) pass b a (ins 1 b (omega arith)) (ins 0 a (omega arith)) in
      one_of_net _ (record { via = refl; alternatives = each_of Lits (λ e. Dead (at_side pass a b) d ∷ Dead (at_side pass b a) e ∷ []) (colours (at_side pass b a)) (λ e h. two (IsLiteralOf net) _ _ (at, colour) (other, below _ e h)) })
  offering_of_net c d p (Switch input a b to_a) has channel colour outs ins = one_of_net _ (record { via = refl; alternatives = one_alternative _ (one_lit (Dead input d) (ins 0 input (omega arith), colour)) })
  offering_of_net c d p (Merge a b out) has channel colour outs ins =
      one_of_net _ (record { via = refl; alternatives = two_alternatives (Dead a d ∷ []) (Dead b d ∷ []) (one_lit (Dead a d) (ins 0 a (omega arith), colour)) (one_lit (Dead b d) (ins 1 b (omega arith), colour)) })

  other_dead : (c d : ℕ) → IsChannel net c → All Lits (dead_other colours c d)
  other_dead c d channel = dead_lits c (without d (colours c)) channel (λ e h. below c e (in_without d (colours c) e h))

  idle_where_lits : (c d : ℕ) → IsChannel net c → IsColour net d → Lits (idle_where c d (colours c))
  idle_where_lits c d channel colour = either Lits _ (Idle c d ∷ []) [] (one_lit (Idle c d) (channel, colour)) (All-nil (IsLiteralOf net))

  via_of_net : (input other : ℕ) (xs : List ℕ) → IsChannel net input → IsChannel net other → ((x : ℕ) → IsIn xs x → IsColour net x) → Rules (via_rules input other xs)
  via_of_net input other xs at there each =
      each_of (IsRuleOf net) (via_rule input other) xs
      (λ x h. record {
        via = (refl, each x h);
        alternatives = two_alternatives (Idle input x ∷ []) (Dead input x ∷ Stuck other ∷ []) (one_lit (Idle input x) (at, each x h)) (two (IsLiteralOf net) (Dead input x) (Stuck other) (at, each x h) there);
      })

  idle_of_net : (c d p : ℕ) (m : Component) → HasPrim net p m → IsChannel net c → IsColour net d → All (IsChannel net) (outputs m) → All (IsChannel net) (inputs m) → Rules (idle_rules colours c d p m)
  idle_of_net c d p (Source out cs mode) has channel colour outs ins = no_rules
  idle_of_net c d p (Sink input mode) has channel colour outs ins = no_rules
  idle_of_net c d p (Queue input out capacity initial) has channel colour outs ins =
      let queue : IsQueue net p = rw has refl in
      one_of_net _ (record { via = refl; alternatives = more _ _ (All-cons (IsLiteralOf net) (Lacks p d) (idle_where input d (colours input)) (queue, colour) (idle_where_lits input d (ins 0 input (omega arith)) colour)) (other_dead c d channel) })
  idle_of_net c d p (Function input out table) has channel colour outs ins =
      one_of_net _ (record { via = refl; alternatives = one_alternative _ (idle_lits input (taken_to table d (colours input)) (ins 0 input (omega arith)) (λ e h. below input e (in_taken table d (colours input) e h))) })
  idle_of_net c d p (Fork input a b ta tb) has channel colour outs ins =
      via_of_net input (other_than c a b) (taken_to (map_to c a ta tb) d (colours input)) (ins 0 input (omega arith)) (other_channel c a b (outs 0 a (omega arith)) (outs 1 b (omega arith)))
      (λ x h. below input x (in_taken (map_to c a ta tb) d (colours input) x h))
  idle_of_net c d p (Join a b out pass) has channel colour outs ins =
      let at : IsChannel net (at_side pass a b) = at_either (IsChannel net) pass a b (ins 0 a (omega arith)) (ins 1 b (omega arith)) in
      let other : IsChannel net (at_side pass b a) = at_either (IsChannel net) pass b a (ins 1 b (omega arith)) (ins 0 a (omega arith)) in
      one_of_net _ (record { via = refl; alternatives = two_alternatives (Idle (at_side pass a b) d ∷ []) (Dead (at_side pass a b) d ∷ idle_all colours (at_side pass b a)) (one_lit (Idle (at_side pass a b) d) (at, colour)) (All-cons (IsLiteralOf net) (Dead (at_side pass a b) d) (idle_all colours (at_side pass b a)) (at, colour) (all_idle (at_side pass b a) other)) })
  idle_of_net c d p (Switch input a b to_a) has channel colour outs ins =
      let idle = one_rule I6 ((Idle input d ∷ []) ∷ []) in
      either Rules (nat_eq c (way_of to_a d a b)) idle [] (one_of_net (rule I6 ((Idle input d ∷ []) ∷ [])) (record { via = refl; alternatives = one_alternative (Idle input d ∷ []) (one_lit (Idle input d) (ins 0 input (omega arith), colour)) })) no_rules
  idle_of_net c d p (Merge a b out) has channel colour outs ins =
      one_of_net _ (record { via = refl; alternatives = more _ _ (two (IsLiteralOf net) (Idle a d) (Idle b d) (ins 0 a (omega arith), colour) (ins 1 b (omega arith), colour)) (other_dead c d channel) })

  by_some : (f : ℕ → Component → List Inference) (p : ℕ) (o : Option Component) → slice_get net.prims p ≡ o → ((m : Component) → HasPrim net p m → Rules (f p m)) → Rules (by_prim f p o)
  by_some f p None at each = no_rules
  by_some f p (Some m) at each = each m at

  by_each : (f : ℕ → Component → List Inference) (ps : List ℕ) → ((p : ℕ) (m : Component) → HasPrim net p m → Rules (f p m)) → Rules (by_one f net ps)
  by_each f [] each = no_rules
  by_each f (p ∷ []) each = by_some f p (slice_get net.prims p) refl (each p)
  by_each f (p ∷ q ∷ ps) each = no_rules

-- ---- rules of a literal

module _ (net : Network) (is_net : IsNet net) where
  outs_of : (p : ℕ) (m : Component) → HasPrim net p m → All (IsChannel net) (outputs m)
  outs_of p m has = let h = is_net.limits.outputs p m (slice_get_within net.prims p m has) in rw (get_or_from_slice_get net.prims p m m has) at h

  ins_of : (p : ℕ) (m : Component) → HasPrim net p m → All (IsChannel net) (inputs m)
  ins_of p m has = let h = is_net.limits.inputs p m (slice_get_within net.prims p m has) in rw (get_or_from_slice_get net.prims p m m has) at h

pub rules_of_net : (it : Designed) → IsNet it.net → ((c d : ℕ) → IsIn (colours_at it.colours c) d → d < it.net.colours) → (l : Lit) → IsLiteralOf it.net l → All (IsRuleOf it.net) (rules_of it l)
rules_of_net it is_net below (Stuck c) is =
    by_each it.net (colours_at it.colours) below (stuck_rules (colours_at it.colours) c) (targets it.net.prims c) (λ p m has. stuck_of_net it.net (colours_at it.colours) below c p m has is (outs_of it.net is_net p m has) (ins_of it.net is_net p m has))
rules_of_net it is_net below (Dead c d) is =
    let net = it.net in let colours = colours_at it.colours in
    All-cons (IsRuleOf net) _ _ (record { via = refl; alternatives = one_alternative net colours below _ (one_lit net colours below (Stuck c) is.0) })
    (All-append (IsRuleOf net) (by_one (passing_rules colours c d) net (targets net.prims c)) (by_one (offering_rules colours c d) net (initiators net.prims c))
    (by_each net colours below (passing_rules colours c d) (targets net.prims c) (λ p m has. passing_of_net net colours below c d p m is.0 is.1 (prim_fits net is_net p m has) (outs_of net is_net p m has) (ins_of net is_net p m has)))
    (by_each net colours below (offering_rules colours c d) (initiators net.prims c) (λ p m has. offering_of_net net colours below c d p m has is.0 is.1 (outs_of net is_net p m has) (ins_of net is_net p m has))))
rules_of_net it is_net below (Idle c d) is =
    let net = it.net in let colours = colours_at it.colours in
    by_each net colours below (idle_rules colours c d) (initiators net.prims c) (λ p m has. idle_of_net net colours below c d p m has is.0 is.1 (outs_of net is_net p m has) (ins_of net is_net p m has))
rules_of_net it is_net below (Full q) is = All-nil (IsRuleOf it.net)
rules_of_net it is_net below (Has q d) is = All-nil (IsRuleOf it.net)
rules_of_net it is_net below (Lacks q d) is = All-nil (IsRuleOf it.net)
