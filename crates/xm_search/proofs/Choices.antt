-- A rule is found by its name and colour, and what loops over rules and literals keep.
use Rattle.std.proofs.Common.{◌≡◌, ◌≢◌, ℕ, suc, zero, ◌+◌, ◌<◌, List, [], ◌∷◌, ◌++◌, Option, Some, None, Bool, true, false, map, length, drop, get_or, refl, sym, ◌∙◌, ap, subst, arith, inl, inr, slice_get, add-one}
use Rattle.std.specs.Prelude.{◌⊎◌, ◌&&◌, nat_eq, cond}
use Rattle.std.proofs.lemmas.Bool.{cases_Bool, cond-true, cond-false, eq-eqb, eqb-true, ne_eqb, and_left}
use Rattle.std.proofs.lemmas.Option.{slice_get-map, slice_get_read}
use Rattle.std.proofs.Math.Seq.{drop-cons}
use Rattle.std.specs.Prelude.{IfNone, IfSome, option_map}
use Rattle.xm_colours.specs.Family.{colours_at}
use Rattle.xm_design.specs.Designed.{Designed}
use Rattle.xm_lits.specs.Inference.{Inference, alternatives_of, by_one, by_prim, idle_rules, inference_of, offering_rules, one_rule, passing_rules, rule, rules_of, stuck_rules, via_rule, via_rules, way_of}
use Rattle.xm_lits.specs.declared.inference.RuleName.{RuleName}
use Rattle.xm_lits.specs.declared.inference.RuleName.TheVariants.{P0, I4, I6}
use Rattle.xm_lits.specs.declared.inference.Rule.{Rule}
use Rattle.xm_lits.specs.declared.literal.Lit.{Lit}
use Rattle.xm_lits.specs.declared.literal.Lit.TheVariants.{Stuck, Dead, Idle, Full, Has, Lacks}
use Rattle.xm_model.specs.Component.{Component, Fork, Function, Join, Merge, Queue, Sink, Source, Switch}
use Rattle.xm_model.specs.Membership.{IsIn}
use Rattle.xm_model.specs.Net.{Network, initiators, targets}
use Rattle.xm_proof.specs.Tests.{find_rule, is_named, name_number}
use Rattle.xm_search.specs.Inner.Choosing.{IsChosen, IsFresh, IsLast, IsPick, all_answered, all_have}
use Rattle.xm_search.specs.Trees.{has_alternative}
use Rattle.xm_search.specs.declared.choosing.Pick.{Pick}

pub in_cases : {X : Type 0} (x : X) (xs ys : List X) → IsIn (xs ++ ys) x → IsIn xs x ⊎ IsIn ys x
in_cases x [] ys h = inr h
in_cases x (y ∷ xs) ys h =
    elim h [ inl e ↦ inl (inl e) | inr t ↦ elim (in_cases x xs ys t) [ inl l ↦ inl (inr l) | inr r ↦ inr r ] ]

pub in_at : {X : Type 0} (xs : List X) (k : ℕ) (x : X) → slice_get xs k ≡ Some x → IsIn xs x
in_at [] k x h = cc
in_at (y ∷ ys) zero x h = inl (cc)
in_at (y ∷ ys) (suc k) x h = inr (in_at ys k x h)

-- each rule of the list is found by its name and colour
abbrev Found : List Inference → Type 0
Found rs = (r : Inference) → IsIn rs r → find_rule rs r.name r.via ≡ Some r

-- at most one rule, whose name has a number between these
data AtMostOne (low high : ℕ) : List Inference → Type 0 where
  nothing : AtMostOne low high []
  one : (name : RuleName) (alternatives : List (List Lit)) → low < name_number name → name_number name < high → AtMostOne low high (one_rule name alternatives)

hit : (n : RuleName) (alternatives : List (List Lit)) (rs : List Inference) → find_rule (rule n alternatives ∷ rs) n None ≡ Some (rule n alternatives)
hit n alternatives rs = cond-true (is_named (rule n alternatives) n None) (Some (rule n alternatives)) (find_rule rs n None)
    (ap (λ (b : Bool). b && true) (eq-eqb (name_number n) (name_number n) refl))

past : (n m : RuleName) (alternatives : List (List Lit)) (rs : List Inference) → name_number n ≢ name_number m → find_rule (rule n alternatives ∷ rs) m None ≡ find_rule rs m None
past n m alternatives rs other = cond-false (is_named (rule n alternatives) m None) (Some (rule n alternatives)) (find_rule rs m None)
    (and_left (nat_eq (name_number n) (name_number m)) true (ne_eqb (name_number n) (name_number m) other))

found_one : (low high : ℕ) (rs : List Inference) → AtMostOne low high rs → Found rs
found_one low high rs (nothing) r h = absurd h
found_one low high rs (one name alternatives a b) r h =
    elim h [ inl e ↦ subst (λ (x : Inference). find_rule (one_rule name alternatives) x.name x.via ≡ Some x) e (hit name alternatives []) | inr none ↦ absurd none ]

-- one rule before at most one before at most one, with names that grow
found_three : (n : RuleName) (alternatives : List (List Lit)) (middle high : ℕ) (xs ys : List Inference) →
    AtMostOne (name_number n) (suc middle) xs → AtMostOne middle high ys → name_number n < middle → Found (rule n alternatives ∷ xs ++ ys)
found_three n alternatives middle high xs ys (nothing) (nothing) low r h =
    elim h [ inl e ↦ subst (λ (x : Inference). find_rule (rule n alternatives ∷ []) x.name x.via ≡ Some x) e (hit n alternatives []) | inr none ↦ absurd none ]
found_three n alternatives middle high xs ys (nothing) (one m others a b) low r h =
    let all = rule n alternatives ∷ one_rule m others in
    elim h [
      | inl e ↦ subst (λ (x : Inference). find_rule all x.name x.via ≡ Some x) e (hit n alternatives (one_rule m others))
      | inr t ↦ elim t [
        | inl e ↦ subst (λ (x : Inference). find_rule all x.name x.via ≡ Some x) e
            (past n m alternatives (one_rule m others) (λ same. omega arith) ∙ hit m others [])
        | inr none ↦ absurd none
      ]
    ]
found_three n alternatives middle high xs ys (one m others a b) (nothing) low r h =
    let all = rule n alternatives ∷ one_rule m others in
    elim h [
      | inl e ↦ subst (λ (x : Inference). find_rule all x.name x.via ≡ Some x) e (hit n alternatives (one_rule m others))
      | inr t ↦ elim t [
        | inl e ↦ subst (λ (x : Inference). find_rule all x.name x.via ≡ Some x) e
            (past n m alternatives (one_rule m others) (λ same. omega arith) ∙ hit m others [])
        | inr none ↦ absurd none
      ]
    ]
found_three n alternatives middle high xs ys (one m others a b) (one k last c d) low r h =
    let rest = rule m others ∷ one_rule k last in
    let all = rule n alternatives ∷ rest in
    elim h [
      | inl e ↦ subst (λ (x : Inference). find_rule all x.name x.via ≡ Some x) e (hit n alternatives rest)
      | inr t ↦ elim t [
        | inl e ↦ subst (λ (x : Inference). find_rule all x.name x.via ≡ Some x) e
            (past n m alternatives rest (λ same. omega arith) ∙ hit m others (one_rule k last))
        | inr u ↦ elim u [
          | inl e ↦ subst (λ (x : Inference). find_rule all x.name x.via ≡ Some x) e
              (past n k alternatives rest (λ same. omega arith) ∙ past m k others (one_rule k last) (λ same. omega arith) ∙ hit k last [])
          | inr none ↦ absurd none
        ]
      ]
    ]

-- what holds of the rules by each primitive holds of those by the one that is listed
by_prim_holds : (P : List Inference → Type 0) (f : ℕ → Component → List Inference) → P [] → ((p : ℕ) (m : Component) → P (f p m)) → (p : ℕ) (o : Option Component) → P (by_prim f p o)
by_prim_holds P f none each p None = none
by_prim_holds P f none each p (Some m) = each p m

by_one_holds : (P : List Inference → Type 0) (f : ℕ → Component → List Inference) → P [] → ((p : ℕ) (m : Component) → P (f p m)) → (net : Network) (ps : List ℕ) → P (by_one f net ps)
by_one_holds P f none each net [] = none
by_one_holds P f none each net (p ∷ []) = by_prim_holds P f none each p (slice_get net.prims p)
by_one_holds P f none each net (p ∷ q ∷ ps) = none

passing_one : (colours : ℕ → List ℕ) (c d p : ℕ) (m : Component) → AtMostOne 0 11 (passing_rules colours c d p m)
passing_one colours c d p (Source _ _ _) = nothing
passing_one colours c d p (Sink _ _) = nothing
passing_one colours c d p (Queue _ _ _ _) = nothing
passing_one colours c d p (Function _ _ _) = one _ _ (omega arith) (omega arith)
passing_one colours c d p (Fork _ _ _ _ _) = nothing
passing_one colours c d p (Join _ _ _ _) = one _ _ (omega arith) (omega arith)
passing_one colours c d p (Switch _ _ _ _) = one _ _ (omega arith) (omega arith)
passing_one colours c d p (Merge _ _ _) = one _ _ (omega arith) (omega arith)

offering_one : (colours : ℕ → List ℕ) (c d p : ℕ) (m : Component) → AtMostOne 10 17 (offering_rules colours c d p m)
offering_one colours c d p (Source _ _ _) = nothing
offering_one colours c d p (Sink _ _) = nothing
offering_one colours c d p (Queue _ _ _ _) = one _ _ (omega arith) (omega arith)
offering_one colours c d p (Function _ _ _) = one _ _ (omega arith) (omega arith)
offering_one colours c d p (Fork _ _ _ _ _) = one _ _ (omega arith) (omega arith)
offering_one colours c d p (Join _ _ _ _) = one _ _ (omega arith) (omega arith)
offering_one colours c d p (Switch _ _ _ _) = one _ _ (omega arith) (omega arith)
offering_one colours c d p (Merge _ _ _) = one _ _ (omega arith) (omega arith)

stuck_one : (colours : ℕ → List ℕ) (c p : ℕ) (m : Component) → AtMostOne 0 11 (stuck_rules colours c p m)
stuck_one colours c p (Source _ _ _) = nothing
stuck_one colours c p (Sink _ _) = one _ _ (omega arith) (omega arith)
stuck_one colours c p (Queue _ _ _ _) = one _ _ (omega arith) (omega arith)
stuck_one colours c p (Function _ _ _) = one _ _ (omega arith) (omega arith)
stuck_one colours c p (Fork _ _ _ _ _) = one _ _ (omega arith) (omega arith)
stuck_one colours c p (Join _ _ _ _) = one _ _ (omega arith) (omega arith)
stuck_one colours c p (Switch _ _ _ _) = one _ _ (omega arith) (omega arith)
stuck_one colours c p (Merge _ _ _) = one _ _ (omega arith) (omega arith)

-- the rules by a colour of a fork's input
via_from : (input other : ℕ) (xs : List ℕ) (r : Inference) → IsIn (via_rules input other xs) r → (x : ℕ) × (IsIn xs x × (via_rule input other x ≡ r))
via_from input other [] r h = absurd h
via_from input other (x ∷ xs) r h =
    elim h [ inl e ↦ (x, (inl refl, e)) | inr t ↦ (let u = via_from input other xs r t in (u.0, (inr u.1.0, u.1.1))) ]

via_hit : (input other : ℕ) (xs : List ℕ) (x : ℕ) → IsIn xs x → find_rule (via_rules input other xs) I4 (Some x) ≡ Some (via_rule input other x)
via_hit input other [] x h = absurd h
via_hit input other (y ∷ ys) x h =
    let one : Option Inference = Some (via_rule input other y) in
    let others = find_rule (via_rules input other ys) I4 (Some x) in
    elim (cases_Bool (nat_eq y x)) [
      | inl same ↦ cond-true (nat_eq y x) one others same ∙ ap (λ (z : ℕ). Some (via_rule input other z)) (eqb-true y x same)
      | inr differs ↦ cond-false (nat_eq y x) one others differs ∙ via_hit input other ys x
          (elim h [ inl e ↦ absurd (let t = eq-eqb y x e in cc) | inr t ↦ t ])
    ]

via_found : (input other : ℕ) (xs : List ℕ) → Found (via_rules input other xs)
via_found input other xs r h =
    let u = via_from input other xs r h in
    subst (λ (x : Inference). find_rule (via_rules input other xs) x.name x.via ≡ Some x) u.1.1 (via_hit input other xs u.0 u.1.0)

found_cond : (b : Bool) (xs ys : List Inference) → Found xs → Found ys → Found (cond b xs ys)
found_cond true xs ys a b = a
found_cond false xs ys a b = b

idle_found : (colours : ℕ → List ℕ) (c d p : ℕ) (m : Component) → Found (idle_rules colours c d p m)
idle_found colours c d p (Source _ _ _) = found_one 0 23 [] nothing
idle_found colours c d p (Sink _ _) = found_one 0 23 [] nothing
idle_found colours c d p (Queue a b e f) = found_one 0 23 (idle_rules colours c d p (Queue a b e f)) (one _ _ (omega arith) (omega arith))
idle_found colours c d p (Function a b e) = found_one 0 23 (idle_rules colours c d p (Function a b e)) (one _ _ (omega arith) (omega arith))
idle_found colours c d p (Fork input a b map_a map_b) = via_found input _ _
idle_found colours c d p (Join a b e f) = found_one 0 23 (idle_rules colours c d p (Join a b e f)) (one _ _ (omega arith) (omega arith))
idle_found colours c d p (Switch a b e f) =
    found_cond (nat_eq c (way_of f d b e)) (one_rule I6 ((Idle a d ∷ []) ∷ [])) [] (found_one 0 23 (one_rule I6 ((Idle a d ∷ []) ∷ [])) (one I6 _ (omega arith) (omega arith))) (found_one 0 23 [] nothing)
idle_found colours c d p (Merge a b e) = found_one 0 23 (idle_rules colours c d p (Merge a b e)) (one _ _ (omega arith) (omega arith))

-- each rule of a literal is found by its name and colour
pub rule_found : (it : Designed) (l : Lit) → Found (rules_of it l)
rule_found it (Stuck c) =
    let colours = colours_at it.colours in
    let f = stuck_rules colours c in
    let ps = targets it.net.prims c in
    found_one 0 11 (by_one f it.net ps) (by_one_holds (AtMostOne 0 11) f nothing (stuck_one colours c) it.net ps)
rule_found it (Dead c d) =
    let colours = colours_at it.colours in
    let f = passing_rules colours c d in
    let g = offering_rules colours c d in
    let ps = targets it.net.prims c in
    let qs = initiators it.net.prims c in
    found_three P0 ((Stuck c ∷ []) ∷ []) 10 17 (by_one f it.net ps) (by_one g it.net qs)
    (by_one_holds (AtMostOne 0 11) f nothing (passing_one colours c d) it.net ps) (by_one_holds (AtMostOne 10 17) g nothing (offering_one colours c d) it.net qs) (omega arith)
rule_found it (Idle c d) =
    let colours = colours_at it.colours in
    by_one_holds Found (idle_rules colours c d) (found_one 0 23 [] nothing) (idle_found colours c d) it.net (initiators it.net.prims c)
rule_found it (Full q) = λ r h. absurd h
rule_found it (Has q d) = λ r h. absurd h
rule_found it (Lacks q d) = λ r h. absurd h

-- the rule at the place of a pick is chosen
pub choice_of : (it : Designed) (path : List Lit) (p : Pick) (r : Inference) → IsPick it path p → slice_get (rules_of it p.on) p.place ≡ Some r → IsChosen it path p.on r
choice_of it path p r pick at =
    let of = in_at (rules_of it p.on) p.place r at in
    record {
      here = pick.here;
      found = rule_found it p.on r of;
      of = of;
      fresh = (let e : Some pick.fresh.0 ≡ Some r = sym pick.fresh.1.0 ∙ at in let f : pick.fresh.0 ≡ r = cc in
          subst (λ (x : Inference). has_alternative path x.alternatives ≡ false) f pick.fresh.1.1);
    }

pub if_none : {X : Type 0} {P : Type 0} (o : Option X) → IfNone o P → o ≡ None → P
if_none None p h = p
if_none (Some x) p h = cc

pub some_more : {X : Type 0} (P Q : X → Type 0) (o : Option X) → ((x : X) → P x → Q x) → IfSome o P → IfSome o Q
some_more P Q None f h = h
some_more P Q (Some x) f h = f x h

-- the better of two is one of them
pub some_either : {X : Type 0} (P : X → Type 0) (o a b : Option X) → IfSome o (λ x. (a ≡ Some x) ⊎ (b ≡ Some x)) → IfSome a P → IfSome b P → IfSome o P
some_either P None a b h on_a on_b = h
some_either P (Some x) a b h on_a on_b =
    elim h [ inl e ↦ subst (λ (o : _). IfSome o P) e on_a | inr e ↦ subst (λ (o : _). IfSome o P) e on_b ]

pub at_map : (rs : List Rule) (k : ℕ) (r : Rule) → k < length rs → r ≡ get_or rs k r → slice_get (map inference_of rs) k ≡ Some (inference_of r)
at_map rs k r within is = slice_get-map inference_of rs k ∙ ap (option_map inference_of) (slice_get_read rs (length rs) k r refl within is)

pub nothing_in : {X : Type 0} (xs : List X) → length xs ≡ 0 → xs ≡ []
nothing_in [] h = refl
nothing_in (x ∷ xs) h = absurd (omega arith)

pub no_alternatives : (r : Rule) → length r.alternatives.items ≡ 0 → (inference_of r).alternatives ≡ []
no_alternatives r h = ap alternatives_of (nothing_in r.alternatives.items h)

-- one more rule has an alternative on the path
pub have_next : (path : List Lit) (rs : List Rule) (k : ℕ) (r : Rule) → k < length rs → r ≡ get_or rs k r → has_alternative path (inference_of r).alternatives ≡ true →
    all_have path (map inference_of rs) ≡ all_have path (map inference_of (drop k rs)) → all_have path (map inference_of rs) ≡ all_have path (map inference_of (drop (k + 1) rs))
have_next path rs k r within is has so_far =
    so_far ∙ ap (λ (l : List Rule). all_have path (map inference_of l)) (drop-cons rs k r within)
    ∙ ap (λ (x : Rule). has_alternative path (inference_of x).alternatives && all_have path (map inference_of (drop (suc k) rs))) (sym is)
    ∙ ap (λ (b : Bool). b && all_have path (map inference_of (drop (suc k) rs))) has
    ∙ ap (λ (n : ℕ). all_have path (map inference_of (drop n rs))) (sym (add-one k))

-- the rules of one more literal have
pub answered_next : (it : Designed) (path : List Lit) (k : ℕ) (d : Lit) → k < length path → all_have path (rules_of it (get_or path k d)) ≡ true →
    all_answered it path path ≡ all_answered it path (drop k path) → all_answered it path path ≡ all_answered it path (drop (k + 1) path)
answered_next it path k d within has so_far =
    so_far ∙ ap (all_answered it path) (drop-cons path k d within)
    ∙ ap (λ (b : Bool). b && all_answered it path (drop (suc k) path)) has
    ∙ ap (λ (n : ℕ). all_answered it path (drop n path)) (sym (add-one k))

pub fresh_rule : (path : List Lit) (rs : List Rule) (k : ℕ) (r : Rule) → k < length rs → r ≡ get_or rs k r → has_alternative path (inference_of r).alternatives ≡ false → IsFresh path (map inference_of rs) k
fresh_rule path rs k r within is fresh = (inference_of r, (at_map rs k r within is, fresh))

-- a rule without alternatives has none on the path
pub last_fresh : (path : List Lit) (rs : List Inference) (k : ℕ) → IsLast rs k → IsFresh path rs k
last_fresh path rs k last = (last.0, (last.1.0, ap (has_alternative path) last.1.1))
