-- Marks of the pairs that goals name.
use Rattle.std.proofs.Common.{◌≡◌, ◌≢◌, ℕ, zero, suc, ◌+◌, ◌*◌, ◌-◌, ◌<◌, ◌&&◌, ◌||◌, List, [], ◌∷◌, ◌++◌, length, length-set, nat_eq, Bool, true, false, not, refl, sym, ◌∙◌, ap, subst, arith, inl, inr, take, get_or, add-one, map, All}
use Rattle.std.specs.Prelude.{slice_index_or, slice_set}
use Rattle.std.proofs.lemmas.Bool.{and_parts, cases_Bool, eq-eqb, eqb-true}
use Rattle.std.proofs.lemmas.List.{get_or-set_other, get_or-set_same}
use Rattle.xm_check.specs.Break.{goals_test}
use Rattle.xm_check.specs.Inner.Marked.{AreMarks, are_marked_at}
use Rattle.xm_colours.specs.Pairs.{pairs}
use Rattle.xm_design.specs.Designed.{Designed}
use Rattle.xm_lits.specs.Paths.{is_on_path, are_same}
use Rattle.xm_lits.specs.declared.literal.Lit.{Lit}
use Rattle.xm_lits.specs.declared.literal.Lit.TheVariants.{Dead}
use Rattle.xm_proof.specs.Valid.{all_goals, is_dead_pair}
use Rattle.xm_model.specs.Membership.{IsIn, times}
use Rattle.xm_model.specs.Lemmas.PortCounts.{first_or_rest}

pub stands : (d : ℕ) (ds : List ℕ) → 0 < times d ds → IsIn ds d
stands d [] h = absurd (omega arith)
stands d (x ∷ xs) h = elim (first_or_rest x d (times d xs) h) [ inl same ↦ inl same | inr more ↦ inr (stands d xs more) ]

-- a path with one literal more
on_more : (path : List Lit) (l m : Lit) → is_on_path (path ++ l ∷ []) m ≡ (is_on_path path m || are_same l m)
on_more [] l m = elim (cases_Bool (are_same l m)) [ inl t ↦ rw t refl | inr f ↦ rw f refl ]
on_more (x ∷ xs) l m =
    let rest = on_more xs l m in
    elim (cases_Bool (are_same x m)) [ inl t ↦ rw t refl | inr f ↦ rw f rest ]

apart : (c d e f : ℕ) → d < 64 → f < 64 → nat_eq c e && nat_eq d f ≡ false → 64 * e + f ≢ 64 * c + d
apart c d e f small f_small miss same =
    let one : c ≡ e = omega arith in
    let other : d ≡ f = omega arith in
    absurd (let hit : nat_eq c e && nat_eq d f ≡ true = rw (eq-eqb c e one, eq-eqb d f other) refl in cc)

or_true : (b : Bool) → (b || true) ≡ true
or_true true = refl
or_true false = refl

or_false : (b : Bool) → (b || false) ≡ b
or_false true = refl
or_false false = refl

pub marked_more : (n : ℕ) (before : List Lit) (marks : List Bool) (c d : ℕ) → AreMarks n before marks → c < n → d < 64
    → AreMarks n (before ++ Dead c d ∷ []) (slice_set marks (64 * c + d) true)
marked_more n before marks c d are below small = record {
  whole = length-set marks (64 * c + d) true ∙ are.whole;
  marked = λ e f e_below f_small. let more = on_more before (Dead c d) (Dead e f) in elim (cases_Bool (nat_eq c e && nat_eq d f)) [
    | inl t ↦
        let both = and_parts (nat_eq c e) (nat_eq d f) t in
        let place : 64 * c + d ≡ 64 * e + f = rw (eqb-true c e both.0, eqb-true d f both.1) refl in
        let within : 64 * c + d < length marks = omega (arith, are.whole) in
        subst (λ (k : ℕ). slice_index_or (slice_set marks (64 * c + d) true) k false ≡ is_on_path (before ++ Dead c d ∷ []) (Dead e f)) place
        (get_or-set_same marks (64 * c + d) true false within ∙ sym (more ∙ ap (λ b. is_on_path before (Dead e f) || b) t ∙ or_true (is_on_path before (Dead e f))))
    | inr g ↦
        get_or-set_other marks (64 * c + d) (64 * e + f) true false (apart c d e f small f_small g)
        ∙ are.marked e f e_below f_small
        ∙ sym (more ∙ ap (λ b. is_on_path before (Dead e f) || b) g ∙ or_false (is_on_path before (Dead e f)))
  ];
}

-- the list, one item further
pub take_on : {X : Type 0} (xs : List X) (k : ℕ) (x : X) → k < length xs → take (suc k) xs ≡ take k xs ++ get_or xs k x ∷ []
take_on [] k x h = absurd (omega arith)
take_on (y ∷ ys) zero x h = refl
take_on (y ∷ ys) (suc k) x h = ap (λ zs. y ∷ zs) (take_on ys k x (omega arith))

-- a goal that is fresh is passed
pub goal_passed : (it : Designed) (before : List Lit) (k : ℕ) (l : Lit) (rest : List Lit) → (is_dead_pair it l && not (is_on_path before l)) ≡ true
    → goals_test it before k (l ∷ rest) ≡ goals_test it (before ++ l ∷ []) (k + 1) rest
goal_passed it before k l rest fresh = rw fresh (ap (λ (n : ℕ). goals_test it (before ++ l ∷ []) n rest) (sym (add-one k)))

-- where these colours are marked, all their pairs are goals
pub all_are_goals : (n : ℕ) (before : List Lit) (marks : List Bool) (c : ℕ) (ds : List ℕ) → AreMarks n before marks → c < n → All (λ d. d < 64) ds
    → are_marked_at marks c ds ≡ all_goals before (map (λ d. (c, d)) ds)
all_are_goals n before marks c [] are below small = refl
all_are_goals n before marks c (d ∷ ds) are below small =
    let here = are.marked c d below (small 0 d (omega arith)) in
    let rest = all_are_goals n before marks c ds are below (λ i e h. small (suc i) e (omega arith)) in
    rw (here, rest) refl

pub all_goals-append : (ls : List Lit) (xs ys : List (ℕ × ℕ)) → all_goals ls (xs ++ ys) ≡ (all_goals ls xs && all_goals ls ys)
all_goals-append ls [] ys = refl
all_goals-append ls (x ∷ xs) ys = elim (cases_Bool (is_on_path ls (Dead x.0 x.1))) [ inl t ↦ rw t (all_goals-append ls xs ys) | inr f ↦ rw f refl ]

-- the pairs of the channels, the last one apart
pub goals_last : (ls : List Lit) (colours : ℕ → List ℕ) (n : ℕ) → 0 < n
    → all_goals ls (pairs colours n) ≡ (all_goals ls (pairs colours (n - 1)) && all_goals ls (map (λ d. (n - 1, d)) (colours (n - 1))))
goals_last ls colours zero h = absurd (omega arith)
goals_last ls colours (suc n) h =
    let e : suc n - 1 ≡ n = omega arith in
    rw e (all_goals-append ls (pairs colours n) (map (λ d. (n, d)) (colours n)))

pub last_false : (a b : Bool) → b ≡ false → (a && b) ≡ false
last_false true b h = h
last_false false b h = refl

pub last_true : (a b : Bool) → b ≡ true → (a && b) ≡ a
last_true true b h = h
last_true false b h = refl
