-- Places put in rising order, each once.
use Rattle.std.proofs.Common.{◌≡◌, ℕ, zero, suc, ◌+◌, ◌<◌, ◌≤◌, inl, inr, List, [], ◌∷◌, ◌++◌, length, get_or, take, sym, subst, arith, All}
use Rattle.std.specs.List.{Contains}
use Rattle.std.specs.List.Sorted.{IsNonDecreasing, IsPermutation}
use Rattle.std.proofs.lemmas.List.{take_all}
use Rattle.std.proofs.lemmas.List.Elements.{All-nil, All-more, All-push, All-weaker}
use Rattle.std.proofs.lemmas.List.Sorted.{All-permutation, Contains-permutation}
use Rattle.xm_colours.specs.Family.{Rises}
use Rattle.xm_model.specs.Membership.{IsIn}
use Rattle.xm_elim.specs.Inner.Columns.{IsRisingOf}
use Rattle.xm_elim.proofs.Placing.{all_in, rise_push}
use Rattle.xm_rows.specs.Lemmas.Noting.{in_last, in_left}

-- the first i of the given places stand in order, each once; only places from the lowest on are still to come
pub record IsOnce (given : List ℕ) (i : ℕ) (places : List ℕ) (lowest : ℕ) : Type 0 where
  pub rise : Rises places
  pub low : All (λ p. p < lowest) places
  pub within : (n : ℕ) → All (λ p. p < n) given → All (λ p. p < n) places
  pub complete : All (IsIn places) (take i given)
  pub ahead : (m : ℕ) → i ≤ m → m < length given → lowest ≤ get_or given m 0 + 1
  pub last : (q : ℕ) → q + 1 ≡ lowest → IsIn places q

pub once_none : (given places : List ℕ) → places ≡ [] → IsOnce given 0 places 0
once_none given places is =
    subst (λ (l : List ℕ). IsOnce given 0 l 0) (sym is) (record {
      rise = tt;
      low = All-nil (λ p. p < 0);
      within = λ n all. All-nil (λ p. p < n);
      complete = All-nil (IsIn []);
      ahead = λ m from below. omega arith;
      last = λ q none. absurd (omega arith);
    })

pub once_more : (given : List ℕ) (i : ℕ) (places next : List ℕ) (lowest : ℕ) → i < length given → IsNonDecreasing given → lowest ≤ get_or given i 0 →
    next ≡ places ++ get_or given i 0 ∷ [] → IsOnce given i places lowest → IsOnce given (i + 1) next (get_or given i 0 + 1)
once_more given i places next lowest within sorted above is h =
    let p = get_or given i 0 in
    subst (λ (l : List ℕ). IsOnce given (i + 1) l (p + 1)) (sym is) (record {
      rise = rise_push places p h.rise (All-weaker (λ q. q < lowest) (λ q. q < p) (λ q less. omega arith) places h.low);
      low = All-push (λ q. q < p + 1) places p (All-weaker (λ q. q < lowest) (λ q. q < p + 1) (λ q less. omega arith) places h.low) (omega arith);
      within = λ n all. All-push (λ q. q < n) places p (h.within n all) (all i 0 within);
      complete = All-more (IsIn (places ++ p ∷ [])) given i 0 within
          (All-weaker (IsIn places) (IsIn (places ++ p ∷ [])) (λ q inside. in_left places (p ∷ []) q inside) (take i given) h.complete) (in_last places p);
      ahead = λ m from below. let less = sorted i m 0 (omega arith) below in omega arith;
      last = λ q same. let e : p ≡ q = omega arith in subst (IsIn (places ++ p ∷ [])) e (in_last places p);
    })

pub once_passed : (given : List ℕ) (i : ℕ) (places : List ℕ) (lowest : ℕ) → i < length given → get_or given i 0 < lowest →
    IsOnce given i places lowest → IsOnce given (i + 1) places lowest
once_passed given i places lowest within below h =
    let high = h.ahead i (omega arith) within in
    record {
      rise = h.rise;
      low = h.low;
      within = h.within;
      complete = All-more (IsIn places) given i 0 within h.complete (h.last (get_or given i 0) (omega arith));
      ahead = λ m from less. h.ahead m (omega arith) less;
      last = h.last;
    }

pub once_all : (given : List ℕ) (i : ℕ) (places : List ℕ) (lowest : ℕ) → length given ≤ i → IsOnce given i places lowest → IsRisingOf given places
once_all given i places lowest past h =
    record {
      rise = h.rise;
      within = h.within;
      complete = λ j inside. all_in (IsIn places) given j (subst (All (IsIn places)) (take_all i given past) h.complete) inside;
    }

contained : (xs : List ℕ) (j : ℕ) → IsIn xs j → Contains xs j
contained [] j h = absurd h
contained (x ∷ xs) j (inl is) = (0, omega arith, is)
contained (x ∷ xs) j (inr h) = let c = contained xs j h in (suc c.0, (let low = c.1 in omega arith), c.2)

stands : (xs : List ℕ) (j k : ℕ) → k < length xs → get_or xs k j ≡ j → IsIn xs j
stands [] j k below is = absurd (omega arith)
stands (x ∷ xs) j zero below is = inl is
stands (x ∷ xs) j (suc k) below is = inr (stands xs j k (omega arith) is)

pub of_permutation : (given sorted places : List ℕ) → IsPermutation given sorted → IsRisingOf sorted places → IsRisingOf given places
of_permutation given sorted places moved h =
    record {
      rise = h.rise;
      within = λ n all. h.within n (All-permutation (λ p. p < n) given sorted moved all);
      complete = λ j inside.
          let c = Contains-permutation given sorted j moved (contained given j inside) in
          h.complete j (stands sorted j c.0 c.1 c.2);
    }

pub once_same : (given : List ℕ) (i : ℕ) (places next : List ℕ) (lowest low : ℕ) → places ≡ next → lowest ≡ low → IsOnce given i next low → IsOnce given i places lowest
once_same given i places next lowest low is same h = subst (λ (l : List ℕ). IsOnce given i l lowest) (sym is) (subst (IsOnce given i next) (sym same) h)
