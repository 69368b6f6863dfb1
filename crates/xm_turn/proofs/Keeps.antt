-- Each step keeps the rule, and a whole pass finds the turn free.
use Rattle.std.proofs.Common.{◌≡◌, ◌≢◌, ℕ, zero, suc, ◌+◌, ◌<◌, ◌≤◌, max, eqb, List, [], ◌∷◌, ◌++◌, get_or, set, sym}
use Rattle.std.proofs.Common.{refl, ap, ◌∙◌, subst, arith, ⊎_elim, ne_eqb, Some}
use Rattle.std.specs.Prelude.{Option as Maybe}
use mathlib.Core.Option.{none, some, some-injective, some-ne-none}
use mathlib.Core.Logic.{dite}
use native.Mathlib.Decide.{ℕ_discrete}
use lib.ListN.{get_elem?}
use prog.Atomic.{either}
use Rattle.atomic_table.specs.Table.{State, Me, Act, step, keeps, takes, gives, stepped, carried_after, Valid, Allows}
use Rattle.atomic_table.specs.Table.{Splits, Joins, Final, Seen}
use Rattle.atomic_table.proofs.Lists.{at_set, at_snoc, set_else}
use Rattle.xm_turn.specs.declared.rule.View.{View}
use Rattle.xm_turn.specs.declared.rule.Phase.{Phase}
use Rattle.xm_turn.specs.declared.rule.Phase.TheVariants.{Free, Holding, Looked}
use Rattle.xm_turn.specs.Rule.{turns_in, turns_of, shares_of, total, KnowsFloor, Agrees, AtHome, Kept}
use Rattle.xm_turn.specs.Views.{spent, giving, one_less, one_share, together}
use Rattle.xm_turn.specs.Inner.Steps.{looked, Within, taking, seeing, Takes, Looks, Raises, Gives}

module _ {N : Type 0} (f : View N → ℕ) where
  pub total-set : (l : List (View N)) (i : ℕ) (v w : View N) → get_elem? l i ≡ some v
      → total f (set l i w) + f v ≡ total f l + f w
  total-set [] i v w e = absurd (some-ne-none v (sym e))
  total-set (x ∷ xs) zero v w e = let is : f x ≡ f v = ap f (some-injective x v e) in omega arith
  total-set (x ∷ xs) (suc i) v w e = let r = total-set xs i v w e in omega arith

  pub total-snoc : (l : List (View N)) (v : View N) → total f (l ++ v ∷ []) ≡ total f l + f v
  total-snoc [] v = omega arith
  total-snoc (x ∷ xs) v = let r = total-snoc xs v in omega arith

module _ {N : Type 0} where
  -- where no share is out, nothing is held
  none_hold : (l : List (View N)) → ((j : ℕ) (w : View N) → get_elem? l j ≡ some w → w.shares ≡ 0 → w.phase ≡ Free)
      → total shares_of l ≡ 0 → total turns_of l ≡ 0
  none_hold [] each e = refl
  none_hold (x ∷ xs) each e =
      let here : turns_in x.phase ≡ 0 = ap turns_in (each 0 x refl (omega arith)) in
      let r = none_hold xs (λ j w at. each (suc j) w at) (omega arith) in omega arith

  -- a pass that has all shares is the only one that may hold
  pub alone : (l : List (View N)) (i : ℕ) (v : View N) → get_elem? l i ≡ some v
      → ((j : ℕ) (w : View N) → get_elem? l j ≡ some w → w.shares ≡ 0 → w.phase ≡ Free)
      → total shares_of l ≡ v.shares → total turns_of l ≡ turns_in v.phase
  alone l i v at each e =
      let s = total-set shares_of l i v spent at in
      let h = total-set turns_of l i v spent at in
      let none_left = none_hold (set l i spent)
      (λ j w here none. ⊎_elim (λ t. sym (ap (λ (u : View N). u.phase) t.1)) (λ t. each j w t.1 none)
      (at_set l i j spent w here)) (omega arith) in
      omega arith

  -- while a pass holds, another is free
  free_else : (l : List (View N)) (i j : ℕ) (v w : View N) → j ≢ i → get_elem? l i ≡ some v → get_elem? l j ≡ some w
      → turns_in v.phase ≡ 1 → total turns_of l ≡ 1 → turns_in w.phase ≡ 0
  free_else l i j v w apart at at' one all =
      let t = total-set turns_of l i v spent at in
      let t' = total-set turns_of (set l i spent) j w spent (set_else l i j spent apart ∙ at') in
      omega arith

free_is : (p : Phase) → turns_in p ≡ 0 → p ≡ Free
free_is Free e = refl
free_is (Holding took) e = absurd (omega arith)
free_is Looked e = absurd (omega arith)

module _ {V N : Type 0} (run : V → N) (floor_of : V → ℕ) (r : N) (n : ℕ) where
  abbrev St : Type 0
  St = State (Maybe V) (View N)

  abbrev M : Type 0
  M = Me (Maybe V) (View N)

  abbrev K : St → Type 0
  K = Kept run floor_of r n

  -- the rule after a step on the turn word by one pass, which keeps its shares
  placed : (s : St) (k : K s) (id : ℕ) (v w : View N) → get_elem? s.views id ≡ some v → w.shares ≡ v.shares
      → Agrees r n k.floor w
      → (m : ℕ) → m + turns_in v.phase ≡ total turns_of s.views + turns_in w.phase → (hs : List _)
      → AtHome run floor_of r k.floor m hs
      → K (record { words = set s.words 0 m; homes = hs; views = set s.views id w })
  placed s k id v w at same ok m sum hs home =
      let h = total-set turns_of s.views id v w at in
      let t = total-set shares_of s.views id v w at in
      let is : m ≡ total turns_of (set s.views id w) = omega arith in
      let old = k.shares in record {
        floor = k.floor;
        words = ap (λ l. set l 0 m) k.words ∙ ap (λ (x : ℕ). x ∷ k.floor ∷ []) is;
        home = subst (λ (x : ℕ). AtHome run floor_of r k.floor x hs) is home;
        agree = λ j u here. ⊎_elim (λ e. subst (λ (x : View N). Agrees r n k.floor x) e.1 ok) (λ e. k.agree j u e.1)
            (at_set s.views id j w u here);
        shares = omega arith;
      }

  -- the rule after a step on the floor word by one pass, which keeps its shares and what it holds
  lifted : (s : St) (k : K s) (id : ℕ) (v w : View N) → get_elem? s.views id ≡ some v → w.shares ≡ v.shares
      → turns_in w.phase ≡ turns_in v.phase
      → (f : ℕ) → Agrees r n f w → ((j : ℕ) (u : View N) → j ≢ id → get_elem? s.views j ≡ some u → Agrees r n f u)
      → AtHome run floor_of r f (total turns_of s.views) s.homes
      → K (record { words = set s.words 1 f; homes = s.homes; views = set s.views id w })
  lifted s k id v w at same holds f ok others home =
      let h = total-set turns_of s.views id v w at in
      let t = total-set shares_of s.views id v w at in
      let is : total turns_of s.views ≡ total turns_of (set s.views id w) = omega arith in
      let old = k.shares in record {
        floor = f;
        words = ap (λ l. set l 1 f) k.words ∙ ap (λ (x : ℕ). x ∷ f ∷ []) is;
        home = subst (λ (x : ℕ). AtHome run floor_of r f x s.homes) is home;
        agree = λ j u here. ⊎_elim (λ e. subst (λ (x : View N). Agrees r n f x) e.1 ok) (λ e. others j u e.0 e.1)
            (at_set s.views id j w u here);
        shares = omega arith;
      }

  each_spent : (s : St) → K s → (j : ℕ) (w : View N) → get_elem? s.views j ≡ some w → w.shares ≡ 0 → w.phase ≡ Free
  each_spent s k j w at = (k.agree j w at).empty

  word_is : (s : St) → K s → get_or s.words 0 0 ≡ total turns_of s.views
  word_is s k = ap (λ l. get_or l 0 0) k.words

  floor_is : (s : St) (k : K s) → get_or s.words 1 0 ≡ k.floor
  floor_is s k = ap (λ l. get_or l 1 0) k.words

  -- what a try must show, where it finds x
  abbrev Tries : St → ℕ → M → ℕ → Type 0
  Tries s id me x = (w : View N) × (a : Act (Maybe V)) × Valid s.homes me.1 a
      × K (stepped s 0 (either (eqb x 0) 1 x) id me.1 w a) × Takes run floor_of me x (w, carried_after me.1 a)

  tries : (s : St) (k : K s) (id : ℕ) (me : M) → me.1 ≡ [] → me.0.phase ≡ Free → 0 < me.0.shares
      → get_elem? s.views id ≡ some me.0
      → (x : ℕ) → total turns_of s.views ≡ x → AtHome run floor_of r k.floor x s.homes → Tries s id me x
  tries s k id me empty free some_share at zero is home =
      let ok = k.agree id me.0 at in
      let y : V = home.0 in
      let hs = home.1 in
      let named : me.0.run ≡ Some (run y) = (ok.named some_share).0 ∙ ap Some (sym home.2) in
      let none_held : turns_in me.0.phase ≡ 0 = ap turns_in free in (
        taking (floor_of y) me.0,
        takes 0 (Some y),
        ap (λ h. get_elem? h 0) hs,
        placed s k id me.0 (taking (floor_of y) me.0) at refl
            (record { named = ok.named; empty = λ none. absurd (omega arith); below = ok.below; fresh = home.3 }) 1
            (omega arith) _ (refl, ap (λ h. set h 0 none) hs),
        (y, ap (λ c. (taking (floor_of y) me.0, (0, Some y) ∷ c)) empty, named),
      )
  tries s k id me empty free some_share at (suc x) is home =
      let ok = k.agree id me.0 at in
      let whole = k.shares in
      let none_held : turns_in me.0.phase ≡ 0 = ap turns_in free in
      let lone = alone s.views id me.0 at (each_spent s k) in
      let most = total-set shares_of s.views id me.0 spent at in
      let all_is : me.0.all ≡ n = (ok.named some_share).1 in
      let less : me.0.shares < me.0.all = dite (ℕ_discrete me.0.shares n)
      (λ e. let h : total shares_of s.views ≡ me.0.shares = omega arith in let z = lone h in absurd (omega arith))
      (λ ne. omega arith) in (
        me.0,
        keeps,
        tt,
        subst (λ b. K (stepped s 0 (either b 1 (suc x)) id me.1 me.0 keeps))
            (sym (ne_eqb (suc x) 0 (λ e. absurd (omega arith))))
            (placed s k id me.0 me.0 at refl ok (suc x) (omega arith) s.homes home),
        (refl, home.0, less),
      )

  pub can_try : (slots id : ℕ) (me : M) → me.1 ≡ [] → me.0.phase ≡ Free → 0 < me.0.shares
      → Allows K slots id me 0 (λ x. either (eqb x 0) 1 x) (Takes run floor_of me)
  can_try slots id me empty free some_share s k _ at _ =
      subst (λ (x : ℕ). Tries s id me x) (sym (word_is s k))
      (tries s k id me empty free some_share at (total turns_of s.views) refl k.home)

  looks_fresh : (p : Phase) (floor seen : ℕ) → KnowsFloor floor seen p → KnowsFloor floor floor (looked p)
  looks_fresh Free floor seen f = tt
  looks_fresh (Holding took) floor seen f = refl
  looks_fresh Looked floor seen f = refl

  looks_hand : (p : Phase) → turns_in (looked p) ≡ turns_in p
  looks_hand Free = refl
  looks_hand (Holding took) = refl
  looks_hand Looked = refl

  looks_free : (p : Phase) → p ≡ Free → looked p ≡ Free
  looks_free p e = ap looked e

  looks_within : (p : Phase) (floor seen : ℕ) → KnowsFloor floor seen p → Within p floor
  looks_within Free floor seen f = tt
  looks_within (Holding took) floor seen f = f
  looks_within Looked floor seen f = tt

  pub can_look : (slots id : ℕ) (me : M) → Allows K slots id me 1 (λ x. x) (Looks me)
  can_look slots id me s k _ at _ =
      let ok = k.agree id me.0 at in
      let f = k.floor in
      let w = seeing f me.0 in
      let kept = lifted s k id me.0 w at refl (looks_hand me.0.phase) f
      (record {
        named = ok.named;
        empty = λ e. looks_free me.0.phase (ok.empty e);
        below = omega arith;
        fresh = looks_fresh me.0.phase f me.0.seen ok.fresh;
      })
      (λ j u _ here. k.agree j u here) k.home in
      subst (λ (x : ℕ). (w : View N) × (a : Act (Maybe V)) × Valid s.homes me.1 a × K (stepped s 1 x id me.1 w a)
      × Looks me x (w, carried_after me.1 a)) (sym (floor_is s k))
      (w, keeps, tt, kept, (refl, ok.below, looks_within me.0.phase f me.0.seen ok.fresh))

  -- while a pass holds, the slot is out, and no other holds
  out : (f t : ℕ) (hs : List _) → AtHome run floor_of r f t hs → 0 < t → (t ≡ 1) × (hs ≡ none ∷ [])
  out f zero hs home some_hold = absurd (omega arith)
  out f (suc t) hs home some_hold = (ap suc home.0, home.1)

  still_out : (f f' t : ℕ) (hs : List _) → AtHome run floor_of r f t hs → 0 < t → AtHome run floor_of r f' t hs
  still_out f f' zero hs home some_hold = absurd (omega arith)
  still_out f f' (suc t) hs home some_hold = home

  calm : (f : ℕ) (u : View N) → turns_in u.phase ≡ 0 → KnowsFloor f u.seen u.phase
  calm f u e = subst (λ p. KnowsFloor f u.seen p) (sym (free_is u.phase e)) tt

  pub can_raise : (slots id : ℕ) (me : M) (k : ℕ) → me.0.phase ≡ Looked → 0 < me.0.shares
      → Allows K slots id me 1 (λ x. max x k) (λ found. Raises (step slots 1 k 0 none) me)
  can_raise slots id me to holds some_share s k _ at _ =
      let ok = k.agree id me.0 at in
      let fresh : me.0.seen ≡ k.floor = subst (λ p. KnowsFloor k.floor me.0.seen p) holds ok.fresh in
      let f : ℕ = max me.0.seen to in
      let w = seeing f me.0 in
      let one : turns_in me.0.phase ≡ 1 = ap turns_in holds in
      let h = total-set turns_of s.views id me.0 spent at in
      let away = out k.floor (total turns_of s.views) s.homes k.home (omega arith) in
      let kept = lifted s k id me.0 w at refl (looks_hand me.0.phase) f
      (record {
        named = ok.named;
        empty = λ e. absurd (omega arith);
        below = omega arith;
        fresh = subst (λ p. KnowsFloor f f (looked p)) (sym holds) refl;
      })
      (λ j u apart here. let other = k.agree j u here in let free = free_else s.views id j me.0 u apart at here one away.0 in record { named = other.named; empty = other.empty; below = let b = other.below in omega arith; fresh = calm f u free })
      (still_out k.floor f (total turns_of s.views) s.homes k.home (omega arith)) in
      subst (λ (x : ℕ). (w : View N) × (a : Act (Maybe V)) × Valid s.homes me.1 a
      × K (stepped s 1 (max x to) id me.1 w a)
      × Raises (step slots 1 to 0 none) me (w, carried_after me.1 a)) (fresh ∙ sym (floor_is s k))
      (w, keeps, tt, kept, refl)

  gives_it : (slots id : ℕ) (v : View N) (y : V) → v.phase ≡ Looked → 0 < v.shares → v.run ≡ Some (run y)
      → v.seen ≤ floor_of y
      → Allows K slots id (v, (0, Some y) ∷ []) 0 (λ _. 0) (λ found. Gives (v, (0, Some y) ∷ []))
  gives_it slots id v y holds some_share named high s k _ at _ =
      let ok = k.agree id v at in
      let fresh : v.seen ≡ k.floor = subst (λ p. KnowsFloor k.floor v.seen p) holds ok.fresh in
      let h = total-set turns_of s.views id v (giving v) at in
      let one : turns_in v.phase ≡ 1 = ap turns_in holds in
      let away = out k.floor (total turns_of s.views) s.homes k.home (omega arith) in
      let only = away.0 in
      let back : set s.homes 0 (some (Some y)) ≡ some (Some y) ∷ [] = ap (λ l. set l 0 (some (Some y))) away.1 in
      let same_run : Some (run y) ≡ Some r = sym named ∙ (ok.named some_share).0 in
      let is : run y ≡ r = cc in (
        giving v,
        gives,
        tt,
        placed s k id v (giving v) at refl
            (record { named = ok.named; empty = λ none. refl; below = ok.below; fresh = tt }) 0 (omega arith) _ (
              y,
              back,
              is,
              omega arith,
            ),
        refl,
      )

  pub can_give : (slots id : ℕ) (me : M) (y : V) → me.1 ≡ (0, Some y) ∷ [] → me.0.phase ≡ Looked → 0 < me.0.shares
      → me.0.run ≡ Some (run y) → me.0.seen ≤ floor_of y
      → Allows K slots id me 0 (λ _. 0) (λ found. Gives me)
  can_give slots id me y has holds some_share named high =
      subst (λ c. Allows K slots id (me.0, c) 0 (λ _. 0) (λ found. Gives (me.0, c))) (sym has)
      (gives_it slots id me.0 y holds some_share named high)

  -- the rule where the views change, and their shares and what they hold stay the same in sum
  regrouped : (s : St) (k : K s) (views : List (View N)) → total turns_of views ≡ total turns_of s.views
      → total shares_of views ≡ total shares_of s.views
      → ((j : ℕ) (w : View N) → get_elem? views j ≡ some w → Agrees r n k.floor w)
      → K (record { words = s.words; homes = s.homes; views = views })
  regrouped s k views same shares each = record {
    floor = k.floor;
    words = k.words ∙ ap (λ (x : ℕ). x ∷ k.floor ∷ []) (sym same);
    home = subst (λ (x : ℕ). AtHome run floor_of r k.floor x s.homes) (sym same) k.home;
    agree = each;
    shares = shares ∙ k.shares;
  }

  pub can_split : (id : ℕ) (v : View N) → v.phase ≡ Free → 1 < v.shares → Splits K id v (one_less v) (one_share v)
  can_split id v free two s k at =
      let ok = k.agree id v at in
      let h = total-set turns_of s.views id v (one_less v) at in
      let t = total-set shares_of s.views id v (one_less v) at in
      let h' = total-snoc turns_of (set s.views id (one_less v)) (one_share v) in
      let t' = total-snoc shares_of (set s.views id (one_less v)) (one_share v) in
      let none_held : turns_in v.phase ≡ 0 = ap turns_in free in
      regrouped s k (set s.views id (one_less v) ++ one_share v ∷ []) (omega arith) (omega arith)
      (λ j w here. ⊎_elim
      (λ old. ⊎_elim (λ e. subst (λ (x : View N). Agrees r n k.floor x) e.1
      (record { named = λ _. ok.named (omega arith); empty = λ _. free; below = ok.below; fresh = ok.fresh }))
      (λ e. k.agree j w e.1) (at_set s.views id j (one_less v) w old))
      (λ e. subst (λ (x : View N). Agrees r n k.floor x) e
      (record { named = λ _. ok.named (omega arith); empty = λ _. refl; below = ok.below; fresh = tt }))
      (at_snoc (set s.views id (one_less v)) (one_share v) w j here))

  pub can_join : (id : ℕ) (v : View N) (other : ℕ) (w : View N) → v.phase ≡ Free → w.phase ≡ Free → 0 < v.shares
      → Joins K id v other w (together v w) spent
  can_join id v other w free free' some_share s k at apart at' =
      let ok = k.agree id v at in
      let both = together v w in
      let views = set s.views id both in
      let mine = at_set s.views id other both w at' in
      let ok' : Agrees r n k.floor w = ⊎_elim (λ e. absurd (apart e.0)) (λ e. k.agree other w e.1) mine in
      let low = ok.below in
      let low' = ok'.below in
      let h = total-set turns_of s.views id v both at in
      let t = total-set shares_of s.views id v both at in
      let h' = total-set turns_of views other w spent at' in
      let t' = total-set shares_of views other w spent at' in
      let none_held : turns_in v.phase ≡ 0 = ap turns_in free in
      let none_held' : turns_in w.phase ≡ 0 = ap turns_in free' in
      regrouped s k (set views other spent) (omega arith) (omega arith)
      (λ j u here. ⊎_elim
      (λ e. subst (λ (x : View N). Agrees r n k.floor x) e.1
      (record { named = λ more. absurd (omega arith); empty = λ _. refl; below = omega arith; fresh = tt }))
      (λ e. ⊎_elim (λ e'. subst (λ (x : View N). Agrees r n k.floor x) e'.1
      (record {
        named = λ _. ok.named some_share;
        empty = λ _. free;
        below = omega arith;
        fresh = calm k.floor both none_held;
      })) (λ e'. k.agree j u e'.1) (at_set s.views id j both u e.1))
      (at_set views other j spent u here))

  at_home : (f t : ℕ) (hs : List _) → AtHome run floor_of r f t hs → t ≡ 0 → (y : V) × (hs ≡ some (Some y) ∷ [])
      × (run y ≡ r) × (f ≤ floor_of y)
  at_home f zero hs home e = home
  at_home f (suc t) hs home e = absurd (omega arith)

  -- where a whole pass is free, the slot has a value that names its run and is not below what it has seen
  pub whole_has_it : (id : ℕ) (v : View N) (ws : List ℕ) (xs : List (Maybe V)) → v.phase ≡ Free → 0 < v.shares
      → v.shares ≡ v.all
      → Final (Seen K id v) ws xs → (y : V) × (get_elem? xs 0 ≡ some (Some y)) × (v.run ≡ Some (run y))
      × (v.seen ≤ floor_of y)
  whole_has_it id v ws xs free some_share whole last =
      let s = last.0 in
      let k = last.1.0 in
      let at = last.1.1 in
      let ok = k.agree id v at in
      let all_is : v.all ≡ n = (ok.named some_share).1 in
      let shares = k.shares in
      let none_held : turns_in v.phase ≡ 0 = ap turns_in free in
      let lone = alone s.views id v at (each_spent s k) (omega arith) in
      let home = at_home k.floor (total turns_of s.views) s.homes k.home (omega arith) in
      let low = ok.below in
      let high = home.3 in (
        home.0,
        last.4 0 (Some home.0) (ap (λ h. get_elem? h 0) home.1),
        (ok.named some_share).0 ∙ ap Some (sym home.2),
        omega arith,
      )
