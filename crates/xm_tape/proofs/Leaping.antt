-- Draws that are passed over at once, and the stops of a row.
use Rattle.std.proofs.Common.{◌≡◌, ℕ, zero, suc, ◌<◌, ◌≤◌, ◌+◌, ◌-◌, ◌*◌, ◌%◌, ◌^◌, ◌∙◌, List, [], ◌∷◌, ◌++◌, drop, get_or, length, set, refl, sym, ap, ap₂, arith, inl, inr, subst, Some, slice_get, true}
use Rattle.std.specs.Prelude.{Bool, Option, option_map}
use Rattle.std.proofs.Math.ListN.{drop_of_length-le}
use Rattle.std.proofs.Math.Seq.{drop-cons}
use Rattle.std.proofs.Math.Nat.{add-mod-mod, mod-add-mod, mod-eq_of_lt}
use Rattle.std.proofs.lemmas.Bool.{cases_lt}
use Rattle.std.proofs.lemmas.Option.{slice_get_past}
use Rattle.std.proofs.lemmas.Nat.{mul-mod_second}
use Rattle.xm_model.specs.Component.{Component}
use Rattle.xm_model.specs.declared.state.Choice.{Choice}
use Rattle.xm_order.specs.Lemmas.Items.{get-set_other, get-set_same}
use Rattle.xm_tape.proofs.Drawing.{number_after-add}
use Rattle.xm_tape.specs.Draws.{choice_drawn, next_number, number_after, row_drawn}
use Rattle.xm_tape.specs.Inner.Leaps.{AreDone, AreStops, IsLeap, NoneWanted, Reaches}
use Rattle.xm_tape.specs.Place.{HasWanted}
use Rattle.xm_tape.specs.declared.leap.Leap.{Leap}
use Rattle.xm_tape.specs.declared.leap.Stop.{Stop}

pub leap_none : IsLeap 0 (record { multiplier = 1; increment = 0 })
leap_none x small = sym (ap (λ (n : ℕ). n % 2 ^ 64) (let e : x * 1 + 0 ≡ x = omega arith in e) ∙ mod-eq_of_lt small)

-- a draw after a leap, modulo any number
drawn_on : (w a c m i x : ℕ) → (a * ((x * m + i) % w) + c) % w ≡ (x * ((m * a) % w) + ((i * a) % w + c) % w) % w
drawn_on w a c m i x =
    let one : (a * ((x * m + i) % w) + c) % w ≡ (a * (x * m + i) + c) % w =
    sym (mod-add-mod (a * ((x * m + i) % w)) w c) ∙ ap (λ (n : ℕ). (n + c) % w) (mul-mod_second a (x * m + i) w) ∙ mod-add-mod (a * (x * m + i)) w c in
    let two : a * (x * m + i) + c ≡ x * (m * a) + (i * a + c) = omega arith in
    let three : (x * (m * a) + (i * a + c)) % w ≡ (x * ((m * a) % w) + ((i * a) % w + c) % w) % w =
    sym (mod-add-mod (x * (m * a)) w (i * a + c)) ∙ ap (λ (n : ℕ). (n + (i * a + c)) % w) (sym (mul-mod_second x (m * a) w)) ∙ mod-add-mod (x * ((m * a) % w)) w (i * a + c)
    ∙ sym (add-mod-mod (x * ((m * a) % w)) (i * a + c) w) ∙ ap (λ (n : ℕ). (x * ((m * a) % w) + n) % w) (sym (mod-add-mod (i * a) w c))
    in
    one ∙ ap (λ (n : ℕ). n % w) two ∙ three

pub leap_more : (n : ℕ) (leap : Leap) → IsLeap n leap → (m i : ℕ) → m ≡ (leap.multiplier * 6364136223846793005) % 2 ^ 64 → i ≡ ((leap.increment * 6364136223846793005) % 2 ^ 64 + 1442695040888963407) % 2 ^ 64
    → IsLeap (n + 1) (record { multiplier = m; increment = i })
leap_more n leap is m i m_is i_is x small =
    number_after-add n 1 x
    ∙ ap next_number (is x small)
    ∙ drawn_on (2 ^ 64) 6364136223846793005 1442695040888963407 leap.multiplier leap.increment x
    ∙ ap₂ (λ (a b : ℕ). (x * a + b) % 2 ^ 64) (sym m_is) (sym i_is)

-- one stop more
pub reaches_more : (own : List Bool) (from : ℕ) (stops : List Stop) (to : ℕ) (s : Stop) → Reaches own from stops to → to ≤ s.place → IsLeap (suc s.place - to) s.leap → NoneWanted own to s.place
    → Reaches own from (stops ++ s ∷ []) (suc s.place)
reaches_more own from [] to s is below leap none =
    (subst (λ (n : ℕ). n ≤ s.place) (sym is) below, subst (λ (n : ℕ). IsLeap (suc s.place - n) s.leap) (sym is) leap, subst (λ (n : ℕ). NoneWanted own n s.place) (sym is) none, refl)
reaches_more own from (t ∷ stops) to s is below leap none = (is.0, is.1, is.2, reaches_more own (suc t.place) stops to s is.3 below leap none)

-- stops go forward
pub reaches_on : (own : List Bool) (from : ℕ) (stops : List Stop) (to : ℕ) → Reaches own from stops to → from ≤ to
reaches_on own from [] to is = omega (arith, is)
reaches_on own from (t ∷ stops) to is = let on = reaches_on own (suc t.place) stops to is.3 in let here = is.0 in omega arith

pub none_more : (own : List Bool) (a k : ℕ) → NoneWanted own a k → (slice_get own k ≡ Some true → ⊥) → NoneWanted own a (k + 1)
none_more own a k none here j from below wanted =
    elim (cases_lt j k) [
      | inl less ↦ none j from less wanted
      | inr more ↦ here (subst (λ (n : ℕ). slice_get own n ≡ Some true) (let e : j ≡ k = omega arith in e) wanted)
    ]

module _ (own : List Bool) (k : ℕ) (stops : List Stop) (rest more none : Leap) (so_far : AreStops own k stops rest) (one : (n : ℕ) → IsLeap n rest → IsLeap (n + 1) more) (empty : IsLeap 0 none) where
  before : IsLeap (k + 1 - so_far.to) more
  before = let h = so_far.inside in let e : k - so_far.to + 1 ≡ k + 1 - so_far.to = omega arith in subst (λ (n : ℕ). IsLeap n more) e (one (k - so_far.to) so_far.leap)

  -- a stop at place k
  pub stop_here : (s : Stop) → s.place ≡ k → s.leap ≡ more → AreStops own (k + 1) (stops ++ s ∷ []) none
  stop_here s at is =
      record {
        to = suc s.place;
        reaches = reaches_more own 0 stops so_far.to s so_far.reaches (let h = so_far.inside in omega arith)
            (subst (λ (l : Leap). IsLeap (suc s.place - so_far.to) l) (sym is) (subst (λ (n : ℕ). IsLeap n more) (let e : k + 1 - so_far.to ≡ suc s.place - so_far.to = omega (arith, at) in e) before))
            (subst (λ (n : ℕ). NoneWanted own so_far.to n) (sym at) so_far.none);
        inside = omega arith;
        leap = subst (λ (n : ℕ). IsLeap n none) (let e : 0 ≡ k + 1 - suc s.place = omega (arith, at) in e) empty;
        none = λ j from below wanted. absurd (omega arith);
      }

  -- none there
  pub stop_on : (slice_get own k ≡ Some true → ⊥) → AreStops own (k + 1) stops more
  stop_on other = record { to = so_far.to; reaches = so_far.reaches; inside = (let h = so_far.inside in omega arith); leap = before; none = none_more own so_far.to k so_far.none other }

-- ---- a row drawn at its stops

-- the choice at a place of a row
pub drawn_at : (ms : List Component) (p x : ℕ) (m : Component) → slice_get ms p ≡ Some m → slice_get (row_drawn ms x) p ≡ Some (choice_drawn m (number_after (suc p) x))
drawn_at [] p x m at = absurd cc
drawn_at (n ∷ ms) zero x m at = ap (λ (o : Option Component). option_map (λ (l : Component). choice_drawn l (next_number x)) o) at
drawn_at (n ∷ ms) (suc p) x m at = drawn_at ms p (next_number x) m at

pub length-row_drawn : (ms : List Component) (x : ℕ) → length (row_drawn ms x) ≡ length ms
length-row_drawn [] x = refl
length-row_drawn (m ∷ ms) x = ap suc (length-row_drawn ms (next_number x))

module _ (own : List Bool) (width : ℕ) (stops : List Stop) (rest : Leap) (are : AreStops own width stops rest) (j : ℕ) (d : Stop) (below : j < length stops)
    (whole row : List Choice) (before number : ℕ) (done : AreDone own stops j are.to whole row before number) where
  abbrev s : Stop
  s = get_or stops j d

  ahead : Reaches own done.from (s ∷ drop (suc j) stops) are.to
  ahead = subst (λ (ss : List Stop). Reaches own done.from ss are.to) (drop-cons stops j d below) done.ahead

  pub stop_inside : s.place < width
  stop_inside = let on = reaches_on own (suc s.place) (drop (suc j) stops) are.to ahead.3 in let inside = are.inside in omega arith

  pub number_at_stop : (after : ℕ) → ((n : ℕ) → IsLeap n s.leap → after ≡ number_after n number) → after ≡ number_after (suc s.place) before
  number_at_stop after leaps =
      let past = ahead.0 in
      let e : done.from + (suc s.place - done.from) ≡ suc s.place = omega arith in
      leaps (suc s.place - done.from) ahead.1 ∙ ap (number_after (suc s.place - done.from)) done.number_is ∙ sym (number_after-add done.from (suc s.place - done.from) before) ∙ ap (λ (n : ℕ). number_after n before) e

  -- one stop more
  pub done_more : (after : ℕ) → number < 2 ^ 64 → ((n : ℕ) → IsLeap n s.leap → after ≡ number_after n number) → (choice : Choice) → s.place < length row
      → slice_get whole s.place ≡ Some choice → AreDone own stops (j + 1) are.to whole (set row s.place choice) before after
  done_more after small leaps choice inside here =
      let past = ahead.0 in
      record {
        from = suc s.place;
        ahead = subst (λ (n : ℕ). Reaches own (suc s.place) (drop n stops) are.to) (let e : suc j ≡ j + 1 = omega arith in e) ahead.3;
        number_is = number_at_stop after leaps;
        same = λ k under wanted. elim (cases_lt k done.from) [
          | inl less ↦ get-set_other row s.place k choice (omega arith) ∙ done.same k less wanted
          | inr more ↦ elim (cases_lt k s.place) [
            | inl less ↦ absurd (ahead.2 k more less wanted)
            | inr far ↦ (let e : k ≡ s.place = omega arith in ap (slice_get (set row s.place choice)) e ∙ get-set_same row s.place choice inside ∙ sym here ∙ ap (slice_get whole) (sym e))
          ]
        ];
      }

module _ (own : List Bool) (width : ℕ) (stops : List Stop) (rest : Leap) (are : AreStops own width stops rest) (whole row : List Choice) (before : ℕ) where
  pub first_done : AreDone own stops 0 are.to whole row before before
  first_done = record { from = 0; ahead = subst (λ (ss : List Stop). Reaches own 0 ss are.to) (sym (drop_none stops)) are.reaches; number_is = refl; same = λ k under wanted. absurd (omega arith) } where
    drop_none : (ss : List Stop) → drop 0 ss ≡ ss
    drop_none [] = refl
    drop_none (s ∷ ss) = refl

  module _ (j number : ℕ) (past : length stops ≤ j) (done : AreDone own stops j are.to whole row before number) where
    behind : done.from ≡ are.to
    behind = subst (λ (ss : List Stop). Reaches own done.from ss are.to) (drop_of_length-le stops past) done.ahead

    pub number_all : (after : ℕ) → ((n : ℕ) → IsLeap n rest → after ≡ number_after n number) → after ≡ number_after width before
    number_all after leaps =
        let inside = are.inside in let at = behind in
        let e : done.from + (width - are.to) ≡ width = omega arith in
        leaps (width - are.to) are.leap ∙ ap (number_after (width - are.to)) done.number_is ∙ sym (number_after-add done.from (width - are.to) before) ∙ ap (λ (n : ℕ). number_after n before) e

    pub row_all : length row ≡ width → length whole ≡ width → HasWanted own whole row
    row_all wide full = record {
      wide = wide ∙ sym full;
      same = λ k wanted. elim (cases_lt k done.from) [
        | inl less ↦ done.same k less wanted
        | inr more ↦ elim (cases_lt k width) [
          | inl less ↦ absurd (are.none k (let at = behind in omega arith) less wanted)
          | inr far ↦ slice_get_past row k (omega arith) ∙ sym (slice_get_past whole k (omega arith))
        ]
      ];
    }
