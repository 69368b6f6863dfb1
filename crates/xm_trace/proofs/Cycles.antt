-- The moves of a cycle among those of a run, and the sums of a run's moves.
use Rattle.std.proofs.Common.{◌≡◌, ◌≢◌, ℕ, zero, suc, ◌<◌, ◌≤◌, ◌+◌, ◌-◌, Bool, cond, List, [], ◌∷◌, ◌++◌, length, take, drop, decimal, Option, Some, None, refl, sym, ap, ap₂, subst, ◌∙◌, add-one, add-suc, zero-add, append_assoc, append-nil, arith, inl, inr, eq-eqb, ne_eqb, length-append}
use Rattle.std.specs.Prelude.{◌==◌}
use Rattle.std.specs.List.{flat_map, prefix_len}
use Rattle.std.proofs.lemmas.Bool.{cases_eq}
use Rattle.xm_model.specs.Next.{move}
use Rattle.xm_model.specs.Run.{is_offer, moves}
use Rattle.xm_model.specs.Signals.{Signals}
use Rattle.xm_trace.proofs.Counting.{at_most_one}
use Rattle.xm_trace.specs.Moves.{cycle_moves, moved_on, round_moves}
use Rattle.xm_model.specs.TextLines.{line}
use Rattle.xm_model.specs.Naming.{Naming}
use Rattle.xm_trace.specs.Rounds.{RoundsJoin}
use Rattle.xm_trace.specs.Sums.{sum_at, sum_in}
use Rattle.xm_trace.specs.Text.{channel_sums, cycle_line, end_line, move_text, round_lines, run_text, sum_line, sum_lines}
use Rattle.xm_trace.specs.declared.trace.Move.{Move}

abbrev is_of : ℕ → Move → Bool
is_of t m = m.cycle == t

-- every move of a list is of cycle t, or none is
abbrev AllOf : ℕ → List Move → Type 0
AllOf t [] = Unit {0}
AllOf t (m ∷ ms) = (m.cycle ≡ t) × AllOf t ms

abbrev NoneOf : ℕ → List Move → Type 0
NoneOf t [] = Unit {0}
NoneOf t (m ∷ ms) = (m.cycle ≢ t) × NoneOf t ms

all_append : (t : ℕ) (xs ys : List Move) → AllOf t xs → AllOf t ys → AllOf t (xs ++ ys)
all_append t [] ys h k = k
all_append t (x ∷ xs) ys h k = (h.0, all_append t xs ys h.1 k)

none_append : (t : ℕ) (xs ys : List Move) → NoneOf t xs → NoneOf t ys → NoneOf t (xs ++ ys)
none_append t [] ys h k = k
none_append t (x ∷ xs) ys h k = (h.0, none_append t xs ys h.1 k)

none_from_all : (t k : ℕ) (xs : List Move) → t ≢ k → AllOf k xs → NoneOf t xs
none_from_all t k [] differ h = tt
none_from_all t k (x ∷ xs) differ h = (λ same. differ (sym same ∙ h.0), none_from_all t k xs differ h.1)

all_moved : (t c : ℕ) (o : Option ℕ) → AllOf t (moved_on t c o)
all_moved t c None = tt
all_moved t c (Some d) = (refl, tt)

all_cycle : (φ : Signals) (t n : ℕ) → AllOf t (cycle_moves φ t n)
all_cycle φ t zero = tt
all_cycle φ t (suc c) = all_append t (cycle_moves φ t c) (moved_on t c (move φ c)) (all_cycle φ t c) (all_moved t c (move φ c))

-- the front of moves of cycle t is counted
front_none : (t : ℕ) (ys : List Move) → NoneOf t ys → prefix_len (is_of t) ys ≡ 0
front_none t [] h = refl
front_none t (y ∷ ys) h = rw (ne_eqb y.cycle t h.0) refl

front_all : (t : ℕ) (xs ys : List Move) → AllOf t xs → NoneOf t ys → prefix_len (is_of t) (xs ++ ys) ≡ length xs
front_all t [] ys h k = front_none t ys k
front_all t (x ∷ xs) ys h k = rw (eq-eqb x.cycle t h.0, front_all t xs ys h.1 k) (omega arith)

-- the moves after those of cycle number k of the round
pub record Parted (φ : ℕ → Signals) (n from k cycles : ℕ) : Type 0 where
  pub later : List Move
  pub parts : round_moves φ n from cycles ≡ round_moves φ n from k ++ (cycle_moves (φ (from + k)) (from + k) n ++ later)
  pub others : NoneOf (from + k) later

parted : (φ : ℕ → Signals) (n from k j : ℕ) → Parted φ n from k (suc (k + j))
parted φ n from k zero = record {
  later = [];
  parts = rw (append-nil (cycle_moves (φ (from + k)) (from + k) n)) (ap (λ (i : ℕ). round_moves φ n from (suc i)) (let e : k + 0 ≡ k = omega arith in e));
  others = tt;
}
parted φ n from k (suc j) =
    let before = parted φ n from k j in
    let i = suc (k + j) in
    let last = cycle_moves (φ (from + i)) (from + i) n in
    record {
      later = before.later ++ last;
      parts =
          ap (λ (m : ℕ). round_moves φ n from (suc m)) (let e : k + suc j ≡ suc (k + j) = omega arith in e)
          ∙ ap (λ (xs : List Move). xs ++ last) before.parts
          ∙ append_assoc (round_moves φ n from k) (cycle_moves (φ (from + k)) (from + k) n ++ before.later) last
          ∙ ap (λ (xs : List Move). round_moves φ n from k ++ xs) (append_assoc (cycle_moves (φ (from + k)) (from + k) n) before.later last);
      others = none_append (from + k) before.later last before.others (none_from_all (from + k) (from + i) last (λ same. absurd (omega (arith, same))) (all_cycle (φ (from + i)) (from + i) n));
    }

pub parted_at : (φ : ℕ → Signals) (n from k cycles : ℕ) → k < cycles → Parted φ n from k cycles
parted_at φ n from k cycles below =
    subst (λ (m : ℕ). Parted φ n from k m) (let e : suc (k + (cycles - suc k)) ≡ cycles = omega arith in e) (parted φ n from k (cycles - suc k))

drop_front : {X : Type 0} (xs ys : List X) (n : ℕ) → n ≡ length xs → drop n (xs ++ ys) ≡ ys
drop_front [] ys zero h = refl
drop_front [] ys (suc n) h = absurd (omega arith)
drop_front (x ∷ xs) ys zero h = absurd (omega arith)
drop_front (x ∷ xs) ys (suc n) h = drop_front xs ys n (omega arith)

take_front : {X : Type 0} (xs ys : List X) (n : ℕ) → n ≡ length xs → take n (xs ++ ys) ≡ xs
take_front [] [] zero h = refl
take_front [] (y ∷ ys) zero h = refl
take_front [] ys (suc n) h = absurd (omega arith)
take_front (x ∷ xs) ys zero h = absurd (omega arith)
take_front {X} (x ∷ xs) ys (suc n) h = ap (λ (zs : List X). x ∷ zs) (take_front xs ys n (omega arith))

-- The moves that stand from the end of the earlier cycles of the round to the end of the moves of cycle t are those of cycle t.
module _ (φ : ℕ → Signals) (n from k cycles t : ℕ) (below : k < cycles) (now : t ≡ from + k) (all : List Move) (is : all ≡ round_moves φ n from cycles) (start end : ℕ)
    (begin : start ≡ length (round_moves φ n from k)) (stop : end ≡ start + prefix_len (is_of t) (drop start all)) where
  rest : drop start all ≡ cycle_moves (φ (from + k)) (from + k) n ++ (parted_at φ n from k cycles below).later
  rest =
      let p = parted_at φ n from k cycles below in
      ap (drop start) (is ∙ p.parts) ∙ drop_front (round_moves φ n from k) (cycle_moves (φ (from + k)) (from + k) n ++ p.later) start begin

  count : end ≡ start + length (cycle_moves (φ (from + k)) (from + k) n)
  count =
      let p = parted_at φ n from k cycles below in
      stop ∙ ap (λ (i : ℕ). start + i) (ap (λ (i : ℕ). prefix_len (is_of i) (drop start all)) now
      ∙ ap (prefix_len (is_of (from + k))) rest
      ∙ front_all (from + k) (cycle_moves (φ (from + k)) (from + k) n) p.later (all_cycle (φ (from + k)) (from + k) n) p.others)

  pub moves_of_cycle : take (end - start) (drop start all) ≡ cycle_moves (φ (from + k)) (from + k) n
  moves_of_cycle =
      let p = parted_at φ n from k cycles below in
      let many : end - start ≡ length (cycle_moves (φ (from + k)) (from + k) n) = omega (arith, count) in
      ap (take (end - start)) rest ∙ take_front (cycle_moves (φ (from + k)) (from + k) n) p.later (end - start) many

  pub ends_there : end ≡ length (round_moves φ n from (k + 1))
  ends_there = rw add-one (omega (arith, count, length-append (round_moves φ n from k) (cycle_moves (φ (from + k)) (from + k) n)))

  -- the text with the line of the cycle
  pub line_more : (names : Naming) → length names.channels ≡ n → (begun before after : List ℕ) → before ≡ begun ++ round_lines names φ from k
      → after ≡ before ++ line (decimal t ++ flat_map (move_text names) (take (end - start) (drop start all))) → after ≡ begun ++ round_lines names φ from (k + 1)
  line_more names many begun before after so_far more =
      rw add-one (more
      ∙ ap₂ (λ (x y : List ℕ). x ++ y) so_far (ap₂ (λ (i : ℕ) (ms : List Move). line (decimal i ++ flat_map (move_text names) ms)) now
      (moves_of_cycle ∙ ap (cycle_moves (φ (from + k)) (from + k)) (sym many)))
      ∙ append_assoc begun (round_lines names φ from k) (cycle_line names φ (from + k)))

-- ---- sums

pub sum-append : (xs ys : List Move) (c d : ℕ) → sum_in (xs ++ ys) c d ≡ sum_in xs c d + sum_in ys c d
sum-append [] ys c d = omega arith
sum-append (x ∷ xs) ys c d = let rest = sum-append xs ys c d in omega (arith, rest)

sum_moved_here : (t c d : ℕ) (o : Option ℕ) → sum_in (moved_on t c o) c d ≡ cond (is_offer d o) 1 0
sum_moved_here t c d None = refl
sum_moved_here t c d (Some e) = rw (eq-eqb c c refl) (omega arith)

sum_moved_elsewhere : (t b c d : ℕ) (o : Option ℕ) → b ≢ c → sum_in (moved_on t b o) c d ≡ 0
sum_moved_elsewhere t b c d None differ = refl
sum_moved_elsewhere t b c d (Some e) differ = rw (ne_eqb b c differ) refl

sum_before : (φ : Signals) (t n c d : ℕ) → n ≤ c → sum_in (cycle_moves φ t n) c d ≡ 0
sum_before φ t zero c d le = refl
sum_before φ t (suc b) c d le =
    let one = sum_before φ t b c d (omega arith) in
    let two = sum_moved_elsewhere t b c d (move φ b) (λ same. absurd (omega (arith, same))) in
    sum-append (cycle_moves φ t b) (moved_on t b (move φ b)) c d ∙ omega (arith, one, two)

sum_cycle : (φ : Signals) (t n c d : ℕ) → c < n → sum_in (cycle_moves φ t n) c d ≡ cond (is_offer d (move φ c)) 1 0
sum_cycle φ t zero c d below = absurd (omega arith)
sum_cycle φ t (suc b) c d below =
    elim (cases_eq b c) [
      | inl same ↦
          let one = sum_before φ t b c d (omega (arith, same)) in
          let two = subst (λ (k : ℕ). sum_in (moved_on t b (move φ b)) k d ≡ cond (is_offer d (move φ k)) 1 0) same (sum_moved_here t b d (move φ b)) in
          sum-append (cycle_moves φ t b) (moved_on t b (move φ b)) c d ∙ ap₂ (λ (x y : ℕ). x + y) one two ∙ omega arith
      | inr differ ↦
          let one = sum_cycle φ t b c d (omega (arith, differ)) in
          let two = sum_moved_elsewhere t b c d (move φ b) differ in
          sum-append (cycle_moves φ t b) (moved_on t b (move φ b)) c d ∙ ap₂ (λ (x y : ℕ). x + y) one two ∙ omega arith
    ]

-- with the sums of a round's moves, the counts go on
pub sum_round : (φ : ℕ → Signals) (n from k c d : ℕ) → c < n → sum_in (round_moves φ n from k) c d + moves φ c d from ≡ moves φ c d (from + k)
sum_round φ n from zero c d below =
    let same : from + 0 ≡ from = omega arith in
    rw same (zero-add (moves φ c d from))
sum_round φ n from (suc k) c d below =
    let before = sum_round φ n from k c d below in
    let both = sum-append (round_moves φ n from k) (cycle_moves (φ (from + k)) (from + k) n) c d in
    let last = sum_cycle (φ (from + k)) (from + k) n c d below in
    let next : moves φ c d (from + suc k) ≡ moves φ c d (from + k) + cond (is_offer d (move (φ (from + k)) c)) 1 0 = rw (add-suc from k) refl in
    omega (arith, before, both, last, next)

-- the sums of all moves are their counts
pub sum_all : (φ : ℕ → Signals) (n k c d : ℕ) → c < n → sum_in (round_moves φ n 0 k) c d ≡ moves φ c d k
sum_all φ n k c d below =
    let all = sum_round φ n 0 k c d below in
    let same = ap (moves φ c d) (zero-add k) in
    omega (arith, all, same)

-- a colour moves at most once a cycle
pub moves_few : (φ : ℕ → Signals) (c d t : ℕ) → moves φ c d t ≤ t
moves_few φ c d zero = omega arith
moves_few φ c d (suc t) =
    let before = moves_few φ c d t in
    let one = at_most_one (is_offer d (move (φ t) c)) in
    omega (arith, before, one)

-- ---- lines

joined_lines : (names : Naming) (φ : ℕ → Signals) (from n m : ℕ) → round_lines names φ from (n + m) ≡ round_lines names φ from n ++ round_lines names φ (from + n) m
joined_lines names φ from n zero =
    let same : n + 0 ≡ n = omega arith in
    rw same (sym (append-nil (round_lines names φ from n)))
joined_lines names φ from n (suc m) =
    let later : from + (n + m) ≡ from + n + m = omega arith in
    rw (add-suc n m) (ap₂ (λ (x y : List ℕ). x ++ y) (joined_lines names φ from n m) (ap (cycle_line names φ) later)
    ∙ append_assoc (round_lines names φ from n) (round_lines names φ (from + n) m) (cycle_line names φ (from + n + m)))

pub rounds_join : RoundsJoin
rounds_join = record { joined = joined_lines }

-- ---- the end of the text

channel_sums_same : (names : Naming) (f g : ℕ → ℕ → ℕ) (c k : ℕ) → ((d : ℕ) → d < k → f c d ≡ g c d) → channel_sums names f c k ≡ channel_sums names g c k
channel_sums_same names f g c zero same = refl
channel_sums_same names f g c (suc d) same =
    ap₂ (λ (x y : List ℕ). x ++ y) (channel_sums_same names f g c d (λ e h. same e (omega arith))) (ap (sum_line names c d) (same d (omega arith)))

pub sum_lines_same : (names : Naming) (f g : ℕ → ℕ → ℕ) (n : ℕ) → ((c d : ℕ) → c < n → d < length names.colours → f c d ≡ g c d) → sum_lines names f n ≡ sum_lines names g n
sum_lines_same names f g zero same = refl
sum_lines_same names f g (suc c) same =
    ap₂ (λ (x y : List ℕ). x ++ y) (sum_lines_same names f g c (λ b d h. same b d (omega arith))) (channel_sums_same names f g c (length names.colours) (λ d. same c d (omega arith)))

-- the lines of all cycles, of these sums and of the end are the text of the run
pub whole_text : (names : Naming) (φ : ℕ → Signals) (cycles : ℕ) (all : List Move) (sums : List ℕ) (begun lined ended : List ℕ) → all ≡ round_moves φ (length names.channels) 0 cycles →
    ((c d : ℕ) → c < length names.channels → d < length names.colours → sum_at sums (length names.colours) c d ≡ sum_in all c d) → begun ≡ [] →
    lined ≡ begun ++ round_lines names φ 0 cycles →
    ended ≡ lined ++ (sum_lines names (sum_at sums (length names.colours)) (length names.channels) ++ end_line cycles) → ended ≡ run_text names φ cycles
whole_text names φ cycles all sums begun lined ended is same empty lines rest =
    let n = length names.channels in
    let counted = sum_lines_same names (sum_at sums (length names.colours)) (λ c d. moves φ c d cycles) n
    (λ c d h k. same c d h k ∙ ap (λ (ms : List Move). sum_in ms c d) is ∙ sum_all φ n cycles c d h) in
    rest
    ∙ ap₂ (λ (x y : List ℕ). x ++ (y ++ end_line cycles)) (lines ∙ ap (λ (x : List ℕ). x ++ round_lines names φ 0 cycles) empty) counted
