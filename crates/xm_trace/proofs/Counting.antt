-- One more move in the sums.
use Rattle.std.proofs.Common.{◌≡◌, ◌≢◌, ℕ, suc, ◌<◌, ◌≤◌, ◌+◌, ◌*◌, Bool, true, false, cond, nat_eq, List, [], ◌∷◌, ◌++◌, length, take, get_or, set, refl, sym, ap, ◌∙◌, arith, inl, inr, eq-eqb, ne_eqb, get_or-set_same, get_or-set_other}
use Rattle.std.specs.Prelude.{◌&&◌, ◌⊎◌}
use Rattle.std.proofs.Math.Nat.{mul-le-mul_left}
use Rattle.std.proofs.lemmas.Bool.{cases_eq, cases_order}
use Rattle.std.proofs.lemmas.List.{take_more}
use Rattle.xm_trace.specs.Sums.{sum_at, sum_in}
use Rattle.xm_trace.specs.declared.trace.Move.{Move}

-- a channel below another has its places below
lower : (k c d b : ℕ) → d < k → c < b → c * k + d < b * k
lower k c d b within below = let h : suc c ≤ b = omega arith in let g = mul-le-mul_left k h in omega arith

-- colours on channels have places of their own
same_channel : (k c d c' d' : ℕ) → d < k → d' < k → c * k + d ≡ c' * k + d' → c ≡ c'
same_channel k c d c' d' within within' same =
    elim (cases_order c c') [
      | inl e ↦ e
      | inr w ↦ elim w [
        | inl below ↦ let h = lower k c d c' within below in absurd (omega arith)
        | inr above ↦ let h = lower k c' d' c within' above in absurd (omega arith)
      ]
    ]

same_colour : (k c d d' : ℕ) → c * k + d ≡ c * k + d' → d ≡ d'
same_colour k c d d' same = omega arith

apart : (k c d c' d' : ℕ) → d < k → d' < k → (c ≢ c') ⊎ (d ≢ d') → c * k + d ≢ c' * k + d'
apart k c d c' d' within within' (inl differ) same = differ (same_channel k c d c' d' within within' same)
apart k c d c' d' within within' (inr differ) same =
    let channels = same_channel k c d c' d' within within' same in
    differ (same_colour k c d d' (same ∙ ap (λ (x : ℕ). x * k + d') (sym channels)))

elsewhere : (sums : List ℕ) (k c d c' d' x : ℕ) (b : Bool) → d < k → d' < k → (c ≢ c') ⊎ (d ≢ d') → b ≡ false → get_or (set sums (c * k + d) x) (c' * k + d') 0 ≡ cond b 1 0 + get_or sums (c' * k + d') 0
elsewhere sums k c d c' d' x b within within' differ none =
    let other : c' * k + d' ≢ c * k + d = λ same. apart k c d c' d' within within' differ (sym same) in
    rw (none, get_or-set_other sums (c * k + d) (c' * k + d') x 0 other) (omega arith)

not_both : (a b : Bool) → b ≡ false → (a && b) ≡ false
not_both true b h = h
not_both false b h = refl

-- the sum at the move's place is one more, and all others stay
pub one_more : (sums : List ℕ) (channels k c d place : ℕ) → c < channels → d < k → length sums ≡ channels * k → place ≡ c * k + d → (c' d' : ℕ) → c' < channels → d' < k
    → sum_at (set sums place (get_or sums place 0 + 1)) k c' d' ≡ cond (nat_eq c c' && nat_eq d d') 1 0 + sum_at sums k c' d'
one_more sums channels k c d place below within whole is c' d' below' within' =
    rw is (elim (cases_eq c c') [
      | inl channel ↦ elim (cases_eq d d') [
        | inl colour ↦
            let inside : c * k + d < length sums = let h = lower k c d channels within below in omega arith in
            rw (← channel, ← colour, eq-eqb c c refl, eq-eqb d d refl) (rw get_or-set_same (omega arith))
        | inr differs ↦ elsewhere sums k c d c' d' _ (nat_eq c c' && nat_eq d d') within within' (inr differs) (not_both (nat_eq c c') (nat_eq d d') (ne_eqb d d' differs))
      ]
      | inr differs ↦ elsewhere sums k c d c' d' _ (nat_eq c c' && nat_eq d d') within within' (inl differs) (rw (ne_eqb c c' differs) refl)
    ])

pub at_most_one : (b : Bool) → cond b 1 0 ≤ 1
at_most_one true = omega arith
at_most_one false = omega arith

sum-snoc : (ms : List Move) (m : Move) (c d : ℕ) → sum_in (ms ++ m ∷ []) c d ≡ cond (nat_eq m.channel c && nat_eq m.colour d) 1 0 + sum_in ms c d
sum-snoc [] m c d = refl
sum-snoc (x ∷ ms) m c d = let rest = sum-snoc ms m c d in omega (arith, rest)

-- the sum of one more move
pub sum_more : (moves : List Move) (i c d : ℕ) (e : Move) (base old new : ℕ) → i < length moves → new ≡ cond (nat_eq (get_or moves i e).channel c && nat_eq (get_or moves i e).colour d) 1 0 + old → old ≡ sum_in (take i moves) c d + base
    → new ≡ sum_in (take (i + 1) moves) c d + base
sum_more moves i c d e base old new below step so_far =
    let more = sum-snoc (take i moves) (get_or moves i e) c d in
    rw (take_more moves i e below) (omega (arith, more))

-- a sum is at most the number of moves
pub sum_few : (ms : List Move) (c d : ℕ) → sum_in ms c d ≤ length ms
sum_few [] c d = omega arith
sum_few (m ∷ ms) c d =
    let rest = sum_few ms c d in
    let one = at_most_one (nat_eq m.channel c && nat_eq m.colour d) in
    omega (arith, rest, one)

-- what is read past the end
abbrev pub no_move : Move
no_move = record { cycle = 0; channel = 0; colour = 0 }
