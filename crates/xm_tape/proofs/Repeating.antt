-- The rows of a tape: how many they are, and which comes in a cycle.
use Rattle.std.proofs.Common.{◌≡◌, ℕ, zero, suc, ◌+◌, ◌-◌, ◌*◌, ◌%◌, ◌<◌, ◌≤◌, true, false, List, [], ◌++◌, length, get_or, take, drop, refl, sym, ap, ◌∙◌, arith, length-append}
use Rattle.std.specs.Prelude.{nat_lt}
use Rattle.std.proofs.Math.Nat.{add-mod_right, mod-eq_of_lt}
use Rattle.std.proofs.Math.Seq.{get_or-append_right}
use Rattle.std.proofs.lemmas.Bool.{lt-ltb, le-ltb, ltb-false, ltb-true}
use Rattle.std.proofs.lemmas.List.{get_or_append_left, drop-drop}
use Rattle.xm_model.specs.declared.state.Choice.{Choice}
use Rattle.xm_tape.specs.Inner.Flat.{row_kept, rows_at, taped}
use Rattle.xm_tape.specs.Taped.{Taped, cycles_of, repeated, rows_of}
use Rattle.xm_tape.proofs.Flat.{length-rows_at, rows_at-read}

-- ---- how many

pub length-repeated : (k : ℕ) (rows : List (List Choice)) → length (repeated k rows) ≡ k * length rows
length-repeated zero rows = omega arith
length-repeated (suc k) rows = rw (length-append rows (repeated k rows), length-repeated k rows) (omega arith)

pub length-rows_of : (tape : Taped) → length (rows_of tape) ≡ cycles_of tape
length-rows_of tape = rw (length-append tape.stem (repeated tape.times tape.cycle), length-repeated tape.times tape.cycle) refl

pub ruleset counts = (length-rows_at, length-rows_of)

-- ---- which

-- the row n cycles earlier is the same
earlier : (n t : ℕ) → n ≤ t → (t - n) % n ≡ t % n
earlier n t h = let e : t ≡ (t - n) + n = omega arith in sym (ap (λ x. x % n) e ∙ add-mod_right (t - n) n)

get-repeated : (k t : ℕ) (rows : List (List Choice)) → t < k * length rows → get_or (repeated k rows) t [] ≡ get_or rows (t % length rows) []
get-repeated zero t rows h = absurd (omega arith)
get-repeated (suc k) t rows h =
    elim (nat_lt t (length rows)) as (λ b. nat_lt t (length rows) ≡ b → get_or (rows ++ repeated k rows) t [] ≡ get_or rows (t % length rows) []) [
      | true ↦ λ before. (let lt = ltb-true t (length rows) before in get_or_append_left rows (repeated k rows) [] t lt ∙ ap (λ i. get_or rows i []) (sym (mod-eq_of_lt lt)))
      | false ↦ λ behind. (let le = ltb-false t (length rows) behind in
          get_or-append_right rows (repeated k rows) t [] le ∙ get-repeated k (t - length rows) rows (omega arith) ∙ ap (λ i. get_or rows i []) (earlier (length rows) t le))
    ] refl

pub some_cycle : (stem cycle times t : ℕ) → stem ≤ t → t < stem + times * cycle → 0 < cycle
some_cycle stem zero times t h lt = absurd (omega arith)
some_cycle stem (suc cycle) times t h lt = omega arith

module _ (flat : List Choice) (w stem cycle times t : ℕ) (within : t < stem + times * cycle) where
  Row : Type 0
  Row = (get_or (rows_of (taped flat w stem cycle times)) t [] ≡ take w (drop (row_kept stem cycle t * w) flat)) × (row_kept stem cycle t < stem + cycle)

  stem_row : t < stem → Row
  unfolding Row
  stem_row lt =
      let below : t < length (rows_at w stem flat) = rw length-rows_at lt in
      rw (lt-ltb t stem lt) (get_or_append_left (rows_at w stem flat) (repeated times (rows_at w cycle (drop (stem * w) flat))) [] t below ∙ rows_at-read w stem t flat lt, omega arith)

  cycle_row : stem ≤ t → Row
  unfolding Row
  cycle_row le =
      let some = some_cycle stem cycle times t le within in
      let behind : length (rows_at w stem flat) ≤ t = rw length-rows_at le in
      let r : (t - stem) % cycle < cycle = omega arith in
      let rest : t - stem < times * length (rows_at w cycle (drop (stem * w) flat)) = rw length-rows_at (omega arith) in
      let place : stem * w + ((t - stem) % cycle) * w ≡ (stem + (t - stem) % cycle) * w = omega arith in
      let one : get_or (rows_at w stem flat ++ repeated times (rows_at w cycle (drop (stem * w) flat))) t [] ≡ get_or (repeated times (rows_at w cycle (drop (stem * w) flat))) (t - stem) [] =
      get_or-append_right (rows_at w stem flat) (repeated times (rows_at w cycle (drop (stem * w) flat))) t [] behind ∙ ap (λ i. get_or (repeated times (rows_at w cycle (drop (stem * w) flat))) (t - i) []) (length-rows_at w stem flat) in
      let two : get_or (repeated times (rows_at w cycle (drop (stem * w) flat))) (t - stem) [] ≡ get_or (rows_at w cycle (drop (stem * w) flat)) ((t - stem) % cycle) [] =
      get-repeated times (t - stem) (rows_at w cycle (drop (stem * w) flat)) rest ∙ ap (λ n. get_or (rows_at w cycle (drop (stem * w) flat)) ((t - stem) % n) []) (length-rows_at w cycle (drop (stem * w) flat)) in
      let three : get_or (rows_at w cycle (drop (stem * w) flat)) ((t - stem) % cycle) [] ≡ take w (drop ((stem + (t - stem) % cycle) * w) flat) =
      rows_at-read w cycle ((t - stem) % cycle) (drop (stem * w) flat) r ∙ ap (take w) (drop-drop (((t - stem) % cycle) * w) (stem * w) flat ∙ ap (λ n. drop n flat) place) in
      rw (le-ltb t stem le) (one ∙ two ∙ three, omega arith)

  pub row_read : (get_or (rows_of (taped flat w stem cycle times)) t [] ≡ take w (drop (row_kept stem cycle t * w) flat)) × (row_kept stem cycle t < stem + cycle)
  unfolding Row
  row_read =
      elim (nat_lt t stem) as (λ b. nat_lt t stem ≡ b → (get_or (rows_of (taped flat w stem cycle times)) t [] ≡ take w (drop (row_kept stem cycle t * w) flat)) × (row_kept stem cycle t < stem + cycle)) [
        | true ↦ λ before. stem_row (ltb-true t stem before)
        | false ↦ λ behind. cycle_row (ltb-false t stem behind)
      ] refl

-- the row of cycle t, of the tape that the list is seen as
pub row_taken : (flat : List Choice) (w stem cycle times t : ℕ) (tape : Taped) (row : ℕ) → taped flat w stem cycle times ≡ tape → t < cycles_of tape → row ≡ row_kept (length tape.stem) (length tape.cycle) t
    → (get_or (rows_of tape) t [] ≡ take w (drop (row * w) flat)) × (row < stem + cycle)
row_taken flat w stem cycle times t tape row seen within is =
    let long : length tape.stem ≡ stem = ap (λ (x : Taped). length x.stem) (sym seen) ∙ length-rows_at w stem flat in
    let again : length tape.cycle ≡ cycle = ap (λ (x : Taped). length x.cycle) (sym seen) ∙ length-rows_at w cycle (drop (stem * w) flat) in
    let many : tape.times ≡ times = ap (λ (x : Taped). x.times) (sym seen) in
    let before : t < stem + times * cycle = rw (← long, ← again, ← many) within in
    let read = row_read flat w stem cycle times t before in
    let place : row ≡ row_kept stem cycle t = is ∙ rw (long, again) refl in
    rw (place, ← seen) read
