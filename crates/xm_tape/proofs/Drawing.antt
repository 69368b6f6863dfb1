-- The rows that a seed draws, and the numbers between them.
use Rattle.std.proofs.Common.{◌≡◌, ℕ, zero, suc, ◌<◌, ◌+◌, ◌-◌, ◌*◌, ◌∙◌, List, [], ◌∷◌, ◌++◌, add-one, append_assoc, drop, drop-cons, get_or, length, map, refl, sym, ap, ap₂, arith}
use Rattle.xm_model.specs.Component.{Component, Fork, Function, Join, Merge, Queue, Sink, Source, Switch}
use Rattle.xm_model.specs.declared.state.Choice.{Choice}
use Rattle.std.proofs.lemmas.List.{get_or_append_left, length-map}
use Rattle.xm_tape.specs.Taped.{Taped, cycles_of, rows_of}
use Rattle.xm_tape.specs.Inner.Forms.{component_drawn, drawn_form, drawn_of, drawn_row, number_at, taped_of}
use Rattle.xm_tape.specs.declared.drawn.DrawnTape.{DrawnTape}
use Rattle.xm_tape.specs.declared.drawn.Oracle.{Oracle}
use Rattle.xm_tape.specs.declared.rows.Form.{Form}
use Rattle.xm_tape.specs.declared.rows.Form.TheVariants as forms
use Rattle.xm_tape.specs.Marks.{oracles_of}
use Rattle.xm_tape.specs.Draws.{choice_drawn, next_number, number_after, row_drawn, rows_drawn, seeded_rows}

pub number_after-add : (n m x : ℕ) → number_after (n + m) x ≡ number_after m (number_after n x)
number_after-add zero m x = ap (λ (i : ℕ). number_after i x) (let e : zero + m ≡ m = omega arith in e)
number_after-add (suc n) m x =
    let e : suc n + m ≡ suc (n + m) = omega arith in
    ap (λ (i : ℕ). number_after i x) e ∙ number_after-add n m (next_number x)

-- the draws of the rows that are left
pub left_of : (rows t width : ℕ) → t < rows → (rows - t) * width ≡ width + (rows - (t + 1)) * width
left_of rows t width below =
    let left : rows - t ≡ suc (rows - (t + 1)) = omega arith in
    ap (λ (i : ℕ). i * width) left ∙ (let e : suc (rows - (t + 1)) * width ≡ width + (rows - (t + 1)) * width = omega arith in e)

pub length-rows_drawn : (oracles : List Component) (cycles x : ℕ) → length (rows_drawn oracles cycles x) ≡ cycles
length-rows_drawn oracles zero x = refl
length-rows_drawn oracles (suc cycles) x = ap suc (length-rows_drawn oracles cycles (number_after (length oracles) x))

-- the row of cycle t is drawn after those before it
pub row_at : (oracles : List Component) (cycles t x : ℕ) → t < cycles → get_or (rows_drawn oracles cycles x) t [] ≡ row_drawn oracles (number_after (t * length oracles) x)
row_at oracles zero t x below = absurd (omega arith)
row_at oracles (suc cycles) zero x below = ap (λ (i : ℕ). row_drawn oracles (number_after i x)) (let e : 0 ≡ zero * length oracles = omega arith in e)
row_at oracles (suc cycles) (suc t) x below =
    let w = length oracles in
    let e : w + t * w ≡ suc t * w = omega arith in
    row_at oracles cycles t (number_after w x) (omega arith)
    ∙ ap (row_drawn oracles) (sym (number_after-add w (t * w) x) ∙ ap (λ (i : ℕ). number_after i x) e)

-- one more choice of a row
pub drawn_more : (prims : List Oracle) (i number next : ℕ) (p : Oracle) (items new : List Choice) (choice : Choice) (whole : List Choice) → i < length prims → p ≡ get_or prims i p → next ≡ next_number number
    → choice ≡ choice_drawn (component_drawn p) next → new ≡ items ++ choice ∷ [] → items ++ row_drawn (map component_drawn (drop i prims)) number ≡ whole
    → new ++ row_drawn (map component_drawn (drop (i + 1) prims)) next ≡ whole
drawn_more prims i number next p items new choice whole below is stepped chosen made so_far =
    let split : drop i prims ≡ p ∷ drop (suc i) prims = drop-cons prims i p below ∙ ap (λ (q : Oracle). q ∷ drop (suc i) prims) (sym is) in
    let rest = row_drawn (map component_drawn (drop (suc i) prims)) (next_number number) in
    let drawn : choice ≡ choice_drawn (component_drawn p) (next_number number) = chosen ∙ ap (choice_drawn (component_drawn p)) stepped in
    rw (add-one, made, stepped) (append_assoc items (choice ∷ []) rest
    ∙ ap (λ (d : Choice). items ++ d ∷ rest) drawn
    ∙ ap (λ (ps : List Oracle). items ++ row_drawn (map component_drawn ps) number) (sym split)
    ∙ so_far)

-- the number after one more row
pub number_next : (w t x number after : ℕ) → number ≡ number_after (t * w) x → after ≡ number_after w number → after ≡ number_after ((t + 1) * w) x
number_next w t x number after is next =
    let e : t * w + w ≡ (t + 1) * w = omega arith in
    next ∙ ap (number_after w) is ∙ sym (number_after-add (t * w) w x) ∙ ap (λ (n : ℕ). number_after n x) e

-- the row of cycle t, of a tape that is drawn
pub drawn_read : (oracles : List Component) (cycles x t : ℕ) (tape : Taped) → record { stem = rows_drawn oracles cycles x; cycle = []; times = 0 } ≡ tape → t < cycles_of tape
    → get_or (rows_of tape) t [] ≡ row_drawn oracles (number_after (t * length oracles) x)
drawn_read oracles cycles x t tape seen within =
    let few : t < length (rows_drawn oracles cycles x) = omega (arith, ap cycles_of (sym seen), within) in
    let below : t < cycles = omega (arith, few, length-rows_drawn oracles cycles x) in
    ap (λ (them : Taped). get_or (rows_of them) t []) (sym seen)
    ∙ get_or_append_left (rows_drawn oracles cycles x) [] [] t few
    ∙ row_at oracles cycles t x below

pub cycles_drawn : (oracles : List Component) (cycles x : ℕ) (tape : Taped) → record { stem = rows_drawn oracles cycles x; cycle = []; times = 0 } ≡ tape → (cycles ≡ length tape.stem) × (cycles ≡ cycles_of tape)
cycles_drawn oracles cycles x tape seen =
    let many = length-rows_drawn oracles cycles x in
    let all : cycles ≡ length (rows_drawn oracles cycles x) + 0 * 0 = omega (arith, many) in (
      sym many ∙ ap (λ (them : Taped). length them.stem) seen,
      all ∙ ap cycles_of seen,
    )

-- ---- what is drawn does not depend on channels and modes

same_choice : (m : Component) (x : ℕ) → choice_drawn (drawn_form m) x ≡ choice_drawn m x
same_choice (Source out colours mode) x = refl
same_choice (Sink input mode) x = refl
same_choice (Queue input out capacity initial) x = refl
same_choice (Function input out table) x = refl
same_choice (Fork input a b ta tb) x = refl
same_choice (Join a b out pass) x = refl
same_choice (Switch input a b to_a) x = refl
same_choice (Merge a b out) x = refl

same_row : (ms : List Component) (x : ℕ) → row_drawn (map drawn_form ms) x ≡ row_drawn ms x
same_row [] x = refl
same_row (m ∷ ms) x = ap₂ (λ (c : Choice) (cs : List Choice). c ∷ cs) (same_choice m (next_number x)) (same_row ms (next_number x))

pub same_rows : (ms : List Component) (cycles x : ℕ) → rows_drawn (map drawn_form ms) cycles x ≡ rows_drawn ms cycles x
same_rows ms zero x = refl
same_rows ms (suc cycles) x =
    ap₂ (λ (r : List Choice) (rs : List (List Choice)). r ∷ rs) (same_row ms x)
    (ap (λ (w : ℕ). rows_drawn (map drawn_form ms) cycles (number_after w x)) (length-map ms drawn_form) ∙ same_rows ms cycles (number_after (length ms) x))

-- the rows of the tape that is kept for a seed
pub seeded_as : (prims : List Component) (tape : DrawnTape) (cycles seed : ℕ) → map component_drawn tape.oracles.items ≡ map drawn_form (oracles_of prims) → tape.cycles ≡ cycles → tape.seed ≡ seed
    → drawn_of tape ≡ record { stem = seeded_rows prims cycles seed; cycle = []; times = 0 }
seeded_as prims tape cycles seed kept many from =
    ap (λ (rows : List (List Choice)). as_tape rows)
    (ap (λ (ms : List Component). rows_drawn ms tape.cycles tape.seed) kept ∙ same_rows (oracles_of prims) tape.cycles tape.seed
    ∙ ap₂ (λ (n x : ℕ). rows_drawn (oracles_of prims) n x) many from) where
      as_tape : List (List Choice) → Taped
      as_tape rows = record { stem = rows; cycle = []; times = 0 }

-- ---- of a form that is drawn

-- the number after a row more
pub number_on : (form : Form) (tape : DrawnTape) → form ≡ forms.Drawn tape → (os : List Oracle) → os ≡ tape.oracles.items → (t number after : ℕ) → number ≡ number_at form t
    → after ≡ number_after (length os) number → after ≡ number_at form (t + 1)
number_on form tape is os listed t number after before next =
    number_next (length tape.oracles.items) t tape.seed number after (before ∙ ap (λ (f : Form). number_at f t) is) (next ∙ ap (λ (os : List Oracle). number_after (length os) number) listed)
    ∙ ap (λ (f : Form). number_at f (t + 1)) (sym is)

-- the row of a cycle
pub row_on : (form : Form) (tape : DrawnTape) → form ≡ forms.Drawn tape → (it : Taped) (t : ℕ) → taped_of form ≡ it → t < cycles_of it → drawn_row form t ≡ get_or (rows_of it) t []
row_on form tape is it t seen within =
    let oracles = map component_drawn tape.oracles.items in
    ap (λ (f : Form). drawn_row f t) is
    ∙ ap (λ (w : ℕ). row_drawn oracles (number_after (t * w) tape.seed)) (sym (length-map tape.oracles.items component_drawn))
    ∙ sym (drawn_read oracles tape.cycles tape.seed t it (sym (ap taped_of is) ∙ seen) within)
