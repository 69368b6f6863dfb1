-- What is chosen for a source is of its list, and for a sink a readiness, in each form of a tape.
use Rattle.std.proofs.Common.{◌≡◌, ℕ, zero, suc, ◌+◌, ◌<◌, Bool, true, false, cond, List, [], ◌∷◌, ◌++◌, length, get_or, Option, Some, None, Ok, refl, subst, inl, inr, arith}
use Rattle.std.proofs.lemmas.Bool.{eqb-true}
use Rattle.std.specs.Prelude.{◌==◌, slice_get, option_map, option_and_then}
use Rattle.xm_json.specs.Lemmas.StepFacts.{bound, checked, cons, demanded}
use Rattle.xm_model.specs.Component.{Component, Sink, Source}
use Rattle.xm_model.specs.Views.{choice_at, choice_or, is_oracle, oracles_below}
use Rattle.xm_model.specs.Net.{Network}
use Rattle.xm_model.specs.Run.{ChoiceFits, IsReadiness, OffersFrom}
use Rattle.xm_model.specs.Membership.{IsIn}
use Rattle.xm_model.specs.Steps.{check, demand, each_from}
use Rattle.xm_model.specs.declared.state.Choice.{Choice}
use Rattle.xm_model.specs.declared.state.Choice.TheVariants.{Offer, Ready}
use Rattle.xm_tape.specs.Draws.{choice_drawn, draw, next_number, number_after, offer_drawn, row_drawn, rows_drawn, seeded_rows}
use Rattle.xm_tape.specs.Marks.{choice_marked, marks_from, offer_marked, oracles_of, place_marked, ready_marked, row_at}
use Rattle.xm_tape.specs.Reading.{Draft, repeating, rows_from, seeded, taped_in, written}
use Rattle.xm_tape.specs.Taped.{Fits, Taped, cycles_of, repeated, rows_of}
use Rattle.xm_tape.proofs.Repeating.{length-rows_of}

-- ---- one choice

place_in : (colours : List ℕ) (place d : ℕ) → slice_get colours place ≡ Some d → IsIn colours d
place_in [] place d is = absurd cc
place_in (x ∷ xs) zero d is = let same : x ≡ d = cc in inl same
place_in (x ∷ xs) (suc place) d is = inr (place_in xs place d is)

-- what stands at a place, or silence
place_fits : (colours : List ℕ) (place : ℕ) → OffersFrom colours (Offer (slice_get colours place))
place_fits colours place =
    elim (slice_get colours place) as (λ (o : Option ℕ). slice_get colours place ≡ o → OffersFrom colours (Offer o)) [
      | None ↦ λ found. tt
      | Some d ↦ λ found. place_in colours place d found
    ] refl

offer_found : (colours : List ℕ) (place : Option ℕ) (choice : Choice) → option_map (λ c. Offer (Some c)) (option_and_then (slice_get colours) place) ≡ Some choice → OffersFrom colours choice
offer_found colours None choice is = absurd cc
offer_found colours (Some place) choice is =
    elim (slice_get colours place) as (λ (o : Option ℕ). slice_get colours place ≡ o → option_map (λ c. Offer (Some c)) o ≡ Some choice → OffersFrom colours choice) [
      | None ↦ λ found one. absurd cc
      | Some d ↦ λ found one. (let same : Offer (Some d) ≡ choice = cc in subst (OffersFrom colours) same (place_in colours place d found))
    ] refl is

offer_fits : (colours : List ℕ) (mark : ℕ) (choice : Choice) → offer_marked colours mark ≡ Some choice → OffersFrom colours choice
offer_fits colours mark choice is =
    elim (mark == 46) as (λ b. cond b (Some (Offer None)) (option_map (λ c. Offer (Some c)) (option_and_then (slice_get colours) (place_marked mark))) ≡ Some choice → OffersFrom colours choice) [
      | true ↦ λ one. (let same : Offer None ≡ choice = cc in subst (OffersFrom colours) same tt)
      | false ↦ λ one. offer_found colours (place_marked mark) choice one
    ] is

ready_fits : (mark : ℕ) (choice : Choice) → ready_marked mark ≡ Some choice → IsReadiness choice
ready_fits mark (Ready ready) is = tt
ready_fits mark (Offer chosen) is =
    elim (mark == 46) as (λ b. cond b (Some (Ready false)) (cond (mark == 49) (Some (Ready true)) None) ≡ Some (Offer chosen) → ⊥) [
      | true ↦ λ one. cc
      | false ↦ λ one. elim (mark == 49) as (λ b. cond b (Some (Ready true)) None ≡ Some (Offer chosen) → ⊥) [
        | true ↦ λ two. cc
        | false ↦ λ two. cc
      ] one
    ] is

marked_fits : (m : Component) (mark : ℕ) (choice : Choice) → choice_marked m mark ≡ Some choice → ChoiceFits m choice
marked_fits (Source out colours mode) mark choice is = offer_fits colours mark choice is
marked_fits (Sink input mode) mark choice is = ready_fits mark choice is
marked_fits _ mark choice is = tt

draw_fits : (colours : List ℕ) (r : ℕ) → OffersFrom colours (offer_drawn colours r)
draw_fits colours zero = tt
draw_fits colours (suc place) = place_fits colours place

drawn_fits : (m : Component) (x : ℕ) → ChoiceFits m (choice_drawn m x)
drawn_fits (Source out colours mode) x = draw_fits colours (draw x (suc (length colours)))
drawn_fits (Sink input mode) x = tt
drawn_fits _ x = tt

other_fits : (m : Component) (choice : Choice) → is_oracle m ≡ false → ChoiceFits m choice
other_fits (Source out colours mode) choice other = absurd cc
other_fits (Sink input mode) choice other = absurd cc
other_fits _ choice other = tt

-- ---- one row

-- each has its choice, in order, which fits
abbrev AreFitting : List Component → List Choice → Type 0
AreFitting [] row = Unit {0}
AreFitting (m ∷ ms) [] = ⊥
AreFitting (m ∷ ms) (choice ∷ choices) = ChoiceFits m choice × AreFitting ms choices

marks_fit : (t o : ℕ) (oracles : List Component) (text : List ℕ) (row : List Choice) → length text ≡ length oracles → marks_from t o oracles text ≡ Ok row → AreFitting oracles row
marks_fit t o [] text row long is = tt
marks_fit t o (m ∷ ms) [] row long is = absurd (omega arith)
marks_fit t o (m ∷ ms) (mark ∷ marks) row long is =
    let one = bound (demand (choice_marked m mark) _) _ row is in
    let rest = bound (marks_from t (suc o) ms marks) _ row one.2 in
    let same : one.0 ∷ rest.0 ≡ row = cc (rest.2) in
    subst (λ (l : List Choice). AreFitting (m ∷ ms) l) same (marked_fits m mark one.0 (demanded (choice_marked m mark) _ one.0 one.1), marks_fit t (suc o) ms marks rest.0 (omega arith) rest.1)

draws_fit : (oracles : List Component) (x : ℕ) → AreFitting oracles (row_drawn oracles x)
draws_fit [] x = tt
draws_fit (m ∷ ms) x = (drawn_fits m (next_number x), draws_fit ms (next_number x))

-- each primitive's choice in the row fits it
abbrev RowFits : List Component → List Choice → Type 0
RowFits prims row = (p : ℕ) (m : Component) → slice_get prims p ≡ Some m → ChoiceFits m (choice_at prims row p)

head_fits : (b : Bool) (x : Component) (rest : List Component) (row : List Choice) → is_oracle x ≡ b → AreFitting (cond b (x ∷ rest) rest) row → ChoiceFits x (choice_or (slice_get row 0))
head_fits true x rest [] is fits = absurd fits
head_fits true x rest (c ∷ cs) is fits = fits.0
head_fits false x rest row is fits = other_fits x (choice_or (slice_get row 0)) is

tail_fits : (b : Bool) (m x : Component) (rest : List Component) (k : ℕ) (row : List Choice) → AreFitting (cond b (x ∷ rest) rest) row → ((r : List Choice) → AreFitting rest r → ChoiceFits m (choice_or (slice_get r k))) → ChoiceFits m (choice_or (slice_get row (cond b 1 0 + k)))
tail_fits true m x rest k [] fits later = absurd fits
tail_fits true m x rest k (c ∷ cs) fits later = let e : 1 + k ≡ suc k = omega arith in rw e (later cs fits.1)
tail_fits false m x rest k row fits later = let e : 0 + k ≡ k = omega arith in rw e (later row fits)

fits_at : (prims : List Component) (row : List Choice) → AreFitting (oracles_of prims) row → RowFits prims row
fits_at [] row fits p m has = absurd cc
fits_at (x ∷ xs) row fits zero m has = let same : x ≡ m = cc in subst (λ (y : Component). ChoiceFits y (choice_or (slice_get row 0))) same (head_fits (is_oracle x) x (oracles_of xs) row refl fits)
fits_at (x ∷ xs) row fits (suc p) m has = tail_fits (is_oracle x) m x (oracles_of xs) (oracles_below xs p) row fits (λ r f. fits_at xs r f p m has)

-- ---- all rows

abbrev AllFit : List Component → List (List Choice) → Type 0
AllFit prims [] = Unit {0}
AllFit prims (row ∷ rows) = RowFits prims row × AllFit prims rows

module _ (prims : List Component) where
  written_fit : (t : ℕ) (texts : List (List ℕ)) (rows : List (List Choice)) → each_from (row_at prims) t texts ≡ Ok rows → AllFit prims rows
  written_fit t [] rows is = let none : [] ≡ rows = cc in subst (λ (l : List (List Choice)). AllFit prims l) none tt
  written_fit t (text ∷ texts) rows is =
      let c = cons (row_at prims) t text texts rows is in
      let marks = bound (check (length text == length (oracles_of prims)) _) _ c.first c.is_first in
      let long : length text ≡ length (oracles_of prims) = eqb-true _ _ (checked (length text == length (oracles_of prims)) _ marks.1) in
      let first = fits_at prims c.first (marks_fit t 0 (oracles_of prims) text c.first long marks.2) in
      subst (λ (l : List (List Choice)). AllFit prims l) c.same (first, written_fit (suc t) texts c.others c.are_others)

  drawn_fit : (cycles x : ℕ) → AllFit prims (rows_drawn (oracles_of prims) cycles x)
  drawn_fit zero x = tt
  drawn_fit (suc cycles) x = (fits_at prims (row_drawn (oracles_of prims) x) (draws_fit (oracles_of prims) x), drawn_fit cycles (number_after (length (oracles_of prims)) x))

  append_fit : (xs ys : List (List Choice)) → AllFit prims xs → AllFit prims ys → AllFit prims (xs ++ ys)
  append_fit [] ys f g = g
  append_fit (x ∷ xs) ys f g = (f.0, append_fit xs ys f.1 g)

  repeated_fit : (k : ℕ) (rows : List (List Choice)) → AllFit prims rows → AllFit prims (repeated k rows)
  repeated_fit zero rows f = tt
  repeated_fit (suc k) rows f = append_fit rows (repeated k rows) f (repeated_fit k rows f)

  row_fits : (rows : List (List Choice)) (t : ℕ) → t < length rows → AllFit prims rows → RowFits prims (get_or rows t [])
  row_fits [] t lt f = absurd (omega arith)
  row_fits (row ∷ rows) zero lt f = f.0
  row_fits (row ∷ rows) (suc t) lt f = row_fits rows t (omega arith) f.1

  tape_fits : (tape : Taped) → AllFit prims tape.stem → AllFit prims tape.cycle → (t : ℕ) → t < cycles_of tape → RowFits prims (get_or (rows_of tape) t [])
  tape_fits tape f g t lt = row_fits (rows_of tape) t (omega (arith, length-rows_of tape)) (append_fit tape.stem (repeated tape.times tape.cycle) f (repeated_fit tape.times tape.cycle g))

pub fits_seeded : (net : Network) (cycles seed : ℕ) → Fits net (record { stem = seeded_rows net.prims cycles seed; cycle = []; times = 0 })
fits_seeded net cycles seed t lt p m has = tape_fits net.prims (record { stem = seeded_rows net.prims cycles seed; cycle = []; times = 0 }) (drawn_fit net.prims cycles seed) tt t lt p m has

pub fits_taped : (net : Network) (draft : Draft) (tape : Taped) → taped_in net draft ≡ Ok tape → Fits net tape
unfolding taped_in
fits_taped net (written rows) tape is =
    let stem = bound (rows_from net 0 rows) _ tape is in
    let same : record { stem = stem.0; cycle = []; times = 0 } ≡ tape = cc (stem.2) in
    subst (Fits net) same (λ t lt p m has. tape_fits net.prims (record { stem = stem.0; cycle = []; times = 0 }) (written_fit net.prims 0 rows stem.0 stem.1) tt t lt p m has)
fits_taped net (repeating first again times) tape is =
    let stem = bound (rows_from net 0 first) _ tape is in
    let cycle = bound (rows_from net (length first) again) _ tape stem.2 in
    let same : record { stem = stem.0; cycle = cycle.0; times = times } ≡ tape = cc (cycle.2) in
    subst (Fits net) same (λ t lt p m has. tape_fits net.prims (record { stem = stem.0; cycle = cycle.0; times = times }) (written_fit net.prims 0 first stem.0 stem.1) (written_fit net.prims (length first) again cycle.0 cycle.1) t lt p m has)
fits_taped net (seeded cycles seed) tape is =
    let same : record { stem = rows_drawn (oracles_of net.prims) cycles seed; cycle = []; times = 0 } ≡ tape = cc in
    subst (Fits net) same (fits_seeded net cycles seed)
