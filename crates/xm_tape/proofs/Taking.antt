-- The tape of a draft: how its rows are met, how many they are, and its limits.
use Rattle.std.proofs.Common.{◌≡◌, ℕ, ◌+◌, ◌*◌, ◌≤◌, List, [], length, drop, Result, Ok, Err, refl, sym, ap, ◌∙◌, subst, arith}
use Rattle.std.specs.Prelude.{nat_le, IfOk}
use Rattle.std.proofs.lemmas.Bool.{leb-true}
use Rattle.xm_json.specs.Lemmas.StepFacts.{Fails-bind, bound, checked, each_length}
use Rattle.xm_model.specs.Component.{Component}
use Rattle.xm_model.specs.Net.{Network}
use Rattle.xm_model.specs.Steps.{check, each_from}
use Rattle.xm_model.specs.declared.state.Choice.{Choice}
use Rattle.xm_tape.specs.Draws.{rows_drawn}
use Rattle.xm_tape.specs.Gives.{Fails, Gives, fault_of}
use Rattle.xm_tape.specs.Inner.Flat.{IsLonger, added, row_of, rows_at, taped}
use Rattle.xm_tape.specs.Marks.{oracles_of, row_at}
use Rattle.xm_tape.specs.Reading.{Draft, cycles_drafted, check_limits, repeating, rows_from, seeded, taped_in, written}
use Rattle.xm_tape.specs.Sizes.{most_cycles, most_cycles_by_channels}
use Rattle.xm_tape.specs.Taped.{Fits, Taped, cycles_of}
use Rattle.xm_tape.specs.declared.fault.TapeFault.{TapeFault}
use Rattle.xm_tape.proofs.Drawing.{length-rows_drawn}
use Rattle.xm_tape.proofs.Fitting.{fits_taped}
use Rattle.xm_tape.proofs.Flat.{rows_at-front}

-- ---- rows

module _ (net : Network) (stem cycle : List (List ℕ)) (times : ℕ) where
  read_by : (oracles : List Component) → oracles ≡ oracles_of net.prims → (t : ℕ) (texts : List (List ℕ)) → rows_from net t texts ≡ each_from (row_of oracles) t texts
  read_by oracles known t texts = ap (λ (os : List Component). each_from (row_of os) t texts) (sym known)

  pub stem_refused : (oracles : List Component) → oracles ≡ oracles_of net.prims → (e : TapeFault) → Fails e (each_from (row_of oracles) 0 stem) → Fails e (taped_in net (repeating stem cycle times))
  unfolding taped_in
  stem_refused oracles known e fails = Fails-bind fault_of e (rows_from net 0 stem) _ (subst (Fails e) (sym (read_by oracles known 0 stem)) fails)

  pub cycle_refused : (oracles others : List Component) → oracles ≡ oracles_of net.prims → others ≡ oracles_of net.prims → (e : TapeFault) (n : ℕ) (rows : List (List Choice)) → length stem ≡ n
      → each_from (row_of oracles) 0 stem ≡ Ok rows → Fails e (each_from (row_of others) n cycle) → Fails e (taped_in net (repeating stem cycle times))
  unfolding taped_in
  cycle_refused oracles others known same e n rows long is fails =
      rw (read_by oracles known 0 stem ∙ is, long) (Fails-bind fault_of e (rows_from net n cycle) _ (subst (Fails e) (sym (read_by others same n cycle)) fails))

  pub both_read : (oracles others : List Component) → oracles ≡ oracles_of net.prims → others ≡ oracles_of net.prims → (n m w v u : ℕ) (old flat more : List Choice) → v ≡ w → u ≡ w → old ≡ [] → length stem ≡ n
      → length (added old flat) ≡ n * v → IsLonger old flat → IsLonger flat more → each_from (row_of oracles) 0 stem ≡ Ok (rows_at v n (added old flat))
      → each_from (row_of others) n cycle ≡ Ok (rows_at u m (added flat more)) → taped_in net (repeating stem cycle times) ≡ Ok (taped more w n m times)
  unfolding taped_in
  both_read oracles others known same n m w v u old flat more wide width none long whole longer further first again =
      let alone : added old flat ≡ flat = rw none refl in
      let place : length flat ≡ n * w = ap length (sym alone) ∙ whole ∙ ap (λ x. n * x) wide in
      let front : rows_at w n more ≡ rows_at w n flat = ap (rows_at w n) further ∙ rows_at-front w n flat (added flat more) (omega arith) in
      let one : rows_from net 0 stem ≡ Ok (rows_at w n more) = read_by oracles known 0 stem ∙ first ∙ rw (wide, alone, front) refl in
      let two : rows_from net n cycle ≡ Ok (rows_at w m (drop (n * w) more)) = read_by others same n cycle ∙ again ∙ rw (width, place) refl in
      rw (one, long, two) refl

-- ---- how many

pub cycles_taped : (net : Network) (draft : Draft) (tape : Taped) → taped_in net draft ≡ Ok tape → cycles_of tape ≡ cycles_drafted draft
unfolding taped_in
cycles_taped net (written rows) tape is =
    let stem = bound (rows_from net 0 rows) _ tape is in
    let same : record { stem = stem.0; cycle = []; times = 0 } ≡ tape = cc (stem.2) in
    subst (λ (t : Taped). cycles_of t ≡ length rows) same (omega (arith, each_length (row_at net.prims) 0 rows stem.0 stem.1))
cycles_taped net (repeating first again times) tape is =
    let stem = bound (rows_from net 0 first) _ tape is in
    let cycle = bound (rows_from net (length first) again) _ tape stem.2 in
    let same : record { stem = stem.0; cycle = cycle.0; times = times } ≡ tape = cc (cycle.2) in
    subst (λ (t : Taped). cycles_of t ≡ length first + times * length again) same
    (rw (each_length (row_at net.prims) 0 first stem.0 stem.1, each_length (row_at net.prims) (length first) again cycle.0 cycle.1) refl)
cycles_taped net (seeded cycles seed) tape is =
    let same : record { stem = rows_drawn (oracles_of net.prims) cycles seed; cycle = []; times = 0 } ≡ tape = cc in
    subst (λ (t : Taped). cycles_of t ≡ cycles) same (omega (arith, length-rows_drawn (oracles_of net.prims) cycles seed))

pub limits_hold : (cycles channels : ℕ) → check_limits cycles channels ≡ Ok tt → (cycles ≤ most_cycles) × (cycles * channels ≤ most_cycles_by_channels)
limits_hold cycles channels is =
    let few = bound (check (nat_le cycles most_cycles) _) _ tt is in
    (leb-true cycles most_cycles (checked (nat_le cycles most_cycles) _ few.1), leb-true (cycles * channels) most_cycles_by_channels (checked (nat_le (cycles * channels) most_cycles_by_channels) _ few.2))

pub kept_by : (cycles n channels m : ℕ) → n ≡ cycles → m ≡ channels → check_limits n m ≡ Ok tt → check_limits cycles channels ≡ Ok tt
kept_by cycles n channels m a b is = rw (← a, ← b) is

-- ---- what a result that was read so is

pub fits : (net : Network) (draft : Draft) (r : Result Taped TapeFault) → Gives (λ tape. tape) r (taped_in net draft) → IfOk r (Fits net)
fits net draft (Ok tape) is = fits_taped net draft tape is
fits net draft (Err fault) is = tt

module _ (net : Network) (draft : Draft) (kept : check_limits (cycles_drafted draft) net.channels ≡ Ok tt) where
  pub few : (r : Result Taped TapeFault) → Gives (λ tape. tape) r (taped_in net draft) → IfOk r (λ tape. cycles_of tape ≤ most_cycles)
  few (Ok tape) is = omega (arith, cycles_taped net draft tape is, (limits_hold (cycles_drafted draft) net.channels kept).0)
  few (Err fault) is = tt

  pub small : (r : Result Taped TapeFault) → Gives (λ tape. tape) r (taped_in net draft) → IfOk r (λ tape. cycles_of tape * net.channels ≤ most_cycles_by_channels)
  small (Ok tape) is = rw (cycles_taped net draft tape is) ((limits_hold (cycles_drafted draft) net.channels kept).1)
  small (Err fault) is = tt
