-- The tape of a line is accepted.
use Rattle.std.proofs.Common.{◌≡◌, ℕ, ◌-◌, ◌*◌, ◌^◌, ◌<◌, ◌≤◌, true, [], Some, Ok, refl, codes, arith}
use Rattle.std.specs.Prelude.{nat_le}
use Rattle.std.proofs.lemmas.Bool.{le-leb}
use Rattle.serde_json.specs.Data.{Data, member, no_members, number, object, unsigned}
use Rattle.xm_json.specs.Members.{only, small_number_member}
use Rattle.xm_model.specs.Net.{Network}
use Rattle.xm_netlist.specs.Valid.{IsPart}
use Rattle.xm_tape.specs.Draws.{seeded_rows}
use Rattle.xm_tape.specs.Reading.{draft_in, form_in, seeded_in, tape_in, taped_in}
use Rattle.xm_tape.specs.Taped.{Taped}

seeded_tape : ℕ → ℕ → Data
seeded_tape cycles seed = object (member (codes "cycles") (number (unsigned cycles)) (member (codes "seed") (number (unsigned seed)) no_members))

accepted : (net : Network) (cycles seed : ℕ) → cycles ≤ 10000000 → cycles * net.channels ≤ 64000000 → seed < 2 ^ 64 → (tape : Taped) × (tape_in net (Some (seeded_tape cycles seed)) ≡ Ok tape)
unfolding seeded_tape tape_in draft_in form_in seeded_in small_number_member only taped_in
accepted net cycles seed few within small =
    let a : nat_le cycles (2 ^ 32 - 1) ≡ true = le-leb cycles (2 ^ 32 - 1) (omega arith) in
    let b : nat_le seed (2 ^ 64 - 1) ≡ true = le-leb seed (2 ^ 64 - 1) (omega arith) in
    let c : nat_le cycles 10000000 ≡ true = le-leb cycles 10000000 few in
    let d : nat_le (cycles * net.channels) 64000000 ≡ true = le-leb (cycles * net.channels) 64000000 within in
    (record { stem = seeded_rows net.prims cycles seed; cycle = []; times = 0 }, rw (a, b, c, d) refl)

pub tape_accepted : (net : Network) (seed : ℕ) → net.channels ≤ 64000 → seed < 2 ^ 64 → (tape : Taped) × (tape_in net (Some (object (member (codes "cycles") (number (unsigned 1000)) (member (codes "seed") (number (unsigned seed)) no_members)))) ≡ Ok tape)
unfolding seeded_tape
tape_accepted net seed few small = accepted net 1000 seed (omega arith) (omega arith) small

pub tape_is_part : (seed : ℕ) → IsPart (object (member (codes "cycles") (number (unsigned 1000)) (member (codes "seed") (number (unsigned seed)) no_members)))
tape_is_part seed = record { shallow = omega arith; whole = refl }
