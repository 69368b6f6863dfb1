-- Every size from 2 to 600 and every seed give a document without a fault.
use Rattle.std.proofs.Common.{◌≡◌, ℕ, ◌+◌, ◌*◌, ◌-◌, ◌^◌, ◌<◌, ◌≤◌, [], codes, refl, arith}
use Rattle.std.proofs.lemmas.List.Sums.{sum_by-le}
use Rattle.xm_model.specs.Net.{IsNet, IsWithinLimits, capacity_of}
use Rattle.xm_model.specs.Naming.{IsNamed}
use Rattle.xm_netlist.specs.Valid.{DiffersIn, IsValid}
use Rattle.xm_generate.specs.Generated.{generated, later, names, net}
use Rattle.xm_generate.specs.Law.{GeneratedRuns, IsRanked, IsRunnable}
use Rattle.xm_generate.proofs.Limits.{Rises, capacities_few, colours_differ, components_fit, falls, inputs_within, kinds_rise, outputs_within, rank}
use Rattle.xm_generate.proofs.Naming.{colour_names, length-labels_from, line_names}
use Rattle.xm_generate.proofs.Numbering.{line_numbered}
use Rattle.xm_generate.proofs.Ranks.{ranks_end_loops}
use Rattle.xm_generate.proofs.Every.{All-at, all_prims, length-stations}
use Rattle.xm_generate.proofs.Taping.{tape_accepted, tape_is_part}
use Rattle.xm_generate.proofs.Wiring.{well_wired}

module _ (size seed : ℕ) (low : 2 ≤ size) (high : size ≤ 600) where
  top : 6 * size - 10 ≡ 2 + 6 * (size - 2)
  top = omega arith

  below : 1 + 6 * (size - 2) < 6 * size - 10
  below = omega arith

  within : IsWithinLimits (net size seed)
  within = record {
    some_prims = omega arith;
    prims = (let n = length-stations (size - 2) 1 1 (later 3 seed) in omega arith);
    some_channels = omega arith;
    channels = omega arith;
    some_colours = omega arith;
    colours = omega arith;
    outputs = (all_prims _ _ (outputs_within (6 * size - 10)) (size - 2) seed below).all;
    inputs = (all_prims _ _ (inputs_within (6 * size - 10)) (size - 2) seed below).all;
    primitives = (all_prims _ _ (components_fit (6 * size - 10)) (size - 2) seed below).all;
    capacities = (
        let few = sum_by-le capacity_of 4 (net size seed).prims (all_prims _ _ (capacities_few (6 * size - 10)) (size - 2) seed below).all in
        let n = length-stations (size - 2) 1 1 (later 3 seed) in
        omega arith);
  }

  is_net : IsNet (net size seed)
  is_net = record { limits = within; wired = well_wired (size - 2) seed (6 * size - 10) top }

  named : IsNamed (net size seed) (names size)
  named = record {
    prims = (
        let here = length-labels_from (codes "XKSIMT") (codes "K") (size - 2) 1 in
        let n = length-stations (size - 2) 1 1 (later 3 seed) in
        omega arith);
    channels = (let here = length-labels_from (codes "ehsjmt") [] (size - 2) 1 in omega arith);
    colours = length-labels_from (codes "d") [] 8 0;
  }

  valid : IsValid (generated size seed)
  unfolding generated
  valid = record {
    net = is_net;
    named = named;
    prims = line_names (codes "XKSIMT") (codes "K") refl refl refl refl (size - 2) (omega arith) (codes "ST") refl refl;
    channels = line_names (codes "ehsjmt") [] refl refl refl refl (size - 2) (omega arith) (codes "st") refl refl;
    colours = colour_names (codes "d") [] refl refl refl refl 8 (omega arith);
    numbered = line_numbered (size - 2) seed (6 * size - 10) top;
    sources = λ p m has. All-at DiffersIn (net size seed).prims p m (all_prims _ _ (colours_differ (6 * size - 10)) (size - 2) seed below).all has;
    allow = tt;
    tape = tape_is_part seed;
    proof = tt;
  }

  ranked : IsRanked (net size seed)
  ranked = record {
    rank = rank (6 * size - 10);
    falls = λ σ τ d. falls (6 * size - 10) d.prim σ τ (All-at (Rises (6 * size - 10)) (net size seed).prims d.place d.prim (all_prims _ _ (kinds_rise (6 * size - 10)) (size - 2) seed below).all d.has) d.needs;
  }

  runnable : seed < 2 ^ 64 → IsRunnable (generated size seed)
  unfolding generated
  runnable small = record {
    valid = valid;
    allowed = λ colours c d is refused. refused;
    ranked = ranked;
    no_loop = λ loop is_loop. ranks_end_loops (net size seed) loop ranked is_loop;
    taped = tape_accepted (net size seed) seed (omega arith) small;
  }

pub generated_runs : GeneratedRuns
generated_runs size seed low high small = runnable size seed low high small
