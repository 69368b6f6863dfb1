use Rattle.std.proofs.Common.{◌≡◌, ◌*◌, ◌-◌, Err, List, None, Some, ap, subst, sym, ◌∙◌}
use Rattle.xm_model.specs.Component.{Component}
use Rattle.xm_model.specs.Net.{IsFirstFault, IsNet, IsWithinLimits}
use Rattle.xm_netlist.specs.Lemmas.FirstFault.{first_found, well_wired}
use Rattle.xm_generate.specs.Generated.{generated, net}
use Rattle.xm_generate.proofs.generate.net.Goals as goal

pub new-requires : goal.new-requires
unfolding generated
new-requires c =
    let runs = c.generated_runs.ensures c.args.size c.args.seed c.requires.low c.requires.high c.ranges.seed.fits in
    let is_net : IsNet (net c.args.size c.args.seed) = runs.valid.net in
    subst (λ (ms : List Component). IsWithinLimits (record { prims = ms; channels = 6 * c.args.size - 10; colours = 8 })) (sym c.in_ok-prims.ensures) is_net.limits

pub unreachable-requires : goal.unreachable-requires
unfolding generated
unreachable-requires c =
    let runs = c.generated_runs.ensures c.args.size c.args.seed c.requires.low c.requires.high c.ranges.seed.fits in
    let is_net : IsNet (net c.args.size c.args.seed) = runs.valid.net in
    let first = c.in-Err-Wiring.ensures.wiring c.in-Err-Wiring.field-0-0 (ap Err c.in-Err-Wiring.field-0-is) in
    let found : IsFirstFault (net c.args.size c.args.seed) c.in-Err-Wiring.field-0-0 =
    subst (λ (ms : List Component). IsFirstFault (record { prims = ms; channels = 6 * c.args.size - 10; colours = 8 }) c.in-Err-Wiring.field-0-0) c.in_ok-prims.ensures first in
    let some = first_found (net c.args.size c.args.seed) c.in-Err-Wiring.field-0-0 found in
    let none = well_wired (net c.args.size c.args.seed) is_net.wired in
    absurd (let clash : None ≡ Some _ = sym none ∙ some in cc)
