use Rattle.std.proofs.Common.{◌≡◌, ◌≤◌, length, ap, ◌∙◌, sym, subst, arith}
use Rattle.std.proofs.lemmas.List.{length-map}
use Rattle.xm_parts.specs.Changing.{IsChange}
use Rattle.xm_parts.specs.Kept.{label_at}
use Rattle.xm_parts.specs.Partition.{channels_in, lies_in, prims_in, touches_at}
use Rattle.xm_parts.specs.Projection.{Row}
use Rattle.xm_parts.specs.Rows.{row_of}
use Rattle.xm_parts.specs.declared.row.PrimCell.{PrimCell}
use Rattle.xm_tests.proofs.Stepped.{passing_few}
use Rattle.xm_tests.proofs.suites.part_runs.changed.Goals as goal

pub change-requires-clause-few_cells : goal.change-requires-clause-few_cells
change-requires-clause-few_cells c =
    let net = c.args.design.now.net in let label = label_at c.args.parts.now.labels in let cells = c.args.row.now.cells.items in
    let whole : length cells ≡ length (prims_in net label c.args.p) = sym (length-map cells (λ (x : PrimCell). x.prim)) ∙ ap length c.requires.roomy.fits.prims in
    let few : length (prims_in net label c.args.p) ≤ length net.prims = passing_few (touches_at net label c.args.p) (length net.prims) in
    let limits = c.is_designed.ensures.net.limits.prims in
    omega arith

pub change-requires-clause-few_wires : goal.change-requires-clause-few_wires
change-requires-clause-few_wires c =
    let net = c.args.design.now.net in let label = label_at c.args.parts.now.labels in
    let whole = c.requires.roomy.fits.wires in
    let few : length (channels_in net label c.args.p) ≤ net.channels = passing_few (lies_in label c.args.p) net.channels in
    let limits = c.is_designed.ensures.net.limits.channels in
    omega arith

pub apply-requires-clause-rooms : goal.apply-requires-clause-rooms
apply-requires-clause-rooms c =
    let net = c.args.design.now.net in let label = label_at c.args.parts.now.labels in let new = row_of c.args.newer.now in
    let is : IsChange (row_of c.in_ok-made.made) new c.change.new.out = subst (λ (r : Row). IsChange r new c.change.new.out) (sym c.in_ok-made.ensures.row) c.change.ensures.change in
    c.room_law.ensures net label c.args.p c.in_ok-made.made new c.change.new.out (c.in_ok-made.ensures.roomy label c.args.p c.requires.roomy) is c.requires.newer.1

pub returns-clause-row : goal.returns-clause-row
returns-clause-row c =
    let new = row_of c.args.newer.now in
    c.apply.ensures.row new (subst (λ (r : Row). IsChange r new c.change.new.out) (sym c.in_ok-made.ensures.row) c.change.ensures.change)

pub returns-clause-roomy : goal.returns-clause-roomy
returns-clause-roomy c =
    let net = c.args.design.now.net in let label = label_at c.args.parts.now.labels in let new = row_of c.args.newer.now in
    let is : IsChange (row_of c.in_ok-made.made) new c.change.new.out = subst (λ (r : Row). IsChange r new c.change.new.out) (sym c.in_ok-made.ensures.row) c.change.ensures.change in
    c.apply.ensures.roomy net label c.args.p new (c.in_ok-made.ensures.roomy label c.args.p c.requires.roomy) is c.requires.newer.1
