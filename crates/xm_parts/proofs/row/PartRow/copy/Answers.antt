use Rattle.std.proofs.Common.{◌≡◌, ap, ◌∙◌, length}
use Rattle.xm_parts.proofs.Projecting.{copies_prims, copies_roomy, copies_same, within_net}
use Rattle.xm_parts.proofs.Stepping.{rows_same}
use Rattle.xm_parts.specs.Inner.Copied.{AreCopies}
use Rattle.xm_parts.specs.Partition.{prims_in}
use Rattle.xm_parts.proofs.row.PartRow.copy.Goals as goal

pub copies_of-requires : goal.copies_of-requires
copies_of-requires c k x at =
    within_net c.args.design.now.net c.requires.fits.0 c.requires.fits.1.0 c.args.self.now c.requires.fits.1.1 k x (rw c.as_slice.ensures at at)

pub returns-clause-row : goal.returns-clause-row
returns-clause-row c =
    let are : AreCopies c.args.design.now.net c.args.self.now.cells.items c.in_ok-cells.cells.items = rw (← c.as_slice.ensures) c.in_ok-cells.ensures in
    let wires : c.in_ok-wires.wires.items ≡ c.args.self.now.wires.items = rw (← c.as_slice-2.ensures) c.in_ok-wires.ensures in
    rows_same c.in_ok-cells.cells.items c.args.self.now.cells.items c.in_ok-wires.wires.items c.args.self.now.wires.items
    c.in_ok-cells.cells.room c.args.self.now.cells.room c.in_ok-wires.wires.room c.args.self.now.wires.room (copies_same c.args.design.now.net c.args.self.now.cells.items c.in_ok-cells.cells.items are) wires

pub returns-clause-roomy : goal.returns-clause-roomy
returns-clause-roomy c label p roomy =
    let net = c.args.design.now.net in
    let are : AreCopies net c.args.self.now.cells.items c.in_ok-cells.cells.items = rw (← c.as_slice.ensures) c.in_ok-cells.ensures in
    let wires : c.in_ok-wires.wires.items ≡ c.args.self.now.wires.items = rw (← c.as_slice-2.ensures) c.in_ok-wires.ensures in
    record {
      fits = record { prims = copies_prims net c.args.self.now.cells.items c.in_ok-cells.cells.items are (prims_in net label p) roomy.fits.prims; wires = ap length wires ∙ roomy.fits.wires };
      roomy = copies_roomy net c.args.self.now.cells.items c.in_ok-cells.cells.items are roomy.roomy;
    }
