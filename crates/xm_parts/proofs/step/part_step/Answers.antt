use Rattle.std.proofs.Common.{◌≡◌, ap, length, map, ◌∙◌}
use Rattle.xm_model.specs.Component.{component_of}
use Rattle.xm_model.specs.Lending.{refill-full}
use Rattle.xm_model.specs.Next.{next}
use Rattle.xm_parts.proofs.Stepping.{can_go, cells_after, prims_after, roomy_after, row_is, shows_next}
use Rattle.xm_parts.specs.Inner.Going.{AllGoOn}
use Rattle.xm_parts.specs.Kept.{AreLocalsOf, label_at}
use Rattle.xm_parts.specs.Inner.Showing.{ShowsState}
use Rattle.xm_parts.specs.Partition.{IsPartition, channels_in}
use Rattle.xm_parts.specs.Projection.{wire_of}
use Rattle.xm_parts.specs.Rows.{part_signals}
use Rattle.xm_parts.proofs.step.part_step.Goals as goal

pub go_on_all-requires : goal.go_on_all-requires
go_on_all-requires c =
    let net = c.args.design.now.net in let label = label_at c.args.parts.now.labels in
    let partition : IsPartition net label = rw (← c.requires.design) c.count-count.ensures.partition in
    let locals : AreLocalsOf net label c.args.p (map component_of c.as_slice.result.now) = rw (← c.requires.design, c.as_slice.ensures) c.part-part.ensures.locals in
    let far : c.as_slice-4.result.now ≡ c.args.far.now = c.as_slice-4.ensures ∙ c.far.view_is in
    rw (c.as_slice-2.ensures, c.as_slice-3.ensures, far, c.as_mut_slice.ensures.value)
    (can_go net c.net-net.ensures.design.net label partition c.args.p (map component_of c.as_slice.result.now) locals c.args.old.now c.args.out.now c.args.far.now c.requires.cycle c.requires.old c.requires.out)

pub returns-clause-step : goal.returns-clause-step
returns-clause-step c at x φ chooses frame =
    let net = c.args.design.now.net in let label = label_at c.args.parts.now.labels in
    let partition : IsPartition net label = rw (← c.requires.design) c.count-count.ensures.partition in
    let locals : AreLocalsOf net label c.args.p (map component_of c.as_slice.result.now) = rw (← c.requires.design, c.as_slice.ensures) c.part-part.ensures.locals in
    let far : c.as_slice-4.result.now ≡ c.args.far.now = c.as_slice-4.ensures ∙ c.far.view_is in
    let gone : AllGoOn (map component_of c.as_slice.result.now) c.args.old.now.cells.items c.args.out.now.cells.items c.go_on_all.new.out (part_signals c.args.old.now.wires.items c.args.far.now) =
    rw (← c.as_slice-2.ensures, ← c.as_slice-3.ensures, ← far, ← c.as_mut_slice.ensures.value) c.go_on_all.ensures in
    let cells = refill-full (length c.args.out.now.cells.items) c.args.out.now.cells.items c.go_on_all.new.out gone.whole in
    let wires = refill-full (length c.args.out.now.wires.items) c.args.out.now.wires.items c.solve.new.wires (c.solve.auto.wires ∙ ap length c.as_mut_slice-2.ensures.value) in
    let shows = shows_next net c.net-net.ensures.design.net label partition c.args.p (map component_of c.as_slice.result.now) locals c.args.old.now c.args.out.now c.args.far.now at c.go_on_all.new.out gone in
    let seen : c.as_slice-5.result.now ≡ c.go_on_all.new.out = c.as_slice-5.ensures ∙ cells in
    let there : ShowsState c.args.parts.now.design.net label c.args.p c.as_slice-5.result.now (next net at.state at.frame) = rw (seen, c.requires.design) shows in
    let solved : c.solve.new.wires ≡ map (wire_of φ) (channels_in c.args.parts.now.design.net label c.args.p) = c.solve.ensures (next net at.state at.frame) x φ there (rw c.requires.design chooses) (rw c.requires.design frame) in
    rw (cells, wires) (row_is net label c.args.p (next net at.state at.frame) φ c.go_on_all.new.out c.solve.new.wires c.args.out.now.cells.room c.args.out.now.wires.room
    (cells_after net c.net-net.ensures.design.net label partition c.args.p (map component_of c.as_slice.result.now) locals c.args.old.now.cells.items c.args.out.now c.requires.out.fits c.go_on_all.new.out _ gone (next net at.state at.frame) shows)
    (rw (← c.requires.design) solved))

pub returns-clause-roomy : goal.returns-clause-roomy
returns-clause-roomy c =
    let net = c.args.design.now.net in let label = label_at c.args.parts.now.labels in
    let partition : IsPartition net label = rw (← c.requires.design) c.count-count.ensures.partition in
    let locals : AreLocalsOf net label c.args.p (map component_of c.as_slice.result.now) = rw (← c.requires.design, c.as_slice.ensures) c.part-part.ensures.locals in
    let far : c.as_slice-4.result.now ≡ c.args.far.now = c.as_slice-4.ensures ∙ c.far.view_is in
    let gone : AllGoOn (map component_of c.as_slice.result.now) c.args.old.now.cells.items c.args.out.now.cells.items c.go_on_all.new.out (part_signals c.args.old.now.wires.items c.args.far.now) =
    rw (← c.as_slice-2.ensures, ← c.as_slice-3.ensures, ← far, ← c.as_mut_slice.ensures.value) c.go_on_all.ensures in
    let cells = refill-full (length c.args.out.now.cells.items) c.args.out.now.cells.items c.go_on_all.new.out gone.whole in
    let same : length c.solve.new.wires ≡ length c.args.out.now.wires.items = c.solve.auto.wires ∙ ap length c.as_mut_slice-2.ensures.value in
    let wires = refill-full (length c.args.out.now.wires.items) c.args.out.now.wires.items c.solve.new.wires same in
    rw (cells, wires) (record {
      fits = record {
        prims = prims_after net c.net-net.ensures.design.net label partition c.args.p (map component_of c.as_slice.result.now) locals c.args.old.now.cells.items c.args.out.now c.requires.out.fits c.go_on_all.new.out _ gone;
        wires = same ∙ c.requires.out.fits.wires;
      };
      roomy = roomy_after net c.net-net.ensures.design.net label partition c.args.p (map component_of c.as_slice.result.now) locals c.args.old.now.cells.items c.args.out.now c.requires.out.fits c.go_on_all.new.out _ gone;
    })
