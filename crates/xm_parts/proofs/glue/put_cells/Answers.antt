use Rattle.std.proofs.Common.{◌<◌, length, refl, sym, subst, arith, get_or}
use Rattle.std.proofs.lemmas.List.{get_or_default}
use Rattle.std.proofs.lemmas.Option.{slice_get_read, slice_get_within}
use Rattle.xm_model.specs.declared.state.Cell.{Cell}
use Rattle.xm_model.specs.declared.state.Cell.TheVariants.{Nothing}
use Rattle.xm_parts.proofs.Parting.{slice_get-found}
use Rattle.xm_parts.proofs.Sticking.{can_hold, kept_more, put_more, roomy_set}
use Rattle.xm_step.specs.Roomy.{IsRoomyCell}
use Rattle.xm_parts.proofs.glue.put_cells.Goals as goal

pub put_cell-requires : goal.put_cell-requires
put_cell-requires c =
    let net = c.args.parts.now.design.net in
    let y = c.index-row-k.result in
    let at = slice_get_read c.args.row.now (length c.args.row.now) c.loop-k.k y refl c.loop-k-test.true c.index-row-k.is in
    let below = c.requires.below c.loop-k.k y at in let whole = c.loop-k.invariant.roomy.whole in
    let m = slice_get-found net.prims y.prim below in
    can_hold net.colours m.0 y.cell (get_or c.loop-k.to y.prim c.index-to-from.result) (c.requires.fit c.loop-k.k y m.0 at m.1)
    (subst (λ (x : Cell). IsRoomyCell m.0 x) (sym (get_or_default c.loop-k.to y.prim c.index-to-from.result Nothing (omega arith))) (c.loop-k.invariant.roomy.roomy y.prim m.0 m.1))

pub loop-k-preserved : goal.loop-k-preserved
loop-k-preserved c =
    let net = c.args.parts.now.design.net in
    let y = c.index-row-k.result in
    let at = slice_get_read c.args.row.now (length c.args.row.now) c.loop-k.k y refl c.loop-k-test.true c.index-row-k.is in
    let whole = c.loop-k.invariant.roomy.whole in let inside = c.requires.below c.loop-k.k y at in
    let below : y.prim < length c.loop-k.to = omega arith in
    record {
      roomy = roomy_set net.prims c.loop-k.to c.args.row.now c.loop-k.k y c.put_cell.new.to at below c.put_cell.ensures.content c.loop-k.invariant.roomy
          (λ m has. c.put_cell.ensures.roomy net.colours m (c.requires.fit c.loop-k.k y m at has) (subst (λ (x : Cell). IsRoomyCell m x) (sym (get_or_default c.loop-k.to y.prim c.index-to-from.result Nothing below)) (c.loop-k.invariant.roomy.roomy y.prim m has)));
      kept = λ s i shows was. kept_more net.prims c.loop-k.to c.args.row.now c.loop-k.k y c.put_cell.new.to at below c.put_cell.ensures.content s i shows (c.loop-k.invariant.kept s i shows was);
      put = λ s j x shows h there. put_more net.prims c.loop-k.to c.args.row.now c.loop-k.k y c.put_cell.new.to at below c.put_cell.ensures.content s j x shows h there (λ i z less stands. c.loop-k.invariant.put s i z shows less stands);
    }

pub returns-clause-put : goal.returns-clause-put
returns-clause-put c s k x shows at = c.loop-k.invariant.put s k x shows (let h = slice_get_within c.args.row.now k x at in let e = c.loop-k-test.false in omega arith) at
