use Rattle.std.proofs.Common.{◌∙◌, ap, List, map, arith}
use Rattle.serde_json.specs.Data.{Data, array}
use Rattle.serde_json.specs.View.{items_of, view}
use Rattle.serde_json.proofs.Views.{view-Array}
use Rattle.xm_model.specs.Naming.{naming_of}
use Rattle.xm_writer.proofs.Spelled.{grown, prims_all, prims_more}
use Rattle.xm_writer.proofs.writing.net_value.Goals as goal

pub loop-p-preserved : goal.loop-p-preserved
loop-p-preserved c =
    let more = grown c.loop-p.values.items c.push.new.self.items _ _ c.in_ok-push.ensures.items c.in_ok-primitive.ensures in
    rw more (prims_more (naming_of c.args.names.now) c.args.prims.now c.loop-p.p c.index-prims-p.result (map view c.loop-p.values.items) _ c.loop-p-test.true c.index-prims-p.is c.loop-p.invariant)

pub returns : goal.returns
returns c =
    view-Array c.loop-p.values
    ∙ ap (λ (ds : List Data). array (items_of ds)) (prims_all (naming_of c.args.names.now) c.args.prims.now c.loop-p.p (map view c.loop-p.values.items) _ (omega arith) c.loop-p.invariant)
