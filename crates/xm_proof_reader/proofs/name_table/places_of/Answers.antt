use Rattle.std.proofs.Common.{◌<◌, arith}
use Rattle.xm_proof_reader.proofs.Tables.{earlier}
use Rattle.xm_proof_reader.proofs.name_table.places_of.Goals as goal

pub loop-i-preserved : goal.loop-i-preserved
loop-i-preserved c = λ q utf8.
    let some : 0 < c.loop-i.i = omega (arith, c.loop-i-test.true) in
    earlier c.args.names.now c.loop-i.i c.index-names-i.result q _ _ some (omega arith) c.index-names-i.is (c.loop-i.invariant q utf8) (c.in_ok-note.ensures q utf8)
