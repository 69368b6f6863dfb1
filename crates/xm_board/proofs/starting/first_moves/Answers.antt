use Rattle.std.proofs.Common.{◌<◌, length, refl, ap, sym, ◌∙◌, arith}
use Rattle.std.proofs.lemmas.Option.{same_Some, slice_get_read}
use Rattle.xm_board.proofs.Beginning.{each_push}
use Rattle.xm_board.specs.Inner.Starting.{AreFirstMoves}
use Rattle.xm_board.specs.declared.row_log.RowLog.{RowLog}
use Rattle.xm_parts.specs.Kept.{label_at}
use Rattle.xm_board.proofs.starting.first_moves.Goals as goal

pub moves_of-requires-clause-whole : goal.moves_of-requires-clause-whole
moves_of-requires-clause-whole c =
    let logs = c.args.logs.now in let p = c.loop-p.p in let log = c.index-logs-p.result in
    let inside : p < length logs = (let w = c.requires.whole in omega arith) in
    let there = slice_get_read logs (length logs) p log refl inside c.index-logs-p.is in
    ap length c.as_slice.ensures ∙ c.requires.wires p log there

pub loop-p-preserved : goal.loop-p-preserved
loop-p-preserved c =
    let net = c.args.parts.now.design.net in let label = label_at c.args.parts.now.labels in let p = c.loop-p.p in
    let logs = c.args.logs.now in let row = c.index-logs-p.result in
    let inside : p < length logs = (let w = c.requires.whole in omega arith) in
    let there = slice_get_read logs (length logs) p row refl inside c.index-logs-p.is in
    rw c.in_ok-push.ensures.ok (each_push (AreFirstMoves net label logs) p c.loop-p.made.items c.in_ok-moves.moves c.loop-p.invariant
    (λ log φ at e. c.in_ok-moves.ensures φ (c.as_slice.ensures ∙ (ap (λ (l : RowLog). l.base.wires.items) (same_Some _ _ (sym there ∙ at)) ∙ e))))
