use Rattle.std.proofs.Common.{ap, ◌∙◌, subst, sym}
use Rattle.xm_board.proofs.Beginning.{each_push}
use Rattle.xm_board.specs.Inner.Starting.{IsFirstLog}
use Rattle.xm_parts.specs.Kept.{label_at}
use Rattle.xm_parts.specs.Rows.{IsRoomyRow, row_of}
use Rattle.xm_parts.specs.declared.row.PartRow.{PartRow}
use Rattle.xm_board.proofs.starting.first_logs.Goals as goal

pub loop-p-preserved : goal.loop-p-preserved
loop-p-preserved c =
    let net = c.args.design.now.net in let label = label_at c.args.parts.now.labels in let p = c.loop-p.p in
    rw c.in_ok-push.ensures.ok (each_push (IsFirstLog net label c.args.first.now) p c.loop-p.made.items c.new-log.result c.loop-p.invariant (record {
      base = ap row_of c.new-log.ensures.base ∙ c.in_ok-row.ensures.row;
      roomy = subst (λ (r : PartRow). IsRoomyRow net label p r) (sym c.new-log.ensures.base) c.in_ok-row.ensures.roomy;
      changes = c.new-log.ensures.changes;
    }))
