use Rattle.std.proofs.Common.{rules}
use Rattle.xm_board.proofs.Logging.{first_change, first_rooms, risen}
use Rattle.xm_board.proofs.row_log.RowLog.rise.Goals as goal

pub apply-requires-clause-change : goal.apply-requires-clause-change
apply-requires-clause-change c = (c.requires.log.rows 1, first_change c.args.self.now c.remove-change.result c.requires.log c.remove-change.ensures.item)

pub apply-requires-clause-rooms : goal.apply-requires-clause-rooms
apply-requires-clause-rooms c = first_rooms c.room_law.ensures c.args.self.now c.remove-change.result c.requires.log c.remove-change.ensures.item

pub returns-clause-log : goal.returns-clause-log
returns-clause-log c net label p rows is =
    risen net label p rows c.args.self.now c.remove-change.result c.apply.new.row c.remove-change.new.self is c.remove-change.ensures.item (search rules) c.apply.ensures.row c.apply.ensures.roomy
