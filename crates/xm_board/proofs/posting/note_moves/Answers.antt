use Rattle.std.proofs.Common.{◌<◌, length, arith, ◌∙◌}
use Rattle.std.proofs.lemmas.Option.{slice_get-get_or}
use Rattle.xm_board.proofs.Telling.{moves_next}
use Rattle.xm_board.proofs.posting.note_moves.Goals as goal

pub loop-k-preserved : goal.loop-k-preserved
loop-k-preserved c =
    let channels = c.args.channels.now in let wires = c.args.wires.now in let k = c.loop-k.k in
    let inside : k < length wires = (let whole = c.requires.whole in omega arith) in
    record {
      items = λ φ are. moves_next φ c.args.t channels wires k _ _ c.loop-k.moves.items c.note_move.new.moves.items c.args.moves.now.items (slice_get-get_or channels k 0 c.loop-k-test.true) (slice_get-get_or wires k _ inside) are (c.loop-k.invariant.items φ are) c.note_move.ensures.items;
      few = (let f = c.note_move.ensures.few in let g = c.loop-k.invariant.few in omega arith);
      room = c.note_move.ensures.room ∙ c.loop-k.invariant.room;
    }
