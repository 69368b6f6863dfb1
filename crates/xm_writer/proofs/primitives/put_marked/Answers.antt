use Rattle.xm_writer.proofs.primitives.put_marked.Goals as goal

pub marked_value-requires : goal.marked_value-requires
marked_value-requires c = rw c.as_slice.ensures c.requires.colours

pub returns : goal.returns
returns c = rw (c.in_ok-colours.ensures, c.as_slice.ensures) at c.put.ensures
