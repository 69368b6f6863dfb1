use Rattle.xm_writer.proofs.primitives.put_colours.Goals as goal

pub put_names-requires : goal.put_names-requires
put_names-requires c = rw c.as_slice.ensures c.requires.colours
