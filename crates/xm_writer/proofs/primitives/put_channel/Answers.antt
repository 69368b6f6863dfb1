use Rattle.xm_writer.proofs.primitives.put_channel.Goals as goal

pub put_name-requires : goal.put_name-requires
put_name-requires c = rw c.as_slice.ensures c.requires.channels
