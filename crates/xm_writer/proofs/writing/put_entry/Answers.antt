use Rattle.xm_writer.proofs.writing.put_entry.Goals as goal

pub names_value-requires : goal.names_value-requires
names_value-requires c = rw c.as_slice.ensures c.requires.colours

pub put_at_name-requires : goal.put_at_name-requires
put_at_name-requires c = rw c.as_slice-3.ensures c.requires.channels

pub returns : goal.returns
returns c = rw (c.in_ok-colours.ensures, c.as_slice.ensures, c.as_slice-2.ensures, c.as_slice-3.ensures) at c.put_at_name.ensures
