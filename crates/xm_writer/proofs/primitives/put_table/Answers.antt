use Rattle.xm_writer.proofs.primitives.put_table.Goals as goal

pub table_value-requires : goal.table_value-requires
table_value-requires c = rw c.as_slice.ensures c.requires.colours
