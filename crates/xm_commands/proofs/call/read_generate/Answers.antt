use Rattle.xm_commands.proofs.call.read_generate.Goals as goal

pub generate_by-requires : goal.generate_by-requires
generate_by-requires c =
    rw c.as_slice.ensures (rw c.in-Some.is at (rw c.generate_options.ensures at c.in_ok-values.ensures.within))
