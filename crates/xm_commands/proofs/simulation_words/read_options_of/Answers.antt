use Rattle.xm_commands.proofs.simulation_words.read_options_of.Goals as goal

pub simulation_by-requires : goal.simulation_by-requires
simulation_by-requires c =
    rw c.as_slice.ensures (rw c.in-Some.is at (rw c.simulation_options.ensures at c.in_ok-values.ensures.within))
