use Rattle.xm_commands.proofs.demonstration_words.read_options_of.Goals as goal

pub demonstration_by-requires : goal.demonstration_by-requires
demonstration_by-requires c =
    rw c.as_slice.ensures (rw c.in-Some.is at (rw c.demonstration_options.ensures at c.in_ok-values.ensures.within))
