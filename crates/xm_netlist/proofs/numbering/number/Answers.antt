use Rattle.xm_netlist.proofs.Places.{number_found}
use Rattle.xm_netlist.proofs.numbering.number.Goals as goal

pub returns-clause-number : goal.returns-clause-number
returns-clause-number c =
    number_found c.args.names.now.keys c.args.name.now c.get_index_of.result c.len.result c.unwrap_or.result c.get_index_of.ensures.index c.len.ensures.len c.unwrap_or.ensures
