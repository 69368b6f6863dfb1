use Rattle.xm_commands.proofs.Demonstrated.{text_demonstrated}
use Rattle.xm_commands.proofs.demonstrating.text_of_tape.Goals as goal

pub returns : goal.returns
returns g c =
    let counted = rw (c.net.ensures.net, c.as_slice.ensures) at c.counts_of-counts.ensures in
    let are = c.in_ok-totals.ensures in
    text_demonstrated c.demo_text.result c.args.it.size c.args.it.seed c.args.prepared.now c.requires.generated c.args.tape.now c.requires.tape c.in_ok-totals.totals.items are c.counts_of-counts.result (counted are) c.demo_text.ensures
