use Rattle.std.proofs.Common.{option_map}
use Rattle.std.proofs.lemmas.Result.{err_from_is_err_and}
use Rattle.serde_json.specs.View.{view}
use Rattle.xm_shape.specs.Gives.{fault_of}
use Rattle.xm_shape.specs.Views.{plain_net_of}
use Rattle.xm_json.specs.Lemmas.StepFacts.{Fails-bind}
use Rattle.xm_netlist.specs.Inner.Making.{all_tests}
use Rattle.xm_netlist.proofs.Drafts.{numbered_by_tests, numbered_made}
use Rattle.xm_netlist.proofs.reading.number_net.Goals as goal

pub returns-in_err-it : goal.returns-in_err-it
returns-in_err-it c =
    let p = err_from_is_err_and c.from_residual.result c.from_residual.ensures.1 in
    rw (p.1, p.2, numbered_by_tests (plain_net_of c.args.draft.now) (option_map view c.args.tape) (option_map view c.args.proof)) (Fails-bind fault_of _ (all_tests (plain_net_of c.args.draft.now)) _ c.in_err-it.ensures.tested)

pub returns : goal.returns
returns c = numbered_made (plain_net_of c.args.draft.now) c.in_ok-it.it (option_map view c.args.tape) (option_map view c.args.proof) c.in_ok-it.ensures.tested c.in_ok-it.ensures.made
