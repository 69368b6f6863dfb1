use Rattle.std.proofs.Common.{◌≡◌, List, Some, refl, ap, sym, ◌∙◌}
use Rattle.xm_proof.specs.Tests.{queue_columns}
use Rattle.xm_search.specs.Inner.Named.{row_said}
use Rattle.xm_search.proofs.Naming.{Pair, path_row, said_below}
use Rattle.xm_search.proofs.bounds.push_said.Goals as goal

pub returns-in-Some-clause-named : goal.returns-in-Some-clause-named
returns-in-Some-clause-named c = λ it lemmas path same has on are.
    let row = c.in-Some.row in
    let said = sym c.in_ok-row.ensures ∙ c.in-Some.is in
    let there : row_said (queue_columns it) c.args.capacity c.args.lit ≡ Some row = ap (λ (ps : List Pair). row_said ps c.args.capacity c.args.lit) (sym same) ∙ said in
    c.push_named.ensures.named it lemmas path (path_row it lemmas path c.args.lit c.args.capacity row has on there) refl (said_below (queue_columns it) c.args.lit c.args.capacity row there) are
