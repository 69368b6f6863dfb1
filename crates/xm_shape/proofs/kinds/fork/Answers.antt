use Rattle.std.proofs.Common.{refl}
use Rattle.std.proofs.lemmas.Result.{err_from_is_err_and}
use Rattle.xm_json.specs.Gives.{path_of}
use Rattle.xm_json.specs.Lemmas.StepFacts.{Fails-bind}
use Rattle.xm_shape.specs.Shape.{fork_in}
use Rattle.xm_shape.proofs.kinds.fork.Goals as goal

pub returns-in_err-only : goal.returns-in_err-only
unfolding fork_in
returns-in_err-only c =
    let p = err_from_is_err_and c.from_residual-in_err-only.result c.from_residual-in_err-only.ensures.1 in
    rw (p.1, p.2, c.in_ok-input.ensures, c.in_ok-a.ensures, c.in_ok-b.ensures, c.in_ok-table_a.ensures, c.in_ok-table_b.ensures)
    (Fails-bind path_of c.in_err-only.field-0.0 _ _ c.in_err-only.ensures)

pub returns : goal.returns
unfolding fork_in
returns c = rw (c.in_ok-input.ensures, c.in_ok-a.ensures, c.in_ok-b.ensures, c.in_ok-table_a.ensures, c.in_ok-table_b.ensures, c.in_ok-only.ensures) refl
