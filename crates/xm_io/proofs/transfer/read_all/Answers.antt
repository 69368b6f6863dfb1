use Rattle.std.proofs.Common.{ℕ, length, ap, arith, length-append, length-take}
use Rattle.std.proofs.lemmas.Result.{err_from_is_err_and}
use Rattle.xm_io.proofs.Streams.{Consumes-then}
use Rattle.xm_io.proofs.transfer.read_all.Goals as goal

pub returns-then-count-limit-clause-too_long : goal.returns-then-count-limit-clause-too_long
returns-then-count-limit-clause-too_long g c = λ _. (
  _,
  omega (arith, c.in-Ok.ensures.bound, ap length c.as_bytes.ensures, length-append {A = ℕ}, length-take {A = ℕ}),
  Consumes-then _ _ _ _ _ c.loop.invariant.taken c.in-Ok.ensures.bytes.0,
)

pub returns-then-count-limit-clause-front : goal.returns-then-count-limit-clause-front
returns-then-count-limit-clause-front g c = (_, Consumes-then _ _ _ _ _ c.loop.invariant.taken c.in-Ok.ensures.bytes.0)

pub returns-in_err-push_bytes-clause-front : goal.returns-in_err-push_bytes-clause-front
returns-in_err-push_bytes-clause-front g c =
    let p = err_from_is_err_and c.from_residual.result c.from_residual.ensures.1 in
    rw p.1 (_, Consumes-then _ _ _ _ _ c.loop.invariant.taken c.in-Ok.ensures.bytes.0)
