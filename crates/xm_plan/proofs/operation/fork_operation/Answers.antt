use Rattle.std.proofs.Common.{◌≡◌, length, refl, sym, subst}
use Rattle.xm_plan.specs.Inner.Operations.{Keeps, fork, fork_plain}
use Rattle.xm_plan.proofs.operation.fork_operation.Goals as goal

pub returns-then-colours-map_b : goal.returns-then-colours-map_b
returns-then-colours-map_b c = λ choices. (refl, fork (c.if-not-are_apart.ensures refl))

pub returns : goal.returns
returns c = λ choices.
    let same : length c.args.map_a.now ≡ length c.args.map_b.now = c.if-colours-map_b.false in
    (refl, fork_plain (c.if-not-are_apart.ensures refl) (c.if-not-is_identity.ensures refl) (subst (λ n. Keeps n c.args.map_b.now) (sym same) (c.if-not-is_identity-2.ensures refl)))
