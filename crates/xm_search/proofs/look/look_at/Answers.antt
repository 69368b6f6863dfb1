use Rattle.std.proofs.Common.{Option, inl, refl, subst, arith}
use Rattle.std.specs.Prelude.{IfSome}
use Rattle.xm_proof.specs.Argument.{step_of}
use Rattle.xm_proof.specs.declared.proof.Node.{Node}
use Rattle.xm_search.specs.Inner.Ground.{lemmas_of}
use Rattle.xm_search.specs.Inner.Looking.{EndsPath}
use Rattle.xm_search.proofs.look.look_at.Goals as goal

pub returns-in-Some : goal.returns-in-Some
returns-in-Some c =
    let it = c.args.design.now in
    let lemmas = lemmas_of c.args.ground.now in
    (subst (λ (o : Option Node). IfSome o (λ n. EndsPath it lemmas c.args.before.now c.args.path.now.items (step_of n))) c.in-Some.is (c.in_ok-node.ensures.some lemmas), inl refl, omega arith)
