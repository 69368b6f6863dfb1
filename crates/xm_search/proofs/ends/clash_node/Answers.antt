use Rattle.std.proofs.Common.{List, subst, sym}
use Rattle.xm_lits.specs.Paths.{IsClashOn}
use Rattle.xm_lits.specs.declared.literal.Lit.{Lit}
use Rattle.xm_proof.specs.Argument.{step_of}
use Rattle.xm_search.specs.Inner.Looking.{EndsPath}
use Rattle.xm_search.proofs.ends.clash_node.Goals as goal

pub node_of-requires : goal.node_of-requires
node_of-requires c =
    let it = c.args.design.now in (it, subst (λ (p : List Lit). IsClashOn it p c.in-Some.found) (sym c.as_slice.ensures) c.in-Some.ensures.some)

pub returns-in-Some-clause-some : goal.returns-in-Some-clause-some
returns-in-Some-clause-some c = λ lemmas before.
    let it = c.args.design.now in
    let on = subst (λ (p : List Lit). IsClashOn it p c.in-Some.found) (sym c.as_slice.ensures) c.in-Some.ensures.some in
    subst (λ (p : List Lit). EndsPath it lemmas before p (step_of c.node_of.result)) c.as_slice.ensures (c.node_of.ensures it lemmas before on)
