use Rattle.xm_lits.specs.declared.literal.Lit.TheVariants.{Stuck}
use Rattle.xm_search.proofs.Naming.{on_path_at, said_next}
use Rattle.xm_search.proofs.bounds.push_literals.Goals as goal

pub loop-lit-preserved : goal.loop-lit-preserved
loop-lit-preserved c =
    let path = c.args.path.now in
    let i = c.loop-lit.lit-index in
    record {
      cons = said_next c.args.design.now path i (Stuck 0) c.args.bounds.now.cons.items c.loop-lit.bounds.cons.items c.push_literal.new.bounds.cons.items c.loop-lit-test.true c.loop-lit.invariant.cons
          c.in_ok-push_literal.ensures.cons;
      named = λ lemmas are. c.in_ok-push_literal.ensures.named lemmas path (on_path_at path i (Stuck 0) c.loop-lit-test.true) (c.loop-lit.invariant.named lemmas are);
    }
