use Rattle.std.proofs.Common.{◌<◌, All, length, map}
use Rattle.xm_flow.specs.ValidLemma.{Lemma, lemma_of}
use Rattle.xm_proof.specs.Tests.{queue_columns}
use Rattle.xm_search.proofs.Naming.{equations_next, mapped_all, mapped_at}
use Rattle.xm_search.proofs.bounds.push_lemmas.Goals as goal

pub loop-k-preserved : goal.loop-k-preserved
loop-k-preserved c =
    let ls = c.args.lemmas.now in
    let k = c.loop-k.k in
    let x = c.index-lemmas-k.result in
    record {
      cons = equations_next ls k x c.args.bounds.now.cons.items c.loop-k.bounds.cons.items c.push_lemma.new.bounds.cons.items c.loop-k-test.true c.index-lemmas-k.is c.loop-k.invariant.cons
          c.in_ok-push_lemma.ensures.cons;
      named = λ it path below are. c.in_ok-push_lemma.ensures.named it (map lemma_of ls) path (mapped_at ls k x c.loop-k-test.true c.index-lemmas-k.is)
          (mapped_all (λ (m : Lemma). All (λ e. e.column < length (queue_columns it)) m.row.entries) ls k x c.loop-k-test.true c.index-lemmas-k.is below) (c.loop-k.invariant.named it path below are);
    }
