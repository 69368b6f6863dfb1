use Rattle.std.proofs.Common.{ℕ, ◌<◌, [], pos, false, subst}
use Rattle.xm_lp.specs.declared.decision.Con.{Con}
use Rattle.xm_rows.specs.Row.{SparseRow}
use Rattle.xm_search.proofs.Naming.{all_next}
use Rattle.xm_search.proofs.near.push_all.Goals as goal

pub loop-i-preserved : goal.loop-i-preserved
loop-i-preserved c =
    let row : SparseRow = record { entries = []; constant = pos 0 } in
    let none : Con = record { row = row; equal = false } in
    record {
      cons = all_next c.args.shared.now.cons.items c.loop-i.i none c.args.bounds.now.cons.items c.loop-i.bounds.cons.items c.push_shared.new.bounds.cons.items (subst (λ (n : ℕ). c.loop-i.i < n) c.len-i-end.ensures c.loop-i-test.true) c.loop-i.invariant.cons
          (c.in_ok-push_shared.ensures.cons none);
      named = λ it lemmas path from are. c.in_ok-push_shared.ensures.named it lemmas path from (c.loop-i.invariant.named it lemmas path from are);
    }
