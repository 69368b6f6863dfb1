use Rattle.std.proofs.Common.{◌≡◌, ℕ, length-append, arith}
use Rattle.xm_model.specs.Views.{content_at, signals_of}
use Rattle.xm_parts.specs.Kept.{label_at}
use Rattle.xm_parts.specs.Projection.{projection}
use Rattle.xm_parts.specs.Rows.{IsRoomyRow, row_of}
use Rattle.xm_parts.specs.declared.row.PartRow.{PartRow}
use Rattle.xm_tests.proofs.Stepped.{push_each}
use Rattle.xm_tests.proofs.suites.part_runs.rows_of.Goals as goal

pub loop-p-preserved : goal.loop-p-preserved
loop-p-preserved c =
    let net = c.args.design.now.net in let label = label_at c.args.parts.now.labels in
    record {
      whole = rw c.in_ok-push.ensures.ok (simp length-append (let w = c.loop-p.invariant.whole in omega arith));
      are = rw c.in_ok-push.ensures.ok (push_each (λ (k : ℕ) (row : PartRow). row_of row ≡ projection net label k (content_at c.args.state.now.cells.items) (signals_of c.args.wires.now.wires.items)) c.loop-p.rows.items c.in_ok-row.row c.loop-p.p c.loop-p.invariant.whole c.loop-p.invariant.are c.in_ok-row.ensures.row);
      roomy = rw c.in_ok-push.ensures.ok (push_each (λ (k : ℕ) (row : PartRow). IsRoomyRow net label k row) c.loop-p.rows.items c.in_ok-row.row c.loop-p.p c.loop-p.invariant.whole c.loop-p.invariant.roomy c.in_ok-row.ensures.roomy);
    }

pub returns : goal.returns
returns c = record {
  whole = (let w = c.loop-p.invariant.whole in let e = c.loop-p-test.false in let u = c.loop-p.auto.p-end in let v = c.count-count.ensures.value in omega arith);
  are = c.loop-p.invariant.are;
  roomy = c.loop-p.invariant.roomy;
}
