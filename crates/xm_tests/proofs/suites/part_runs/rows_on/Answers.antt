use Rattle.std.proofs.Common.{◌≡◌, ◌<◌, ℕ, length, length-append, refl, arith}
use Rattle.std.proofs.lemmas.Option.{slice_get_read}
use Rattle.xm_model.specs.Next.{next}
use Rattle.xm_model.specs.Views.{choice_at}
use Rattle.xm_parts.specs.Kept.{label_at}
use Rattle.xm_parts.specs.Projection.{projection}
use Rattle.xm_parts.specs.Rows.{IsRoomyRow, row_of}
use Rattle.xm_parts.specs.declared.row.PartRow.{PartRow}
use Rattle.xm_tests.proofs.Stepped.{cycle_of, push_each}
use Rattle.xm_tests.proofs.suites.part_runs.rows_on.Goals as goal

pub row_on-requires-clause-cycle : goal.row_on-requires-clause-cycle
row_on-requires-clause-cycle c =
    let h = c.requires.rows in
    let below : c.loop-p.p < length c.args.rows.now = (let t = c.loop-p-test.true in let v = c.count-count.ensures.value in let w = h.of.whole in omega arith) in
    let at = slice_get_read c.args.rows.now (length c.args.rows.now) c.loop-p.p c.index-rows-p.result refl below c.index-rows-p.is in (
      cycle_of h c.loop-p.p c.index-rows-p.result c.in_ok-moves.moves at (c.in_ok-moves.ensures h.state h.frame h.of),
      h.fitting,
      h.fit,
    )

pub row_on-requires-clause-roomy : goal.row_on-requires-clause-roomy
row_on-requires-clause-roomy c =
    let h = c.requires.rows in
    let below : c.loop-p.p < length c.args.rows.now = (let t = c.loop-p-test.true in let v = c.count-count.ensures.value in let w = h.of.whole in omega arith) in
    h.of.roomy c.loop-p.p c.index-rows-p.result (slice_get_read c.args.rows.now (length c.args.rows.now) c.loop-p.p c.index-rows-p.result refl below c.index-rows-p.is)

pub loop-p-preserved : goal.loop-p-preserved
loop-p-preserved c =
    let net = c.args.design.now.net in let label = label_at c.args.parts.now.labels in
    let below : c.loop-p.p < length c.args.rows.now = (let t = c.loop-p-test.true in let v = c.count-count.ensures.value in let w = c.requires.rows.of.whole in omega arith) in
    let at = slice_get_read c.args.rows.now (length c.args.rows.now) c.loop-p.p c.index-rows-p.result refl below c.index-rows-p.is in
    record {
      whole = rw c.in_ok-push.ensures.ok (simp length-append (let w = c.loop-p.invariant.whole in omega arith));
      are = rw c.in_ok-push.ensures.ok (λ h φ is. push_each (λ (k : ℕ) (row : PartRow). row_of row ≡ projection net label k (next net h.state h.frame) φ) c.loop-p.made.items c.in_ok-row.row c.loop-p.p c.loop-p.invariant.whole (c.loop-p.invariant.are h φ is)
          (c.in_ok-row.ensures.step (cycle_of h c.loop-p.p c.index-rows-p.result c.in_ok-moves.moves at (c.in_ok-moves.ensures h.state h.frame h.of)) φ is));
      roomy = rw c.in_ok-push.ensures.ok (push_each (λ (k : ℕ) (row : PartRow). IsRoomyRow net label k row) c.loop-p.made.items c.in_ok-row.row c.loop-p.p c.loop-p.invariant.whole c.loop-p.invariant.roomy c.in_ok-row.ensures.roomy);
    }

pub returns : goal.returns
returns c =
    let it = c.args.design.now in let net = it.net in let h = c.requires.rows in
    let later = next net h.state h.frame in let choices = choice_at net.prims c.args.choices.now in
    let made = (c.one_frame.ensures net it.order later choices c.is_designed.ensures.net c.is_designed.ensures.order).0 in
    record {
      state = later;
      choices = choices;
      frame = made.0;
      is_frame = made.1;
      fitting = c.fits_next.ensures net it.order h.state h.choices h.frame c.is_designed.ensures.net c.is_designed.ensures.order h.fitting h.fit h.is_frame;
      fit = c.requires.choices;
      of = record {
        whole = (let w = c.loop-p.invariant.whole in let e = c.loop-p-test.false in let u = c.loop-p.auto.p-end in let v = c.count-count.ensures.value in omega arith);
        are = c.loop-p.invariant.are h made.0 made.1;
        roomy = c.loop-p.invariant.roomy;
      };
    }
