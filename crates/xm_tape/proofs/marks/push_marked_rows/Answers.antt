use Rattle.std.proofs.Common.{◌≡◌, ◌+◌, ◌++◌, length, arith, length-append}
use Rattle.std.proofs.lemmas.List.{get_or_default}
use Rattle.xm_tape.specs.Inner.Views.{components_of}
use Rattle.xm_tape.specs.Inner.Flat.{added, row_of}
use Rattle.xm_tape.proofs.Flat.{added_further, longer_further, rows_at-further}
use Rattle.xm_json.specs.Lemmas.Walk.{goes_on}
use Rattle.xm_tape.proofs.marks.push_marked_rows.Goals as goal

pub loop-i-preserved : goal.loop-i-preserved
loop-i-preserved c =
    let old = c.args.choices.now.items in
    let mid = c.loop-i.choices.items in
    let new = c.push_marked_row.new.choices.items in
    let i = c.loop-i.i in
    let texts = c.args.texts.now in
    let e : added old new ≡ added old mid ++ added mid new = added_further old mid new c.loop-i.invariant.longer c.in_ok-push_marked_row.ensures.longer in
    let k : c.args.first + (i + 1) ≡ c.args.first + i + 1 = omega arith in
    record {
      exact = rw (e, k, rows_at-further (length c.args.oracles.now) i (added old mid) (added mid new) c.loop-i.invariant.whole c.in_ok-push_marked_row.ensures.whole)
          (goes_on (λ text. text.now) (row_of (components_of c.args.oracles.now)) _ texts i (c.args.first + i) _ _ _ c.loop-i-test.true (get_or_default texts i _ _ c.loop-i-test.true) c.in_ok-push_marked_row.ensures.exact c.loop-i.invariant.exact);
      longer = longer_further old mid new c.loop-i.invariant.longer c.in_ok-push_marked_row.ensures.longer;
      whole = rw (e, length-append (added old mid) (added mid new)) (omega (arith, c.loop-i.invariant.whole, c.in_ok-push_marked_row.ensures.whole));
    }
