use Rattle.std.proofs.Common.{◌≡◌, length, map, arith, ap, sym, ◌∙◌}
use Rattle.std.proofs.lemmas.List.{length-map}
use Rattle.std.proofs.lemmas.Option.{slice_get_within}
use Rattle.xm_model.specs.Component.{component_of}
use Rattle.xm_parts.proofs.Splitting.{partition_from, split, together}
use Rattle.xm_parts.specs.Kept.{label_at}
use Rattle.xm_parts.proofs.given.first_split.Goals as goal

pub returns-then-not-is_together-clause-some : goal.returns-then-not-is_together-clause-some
returns-then-not-is_together-clause-some c =
    let label = label_at c.args.labels.now in
    record {
      prim = component_of c.prim.result.now;
      has = c.prim.ensures;
      split = split label (component_of c.prim.result.now) (sym c.is_together.ensures ∙ c.if-not-is_together.true);
      before = λ j m less has. together label m (c.loop-i.invariant j m less has);
    }

pub returns-clause-none : goal.returns-clause-none
returns-clause-none c =
    let label = label_at c.args.labels.now in
    let net = c.args.net.now in
    let n : length c.as_slice.result.now ≡ length net.prims = sym (length-map c.as_slice.result.now component_of) ∙ ap length (ap (map component_of) c.as_slice.ensures ∙ c.prims.ensures.prims) in
    partition_from net label (λ i m has. c.loop-i.invariant i m (let h = slice_get_within net.prims i m has in let e = c.loop-i-test.false in let u = c.loop-i.auto.i-end in omega arith) has)
