use Rattle.std.proofs.Common.{◌≡◌, ◌∙◌, [], ◌∷◌, length, length-append, slice_get, ap, sym, true, false, arith}
use Rattle.xm_colours.specs.Family.{colours_at}
use Rattle.xm_model.specs.Membership.{IsIn}
use Rattle.xm_flow.proofs.Setting.{inside, below, below_all, below_more, below_none, below_same, below_place}
use Rattle.xm_flow.proofs.evaluate.colour_at.Goals.{then-has+else-seen-k, else-has}
use Rattle.xm_flow.proofs.evaluate.colour_at.Goals as goal

pub loop-d-init : goal.loop-d-init
loop-d-init c = record {
  number = (let e = ap length (below_none (colours_at c.args.design.now.colours c.args.c)) in omega (arith, e));
  low = omega arith;
  few = omega arith;
}

pub returns-then-seen-k : goal.returns-then-seen-k
returns-then-seen-k c =
    let there = inside _ _ _ _ c.colours-colours.ensures.value (c.has.ensures.0 c.if-has.true) in
    let e : length (below (colours_at c.args.design.now.colours c.args.c) c.loop-d.d) ≡ c.args.k = omega (arith, c.loop-d.invariant.number, c.if-seen-k.true) in
    ap (slice_get (colours_at c.args.design.now.colours c.args.c)) (sym e) ∙ below_place (colours_at c.args.design.now.colours c.args.c) c.loop-d.d (c.net-net.ensures.design.colours.rise c.args.c) there

pub loop-d-preserved : goal.loop-d-preserved
loop-d-preserved c =
    elim c.if-has.branch [
      | then-has+else-seen-k w ↦
          let there = inside _ _ _ _ c.colours-colours.ensures.value (c.has.ensures.0 w.if-has.true) in
          let more = ap length (below_more (colours_at c.args.design.now.colours c.args.c) c.loop-d.d (c.net-net.ensures.design.colours.rise c.args.c) there) in
          let len = length-append (below (colours_at c.args.design.now.colours c.args.c) c.loop-d.d) (c.loop-d.d ∷ []) in
          record {
            number = omega (arith, w.seen-is, more, len, c.loop-d.invariant.number);
            low = omega (arith, w.seen-is, w.if-seen-k.false, c.loop-d.invariant.low);
            few = omega (arith, w.seen-is, c.loop-d.invariant.few);
          }
      | else-has w ↦
          let absent : IsIn (colours_at c.args.design.now.colours c.args.c) c.loop-d.d → ⊥ =
          λ h. (let yes : c.has.result ≡ true = c.has.ensures.1 (inside _ _ _ _ (sym c.colours-colours.ensures.value) h) in let no : c.has.result ≡ false = w.if-has.false in cc) in
          let same = ap length (below_same (colours_at c.args.design.now.colours c.args.c) c.loop-d.d absent) in
          record {
            number = omega (arith, w.seen-is, same, c.loop-d.invariant.number);
            low = omega (arith, w.seen-is, c.loop-d.invariant.low);
            few = omega (arith, w.seen-is, c.loop-d.invariant.few);
          }
    ]

pub returns : goal.returns
returns c =
    let end : c.loop-d.d ≡ 64 = omega arith in
    let all = ap length (ap (below (colours_at c.args.design.now.colours c.args.c)) end ∙ below_all (colours_at c.args.design.now.colours c.args.c) 64 (λ d h. let low = c.colours-colours.ensures.below c.args.c d h in omega (arith, low, c.net-net.ensures.design.net.limits.colours))) in
    absurd (omega (arith, all, c.loop-d.invariant.number, c.loop-d.invariant.low, c.requires))
