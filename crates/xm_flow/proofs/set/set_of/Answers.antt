use Rattle.std.proofs.Common.{◌≡◌, ◌∙◌, ◌<◌, ℕ, ap, sym, subst, true, false, arith, All}
use Rattle.xm_colours.specs.Family.{colours_at}
use Rattle.xm_model.specs.Membership.{IsIn}
use Rattle.xm_flow.proofs.Setting.{inside, all_in, below, below_all, below_more, below_none, below_same}
use Rattle.xm_flow.proofs.set.set_of.Goals.{then-has+in_ok-push, else-has}
use Rattle.xm_flow.proofs.set.set_of.Goals as goal

pub loop-d-init : goal.loop-d-init
loop-d-init c = c.new-set.ensures.items ∙ sym (below_none (colours_at c.args.design.now.colours c.args.c))

pub loop-d-preserved : goal.loop-d-preserved
loop-d-preserved c =
    elim c.if-has.branch [
      | then-has+in_ok-push w ↦
          let there = inside _ _ _ _ c.colours-colours.ensures.value (c.has.ensures.0 w.if-has.true) in
          let more = below_more (colours_at c.args.design.now.colours c.args.c) c.loop-d.d (c.net-net.ensures.design.colours.rise c.args.c) there in
          let before : c.loop-d.set.items ≡ below (colours_at c.args.design.now.colours c.args.c) c.loop-d.d = c.loop-d.invariant in
          cc (w.set-is, w.in_ok-push.ensures.ok, before, more)
      | else-has w ↦
          let absent : IsIn (colours_at c.args.design.now.colours c.args.c) c.loop-d.d → ⊥ =
          λ h. (let yes : c.has.result ≡ true = c.has.ensures.1 (inside _ _ _ _ (sym c.colours-colours.ensures.value) h) in let no : c.has.result ≡ false = w.if-has.false in cc) in
          let same = below_same (colours_at c.args.design.now.colours c.args.c) c.loop-d.d absent in
          let before : c.loop-d.set.items ≡ below (colours_at c.args.design.now.colours c.args.c) c.loop-d.d = c.loop-d.invariant in
          cc (w.set-is, before, same)
    ]

pub returns-clause-colours : goal.returns-clause-colours
returns-clause-colours c =
    let end : c.loop-d.d ≡ 64 = omega arith in
    c.loop-d.invariant ∙ ap (below (colours_at c.args.design.now.colours c.args.c)) end ∙ below_all (colours_at c.args.design.now.colours c.args.c) 64 (λ d h. let low = c.colours-colours.ensures.below c.args.c d h in omega (arith, low, c.net-net.ensures.design.net.limits.colours))

pub returns-clause-below : goal.returns-clause-below
returns-clause-below c =
    let end : c.loop-d.d ≡ 64 = omega arith in
    let same = c.loop-d.invariant ∙ ap (below (colours_at c.args.design.now.colours c.args.c)) end ∙ below_all (colours_at c.args.design.now.colours c.args.c) 64 (λ d h. let low = c.colours-colours.ensures.below c.args.c d h in omega (arith, low, c.net-net.ensures.design.net.limits.colours)) in
    subst (All (λ (d : ℕ). d < c.args.design.now.net.colours)) (sym same) (all_in (λ d. d < c.args.design.now.net.colours) (colours_at c.args.design.now.colours c.args.c) (λ d h. c.colours-colours.ensures.below c.args.c d h))
