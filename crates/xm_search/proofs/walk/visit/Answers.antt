use Rattle.std.proofs.Common.{◌<◌, Bool, true, false, get_or, List, All, length, sym, ◌∙◌, ap, subst, arith}
use Rattle.std.proofs.lemmas.List.{get_or_default, length-set}
use Rattle.std.proofs.lemmas.List.Elements.{All-push}
use Rattle.xm_search.proofs.Steps.{empty_from, seen_before, under_root, walked}
use Rattle.xm_search.specs.GoalOrder.{onward}
use Rattle.xm_search.proofs.walk.visit.Goals as goal

pub returns-then-as_slice-root-clause-walked : goal.returns-then-as_slice-root-clause-walked
returns-then-as_slice-root-clause-walked c = λ before marks.
    let below : c.args.root < length c.args.walk.seen.items = (let whole = c.requires.over.whole in let root = c.requires.root in omega (arith, whole, root)) in
    let read = get_or_default c.args.walk.seen.items c.args.root true false below in
    let same = ap (λ (l : List Bool). get_or l c.args.root false) c.as_slice.ensures in
    seen_before (onward c.args.net.now) before c.args.root c.args.walk marks below (read ∙ sym same ∙ c.if-as_slice-root.true)

pub loop-walk-init : goal.loop-walk-init
loop-walk-init c =
    let w = c.in_ok-walk.walk in
    let whole = c.requires.over.whole in
    let below : c.args.root < length c.args.walk.seen.items = (let root = c.requires.root in omega (arith, whole, root)) in
    let read = get_or_default c.args.walk.seen.items c.args.root true false below in
    let same = ap (λ (l : List Bool). get_or l c.args.root false) c.as_slice.ensures in
    let path = c.in_ok-walk.ensures.path in
    let seen = c.in_ok-walk.ensures.seen in
    record {
      over = record {
        whole = ap length seen ∙ length-set c.args.walk.seen.items c.args.root true ∙ whole;
        path = subst (All (λ d. d < c.args.net.now.channels)) (sym path)
            (All-push (λ d. d < c.args.net.now.channels) c.args.walk.path.items c.args.root c.requires.over.path c.requires.root);
      };
      under_way = λ before marks. under_root (onward c.args.net.now) before c.args.root c.args.walk w marks below (read ∙ sym same ∙ c.if-as_slice-root.false) c.requires.path
          c.in_ok-walk.ensures.left path seen;
    }

pub returns-clause-walked : goal.returns-clause-walked
returns-clause-walked c = λ before marks.
    walked (onward c.args.net.now) before c.args.root c.args.walk.left.items c.loop-walk.walk (empty_from c.loop-walk.walk.path.items (c.is_empty.ensures.0 c.loop-walk-test.false))
    (c.loop-walk.invariant.under_way before marks)
