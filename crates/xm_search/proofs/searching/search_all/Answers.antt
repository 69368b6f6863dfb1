use Rattle.std.proofs.Common.{◌≡◌, ℕ, length, refl, subst, arith}
use Rattle.xm_search.proofs.Finishing.{started}
use Rattle.xm_search.specs.Inner.Ground.{lemmas_of}
use Rattle.xm_search.specs.Inner.Progress.{IsNext, IsProgress}
use Rattle.xm_search.proofs.searching.search_all.Goals as goal

pub loop-place-init : goal.loop-place-init
loop-place-init c = record {
  progress = started c.args.design.now (lemmas_of c.args.ground) c.args.order.now c.args.budget (record { goals = c.new.result; nodes = 0; pivots = 0 }) c.new.ensures.items refl refl;
}

pub returns-in-Spent-clause-found : goal.returns-in-Spent-clause-found
returns-in-Spent-clause-found c =
    let halt = subst (IsNext c.args.design.now (lemmas_of c.args.ground) c.args.order.now c.args.budget c.loop-place.place) c.in-Spent.is c.in_ok-more.ensures.next in
    c.halted.ensures c.args.order.now c.args.budget c.requires.order c.requires.few c.requires.high halt

pub returns-clause-found : goal.returns-clause-found
returns-clause-found c =
    let low = c.loop-place.auto.place-end in
    let high = c.loop-place-test.false in
    let all : c.loop-place.place ≡ length c.args.order.now = omega arith in
    c.proved.ensures c.args.order.now c.args.budget c.requires.order c.requires.few c.requires.high
    (subst (λ (k : ℕ). IsProgress c.args.design.now (lemmas_of c.args.ground) c.args.order.now c.args.budget k c.loop-place.progress) all c.loop-place.invariant.progress)
