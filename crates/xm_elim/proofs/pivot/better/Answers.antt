use Rattle.std.proofs.Common.{◌<◌, ℕ, subst, arith, Option, length}
use Rattle.xm_elim.specs.Inner.Places.{IsBest, IsPlace}
use Rattle.xm_elim.proofs.Looking.{never}
use Rattle.xm_elim.proofs.Placing.{at_index, best_alone, not_better, now_best, still_best}
use Rattle.xm_elim.proofs.pivot.better.Goals as goal

pub returns-then-not-is_candidate-clause-best : goal.returns-then-not-is_candidate-clause-best
returns-then-not-is_candidate-clause-best c = λ places h below.
    not_better c.args.rows.now c.args.column places c.args.p c.index-rows-p.result
    (at_index c.args.rows.now c.args.p c.index-rows-p.result c.requires.within c.index-rows-p.is) below c.args.best
    (λ candidate. never c.is_candidate.result (c.is_candidate.ensures.1 candidate) c.if-not-is_candidate.true) h

pub returns-in_default-clause-best : goal.returns-in_default-clause-best
returns-in_default-clause-best c = λ places h below.
    best_alone c.args.rows.now c.args.column places c.args.p c.index-rows-p.result
    (at_index c.args.rows.now c.args.p c.index-rows-p.result c.requires.within c.index-rows-p.is) below
    (c.is_candidate.ensures.0 c.if-not-is_candidate.false) (subst (λ (best : Option ℕ). IsBest c.args.rows.now c.args.column places best) c.in_default.is h)

pub returns-then-fewest-size-clause-best : goal.returns-then-fewest-size-clause-best
returns-then-fewest-size-clause-best c = λ places h below.
    let within : c.in-Some.b < length c.args.rows.now = subst (IsPlace (length c.args.rows.now)) c.in-Some.is c.requires.place in
    still_best c.args.rows.now c.args.column places c.args.p c.index-rows-p.result
    (at_index c.args.rows.now c.args.p c.index-rows-p.result c.requires.within c.index-rows-p.is) below c.in-Some.b c.index-rows-b.result
    (at_index c.args.rows.now c.in-Some.b c.index-rows-b.result within c.index-rows-b.is) (let fewer = c.if-fewest-size.true in omega (arith, c.size-fewest.ensures, c.size.ensures))
    (subst (λ (best : Option ℕ). IsBest c.args.rows.now c.args.column places best) c.in-Some.is h)

pub returns-clause-best : goal.returns-clause-best
returns-clause-best c = λ places h below.
    let within : c.in-Some.b < length c.args.rows.now = subst (IsPlace (length c.args.rows.now)) c.in-Some.is c.requires.place in
    now_best c.args.rows.now c.args.column places c.args.p c.index-rows-p.result
    (at_index c.args.rows.now c.args.p c.index-rows-p.result c.requires.within c.index-rows-p.is) below c.in-Some.b c.index-rows-b.result
    (at_index c.args.rows.now c.in-Some.b c.index-rows-b.result within c.index-rows-b.is) (let fewer = c.if-fewest-size.false in omega (arith, c.size-fewest.ensures, c.size.ensures))
    (c.is_candidate.ensures.0 c.if-not-is_candidate.false)
    (subst (λ (best : Option ℕ). IsBest c.args.rows.now c.args.column places best) c.in-Some.is h)
