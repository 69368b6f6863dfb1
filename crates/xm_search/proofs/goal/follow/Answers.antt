use Rattle.std.proofs.Common.{List, SFits, refl, rules, subst}
use Rattle.std.specs.Int.{w128}
use Rattle.std.proofs.lemmas.Int.{to_z-of_z}
use Rattle.xm_lits.specs.declared.literal.Lit.{Lit}
use Rattle.xm_proof.specs.Argument.{step_of}
use Rattle.xm_search.proofs.Turning.{closed_on, cut_on, point_on, splits_or_stops}
use Rattle.xm_search.specs.Inner.Goals.{SplitsOrStops}
use Rattle.xm_search.specs.Inner.Looking.{IsSeen}
use Rattle.xm_search.specs.declared.look.Look.{Look}
use Rattle.xm_search.proofs.goal.follow.Goals as goal

pub returns-in_ok-close-in-Ends-clause-turned : goal.returns-in_ok-close-in-Ends-clause-turned
returns-in_ok-close-in-Ends-clause-turned c = λ it lemmas before budget g seen fits.
    let path = c.args.path.items in
    let left = c.args.left in
    let s = subst (λ (x : Look). IsSeen it lemmas before path left x) c.in-Ends.is seen in
    closed_on it lemmas before c.args.goal budget c.args.growth path left g fits c.in_ok-close-in-Ends.field-0 (step_of c.in-Ends.node) c.in-Ends.pivots s.0 s.1 s.2 c.in_ok-close-in-Ends.ensures

pub returns-in_ok-follow_split-in-Splits-clause-turned : goal.returns-in_ok-follow_split-in-Splits-clause-turned
returns-in_ok-follow_split-in-Splits-clause-turned c = λ it lemmas before budget g seen fits.
    let path = c.args.path.items in
    let left = c.args.left in
    let s = subst (λ (x : Look). IsSeen it lemmas before path left x) c.in-Splits.is seen in
    splits_or_stops it lemmas before c.args.goal budget c.args.growth path left g fits c.in_ok-follow_split-in-Splits.field-0 c.in-Splits.rule s.0 s.1
    (subst (λ (p : List Lit). SplitsOrStops c.args.growth p c.in-Splits.rule left c.in_ok-follow_split-in-Splits.field-0) c.as_slice.ensures c.in_ok-follow_split-in-Splits.ensures)

pub returns-in-Point-clause-turned : goal.returns-in-Point-clause-turned
returns-in-Point-clause-turned c = λ it lemmas before budget g seen fits.
    let path = c.args.path.items in
    let left = c.args.left in
    let small : SFits w128 c.in-Point.denominator = search rules in
    let s = subst (λ (x : Look). IsSeen it lemmas before path left x) c.in-Point.is seen in
    rw (to_z-of_z w128 c.in-Point.denominator small)
    (point_on it lemmas before c.args.goal budget c.args.growth path left g fits (record { goal = c.args.goal; lits = c.args.path; denominator = c.in-Point.denominator; counts = c.in-Point.counts }) refl refl s)

pub returns-in_ok-stop-in-Spent-clause-turned : goal.returns-in_ok-stop-in-Spent-clause-turned
returns-in_ok-stop-in-Spent-clause-turned c = λ it lemmas before budget g seen fits.
    let path = c.args.path.items in
    let left = c.args.left in
    let s = subst (λ (x : Look). IsSeen it lemmas before path left x) c.in-Spent.is seen in
    cut_on it lemmas before c.args.goal budget c.args.growth path left g fits c.in_ok-stop-in-Spent.field-0 s c.in_ok-stop-in-Spent.ensures
