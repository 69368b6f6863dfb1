use Rattle.std.proofs.Common.{◌+◌, ◌∙◌, ap, ap₂, subst, rules, pos, ℤ, ◌+ℤ◌, get_or, length, SFits, to_z, of_z, Bool}
use Rattle.std.specs.Prelude.{int_lt}
use Rattle.std.specs.Int.{w128}
use Rattle.std.proofs.lemmas.Int.{to_z-of_z}
use Rattle.xm_rows.specs.Row.{Fits128}
use Rattle.xm_lp.specs.declared.decision.Con.{Con}
use Rattle.xm_lp.specs.Start.{signed}
use Rattle.xm_lp.specs.Answer.{constraint_at, number_at}
use Rattle.xm_lp.proofs.StartRows.{turn_is}
use Rattle.xm_lp.proofs.Minusing.{turned_value}
use Rattle.xm_lp.proofs.Multiplying.{first_more, same_con}
use Rattle.xm_lp.proofs.answer.multipliers.Goals as goal

pub loop-i-preserved : goal.loop-i-preserved
loop-i-preserved c =
    let constraints = c.args.constraints.now in
    let top = c.args.top.now in
    let i = c.loop-i.i in
    let con = c.index-constraints-i.result in
    let whole : SFits w128 (get_or top (c.args.first + length constraints) (pos 0)) = search rules in
    let constant : SFits w128 c.constant.result = search rules in
    let value : SFits w128 c.in-Some.value = search rules in
    let result : SFits w128 c.signed.result = search rules in
    let a = to_z-of_z w128 (get_or top (c.args.first + length constraints) (pos 0)) whole in
    let b = turned_value (number_at top (c.args.first + i)) (c.requires.fit (c.args.first + i)) in
    let difference = ap₂ ◌+ℤ◌ a b in
    let at = ap (λ (x : Con). x.row.constant) (same_con constraints i con c.loop-i-test.true c.index-constraints-i.is) in
    let turn = ap (λ (z : ℤ). int_lt z (pos 0)) (to_z-of_z w128 c.constant.result constant ∙ c.constant.ensures.value ∙ at) ∙ turn_is (constraint_at constraints i).row.constant in
    first_more constraints top c.args.first i c.loop-i.multipliers.items c.push.new.self.items (to_z w128 (of_z w128 c.signed.result)) c.loop-i.invariant c.loop-i-test.true
    (subst Fits128 difference c.in-Some.ensures.0)
    (to_z-of_z w128 c.signed.result result ∙ c.signed.ensures ∙ ap₂ (λ (t : Bool)
    (z : ℤ). signed t z) turn (to_z-of_z w128 c.in-Some.value value ∙ c.in-Some.ensures.1 ∙ difference))
    c.in_ok-push.ensures.ok
