use Rattle.std.proofs.Common.{◌≡◌, ℕ, List, sym, subst, true, false}
use Rattle.xm_model.specs.Membership.{IsIn}
use Rattle.xm_colours.specs.Family.{colours_at}
use Rattle.xm_lits.proofs.Rising.{has_from, lacks_from}
use Rattle.xm_lits.specs.Inference.{has_colour}
use Rattle.xm_lits.proofs.idle.push_none.Goals as goal

pub returns-then-has : goal.returns-then-has
returns-then-has c =
    let there : has_colour (colours_at c.args.design.now.colours c.args.input) c.args.colour ≡ true = has_from (colours_at c.args.design.now.colours c.args.input) c.args.colour (subst (λ (cs : List (List ℕ)). IsIn (colours_at cs c.args.input) c.args.colour) c.colours.ensures.value (c.has.ensures.0 c.if-has.true)) in
    rw there c.push_alternative.ensures

pub returns-else-has : goal.returns-else-has
returns-else-has c =
    let none : has_colour (colours_at c.args.design.now.colours c.args.input) c.args.colour ≡ false = lacks_from (colours_at c.args.design.now.colours c.args.input) c.args.colour (λ inside. let h = c.has.ensures.1 (subst (λ (cs : List (List ℕ)). IsIn (colours_at cs c.args.input) c.args.colour) (sym c.colours.ensures.value) inside) in let f = c.if-has.false in cc) in
    rw none c.push_alternative-else-has.ensures
