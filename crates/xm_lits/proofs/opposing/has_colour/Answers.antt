use Rattle.std.proofs.Common.{ℕ, List, subst}
use Rattle.std.specs.Prelude.{IsTrue, ◌↔◌}
use Rattle.xm_colours.specs.Family.{colours_at}
use Rattle.xm_lits.proofs.Rising.{told_by}
use Rattle.xm_model.specs.Membership.{IsIn}
use Rattle.xm_lits.proofs.opposing.has_colour.Goals as goal

pub returns : goal.returns
returns c =
    told_by c.has.result (colours_at c.args.design.now.colours c.args.channel) c.args.colour (subst (λ (cs : List (List ℕ)). IsTrue c.has.result ↔ IsIn (colours_at cs c.args.channel) c.args.colour) c.colours.ensures.value c.has.ensures)
