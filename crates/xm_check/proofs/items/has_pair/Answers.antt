use Rattle.std.proofs.Common.{List, ℕ, ap, sym, ◌∙◌, subst}
use Rattle.std.specs.Prelude.{IsTrue, ◌↔◌}
use Rattle.xm_colours.specs.Family.{colours_at}
use Rattle.xm_lits.proofs.Rising.{told_by}
use Rattle.xm_model.specs.Membership.{IsIn}
use Rattle.xm_proof.specs.Tests.{is_queue_pair}
use Rattle.xm_check.proofs.items.has_pair.Goals as goal

pub returns : goal.returns
returns c =
    let tells = subst (λ (sets : List (List ℕ)). IsTrue c.has.result ↔ IsIn (colours_at sets c.args.out) c.args.d) c.colours.ensures.value c.has.ensures in
    told_by c.has.result (colours_at c.args.design.now.colours c.args.out) c.args.d tells
    ∙ sym (ap (is_queue_pair (colours_at c.args.design.now.colours) c.args.d) c.requires.has)
