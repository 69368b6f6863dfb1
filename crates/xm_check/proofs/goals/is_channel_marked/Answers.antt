use Rattle.std.proofs.Common.{◌≡◌, ℕ, ◌<◌, All, List, ap, arith, subst, ◌∙◌}
use Rattle.xm_check.proofs.Marking.{all_are_goals}
use Rattle.xm_check.proofs.goals.is_channel_marked.Goals as goal
use Rattle.xm_check.specs.Inner.Marked.{are_marked_at}
use Rattle.xm_colours.specs.Family.{colours_at}
use Rattle.xm_model.specs.Net.{Network}

pub returns : goal.returns
returns c before are =
    let it = c.args.design.now in
    let few = c.is_net.ensures.limits.colours in
    let same : c.net-net.result.now.colours ≡ it.net.colours = ap (λ (n : Network). n.colours) c.net-net.ensures.net in
    let small : All (λ d. d < 64) (colours_at it.colours c.args.channel) =
    subst (λ (ds : List ℕ). All (λ d. d < 64) ds) c.in_ok-set.ensures.colours (λ i d h. let low = c.in_ok-set.ensures.below i d h in omega (arith, low, few, same)) in
    c.are_marked.ensures
    ∙ ap (λ (ds : List ℕ). are_marked_at c.args.marks.now c.args.channel ds) (c.as_slice.ensures ∙ c.in_ok-set.ensures.colours)
    ∙ all_are_goals it.net.channels before c.args.marks.now c.args.channel (colours_at it.colours c.args.channel) are c.requires.channel small
