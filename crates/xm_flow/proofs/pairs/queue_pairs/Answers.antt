use Rattle.std.proofs.Common.{◌∙◌, ◌++◌, ◌<◌, ◌≤◌, ℕ, List, length, ap, sym, arith}
use Rattle.std.proofs.lemmas.List.{take_all}
use Rattle.xm_colours.specs.Family.{colours_at}
use Rattle.xm_colours.specs.Pairs.{queue_pairs, queue_pairs_at}
use Rattle.xm_model.specs.Component.{Component}
use Rattle.xm_model.specs.Net.{Network}
use Rattle.xm_flow.specs.Lemmas.Listing.{there}
use Rattle.xm_flow.proofs.Wholes.{listed_more, same_length}
use Rattle.xm_flow.proofs.pairs.queue_pairs.Goals as goal

pub loop-q-preserved : goal.loop-q-preserved
loop-q-preserved c =
    let len = same_length _ _ _ c.prims.ensures.prims (ap (λ (n : Network). n.prims) c.net-net.ensures.net) in
    let within : c.loop-q.q < length c.args.design.now.net.prims = omega (arith, len, c.len-q-end.ensures) in
    let m = there c.args.design.now.net.prims c.loop-q.q within in
    c.in_ok-push_pairs.ensures m.0 m.1 ∙ ap (λ (l : List (ℕ × ℕ)). l ++ queue_pairs_at (colours_at c.args.design.now.colours) c.loop-q.q m.0) c.loop-q.invariant
    ∙ sym (listed_more (colours_at c.args.design.now.colours) c.args.design.now.net.prims c.loop-q.q m.0 within m.1)

pub returns : goal.returns
returns c =
    let len = same_length _ _ _ c.prims.ensures.prims (ap (λ (n : Network). n.prims) c.net-net.ensures.net) in
    let past : length c.args.design.now.net.prims ≤ c.loop-q.q = omega (arith, len, c.len-q-end.ensures) in
    c.loop-q.invariant ∙ ap (λ (ms : List Component). queue_pairs (colours_at c.args.design.now.colours) 0 ms) (take_all c.loop-q.q c.args.design.now.net.prims past)
