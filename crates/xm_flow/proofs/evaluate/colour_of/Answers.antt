use Rattle.std.proofs.Common.{◌≡◌, ◌∙◌, ℕ, option_map, slice_get, Some, ap, subst, arith}
use Rattle.std.proofs.lemmas.List.{length-map}
use Rattle.std.proofs.lemmas.Option.{slice_get-map}
use Rattle.xm_colours.specs.Family.{colours_at}
use Rattle.xm_colours.specs.Pairs.{queue_pairs_at}
use Rattle.xm_model.specs.Component.{Component, Queue}
use Rattle.xm_flow.proofs.Wiring.{there}
use Rattle.xm_flow.proofs.evaluate.colour_of.Goals as goal

pub colour_at-requires : goal.colour_at-requires
colour_at-requires c =
    let has = there _ _ c.args.q _ _ c.prim.ensures c.net.ensures.net c.in-Queue.is in
    let within = c.requires.pair _ has in
    let len = length-map {B = ℕ × ℕ} (colours_at c.args.design.now.colours c.in-Queue.out) (λ d. (c.args.q, d)) in
    omega (arith, within, len)

pub returns-in-Queue : goal.returns-in-Queue
returns-in-Queue c = λ m own.
    let has = there _ _ c.args.q _ _ c.prim.ensures c.net.ensures.net c.in-Queue.is in
    let same : Queue c.in-Queue.input c.in-Queue.out c.in-Queue.capacity c.in-Queue.initial.items ≡ m = cc in
    subst (λ (n : Component). slice_get (queue_pairs_at (colours_at c.args.design.now.colours) c.args.q n) c.args.k ≡ Some (c.args.q, c.colour_at.result)) same
    (slice_get-map {A = ℕ} {B = ℕ × ℕ} (λ d. (c.args.q, d)) (colours_at c.args.design.now.colours c.in-Queue.out) c.args.k ∙ ap (option_map (λ d. (c.args.q, d))) c.colour_at.ensures)
