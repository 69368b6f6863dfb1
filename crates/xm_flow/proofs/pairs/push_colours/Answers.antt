use Rattle.std.proofs.Common.{◌∙◌, ◌++◌, ℕ, List, [], ◌∷◌, get_or, map, ap, sym}
use Rattle.std.proofs.lemmas.List.{take_all}
use Rattle.xm_flow.proofs.Terming.{map_more}
use Rattle.xm_flow.proofs.pairs.push_colours.Goals as goal

pub loop-i-preserved : goal.loop-i-preserved
loop-i-preserved c =
    c.in_ok-push.ensures.ok ∙ ap (λ (l : List (ℕ × ℕ)). l ++ (c.args.q, get_or c.as_slice-colours.result.now c.loop-i.i 0) ∷ []) c.loop-i.invariant
    ∙ sym (map_more {X = ℕ × ℕ} (λ d. (c.args.q, d)) c.args.pairs.now.items c.as_slice-colours.result.now c.loop-i.i 0 c.loop-i-test.true)

pub returns : goal.returns
returns c =
    c.loop-i.invariant ∙ ap (λ (ds : List ℕ). c.args.pairs.now.items ++ map {B = ℕ × ℕ} (λ d. (c.args.q, d)) ds)
    (take_all c.loop-i.i c.as_slice-colours.result.now c.loop-i-test.false ∙ c.as_slice-colours.ensures ∙ c.in_ok-set.ensures.colours)
