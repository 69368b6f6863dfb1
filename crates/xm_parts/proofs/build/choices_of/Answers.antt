use Rattle.std.proofs.Common.{◌≡◌, ℕ, List, [], ◌∷◌, ◌++◌, map, take, get_or, ap, sym, ◌∙◌}
use Rattle.std.proofs.lemmas.List.{map-append, take_more}
use Rattle.std.proofs.lemmas.Option.{get_or_from_slice_get, slice_get-get_or}
use Rattle.xm_model.specs.Views.{oracles_below}
use Rattle.xm_parts.proofs.build.choices_of.Goals as goal

pub loop-prim-preserved : goal.loop-prim-preserved
loop-prim-preserved c =
    let prims = c.args.prims.now in let net = c.args.design.now.net in
    let k = c.loop-prim.prim-index in
    let i = get_or prims k 0 in
    let inside = c.requires k i (slice_get-get_or prims k 0 c.loop-prim-test.true) in
    let here : get_or c.oracles-oracles.result.now i 0 ≡ oracles_below net.prims i = get_or_from_slice_get c.oracles-oracles.result.now i (oracles_below net.prims i) 0 (c.oracles-oracles.ensures.at i inside) in
    let pushed = c.read.ensures ∙ here in
    c.in_ok-push.ensures.ok ∙ ap (λ (xs : List ℕ). xs ++ c.read.result ∷ []) c.loop-prim.invariant ∙ ap (λ (x : ℕ). map (oracles_below net.prims) (take k prims) ++ x ∷ []) pushed
    ∙ sym (rw (take_more prims k 0 c.loop-prim-test.true) (map-append (oracles_below net.prims) (take k prims) (i ∷ [])))
