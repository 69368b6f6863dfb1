use Rattle.std.proofs.Common.{◌≡◌, ◌<◌, ℕ, List, length, get_or, false, map, subst, sym}
use Rattle.xm_lits.specs.Inference.{inference_of}
use Rattle.xm_lits.specs.declared.inference.Rule.{Rule}
use Rattle.xm_lits.specs.declared.literal.Lit.{Lit}
use Rattle.xm_search.proofs.Choices.{fresh_rule, have_next, if_none, some_either, some_more}
use Rattle.xm_search.specs.Inner.Choosing.{IsFresh}
use Rattle.xm_search.specs.Trees.{has_alternative}
use Rattle.xm_search.specs.declared.choosing.Pick.{Pick}
use Rattle.xm_search.proofs.choosing.pick_of.Goals as goal

at_place : (path : List Lit) (rules : List Rule) (k : ℕ) (r : Rule) (p : Pick) → k < length rules → r ≡ get_or rules k r → p.place ≡ k → has_alternative path (inference_of r).alternatives ≡ false →
    IsFresh path (map inference_of rules) p.place
at_place path rules k r p within is place fresh = subst (IsFresh path (map inference_of rules)) (sym place) (fresh_rule path rules k r within is fresh)

pub loop-k-preserved : goal.loop-k-preserved
loop-k-preserved c =
    let path = c.args.path.now in
    let rules = c.args.rules.now in
    let k = c.loop-k.k in
    let r = c.index-rules-k.result in
    let within = c.loop-k-test.true in
    let is = c.index-rules-k.is in
    record {
      none = λ h.
          let both = if_none c.better-best.result c.better-best.ensures.none h in
          have_next path rules k r within is (if_none c.pick_rule.result c.pick_rule.ensures.none both.1) (c.loop-k.invariant.none both.0);
      some = some_either (λ (p : Pick). (p.on ≡ c.args.on.now) × IsFresh path (map inference_of rules) p.place) c.better-best.result c.loop-k.best c.pick_rule.result
          c.better-best.ensures.some c.loop-k.invariant.some
          (some_more (λ (p : Pick). (p.on ≡ c.args.on.now) × (p.place ≡ k) × (has_alternative path (inference_of r).alternatives ≡ false))
          (λ (p : Pick). (p.on ≡ c.args.on.now) × IsFresh path (map inference_of rules) p.place) c.pick_rule.result
          (λ p at. (at.0, at_place path rules k r p within is at.1 at.2)) c.pick_rule.ensures.some);
    }
