use Rattle.std.proofs.Common.{◌≡◌, ◌<◌, ℕ, List, Some, ap, get_or, length, slice_get, ◌∙◌}
use Rattle.std.proofs.lemmas.List.{drop_all}
use Rattle.std.proofs.lemmas.Option.{slice_get-get_or}
use Rattle.xm_lits.specs.declared.literal.Lit.{Lit}
use Rattle.xm_lits.specs.declared.literal.Lit.TheVariants.{Stuck}
use Rattle.xm_proof.specs.Valid.{Cites}
use Rattle.xm_search.proofs.Choices.{if_none, some_either, some_more}
use Rattle.xm_search.proofs.Citing.{goal_next, none_if, turned_round}
use Rattle.xm_search.proofs.Looks.{on_at}
use Rattle.xm_search.specs.Inner.Looking.{any_goal}
use Rattle.xm_search.proofs.ends.cited.Goals as goal

cites_at : (before path : List Lit) (i : ℕ) → i < length path → (k : ℕ) → slice_get before k ≡ Some (get_or path i (Stuck 0)) → Cites before path k
cites_at before path i within k at =
    let l = get_or path i (Stuck 0) in
    record { goal = l; earlier = at; here = on_at path i l (slice_get-get_or path i (Stuck 0) within) }

pub loop-lit-preserved : goal.loop-lit-preserved
loop-lit-preserved c =
    let before = c.args.before.now in
    let path = c.args.path.now in
    let i = c.loop-lit.lit-index in
    let within = c.loop-lit-test.true in
    record {
      none = λ h.
          let both = if_none c.lesser-least.result c.lesser-least.ensures.none h in
          goal_next before path i (Stuck 0) within (if_none c.place_of.result c.place_of.ensures.none both.1) (c.loop-lit.invariant.none both.0);
      some = some_either (Cites before path) c.lesser-least.result c.loop-lit.least c.place_of.result c.lesser-least.ensures.some c.loop-lit.invariant.some
          (some_more (λ (k : ℕ). slice_get before k ≡ Some (get_or path i (Stuck 0))) (Cites before path) c.place_of.result (cites_at before path i within) c.place_of.ensures.some);
    }

pub returns-clause-none : goal.returns-clause-none
returns-clause-none c =
    let before = c.args.before.now in
    let path = c.args.path.now in
    none_if c.loop-lit.least
    (λ h. turned_round before path (c.loop-lit.invariant.none h ∙ ap (any_goal before) (drop_all c.loop-lit.lit-index path c.loop-lit-test.false)))
