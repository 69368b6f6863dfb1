use Rattle.std.proofs.Common.{◌≡◌, ◌<◌, get_or, length, subst, sym, true}
use Rattle.std.proofs.lemmas.Option.{slice_get-get_or}
use Rattle.xm_lits.specs.Inference.{rules_of}
use Rattle.xm_lits.specs.Paths.{is_on_path}
use Rattle.xm_lits.specs.declared.literal.Lit.{Lit}
use Rattle.xm_lits.specs.declared.literal.Lit.TheVariants.{Stuck}
use Rattle.xm_search.proofs.Choices.{answered_next, if_none, some_either, some_more}
use Rattle.xm_search.proofs.Looks.{on_at}
use Rattle.xm_search.specs.Inner.Choosing.{IsFresh, IsPick}
use Rattle.xm_search.specs.declared.choosing.Pick.{Pick}
use Rattle.std.proofs.Common.{ℕ, List}
use Rattle.xm_design.specs.Designed.{Designed}
use Rattle.xm_search.proofs.choosing.best_pick.Goals as goal

is_pick : (it : Designed) (path : List Lit) (i : ℕ) → i < length path → (p : Pick) →
    (p.on ≡ get_or path i (Stuck 0)) × IsFresh path (rules_of it (get_or path i (Stuck 0))) p.place → IsPick it path p
is_pick it path i within p at =
    let l = get_or path i (Stuck 0) in
    let here = on_at path i l (slice_get-get_or path i (Stuck 0) within) in
    record {
      here = subst (λ (x : Lit). is_on_path path x ≡ true) (sym at.0) here;
      fresh = subst (λ (x : Lit). IsFresh path (rules_of it x) p.place) (sym at.0) at.1;
    }

pub returns-then-is_forced-clause-some : goal.returns-then-is_forced-clause-some
returns-then-is_forced-clause-some c =
    let it = c.args.design.now in
    let path = c.args.path.now in
    let i = c.loop-on.on-index in
    some_more (λ (p : Pick). (p.on ≡ get_or path i (Stuck 0)) × IsFresh path (rules_of it (get_or path i (Stuck 0))) p.place) (IsPick it path) c.in_ok-found.found
    (is_pick it path i c.loop-on-test.true) c.in_ok-found.ensures.some

pub loop-on-preserved : goal.loop-on-preserved
loop-on-preserved c =
    let it = c.args.design.now in
    let path = c.args.path.now in
    let i = c.loop-on.on-index in
    record {
      none = λ h.
          let both = if_none c.better-best.result c.better-best.ensures.none h in
          answered_next it path i (Stuck 0) c.loop-on-test.true (if_none c.in_ok-found.found c.in_ok-found.ensures.none both.1) (c.loop-on.invariant.none both.0);
      some = some_either (IsPick it path) c.better-best.result c.loop-on.best c.in_ok-found.found c.better-best.ensures.some c.loop-on.invariant.some
          (some_more (λ (p : Pick). (p.on ≡ get_or path i (Stuck 0)) × IsFresh path (rules_of it (get_or path i (Stuck 0))) p.place) (IsPick it path) c.in_ok-found.found
          (is_pick it path i c.loop-on-test.true) c.in_ok-found.ensures.some);
    }
