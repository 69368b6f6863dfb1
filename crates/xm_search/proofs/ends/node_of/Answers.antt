use Rattle.std.proofs.Common.{get_or, subst}
use Rattle.std.proofs.lemmas.Option.{slice_get-get_or, slice_get_within}
use Rattle.xm_lits.specs.Paths.{IsClashOn}
use Rattle.xm_lits.specs.declared.conflict.Clash.{Clash}
use Rattle.xm_lits.specs.declared.conflict.Clash.TheVariants as conflict
use Rattle.xm_lits.specs.declared.literal.Lit.TheVariants.{Stuck}
use Rattle.xm_search.proofs.Looks.{opposed_within, outside_ends, pair_ends}
use Rattle.xm_search.proofs.ends.node_of.Goals as goal

pub returns-in-Pair : goal.returns-in-Pair
returns-in-Pair c = λ it lemmas before is.
    let path = c.args.path.now in
    let i = c.in-Pair.i in
    let j = c.in-Pair.j in
    let at : IsClashOn it path (conflict.Pair i j) = subst (λ (x : Clash). IsClashOn it path x) c.in-Pair.is is in
    pair_ends it lemmas before path i j (get_or path i (Stuck 0)) (get_or path j (Stuck 0)) (slice_get-get_or path i (Stuck 0) (slice_get_within path i at.lit at.there))
    (slice_get-get_or path j (Stuck 0) (opposed_within path j at.lit at.met)) at

pub returns-in-Outside : goal.returns-in-Outside
returns-in-Outside c = λ it lemmas before is.
    let path = c.args.path.now in
    let i = c.in-Outside.i in
    let at : IsClashOn it path (conflict.Outside i) = subst (λ (x : Clash). IsClashOn it path x) c.in-Outside.is is in
    outside_ends it lemmas before path i (get_or path i (Stuck 0)) (slice_get-get_or path i (Stuck 0) (slice_get_within path i at.lit at.there)) at
