use Rattle.std.proofs.Common.{ℕ, length, inr, ap, subst, ◌∙◌}
use Rattle.xm_search.proofs.Looks.{sum_ends}
use Rattle.xm_search.specs.Constraints.{constraints}
use Rattle.xm_search.specs.Inner.Fitting.{FitsAnswer}
use Rattle.xm_search.specs.Inner.Ground.{lemmas_of}
use Rattle.xm_search.specs.Inner.Taken.{ClosesBy, IsDone, Says}
use Rattle.xm_search.proofs.look.look_at_point.Goals as goal

pub returns-in-Sum : goal.returns-in-Sum
returns-in-Sum c = λ before undecided answered.
    let it = c.args.design.now in
    let lemmas = lemmas_of c.args.ground.now in
    let path = c.args.path.now in
    let shared = c.requires.shared in
    let closes = subst (ClosesBy it lemmas path) c.in-Sum.is (c.in_ok-items.ensures.closes lemmas shared) in
    let fits = subst FitsAnswer c.in-Sum.is c.in_ok-items.ensures.fits in
    let says = subst (Says (constraints it lemmas path) (length c.as_slice.result.now) c.args.left) c.in-Sum.is (c.in_ok-items.ensures.says lemmas shared) in
    let done = subst (λ (n : ℕ). IsDone (constraints it lemmas path) n c.args.left c.in-Sum.pivots) (ap length (c.as_slice.ensures ∙ c.requires.pairs)) says in
    (sum_ends it lemmas before path c.in-Sum.items.items closes fits, inr (done.tableau, (done.after, done.last)), done.within)
