use Rattle.std.proofs.Common.{◌≡◌, ◌∙◌, Some, ap, slice_get, sym}
use Rattle.std.specs.Prelude.{Option}
use Rattle.xm_board.proofs.Keeping.{lent_at}
use Rattle.xm_board.specs.declared.newest.Newest.{Newest}
use Rattle.xm_board.proofs.taking.take_newest.Goals as goal

pub returns-in-Some-clause-fits : goal.returns-in-Some-clause-fits
returns-in-Some-clause-fits c =
    let at = lent_at c.args.all.now.items c.as_mut_slice.result.now c.args.p c.index-as_mut_slice-p.result c.as_mut_slice.ensures.value c.requires.whole in
    c.requires.fits c.in-Some.it (at ∙ ap (λ (o : Option Newest). Some o) (sym c.take.ensures.value ∙ c.in-Some.is))

pub returns-in-Some-clause-row : goal.returns-in-Some-clause-row
returns-in-Some-clause-row c = λ rows log newest.
    let at = lent_at c.args.all.now.items c.as_mut_slice.result.now c.args.p c.index-as_mut_slice-p.result c.as_mut_slice.ensures.value c.requires.whole in
    newest c.in-Some.it (at ∙ ap (λ (o : Option Newest). Some o) (sym c.take.ensures.value ∙ c.in-Some.is))
