use Rattle.std.proofs.Common.{List, ap, ◌∙◌, ℤ}
use Rattle.xm_check.proofs.Touching.{zero_is}
use Rattle.xm_check.specs.Inner.Touched.{zero_at}
use Rattle.xm_proof.specs.Sums.{Sums, all_zero}
use Rattle.xm_check.proofs.sums.Sums.is_zero.Goals as goal

pub returns : goal.returns
returns c =
    c.are_zero.ensures ∙ ap (λ (cs : List ℤ). zero_at cs c.as_slice-2.result.now) c.as_slice.ensures ∙ ap (zero_at c.self.inside.columns.items) c.as_slice-2.ensures
    ∙ zero_is c.self.inside.touched.items c.self.inside.columns.items c.self.invariant
    ∙ ap (λ (s : Sums). all_zero s.columns) c.self.view_is
