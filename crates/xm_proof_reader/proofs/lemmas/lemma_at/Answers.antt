use Rattle.std.proofs.Common.{to_z-of_z}
use Rattle.xm_proof_reader.proofs.Rows.{in_width}
use Rattle.xm_proof_reader.proofs.lemmas.lemma_at.Goals as goal

pub new-requires : goal.new-requires
new-requires c =
    let fits = c.in_ok-constant.ensures.fits in
    let back = to_z-of_z (in_width c.in_ok-constant.constant fits) in
    rw (c.as_slice.ensures, back) (c.in_ok-entries.ensures.rows c.in_ok-constant.constant fits)
