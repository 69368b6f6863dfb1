use Rattle.std.proofs.Common.{◌≡◌, Option, Some, length, refl, map, slice_get, ap, ◌∙◌}
use Rattle.std.proofs.lemmas.Option.{slice_get-map, slice_get_read}
use Rattle.std.specs.Prelude.{option_map}
use Rattle.xm_model.specs.Steps.{demand}
use Rattle.xm_flow.specs.ValidLemma.{Lemma, lemma_of}
use Rattle.xm_proof.specs.Valid.{lemma_row}
use Rattle.xm_proof.specs.declared.verdict.Reason.TheVariants as reason
use Rattle.xm_check.proofs.items.lemma_at.Goals as goal

pub returns-in-Some-clause-row : goal.returns-in-Some-clause-row
returns-in-Some-clause-row c =
    let found : slice_get c.args.lemmas.now c.args.k ≡ Some c.in-Some.lemma.now = slice_get_read c.args.lemmas.now (length c.args.lemmas.now) c.args.k c.in-Some.lemma.now refl c.in-Some.ensures.lookup.3.0 c.in-Some.ensures.lookup.1 in
    let there : slice_get (map lemma_of c.args.lemmas.now) c.args.k ≡ Some (lemma_of c.in-Some.lemma.now) = slice_get-map lemma_of c.args.lemmas.now c.args.k ∙ ap (option_map lemma_of) found in
    ap (λ (o : Option Lemma). demand (lemma_row o) reason.Absent) there
