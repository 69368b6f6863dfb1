use Rattle.std.proofs.Common.{◌∙◌}
use Rattle.xm_io.specs.Lemmas.Fronts.{appends_same, front_same, on_err_goes, on_ok_goes}
use Rattle.xm_commands.proofs.simulating.write_snapshot.Goals as goal

pub returns-in-Ok-clause-whole : goal.returns-in-Ok-clause-whole
returns-in-Ok-clause-whole g c = λ s holds. on_ok_goes c.write_bytes.result (λ h. appends_same _ _ _ _ (c.as_bytes.ensures ∙ c.in-Ok.ensures s holds) h) c.write_bytes.ensures.whole

pub returns-in-Ok-clause-front : goal.returns-in-Ok-clause-front
returns-in-Ok-clause-front g c = λ s holds. on_err_goes c.write_bytes.result (λ h. front_same _ _ _ _ (c.as_bytes.ensures ∙ c.in-Ok.ensures s holds) h) c.write_bytes.ensures.front
