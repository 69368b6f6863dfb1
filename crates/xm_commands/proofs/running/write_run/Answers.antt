use Rattle.std.proofs.Common.{◌∙◌, ap, subst, sym}
use Rattle.xm_commands.proofs.Rounds.{many_labels}
use Rattle.xm_commands.proofs.running.write_run.Goals as goal
use Rattle.xm_commands.specs.Inner.RunSoFar.{IsBegun}
use Rattle.xm_design.specs.Designed.{Designed}
use Rattle.xm_model.specs.Naming.{naming_of}
use Rattle.xm_trace.specs.Text.{IsTextOfRun}

pub write_rounds-requires-clause-underway : goal.write_rounds-requires-clause-underway
write_rounds-requires-clause-underway g c =
    subst (λ (design : Designed). IsBegun design c.args.tape.now (record { running = c.in_ok-running_of.field-0; text = c.in_ok-new.field-0; labels = c.in_ok-new-2.field-0; lines = c.new-4.result }))
    (sym c.in_ok-evaluator.ensures)
    (record {
      here = record {
        channels = c.in_ok-new.ensures.channels;
        had = λ s φ run. c.in_ok-new.ensures.had φ;
        cells = λ s φ run p. c.in_ok-running_of.ensures.cells p ∙ c.in_ok-state.ensures.state.same p ∙ sym (run.start p) ∙ ap (λ i. s i p) (sym c.in_ok-new.ensures.none);
        roomy = c.in_ok-running_of.ensures.roomy;
      };
      colours = c.in_ok-new.ensures.colours;
      labels = many_labels c.args.names.now c.in_ok-new-2.field-0 c.in_ok-new-2.ensures ∙ c.requires.channels;
    })

pub returns-clause-whole : goal.returns-clause-whole
returns-clause-whole g c text is =
    c.write_rounds.ensures.whole text (subst (λ (design : Designed). IsTextOfRun design.net (naming_of c.args.names.now) c.args.tape.now text) (sym c.in_ok-evaluator.ensures) is)

pub returns-clause-front : goal.returns-clause-front
returns-clause-front g c text is =
    c.write_rounds.ensures.front text (subst (λ (design : Designed). IsTextOfRun design.net (naming_of c.args.names.now) c.args.tape.now text) (sym c.in_ok-evaluator.ensures) is)
