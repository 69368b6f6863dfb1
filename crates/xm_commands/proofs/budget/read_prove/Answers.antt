use Rattle.std.proofs.Common.{◌∙◌, [], ◌∷◌, ℕ, ap, subst, sym}
use Rattle.std.specs.Prelude.{IfSome, Option}
use Rattle.xm_commands.proofs.Budgets.{budget_within}
use Rattle.xm_commands.specs.Inner.Plain.{IsPlain}
use Rattle.xm_commands.specs.Words.{budget_of}
use Rattle.xm_commands.specs.declared.command.Command.TheVariants as command
use Rattle.xm_model.specs.ListView.{ListView}
use Rattle.xm_options.specs.Grammar.{AreWithin}
use Rattle.xm_options.specs.declared.option.LongOption.{LongOption}
use Rattle.xm_commands.proofs.budget.read_prove.Goals as goal

pub returns-in-Some-clause-within : goal.returns-in-Some-clause-within
returns-in-Some-clause-within c =
    let values = c.in-Some.values.items in
    let found = subst (λ (o : Option (ListView (Option ℕ))). IfSome o (λ v. AreWithin (c.budget_option.result ∷ []) v.items)) c.in-Some.is c.in_ok-values.ensures.within in
    let within = subst (λ (b : LongOption). AreWithin (b ∷ []) values) c.budget_option.ensures found in
    subst (λ (n : ℕ). IsPlain (command.Prove n)) (sym (c.budget_in.ensures ∙ ap budget_of c.as_slice.ensures)) (budget_within values within)
