use Rattle.std.proofs.Common.{◌≡◌, ◌++◌, drop}
use Rattle.xm_json.specs.Lent.{lent_texts}
use Rattle.xm_shape.specs.Views.{names_of}
use Rattle.xm_shape.proofs.members.names_from.Given as goal

abbrev pub invariant-loop-text : goal.invariant-loop-text
invariant-loop-text l = names_of l.names.items ++ lent_texts (drop l.text-index l.texts) ≡ lent_texts l.texts
