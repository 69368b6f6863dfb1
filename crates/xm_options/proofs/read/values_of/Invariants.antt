use Rattle.std.proofs.Common.{◌≡◌, true, map, take}
use Rattle.std.specs.List.{list_all}
use Rattle.clap.specs.Matches.{found_of, first_value}
use Rattle.xm_options.specs.Grammar.{is_fitting, value_of}
use Rattle.xm_options.proofs.read.values_of.Given as goal

abbrev pub invariant-loop-option : goal.invariant-loop-option
invariant-loop-option l = record {
  fitting : list_all (is_fitting (first_value (found_of l.matches))) (take l.option-index l.options) ≡ true;
  values : l.values.items ≡ map (value_of (first_value (found_of l.matches))) (take l.option-index l.options);
}
