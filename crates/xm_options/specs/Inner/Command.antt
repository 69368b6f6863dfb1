-- The command that clap is given for a list of options.
use Rattle.std.specs.Prelude.{ℕ, List, [], Some, true, codes, map}
use Rattle.clap.specs.Simple.{App, new_rule, new_shape}
use Rattle.clap.specs.Walk.{Rule}
use Rattle.clap.specs.declared.builder.action.ArgAction.TheVariants.{Set}
use Rattle.xm_options.specs.declared.option.LongOption.{LongOption}
use Rattle.xm_options.specs.Names.{name_of}

abbrev pub rule_for : List ℕ → Rule
rule_for name = record (new_rule name) { long = Some name; action = Some Set }

abbrev pub command_with : List LongOption → App
command_with options = record {
  top = record (new_shape (codes "options")) {
    rules = map (λ (option : LongOption). rule_for (name_of option.name)) options;
    no_binary_name = true;
    disable_help_flag = true;
    disable_version_flag = true;
  };
  subs = [];
}
