-- The names of options as texts.
use Rattle.std.specs.Prelude.{ℕ, List, codes}
use Rattle.xm_options.specs.declared.option.OptionName.{OptionName}
use Rattle.xm_options.specs.declared.option.OptionName.TheVariants.{Budget, Parts, Seed, Size, Watch, Workers}

abbrev pub name_of : OptionName → List ℕ
name_of Budget = codes "budget"
name_of Parts = codes "parts"
name_of Seed = codes "seed"
name_of Size = codes "size"
name_of Watch = codes "watch"
name_of Workers = codes "workers"
