-- Inner (no public clause cites it): what a draft makes, step by step.
use Rattle.std.specs.Prelude.{◌≡◌, map, ⊤, Result, Ok}
use Rattle.xm_model.specs.Naming.{allowed_of, naming_of}
use Rattle.xm_model.specs.Steps.{◌>>=◌}
use Rattle.xm_shape.specs.NamedNet.{NamedNet}
use Rattle.xm_shape.specs.Fault.{Fault}
use Rattle.xm_netlist.specs.Numbered.{allow_of, naming_in, net_of, check_wiring}
use Rattle.xm_netlist.specs.Inner.Placed.{NumbersOf}
use Rattle.xm_netlist.specs.Checks.{check_colours, check_sizes, check_names}
use Rattle.xm_netlist.specs.declared.numbering.Numbers.{Numbers}
use Rattle.xm_netlist.specs.declared.reading.Made.{Made}

-- the tests before that of wiring
abbrev pub later_tests : NamedNet → Result ⊤ Fault
later_tests draft = do
  _ ← check_colours draft
  check_sizes draft

abbrev pub first_tests : NamedNet → Result ⊤ Fault
first_tests draft = do
  _ ← check_names draft
  later_tests draft

abbrev pub last_test : NamedNet → Result ⊤ Fault
last_test draft = check_wiring (net_of draft) (naming_in draft)

abbrev pub all_tests : NamedNet → Result ⊤ Fault
all_tests draft = do
  _ ← first_tests draft
  last_test draft

-- the numbers of a draft that has no fault but perhaps one of wiring
pub record AreSound (draft : NamedNet) (numbers : Numbers) : Type 0 where
  pub placed : NumbersOf draft numbers
  pub coloured : check_colours draft ≡ Ok tt
  pub limited : check_sizes draft ≡ Ok tt

pub record IsMade (draft : NamedNet) (it : Made) : Type 0 where
  pub net : it.net ≡ net_of draft
  pub names : naming_of it.names ≡ naming_in draft
  pub allow : map allowed_of it.allow.items ≡ allow_of draft
