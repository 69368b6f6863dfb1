-- The words that the program knows.
use Rattle.std.specs.Prelude.{ℕ, List, [], ◌∷◌, if◌then◌else◌, ◌||◌, Bool, true, false, Option, Some, None, codes, option_and_then, option_map}
use Rattle.std.specs.Prelude.{unwrap_or}
use Rattle.std.specs.Str.{bytes_eq}
use Rattle.xm_commands.specs.declared.command.Command.{Command}
use Rattle.xm_commands.specs.declared.command.Command.TheVariants as command
use Rattle.xm_commands.specs.declared.command.Simulation.{Simulation}
use Rattle.xm_io.specs.declared.words.Words.{Words}
use Rattle.xm_model.specs.Naming.{texts_of}
use Rattle.xm_options.specs.Grammar.{options_in}
use Rattle.xm_options.specs.declared.option.LongOption.{LongOption}
use Rattle.xm_options.specs.declared.option.OptionName.TheVariants.{Budget, Parts, Watch, Workers}

abbrev pub command_named : List ℕ → Option Command
command_named word =
    if bytes_eq word (codes "check") then Some command.Check
    else (if bytes_eq word (codes "run") then Some command.Run
    else (if bytes_eq word (codes "inv") then Some command.Inv
    else (if bytes_eq word (codes "verify") then Some command.Verify else None)))

-- the option of `prove`: the most nodes and pivots of a search, from 1 to 10,000,000
abbrev pub budget_option : LongOption
budget_option = record { name = Budget; low = 1; high = 10000000; wanted = false }

-- the budget by the value of that option; 200,000 where it is not given
abbrev pub budget_of : List (Option ℕ) → ℕ
budget_of (Some budget ∷ rest) = budget
budget_of _ = 200000

-- the search that the words behind `prove` call
abbrev pub prove_in : List (List ℕ) → Option Command
prove_in rest = option_map (λ values. command.Prove (budget_of values)) (options_in (budget_option ∷ []) rest)

-- in how many parts a run is simulated
abbrev pub parts_option : LongOption
parts_option = record { name = Parts; low = 1; high = 64; wanted = true }

-- by how many workers
abbrev pub workers_option : LongOption
workers_option = record { name = Workers; low = 1; high = 64; wanted = true }

-- the options of `sim`: parts and workers, both wanted, and how many snapshots
abbrev pub simulation_options : List LongOption
simulation_options =
    parts_option ∷ workers_option ∷ record { name = Watch; low = 0; high = 10000; wanted = false } ∷ []

-- the simulation by the values of those options; it tells no snapshots where the words give no number
abbrev pub simulation_of : List (Option ℕ) → Option Simulation
simulation_of (Some parts ∷ Some workers ∷ watch ∷ []) =
    Some (record { parts = parts; workers = workers; watch = unwrap_or watch 0 })
simulation_of _ = None

-- the simulation that the words behind `sim` ask for
abbrev pub simulation_in : List (List ℕ) → Option Simulation
simulation_in rest = option_and_then simulation_of (options_in simulation_options rest)

-- the first word is a command, and those behind it are its options, of which only `prove` and `sim` have any
abbrev pub command_in : List (List ℕ) → Option Command
command_in [] = None
command_in (word ∷ rest) =
    if bytes_eq word (codes "prove") then prove_in rest
    else (if bytes_eq word (codes "sim") then option_map command.Simulate (simulation_in rest)
    else option_and_then (λ values. command_named word) (options_in [] rest))

-- the command that the program's words call
abbrev pub command_of : Words → Option Command
command_of words = command_in (texts_of words.words.items)

-- the first word is this one
abbrev pub starts_with : List ℕ → List (List ℕ) → Bool
starts_with name [] = false
starts_with name (word ∷ rest) = bytes_eq word name

abbrev pub is_sim : Words → Bool
is_sim words = starts_with (codes "sim") (texts_of words.words.items)

abbrev pub is_demo : Words → Bool
is_demo words = starts_with (codes "demo") (texts_of words.words.items)

-- what the words ask for starts workers
abbrev pub starts_workers : Words → Bool
starts_workers words = is_sim words || is_demo words
