-- The calls that the words make.
use Rattle.std.specs.Prelude.{ℕ, Bool, true, false, List, [], ◌∷◌, if◌then◌else◌, Option, Some, None}
use Rattle.std.specs.Prelude.{codes, option_and_then, option_map}
use Rattle.std.specs.Str.{bytes_eq}
use Rattle.xm_commands.specs.Words.{command_in, parts_option, workers_option}
use Rattle.xm_commands.specs.declared.call.Call.{Call}
use Rattle.xm_commands.specs.declared.call.Call.TheVariants as call
use Rattle.xm_commands.specs.declared.call.Demonstration.{Demonstration}
use Rattle.xm_io.specs.declared.words.Words.{Words}
use Rattle.xm_model.specs.Naming.{texts_of}
use Rattle.xm_options.specs.Grammar.{options_in}
use Rattle.xm_options.specs.declared.option.LongOption.{LongOption}
use Rattle.xm_options.specs.declared.option.OptionName.TheVariants as option

-- how many stations a line has
abbrev pub size_option : LongOption
size_option = record { name = option.Size; low = 2; high = 600; wanted = true }

-- what its draws begin with
abbrev pub seed_option : LongOption
seed_option = record { name = option.Seed; low = 0; high = 18446744073709551615; wanted = true }

-- the options of `gen`, both wanted
abbrev pub generate_options : List LongOption
generate_options = size_option ∷ seed_option ∷ []

-- the call that their values make
abbrev pub generate_with : List (Option ℕ) → Option Call
generate_with (Some size ∷ Some seed ∷ []) = Some (call.Generate size seed)
generate_with _ = None

-- the options of `demo`, all wanted
abbrev pub demonstration_options : List LongOption
demonstration_options = size_option ∷ seed_option ∷ parts_option ∷ workers_option ∷ []

-- the demonstration by their values
abbrev pub demonstration_of : List (Option ℕ) → Option Demonstration
demonstration_of (Some size ∷ Some seed ∷ Some parts ∷ Some workers ∷ []) =
    Some (record { size = size; seed = seed; parts = parts; workers = workers })
demonstration_of _ = None

-- the demonstration that the words behind `demo` ask for
abbrev pub demonstration_in : List (List ℕ) → Option Demonstration
demonstration_in rest = option_and_then demonstration_of (options_in demonstration_options rest)

-- the first word is `gen` or `demo`, and those behind it are its options; or the words call a command for a document
abbrev pub call_in : List (List ℕ) → Option Call
call_in [] = None
call_in (word ∷ rest) = if bytes_eq word (codes "gen")
    then option_and_then generate_with (options_in generate_options rest)
    else (if bytes_eq word (codes "demo") then option_map call.Demonstrate (demonstration_in rest)
    else option_map call.Obey (command_in (word ∷ rest)))

-- the call that the program's words make
abbrev pub call_of : Words → Option Call
call_of words = call_in (texts_of words.words.items)

-- a command reads a document, and nothing else does
abbrev pub reads_document : Option Call → Bool
reads_document (Some (call.Obey command)) = true
reads_document _ = false
