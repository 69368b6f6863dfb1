-- The simulation or the demonstration that the words ask for: its numbers are within their ranges, and it is the call that
-- the words make.
use Rattle.std.proofs.Common.{◌≡◌, ◌≤◌, ℕ, true, false, List, [], ◌∷◌, ◌-◌, length, take, drop, Result, Ok, Err, ap, ◌∙◌, arith, refl, subst, sym}
use Rattle.std.proofs.lemmas.List.{take_all}
use Rattle.std.proofs.lemmas.Slice.Eq.{bytes_eq-Decides}
use Rattle.std.specs.Prelude.{IfOk, Option, Some, None, codes, option_map}
use Rattle.std.specs.Str.{bytes_eq}
use Rattle.xm_commands.specs.Calls.{call_in, demonstration_in}
use Rattle.xm_commands.specs.Inner.Simulating.{IsShared}
use Rattle.xm_commands.specs.Words.{simulation_in, simulation_of, simulation_options, starts_with}
use Rattle.xm_commands.specs.declared.call.Call.TheVariants as call
use Rattle.xm_commands.specs.declared.call.Demonstration.{Demonstration}
use Rattle.xm_commands.specs.declared.command.Command.TheVariants as command
use Rattle.xm_commands.specs.declared.command.Simulation.{Simulation}
use Rattle.xm_model.specs.ListView.{ListView}
use Rattle.xm_model.specs.Naming.{texts_of}
use Rattle.xm_options.specs.Grammar.{AreWithin}
use Rattle.xm_options.specs.declared.option.OptionName.TheVariants.{Parts, Watch, Workers}

-- and it tells no more snapshots than it may
abbrev pub IsAsked : Simulation → Type 0
IsAsked it = IsShared it × (it.watch ≤ 10000)

module _ (parts workers : ℕ) (watch : Option ℕ) (within : AreWithin simulation_options (Some parts ∷ Some workers ∷ watch ∷ [])) where
  parts_within : (1 ≤ parts) × (parts ≤ 64)
  parts_within = within 0 (record { name = Parts; low = 1; high = 64; wanted = true }) parts refl refl

  workers_within : (1 ≤ workers) × (workers ≤ 64)
  workers_within = within 1 (record { name = Workers; low = 1; high = 64; wanted = true }) workers refl refl

  watch_within : (number : ℕ) → watch ≡ Some number → number ≤ 10000
  watch_within number is = (within 2 (record { name = Watch; low = 0; high = 10000; wanted = false }) number refl (ap Some is)).1

pub asked_within : (values : List (Option ℕ)) (it : Simulation) → AreWithin simulation_options values → simulation_of values ≡ Some it → IsAsked it
asked_within (Some parts ∷ Some workers ∷ None ∷ []) it within is =
    let asked : Simulation = record { parts = parts; workers = workers; watch = 0 } in
    let same : asked ≡ it = cc in
    let p = parts_within parts workers None within in
    subst IsAsked same ((p.0, p.1, (workers_within parts workers None within).1), omega arith)
asked_within (Some parts ∷ Some workers ∷ Some watch ∷ []) it within is =
    let asked : Simulation = record { parts = parts; workers = workers; watch = watch } in
    let same : asked ≡ it = cc in
    let p = parts_within parts workers (Some watch) within in
    subst IsAsked same ((p.0, p.1, (workers_within parts workers (Some watch) within).1), watch_within parts workers (Some watch) within watch refl)
asked_within _ it within is = cc

twice : {A B C : Type 0} (f : B → C) (g : A → B) (o : Option A) → option_map f (option_map g o) ≡ option_map (λ x. f (g x)) o
twice f g None = refl
twice f g (Some x) = refl

-- words of which the first is `sim` call a simulation, or nothing
pub sim_called : (word : List ℕ) (rest : List (List ℕ)) → bytes_eq word (codes "sim") ≡ true → call_in (word ∷ rest) ≡ option_map (λ it. call.Obey (command.Simulate it)) (simulation_in rest)
sim_called word rest same =
    let is : word ≡ codes "sim" = (bytes_eq-Decides word (codes "sim")).0 same in
    subst (λ (w : List ℕ). call_in (w ∷ rest) ≡ option_map (λ it. call.Obey (command.Simulate it)) (simulation_in rest)) (sym is) (twice call.Obey command.Simulate (simulation_in rest))

-- what is read of such words is the call that they make
pub simulation_read : {E : Type 0} (r : Result (Option Simulation) E) (words : List (ListView ℕ)) → starts_with (codes "sim") (texts_of words) ≡ true → IfOk r (λ it. it ≡ simulation_in (texts_of (take (length words - 1) (drop 1 words))))
    → IfOk r (λ it. option_map (λ it. call.Obey (command.Simulate it)) it ≡ call_in (texts_of words))
simulation_read (Err e) words same read = tt
simulation_read (Ok it) [] same read = absurd cc
simulation_read (Ok it) (word ∷ rest) same read =
    let all : take (length (word ∷ rest) - 1) rest ≡ rest = take_all (length (word ∷ rest) - 1) rest (omega arith) in
    let is : it ≡ simulation_in (texts_of rest) = subst (λ (xs : List (ListView ℕ)). it ≡ simulation_in (texts_of xs)) all read in
    ap (option_map (λ it. call.Obey (command.Simulate it))) is ∙ sym (sim_called word.items (texts_of rest) same)

-- words of which the first is `demo` call a demonstration, or nothing
pub demo_called : (word : List ℕ) (rest : List (List ℕ)) → bytes_eq word (codes "demo") ≡ true → call_in (word ∷ rest) ≡ option_map call.Demonstrate (demonstration_in rest)
demo_called word rest same =
    let is : word ≡ codes "demo" = (bytes_eq-Decides word (codes "demo")).0 same in
    subst (λ (w : List ℕ). call_in (w ∷ rest) ≡ option_map call.Demonstrate (demonstration_in rest)) (sym is) refl

pub demonstration_read : {E : Type 0} (r : Result (Option Demonstration) E) (words : List (ListView ℕ)) → starts_with (codes "demo") (texts_of words) ≡ true
    → IfOk r (λ it. it ≡ demonstration_in (texts_of (take (length words - 1) (drop 1 words)))) → IfOk r (λ it. option_map call.Demonstrate it ≡ call_in (texts_of words))
demonstration_read (Err e) words same read = tt
demonstration_read (Ok it) [] same read = absurd cc
demonstration_read (Ok it) (word ∷ rest) same read =
    let all : take (length (word ∷ rest) - 1) rest ≡ rest = take_all (length (word ∷ rest) - 1) rest (omega arith) in
    let is : it ≡ demonstration_in (texts_of rest) = subst (λ (xs : List (ListView ℕ)). it ≡ demonstration_in (texts_of xs)) all read in
    ap (option_map call.Demonstrate) is ∙ sym (demo_called word.items (texts_of rest) same)
