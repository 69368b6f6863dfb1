-- The allowed colours of a draft rise by channel, and those of each entry by colour.
use Rattle.std.proofs.Common.{◌≡◌, ℕ, suc, ◌+◌, ◌≤◌, Bool, true, false, List, [], ◌∷◌, length, replicate, Option, Some, None, ◌∙◌, arith}
use Rattle.std.specs.Prelude.{IfSome}
use Rattle.std.specs.List.{All}
use Rattle.std.proofs.lemmas.List.{length-replicate}
use Rattle.std.proofs.lemmas.List.Elements.{All-cons, All-head, All-nil, All-replicate, All-tail}
use Rattle.xm_model.specs.Net.{Network}
use Rattle.xm_shape.specs.NamedNet.{AllowEntry, NamedNet, channel_names}
use Rattle.xm_shape.specs.Names.{Name, number_in}
use Rattle.xm_netlist.specs.Lemmas.Lengths.{length-marks_of, length-set_each}
use Rattle.xm_netlist.specs.Numbered.{allow_of, entries_from, listed_in, marked_from, marks_of, net_of, slots_of}
use Rattle.xm_netlist.specs.Valid.{AllowsWithin, RisesWithin}
use Rattle.xm_netlist.proofs.Limited.{All-set_each}

marked_rise : (low d high : ℕ) (marks : List Bool) → low ≤ d → d + length marks ≤ high → RisesWithin low high (marked_from d marks)
marked_rise low d high [] le most = tt
marked_rise low d high (true ∷ marks) le most = (le, omega arith, marked_rise (suc d) (suc d) high marks (omega arith) (omega arith))
marked_rise low d high (false ∷ marks) le most = marked_rise low (suc d) high marks (omega arith) (omega arith)

listed_rise : (colours names : List Name) → RisesWithin 0 (length colours) (listed_in colours names)
listed_rise colours names = marked_rise 0 0 (length colours) (marks_of colours names) (omega arith) (omega (arith, length-marks_of colours names))

entries_rise : (net : Network) (low c : ℕ) (slots : List (Option (List ℕ))) → All (λ (slot : Option (List ℕ)). IfSome slot (RisesWithin 0 net.colours)) slots → low ≤ c → c + length slots ≤ net.channels
    → AllowsWithin net low (entries_from c slots)
entries_rise net low c [] rise le most = tt
entries_rise net low c (None ∷ slots) rise le most =
    entries_rise net low (suc c) slots (All-tail (λ (slot : Option (List ℕ)). IfSome slot (RisesWithin 0 net.colours)) None slots rise) (omega arith) (omega arith)
entries_rise net low c (Some ds ∷ slots) rise le most = (
  le,
  omega arith,
  All-head (λ (slot : Option (List ℕ)). IfSome slot (RisesWithin 0 net.colours)) (Some ds) slots rise,
  entries_rise net (suc c) (suc c) slots (All-tail (λ (slot : Option (List ℕ)). IfSome slot (RisesWithin 0 net.colours)) (Some ds) slots rise) (omega arith) (omega arith),
)

listed_all : (colours : List Name) (entries : List AllowEntry) → All (λ (e : AllowEntry). RisesWithin 0 (length colours) (listed_in colours e.colours)) entries
listed_all colours [] = All-nil (λ (e : AllowEntry). RisesWithin 0 (length colours) (listed_in colours e.colours))
listed_all colours (e ∷ entries) =
    All-cons (λ (e : AllowEntry). RisesWithin 0 (length colours) (listed_in colours e.colours)) e entries (listed_rise colours e.colours) (listed_all colours entries)

pub allow_rises : (draft : NamedNet) → AllowsWithin (net_of draft) 0 (allow_of draft)
unfolding net_of allow_of
allow_rises draft =
    let channels = channel_names draft.primitives in
    let blank : List (Option (List ℕ)) = replicate (length channels) None in
    let place : AllowEntry → ℕ = λ e. number_in channels e.channel in
    let value : AllowEntry → Option (List ℕ) = λ e. Some (listed_in draft.colours e.colours) in
    let good : Option (List ℕ) → Type 0 = λ slot. IfSome slot (RisesWithin 0 (length draft.colours)) in
    let long : length (slots_of channels draft.colours draft.allow) ≡ length channels = length-set_each place value draft.allow blank ∙ length-replicate (length channels) None in
    entries_rise (net_of draft) 0 0 (slots_of channels draft.colours draft.allow)
    (All-set_each place value good draft.allow blank (listed_all draft.colours draft.allow) (All-replicate good (length channels) None tt))
    (omega arith) (omega (arith, long))
