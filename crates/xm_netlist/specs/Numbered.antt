-- The net of a draft: names become numbers.
use Rattle.std.specs.Prelude.{ℕ, zero, suc, List, [], ◌∷◌, ◌++◌, Bool, true, false, length, map, replicate, slice_set, ⊤, Option, Some, None, Result}
use Rattle.xm_model.specs.Component.{Component, Fork, Function, Join, Merge, Queue, Sink, Source, Switch}
use Rattle.xm_model.specs.Naming.{Allowed, Naming}
use Rattle.xm_model.specs.Net.{Network, fault_at}
use Rattle.xm_model.specs.declared.fault.WiringFault.{WiringFault}
use Rattle.xm_shape.specs.NamedNet.{AllowEntry, NamedNet, NamedKind, NamedPrimitive, Table, channel_names, fork, function, join, merge, queue, sink, source, switch}
use Rattle.xm_shape.specs.Fault.{Fault, wiring}
use Rattle.xm_json.specs.Holding.{refuse}
use Rattle.xm_shape.specs.Names.{Name, number_in}
use Rattle.xm_netlist.specs.Checks.{name_of}

-- the list in which each item has set its place to its value, one after another
abbrev pub set_each : {A X : Type 0} → (A → ℕ) → (A → X) → List A → List X → List X
set_each place value [] xs = xs
set_each place value (a ∷ rest) xs = set_each place value rest (slice_set xs (place a) (value a))

-- the numbers below n, from 0 on
abbrev pub numbers_below : ℕ → List ℕ
numbers_below zero = []
numbers_below (suc n) = numbers_below n ++ n ∷ []

-- what each colour becomes: itself, but where the map names it
abbrev pub images_of : List Name → Table → List ℕ
images_of colours table =
    set_each (λ (image : Name × Name). number_in colours image.0)
    (λ (image : Name × Name). number_in colours image.1) table (numbers_below (length colours))

-- for each colour, whether it is listed
abbrev pub marks_of : List Name → List Name → List Bool
marks_of colours names = set_each (number_in colours) (λ (name : Name). true) names (replicate (length colours) false)

abbrev pub component_in : List Name → List Name → NamedKind → Component
component_in channels colours (source out ds mode) = Source (number_in channels out) (map (number_in colours) ds) mode
component_in channels colours (sink input mode) = Sink (number_in channels input) mode
component_in channels colours (queue input out capacity initial) =
    Queue (number_in channels input) (number_in channels out) capacity (map (number_in colours) initial)
component_in channels colours (function input out table) =
    Function (number_in channels input) (number_in channels out) (images_of colours table)
component_in channels colours (fork input a b table_a table_b) =
    Fork (number_in channels input) (number_in channels a) (number_in channels b)
    (images_of colours table_a) (images_of colours table_b)
component_in channels colours (join a b out pass) =
    Join (number_in channels a) (number_in channels b) (number_in channels out) pass
component_in channels colours (switch input a b to_a) =
    Switch (number_in channels input) (number_in channels a) (number_in channels b) (marks_of colours to_a)
component_in channels colours (merge a b out) =
    Merge (number_in channels a) (number_in channels b) (number_in channels out)

abbrev pub primitive_numbered : List Name → List Name → NamedPrimitive → Component
primitive_numbered channels colours primitive = component_in channels colours primitive.kind

-- the net that the names make, well wired or not
unfoldable pub net_of : NamedNet → Network
net_of draft = record {
  prims = map (primitive_numbered (channel_names draft.primitives) draft.colours) draft.primitives;
  channels = length (channel_names draft.primitives);
  colours = length draft.colours;
}

-- the names, each by its number
unfoldable pub naming_in : NamedNet → Naming
naming_in draft =
    record { prims = map name_of draft.primitives; channels = channel_names draft.primitives; colours = draft.colours }

-- the places of the marks, from the first on, whose number is given
abbrev pub marked_from : ℕ → List Bool → List ℕ
marked_from d [] = []
marked_from d (true ∷ marks) = d ∷ marked_from (suc d) marks
marked_from d (false ∷ marks) = marked_from (suc d) marks

-- the colours that are listed, in colour order
abbrev pub listed_in : List Name → List Name → List ℕ
listed_in colours names = marked_from 0 (marks_of colours names)

-- the entries of the channels from c on
abbrev pub entries_from : ℕ → List (Option (List ℕ)) → List Allowed
entries_from c [] = []
entries_from c (None ∷ slots) = entries_from (suc c) slots
entries_from c (Some ds ∷ slots) = record { channel = c; colours = ds } ∷ entries_from (suc c) slots

-- for each channel, the colours of its entry, if it has one
abbrev pub slots_of : List Name → List Name → List AllowEntry → List (Option (List ℕ))
slots_of channels colours entries =
    set_each (λ (e : AllowEntry). number_in channels e.channel)
    (λ (e : AllowEntry). Some (listed_in colours e.colours))
    entries (replicate (length channels) None)

-- the entries by channel
unfoldable pub allow_of : NamedNet → List Allowed
allow_of draft = entries_from 0 (slots_of (channel_names draft.primitives) draft.colours draft.allow)

-- the fault of the first channel that is not well wired, of so many from c on
abbrev pub first_of : Option WiringFault → Option WiringFault → Option WiringFault
first_of None rest = rest
first_of (Some fault) rest = Some fault

abbrev pub wiring_from : List Component → ℕ → ℕ → Option WiringFault
wiring_from prims c zero = None
wiring_from prims c (suc n) = first_of (fault_at prims c) (wiring_from prims (suc c) n)

abbrev pub wiring_fault_of : Naming → Option WiringFault → Option Fault
wiring_fault_of names None = None
wiring_fault_of names (Some fault) = Some (wiring fault names)

-- each channel is wired
unfoldable pub check_wiring : Network → Naming → Result ⊤ Fault
check_wiring net names = refuse (wiring_fault_of names (wiring_from net.prims 0 net.channels))
