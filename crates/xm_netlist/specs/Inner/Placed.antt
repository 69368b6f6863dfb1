-- Inner (no public clause cites it): names that become numbers, as the code keeps and writes them.
use Rattle.std.specs.Prelude.{◌≡◌, ℕ, ◌≤◌, List, Bool, length, map, true, Option, Some, option_map}
use Rattle.std.specs.Borrow.{Bor}
use Rattle.xm_model.specs.Component.{Component}
use Rattle.xm_model.specs.Naming.{Allowed, Naming}
use Rattle.xm_model.specs.Limits.{most_channels, most_colours}
use Rattle.xm_shape.specs.NamedNet as plain
use Rattle.xm_shape.specs.NamedNet.{NamedKind, NamedPrimitive, Table, channel_names}
use Rattle.xm_shape.specs.Views.{names_of}
use Rattle.xm_shape.specs.Names.{Name, number_in}
use Rattle.xm_shape.specs.declared.named_net.AllowEntry.{AllowEntry}
use Rattle.xm_netlist.specs.Numbered.{component_in, entries_from, listed_in, set_each, slots_of}
use Rattle.xm_netlist.specs.Checks.{name_of}
use Rattle.xm_netlist.specs.declared.numbering.Numbers.{Numbers}

-- the names in the order of their numbers
abbrev pub naming_from : Numbers → Naming
naming_from numbers = record {
  prims = names_of numbers.prims.keys;
  channels = names_of numbers.channels.keys;
  colours = names_of numbers.colours.keys;
}

-- the images with those that the map names, and the marks with those of the names
abbrev pub with_images : List Name → Table → List ℕ → List ℕ
with_images colours table images =
    set_each (λ (image : Name × Name). number_in colours image.0)
    (λ (image : Name × Name). number_in colours image.1)
    table images

abbrev pub with_marks : List Name → List Name → List Bool → List Bool
with_marks colours names marks = set_each (number_in colours) (λ (name : Name). true) names marks

-- the number of each name fits its type
pub record AreFew (numbers : Numbers) : Type 0 where
  pub channels : length numbers.channels.keys ≤ most_channels
  pub colours : length numbers.colours.keys ≤ most_colours

-- the primitive of a kind, and of a primitive by its names
abbrev pub numbered_component : Numbers → NamedKind → Component
numbered_component numbers kind = component_in (names_of numbers.channels.keys) (names_of numbers.colours.keys) kind

abbrev pub numbered_primitive : Numbers → NamedPrimitive → Component
numbered_primitive numbers primitive = numbered_component numbers primitive.kind

-- the slots of channels, each with the colours of its entry
abbrev pub slot_of : Numbers → Option (Bor AllowEntry) → Option (List ℕ)
slot_of numbers slot =
    option_map (λ (e : Bor AllowEntry). listed_in (names_of numbers.colours.keys) (names_of e.now.colours.items)) slot

abbrev pub plain_slots_of : Numbers → List (Option (Bor AllowEntry)) → List (Option (List ℕ))
plain_slots_of numbers slots = map (slot_of numbers) slots

abbrev pub slots_with : Numbers → List plain.AllowEntry → List (Option (List ℕ)) → List (Option (List ℕ))
slots_with numbers entries slots =
    set_each (λ (e : plain.AllowEntry). number_in (names_of numbers.channels.keys) e.channel)
    (λ (e : plain.AllowEntry). Some (listed_in (names_of numbers.colours.keys) e.colours))
    entries slots

abbrev pub numbered_allow : Numbers → List plain.AllowEntry → List Allowed
numbered_allow numbers entries =
    entries_from 0 (slots_of (names_of numbers.channels.keys) (names_of numbers.colours.keys) entries)

-- the numbers of a draft's names
pub record NumbersOf (draft : plain.NamedNet) (numbers : Numbers) : Type 0 where
  pub prims : names_of numbers.prims.keys ≡ map name_of draft.primitives
  pub channels : names_of numbers.channels.keys ≡ channel_names draft.primitives
  pub colours : names_of numbers.colours.keys ≡ draft.colours
