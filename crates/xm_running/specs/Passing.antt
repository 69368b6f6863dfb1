-- A packet leaves a queue's cell and one comes.
use Rattle.std.specs.Prelude.{ℕ, ◌+◌, ◌≤◌, Option, length}
use Rattle.std.specs.Option.{option_to_list}
use Rattle.xm_model.specs.Next.{joined, left}
use Rattle.xm_model.specs.declared.state.Cell.{Cell}
use Rattle.xm_model.specs.declared.state.Cell.TheVariants as cell

-- there is room for the packet that comes
abbrev pub HasRoom : Cell → Option ℕ → Type 0
HasRoom (cell.Packets packets) comes = length packets.items + length (option_to_list comes) ≤ packets.room
HasRoom _ comes = Unit {0}

-- the cell without the oldest packet, if one leaves, and then with the one that comes; another cell as it is
abbrev pub passed : Cell → Option ℕ → Option ℕ → Cell
passed (cell.Packets packets) leaves comes =
    cell.Packets (record packets { items = joined (left packets.items leaves) comes })
passed x leaves comes = x

-- so many packets fit into a queue's cell with no growth
abbrev pub HasPlaces : ℕ → Cell → Type 0
HasPlaces places (cell.Packets packets) = places ≤ packets.room
HasPlaces places _ = Unit {0}
