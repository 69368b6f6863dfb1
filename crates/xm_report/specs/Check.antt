-- The text of a check: the sizes of a design, and the colours of each channel.
use Rattle.std.specs.Prelude.{ℕ, zero, suc, Bool, true, false, List, [], ◌++◌, length, codes, decimal}
use Rattle.std.specs.List.{flat_map}
use Rattle.xm_colours.specs.Family.{colours_at}
use Rattle.xm_colours.specs.Pairs.{pairs}
use Rattle.xm_design.specs.Designed.{Designed}
use Rattle.xm_model.specs.TextLines.{line, name_at}
use Rattle.xm_model.specs.Views.{oracles_below}
use Rattle.xm_model.specs.Naming.{Naming}

-- a word and a number
abbrev pub count_line : List ℕ → ℕ → List ℕ
count_line word n = line (word ++ codes " " ++ decimal n)

abbrev pub colour_text : Naming → ℕ → List ℕ
colour_text names d = codes " " ++ name_at names.colours d

-- the same, where the test holds
abbrev pub colour_if : Naming → Bool → ℕ → List ℕ
colour_if names true d = colour_text names d
colour_if names false d = []

-- the channel's name and those of its colours
abbrev pub channel_line : Naming → (ℕ → List ℕ) → ℕ → List ℕ
channel_line names colours c = line (name_at names.channels c ++ flat_map (colour_text names) (colours c))

-- of the first channels
abbrev pub channel_lines : Naming → (ℕ → List ℕ) → ℕ → List ℕ
channel_lines names colours zero = []
channel_lines names colours (suc c) = channel_lines names colours c ++ channel_line names colours c

-- how many sources and sinks there are
abbrev pub oracles_in : Designed → ℕ
oracles_in it = oracles_below it.net.prims (length it.net.prims)

abbrev pub check_text : Naming → Designed → List ℕ
check_text names it =
    count_line (codes "primitives") (length it.net.prims) ++ count_line (codes "channels") it.net.channels
    ++ count_line (codes "oracles") (oracles_in it)
    ++ count_line (codes "pairs") (length (pairs (colours_at it.colours) it.net.channels))
    ++ channel_lines names (colours_at it.colours) it.net.channels ++ line (codes "end")
