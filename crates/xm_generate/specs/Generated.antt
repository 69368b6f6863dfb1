-- The document of a line of stations: a size and a seed give it.
use Rattle.std.specs.Prelude.{ℕ, zero, suc, ◌+◌, ◌*◌, ◌-◌, ◌%◌, List, [], ◌∷◌, ◌++◌, Bool, map, nat_eq, Some, None, codes, decimal}
use Rattle.serde_json.specs.Data.{Data, member, no_members, number, object, unsigned}
use Rattle.xm_model.specs.Component.{Component, Merge, Queue, Sink, Source, Switch}
use Rattle.xm_model.specs.Naming.{Naming}
use Rattle.xm_model.specs.Net.{Network}
use Rattle.xm_model.specs.declared.primitive.SinkMode.TheVariants as sink_mode
use Rattle.xm_model.specs.declared.primitive.SourceMode.TheVariants as source_mode
use Rattle.xm_netlist.specs.Doc.{Doc}
use Rattle.xm_netlist.specs.Numbered.{numbers_below}
use Rattle.xm_shape.specs.Names.{Name}
use Rattle.xm_tape.specs.Draws.{draw, number_after}

-- ---- draws, each of the number that follows

-- the number so many draws later
unfoldable pub later : ℕ → ℕ → ℕ
later n x = number_after n x

-- a source's two colours: one of eight, and one of the seven others
unfoldable pub first_colour : ℕ → ℕ
first_colour x = draw (later 1 x) 8

unfoldable pub second_colour : ℕ → ℕ
second_colour x = (first_colour x + 1 + draw (later 2 x) 7) % 8

-- a capacity of 1 to 4
unfoldable pub capacity : ℕ → ℕ
capacity x = 1 + draw (later 1 x) 4

-- ---- primitives

abbrev pub source : ℕ → ℕ → Component
source x out = Source out (first_colour x ∷ second_colour x ∷ []) source_mode.Keep

abbrev pub queue : ℕ → ℕ → ℕ → Component
queue x input out = Queue input out (capacity x) []

abbrev pub sink : ℕ → Component
sink input = Sink input sink_mode.Keep

-- of eight colours the one with this number
abbrev pub only : ℕ → List Bool
only d = map (nat_eq d) (numbers_below 8)

-- station i, which channel c enters and channel c + 6 leaves, with draws after the number x
abbrev pub station : ℕ → ℕ → ℕ → List Component
station i c x =
    Switch c (c + 1) (c + 2) (only (i % 8)) ∷ sink (c + 1) ∷ source x (c + 3)
    ∷ queue (later 2 x) (c + 3) (c + 4) ∷ Merge (c + 2) (c + 4) (c + 5) ∷ queue (later 3 x) (c + 5) (c + 6) ∷ []

-- so many stations from station i on, and the sink of the last
abbrev pub stations : ℕ → ℕ → ℕ → ℕ → List Component
stations zero i c x = sink c ∷ []
stations (suc n) i c x = station i c x ++ stations n (suc i) (c + 6) (later 4 x)

abbrev pub prims : ℕ → ℕ → List Component
prims size seed = source seed 0 ∷ queue (later 2 seed) 0 1 ∷ stations (size - 2) 1 1 (later 3 seed)

-- ---- names: a letter and the station's number

abbrev pub labels : List ℕ → ℕ → List Name
labels letters i = map (λ letter. letter ∷ decimal i) letters

-- those of so many stations from station i on, and of the last
abbrev pub labels_from : List ℕ → List ℕ → ℕ → ℕ → List Name
labels_from letters last zero i = labels last i
labels_from letters last (suc n) i = labels letters i ++ labels_from letters last n (suc i)

abbrev pub names : ℕ → Naming
names size = record {
  prims = labels (codes "ST") 0 ++ labels_from (codes "XKSIMT") (codes "K") (size - 2) 1;
  channels = labels (codes "st") 0 ++ labels_from (codes "ehsjmt") [] (size - 2) 1;
  colours = labels_from (codes "d") [] 8 0;
}

-- ---- the document

abbrev pub net : ℕ → ℕ → Network
net size seed = record { prims = prims size seed; channels = 6 * size - 10; colours = 8 }

abbrev pub tape : ℕ → Data
tape seed =
    object (member (codes "cycles") (number (unsigned 1000))
    (member (codes "seed") (number (unsigned seed)) no_members))

unfoldable pub generated : ℕ → ℕ → Doc
generated size seed =
    record { net = net size seed; names = names size; allow = []; tape = Some (tape seed); proof = None }
