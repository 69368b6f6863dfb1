-- What a reader of proofs knows: the net, its names, and its queue pairs.
use Rattle.std.specs.Prelude.{ℕ, suc, List, [], ◌∷◌, Option, Some, None, ◌&&◌, nat_lt, nat_eq, if◌then◌else◌, slice_get}
use Rattle.std.specs.Str.{bytes_eq}
use Rattle.xm_design.specs.Designed.{Designed}
use Rattle.xm_model.specs.Naming.{Naming}
use Rattle.xm_model.specs.Net.{Network}
use Rattle.xm_proof.specs.Tests.{is_queue, queue_columns}

pub record Known : Type 0 where
  pub net : Network
  pub names : Naming
  pub pairs : List (ℕ × ℕ)

-- of a design whose primitives, channels and colours have these names
abbrev pub known_by : Designed → Naming → Known
known_by it names = record { net = it.net; names = names; pairs = queue_columns it }

-- the first place of a name among names that are counted from i on
abbrev pub place_from : ℕ → List (List ℕ) → List ℕ → Option ℕ
place_from i [] name = None
place_from i (n ∷ ns) name = if bytes_eq n name then Some i else place_from (suc i) ns name

-- the number, where it is below the limit
abbrev pub only_below : ℕ → Option ℕ → Option ℕ
only_below limit None = None
only_below limit (Some n) = if nat_lt n limit then Some n else None

abbrev pub channel_named : Known → List ℕ → Option ℕ
channel_named known name = only_below known.net.channels (place_from 0 known.names.channels name)

abbrev pub colour_named : Known → List ℕ → Option ℕ
colour_named known name = only_below known.net.colours (place_from 0 known.names.colours name)

-- the number, where it is that of a queue
abbrev pub only_queue : Network → Option ℕ → Option ℕ
only_queue net None = None
only_queue net (Some q) = if is_queue (slice_get net.prims q) then Some q else None

abbrev pub queue_named : Known → List ℕ → Option ℕ
queue_named known name = only_queue known.net (place_from 0 known.names.prims name)

-- the first place of a pair among pairs that are counted from j on
abbrev pub pair_from : ℕ → List (ℕ × ℕ) → ℕ → ℕ → Option ℕ
pair_from j [] q d = None
pair_from j (pair ∷ pairs) q d = if nat_eq pair.0 q && nat_eq pair.1 d then Some j else pair_from (suc j) pairs q d
