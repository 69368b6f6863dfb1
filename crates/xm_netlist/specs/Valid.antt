-- When a document can be written and is read again.
use Rattle.std.specs.Prelude.{◌≡◌, ℕ, suc, ◌<◌, ◌≤◌, List, [], ◌∷◌, ◌++◌, Bool, true, not, ◌&&◌, if◌then◌else◌, IfSome, nat_eq}
use Rattle.std.specs.List.{flat_map, list_all, list_any}
use Rattle.serde_json.specs.Data.{Data, depth}
use Rattle.xm_model.specs.Component.{Component, Fork, Function, Join, Merge, Queue, Sink, Source, Switch}
use Rattle.xm_model.specs.Naming.{Allowed, IsNamed}
use Rattle.xm_model.specs.Net.{HasPrim, IsNet, Network, inputs, outputs}
use Rattle.xm_shape.specs.Names.{Name, is_among, is_colour_name, is_name}
use Rattle.xm_json.specs.WholeNumbers.{has_whole}
use Rattle.xm_netlist.specs.Doc.{Doc}
use Rattle.xm_netlist.specs.Numbered.{numbers_below}

-- no two names are the same
abbrev pub are_distinct : List Name → Bool
are_distinct [] = true
are_distinct (n ∷ ns) = not (is_among ns n) && are_distinct ns

-- the names have this form, and differ
pub record AreNames (is_formed : Name → Bool) (names : List Name) : Type 0 where
  pub formed : list_all is_formed names ≡ true
  pub distinct : are_distinct names ≡ true

-- the numbers in the order of their first uses, after those that were seen
abbrev pub first_numbers : List ℕ → List ℕ → List ℕ
first_numbers seen [] = seen
first_numbers seen (n ∷ ns) = first_numbers (if list_any (nat_eq n) seen then seen else seen ++ n ∷ []) ns

-- the ports in the order of the table of kinds: the inputs, and then the outputs
abbrev pub channel_uses : Component → List ℕ
channel_uses m = inputs m ++ outputs m

-- channels are numbered in the order of their first uses
abbrev pub IsNumbered : Network → Type 0
IsNumbered net = first_numbers [] (flat_map channel_uses net.prims) ≡ numbers_below net.channels

abbrev pub differ : List ℕ → Bool
differ [] = true
differ (n ∷ ns) = not (list_any (nat_eq n) ns) && differ ns

-- no source has a colour twice
abbrev pub DiffersIn : Component → Type 0
DiffersIn (Source out colours mode) = differ colours ≡ true
DiffersIn (Sink input mode) = Unit {0}
DiffersIn (Queue input out capacity initial) = Unit {0}
DiffersIn (Function input out table) = Unit {0}
DiffersIn (Fork input a b table_a table_b) = Unit {0}
DiffersIn (Join a b out pass) = Unit {0}
DiffersIn (Switch input a b to_a) = Unit {0}
DiffersIn (Merge a b out) = Unit {0}

-- each is greater than the one before, and all are from the first number on and below the second
abbrev pub RisesWithin : ℕ → ℕ → List ℕ → Type 0
RisesWithin low high [] = Unit {0}
RisesWithin low high (x ∷ xs) = (low ≤ x) × (x < high) × RisesWithin (suc x) high xs

-- the entries rise by channel, and each has colours that rise
abbrev pub AllowsWithin : Network → ℕ → List Allowed → Type 0
AllowsWithin net low [] = Unit {0}
AllowsWithin net low (e ∷ es) =
    (low ≤ e.channel) × (e.channel < net.channels) × RisesWithin 0 net.colours e.colours
    × AllowsWithin net (suc e.channel) es

-- it can stand within a document: not too deep, and with whole numbers
pub record IsPart (d : Data) : Type 0 where
  pub shallow : depth d ≤ 126
  pub whole : has_whole d ≡ true

pub record IsValid (doc : Doc) : Type 0 where
  pub net : IsNet doc.net
  pub named : IsNamed doc.net doc.names
  pub prims : AreNames is_name doc.names.prims
  pub channels : AreNames is_name doc.names.channels
  pub colours : AreNames is_colour_name doc.names.colours
  pub numbered : IsNumbered doc.net
  pub sources : (p : ℕ) (m : Component) → HasPrim doc.net p m → DiffersIn m
  pub allow : AllowsWithin doc.net 0 doc.allow
  pub tape : IfSome doc.tape IsPart
  pub proof : IfSome doc.proof IsPart
