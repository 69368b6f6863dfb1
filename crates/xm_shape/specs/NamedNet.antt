-- A document by its names, before they are numbered.
use Rattle.std.specs.Prelude.{ℕ, List, [], ◌∷◌, map, codes}
use Rattle.std.specs.List.{flat_map}
use Rattle.xm_model.specs.declared.primitive.Side.{Side}
use Rattle.xm_model.specs.declared.primitive.SinkMode.{SinkMode}
use Rattle.xm_model.specs.declared.primitive.SourceMode.{SourceMode}
use Rattle.xm_shape.specs.Names.{Name, first_uses}

-- the members of a map, in byte order: a colour, and the colour that it becomes
abbrev pub Table : Type 0
Table = List (Name × Name)

-- a primitive of a kind; its ports are named by their channels
pub data NamedKind : Type 0 where
  source : (out : Name) (colours : List Name) (mode : SourceMode) → NamedKind
  sink : (input : Name) (mode : SinkMode) → NamedKind
  queue : (input out : Name) (capacity : ℕ) (initial : List Name) → NamedKind
  function : (input out : Name) (table : Table) → NamedKind
  fork : (input a b : Name) (table_a table_b : Table) → NamedKind
  join : (a b out : Name) (pass : Side) → NamedKind
  switch : (input a b : Name) (to_a : List Name) → NamedKind
  merge : (a b out : Name) → NamedKind

pub record NamedPrimitive : Type 0 where
  pub name : Name
  pub kind : NamedKind

-- a channel with the only colours that it may have
pub record AllowEntry : Type 0 where
  pub channel : Name
  pub colours : List Name

-- the entries of `allow` stand in byte order of their channels
pub record NamedNet : Type 0 where
  pub colours : List Name
  pub primitives : List NamedPrimitive
  pub allow : List AllowEntry

-- a port: the member that names it, and its channel
abbrev pub Port : Type 0
Port = List ℕ × Name

-- the ports of a primitive, in the order of the table of kinds
abbrev pub ports_of : NamedKind → List Port
ports_of (source out colours mode) = (codes "out", out) ∷ []
ports_of (sink input mode) = (codes "in", input) ∷ []
ports_of (queue input out capacity initial) = (codes "in", input) ∷ (codes "out", out) ∷ []
ports_of (function input out table) = (codes "in", input) ∷ (codes "out", out) ∷ []
ports_of (fork input a b table_a table_b) = (codes "in", input) ∷ (codes "a", a) ∷ (codes "b", b) ∷ []
ports_of (join a b out pass) = (codes "a", a) ∷ (codes "b", b) ∷ (codes "out", out) ∷ []
ports_of (switch input a b to_a) = (codes "in", input) ∷ (codes "a", a) ∷ (codes "b", b) ∷ []
ports_of (merge a b out) = (codes "a", a) ∷ (codes "b", b) ∷ (codes "out", out) ∷ []

abbrev pub channels_of : NamedPrimitive → List Name
channels_of primitive = map (λ (port : Port). port.1) (ports_of primitive.kind)

-- channels are numbered in the order of their first uses, over primitives and then ports
abbrev pub channel_names : List NamedPrimitive → List Name
channel_names primitives = first_uses [] (flat_map channels_of primitives)
