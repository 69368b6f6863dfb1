-- The names of a document that was written are numbered as they were.
use Rattle.std.proofs.Common.{◌≡◌, ℕ, suc, ◌+◌, ◌<◌, true, List, [], ◌∷◌, ◌++◌, length, map, drop, refl, sym, ap, ap₂, ◌∙◌, arith, drop-cons}
use Rattle.std.specs.Prelude.{sum_by}
use Rattle.std.specs.List.{All, flat_map}
use Rattle.std.proofs.lemmas.List.{drop_all, map-append}
use Rattle.std.proofs.lemmas.List.Elements.{All-append, All-cons, All-head, All-nil, All-tail}
use Rattle.std.proofs.lemmas.List.Sums.{sum_by-cons}
use Rattle.xm_model.specs.TextLines.{name_at}
use Rattle.xm_model.specs.Component.{Component, Fork, Function, Join, Merge, Queue, Sink, Source, Switch}
use Rattle.xm_model.specs.Naming.{Naming}
use Rattle.xm_model.specs.Net.{FitsComponent, capacity_of}
use Rattle.xm_shape.specs.NamedNet.{NamedPrimitive, channel_names, channels_of}
use Rattle.xm_shape.specs.Names.{Name, first_uses, number_in}
use Rattle.xm_netlist.specs.Numbered.{component_in, numbers_below, primitive_numbered}
use Rattle.xm_netlist.specs.Checks.{capacity_in, name_of}
use Rattle.xm_netlist.specs.Valid.{DiffersIn, are_distinct, channel_uses, first_numbers}
use Rattle.xm_writer.proofs.AgainMaps.{images_again}
use Rattle.xm_writer.proofs.AgainMarks.{marks_again}
use Rattle.xm_writer.proofs.AgainNames.{all_names, first_uses-map, number_again}
use Rattle.xm_writer.proofs.AgainParts.{kind_read, named_by, primitive_read}

-- the primitives from number p on, by their names
abbrev pub primitives_read : Naming → ℕ → List Component → List NamedPrimitive
primitives_read names p [] = []
primitives_read names p (m ∷ ms) = primitive_read names (name_at names.prims p) m ∷ primitives_read names (suc p) ms

-- the component's numbers are those of names
pub record Fits (names : Naming) (m : Component) : Type 0 where
  pub ports : All (λ c. c < length names.channels) (channel_uses m)
  pub fits : FitsComponent (length names.colours) m
  pub differs : DiffersIn m

pub numbers_again : (names : List Name) (is : List ℕ) → are_distinct names ≡ true → All (λ i. i < length names) is → map (number_in names) (named_by names is) ≡ is
numbers_again names [] d all = refl
numbers_again names (i ∷ is) d all =
    ap₂ (λ (x : ℕ) (xs : List ℕ). x ∷ xs) (number_again names i d (All-head (λ c. c < length names) i is all)) (numbers_again names is d (All-tail (λ c. c < length names) i is all))

module _ (names : Naming) (channels : are_distinct names.channels ≡ true) (colours : are_distinct names.colours ≡ true) where
  channel : (c : ℕ) → c < length names.channels → number_in names.channels (name_at names.channels c) ≡ c
  channel c lt = number_again names.channels c channels lt

  pub component_again : (m : Component) → Fits names m → component_in names.channels names.colours (kind_read names m) ≡ m
  component_again (Source out ds mode) f = rw (channel out (f.ports 0 0 (omega arith)), numbers_again names.colours ds colours f.fits.2) refl
  component_again (Sink input mode) f = rw (channel input (f.ports 0 0 (omega arith))) refl
  component_again (Queue input out capacity initial) f =
      rw (channel input (f.ports 0 0 (omega arith)), channel out (f.ports 1 0 (omega arith)), numbers_again names.colours initial colours f.fits.3) refl
  component_again (Function input out table) f =
      rw (channel input (f.ports 0 0 (omega arith)), channel out (f.ports 1 0 (omega arith)), images_again names.colours colours table f.fits.0 f.fits.1) refl
  component_again (Fork input a b ta tb) f =
      rw (channel input (f.ports 0 0 (omega arith)), channel a (f.ports 1 0 (omega arith)), channel b (f.ports 2 0 (omega arith)), images_again names.colours colours ta f.fits.0.0 f.fits.0.1, images_again names.colours colours tb f.fits.1.0 f.fits.1.1) refl
  component_again (Join a b out pass) f =
      rw (channel a (f.ports 0 0 (omega arith)), channel b (f.ports 1 0 (omega arith)), channel out (f.ports 2 0 (omega arith))) refl
  component_again (Switch input a b to_a) f =
      rw (channel input (f.ports 0 0 (omega arith)), channel a (f.ports 1 0 (omega arith)), channel b (f.ports 2 0 (omega arith)), marks_again names.colours colours to_a f.fits) refl
  component_again (Merge a b out) f =
      rw (channel a (f.ports 0 0 (omega arith)), channel b (f.ports 1 0 (omega arith)), channel out (f.ports 2 0 (omega arith))) refl

  pub components_again : (p : ℕ) (ms : List Component) → All (Fits names) ms → map (primitive_numbered names.channels names.colours) (primitives_read names p ms) ≡ ms
  components_again p [] all = refl
  components_again p (m ∷ ms) all =
      ap₂ (λ (x : Component) (xs : List Component). x ∷ xs) (component_again m (All-head (Fits names) m ms all)) (components_again (suc p) ms (All-tail (Fits names) m ms all))

-- ---- channels, primitives and capacities

uses_of : (names : Naming) (name : Name) (m : Component) → channels_of (primitive_read names name m) ≡ named_by names.channels (channel_uses m)
uses_of names name (Source out colours mode) = refl
uses_of names name _ = refl

uses_again : (names : Naming) (p : ℕ) (ms : List Component) → flat_map channels_of (primitives_read names p ms) ≡ named_by names.channels (flat_map channel_uses ms)
uses_again names p [] = refl
uses_again names p (m ∷ ms) =
    ap₂ (λ (xs ys : List Name). xs ++ ys) (uses_of names (name_at names.prims p) m) (uses_again names (suc p) ms) ∙ sym (map-append (name_at names.channels) (channel_uses m) (flat_map channel_uses ms))

uses_fit : (names : Naming) (ms : List Component) → All (Fits names) ms → All (λ c. c < length names.channels) (flat_map channel_uses ms)
uses_fit names [] all = All-nil (λ c. c < length names.channels)
uses_fit names (m ∷ ms) all =
    All-append (λ c. c < length names.channels) (channel_uses m) (flat_map channel_uses ms) ((All-head (Fits names) m ms all).ports) (uses_fit names ms (All-tail (Fits names) m ms all))

pub channels_again : (names : Naming) (ms : List Component) → are_distinct names.channels ≡ true → All (Fits names) ms → first_numbers [] (flat_map channel_uses ms) ≡ numbers_below (length names.channels) → channel_names (primitives_read names 0 ms) ≡ names.channels
channels_again names ms d all numbered =
    ap (first_uses []) (uses_again names 0 ms) ∙ first_uses-map names.channels d [] (flat_map channel_uses ms) (All-nil (λ c. c < length names.channels)) (uses_fit names ms all)
    ∙ ap (named_by names.channels) numbered ∙ all_names names.channels

names_from : (names : Naming) (p : ℕ) (ms : List Component) → length names.prims ≡ p + length ms → map name_of (primitives_read names p ms) ≡ drop p names.prims
names_from names p [] long = sym (drop_all p names.prims (omega arith))
names_from names p (m ∷ ms) long = ap (λ (l : List Name). name_at names.prims p ∷ l) (names_from names (suc p) ms (omega arith)) ∙ sym (drop-cons names.prims p [] (omega arith))

pub prims_again : (names : Naming) (ms : List Component) → length names.prims ≡ length ms → map name_of (primitives_read names 0 ms) ≡ names.prims
prims_again names ms long = names_from names 0 ms (omega arith)

pub length-primitives_read : (names : Naming) (p : ℕ) (ms : List Component) → length (primitives_read names p ms) ≡ length ms
length-primitives_read names p [] = refl
length-primitives_read names p (m ∷ ms) = ap suc (length-primitives_read names (suc p) ms)

-- what holds of each primitive holds of each primitive that is read
pub each_part : (names : Naming) (P : NamedPrimitive → Type 0) (Q : Component → Type 0) → ((name : Name) (m : Component) → Q m → P (primitive_read names name m)) → (p : ℕ) (ms : List Component) → All Q ms → All P (primitives_read names p ms)
each_part names P Q one p [] all = All-nil P
each_part names P Q one p (m ∷ ms) all = All-cons P (primitive_read names (name_at names.prims p) m) (primitives_read names (suc p) ms) (one (name_at names.prims p) m (All-head Q m ms all)) (each_part names P Q one (suc p) ms (All-tail Q m ms all))

capacity_again : (names : Naming) (name : Name) (m : Component) → capacity_in (primitive_read names name m) ≡ capacity_of m
capacity_again names name (Source out colours mode) = refl
capacity_again names name _ = refl

pub capacities_again : (names : Naming) (p : ℕ) (ms : List Component) → sum_by capacity_in (primitives_read names p ms) ≡ sum_by capacity_of ms
capacities_again names p [] = refl
capacities_again names p (m ∷ ms) =
    sum_by-cons capacity_in (primitive_read names (name_at names.prims p) m) (primitives_read names (suc p) ms) ∙ ap₂ (λ (a b : ℕ). a + b) (capacity_again names (name_at names.prims p) m) (capacities_again names (suc p) ms) ∙ sym (sum_by-cons capacity_of m ms)
