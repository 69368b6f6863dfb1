-- Cells and wires of a row, put where they belong one after another.
use Rattle.std.proofs.Common.{◌≡◌, ◌≢◌, ℕ, zero, suc, ◌+◌, ◌<◌, List, [], ◌∷◌, length, map, set, refl, ap, sym, ◌∙◌, subst, inl, inr, arith, Some, slice_get}
use Rattle.std.proofs.lemmas.Bool.{cases_lt}
use Rattle.std.proofs.lemmas.Bool.Decides.{eqb_tells}
use Rattle.std.proofs.lemmas.Grind.{get_or-set_at}
use Rattle.std.proofs.lemmas.List.{get_or-set_other, length-set}
use Rattle.xm_model.specs.Component.{Component, Content, Queue, Source, Sink, Function, Fork, Join, Switch, Merge, content_of}
use Rattle.xm_model.specs.Next.{FitsContent}
use Rattle.xm_model.specs.Signals.{Signals}
use Rattle.xm_model.specs.declared.state.Cell.{Cell}
use Rattle.xm_model.specs.declared.state.Cell.TheVariants as cell
use Rattle.xm_model.specs.declared.state.Wire.{Wire}
use Rattle.xm_parts.specs.Gluing.{CanHold, ShowsCells}
use Rattle.xm_parts.specs.Projection.{wire_of}
use Rattle.xm_parts.specs.declared.row.PrimCell.{PrimCell}
use Rattle.xm_step.specs.Roomy.{IsRoomy, IsRoomyCell}

pub map_set_same : {X Y : Type 0} (f : X → Y) (xs : List X) (i : ℕ) (x : X) → i < length xs → slice_get (map f (set xs i x)) i ≡ Some (f x)
map_set_same f [] i x h = absurd (omega arith)
map_set_same f (y ∷ xs) zero x h = refl
map_set_same f (y ∷ xs) (suc i) x h = map_set_same f xs i x (omega arith)

pub map_set_other : {X Y : Type 0} (f : X → Y) (xs : List X) (i j : ℕ) (x : X) → j ≢ i → slice_get (map f (set xs i x)) j ≡ slice_get (map f xs) j
map_set_other f [] i j x h = refl
map_set_other f (y ∷ xs) zero zero x h = absurd (h refl)
map_set_other f (y ∷ xs) zero (suc j) x h = refl
map_set_other f (y ∷ xs) (suc i) zero x h = refl
map_set_other f (y ∷ xs) (suc i) (suc j) x h = map_set_other f xs i j x (λ e. h (ap suc e))

-- what holds at each place that had it, and at the place that is set, if the new value has it
pub kept_set : {X Y : Type 0} (f : X → Y) (s : ℕ → Y) (xs : List X) (i : ℕ) (x : X) → i < length xs → f x ≡ s i → (j : ℕ) → slice_get (map f xs) j ≡ Some (s j) → slice_get (map f (set xs i x)) j ≡ Some (s j)
kept_set {X} {Y} f s xs i x below is j was =
    elim (eqb_tells j i) [
      | inl t ↦ subst (λ (k : ℕ). slice_get (map f (set xs i x)) k ≡ Some (s k)) (sym t.1) (map_set_same f xs i x below ∙ ap Some is)
      | inr t ↦ map_set_other f xs i j x t.1 ∙ was
    ]

pub get_set_same : {X : Type 0} (xs : List X) (i : ℕ) (x : X) → i < length xs → slice_get (set xs i x) i ≡ Some x
get_set_same [] i x h = absurd (omega arith)
get_set_same (y ∷ xs) zero x h = refl
get_set_same (y ∷ xs) (suc i) x h = get_set_same xs i x (omega arith)

pub get_set_other : {X : Type 0} (xs : List X) (i j : ℕ) (x : X) → j ≢ i → slice_get (set xs i x) j ≡ slice_get xs j
get_set_other [] i j x h = refl
get_set_other (y ∷ xs) zero zero x h = absurd (h refl)
get_set_other (y ∷ xs) zero (suc j) x h = refl
get_set_other (y ∷ xs) (suc i) zero x h = refl
get_set_other (y ∷ xs) (suc i) (suc j) x h = get_set_other xs i j x (λ e. h (ap suc e))

pub kept_wire : (φ : Signals) (xs : List Wire) (i : ℕ) (x : Wire) → i < length xs → x ≡ wire_of φ i → (j : ℕ) → slice_get xs j ≡ Some (wire_of φ j) → slice_get (set xs i x) j ≡ Some (wire_of φ j)
kept_wire φ xs i x below is j was =
    elim (eqb_tells j i) [
      | inl t ↦ subst (λ (k : ℕ). slice_get (set xs i x) k ≡ Some (wire_of φ k)) (sym t.1) (get_set_same xs i x below ∙ ap Some is)
      | inr t ↦ get_set_other xs i j x t.1 ∙ was
    ]

-- a cell of a queue that fits can be put into a roomy one
can_queue : (n input out k : ℕ) (ps : List ℕ) (from to : Cell) → FitsContent n (Queue input out k ps) (content_of from) → IsRoomyCell (Queue input out k ps) to → CanHold from to
can_queue n input out k ps (cell.Packets q) (cell.Packets r) f h = let a = f.0 in let b = h.1 in omega arith
can_queue n input out k ps (cell.Packets q) (cell.Pending d) f h = absurd h
can_queue n input out k ps (cell.Packets q) (cell.Held b) f h = absurd h
can_queue n input out k ps (cell.Packets q) (cell.Pref s) f h = absurd h
can_queue n input out k ps (cell.Packets q) cell.Nothing f h = absurd h
can_queue n input out k ps (cell.Pending d) to f h = tt
can_queue n input out k ps (cell.Held b) to f h = tt
can_queue n input out k ps (cell.Pref s) to f h = tt
can_queue n input out k ps cell.Nothing to f h = tt

pub can_hold : (n : ℕ) (m : Component) (from to : Cell) → FitsContent n m (content_of from) → IsRoomyCell m to → CanHold from to
can_hold n (Queue input out k ps) from to f h = can_queue n input out k ps from to f h
can_hold n (Source out cs mode) (cell.Packets q) to f h = absurd f
can_hold n (Source out cs mode) (cell.Pending d) to f h = tt
can_hold n (Source out cs mode) (cell.Held b) to f h = tt
can_hold n (Source out cs mode) (cell.Pref s) to f h = tt
can_hold n (Source out cs mode) cell.Nothing to f h = tt
can_hold n (Sink input mode) (cell.Packets q) to f h = absurd f
can_hold n (Sink input mode) (cell.Pending d) to f h = tt
can_hold n (Sink input mode) (cell.Held b) to f h = tt
can_hold n (Sink input mode) (cell.Pref s) to f h = tt
can_hold n (Sink input mode) cell.Nothing to f h = tt
can_hold n (Function input out t) (cell.Packets q) to f h = absurd f
can_hold n (Function input out t) (cell.Pending d) to f h = tt
can_hold n (Function input out t) (cell.Held b) to f h = tt
can_hold n (Function input out t) (cell.Pref s) to f h = tt
can_hold n (Function input out t) cell.Nothing to f h = tt
can_hold n (Fork input a b ta tb) (cell.Packets q) to f h = absurd f
can_hold n (Fork input a b ta tb) (cell.Pending d) to f h = tt
can_hold n (Fork input a b ta tb) (cell.Held b') to f h = tt
can_hold n (Fork input a b ta tb) (cell.Pref s) to f h = tt
can_hold n (Fork input a b ta tb) cell.Nothing to f h = tt
can_hold n (Join a b out pass) (cell.Packets q) to f h = absurd f
can_hold n (Join a b out pass) (cell.Pending d) to f h = tt
can_hold n (Join a b out pass) (cell.Held b') to f h = tt
can_hold n (Join a b out pass) (cell.Pref s) to f h = tt
can_hold n (Join a b out pass) cell.Nothing to f h = tt
can_hold n (Switch input a b t) (cell.Packets q) to f h = absurd f
can_hold n (Switch input a b t) (cell.Pending d) to f h = tt
can_hold n (Switch input a b t) (cell.Held b') to f h = tt
can_hold n (Switch input a b t) (cell.Pref s) to f h = tt
can_hold n (Switch input a b t) cell.Nothing to f h = tt
can_hold n (Merge a b out) (cell.Packets q) to f h = absurd f
can_hold n (Merge a b out) (cell.Pending d) to f h = tt
can_hold n (Merge a b out) (cell.Held b') to f h = tt
can_hold n (Merge a b out) (cell.Pref s) to f h = tt
can_hold n (Merge a b out) cell.Nothing to f h = tt

-- one cell more
module _ (prims : List Component) (to : List Cell) (row : List PrimCell) (k : ℕ) (y : PrimCell) (new : Cell) (at : slice_get row k ≡ Some y) (below : y.prim < length to) (same : content_of new ≡ content_of y.cell) where
  pub roomy_set : IsRoomy prims to → ((m : Component) → slice_get prims y.prim ≡ Some m → IsRoomyCell m new) → IsRoomy prims (set to y.prim new)
  roomy_set is here = record {
    whole = length-set to y.prim new ∙ is.whole;
    roomy = λ p m has.
        elim (eqb_tells p y.prim) [
          | inl t ↦ subst (λ (x : Cell). IsRoomyCell m x) (sym (get_or-set_at to y.prim p new cell.Nothing t.1 below)) (here m (ap (slice_get prims) (sym t.1) ∙ has))
          | inr t ↦ subst (λ (x : Cell). IsRoomyCell m x) (sym (get_or-set_other to y.prim p new cell.Nothing t.1)) (is.roomy p m has)
        ];
  }

  pub kept_more : (s : ℕ → Content) (i : ℕ) → ShowsCells row s → slice_get (map content_of to) i ≡ Some (s i) → slice_get (map content_of (set to y.prim new)) i ≡ Some (s i)
  kept_more s i shows was = kept_set content_of s to y.prim new below (same ∙ shows k y at) i was

  pub put_more : (s : ℕ → Content) (j : ℕ) (x : PrimCell) → ShowsCells row s → j < k + 1 → slice_get row j ≡ Some x →
      ((j : ℕ) (x : PrimCell) → j < k → slice_get row j ≡ Some x → slice_get (map content_of to) x.prim ≡ Some (s x.prim)) → slice_get (map content_of (set to y.prim new)) x.prim ≡ Some (s x.prim)
  put_more s j x shows h there before =
      elim (cases_lt j k) [
        | inl less ↦ kept_more s x.prim shows (before j x less there)
        | inr not_less ↦
            let here : j ≡ k = omega arith in
            let one : y ≡ x = cc (at, there, ap (slice_get row) here) in
            subst (λ (z : PrimCell). slice_get (map content_of (set to y.prim new)) z.prim ≡ Some (s z.prim)) one (map_set_same content_of to y.prim new below ∙ ap Some (same ∙ shows k y at))
      ]
