-- The core of a board: which parts there are, how far each is, which are out.
use Rattle.std.specs.Prelude.{◌≡◌, ◌⊎◌, ℕ, suc, ◌+◌, ◌<◌, ◌≤◌, List, [], Bool, true, false, nat_eq, length}
use Rattle.std.specs.Prelude.{replicate, slice_index_or, slice_set}
use Rattle.std.specs.List.{list_any}

-- so many parts, with the neighbours of each; each part's cycle, whether it is out with a worker, whether the board
-- was stopped, the first cycle of its round and the target
pub record Core : Type 0 where
  pub count : ℕ
  pub neighbours : List (List ℕ)
  pub cycles : List ℕ
  pub out : List Bool
  pub stopped : Bool
  pub first : ℕ
  pub target : ℕ

abbrev pub cycle : Core → ℕ → ℕ
cycle c p = slice_index_or c.cycles p 0

abbrev pub is_out : Core → ℕ → Bool
is_out c p = slice_index_or c.out p false

-- q is a neighbour of p
abbrev pub is_near : Core → ℕ → ℕ → Bool
is_near c p q = list_any (nat_eq q) (slice_index_or c.neighbours p [])

-- there are at most 64 parts, and for each its neighbours, its cycle, and whether it is out
pub record IsWhole (c : Core) : Type 0 where
  pub few : c.count ≤ 64
  pub neighbours : length c.neighbours ≡ c.count
  pub cycles : length c.cycles ≡ c.count
  pub out : length c.out ≡ c.count

-- no part is past the target, neighbours are at most one cycle apart, and a part that is out is below the target and
-- not before a neighbour
pub record IsCore (c : Core) : Type 0 where
  pub whole : IsWhole c
  pub both_ways : (p q : ℕ) → is_near c p q ≡ true → is_near c q p ≡ true
  pub below : (p : ℕ) → p < c.count → cycle c p ≤ c.target
  pub close : (p q : ℕ) → p < c.count → q < c.count → is_near c p q ≡ true → cycle c p ≤ suc (cycle c q)
  pub out_early : (p : ℕ) → p < c.count → is_out c p ≡ true → cycle c p < c.target
  pub out_last : (p q : ℕ) → p < c.count → q < c.count → is_out c p ≡ true → is_near c p q ≡ true
      → cycle c p ≤ cycle c q
  pub round : c.target < c.first + 1024

-- part p may be handed out
pub record IsReady (c : Core) (p : ℕ) : Type 0 where
  pub part : p < c.count
  pub inside : is_out c p ≡ false
  pub early : cycle c p < c.target
  pub last : (q : ℕ) → q < c.count → is_near c p q ≡ true → cycle c p ≤ cycle c q

-- the ready part with the least cycle, and then the least number
pub record IsNext (c : Core) (p : ℕ) : Type 0 where
  pub ready : IsReady c p
  pub least : (q : ℕ) → IsReady c q → (cycle c p < cycle c q) ⊎ ((cycle c p ≡ cycle c q) × (p ≤ q))

-- the part that is out with the least number
pub record IsLeastOut (c : Core) (p : ℕ) : Type 0 where
  pub part : p < c.count
  pub out : is_out c p ≡ true
  pub least : (q : ℕ) → q < c.count → is_out c q ≡ true → p ≤ q

-- no part may be handed out
abbrev pub NoneReady : Core → Type 0
NoneReady c = (p : ℕ) → IsReady c p → ⊥

abbrev pub AllDone : Core → Type 0
AllDone c = (p : ℕ) → p < c.count → cycle c p ≡ c.target

-- the least cycle of all parts
pub record IsFloor (c : Core) (t : ℕ) : Type 0 where
  pub part : ℕ
  pub is_part : part < c.count
  pub at : cycle c part ≡ t
  pub least : (q : ℕ) → q < c.count → t ≤ cycle c q

-- a list of each part's neighbours, each of which is the other's
abbrev pub IsMutual : List (List ℕ) → Type 0
IsMutual neighbours = (p q : ℕ) → list_any (nat_eq q) (slice_index_or neighbours p []) ≡ true
    → list_any (nat_eq p) (slice_index_or neighbours q []) ≡ true

-- at the start every part is at cycle 0, and none is out
abbrev pub started : List (List ℕ) → ℕ → Core
started neighbours target = record {
  count = length neighbours;
  neighbours = neighbours;
  cycles = replicate (length neighbours) 0;
  out = replicate (length neighbours) false;
  stopped = false;
  first = 0;
  target = target;
}

abbrev pub taken : Core → ℕ → Core
taken c p = record c { out = slice_set c.out p true }

abbrev pub posted : Core → ℕ → Core
posted c p = record c { cycles = slice_set c.cycles p (suc (cycle c p)); out = slice_set c.out p false }

abbrev pub given_back : Core → ℕ → Core
given_back c p = record c { out = slice_set c.out p false }

abbrev pub recalled : Core → Core
recalled c = record c { out = replicate c.count false }

abbrev pub stopped : Core → Core
stopped c = record c { stopped = true }

-- the round after, up to a new target
abbrev pub rounded : Core → ℕ → Core
rounded c target = record c { first = suc c.target; target = target }
