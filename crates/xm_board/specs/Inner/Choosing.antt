-- The tests by which the next part is chosen.
use Rattle.std.specs.Prelude.{◌≡◌, ◌<◌, ◌≤◌, ℕ, zero, suc, List, [], ◌∷◌, Option, Some, None, Bool, true, false, ◌&&◌, not, nat_lt}
use Rattle.std.specs.Prelude.{if◌then◌else◌, slice_get, slice_index_or}
use Rattle.xm_board.specs.Core.{Core, cycle, is_out}

-- there is a cycle, and it is below y
abbrev pub is_below : ℕ → Option ℕ → Bool
is_below y None = false
is_below y (Some z) = nat_lt z y

-- none of the parts is behind cycle y
abbrev pub none_behind : List ℕ → ℕ → List ℕ → Bool
none_behind cycles y [] = true
none_behind cycles y (q ∷ qs) = if is_below y (slice_get cycles q) then false else none_behind cycles y qs

abbrev pub is_ready : Core → ℕ → Bool
is_ready c p = not (is_out c p)
    && (nat_lt (cycle c p) c.target && none_behind c.cycles (cycle c p) (slice_index_or c.neighbours p []))

-- there is no part so far, or its cycle is later
abbrev pub is_earlier : Core → Option ℕ → ℕ → Bool
is_earlier c None p = true
is_earlier c (Some best) p = nat_lt (cycle c p) (cycle c best)

abbrev pub better_of : Core → Option ℕ → ℕ → Option ℕ
better_of c best p = if is_ready c p && is_earlier c best p then Some p else best

-- the first ready part of the least cycle among those below n
abbrev pub best_below : Core → ℕ → Option ℕ
best_below c zero = None
best_below c (suc p) = better_of c (best_below c p) p

-- the first place of a mark, among marks that are counted from p on
abbrev pub first_mark : ℕ → List Bool → Option ℕ
first_mark p [] = None
first_mark p (mark ∷ marks) = if mark then Some p else first_mark (suc p) marks

-- the least cycle of the parts below n
pub record IsLeastBelow (c : Core) (n t : ℕ) : Type 0 where
  pub part : ℕ
  pub inside : part < n
  pub at : cycle c part ≡ t
  pub least : (q : ℕ) → q < n → t ≤ cycle c q
