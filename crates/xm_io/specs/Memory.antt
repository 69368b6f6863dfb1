-- What each call does to a source and a sink in memory.
use Rattle.std.specs.Prelude.{ℕ, ◌==◌, ◌-◌, ◌++◌, nat_le, Bool, ◌||◌, ◌&&◌, not, min, List, length, take, drop}
use Rattle.std.specs.List.{list_any}
use Rattle.xm_io.specs.Faults.{raised}

-- a source in memory: what is left, the most that a call gives, the calls that fail, counted from 0,
-- and how many calls and faults there were
pub record Supply : Type 0 where
  pub left : List ℕ
  pub piece : ℕ
  pub fails : List ℕ
  pub calls : ℕ
  pub faults : ℕ

-- a sink in memory: what it holds, how much it may hold in all, the most that a call takes, the calls
-- that fail, counted from 0, and how many calls and faults there were
pub record Store : Type 0 where
  pub held : List ℕ
  pub room : ℕ
  pub piece : ℕ
  pub fails : List ℕ
  pub calls : ℕ
  pub faults : ℕ

-- whether this call is listed
abbrev pub is_listed : List ℕ → ℕ → Bool
is_listed fails call = list_any (λ k. k == call) fails

-- whether the source's next call fails
abbrev pub next_read_fails : Supply → Bool
next_read_fails s = is_listed s.fails s.calls

-- the source after a call that failed
abbrev pub read_failed : Supply → Supply
read_failed s = record s { calls = raised s.calls; faults = raised s.faults }

-- how much a call gives into a buffer of this length
abbrev pub gift : Supply → ℕ → ℕ
gift s room = min (min (length s.left) s.piece) room

-- the source after a call that gave n bytes
abbrev pub read_done : Supply → ℕ → Supply
read_done s n = record s { left = drop n s.left; calls = raised s.calls }

-- the buffer with the first n of these bytes at its front
abbrev pub filled : ℕ → List ℕ → List ℕ → List ℕ
filled n bytes buffer = take n bytes ++ drop n buffer

-- whether the sink's next call fails: it is listed, or the room is full and there is a byte to take
abbrev pub next_write_fails : Store → List ℕ → Bool
next_write_fails s piece = is_listed s.fails s.calls || nat_le s.room (length s.held) && not (length piece == 0)

-- the sink after a call that failed
abbrev pub write_failed : Store → Store
write_failed s = record s { calls = raised s.calls; faults = raised s.faults }

-- how much a call takes of a piece of this length
abbrev pub share : Store → ℕ → ℕ
share s len = min (min len s.piece) (s.room - length s.held)

-- the sink after a call that took these bytes
abbrev pub write_done : Store → List ℕ → Store
write_done s bytes = record s { held = s.held ++ bytes; calls = raised s.calls }
