-- What a pass knows, and what becomes of that as the turn is opened, given, split and joined.
use Rattle.std.specs.Prelude.{◌≡◌, ℕ, ◌+◌, ◌-◌, ◌≤◌, max, Some, None}
use Rattle.std.specs.Prelude.{Option as Maybe}
use Rattle.xm_turn.specs.declared.rule.View.{View}
use Rattle.xm_turn.specs.declared.rule.Phase.{Phase}
use Rattle.xm_turn.specs.declared.rule.Phase.TheVariants.{Free}

module _ {N : Type 0} where
  -- the run that it names, its shares, the number of all shares, the floor that it has seen, and its phase
  abbrev pub view : Maybe N → ℕ → ℕ → ℕ → Phase → View N
  view r k n s p = record { run = r; shares = k; all = n; phase = p; seen = s }

  -- the first pass has all n shares, and has seen the floor
  abbrev pub opened : N → ℕ → ℕ → View N
  opened r n floor = view (Some r) n n floor Free

  -- a pass that was joined into another has no share, and names no run
  abbrev pub spent : View N
  spent = view None 0 0 0 Free

  abbrev pub giving : View N → View N
  giving v = record v { phase = Free }

  abbrev pub one_less : View N → View N
  one_less v = record v { shares = v.shares - 1 }

  abbrev pub one_share : View N → View N
  one_share v = view v.run 1 v.all v.seen Free

  -- the shares are added, and the greater floor counts
  abbrev pub together : View N → View N → View N
  together v w = record v { shares = v.shares + w.shares; seen = max v.seen w.seen }

  -- a later view of a free pass: it names the same run, has the same shares, and has seen no less
  abbrev pub IsLater : View N → View N → Type 0
  IsLater old new = (new ≡ record old { seen = new.seen }) × (old.seen ≤ new.seen)
