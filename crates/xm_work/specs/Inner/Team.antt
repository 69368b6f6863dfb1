-- The passes of a team of workers.
use Rattle.std.specs.Prelude.{◌≡◌, ℕ, ◌+◌, ◌<◌, ◌≤◌, All, List, length, slice_index_or}
use Rattle.crossbeam_utils.specs.declared.cache_padded.CachePadded.{CachePadded}
use Rattle.crossbeam_utils.specs.Padded.{padded_value}
use Rattle.xm_turn.specs.declared.rule.View.{View}
use Rattle.xm_turn.specs.declared.turn.Turn.{Turn}
use Rattle.xm_turn.specs.declared.turn.Pass.{Pass}
use Rattle.xm_turn.specs.Passes.{IsPassOf, IsFree, knows}
use Rattle.xm_work.specs.Passes.{Returns}

-- the view of a pass from which n shares went
abbrev pub IsCut : {N : Type 0} → View N → ℕ → View N → Type 0
IsCut old n new = (new.run ≡ old.run) × (new.all ≡ old.all) × (new.shares + n ≡ old.shares) × (old.seen ≤ new.seen)

module _ {V N : Type 0} where
  -- free passes of the turn
  abbrev pub AreFree : Turn V N → List (CachePadded (Pass V N)) → Type 0
  AreFree t seats = All (λ c. IsPassOf t (padded_value c) × IsFree (padded_value c)) seats

  -- a free pass of the turn with one share, of the run that v names
  abbrev pub IsWorker : Turn V N → View N → Pass V N → Type 0
  IsWorker t v p =
      IsPassOf t p × IsFree p × ((knows p).run ≡ v.run) × ((knows p).all ≡ v.all) × ((knows p).shares ≡ 1)

  -- free passes of the turn with one share each, of the run that v names
  abbrev pub AreWorkers : Turn V N → View N → List (CachePadded (Pass V N)) → Type 0
  AreWorkers t v seats = All (λ c. IsWorker t v (padded_value c)) seats

  -- each pass is back in its place
  abbrev pub AllReturn : Turn V N → List (CachePadded (Pass V N)) → List (CachePadded (Pass V N)) → Type 0
  AllReturn t old new = (i : ℕ) (d e : _) → i < length old
      → Returns t (knows (padded_value (slice_index_or old i e))) (padded_value (slice_index_or new i d))
