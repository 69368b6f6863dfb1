-- Schedules: lists of events, in which each job that is posted or given back was taken before.
use Rattle.std.specs.Prelude.{◌≡◌, ℕ, ◌+◌, ◌<◌, ◌≤◌, true, false, List, [], ◌∷◌, ◌++◌, Some, slice_get}
use Rattle.xm_board.specs.Core.{AllDone, Core, IsCore, IsFloor, IsLeastOut, IsNext, IsReady, NoneReady, cycle, given_back}
use Rattle.xm_board.specs.Core.{is_out, posted, recalled, rounded, stopped, taken}

-- the part and the cycle that is left
pub record JobOf : Type 0 where
  pub part : ℕ
  pub cycle : ℕ

abbrev pub job_of : Core → ℕ → JobOf
job_of c p = record { part = p; cycle = cycle c p }

-- what a take answers: the core after it, and the job, if one is handed out
pub data Takes : Core → Core → List JobOf → Type 0 where
  is_stopped : {c : Core} → c.stopped ≡ true → Takes c c []
  finished : {c : Core} → c.stopped ≡ false → AllDone c → Takes c c []
  job : {c : Core} (p : ℕ) → c.stopped ≡ false → IsNext c p → Takes c (taken c p) (job_of c p ∷ [])
  not_yet : {c : Core} (p : ℕ) → c.stopped ≡ false → NoneReady c → IsLeastOut c p → Takes c c []

-- The events from one core with these jobs to another. A job is used at most once, and not after a recall that follows
-- its take. A post or a give back that is stale is a look.
pub data Runs : Core → List JobOf → Core → List JobOf → Type 0 where
  done : {c : Core} {js : List JobOf} → Runs c js c js
  take : {c d e : Core} {js ks ls : List JobOf} → Takes c d ks → Runs d (ks ++ js) e ls → Runs c js e ls
  post : {c e : Core} (before after : List JobOf) (j : JobOf) {ls : List JobOf}
      → Runs (posted c j.part) (before ++ after) e ls → Runs c (before ++ j ∷ after) e ls
  give_back : {c e : Core} (before after : List JobOf) (j : JobOf) {ls : List JobOf}
      → Runs (given_back c j.part) (before ++ after) e ls → Runs c (before ++ j ∷ after) e ls
  recall : {c e : Core} {js ls : List JobOf} → Runs (recalled c) [] e ls → Runs c js e ls
  look : {c e : Core} {js ls : List JobOf} → Runs c js e ls → Runs c js e ls
  stop : {c e : Core} {js ls : List JobOf} → Runs (stopped c) js e ls → Runs c js e ls
  round : {c e : Core} {js ls : List JobOf} (target : ℕ) → AllDone c → c.target < target → target ≤ c.target + 1024
      → Runs (rounded c target) js e ls → Runs c js e ls

-- each job's part is out, at the job's cycle: none would be stale
abbrev pub NoneStale : Core → List JobOf → Type 0
NoneStale c js = (k : ℕ) (j : JobOf) → slice_get js k ≡ Some j
    → (j.part < c.count) × (is_out c j.part ≡ true) × (cycle c j.part ≡ j.cycle)

-- no cycle fell
abbrev pub NoneFell : Core → Core → Type 0
NoneFell c d = (p : ℕ) → cycle c p ≤ cycle d p

-- no floor fell
abbrev pub NoFloorFell : Core → Core → Type 0
NoFloorFell c d = (s t : ℕ) → IsFloor c s → IsFloor d t → s ≤ t

-- what every schedule that begins with no job leaves
pub record StandsAfter (c d : Core) (js : List JobOf) : Type 0 where
  pub core : IsCore d
  pub fresh : NoneStale d js
  pub cycles : NoneFell c d
  pub floors : NoFloorFell c d

abbrev pub SchedulesStand : Type 0
SchedulesStand = (c d : Core) (js : List JobOf) → IsCore c → Runs c [] d js → StandsAfter c d js

-- where no part is out and some cycle is below the target, some part is ready
abbrev pub SomeReady : Type 0
SomeReady = (c : Core) (late : ℕ) → IsCore c → late < c.count → cycle c late < c.target
    → ((p : ℕ) → p < c.count → is_out c p ≡ false) → (p : ℕ) × IsReady c p

-- the post of a part that is out lowers no floor
abbrev pub PostsRise : Type 0
PostsRise = (c : Core) (p : ℕ) → IsCore c → is_out c p ≡ true → NoFloorFell c (posted c p)
