-- Inner: what is tested of each primitive of a table, so that all of them keep the limits of a net.
use Rattle.std.specs.Prelude.{ℕ, ◌<◌, ◌≤◌, length, All}
use Rattle.xm_model.specs.Component.{Component, Source, Sink, Queue, Function, Fork, Join, Switch, Merge}
use Rattle.xm_model.specs.Net.{FitsComponent, IsColourMap}

-- the ports are among so many channels, and a queue is small
abbrev pub FitsPorts : ℕ → Component → Type 0
FitsPorts n (Source out _ _) = out < n
FitsPorts n (Sink input _) = input < n
FitsPorts n (Queue input out capacity _) = (input < n) × (out < n) × (capacity ≤ 200)
FitsPorts n (Function input out _) = (input < n) × (out < n)
FitsPorts n (Fork input a b _ _) = (input < n) × (a < n) × (b < n)
FitsPorts n (Join a b out _) = (a < n) × (b < n) × (out < n)
FitsPorts n (Switch input a b _) = (input < n) × (a < n) × (b < n)
FitsPorts n (Merge a b out) = (a < n) × (b < n) × (out < n)

-- and it fits so many colours
abbrev pub Fits : ℕ → ℕ → Component → Type 0
Fits channels colours m = FitsPorts channels m × FitsComponent colours m
