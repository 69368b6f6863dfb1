-- Numbers that are counted once: where the choice of each primitive stands, and which number a queue pair has.
use Rattle.std.specs.Prelude.{◌≡◌, ℕ, zero, suc, ◌+◌, ◌*◌, ◌<◌, ◌≤◌, List, [], ◌∷◌, length, slice_get, Some}
use Rattle.xm_colours.specs.Family.{colours_at}
use Rattle.xm_colours.specs.Pairs.{queue_pairs_at}
use Rattle.xm_design.specs.Designed.{Designed, IsDesigned}
use Rattle.xm_design.specs.Tasks.{AreTasks}
use Rattle.xm_design.specs.declared.tasks.Task.{Task}
use Rattle.xm_model.specs.Component.{Component, Queue}
use Rattle.xm_model.specs.Views.{oracles_below}
use Rattle.xm_model.specs.Net.{HasPrim, Network}
use Rattle.xm_model.specs.Membership.{IsIn}
use Rattle.xm_model.specs.Limits.{most_colours}
use Rattle.xm_order.specs.declared.signal.Signal.{Signal}

-- for each place below the count, the number that belongs there
pub record AreNumbers (number : ℕ → ℕ) (count : ℕ) (numbers : List ℕ) : Type 0 where
  pub whole : length numbers ≡ count
  pub at : (p : ℕ) → p < count → slice_get numbers p ≡ Some (number p)

-- for each primitive, how many sources and sinks stand below it
abbrev pub IsOracles : List Component → List ℕ → Type 0
IsOracles prims numbers = AreNumbers (oracles_below prims) (length prims) numbers

-- the weights of the primitives below p, together
abbrev pub total_below : (Component → ℕ) → List Component → ℕ → ℕ
total_below weight [] p = 0
total_below weight (m ∷ ms) zero = 0
total_below weight (m ∷ ms) (suc p) = weight m + total_below weight ms p

-- how many queue pairs stand below primitive p
abbrev pub pairs_below : (ℕ → List ℕ) → List Component → ℕ → ℕ
pairs_below colours prims p = total_below (λ m. length (queue_pairs_at colours 0 m)) prims p

-- for each primitive; one has at most as many as a channel may have colours
pub record ArePairsBelow (colours : ℕ → List ℕ) (prims : List Component) (numbers : List ℕ) : Type 0 where
  pub below : AreNumbers (pairs_below colours prims) (length prims) numbers
  pub few : (p : ℕ) → p ≤ length prims → pairs_below colours prims p ≤ most_colours * p

-- primitive q is a queue, and d a colour of its output
pub record IsQueuePair (it : Designed) (q d : ℕ) : Type 0 where
  pub input : ℕ
  pub out : ℕ
  pub capacity : ℕ
  pub initial : List ℕ
  pub has : HasPrim it.net q (Queue input out capacity initial)
  pub colour : IsIn (colours_at it.colours out) d

-- the numbers of a net with these colours, and the signals of this order with their primitives
pub record AreTables (net : Network) (colours : ℕ → List ℕ) (order : List Signal) (places below : List ℕ)
    (oracle_count : ℕ) (made : List Task) : Type 0 where
  pub count : oracle_count ≡ oracles_below net.prims (length net.prims)
  pub oracles : IsOracles net.prims places
  pub pairs : ArePairsBelow colours net.prims below
  pub tasks : AreTasks net order made

-- what a design keeps beside net, colours and order
pub record IsKept (it : Designed) (places below : List ℕ) (oracle_count : ℕ) (made : List Task) : Type 0 where
  pub designed : IsDesigned it
  pub tables : AreTables it.net (colours_at it.colours) it.order places below oracle_count made
