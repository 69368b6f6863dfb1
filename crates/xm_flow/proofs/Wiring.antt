-- Ports of a design's primitives, and the sizes of their tables.
use Rattle.std.proofs.Common.{◌≡◌, ◌∙◌, ℕ, ◌<◌, ◌≤◌, List, length, slice_get, Some, ap, sym, arith}
use Rattle.xm_colours.specs.Family.{colours_at}
use Rattle.xm_design.specs.Designed.{Designed, IsDesigned}
use Rattle.xm_design.specs.Numbers.{IsQueuePair}
use Rattle.xm_model.specs.Component.{Component, Fork, Function, Queue, component_of}
use Rattle.xm_model.specs.Lemmas.PortCounts.{counted, output_below, input_below}
use Rattle.xm_model.specs.Lemmas.PrimitiveFits.{prim_fits}
use Rattle.xm_model.specs.Net.{HasPrim, Network}
use Rattle.xm_model.specs.Ports.{HasOutput, HasInput}
use Rattle.xm_model.specs.Membership.{IsIn}
use Rattle.xm_model.specs.declared.primitive.Primitive.{Primitive}

pub there : (net own : Network) (p : ℕ) (prim form : Primitive) → slice_get net.prims p ≡ Some (component_of prim) → net ≡ own → prim ≡ form → HasPrim own p (component_of form)
there net own p prim form at same is = ap (λ (n : Network). slice_get n.prims p) (sym same) ∙ at ∙ ap (λ q. Some (component_of q)) is

pub takes_below : (it : Designed) → IsDesigned it → (p : ℕ) (m : Component) (c : ℕ) → HasPrim it.net p m → HasInput m c → c < it.net.channels
takes_below it designed p m c has takes = input_below it.net (counted it.net designed.net) p m c has takes

pub drives_below : (it : Designed) → IsDesigned it → (p : ℕ) (m : Component) (c : ℕ) → HasPrim it.net p m → HasOutput m c → c < it.net.channels
drives_below it designed p m c has drives = output_below it.net (counted it.net designed.net) p m c has drives

pub queue_pair : (it : Designed) (p input out capacity : ℕ) (initial : List ℕ) → HasPrim it.net p (Queue input out capacity initial) → (d : ℕ) → IsIn (colours_at it.colours out) d → IsQueuePair it p d
queue_pair it p input out capacity initial has d inside = record { input = input; out = out; capacity = capacity; initial = initial; has = has; colour = inside }

pub function_covers : (it : Designed) → IsDesigned it → (p input out : ℕ) (table held : List ℕ) → HasPrim it.net p (Function input out table) → held ≡ table → it.net.colours ≤ length held
function_covers it designed p input out table held has is = let fits = (prim_fits it.net designed.net p _ has).0 in let len = ap length is in omega arith

pub fork_covers_a : (it : Designed) → IsDesigned it → (p input a b : ℕ) (ta tb held : List ℕ) → HasPrim it.net p (Fork input a b ta tb) → held ≡ ta → it.net.colours ≤ length held
fork_covers_a it designed p input a b ta tb held has is = let fits = (prim_fits it.net designed.net p _ has).0.0 in let len = ap length is in omega arith

pub fork_covers_b : (it : Designed) → IsDesigned it → (p input a b : ℕ) (ta tb held : List ℕ) → HasPrim it.net p (Fork input a b ta tb) → held ≡ tb → it.net.colours ≤ length held
fork_covers_b it designed p input a b ta tb held has is = let fits = (prim_fits it.net designed.net p _ has).1.0 in let len = ap length is in omega arith
