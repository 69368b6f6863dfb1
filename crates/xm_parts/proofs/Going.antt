-- A primitive that is no queue goes on by the wires of its part alone.
use Rattle.std.proofs.Common.{◌≡◌, ℕ, zero, suc, ◌<◌, ◌++◌, false, List, [], ◌∷◌, length, map, refl, ap, sym, ◌∙◌, arith, slice_get}
use Rattle.std.specs.Prelude.{Option}
use Rattle.xm_model.specs.Component.{Component, component_of, content_of}
use Rattle.xm_model.specs.Views.{offer_or, ready_or, signals_of}
use Rattle.xm_model.specs.Lemmas.Local.{IsPort, content_local}
use Rattle.xm_model.specs.Next.{content_after}
use Rattle.xm_model.specs.Signals.{Signals}
use Rattle.xm_model.specs.declared.state.Cell.{Cell}
use Rattle.xm_model.specs.declared.list.List.{List as Listed}
use Rattle.xm_model.specs.declared.primitive.Primitive.{Primitive}
use Rattle.xm_model.specs.declared.primitive.Primitive.TheVariants as primitive
use Rattle.xm_model.specs.declared.state.Wire.{Wire}
use Rattle.xm_parts.specs.Inner.Going.{HasGone}
use Rattle.xm_step.specs.Advanced.{IsAdvanced}
use Rattle.xm_parts.specs.Partition.{is_queue}
use Rattle.xm_parts.specs.Rows.{far_wire, part_signals}

pub get-append_first : {X : Type 0} (xs ys : List X) (k : ℕ) → k < length xs → slice_get (xs ++ ys) k ≡ slice_get xs k
get-append_first [] ys k h = absurd (omega arith)
get-append_first (x ∷ xs) ys zero h = refl
get-append_first (x ∷ xs) ys (suc k) h = get-append_first xs ys k (omega arith)

pub gone_on : (m : Component) (from before new : Cell) (wires : List Wire) (far : List (Option ℕ)) → is_queue m ≡ false → ((c : ℕ) → IsPort m c → c < length wires) →
    ((φ : Signals) → content_after m (content_of before) φ ≡ content_after m (content_of from) φ) → IsAdvanced m before new (signals_of wires) → HasGone m from new (part_signals wires far)
gone_on m from before new wires far no_queue own is went = record {
  content =
      went.content ∙ is (signals_of wires)
      ∙ content_local m (content_of from) (signals_of wires) (part_signals wires far) (λ c port.
      let same = get-append_first wires (map far_wire far) c (own c port) in
      (ap offer_or (sym same), ap ready_or (sym same)));
  roomy = went.roomy;
}

pub no_queue : (prim : Primitive) → ((x y z : ℕ) (l : Listed ℕ) → prim ≡ primitive.Queue x y z l → ⊥) → is_queue (component_of prim) ≡ false
no_queue (primitive.Source out cs mode) h = refl
no_queue (primitive.Sink input mode) h = refl
no_queue (primitive.Queue input out k ps) h = absurd (h input out k ps refl)
no_queue (primitive.Function input out t) h = refl
no_queue (primitive.Fork input a b ta tb) h = refl
no_queue (primitive.Join a b out pass) h = refl
no_queue (primitive.Switch input a b t) h = refl
no_queue (primitive.Merge a b out) h = refl
