-- What the code makes, item by item, is what the definitions say.
use Rattle.std.proofs.Common.{◌≡◌, ℕ, suc, ◌+◌, ◌-◌, List, [], ◌∷◌, ◌++◌, Some, None, map, refl, ap, ◌∙◌, append_assoc, arith}
use Rattle.std.proofs.lemmas.List.{map-append}
use Rattle.std.specs.Prelude.{Option}
use Rattle.serde_json.specs.Data.{Data}
use Rattle.xm_model.specs.Component.{Component, component_of}
use Rattle.xm_model.specs.Naming.{Allowed, Naming}
use Rattle.xm_model.specs.Net.{Network}
use Rattle.xm_model.specs.declared.primitive.Primitive.{Primitive}
use Rattle.xm_shape.specs.Names.{Name}
use Rattle.xm_generate.specs.Generated.{generated, labels, labels_from, later, names, net, prims, queue, source, station, stations, tape}

pub pushed : (before after : List Primitive) (prim : Primitive) (m : Component) → after ≡ before ++ prim ∷ [] → component_of prim ≡ m → map component_of after ≡ map component_of before ++ m ∷ []
pushed before after prim m is same = ap (map component_of) is ∙ map-append component_of before (prim ∷ []) ∙ ap (λ (x : Component). map component_of before ++ x ∷ []) same

pub six : (l0 l1 l2 l3 l4 l5 l6 : List Component) (a b c d e f : Component) → l1 ≡ l0 ++ a ∷ [] → l2 ≡ l1 ++ b ∷ [] → l3 ≡ l2 ++ c ∷ [] → l4 ≡ l3 ++ d ∷ [] → l5 ≡ l4 ++ e ∷ [] → l6 ≡ l5 ++ f ∷ [] → l6 ≡ l0 ++ a ∷ b ∷ c ∷ d ∷ e ∷ f ∷ []
six l0 l1 l2 l3 l4 l5 l6 a b c d e f p q r s t u = rw (u, t, s, r, q, p) (simp append_assoc)

-- the two primitives of the first station, and then the others
pub started : (size seed x : ℕ) (l0 l1 l2 : List Component) → l0 ≡ [] → l1 ≡ l0 ++ source seed 0 ∷ [] → l2 ≡ l1 ++ queue (later 2 seed) 0 1 ∷ [] → x ≡ later 3 seed → l2 ++ stations (size - 1 - 1) 1 1 x ≡ prims size seed
started size seed x l0 l1 l2 none first second number =
    let left : size - 1 - 1 ≡ size - 2 = omega arith in
    rw (second, first, none, number, left) refl

-- one station more
pub continued : (left i c next x y m : ℕ) (before after all : List Component) → before ++ stations left i c x ≡ all → left ≡ suc m → next ≡ c + 6 → y ≡ later 4 x → after ≡ before ++ station i c x → after ++ stations m (i + 1) next y ≡ all
continued left i c next x y m before after all so_far some on number is =
    let up : i + 1 ≡ suc i = omega arith in
    rw (is, on, number, up) (append_assoc before (station i c x) (stations m (suc i) (c + 6) (later 4 x)) ∙ (rw some at so_far))

pub named_on : (letters last : List ℕ) (left k m : ℕ) (before after all : List Name) → before ++ labels_from letters last left k ≡ all → left ≡ suc m → after ≡ before ++ labels letters k → after ++ labels_from letters last m (k + 1) ≡ all
named_on letters last left k m before after all so_far some is =
    let up : k + 1 ≡ suc k = omega arith in
    rw (is, up) (append_assoc before (labels letters k) (labels_from letters last m (suc k)) ∙ (rw some at so_far))

pub document_is : (size seed : ℕ) (n : Network) (named : Naming) (allow : List Allowed) (d : Option Data) → n ≡ net size seed → named ≡ names size → allow ≡ [] → d ≡ Some (tape seed)
    → record { net = n; names = named; allow = allow; tape = d; proof = None } ≡ generated size seed
unfolding generated
document_is size seed n named allow d is_net is_named none taped = rw (is_net, is_named, none, taped) refl
