-- A net in which no channel has a fault is well wired.
use Rattle.std.proofs.Common.{◌≡◌, ℕ, zero, suc, ◌+◌, ◌<◌, ◌≤◌, List, [], ◌∷◌, Option, Some, None, Ok, refl, ap, ◌∙◌, arith, inl, inr}
use Rattle.std.proofs.lemmas.Bool.{cases_eq}
use Rattle.xm_model.specs.Component.{Component}
use Rattle.xm_model.specs.Naming.{Naming}
use Rattle.xm_model.specs.Net.{IsWellWired, IsWiredAt, Network, fault_at, initiators, targets, wiring_fault}
use Rattle.xm_model.specs.declared.fault.WiringFault.{WiringFault}
use Rattle.xm_json.specs.Holding.{refuse}
use Rattle.xm_netlist.specs.Numbered.{first_of, check_wiring, wiring_fault_of, wiring_from}

single : (c : ℕ) (is ts : List ℕ) → wiring_fault c is ts ≡ None → ((p : ℕ) × (is ≡ p ∷ [])) × ((p : ℕ) × (ts ≡ p ∷ []))
single c [] ts none = absurd cc
single c (p ∷ []) [] none = absurd cc
single c (p ∷ []) (q ∷ []) none = ((p, refl), (q, refl))
single c (p ∷ []) (q ∷ r ∷ rest) none = absurd cc
single c (p ∷ q ∷ rest) ts none = absurd cc

wired_at : (prims : List Component) (c : ℕ) → fault_at prims c ≡ None → IsWiredAt prims c
wired_at prims c none = let ends = single c (initiators prims c) (targets prims c) none in record { initiator = ends.0; target = ends.1 }

neither : (fault rest : Option WiringFault) → first_of fault rest ≡ None → (fault ≡ None) × (rest ≡ None)
neither None rest none = (refl, none)
neither (Some fault) rest none = absurd cc

no_fault : (prims : List Component) (c n k : ℕ) → wiring_from prims c n ≡ None → c ≤ k → k < c + n → fault_at prims k ≡ None
no_fault prims c zero k none le lt = absurd (omega arith)
no_fault prims c (suc n) k none le lt =
    let primitives = neither (fault_at prims c) (wiring_from prims (suc c) n) none in
    elim (cases_eq k c) [
      | inl here ↦ ap (fault_at prims) here ∙ primitives.0
      | inr other ↦ no_fault prims (suc c) n k primitives.1 (omega arith) (omega arith)
    ]

not_refused : (names : Naming) (fault : Option WiringFault) → refuse (wiring_fault_of names fault) ≡ Ok tt → fault ≡ None
not_refused names None ok = refl
not_refused names (Some fault) ok = absurd cc

pub well_wired : (net : Network) (names : Naming) → check_wiring net names ≡ Ok tt → IsWellWired net
unfolding check_wiring
well_wired net names ok c lt = wired_at net.prims c (no_fault net.prims 0 net.channels c (not_refused names (wiring_from net.prims 0 net.channels) ok) (omega arith) (omega arith))
