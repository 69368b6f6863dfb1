-- Lemmas: the first fault of a net's wiring, as the step of reading finds it.
use Rattle.std.proofs.Common.{◌≡◌, ℕ, zero, suc, ◌+◌, ◌<◌, List, Some, None, Ok, Err, refl, subst, arith}
use Rattle.xm_model.specs.Component.{Component}
use Rattle.xm_model.specs.Naming.{Naming}
use Rattle.xm_model.specs.Net.{IsFirstFault, IsWellWired, IsWiredAt, Network, fault_at}
use Rattle.xm_model.specs.declared.fault.WiringFault.{WiringFault}
use Rattle.xm_shape.specs.Fault.{wiring}
use Rattle.xm_netlist.specs.Numbered.{check_wiring, wiring_from}

no_fault : (prims : List Component) (c : ℕ) → IsWiredAt prims c → fault_at prims c ≡ None
no_fault prims c is = rw (is.initiator.1, is.target.1) refl

module _ (prims : List Component) where
  wired_from : (c n : ℕ) → ((j : ℕ) → j < n → fault_at prims (c + j) ≡ None) → wiring_from prims c n ≡ None
  wired_from c zero none = refl
  wired_from c (suc n) none =
      let here : fault_at prims c ≡ None = subst (λ (k : ℕ). fault_at prims k ≡ None) (omega arith) (none 0 (omega arith)) in
      rw here (wired_from (suc c) n (λ j lt. subst (λ (k : ℕ). fault_at prims k ≡ None) (omega arith) (none (suc j) (omega arith))))

  fault_from : (c n k : ℕ) (fault : WiringFault) → k < n → ((j : ℕ) → j < k → fault_at prims (c + j) ≡ None) → fault_at prims (c + k) ≡ Some fault → wiring_from prims c n ≡ Some fault
  fault_from c zero k fault lt none some = absurd (omega arith)
  fault_from c (suc n) zero fault lt none some =
      let here : fault_at prims c ≡ Some fault = subst (λ (k : ℕ). fault_at prims k ≡ Some fault) (omega arith) some in rw here refl
  fault_from c (suc n) (suc k) fault lt none some =
      let here : fault_at prims c ≡ None = subst (λ (k : ℕ). fault_at prims k ≡ None) (omega arith) (none 0 (omega arith)) in
      rw here
      (fault_from (suc c) n k fault (omega arith) (λ j lt. subst (λ (k : ℕ). fault_at prims k ≡ None) (omega arith) (none (suc j) (omega arith)))
      (subst (λ (k : ℕ). fault_at prims k ≡ Some fault) (omega arith) some))

pub well_wired : (net : Network) → IsWellWired net → wiring_from net.prims 0 net.channels ≡ None
well_wired net is =
    wired_from net.prims 0 net.channels (λ j lt. subst (λ (k : ℕ). fault_at net.prims k ≡ None) (omega arith) (no_fault net.prims j (is j lt)))

pub first_found : (net : Network) (fault : WiringFault) → IsFirstFault net fault → wiring_from net.prims 0 net.channels ≡ Some fault
first_found net fault first =
    fault_from net.prims 0 net.channels first.channel fault first.is_channel
    (λ j lt. subst (λ (k : ℕ). fault_at net.prims k ≡ None) (omega arith) (no_fault net.prims j (first.wired_below j lt)))
    (subst (λ (k : ℕ). fault_at net.prims k ≡ Some fault) (omega arith) first.found)

pub is_wired : (net : Network) (names : Naming) → IsWellWired net → check_wiring net names ≡ Ok tt
unfolding check_wiring
is_wired net names is = rw (well_wired net is) refl

pub not_wired : (net : Network) (names : Naming) (fault : WiringFault) → IsFirstFault net fault → check_wiring net names ≡ Err (wiring fault names)
unfolding check_wiring
not_wired net names fault first = rw (first_found net fault first) refl
