-- How a count of ports stands: for each channel, the first two primitives that were met at it.
use Rattle.std.specs.Prelude.{◌≡◌, ℕ, ◌<◌, Bool, true, false, List, [], ◌∷◌, length, slice_index_or, Option, Some, None}
use Rattle.xm_model.specs.Net.{ends_at, inputs, outputs}
use Rattle.xm_model.specs.Component.{Component}
use Rattle.xm_model.specs.declared.net.FirstTwo.{FirstTwo}
use Rattle.xm_model.specs.declared.fault.WiringFault.{WiringFault}
use Rattle.xm_model.specs.declared.fault.WiringFault.TheVariants.{NoInitiator, TwoInitiators, NoTarget, TwoTargets}

abbrev pub first_two : List ℕ → FirstTwo
first_two [] = record { first = None; second = None }
first_two (p ∷ []) = record { first = Some p; second = None }
first_two (p ∷ q ∷ _) = record { first = Some p; second = Some q }

abbrev pub none_met : FirstTwo
none_met = record { first = None; second = None }

-- these are the first two ends at each channel
pub record AreFirstTwo (es : List (ℕ × ℕ)) (seen : List FirstTwo) : Type 0 where
  pub at : (c : ℕ) → c < length seen → slice_index_or seen c none_met ≡ first_two (ends_at es c)

abbrev pub with_pair : Option ℕ → Option ℕ → ℕ → FirstTwo
with_pair None second p = record { first = Some p; second = second }
with_pair (Some x) None p = record { first = Some x; second = Some p }
with_pair (Some x) (Some y) p = record { first = Some x; second = Some y }

-- the same with one more primitive
abbrev pub with_end : FirstTwo → ℕ → FirstTwo
with_end it p = with_pair it.first it.second p

abbrev pub pair_fault : ℕ → Option ℕ → Option ℕ → Option WiringFault → Option WiringFault
pair_fault c None _ rest = Some (NoInitiator c)
pair_fault c (Some p) None rest = rest
pair_fault c (Some p) (Some q) rest = Some (TwoInitiators c p q)

abbrev pub pair_target_fault : ℕ → Option ℕ → Option ℕ → Option WiringFault
pair_target_fault c None _ = Some (NoTarget c)
pair_target_fault c (Some p) None = None
pair_target_fault c (Some p) (Some q) = Some (TwoTargets c p q)

abbrev pub counted_fault : ℕ → FirstTwo → FirstTwo → Option WiringFault
counted_fault c i t = pair_fault c i.first i.second (pair_target_fault c t.first t.second)

-- a primitive's output or input ports
abbrev pub ports_by : Bool → Component → List ℕ
ports_by true m = outputs m
ports_by false m = inputs m

-- the fault at channel c of two counts
abbrev pub counted_fault_at : List FirstTwo → List FirstTwo → ℕ → Option WiringFault
counted_fault_at by_outputs by_inputs c =
    counted_fault c (slice_index_or by_outputs c none_met) (slice_index_or by_inputs c none_met)

pub record IsFirstCountedFault (by_outputs by_inputs : List FirstTwo) (fault : WiringFault) : Type 0 where
  pub channel : ℕ
  pub is_channel : channel < length by_outputs
  pub found : counted_fault_at by_outputs by_inputs channel ≡ Some fault
  pub none_below : (c : ℕ) → c < channel → counted_fault_at by_outputs by_inputs c ≡ None
