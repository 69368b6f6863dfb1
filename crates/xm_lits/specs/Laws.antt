-- The rules and clashes hold on every repeating run that is fair, where every channel has a persistent initiator.
use Rattle.std.specs.Prelude.{ℕ, ◌<◌, List}
use Rattle.xm_colours.specs.Family.{colours_at}
use Rattle.xm_design.specs.Designed.{Designed, IsDesigned}
use Rattle.xm_lits.specs.Clashes.{IsClash}
use Rattle.xm_lits.specs.Inference.{Inference, rules_of}
use Rattle.xm_lits.specs.Repeating.{AllOf, Holds, IsFair, IsJammed, IsRepeating, Repetition, SomeOf}
use Rattle.xm_lits.specs.declared.literal.Lit.{Lit}
use Rattle.xm_lits.specs.declared.literal.Lit.TheVariants.{Dead}
use Rattle.xm_model.specs.Membership.{IsIn}
use Rattle.xm_persist.specs.Rights.{AllGranted}

-- what all laws ask of the net and the run
pub record IsFairRun (it : Designed) (r : Repetition) : Type 0 where
  pub designed : IsDesigned it
  pub granted : AllGranted it.net
  pub repeating : IsRepeating it.net r
  pub fair : IsFair it.net r

-- of each rule of a literal that holds, one alternative holds wholly
abbrev pub RulesHold : Type 0
RulesHold =
    (it : Designed) (r : Repetition) → IsFairRun it r →
    (l : Lit) (rule : Inference) → IsIn (rules_of it l) rule → Holds it.net r l →
    SomeOf (Holds it.net r) rule.alternatives

-- no clash holds wholly
abbrev pub ClashesHold : Type 0
ClashesHold =
    (it : Designed) (r : Repetition) → IsFairRun it r →
    (ls : List Lit) → IsClash it ls → AllOf (Holds it.net r) ls → ⊥

-- a jammed channel is dead with one of its colours
abbrev pub JamsAreDead : Type 0
JamsAreDead =
    (it : Designed) (r : Repetition) → IsFairRun it r →
    (c : ℕ) → c < it.net.channels → IsJammed r c →
    (d : ℕ) × (IsIn (colours_at it.colours c) d × Holds it.net r (Dead c d))
