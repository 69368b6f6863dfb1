-- What the goals of a proof name is of the net, and their numbers are of 128 bits, or of 32.
use Rattle.std.specs.Prelude.{◌≡◌, ℕ, ◌<◌, ◌^◌, List, Option, Some, None, Bool, true, false, All, length, slice_get}
use Rattle.xm_lits.specs.declared.inference.RuleName.{RuleName}
use Rattle.xm_lits.specs.declared.inference.RuleName.TheVariants.{I4}
use Rattle.xm_lits.specs.declared.literal.Lit.{Lit}
use Rattle.xm_lits.specs.declared.literal.Lit.TheVariants.{Dead, Full, Has, Idle, Lacks, Stuck}
use Rattle.xm_model.specs.Net.{Network}
use Rattle.xm_proof.specs.Argument.{Argument, Cite, Clash, Eager, Open, Refutation, Split, Step, Sum}
use Rattle.xm_proof.specs.Tests.{is_queue}
use Rattle.xm_proof.specs.declared.proof.Item.{Item}
use Rattle.xm_proof.specs.declared.proof.Item.TheVariants as item
use Rattle.xm_rows.specs.Row.{Fits128}

abbrev pub IsChannel : Network → ℕ → Type 0
IsChannel net c = c < net.channels

abbrev pub IsColour : Network → ℕ → Type 0
IsColour net d = d < net.colours

abbrev pub IsQueue : Network → ℕ → Type 0
IsQueue net q = is_queue (slice_get net.prims q) ≡ true

-- a place of a list, or a count
abbrev pub IsPlace : ℕ → Type 0
IsPlace n = n < 2 ^ 32

abbrev pub IsLiteralOf : Network → Lit → Type 0
IsLiteralOf net (Stuck c) = IsChannel net c
IsLiteralOf net (Dead c d) = IsChannel net c × IsColour net d
IsLiteralOf net (Idle c d) = IsChannel net c × IsColour net d
IsLiteralOf net (Full q) = IsQueue net q
IsLiteralOf net (Has q d) = IsQueue net q × IsColour net d
IsLiteralOf net (Lacks q d) = IsQueue net q × IsColour net d

abbrev pub IsItemOf : Network → Item → Type 0
IsItemOf net (item.Lemma k n) = IsPlace k × Fits128 n
IsItemOf net (item.Cap q n) = IsQueue net q × Fits128 n
IsItemOf net (item.Low q d n) = IsQueue net q × IsColour net d × Fits128 n
IsItemOf net (item.Path l n) = IsLiteralOf net l × Fits128 n

-- whether the rule is named for a colour of a fork's input too
abbrev pub has_via : RuleName → Bool
has_via I4 = true
has_via _ = false

-- a rule that is named for a colour has one, and no other rule has
abbrev pub IsViaOf : Network → RuleName → Option ℕ → Type 0
IsViaOf net name None = has_via name ≡ false
IsViaOf net name (Some d) = (has_via name ≡ true) × IsColour net d

abbrev pub IsOptionalLiteral : Network → Option Lit → Type 0
IsOptionalLiteral net None = Unit {0}
IsOptionalLiteral net (Some l) = IsLiteralOf net l

abbrev pub IsStepOf : Network → Step → Type 0
IsStepOf net (Split name on via kids) = IsLiteralOf net on × IsViaOf net name via × IsPlace kids
IsStepOf net (Clash one other) = IsLiteralOf net one × IsOptionalLiteral net other
IsStepOf net (Eager c) = IsChannel net c
IsStepOf net (Sum items) = IsPlace (length items) × All (IsItemOf net) items
IsStepOf net (Cite place) = IsPlace place
IsStepOf net Open = Unit {0}

pub record IsGoalOf (net : Network) (g : Refutation) : Type 0 where
  pub lit : IsLiteralOf net g.lit
  pub steps : All (IsStepOf net) g.steps
