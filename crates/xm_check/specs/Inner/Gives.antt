-- The answer of the code is that of a test, but for want of memory.
use Rattle.std.specs.Prelude.{◌≡◌, Result, Ok, Err, ⊤}
use Rattle.xm_check.specs.declared.stop.Halt.{Halt}
use Rattle.xm_check.specs.declared.stop.Halt.TheVariants as halt
use Rattle.xm_check.specs.declared.stop.Stop.{Stop}
use Rattle.xm_check.specs.declared.stop.Stop.TheVariants.{Break, OutOfMemory}
use Rattle.xm_proof.specs.declared.verdict.ProofPath.{ProofPath}
use Rattle.xm_proof.specs.declared.verdict.Reason.{Reason}

abbrev pub Fails : {A : Type 0} → Stop → Result A Reason → Type 0
Fails (Break why) test = test ≡ Err why
Fails OutOfMemory test = Unit {0}

abbrev pub Gives : {X Y : Type 0} → (X → Y) → Result X Stop → Result Y Reason → Type 0
Gives view (Ok x) test = test ≡ Ok (view x)
Gives view (Err stop) test = Fails stop test

-- the same with the place of the break
abbrev pub FailsAt : {A : Type 0} → Halt → Result A (ProofPath × Reason) → Type 0
FailsAt (halt.At place why) test = test ≡ Err (place, why)
FailsAt halt.OutOfMemory test = Unit {0}

abbrev pub GivesAt : {X : Type 0} → Result X Halt → Result ⊤ (ProofPath × Reason) → Type 0
GivesAt (Ok x) test = test ≡ Ok tt
GivesAt (Err stop) test = FailsAt stop test

abbrev pub halted : ProofPath → Stop → Halt
halted place (Break why) = halt.At place why
halted place OutOfMemory = halt.OutOfMemory
