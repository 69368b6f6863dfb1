-- How long a queue's list is after a cycle.
use Rattle.std.proofs.Common.{◌≡◌, ℕ, suc, List, Some, length, arith, length-append}
use Rattle.xm_model.specs.Next.{joined}

pub length-joined : (ps : List ℕ) (d : ℕ) → length (joined ps (Some d)) ≡ suc (length ps)
length-joined ps d = simp length-append (omega arith)
