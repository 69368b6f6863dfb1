use Rattle.std.proofs.Common.{◌≡◌, ◌++◌, [], ◌∷◌, ◌-◌, ◌<◌, ℕ, length, rules, ◌∙◌, ap, arith, length-append}
use Rattle.xm_check.proofs.Going.{left_at, one_left, split_last}
use Rattle.xm_check.proofs.trees.leave.Goals as goal

pub loop-alternatives-preserved : goal.loop-alternatives-preserved
loop-alternatives-preserved c =
    let alternatives = c.loop-alternatives.alternatives.items in
    let some : 0 < length alternatives = search rules in
    let k : c.len.result - 1 ≡ length alternatives - 1 = ap (λ (n : ℕ). n - 1) c.len.ensures in
    let split = split_last alternatives (c.len.result - 1) c.remove-lits.result c.remove-lits.new.self.items some k c.remove-lits.ensures.item c.remove-lits.ensures.items in
    let pushed : c.push.new.self.items ≡ c.loop-alternatives.left.items ++ left_at c.args.base c.remove-lits.result ∷ [] = c.in_ok-push.ensures.ok in
    let few = c.loop-alternatives.invariant.1 in
    let size = ap length split ∙ length-append c.remove-lits.new.self.items (c.remove-lits.result ∷ []) in
    (one_left c.args.base alternatives c.remove-lits.new.self.items c.remove-lits.result c.loop-alternatives.left.items c.push.new.self.items split pushed ∙ c.loop-alternatives.invariant.0, omega arith)
