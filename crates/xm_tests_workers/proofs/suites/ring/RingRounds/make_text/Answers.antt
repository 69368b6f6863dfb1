use Rattle.std.proofs.Common.{rules, ◌≡◌, ◌∙◌, ◌-◌, ℕ, suc, ap, replicate}
use Rattle.xm_tests_workers.proofs.Dotted.{dotted}
use Rattle.xm_tests_workers.proofs.suites.ring.RingRounds.make_text.Goals as goal

pub returns-clause-text : goal.returns-clause-text
returns-clause-text c = λ line dots.
    let from = c.args.self.now.next_line in
    let n : ℕ = suc c.args.self.now.target - from in
    let count : c.saturating_sub.result ≡ n = search rules in
    c.in_ok-self.ensures ∙ ap (λ (k : ℕ). replicate k 46) count ∙ dotted line dots from n
