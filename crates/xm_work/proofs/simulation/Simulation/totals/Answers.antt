use Rattle.std.proofs.Common.{◌≡◌, ℕ, IfOk, subst}
use Rattle.xm_model.specs.Component.{Content}
use Rattle.xm_model.specs.Run.{moves}
use Rattle.xm_model.specs.Signals.{Signals}
use Rattle.xm_trace.specs.RunTextState.{totals_of}
use Rattle.xm_trace.specs.Runs.{IsRunOf}
use Rattle.xm_work.specs.Simulating.{Simulating}
use Rattle.xm_work.proofs.simulation.Simulation.totals.Goals as goal

pub returns : goal.returns
returns c =
    let is = c.self.invariant in
    let b = c.self.inside in
    subst (λ (v : Simulating). (s : ℕ → ℕ → Content) (φ : ℕ → Signals)
    → IsRunOf v.whole.design.now.net v.whole.tape.now s φ → IfOk c.totals.result (λ x. x.items
    ≡ totals_of (λ k d. moves φ k d v.text.cycles) v.whole.design.now.net.colours v.whole.design.now.net.channels))
    c.self.view_is
    (λ s φ run.
    subst (λ (n : ℕ). IfOk c.totals.result (λ x. x.items
    ≡ totals_of (λ k d. moves φ k d b.text.cycles) n b.whole.design.now.net.channels)) is.colours
    (subst (λ (n : ℕ). IfOk c.totals.result (λ x. x.items
    ≡ totals_of (λ k d. moves φ k d b.text.cycles) b.text.colours n)) is.channels
    (c.totals.ensures φ (is.had s φ run))))
