use Rattle.std.proofs.Common.{◌≡◌, ◌+◌, ◌%◌, ◌<◌, ℕ, drop, length, refl, ap, ◌∙◌, arith}
use Rattle.xm_model.specs.ListView.{ListView}
use Rattle.xm_running.proofs.Windows.{window_without_first}
use Rattle.xm_running.proofs.ring.Ring.remove_first.Goals as goal

pub returns-then-self-gt0-clause-items : goal.returns-then-self-gt0-clause-items
returns-then-self-gt0-clause-items c =
    let q = c.self.inside in
    let n = length q.places.items in
    let some : 0 < q.len = c.if-self-gt0.true in
    let whole : c.len.result ≡ n = omega (arith, q.places.ok.0) in
    let place : c.wrapped-self-inside.result ≡ (q.head + 1) % n = c.wrapped-self-inside.ensures ∙ ap (λ (m : ℕ). (q.head + 1) % m) whole in
    rw place (window_without_first n q.head q.len q.places.items c.self.invariant.head c.self.invariant.within refl some ∙ ap (λ (v : ListView ℕ). drop 1 v.items) c.self.view_is)
