use Rattle.std.proofs.Common.{◌≡◌, ◌+◌, ◌%◌, ◌<◌, ◌++◌, ◌∷◌, [], ℕ, List, length, refl, ap, ◌∙◌, arith}
use Rattle.xm_model.specs.ListView.{ListView}
use Rattle.xm_running.proofs.Windows.{length-window, window_after_push}
use Rattle.xm_running.proofs.ring.Ring.push.Goals as goal

pub returns-clause-items : goal.returns-clause-items
returns-clause-items c =
    let q = c.self.inside in
    let n = length q.places.items in
    let items = ap (λ (v : ListView ℕ). v.items) c.self.view_is in
    let room = ap (λ (v : ListView ℕ). v.room) c.self.view_is in
    let many = length-window n q.head q.len q.places.items c.self.invariant.head c.self.invariant.within refl in
    let same = ap length items in
    let free : q.len < n = omega arith in
    let whole : c.len.result ≡ n = omega (arith, q.places.ok.0) in
    let place : c.wrapped-place.result ≡ (q.head + q.len) % n = c.wrapped-place.ensures ∙ ap (λ (m : ℕ). (q.head + q.len) % m) whole in
    rw place (window_after_push n q.head q.len q.places.items c.self.invariant.head c.self.invariant.within refl c.args.packet free ∙ ap (λ (xs : List ℕ). xs ++ c.args.packet ∷ []) items)
