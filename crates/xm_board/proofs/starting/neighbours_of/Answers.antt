use Rattle.std.proofs.Common.{◌≡◌, ◌≢◌, ◌<◌, ℕ, List, arith, inl, inr, subst, sym}
use Rattle.std.proofs.lemmas.Bool.{cases_lt}
use Rattle.xm_board.proofs.Beginning.{each_push}
use Rattle.xm_model.specs.ListView.{ListView}
use Rattle.xm_parts.specs.Kept.{label_at}
use Rattle.xm_parts.specs.Near.{AreNear}
use Rattle.xm_parts.specs.Partition.{AreNeighbours}
use Rattle.xm_board.proofs.starting.neighbours_of.Goals as goal

pub loop-p-preserved : goal.loop-p-preserved
loop-p-preserved c =
    let parts = c.args.parts.now in let p = c.loop-p.p in
    let net = parts.design.net in let label = label_at parts.labels in
    let P = λ (q : ℕ) (x : ListView ℕ). AreNear net label q x.items in
    let here = subst (λ (l : List ℕ). AreNear net label p l) (sym c.in_ok-near.ensures) c.neighbours.ensures.near in
    record {
      near = rw c.in_ok-push.ensures.ok (each_push P p c.loop-p.made.items c.in_ok-near.near c.loop-p.invariant.near here);
      others = λ q r h is. elim (cases_lt q p) [
        | inl less ↦ c.loop-p.invariant.others q r less is
        | inr more ↦ (let same : p ≡ q = omega arith in subst (λ (x : ℕ). AreNeighbours net label x r → (r < parts.count) × (r ≢ x)) same (c.neighbours.ensures.others r) is)
      ];
    }

pub returns-clause-others : goal.returns-clause-others
returns-clause-others c p q part is = c.loop-p.invariant.others p q (let count = c.count-p-end.ensures.value in omega arith) is
