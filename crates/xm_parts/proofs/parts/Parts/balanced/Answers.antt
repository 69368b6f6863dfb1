use Rattle.std.proofs.Common.{◌≡◌, ◌<◌, ◌*◌, ◌/◌, ℕ, List, length, ap, sym, subst, ◌∙◌, arith}
use Rattle.std.proofs.lemmas.Result.{IfOk-weaker}
use Rattle.xm_parts.proofs.Sharing.{shares_partition}
use Rattle.xm_parts.specs.Balanced.{AreNumbered, AreShares, IsBalanced}
use Rattle.xm_parts.specs.Kept.{Division, label_at}
use Rattle.xm_parts.proofs.parts.Parts.balanced.Goals as goal

pub island_count-count-requires-clause-in_order : goal.island_count-count-requires-clause-in_order
island_count-count-requires-clause-in_order c d j inside before =
    let net = c.args.design.now.net in
    let are = c.in_ok-islands.ensures.islands in
    let whole = c.in_ok-islands.ensures.whole in
    let same = c.as_slice.ensures in
    let order : (e k : ℕ) → e < net.channels → k < label_at c.as_slice.result.now e → (f : ℕ) × (f < e) × (label_at c.as_slice.result.now f ≡ k) = rw same are.in_order in
    order d j (let long = ap length same in omega arith) before

pub made-requires-clause-partition : goal.made-requires-clause-partition
made-requires-clause-partition c =
    let net = c.args.design.now.net in
    let islands = c.in_ok-islands.islands.items in let labels = c.in_ok-labels.labels.items in
    let shares : AreShares islands c.lesser.result c.island_count-count.result labels = rw c.as_slice-2.ensures at c.in_ok-labels.ensures in
    let whole = c.in_ok-islands.ensures.whole in
    shares_partition net c.net-net.ensures.design.net (label_at islands) (label_at labels) c.in_ok-islands.ensures.islands (λ j. j * c.lesser.result / c.island_count-count.result)
    (λ d inside. shares.label d (omega arith))

pub returns-clause-balanced : goal.returns-clause-balanced
returns-clause-balanced c =
    let net = c.args.design.now.net in
    let islands = c.in_ok-islands.islands.items in let labels = c.in_ok-labels.labels.items in
    let shares : AreShares islands c.lesser.result c.island_count-count.result labels = rw c.as_slice-2.ensures at c.in_ok-labels.ensures in
    let numbered : AreNumbered islands c.island_count-count.result = rw c.as_slice.ensures at c.island_count-count.ensures.numbered in
    let whole = c.in_ok-islands.ensures.whole in
    let balanced : IsBalanced net c.args.k labels = record {
      island = label_at islands;
      are_islands = c.in_ok-islands.ensures.islands;
      islands = c.island_count-count.result;
      below = λ d inside. numbered.below d (omega arith);
      reached = λ j h. (let r = numbered.reached j h in (r.0, (let w = r.1 in omega arith), r.2));
      whole = shares.whole ∙ whole;
      label = λ d inside. shares.label d (omega arith) ∙ ap (λ (q : ℕ). label_at islands d * q / c.island_count-count.result) c.lesser.ensures;
    } in
    IfOk-weaker c.made.result (λ (parts : Division). parts.labels ≡ labels) (λ (parts : Division). IsBalanced net c.args.k parts.labels)
    (λ parts e. subst (λ (xs : List ℕ). IsBalanced net c.args.k xs) (sym e) balanced) c.made.ensures.labels
