use Rattle.std.proofs.Common.{◌≡◌, ◌++◌, ◌∷◌, [], List, ℕ, sym, subst, SFits, rules}
use Rattle.std.specs.Int.{w128}
use Rattle.std.proofs.lemmas.Int.{to_z-of_z}
use Rattle.xm_colours.specs.Family.{colours_at}
use Rattle.xm_check.proofs.Packing.{missing, present}
use Rattle.xm_model.specs.Membership.{IsIn}
use Rattle.xm_proof.specs.Tests.{entry}
use Rattle.xm_check.proofs.items.push_count.Goals as goal

pub returns-then-not-has : goal.returns-then-not-has
returns-then-not-has c =
    let it = c.args.design.now in
    let lacks : IsIn (colours_at it.colours c.args.out) c.args.d → ⊥ = λ inside.
    let there = subst (λ (sets : List (List ℕ)). IsIn (colours_at sets c.args.out) c.args.d) (sym c.colours.ensures.value) inside in
    let yes' = c.has.ensures.1 there in let no' = c.if-not-has.true in cc in
    missing (colours_at it.colours) it.net.prims c.args.q c.args.d c.requires.input c.args.out c.args.capacity c.requires.initial c.args.value c.args.entries.now.items c.requires.has lacks

pub returns : goal.returns
returns c =
    let it = c.args.design.now in
    let fits : SFits w128 c.args.value = search rules in
    let pushed : c.push.new.self.items ≡ c.args.entries.now.items ++ entry c.queue_pair-column.result c.args.value ∷ [] = simp to_z-of_z at c.in_ok-push.ensures.ok in
    present (colours_at it.colours) it.net.prims c.args.q c.args.d c.queue_pair-column.result c.args.value c.args.entries.now.items c.push.new.self.items c.net-net.ensures.design.colours.rise c.queue_pair-column.ensures pushed
