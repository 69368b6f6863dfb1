use Rattle.std.proofs.Common.{◌≡◌, ℕ, [], length, All, subst, sym, ap, arith}
use Rattle.std.proofs.lemmas.List.Elements.{All-nil, All-push}
use Rattle.std.proofs.lemmas.List.{length_push}
use Rattle.xm_model.specs.ListView.{ListView}
use Rattle.xm_rows.proofs.columns.empty_lists.Goals as goal

pub loop-init : goal.loop-init
loop-init c =
    let none = c.new-lists.ensures.items in
    record { empty = subst (All (λ (m : ListView ℕ). m.items ≡ [])) (sym none) (All-nil (λ (m : ListView ℕ). m.items ≡ [])); whole = ap length none }

pub loop-preserved : goal.loop-preserved
loop-preserved c =
    let is = c.in_ok-push.ensures.ok in
    record {
      empty = subst (All (λ (m : ListView ℕ). m.items ≡ [])) (sym is) (All-push (λ (m : ListView ℕ). m.items ≡ []) c.loop.lists.items c.new.result c.loop.invariant.empty c.new.ensures.items);
      whole = (let len = ap length is in let more = length_push c.loop.lists.items c.new.result in let same = c.loop.invariant.whole in omega (arith, len, more, same));
    }
