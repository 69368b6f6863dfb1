use Rattle.std.proofs.Common.{◌≡◌, ◌++◌, ◌-◌, take, drop, length, ◌∙◌, ap, sym, subst}
use Rattle.std.proofs.lemmas.List.{take_rest}
use Rattle.std.specs.Prelude.{List}
use Rattle.xm_order.proofs.Ringing.{turned_at}
use Rattle.xm_order.specs.Loop.{IsLoop}
use Rattle.xm_order.specs.declared.signal.Signal.{Signal}
use Rattle.xm_order.proofs.ring.turned.Goals as goal

pub returns : goal.returns
returns c net ring =
    let first = c.least-first.result in
    let none = c.new-turned.ensures.items in
    let front : c.append.new.list.items ≡ c.new-turned.result.items ++ take (length c.args.ring.now - first) (drop first c.args.ring.now) = c.in_ok-append.ensures in
    let all : c.append-2.new.list.items ≡ c.append.new.list.items ++ take first c.args.ring.now = c.in_ok-append-2.ensures in
    let rest = take_rest c.args.ring.now first in
    let turned : c.append-2.new.list.items ≡ drop first c.args.ring.now ++ take first c.args.ring.now =
    all ∙ ap (λ (xs : List Signal). xs ++ take first c.args.ring.now) (front ∙ ap (λ (xs : List Signal). xs ++ take (length c.args.ring.now - first) (drop first c.args.ring.now)) none ∙ rest) in
    subst (λ (xs : List Signal). IsLoop net xs) (sym turned) (turned_at net c.args.ring.now first ring c.least-first.ensures.within c.least-first.ensures.least)
