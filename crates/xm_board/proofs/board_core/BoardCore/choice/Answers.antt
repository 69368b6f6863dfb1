use Rattle.std.proofs.Common.{◌≡◌, ◌∙◌, false, rules, sym}
use Rattle.xm_board.proofs.Choosing.{finished_is, least_is, next_is, none_is}
use Rattle.xm_board.proofs.board_core.BoardCore.choice.Goals as goal

pub returns-in-Some : goal.returns-in-Some
returns-in-Some c =
    let running : c.args.self.now.stopped ≡ false = search rules in
    (running, next_is c.args.self.now c.is_core.ensures.whole c.in-Some.p (sym c.in-Some.is ∙ c.next_ready.ensures))

pub returns-in-Some-least_out : goal.returns-in-Some-least_out
returns-in-Some-least_out c =
    let running : c.args.self.now.stopped ≡ false = search rules in
    let whole = c.is_core.ensures.whole in
    (running, none_is c.args.self.now whole (sym c.in-None.is ∙ c.next_ready.ensures), least_is c.args.self.now whole c.in-Some-least_out.p (sym c.in-Some-least_out.is ∙ c.least_out.ensures))

pub returns-in-None-least_out : goal.returns-in-None-least_out
returns-in-None-least_out c =
    let running : c.args.self.now.stopped ≡ false = search rules in
    let none = none_is c.args.self.now c.is_core.ensures.whole (sym c.in-None.is ∙ c.next_ready.ensures) in
    (running, finished_is c.args.self.now c.is_core.ensures none (sym c.in-None-least_out.is ∙ c.least_out.ensures))
