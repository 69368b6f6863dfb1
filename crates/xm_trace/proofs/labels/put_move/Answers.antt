use Rattle.std.proofs.Common.{◌++◌, ◌∙◌, ℕ, List, ap, arith, take}
use Rattle.xm_trace.proofs.Labelling.{paired_text}
use Rattle.xm_trace.proofs.labels.put_move.Goals as goal

pub returns-then-pair-len-clause-text : goal.returns-then-pair-len-clause-text
returns-then-pair-len-clause-text c =
    let within = c.if-it-texts.true in
    c.put_at.ensures.text
    ∙ ap (λ (x : List ℕ). take c.args.at c.args.out.now ++ x)
    (paired_text c.args.texts.now c.args.it c.from.result c.len.result (c.requires.ready.paired (omega (arith, within))) c.from.ensures within c.len.ensures c.if-pair-len.true)
