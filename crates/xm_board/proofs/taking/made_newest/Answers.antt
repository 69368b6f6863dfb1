use Rattle.std.proofs.Common.{◌≡◌, ◌+◌, suc, ap, ◌∙◌, arith}
use Rattle.xm_parts.specs.Kept.{label_at}
use Rattle.xm_tape.specs.Place.{PartPlace}
use Rattle.xm_board.proofs.taking.made_newest.Goals as goal

pub copy-requires : goal.copy-requires
copy-requires c = record { fits = (label_at c.args.parts.now.labels, (c.args.p, (c.in_ok-row.ensures (label_at c.args.parts.now.labels) c.args.p c.requires.log.0 c.requires.log.1).1.fits)) }

pub returns-clause-fits : goal.returns-clause-fits
returns-clause-fits c =
    let roomy = (c.in_ok-row.ensures (label_at c.args.parts.now.labels) c.args.p c.requires.log.0 c.requires.log.1).1 in
    let next : c.args.t + 1 ≡ suc c.args.t = omega arith in
    record {
      row = roomy;
      spare = c.in_ok-spare.ensures.roomy (label_at c.args.parts.now.labels) c.args.p roomy;
      far = c.in_ok-far.ensures.whole;
      tape = ap (λ (x : PartPlace). x.tape) c.in_ok-choices.ensures;
      cycle = ap (λ (x : PartPlace). x.cycle) c.in_ok-choices.ensures ∙ next;
      own = ap (λ (x : PartPlace). x.own) c.in_ok-choices.ensures ∙ c.in_ok-own.ensures;
    }

pub returns-clause-row : goal.returns-clause-row
returns-clause-row c rows is = (c.in_ok-row.ensures (label_at c.args.parts.now.labels) c.args.p rows is).0
