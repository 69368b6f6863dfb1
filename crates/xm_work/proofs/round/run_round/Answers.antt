use Rattle.std.proofs.Common.{◌<◌, length, sym, ◌∙◌, ap, arith}
use Rattle.xm_work.proofs.round.run_round.Goals as goal

-- the passes that came back are those that were split off
pub join_all-requires-clause-seats : goal.join_all-requires-clause-seats
join_all-requires-clause-seats g c κs within = λ k d below.
    let back = rw c.in-Ok-seats.is at c.run_all-pass.ensures.each in
    let long = rw c.in-Ok-seats.is at c.run_all-pass.ensures.len in
    let near : k < length c.in_ok-seats.seats.items = omega arith in
    let it = back k d d near in
    let sent = c.in_ok-seats.ensures.each k d near in
    let cut = c.in_ok-seats.ensures.pass.2 in
    let own = c.run_all-pass.ensures.pass.2.0 in
    let same = it.2.0 in (
      it.0,
      it.1,
      ap (λ v. v.run) same ∙ sent.2 ∙ sym (ap (λ v. v.run) own ∙ cut.0),
      ap (λ v. v.all) same ∙ sent.3 ∙ sym (ap (λ v. v.all) own ∙ cut.1),
      ap (λ v. v.shares) same ∙ sent.4,
    )
