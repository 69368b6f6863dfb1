use Rattle.std.proofs.Common.{◌≡◌, ◌+◌, ℕ, List, Option, None, map, subst, sym}
use Rattle.xm_flow.specs.ValidLemma.{lemma_of}
use Rattle.xm_flow.specs.declared.invariant.Invariant.{Invariant}
use Rattle.xm_model.specs.ListView.{ListView}
use Rattle.xm_rows.specs.Row.{SparseRow}
use Rattle.xm_elim.specs.Inner.Places.{AreGathered}
use Rattle.xm_elim.specs.declared.work.Working.{Working}
use Rattle.xm_elim.specs.Elimination.{EndsWith, Reaches, begun_from}
use Rattle.xm_elim.proofs.Bases.{basis_of, rows_bounded, rows_lead}
use Rattle.xm_elim.proofs.Gathering.{ends_with, fails_refused}
use Rattle.xm_elim.proofs.Ranking.{ordered}
use Rattle.xm_elim.proofs.solve.lemmas_left.Goals as goal

pub gather-requires-clause-leads : goal.gather-requires-clause-leads
gather-requires-clause-leads c =
    rows_lead c.first_factor_is_positive.ensures c.args.moves c.args.counts c.args.flow.now c.args.it.now.rows.items c.as_slice-rows.result.now c.requires.over c.requires.reaches
    c.as_slice-rows.ensures

pub gather-requires-clause-bounded : goal.gather-requires-clause-bounded
gather-requires-clause-bounded c =
    rows_bounded c.first_factor_is_positive.ensures c.args.moves c.args.counts c.args.flow.now c.args.it.now.rows.items c.as_slice-rows.result.now c.requires.over c.requires.reaches
    c.as_slice-rows.ensures

pub returns-in-Err-clause-overflow : goal.returns-in-Err-clause-overflow
returns-in-Err-clause-overflow c =
    fails_refused c.args.moves c.args.counts c.args.flow.now c.as_slice-rows.result.now (map lemma_of c.in_ok-gathered.gathered.lemmas.items) c.in_ok-gathered.gathered.failed c.in-Err.fault
    (subst (Reaches c.args.moves (begun_from (c.args.moves + c.args.counts) 0 c.args.flow.now) (c.args.moves + c.args.counts)) (sym c.as_slice-rows.ensures) c.requires.reaches)
    c.in_ok-gathered.ensures c.in-Err.ensures.overflow

-- the lemmas are all that was gathered, and none failed
left : (moves counts : ℕ) (flow : List SparseRow) (rows lent : List Working) (gathered lemmas : ListView Invariant) (failed : Option ℕ) → lent ≡ rows →
    Reaches moves (begun_from (moves + counts) 0 flow) (moves + counts) rows → AreGathered moves counts flow lent counts (map lemma_of gathered.items) failed →
    (lemmas ≡ gathered) × (failed ≡ None) → EndsWith moves counts flow (map lemma_of lemmas.items)
left moves counts flow rows lent gathered lemmas failed is reaches h ok =
    subst (λ (l : ListView Invariant). EndsWith moves counts flow (map lemma_of l.items)) (sym ok.0)
    (ends_with moves counts flow lent (map lemma_of gathered.items) failed ok.1
    (subst (Reaches moves (begun_from (moves + counts) 0 flow) (moves + counts)) (sym is) reaches) h)

pub returns-in-Ok-clause-ends : goal.returns-in-Ok-clause-ends
returns-in-Ok-clause-ends c =
    left c.args.moves c.args.counts c.args.flow.now c.args.it.now.rows.items c.as_slice-rows.result.now c.in_ok-gathered.gathered.lemmas c.in-Ok.lemmas c.in_ok-gathered.gathered.failed
    c.as_slice-rows.ensures c.requires.reaches c.in_ok-gathered.ensures c.in-Ok.ensures.ok

pub returns-in-Ok-clause-basis : goal.returns-in-Ok-clause-basis
returns-in-Ok-clause-basis c =
    let ends = left c.args.moves c.args.counts c.args.flow.now c.args.it.now.rows.items c.as_slice-rows.result.now c.in_ok-gathered.gathered.lemmas c.in-Ok.lemmas
    c.in_ok-gathered.gathered.failed c.as_slice-rows.ensures c.requires.reaches c.in_ok-gathered.ensures c.in-Ok.ensures.ok in
    basis_of c.combination_keeps_points.ensures c.combination_gives_back_points.ensures c.first_factor_is_positive.ensures c.args.moves c.args.counts c.args.flow.now
    (map lemma_of c.in-Ok.lemmas.items) c.requires.over c.requires.consistent ends.eliminates

pub returns-in-Ok-clause-ordered : goal.returns-in-Ok-clause-ordered
returns-in-Ok-clause-ordered c =
    let ends = left c.args.moves c.args.counts c.args.flow.now c.args.it.now.rows.items c.as_slice-rows.result.now c.in_ok-gathered.gathered.lemmas c.in-Ok.lemmas
    c.in_ok-gathered.gathered.failed c.as_slice-rows.ensures c.requires.reaches c.in_ok-gathered.ensures c.in-Ok.ensures.ok in
    ordered c.first_factor_is_positive.ensures c.args.moves c.args.counts c.args.flow.now (map lemma_of c.in-Ok.lemmas.items) c.requires.over ends

pub returns-in-Ok-clause-meets : goal.returns-in-Ok-clause-meets
returns-in-Ok-clause-meets c = λ r s column meets.
    let ends = left c.args.moves c.args.counts c.args.flow.now c.args.it.now.rows.items c.as_slice-rows.result.now c.in_ok-gathered.gathered.lemmas c.in-Ok.lemmas
    c.in_ok-gathered.gathered.failed c.as_slice-rows.ensures c.requires.reaches c.in_ok-gathered.ensures c.in-Ok.ensures.ok in
    absurd (c.ends_exclude.ensures c.args.moves c.args.counts c.args.flow.now (map lemma_of c.in-Ok.lemmas.items) r s column c.requires.over ends meets)
