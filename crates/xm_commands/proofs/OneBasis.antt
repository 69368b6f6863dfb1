-- A document has one list of flow rows, `inv` one text or one overflow, and `verify` one verdict.
use Rattle.std.proofs.Common.{◌≡◌, ◌∙◌, ℕ, List, [], ◌+◌, ◌++◌, length, map, slice_get, sym, ap, ap₂, subst, codes}
use Rattle.std.proofs.lemmas.List.{ext_get_or}
use Rattle.std.specs.List.{flat_map}
use Rattle.xm_colours.specs.Family.{AreColours, colours_at}
use Rattle.xm_colours.specs.Pairs.{pairs, queue_pairs}
use Rattle.xm_commands.proofs.OneColours.{same_colours}
use Rattle.xm_check.specs.Break.{IsVerdict}
use Rattle.xm_check.specs.Laws.{OneVerdict}
use Rattle.xm_commands.specs.Output.{AreInvariants, HasFlow, IsDesignOf, IsVerdictOf, proof_of}
use Rattle.xm_design.specs.Designed.{Designed}
use Rattle.xm_elim.specs.Basis.{AreOver}
use Rattle.xm_elim.specs.Determined.{OneEnd, OneOverflow}
use Rattle.xm_elim.specs.Elimination.{Eliminates, ExclusiveEnds, ElimOverflows}
use Rattle.xm_flow.specs.FlowRows.{AreFlowRows, Column, Flow, FlowRow, IsNumbered, columns, count_of, flow_rows, moves_of, rows_from}
use Rattle.xm_flow.specs.Holding.{pair_count, queue_pair_count}
use Rattle.xm_flow.specs.Lemmas.OneFlow.{one_flow}
use Rattle.xm_flow.specs.Lemmas.Within.{rows_within}
use Rattle.xm_flow.specs.ValidLemma.{Lemma}
use Rattle.xm_model.specs.Net.{Network}
use Rattle.xm_netlist.specs.Doc.{Doc}
use Rattle.xm_proof.specs.Argument.{Argument}
use Rattle.xm_proof.specs.declared.verdict.Verdict.{Verdict}
use Rattle.xm_proof_reader.specs.Reading.{proof_in}
use Rattle.xm_report.specs.Check.{count_line}
use Rattle.xm_report.specs.Invariants.{invariant_line, invariant_text}
use Rattle.xm_rows.specs.Row.{SparseRow}

-- ---- designs of one document

pub same_sets : (doc : Doc) (a b : Designed) → IsDesignOf doc a → IsDesignOf doc b → a.colours ≡ b.colours
same_sets doc a b is_a is_b =
    let net : a.net ≡ b.net = is_a.net ∙ sym is_b.net in
    let of_b = subst (λ (net : Network). AreColours net (colours_at a.colours)) net is_a.designed.colours in
    let long : length a.colours ≡ length b.colours = is_a.designed.whole ∙ ap (λ (net : Network). net.channels) net ∙ sym is_b.designed.whole in
    ext_get_or [] a.colours b.colours long (λ c below. same_colours b.net (colours_at a.colours) (colours_at b.colours) of_b is_b.designed.colours c)

module _ (doc : Doc) (a b : Designed) (is_a : IsDesignOf doc a) (is_b : IsDesignOf doc b) where
  same_net : a.net ≡ b.net
  same_net = is_a.net ∙ sym is_b.net

  pub same_pairs : pair_count a ≡ pair_count b
  same_pairs = ap₂ (λ (net : Network) (sets : List (List ℕ)). length (pairs (colours_at sets) net.channels)) same_net (same_sets doc a b is_a is_b)

  same_queue_pairs : queue_pairs (colours_at a.colours) 0 a.net.prims ≡ queue_pairs (colours_at b.colours) 0 b.net.prims
  same_queue_pairs = ap₂ (λ (net : Network) (sets : List (List ℕ)). queue_pairs (colours_at sets) 0 net.prims) same_net (same_sets doc a b is_a is_b)

  same_counts : queue_pair_count a ≡ queue_pair_count b
  same_counts = ap length same_queue_pairs

  same_columns : columns a ≡ columns b
  same_columns = ap₂ (λ (net : Network) (sets : List (List ℕ)). map moves_of (pairs (colours_at sets) net.channels) ++ map count_of (queue_pairs (colours_at sets) 0 net.prims)) same_net (same_sets doc a b is_a is_b)

  same_rows : flow_rows a ≡ flow_rows b
  same_rows = ap₂ (λ (net : Network) (sets : List (List ℕ)). rows_from (colours_at sets) 0 net.prims) same_net (same_sets doc a b is_a is_b)

  flow_of_other : (rows : List SparseRow) → AreFlowRows b rows → AreFlowRows a rows
  flow_of_other rows are = record {
    whole = are.whole ∙ ap length (sym same_rows);
    at = λ i row sparse at_row at_sparse.
        subst (λ (listed : List Column). IsNumbered listed row sparse) (sym same_columns)
        (are.at i row sparse (ap (λ (rs : List FlowRow). slice_get rs i) (sym same_rows) ∙ at_row) at_sparse);
  }

  -- they have the same flow rows
  pub same_flow : (f g : Flow) → HasFlow a f → HasFlow b g → f.rows ≡ g.rows
  same_flow f g has_f has_g = one_flow a f.rows g.rows has_f.kept.rows has_g.kept.rows has_f.is_flow.rows (flow_of_other g.rows has_g.is_flow.rows)

  over : (f : Flow) → HasFlow a f → AreOver (pair_count a + queue_pair_count a) f.rows
  over f has = record { rows = has.kept.rows; within = rows_within a f.rows has.is_flow.rows }

  -- what is said of the one is said of the other
  of_other : (P : ℕ → ℕ → List SparseRow → Type 0) (f g : Flow) → HasFlow a f → HasFlow b g → P (pair_count b) (queue_pair_count b) g.rows → P (pair_count a) (queue_pair_count a) f.rows
  of_other P f g has_f has_g h =
      subst (λ (rows : List SparseRow). P (pair_count a) (queue_pair_count a) rows) (sym (same_flow f g has_f has_g))
      (subst (λ (n : ℕ). P (pair_count a) n g.rows) (sym same_counts) (subst (λ (n : ℕ). P n (queue_pair_count b) g.rows) (sym same_pairs) h))

  pub same_lemmas : OneEnd → (ls ks : List Lemma) → AreInvariants a ls → AreInvariants b ks → ls ≡ ks
  same_lemmas one ls ks p q =
      one (pair_count a) (queue_pair_count a) p.rows.rows ls ks (over p.rows p.has_flow) p.left.eliminates
      (of_other (λ m n rows. Eliminates m n rows ks) p.rows q.rows p.has_flow q.has_flow q.left.eliminates)

  pub not_both_ends : ExclusiveEnds → (ls : List Lemma) (g : Flow) (r s : SparseRow) (column : ℕ) → AreInvariants a ls → HasFlow b g → ElimOverflows (pair_count b) (queue_pair_count b) g.rows r s column → ⊥
  not_both_ends exclusive ls g r s column p has meets =
      exclusive (pair_count a) (queue_pair_count a) p.rows.rows ls r s column (over p.rows p.has_flow) p.left
      (of_other (λ m n rows. ElimOverflows m n rows r s column) p.rows g p.has_flow has meets)

  pub same_overflow : OneOverflow → (f g : Flow) (r s t u : SparseRow) (column other : ℕ) → HasFlow a f → HasFlow b g → ElimOverflows (pair_count a) (queue_pair_count a) f.rows r s column
      → ElimOverflows (pair_count b) (queue_pair_count b) g.rows t u other → column ≡ other
  same_overflow one f g r s t u column other has_f has_g p q =
      one (pair_count a) (queue_pair_count a) f.rows r s t u column other (over f has_f) p (of_other (λ m n rows. ElimOverflows m n rows t u other) f g has_f has_g q)

  -- and one text
  pub same_text : OneEnd → (ls ks : List Lemma) → AreInvariants a ls → AreInvariants b ks → invariant_text doc.names a ls ≡ invariant_text doc.names b ks
  same_text one ls ks p q =
      ap₂ (λ (qs : List (ℕ × ℕ)) (lemmas : List Lemma). flat_map (invariant_line doc.names qs) lemmas ++ count_line (codes "end") (length lemmas)) same_queue_pairs (same_lemmas one ls ks p q)

  -- one proof, or one break of its form
  pub same_proof : proof_of doc a ≡ proof_of doc b
  same_proof = ap₂ (λ (net : Network) (qs : List (ℕ × ℕ)). proof_in (record { net = net; names = doc.names; pairs = qs }) doc.proof) same_net same_queue_pairs

  -- and one verdict
  pub same_said : OneVerdict → (v w : Verdict) → IsVerdictOf doc a v → IsVerdictOf doc b w → v ≡ w
  same_said one v w p q =
      let arguments : q.argument ≡ p.argument = (let there = same_proof in let found = p.proof in let said = q.proof in cc) in
      let rows = same_flow p.rows q.rows p.has_flow q.has_flow in
      let there = subst (λ (x : Argument). IsVerdict b q.rows.rows x w) arguments q.is_verdict in
      one a b p.rows.rows p.argument v w same_net (same_sets doc a b is_a is_b) p.is_verdict (subst (λ (rs : List SparseRow). IsVerdict b rs p.argument w) (sym rows) there)
