-- Ordered lemmas over the flow rows of a design can be written.
use Rattle.std.proofs.Common.{◌≡◌, ℕ, zero, suc, ◌+◌, ◌^◌, ◌<◌, ◌≤◌, List, [], ◌∷◌, All, length, map, Option, Some, None, refl, true, arith}
use Rattle.std.proofs.lemmas.Bool.{lt-ltb}
use Rattle.std.proofs.lemmas.List.{length-map}
use Rattle.std.proofs.lemmas.List.Elements.{All-head, All-map, All-tail}
use Rattle.xm_colours.specs.Family.{Rises}
use Rattle.xm_design.specs.Designed.{Designed}
use Rattle.xm_elim.specs.Ordered.{IsOrdered, RiseByFlow}
use Rattle.xm_flow.specs.FlowRows.{Flow, IsKept}
use Rattle.xm_flow.specs.Holding.{IsFlowOf, pair_count, queue_pair_count}
use Rattle.xm_flow.specs.ValidLemma.{IsValid, Lemma}
use Rattle.xm_flow.specs.declared.invariant.Part.{Part}
use Rattle.xm_model.specs.Naming.{Naming}
use Rattle.xm_proof_reader.specs.Known.{known_by}
use Rattle.xm_proof_reader.specs.Reading.{rises_to}
use Rattle.xm_proof_writer.specs.Writable.{AreParts, IsLemmaOf}
use Rattle.xm_rows.specs.Row.{Fits128, IsRising}
use Rattle.xm_rows.specs.declared.row.Entry.{Entry}

-- rising numbers between two are no more than lie there
few_from : (xs : List ℕ) (m n : ℕ) → Rises xs → All (λ x. m ≤ x) xs → All (λ x. x < n) xs → m ≤ n → length xs + m ≤ n
few_from [] m n up low high h = omega arith
few_from (x ∷ []) m n up low high h = let above = All-head (λ y. m ≤ y) x [] low in let under = All-head (λ y. y < n) x [] high in omega arith
few_from (x ∷ y ∷ ys) m n up low high h =
    let above = All-head (λ z. m ≤ z) x (y ∷ ys) low in
    let under = All-head (λ z. z < n) x (y ∷ ys) high in
    let rest = few_from (y ∷ ys) (suc x) n up.1 (later x (y ∷ ys) up) (All-tail (λ z. z < n) x (y ∷ ys) high) under in
    omega arith
  where
    later : (x : ℕ) (ys : List ℕ) → Rises (x ∷ ys) → All (λ z. suc x ≤ z) ys
    later x [] up k d below = absurd (omega arith)
    later x (y ∷ ys) up zero d below = up.0
    later x (y ∷ ys) up (suc k) d below = let past = later y ys up.1 k d (omega arith) in let first = up.0 in omega arith

few : (xs : List ℕ) (n : ℕ) → Rises xs → All (λ x. x < n) xs → length xs ≤ n
few xs n up high = let h = few_from xs 0 n up (λ k d below. omega arith) high (omega arith) in omega arith

columns_rise : (es : List Entry) → IsRising es → Rises (map (λ (e : Entry). e.column) es)
columns_rise [] up = tt
columns_rise (e ∷ []) up = tt
columns_rise (e ∷ f ∷ es) up = (up.0, columns_rise (f ∷ es) up.1)

flows_rise : (ps : List Part) → RiseByFlow ps → Rises (map (λ (p : Part). p.flow) ps)
flows_rise [] up = tt
flows_rise (p ∷ []) up = tt
flows_rise (p ∷ q ∷ ps) up = (up.0, flows_rise (q ∷ ps) up.1)

few_entries : (es : List Entry) (n : ℕ) → IsRising es → All (λ (e : Entry). e.column < n) es → length es ≤ n
few_entries es n up high =
    let h = few (map (λ (e : Entry). e.column) es) n (columns_rise es up) (All-map (λ x. x < n) (λ (e : Entry). e.column) es high) in rw (length-map es (λ (e : Entry). e.column)) at h

few_parts : (ps : List Part) (n : ℕ) → RiseByFlow ps → All (λ (p : Part). p.flow < n) ps → length ps ≤ n
few_parts ps n up high =
    let h = few (map (λ (p : Part). p.flow) ps) n (flows_rise ps up) (All-map (λ x. x < n) (λ (p : Part). p.flow) ps high) in rw (length-map ps (λ (p : Part). p.flow)) at h

-- the first part goes on from the one before
abbrev GoesOn : Option Part → List Part → Type 0
GoesOn before [] = Unit {0}
GoesOn before (p ∷ ps) = rises_to before p ≡ true

are_parts : (n : ℕ) (before : Option Part) (ps : List Part) → n < 2 ^ 32 → RiseByFlow ps → All (λ (p : Part). p.flow < n) ps → All (λ (p : Part). Fits128 p.factor) ps → GoesOn before ps → AreParts before ps
are_parts n before [] small up high fit on = tt
are_parts n before (p ∷ ps) small up high fit on =
    let here = All-head (λ (q : Part). q.flow < n) p ps high in (
      record { flow = omega arith; factor = All-head (λ (q : Part). Fits128 q.factor) p ps fit },
      on,
      are_parts n (Some p) ps small (tail p ps up) (All-tail (λ (q : Part). q.flow < n) p ps high) (All-tail (λ (q : Part). Fits128 q.factor) p ps fit) (next p ps up),
    )
  where
    tail : (p : Part) (ps : List Part) → RiseByFlow (p ∷ ps) → RiseByFlow ps
    tail p [] up = tt
    tail p (q ∷ ps) up = up.1

    next : (p : Part) (ps : List Part) → RiseByFlow (p ∷ ps) → GoesOn (Some p) ps
    next p [] up = tt
    next p (q ∷ ps) up = lt-ltb p.flow q.flow up.0

first_goes : (ps : List Part) → GoesOn None ps
first_goes [] = tt
first_goes (p ∷ ps) = refl

pub can_be_written : (it : Designed) (names : Naming) (flow : Flow) (lemmas : List Lemma) → IsFlowOf it flow → IsKept flow
    → All (IsValid (pair_count it) (queue_pair_count it) flow.rows) lemmas → All IsOrdered lemmas → All (IsLemmaOf (known_by it names)) lemmas
can_be_written it names flow lemmas of kept valid ordered k d below =
    let v = valid k d below in let o = ordered k d below in
    let counts : queue_pair_count it < 2 ^ 32 = (let narrow = kept.narrow in let same = of.counts in omega arith) in
    let rows : length flow.rows < 2 ^ 32 = (let f = kept.few in omega arith) in
    record {
      row = o.row;
      columns = v.within;
      few_entries = (let f = few_entries _ (queue_pair_count it) o.row.rising v.within in omega arith);
      scale = o.scale;
      parts = are_parts (length flow.rows) None _ rows o.rise v.places o.factors (first_goes _);
      few_parts = (let f = few_parts _ (length flow.rows) o.rise v.places in omega arith);
    }
