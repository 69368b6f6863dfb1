-- Where a proof is valid, no channel jams on a fair repeating run.
use Rattle.std.proofs.Common.{◌≡◌, ℕ, zero, suc, ◌+◌, ◌<◌, ◌≤◌, Option, Some, None, List, [], ◌∷◌, map, length, slice_get, Bool, true, false, ◌&&◌, refl, ◌∙◌, ap, subst, arith, inl, inr, pos, negsuc, neg_ℤ, ℤ, ◌*ℤ◌, ◌≤ℤ◌}
use Rattle.std.proofs.lemmas.Bool.{and_parts, cases_lt}
use Rattle.std.proofs.lemmas.Int.{ints}
use Rattle.std.proofs.lemmas.List.{length-map}
use Rattle.std.proofs.lemmas.Option.{slice_get-map, slice_get_past}
use Rattle.std.specs.Prelude.{option_map}
use Rattle.xm_check.proofs.Counts.{total_count, total_count-all}
use Rattle.xm_check.proofs.Packets.{all_of_queue, count_or, in_left, in_map, in_right, is_pair, none_of_pair, some_of_pair, sum_where, where_value}
use Rattle.xm_check.proofs.Rising.{once_in}
use Rattle.xm_check.specs.Laws.{ProofsHold}
use Rattle.xm_colours.specs.Family.{colours_at}
use Rattle.xm_colours.specs.Pairs.{pairs}
use Rattle.xm_design.specs.ColouredRuns.{ColoursHold}
use Rattle.xm_design.specs.Designed.{Designed}
use Rattle.xm_flow.specs.FlowRows.{AreFlowRows, count_of}
use Rattle.xm_flow.specs.Holding.{LemmasHold, count_columns, count_value, point, value_or}
use Rattle.xm_flow.specs.ValidLemma.{Lemma}
use Rattle.xm_lits.specs.Clashes.{all_idle, one_outside, two_opposed}
use Rattle.xm_lits.specs.Inference.{idle_all}
use Rattle.xm_lits.specs.Laws.{ClashesHold, IsFairRun, JamsAreDead, RulesHold}
use Rattle.xm_lits.specs.Repeating.{AllOf, Holds, IsJammed, Repetition, capacity_at}
use Rattle.xm_lits.specs.declared.literal.Lit.{Lit}
use Rattle.xm_lits.specs.declared.literal.Lit.TheVariants.{Stuck, Dead, Idle, Full, Has, Lacks}
use Rattle.xm_model.specs.Component.{Component, Content, Queue}
use Rattle.xm_model.specs.Lemmas.PortCounts.{first_or_rest}
use Rattle.xm_model.specs.Net.{HasPrim}
use Rattle.xm_model.specs.Membership.{IsIn, times}
use Rattle.xm_model.specs.Run.{count}
use Rattle.xm_model.specs.Signals.{packets_in}
use Rattle.xm_proof.specs.Argument.{Argument, literals}
use Rattle.xm_proof.specs.Lemmas.Integers.{scaled}
use Rattle.xm_rows.specs.Lemmas.Integers.{negated, one_times}
use Rattle.xm_proof.specs.Lemmas.Refuting.{IsReading, goal_fails, on_path_holds}
use Rattle.xm_proof.specs.Sums.{is_natural}
use Rattle.xm_lits.specs.Paths.{is_on_path}
use Rattle.xm_proof.specs.Tests.{capacity_row, count_row, entries_where, is_queue, literal_row, low_row, move_columns, of_pair, of_queue, only_where, packets_row, queue_columns}
use Rattle.xm_proof.specs.Valid.{AreLemmas, IsLemma, IsProof, all_goals, has_sign, item_row, lemma_row, multiplier, of_a_queue}
use Rattle.xm_proof.specs.Lemmas.Weighing.{EndsAt, no_sum}
use Rattle.xm_proof.specs.declared.proof.Item.{Item}
use Rattle.xm_proof.specs.declared.proof.Item.TheVariants as item
use Rattle.xm_rows.specs.Row.{SparseRow, left_side}

only_where_some : {A : Type 0} (b : Bool) (o : Option A) (x : A) → only_where b o ≡ Some x → (b ≡ true) × (o ≡ Some x)
only_where_some true o x h = (refl, h)
only_where_some false o x h = cc

natural_from : (z : ℤ) → is_natural z ≡ true → pos 0 ≤ℤ z
natural_from (pos n) h = omega (arith, ints)
natural_from (negsuc n) h = cc

-- a queue, of which the test told
record QueueAt (it : Designed) (q : ℕ) : Type 0 where
  input : ℕ
  out : ℕ
  capacity : ℕ
  initial : List ℕ
  has : HasPrim it.net q (Queue input out capacity initial)

queue_from : (it : Designed) (q : ℕ) (o : Option Component) → slice_get it.net.prims q ≡ o → is_queue o ≡ true → QueueAt it q
queue_from it q (Some (Queue input out capacity initial)) at h = record { input = input; out = out; capacity = capacity; initial = initial; has = at }
queue_from it q _ at h = absurd (cc)

in_pairs : (colours : ℕ → List ℕ) (n c d : ℕ) → c < n → IsIn (colours c) d → IsIn {X = ℕ × ℕ} (pairs colours n) (c, d)
in_pairs colours zero c d h inside = absurd (omega arith)
in_pairs colours (suc n) c d h inside =
    elim (cases_lt c n) [
      | inl below ↦ in_left (c, d) (pairs colours n) (map (λ e. (n, e)) (colours n)) (in_pairs colours n c d below inside)
      | inr last ↦
          let same : c ≡ n = omega arith in
          in_right (c, d) (pairs colours n) (map (λ e. (n, e)) (colours n))
          (subst (λ (k : ℕ). IsIn {X = ℕ × ℕ} (map (λ e. (k, e)) (colours k)) (c, d)) same (in_map c d (colours c) inside))
    ]

module _ (coloured : ColoursHold) (lemmas_hold : LemmasHold) (it : Designed) (rows : List SparseRow) (r : Repetition) (run : IsFairRun it r) (flows : AreFlowRows it rows) where
  abbrev state : ℕ → Content
  state = r.states r.stem

  abbrev at_queue : ℕ → ℤ
  at_queue j = point (count_columns it) (count_value state) j

  counted : (j : ℕ) → at_queue j ≡ count_or state (slice_get (queue_columns it) j)
  counted j = ap (value_or (count_value state)) (slice_get-map count_of (queue_columns it) j) ∙ of_count (slice_get (queue_columns it) j) where
    of_count : (o : Option (ℕ × ℕ)) → value_or (count_value state) (option_map count_of o) ≡ count_or state o
    of_count None = refl
    of_count (Some p) = refl

  queues_end : EndsAt at_queue (length (queue_columns it))
  queues_end k h = ap (value_or (count_value state)) (slice_get_past (count_columns it) k (let a = length-map (queue_columns it) count_of in omega (arith, a)))

  known : (q : ℕ) (queue : QueueAt it q) → ((j d : ℕ) → slice_get (packets_in (state q)) j ≡ Some d → IsIn (colours_at it.colours queue.out) d) × (length (packets_in (state q)) ≤ queue.capacity)
  known q queue =
      (coloured it.net it.order (colours_at it.colours) (r.stem + r.cycle) r.choices r.states r.frames run.designed.net run.designed.order run.designed.colours.closed run.repeating.choices run.repeating.run).0
      r.stem q (Queue queue.input queue.out queue.capacity queue.initial) (omega arith) queue.has

  capacity_is : (q : ℕ) (queue : QueueAt it q) → capacity_at (slice_get it.net.prims q) ≡ queue.capacity
  capacity_is q queue = ap capacity_at queue.has

  -- all packets of a queue are counted
  all_packets : (q : ℕ) (queue : QueueAt it q) → sum_where state (of_queue q) (queue_columns it) ≡ length (packets_in (state q))
  all_packets q queue =
      let e : 0 + q ≡ q = omega arith in
      subst (λ (k : ℕ). sum_where state (of_queue k) (queue_columns it) ≡ total_count (colours_at it.colours queue.out) (packets_in (state k))) e
      (all_of_queue state (colours_at it.colours) 0 q queue.input queue.out queue.capacity queue.initial it.net.prims queue.has)
      ∙ total_count-all (colours_at it.colours queue.out) (packets_in (state q)) (λ j d at. once_in (colours_at it.colours queue.out) (run.designed.colours.rise queue.out) d ((known q queue).0 j d at))

  -- a packet that is counted stands somewhere
  found : (d : ℕ) (ps : List ℕ) → 1 ≤ times d ps → (j : ℕ) × (slice_get ps j ≡ Some d)
  found d [] h = absurd (omega arith)
  found d (p ∷ ps) h =
      elim (first_or_rest p d (times d ps) h)
      [ inl same ↦ (0, ap Some same) | inr more ↦ let rest = found d ps more in (suc rest.0, rest.1) ]

  has_one : (q d : ℕ) (queue : QueueAt it q) → 1 ≤ count state q d → 1 ≤ sum_where state (of_pair q d) (queue_columns it)
  has_one q d queue h =
      let at = found d (packets_in (state q)) h in
      let e : 0 + q ≡ q = omega arith in
      let pair = subst (λ (k : ℕ). IsIn {X = ℕ × ℕ} (queue_columns it) (k, d)) e
      (is_pair (colours_at it.colours) 0 q d queue.input queue.out queue.capacity queue.initial it.net.prims queue.has ((known q queue).0 at.0 d at.1)) in
      let least = some_of_pair state q d (queue_columns it) pair in
      omega arith

  row_value : (test : ℕ × ℕ → Bool) (v : ℤ) → left_side (entries_where test v 0 (queue_columns it)) at_queue ≡ v *ℤ pos (sum_where state test (queue_columns it))
  row_value test v = where_value state test v 0 (queue_columns it) at_queue (λ i. ap at_queue (let e : 0 + i ≡ i = omega arith in e) ∙ counted i)

  capacity_kept : (q : ℕ) → QueueAt it q → (capacity_row it q).constant ≤ℤ left_side (capacity_row it q).entries at_queue
  capacity_kept q queue =
      let value = row_value (of_queue q) (neg_ℤ (pos 1)) in
      let all = all_packets q queue in
      let most = capacity_is q queue in
      let fits = (known q queue).1 in
      let low : sum_where state (of_queue q) (queue_columns it) ≤ capacity_at (slice_get it.net.prims q) = omega (arith, all, most, fits) in
      let minus = negated (pos 1) (pos (sum_where state (of_queue q) (queue_columns it))) in
      let one = one_times (pos (sum_where state (of_queue q) (queue_columns it))) in
      omega (arith, ints)

  low_kept : (q d : ℕ) → (low_row it q d).constant ≤ℤ left_side (low_row it q d).entries at_queue
  low_kept q d =
      let value = row_value (of_pair q d) (pos 1) in
      let one = one_times (pos (sum_where state (of_pair q d) (queue_columns it))) in
      omega (arith, ints)

  literal_kept : (l : Lit) (row : SparseRow) → of_a_queue it l ≡ true → literal_row it l ≡ Some row → Holds it.net r l → row.constant ≤ℤ left_side row.entries at_queue
  literal_kept (Full q) row of at holds =
      let queue = queue_from it q (slice_get it.net.prims q) refl of in
      let value = row_value (of_queue q) (pos 1) in
      let one = one_times (pos (sum_where state (of_queue q) (queue_columns it))) in
      let all = all_packets q queue in
      let full : length (packets_in (state q)) ≡ capacity_at (slice_get it.net.prims q) = holds in
      let same : packets_row it (pos 1) q (pos (capacity_at (slice_get it.net.prims q))) ≡ row = cc in
      subst (λ (x : SparseRow). x.constant ≤ℤ left_side x.entries at_queue) same (let e : sum_where state (of_queue q) (queue_columns it) ≡ capacity_at (slice_get it.net.prims q) = all ∙ full in omega (arith, ints))
  literal_kept (Has q d) row of at holds =
      let queue = queue_from it q (slice_get it.net.prims q) refl of in
      let value = row_value (of_pair q d) (pos 1) in
      let one = one_times (pos (sum_where state (of_pair q d) (queue_columns it))) in
      let some = has_one q d queue holds in
      let same : count_row it (pos 1) q d (pos 1) ≡ row = cc in
      subst (λ (x : SparseRow). x.constant ≤ℤ left_side x.entries at_queue) same (omega (arith, ints))
  literal_kept (Lacks q d) row of at holds =
      let value = row_value (of_pair q d) (neg_ℤ (pos 1)) in
      let none = none_of_pair state q d (queue_columns it) holds in
      let minus = negated (pos 1) (pos (sum_where state (of_pair q d) (queue_columns it))) in
      let one = one_times (pos (sum_where state (of_pair q d) (queue_columns it))) in
      let same : count_row it (neg_ℤ (pos 1)) q d (pos 0) ≡ row = cc in
      subst (λ (x : SparseRow). x.constant ≤ℤ left_side x.entries at_queue) same (omega (arith, ints))
  literal_kept (Stuck c) row of at holds = cc
  literal_kept (Dead c d) row of at holds = cc
  literal_kept (Idle c d) row of at holds = cc

  module _ (lemmas : List Lemma) (are : AreLemmas it rows lemmas) where
    lemma_at : (ls : List Lemma) (k : ℕ) (l : Lemma) → AreLemmas it rows ls → slice_get ls k ≡ Some l → IsLemma it rows l
    lemma_at [] k l each at = absurd cc
    lemma_at (m ∷ ls) zero l each at = let same : m ≡ l = cc in subst (λ (y : Lemma). IsLemma it rows y) same each.0
    lemma_at (m ∷ ls) (suc k) l each at = lemma_at ls k l each.1 at

    lemma_kept : (k : ℕ) (m : ℤ) (row : SparseRow) (o : Option Lemma) → slice_get lemmas k ≡ o → lemma_row o ≡ Some row → (m *ℤ row.constant) ≤ℤ (m *ℤ left_side row.entries at_queue)
    lemma_kept k m row None at h = cc
    lemma_kept k m row (Some l) at h =
        let meets = lemmas_hold it rows l (r.stem + r.cycle) r.choices r.states r.frames run.designed flows (lemma_at lemmas k l are at).valid run.repeating.choices run.repeating.run r.stem (omega arith) in
        let holds : left_side l.row.entries at_queue ≡ l.row.constant = meets ∙ one_times l.row.constant in
        let same : l.row ≡ row = cc in
        subst (λ (x : SparseRow). (m *ℤ x.constant) ≤ℤ (m *ℤ left_side x.entries at_queue)) same
        (let e : m *ℤ left_side l.row.entries at_queue ≡ m *ℤ l.row.constant = ap (λ z. m *ℤ z) holds in omega (arith, ints))

    kept : (path : List Lit) → AllOf (Holds it.net r) path → (i : Item) (row : SparseRow) → item_row it lemmas path i ≡ Some row → has_sign i ≡ true →
        (multiplier i *ℤ row.constant) ≤ℤ (multiplier i *ℤ left_side row.entries at_queue)
    kept path all (item.Lemma k m) row at sign = lemma_kept k m row (slice_get lemmas k) refl at
    kept path all (item.Cap q m) row at sign =
        let is = only_where_some (is_queue (slice_get it.net.prims q)) (Some (capacity_row it q)) row at in
        let same : capacity_row it q ≡ row = cc in
        scaled m row.constant (left_side row.entries at_queue) (natural_from m sign)
        (subst (λ (x : SparseRow). x.constant ≤ℤ left_side x.entries at_queue) same (capacity_kept q (queue_from it q (slice_get it.net.prims q) refl is.0)))
    kept path all (item.Low q d m) row at sign =
        let is = only_where_some _ (Some (low_row it q d)) row at in
        let same : low_row it q d ≡ row = cc in
        scaled m row.constant (left_side row.entries at_queue) (natural_from m sign)
        (subst (λ (x : SparseRow). x.constant ≤ℤ left_side x.entries at_queue) same (low_kept q d))
    kept path all (item.Path l m) row at sign =
        let is = only_where_some (is_on_path path l && of_a_queue it l) (literal_row it l) row at in
        let both = and_parts (is_on_path path l) (of_a_queue it l) is.0 in
        scaled m row.constant (left_side row.entries at_queue) (natural_from m sign)
        (literal_kept l row both.1 is.1 (on_path_holds (Holds it.net r) path l both.0 all))

  reading : RulesHold → ClashesHold → (p : Argument) → IsProof it rows p → IsReading it p.lemmas (Holds it.net r)
  reading rules clashes p proof = record {
    opposed_fail = λ l m h on_l on_m. clashes it r run (l ∷ m ∷ []) (two_opposed l m h) (on_l, (on_m, tt));
    outside_fails = λ l h on. clashes it r run (l ∷ []) (one_outside l h) (on, tt);
    offered_fails = λ c h all. clashes it r run (idle_all (colours_at it.colours) c) (all_idle c h) all;
    rule_holds = λ l rule at holds. rules it r run l rule at holds;
    sum_fails = λ path items closes all. no_sum at_queue it p.lemmas path items queues_end (kept p.lemmas proof.lemmas path all) closes;
  }

  -- every pair is a goal
  goal_of : (ls : List Lit) (pairs : List (ℕ × ℕ)) (c d : ℕ) → all_goals ls pairs ≡ true → IsIn {X = ℕ × ℕ} pairs (c, d) → is_on_path ls (Dead c d) ≡ true
  goal_of ls [] c d all at = absurd at
  goal_of ls (pair ∷ rest) c d all at =
      let both = and_parts (is_on_path ls (Dead pair.0 pair.1)) (all_goals ls rest) all in
      elim at [
        | inl same ↦ subst (λ (x : ℕ × ℕ). is_on_path ls (Dead x.0 x.1) ≡ true) same both.0
        | inr more ↦ goal_of ls rest c d both.1 more
      ]

  no_jam : RulesHold → ClashesHold → JamsAreDead → (p : Argument) → IsProof it rows p → (c : ℕ) → c < it.net.channels → IsJammed r c → ⊥
  no_jam rules clashes jams p proof c short jammed =
      let dead = jams it r run c short jammed in
      goal_fails it p.lemmas (Holds it.net r) (reading rules clashes p proof) [] p.goals (λ k g at. absurd cc) proof.refuted (Dead c dead.0)
      (goal_of (literals p.goals) (move_columns it) c dead.0 proof.complete (in_pairs (colours_at it.colours) it.net.channels c dead.0 short dead.1.0)) dead.1.1

pub proofs_hold : RulesHold → ClashesHold → JamsAreDead → ColoursHold → LemmasHold → ProofsHold
proofs_hold rules clashes jams coloured lemmas_hold it rows p flows proof r run c short jammed =
    no_jam coloured lemmas_hold it rows r run flows rules clashes jams p proof c short jammed
