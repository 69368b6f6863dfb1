-- What is made for a board at the start is that of cycle 0.
use Rattle.std.proofs.Common.{◌≡◌, ◌≢◌, ℕ, zero, suc, ◌+◌, ◌-◌, ◌<◌, ◌≤◌, Bool, true, false, List, [], ◌∷◌, ◌++◌, length, map, nat_eq, eq-eqb, Option, Some, None, slice_get, refl, ap, ap₂, sym, ◌∙◌, subst, inl, inr, arith, length-append}
use Rattle.std.specs.List.{list_any}
use Rattle.std.specs.Prelude.{◌↔◌, cond, replicate, slice_index_or}
use Rattle.std.proofs.lemmas.Bool.{cases_lt}
use Rattle.std.proofs.lemmas.Bool.Decides.{eqb_tells}
use Rattle.std.proofs.lemmas.List.{length-map, map-append}
use Rattle.std.proofs.lemmas.Option.{get_or_from_slice_get, same_Some, slice_get-map, slice_get_within}
use Rattle.xm_board.proofs.Coming.{moves_further}
use Rattle.xm_board.proofs.Keeping.{item_at}
use Rattle.xm_board.proofs.Standing.{nothing_out}
use Rattle.xm_board.specs.Core.{Core, IsMutual, cycle, is_out, started}
use Rattle.xm_board.specs.Inner.Jobs.{run_in}
use Rattle.xm_board.specs.Inner.Standing.{AreFar, AreLogs, AreMoves, AreNewest, IsBoard, moves_in}
use Rattle.xm_board.specs.Inner.Starting.{AreEach, AreFirstMoves, IsFirst, IsFirstFar, IsFirstLog, IsNoNewest}
use Rattle.xm_board.specs.Run.{IsNamed, row_at}
use Rattle.xm_board.specs.declared.newest.Newest.{Newest}
use Rattle.xm_board.specs.declared.row_log.RowLog.{RowLog}
use Rattle.xm_board.specs.declared.two_cycles.TwoCycles.{TwoCycles}
use Rattle.xm_design.specs.ColouredRuns.{FitsHold}
use Rattle.xm_design.specs.Designed.{Designed, IsDesigned}
use Rattle.xm_model.specs.Component.{Component, Content, Source, Sink, Queue, Function, Fork, Join, Switch, Merge}
use Rattle.xm_model.specs.ListView.{ListView}
use Rattle.xm_model.specs.Net.{Network}
use Rattle.xm_model.specs.Signals.{Signals}
use Rattle.xm_model.specs.Views.{content_at, signals_of}
use Rattle.xm_model.specs.declared.state.Wire.{Wire}
use Rattle.xm_order.specs.Lemmas.Items.{push_cases}
use Rattle.xm_order.specs.OneFrame.{SameFrame}
use Rattle.xm_parts.specs.Changing.{CapacityLaw, IsWithinCapacities}
use Rattle.xm_parts.specs.Far.{AreFarFrom, SetFrom}
use Rattle.xm_parts.specs.Kept.{Division, label_at}
use Rattle.xm_parts.specs.Near.{AreNear}
use Rattle.xm_parts.specs.Partition.{AreNeighbours, channels_in, far_channel, lies_in, outer, prims_in}
use Rattle.xm_parts.specs.Passing.{passing}
use Rattle.xm_parts.specs.Projection.{Row, projection, wire_of}
use Rattle.xm_parts.specs.Rows.{row_of}
use Rattle.xm_parts.specs.declared.changes.Change.{Change}
use Rattle.xm_parts.specs.declared.row.Snapshot.{Snapshot}
use Rattle.xm_tape.specs.Taped.{Fits, Taped, chosen, cycles_of, rows_of}
use Rattle.xm_trace.specs.declared.trace.Move.{Move}
use mathlib.Core.Path.{fun_ext}

-- ---- lists with an item for each part

pub each_push : {X : Type 0} (P : ℕ → X → Type 0) (n : ℕ) (xs : List X) (x : X) → AreEach P n xs → P n x → AreEach P (n + 1) (xs ++ x ∷ [])
each_push {X} P n xs x are one = record {
  whole = (let w = are.whole in let m = length-append xs (x ∷ []) in omega arith);
  each = λ k y at. elim (push_cases xs x k y at) [
    | inl h ↦ are.each k y h
    | inr h ↦ (let w = are.whole in let place : n ≡ k = (let e = h.0 in omega arith) in subst (λ (z : X). P k z) h.1 (subst (λ (i : ℕ). P i x) place one))
  ];
}

-- ---- neighbours

pub any_at : (xs : List ℕ) (q : ℕ) → list_any (nat_eq q) xs ≡ true → (k : ℕ) × (slice_get xs k ≡ Some q)
any_at [] q is = absurd cc
any_at (x ∷ xs) q is = elim (eqb_tells q x) [
  | inl t ↦ (0, ap Some (sym t.1))
  | inr t ↦ (let rest = any_at xs q (rw t.0 at is) in (suc rest.0, rest.1))
]

pub at_any : (xs : List ℕ) (k q : ℕ) → slice_get xs k ≡ Some q → list_any (nat_eq q) xs ≡ true
at_any [] k q at = absurd cc
at_any (x ∷ xs) zero q at = let same : q ≡ x = sym (same_Some _ _ at) in rw (eq-eqb q x same) refl
at_any (x ∷ xs) (suc k) q at = elim (eqb_tells q x) [
  | inl t ↦ rw t.0 refl
  | inr t ↦ rw t.0 (at_any xs k q at)
]

-- of a queue with two parts each has the other's channel as its far one
far_back : (label : ℕ → ℕ) (p q c : ℕ) (o : Option Component) → far_channel label p o ≡ Some c → label c ≡ q → (d : ℕ) × ((far_channel label q o ≡ Some d) × (label d ≡ p))
far_back label p q c None h t = absurd cc
far_back label p q c (Some (Source out cs mode)) h t = absurd cc
far_back label p q c (Some (Sink input mode)) h t = absurd cc
far_back label p q c (Some (Function input out m)) h t = absurd cc
far_back label p q c (Some (Fork input a b ma mb)) h t = absurd cc
far_back label p q c (Some (Join a b out pass)) h t = absurd cc
far_back label p q c (Some (Switch input a b to)) h t = absurd cc
far_back label p q c (Some (Merge a b out)) h t = absurd cc
far_back label p q c (Some (Queue input out k ps)) h t = sides (lies_in label p input) (lies_in label p out) refl refl h where
  lies : (d r : ℕ) → lies_in label r d ≡ true → label d ≡ r
  lies d r is = elim (eqb_tells (label d) r) [ inl u ↦ u.1 | inr u ↦ absurd (let no = u.0 in cc) ]

  lies_not : (d r : ℕ) → lies_in label r d ≡ false → label d ≢ r
  lies_not d r is same = let no = eq-eqb (label d) r same in absurd cc

  out_of : (d r : ℕ) → label d ≢ r → lies_in label r d ≡ false
  out_of d r ne = elim (eqb_tells (label d) r) [ inl u ↦ absurd (ne u.1) | inr u ↦ u.0 ]

  sides : (a b : Bool) → lies_in label p input ≡ a → lies_in label p out ≡ b → outer a b input out ≡ Some c → (d : ℕ) × ((outer (lies_in label q input) (lies_in label q out) input out ≡ Some d) × (label d ≡ p))
  sides true true x y is = absurd cc
  sides false false x y is = absurd cc
  sides true false x y is =
      let far : label out ≡ q = ap label (same_Some _ _ is) ∙ t in
      let mine : label input ≡ p = lies input p x in
      let one : lies_in label q input ≡ false = out_of input q (λ e. lies_not out p y (far ∙ (sym e ∙ mine))) in
      let two : lies_in label q out ≡ true = eq-eqb (label out) q far in
      (input, (ap₂ (λ (a b : Bool). outer a b input out) one two, mine))
  sides false true x y is =
      let far : label input ≡ q = ap label (same_Some _ _ is) ∙ t in
      let mine : label out ≡ p = lies out p y in
      let one : lies_in label q out ≡ false = out_of out q (λ e. lies_not input p x (far ∙ (sym e ∙ mine))) in
      let two : lies_in label q input ≡ true = eq-eqb (label input) q far in
      (out, (ap₂ (λ (a b : Bool). outer a b input out) two one, mine))

pub near_back : (net : Network) (label : ℕ → ℕ) (p q : ℕ) → AreNeighbours net label p q → AreNeighbours net label q p
near_back net label p q near =
    let back = far_back label p q near.far (slice_get net.prims near.queue) near.cut near.there in
    record { queue = near.queue; far = back.0; cut = back.1.0; there = back.1.1 }

-- each part's list has just its neighbours
module _ (net : Network) (label : ℕ → ℕ) (count : ℕ) (made : List (ListView ℕ)) (near : AreEach (λ (p : ℕ) (l : ListView ℕ). AreNear net label p l.items) count made)
  where
    listed : (p : ℕ) (l : ListView ℕ) → slice_get made p ≡ Some l → slice_index_or (map (λ (x : ListView ℕ). x.items) made) p [] ≡ l.items
    listed p l at = get_or_from_slice_get (map (λ (x : ListView ℕ). x.items) made) p l.items [] (rw (slice_get-map (λ (x : ListView ℕ). x.items) made p, at) refl)

    pub near_listed : (p q : ℕ) → p < count → (list_any (nat_eq q) (slice_index_or (map (λ (l : ListView ℕ). l.items) made) p []) ≡ true) ↔ AreNeighbours net label p q
    near_listed p q part =
        let l = item_at made p (let w = near.whole in omega arith) in
        let are = near.each p l.0 l.1 in
        let same = listed p l.0 l.1 in (
          (λ is. (let k = any_at l.0.items q (rw same at is) in are.near k.0 q k.1)),
          (λ is. (let k = are.whole q is in rw same (at_any l.0.items k.0 q k.1))),
        )

    -- a part that has a neighbour is one
    has_near : (p q : ℕ) → list_any (nat_eq q) (slice_index_or (map (λ (l : ListView ℕ). l.items) made) p []) ≡ true → p < count
    has_near p q is = (let found = of (map (λ (l : ListView ℕ). l.items) made) p is in let w = near.whole in let m = length-map made (λ (l : ListView ℕ). l.items) in omega arith) where
      of : (ls : List (List ℕ)) (r : ℕ) → list_any (nat_eq q) (slice_index_or ls r []) ≡ true → r < length ls
      of [] r h = absurd cc
      of (l ∷ ls) zero h = omega arith
      of (l ∷ ls) (suc r) h = (let rest = of ls r h in omega arith)

    pub go_both_ways : ((p q : ℕ) → p < count → AreNeighbours net label p q → (q < count) × (q ≢ p)) → IsMutual (map (λ (l : ListView ℕ). l.items) made)
    go_both_ways others p q is =
        let part = has_near p q is in
        let are = (near_listed p q part).0 is in
        (near_listed q p (others p q part are).0).1 (near_back net label p q are)

-- ---- far moves, from one neighbour after another

pub hears_more : (net : Network) (label : ℕ → ℕ) (p : ℕ) (logs : List RowLog) (near : List ℕ) (k q : ℕ) (row : RowLog) (old new : List (Option ℕ)) →
    slice_get near k ≡ Some q → slice_get logs q ≡ Some row → SetFrom net label p q row.base.wires.items old new →
    ((j r : ℕ) (log : RowLog) (φ : Signals) → j < k → slice_get near j ≡ Some r → slice_get logs r ≡ Some log → log.base.wires.items ≡ map (wire_of φ) (channels_in net label r) → AreFarFrom net label p r φ old) →
    (j r : ℕ) (log : RowLog) (φ : Signals) → j < k + 1 → slice_get near j ≡ Some r → slice_get logs r ≡ Some log → log.base.wires.items ≡ map (wire_of φ) (channels_in net label r) → AreFarFrom net label p r φ new
hears_more net label p logs near k q row old new at there set so_far j r log φ h at_near at_log e =
    elim (eqb_tells r q) [
      | inl t ↦
          (let same : log ≡ row = same_Some _ _ (sym at_log ∙ (ap (slice_get logs) t.1 ∙ there)) in
          subst (λ (x : ℕ). AreFarFrom net label p x φ new) (sym t.1)
          (set.here φ (ap (λ (l : RowLog). l.base.wires.items) (sym same) ∙ (e ∙ ap (λ (x : ℕ). map (wire_of φ) (channels_in net label x)) t.1))))
      | inr t ↦ elim (cases_lt j k) [
        | inl less ↦ (λ m c cut. set.rest r m c cut t.1 ∙ so_far j r log φ less at_near at_log e m c cut)
        | inr more ↦ absurd (t.1 (let same : j ≡ k = omega arith in same_Some _ _ (sym at_near ∙ (ap (slice_get near) same ∙ at))))
      ]
    ]

-- ---- the first cycle

cycle_zero : (n p : ℕ) → ◌≡◌ {A = ℕ} (slice_index_or (replicate n 0) p 0) 0
cycle_zero zero p = refl
cycle_zero (suc n) zero = refl
cycle_zero (suc n) (suc p) = cycle_zero n p

-- frames that agree have the same wires
same_wires : (net : Network) (φ ψ : Signals) → SameFrame net φ ψ → (test : ℕ → Bool) (n : ℕ) → n ≤ net.channels → map (wire_of φ) (passing test n) ≡ map (wire_of ψ) (passing test n)
same_wires net φ ψ same test zero few = refl
same_wires net φ ψ same test (suc n) few =
    map-append (wire_of φ) (passing test n) (cond (test n) (n ∷ []) [])
    ∙ (ap₂ (λ (xs ys : List Wire). xs ++ ys) (same_wires net φ ψ same test n (omega arith)) (last (test n))
    ∙ sym (map-append (wire_of ψ) (passing test n) (cond (test n) (n ∷ []) []))) where
      last : (b : Bool) → map (wire_of φ) (cond b (n ∷ []) []) ≡ map (wire_of ψ) (cond b (n ∷ []) [])
      last true = let at = same n (omega arith) in let wire : wire_of φ n ≡ wire_of ψ n = cc in ap (λ (w : Wire). w ∷ []) wire
      last false = refl

module _ (design : Designed) (tape : Taped) (parts : Division) (first : Snapshot) (is_first : IsFirst design.net tape first)
  where
    first_row : (p : ℕ) (s : ℕ → ℕ → Content) (φ : ℕ → Signals) → IsNamed (run_in design parts tape) s φ →
        projection design.net (label_at parts.labels) p (content_at first.state.cells.items) (signals_of first.frame.wires.items) ≡ row_at (run_in design parts tape) s φ p 0
    first_row p s φ named =
        let contents : content_at first.state.cells.items ≡ s 0 = fun_ext (is_first.contents s φ named) in
        let wires = same_wires design.net (φ 0) (signals_of first.frame.wires.items) (is_first.signals s φ named) (lies_in (label_at parts.labels) p) design.net.channels (omega arith) in
        ap₂ (λ (f : ℕ → Content) (ws : List Wire). record { cells = map {B = ℕ × Content} (λ i. (i, f i)) (prims_in design.net (label_at parts.labels) p); wires = ws }) contents (sym wires)

    -- what was made for each part
    module _ (made : List (ListView ℕ)) (logs : List RowLog) (moves : List (ListView Move)) (far : List TwoCycles) (newest : List (Option Newest)) (target : ℕ)
        (near : AreEach (λ (p : ℕ) (l : ListView ℕ). AreNear design.net (label_at parts.labels) p l.items) parts.count made)
        (others : (p q : ℕ) → p < parts.count → AreNeighbours design.net (label_at parts.labels) p q → (q < parts.count) × (q ≢ p))
        (logs_are : AreEach (IsFirstLog design.net (label_at parts.labels) first) parts.count logs)
        (moves_are : AreEach (AreFirstMoves design.net (label_at parts.labels) logs) parts.count moves)
        (far_are : AreEach (IsFirstFar design.net (label_at parts.labels) logs) parts.count far)
        (newest_are : AreEach IsNoNewest parts.count newest)
      where
        abbrev core : Core
        core = started (map (λ (l : ListView ℕ). l.items) made) target

        many : length (map (λ (l : ListView ℕ). l.items) made) ≡ parts.count
        many = length-map made (λ (l : ListView ℕ). l.items) ∙ near.whole

        at_zero : (p : ℕ) → cycle core p ≡ 0
        at_zero p = cycle_zero (length (map (λ (l : ListView ℕ). l.items) made)) p

        none_out : (p : ℕ) → is_out core p ≡ true → ⊥
        none_out p is = let no = nothing_out (length (map (λ (l : ListView ℕ). l.items) made)) p in cc

        row_is : (p : ℕ) (log : RowLog) → slice_get logs p ≡ Some log → (s : ℕ → ℕ → Content) (φ : ℕ → Signals) → IsNamed (run_in design parts tape) s φ → row_of log.base ≡ row_at (run_in design parts tape) s φ p 0
        row_is p log at s φ named = (logs_are.each p log at).base ∙ first_row p s φ named

        wires_are : (p : ℕ) (log : RowLog) → slice_get logs p ≡ Some log → (s : ℕ → ℕ → Content) (φ : ℕ → Signals) → IsNamed (run_in design parts tape) s φ → log.base.wires.items ≡ map (wire_of (φ 0)) (channels_in design.net (label_at parts.labels) p)
        wires_are p log at s φ named = ap (λ (r : Row). r.wires) (row_is p log at s φ named)

        logs_start : IsDesigned design → FitsHold → CapacityLaw → Fits design.net tape → AreLogs (run_in design parts tape) core 0 logs
        logs_start designed fit law fits = record {
          whole = logs_are.whole ∙ sym many;
          roomy = λ p log at. (logs_are.each p log at).roomy;
          long = λ p log at. (let none = ap length (logs_are.each p log at).changes in let zero_at = at_zero p in omega arith);
          room = λ p log at is. absurd (none_out p is);
          of = λ p log at s φ named. record {
            base = row_is p log at s φ named;
            each = λ k d there. absurd (let none = (logs_are.each p log at).changes in let no : slice_get [] k ≡ Some d = ap (λ (ds : List Change). slice_get ds k) (sym none) ∙ there in cc);
            within = λ k h. (let none = ap length (logs_are.each p log at).changes in let here : 0 ≡ k = omega arith in
                subst (λ (m : ℕ). IsWithinCapacities design.net (row_at (run_in design parts tape) s φ p (0 + m))) here
                (law design.net (label_at parts.labels) p (s 0) (φ 0) (fit design.net design.order (cycles_of tape) (chosen design.net.prims (rows_of tape)) s φ designed.net designed.order fits named 0 (omega arith))));
          };
        }

        moves_start : AreMoves (run_in design parts tape) core moves
        moves_start = record {
          whole = moves_are.whole ∙ sym many;
          room = λ p ms at is. absurd (none_out p is);
          of = λ p ms at s φ named.
              (let log = item_at logs p (let w = slice_get_within moves p ms at in let l = logs_are.whole in let m = moves_are.whole in omega arith) in
              let noted = moves_are.each p ms at log.0 (φ 0) log.1 (wires_are p log.0 log.1 s φ named) in
              noted ∙ (sym (moves_further (run_in design parts tape) φ p 0 0) ∙ ap (λ (k : ℕ). moves_in (run_in design parts tape) φ p 0 (suc k - 0)) (sym (at_zero p))));
        }

        far_start : AreFar (run_in design parts tape) core far
        far_start = record {
          whole = far_are.whole ∙ sym many;
          now_whole = λ p it at. (far_are.each p it at).now_whole;
          next_whole = λ p it at. (far_are.each p it at).next_whole;
          now = λ p q it at is later s φ named.
              (let part : p < parts.count = (let w = slice_get_within far p it at in let l = far_are.whole in omega arith) in
              let log = item_at logs q (let o = (others p q part is).0 in let l = logs_are.whole in omega arith) in
              subst (λ (m : ℕ). AreFarFrom design.net (label_at parts.labels) p q (φ m) it.now) (sym (at_zero p)) ((far_are.each p it at).heard q log.0 (φ 0) is log.1 (wires_are q log.0 log.1 s φ named)));
          next = λ p q it at is later s φ named. absurd (let a = at_zero p in let b = at_zero q in omega arith);
        }

        newest_start : AreNewest (run_in design parts tape) core newest
        newest_start = record {
          whole = newest_are.whole ∙ sym many;
          fit = λ p it at. absurd (let none = newest_are.each p (Some it) at in cc);
          of = λ p it at s φ named. absurd (let none = newest_are.each p (Some it) at in cc);
        }

        pub board_started : IsDesigned design → FitsHold → CapacityLaw → Fits design.net tape → parts.design ≡ design → target < cycles_of tape → 0 < parts.count → (d : Core) → d ≡ started (map (λ (l : ListView ℕ). l.items) made) target → IsBoard design tape parts d 0 logs moves far newest
        board_started designed fit law fits same early some d is = subst (λ (x : Core). IsBoard design tape parts x 0 logs moves far newest) (sym is) (record {
          set_up = record {
            design_is = same;
            count = many;
            fits = fits;
            target = early;
            begun = λ p part. omega arith;
            near = λ p q part. near_listed design.net (label_at parts.labels) parts.count made near p q (let m = many in omega arith);
            others = λ p q part are. (let o = others p q (let m = many in omega arith) are in let m = many in ((omega arith), o.1));
          };
          floor_is = record { part = 0; is_part = (let m = many in omega arith); at = at_zero 0; least = λ q part. omega arith };
          logs_are = logs_start designed fit law fits;
          moves_are = moves_start;
          far_are = far_start;
          newest_are = newest_start;
        })
