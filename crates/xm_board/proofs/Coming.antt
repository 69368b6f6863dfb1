-- A board stands after a post.
use Rattle.std.proofs.Common.{◌≡◌, ◌≢◌, ℕ, zero, suc, ◌+◌, ◌-◌, ◌<◌, ◌≤◌, Bool, true, false, List, [], ◌∷◌, ◌++◌, length, map, drop, set, Option, Some, None, slice_get, nat_eq, nat_lt, eq-eqb, refl, ap, sym, ◌∙◌, subst, inl, inr, arith, length-append}
use Rattle.std.specs.Prelude.{◌⊎◌, ◌↔◌, cond, filter}
use Rattle.std.proofs.lemmas.Bool.{cases_lt}
use Rattle.std.proofs.lemmas.Bool.Decides.{eqb_tells}
use Rattle.std.proofs.lemmas.List.{append-nil, length-set}
use Rattle.std.proofs.lemmas.List.Elements.{filter-append}
use Rattle.std.proofs.lemmas.Option.{same_Some, slice_get_within}
use Rattle.xm_board.proofs.Keeping.{item_at, set_cases}
use Rattle.xm_board.proofs.Telling.{moves_on-append}
use Rattle.xm_board.proofs.Standing.{cycle_elsewhere, cycle_there, rises, was_out}
use Rattle.xm_board.specs.Core.{Core, IsCore, IsFloor, cycle, is_near, is_out, posted}
use Rattle.xm_board.specs.Inner.Jobs.{HasStepped, IsNewest, run_in}
use Rattle.xm_board.specs.Inner.Logging.{IsLog, IsLogOf, IsRoomyLog}
use Rattle.xm_board.specs.Inner.Posting.{AreNotedAt, AreRisen, AreRisenIf, AreTold, IsPushedAt, IsTold, IsTurnedAt, moves_on}
use Rattle.xm_board.specs.Inner.Standing.{AreFar, AreLogs, AreMoves, AreNewest, IsBoard, IsSetUp, moves_in}
use Rattle.xm_board.specs.Run.{Boarded, IsNamed, RunName, row_at}
use Rattle.xm_board.specs.declared.newest.Newest.{Newest}
use Rattle.xm_board.specs.declared.row_log.RowLog.{RowLog}
use Rattle.xm_board.specs.declared.two_cycles.TwoCycles.{TwoCycles}
use Rattle.xm_model.specs.Component.{Content}
use Rattle.xm_model.specs.ListView.{ListView}
use Rattle.xm_model.specs.Next.{move}
use Rattle.xm_model.specs.Signals.{Signals}
use Rattle.xm_model.specs.declared.state.Wire.{Wire}
use Rattle.xm_order.specs.Lemmas.Items.{push_cases}
use Rattle.xm_parts.specs.Changing.{CapacityLaw, IsChange, IsWithinCapacities}
use Rattle.xm_parts.specs.Far.{AreFarFrom}
use Rattle.xm_parts.specs.Kept.{Division, label_at}
use Rattle.xm_parts.specs.Partition.{AreNeighbours, channels_in, cuts_in, lies_in}
use Rattle.xm_parts.specs.Passing.{passing}
use Rattle.xm_parts.specs.Projection.{Row, wire_of}
use Rattle.xm_parts.specs.Rows.{IsRoomyRow, row_of}
use Rattle.xm_parts.specs.declared.changes.Change.{Change}
use Rattle.xm_parts.specs.declared.row.PartRow.{PartRow}
use Rattle.xm_tape.specs.Taped.{Taped, chosen, cycles_of, rows_of}
use Rattle.xm_design.specs.ColouredRuns.{FitsHold}
use Rattle.xm_design.specs.Designed.{Designed, IsDesigned}
use Rattle.xm_order.specs.OneRun.{OneRun}
use borrow.Author.Tests.{ltb-false, ltb-true}
use Rattle.xm_trace.specs.Moves.{cycle_moves, moved_on, round_moves}
use Rattle.xm_trace.specs.declared.trace.Move.{Move}
use mathlib.Core.Path.{fun_ext}

-- ---- moves of a part

kept_moves : (label : ℕ → ℕ) (p t c : ℕ) (o : Option ℕ) (b : Bool) → lies_in label p c ≡ b → filter (λ (m : Move). lies_in label p m.channel) (moved_on t c o) ≡ cond b (moved_on t c o) []
kept_moves label p t c None true is = refl
kept_moves label p t c None false is = refl
kept_moves label p t c (Some d) true is = rw is refl
kept_moves label p t c (Some d) false is = rw is refl

on_one : (φ : Signals) (t c : ℕ) (b : Bool) → moves_on φ t (cond b (c ∷ []) []) ≡ cond b (moved_on t c (move φ c)) []
on_one φ t c true = append-nil (moved_on t c (move φ c))
on_one φ t c false = refl

-- the moves of a cycle on the channels of part p
pub part_moves : (φ : Signals) (label : ℕ → ℕ) (p t n : ℕ) → filter (λ (m : Move). lies_in label p m.channel) (cycle_moves φ t n) ≡ moves_on φ t (passing (lies_in label p) n)
part_moves φ label p t zero = refl
part_moves φ label p t (suc c) =
    filter-append (λ (m : Move). lies_in label p m.channel) (cycle_moves φ t c) (moved_on t c (move φ c))
    ∙ (ap (λ (ms : List Move). ms ++ filter (λ (m : Move). lies_in label p m.channel) (moved_on t c (move φ c))) (part_moves φ label p t c)
    ∙ (ap (λ (ms : List Move). moves_on φ t (passing (lies_in label p) c) ++ ms) (kept_moves label p t c (move φ c) (lies_in label p c) refl ∙ sym (on_one φ t c (lies_in label p c)))
    ∙ sym (moves_on-append φ t (passing (lies_in label p) c) (cond (lies_in label p c) (c ∷ []) []))))

pub moves_further : (run : RunName) (φ : ℕ → Signals) (p from n : ℕ) → moves_in run φ p from (suc n) ≡ moves_in run φ p from n ++ moves_on (φ (from + n)) (from + n) (channels_in run.net (label_at run.labels) p)
moves_further run φ p from n =
    filter-append (λ (m : Move). lies_in (label_at run.labels) p m.channel) (round_moves φ run.net.channels from n) (cycle_moves (φ (from + n)) (from + n) run.net.channels)
    ∙ ap (λ (ms : List Move). moves_in run φ p from n ++ ms) (part_moves (φ (from + n)) (label_at run.labels) p (from + n) run.net.channels)

-- ---- one part posts

module _ (run : RunName) (c : Core) (core : IsCore c) (p : ℕ) (part : p < c.count) (out : is_out c p ≡ true)
  where
    there : (q : ℕ) → q ≡ p → cycle (posted c p) q ≡ suc (cycle c p)
    there q e = ap (cycle (posted c p)) e ∙ cycle_there c core.whole p part

    elsewhere : (q : ℕ) → q ≢ p → cycle (posted c p) q ≡ cycle c q
    elsewhere q ne = cycle_elsewhere c core.whole p part q ne

    pub logs_pushed : (floor : ℕ) (logs after : List RowLog) (change : Change) → AreLogs run c floor logs → IsPushedAt logs p change after → ((s : ℕ → ℕ → Content) (φ : ℕ → Signals) → IsNamed run s φ → IsChange (row_at run s φ p (cycle c p)) (row_at run s φ p (suc (cycle c p))) change) → ((s : ℕ → ℕ → Content) (φ : ℕ → Signals) → IsNamed run s φ → IsWithinCapacities run.net (row_at run s φ p (suc (cycle c p)))) → AreLogs run (posted c p) floor after
    logs_pushed floor logs after change are push changes within =
        subst (λ (l : List RowLog). AreLogs run (posted c p) floor l) (sym push.new_is) (record {
          whole = length-set logs p push.log ∙ are.whole;
          roomy = λ q log at. elim (set_cases logs p push.log q log inside at) [
            | inl h ↦ subst (λ (r : ℕ). IsRoomyRow run.net (label_at run.labels) r log.base) (sym h.0) (subst (λ (b : PartRow). IsRoomyRow run.net (label_at run.labels) p b) (sym push.pushed.base ∙ ap (λ (l : RowLog). l.base) h.1) (are.roomy p push.was push.at))
            | inr h ↦ are.roomy q log h.1
          ];
          long = λ q log at. elim (set_cases logs p push.log q log inside at) [
            | inl h ↦ (let e : length log.changes.items ≡ length (push.was.changes.items ++ change ∷ []) = ap (λ (l : RowLog). length l.changes.items) (sym h.1) ∙ ap length push.pushed.changes in
                let more : length (push.was.changes.items ++ change ∷ []) ≡ length push.was.changes.items + 1 = length-append push.was.changes.items (change ∷ []) in
                let before = are.long p push.was push.at in let now = there q h.0 in omega arith)
            | inr h ↦ are.long q log h.1 ∙ sym (elsewhere q h.0)
          ];
          room = λ q log at is. (let was = was_out c core.whole p part q is in elim (set_cases logs p push.log q log inside at) [
            | inl h ↦ absurd (was.0 h.0)
            | inr h ↦ are.room q log h.1 was.1
          ]);
          of = λ q log at s φ named. elim (set_cases logs p push.log q log inside at) [
            | inl h ↦ subst (λ (r : ℕ). IsLogOf run.net (λ k. row_at run s φ r (floor + k)) log) (sym h.0) (subst (λ (l : RowLog). IsLogOf run.net (λ k. row_at run s φ p (floor + k)) l) h.1 (longer s φ named))
            | inr h ↦ are.of q log h.1 s φ named
          ];
        }) where
          inside : p < length logs
          inside = let w = are.whole in omega arith

          last : length push.was.changes.items + floor ≡ cycle c p
          last = are.long p push.was push.at

          longer : (s : ℕ → ℕ → Content) (φ : ℕ → Signals) → IsNamed run s φ → IsLogOf run.net (λ k. row_at run s φ p (floor + k)) push.log
          longer s φ named =
              let before = are.of p push.was push.at s φ named in
              let many : length push.log.changes.items ≡ length push.was.changes.items + 1 = ap length push.pushed.changes ∙ length-append push.was.changes.items (change ∷ []) in
              record {
                base = ap row_of push.pushed.base ∙ before.base;
                each = λ k d at. elim (push_cases push.was.changes.items change k d (ap (λ (xs : List Change). slice_get xs k) (sym push.pushed.changes) ∙ at)) [
                  | inl h ↦ before.each k d h
                  | inr h ↦ (let here : cycle c p ≡ floor + k = (let l = last in let e = h.0 in omega arith) in let next : suc (cycle c p) ≡ floor + suc k = omega arith in
                      subst (λ (x : Change). IsChange (row_at run s φ p (floor + k)) (row_at run s φ p (floor + suc k)) x) h.1
                      (subst (λ (m : ℕ). IsChange (row_at run s φ p (floor + k)) (row_at run s φ p m) change) next (subst (λ (m : ℕ). IsChange (row_at run s φ p m) (row_at run s φ p (suc (cycle c p))) change) here (changes s φ named))))
                ];
                within = λ k h. elim (cases_lt (length push.was.changes.items) k) [
                  | inl more ↦ (let next : suc (cycle c p) ≡ floor + k = (let l = last in omega arith) in subst (λ (m : ℕ). IsWithinCapacities run.net (row_at run s φ p m)) next (within s φ named))
                  | inr less ↦ before.within k less
                ];
              }

    pub moves_posted : (moves after : List (ListView Move)) (wires : List Wire) → AreMoves run c moves → AreNotedAt moves p (suc (cycle c p)) (channels_in run.net (label_at run.labels) p) wires after → c.first ≤ suc (cycle c p) → ((s : ℕ → ℕ → Content) (φ : ℕ → Signals) → IsNamed run s φ → wires ≡ map (wire_of (φ (suc (cycle c p)))) (channels_in run.net (label_at run.labels) p)) → AreMoves run (posted c p) after
    moves_posted moves after wires are noted begun shown =
        subst (λ (l : List (ListView Move)). AreMoves run (posted c p) l) (sym noted.new_is) (record {
          whole = length-set moves p noted.moves ∙ are.whole;
          room = λ q ms at is. (let was = was_out c core.whole p part q is in elim (set_cases moves p noted.moves q ms inside at) [
            | inl h ↦ absurd (was.0 h.0)
            | inr h ↦ are.room q ms h.1 was.1
          ]);
          of = λ q ms at s φ named. elim (set_cases moves p noted.moves q ms inside at) [
            | inl h ↦ subst (λ (r : ℕ). ms.items ≡ moves_in run φ r c.first (suc (cycle (posted c p) r) - c.first)) (sym h.0) (sym (ap (λ (l : ListView Move). l.items) h.1) ∙ more s φ named)
            | inr h ↦ are.of q ms h.1 s φ named ∙ ap (λ (m : ℕ). moves_in run φ q c.first (suc m - c.first)) (sym (elsewhere q h.0))
          ];
        }) where
          inside : p < length moves
          inside = let w = are.whole in omega arith

          more : (s : ℕ → ℕ → Content) (φ : ℕ → Signals) → IsNamed run s φ → noted.moves.items ≡ moves_in run φ p c.first (suc (cycle (posted c p) p) - c.first)
          more s φ named =
              let t : c.first + (suc (cycle c p) - c.first) ≡ suc (cycle c p) = omega arith in
              let n : suc (cycle (posted c p) p) - c.first ≡ suc (suc (cycle c p) - c.first) = (let e = there p refl in omega arith) in
              let last = noted.items (φ (suc (cycle c p))) (shown s φ named) in
              let whole = moves_further run φ p c.first (suc (cycle c p) - c.first) in
              last ∙ (ap (λ (ms : List Move). ms ++ moves_on (φ (suc (cycle c p))) (suc (cycle c p)) (channels_in run.net (label_at run.labels) p)) (are.of p noted.was noted.at s φ named)
              ∙ (ap (λ (k : ℕ). moves_in run φ p c.first (suc (cycle c p) - c.first) ++ moves_on (φ k) k (channels_in run.net (label_at run.labels) p)) (sym t)
              ∙ (sym whole ∙ ap (moves_in run φ p c.first) (sym n))))

    pub newest_posted : (newest after : List (Option Newest)) (it : Newest) → IsNewest run p (suc (cycle c p)) it → ((s : ℕ → ℕ → Content) (φ : ℕ → Signals) → IsNamed run s φ → row_of it.row ≡ row_at run s φ p (suc (cycle c p))) → AreNewest run c newest → after ≡ set newest p (Some it) → AreNewest run (posted c p) after
    newest_posted newest after it fits rows are e =
        subst (λ (l : List (Option Newest)). AreNewest run (posted c p) l) (sym e) (record {
          whole = length-set newest p (Some it) ∙ are.whole;
          fit = λ q x at. elim (set_cases newest p (Some it) q (Some x) inside at) [
            | inl h ↦ subst (λ (y : Newest). IsNewest run q (cycle (posted c p) q) y) (same_Some it x h.1) (subst (λ (m : ℕ). IsNewest run q m it) (sym (there q h.0)) (subst (λ (r : ℕ). IsNewest run r (suc (cycle c p)) it) (sym h.0) fits))
            | inr h ↦ subst (λ (m : ℕ). IsNewest run q m x) (sym (elsewhere q h.0)) (are.fit q x h.1)
          ];
          of = λ q x at s φ named. elim (set_cases newest p (Some it) q (Some x) inside at) [
            | inl h ↦ ap (λ (y : Newest). row_of y.row) (sym (same_Some it x h.1)) ∙ (rows s φ named ∙ (ap (λ (r : ℕ). row_at run s φ r (suc (cycle c p))) (sym h.0) ∙ ap (row_at run s φ q) (sym (there q h.0))))
            | inr h ↦ are.of q x h.1 s φ named ∙ ap (row_at run s φ q) (sym (elsewhere q h.0))
          ];
        }) where
          inside : p < length newest
          inside = let w = are.whole in omega arith

    -- the moves on the far channels: what the part had of its next cycle is that of its own
    module _ (far turned : List TwoCycles) (are : AreFar run c far) (turn : IsTurnedAt far p turned)
      where
        inside : p < length far
        inside = let w = are.whole in omega arith

        pub turned_long : length turned ≡ c.count
        turned_long = ap length turn.new_is ∙ (length-set far p (record { now = turn.was.next; next = turn.was.now }) ∙ are.whole)

        which : (q : ℕ) (was : TwoCycles) → slice_get turned q ≡ Some was → ((q ≡ p) × (record { now = turn.was.next; next = turn.was.now } ≡ was)) ⊎ ((q ≢ p) × (slice_get far q ≡ Some was))
        which q was at = set_cases far p (record { now = turn.was.next; next = turn.was.now }) q was inside (ap (λ (l : List TwoCycles). slice_get l q) (sym turn.new_is) ∙ at)

        pub now_long : (q : ℕ) (was : TwoCycles) → slice_get turned q ≡ Some was → length was.now ≡ length (cuts_in run.net (label_at run.labels) q)
        now_long q was at = elim (which q was at) [
          | inl h ↦ sym (ap (λ (x : TwoCycles). length x.now) h.1) ∙ (are.next_whole p turn.was turn.at ∙ ap (λ (r : ℕ). length (cuts_in run.net (label_at run.labels) r)) (sym h.0))
          | inr h ↦ are.now_whole q was h.1
        ]

        pub next_long : (q : ℕ) (was : TwoCycles) → slice_get turned q ≡ Some was → length was.next ≡ length (cuts_in run.net (label_at run.labels) q)
        next_long q was at = elim (which q was at) [
          | inl h ↦ sym (ap (λ (x : TwoCycles). length x.next) h.1) ∙ (are.now_whole p turn.was turn.at ∙ ap (λ (r : ℕ). length (cuts_in run.net (label_at run.labels) r)) (sym h.0))
          | inr h ↦ are.next_whole q was h.1
        ]

        -- and its neighbours are told
        module _ (near : (q r : ℕ) → q < c.count → (is_near c q r ≡ true) ↔ AreNeighbours run.net (label_at run.labels) q r) (others : (r : ℕ) → AreNeighbours run.net (label_at run.labels) p r → (r < c.count) × (r ≢ p)) (after : List TwoCycles) (wires : List Wire) (level : ℕ → Bool) (level_is : (q : ℕ) → level q ≡ nat_eq (cycle c q) (suc (cycle c p))) (told : AreTold run.net (label_at run.labels) p wires level turned after) (shown : (s : ℕ → ℕ → Content) (φ : ℕ → Signals) → IsNamed run s φ → wires ≡ map (wire_of (φ (suc (cycle c p)))) (channels_in run.net (label_at run.labels) p))
          where
            within : (q : ℕ) (it : TwoCycles) → slice_get after q ≡ Some it → q < c.count
            within q it at = let w = slice_get_within after q it at in let t = told.whole in let l = turned_long in omega arith

            before : (q : ℕ) (it : TwoCycles) → slice_get after q ≡ Some it → (was : TwoCycles) × (slice_get turned q ≡ Some was)
            before q it at = item_at turned q (let w = within q it at in let l = turned_long in omega arith)

            told_of : (q : ℕ) (it : TwoCycles) (at : slice_get after q ≡ Some it) → IsTold run.net (label_at run.labels) p q (level q) (before q it at).0 it
            told_of q it at = told.each q (before q it at).0 it (before q it at).1 at

            back : (q : ℕ) → q < c.count → AreNeighbours run.net (label_at run.labels) q p → is_near c p q ≡ true
            back q h is = core.both_ways q p ((near q p h).1 is)

            heard_of : (q : ℕ) (it : TwoCycles) → slice_get after q ≡ Some it → AreNeighbours run.net (label_at run.labels) q p → (s : ℕ → ℕ → Content) (φ : ℕ → Signals) → IsNamed run s φ → (b : Bool) → level q ≡ b → AreFarFrom run.net (label_at run.labels) q p (φ (suc (cycle c p))) (cond b it.now it.next)
            heard_of q it at is s φ named b same =
                subst (λ (x : Bool). AreFarFrom run.net (label_at run.labels) q p (φ (suc (cycle c p))) (cond x it.now it.next)) same
                (told.heard q it ((near p q part).0 (back q (within q it at) is)) at (φ (suc (cycle c p))) (shown s φ named))

            level_true : (q : ℕ) → cycle c q ≡ suc (cycle c p) → level q ≡ true
            level_true q e = level_is q ∙ eq-eqb (cycle c q) (suc (cycle c p)) e

            level_false : (q : ℕ) → cycle c q ≢ suc (cycle c p) → level q ≡ false
            level_false q ne = elim (eqb_tells (cycle c q) (suc (cycle c p))) [ inl t ↦ absurd (ne t.1) | inr t ↦ level_is q ∙ t.0 ]

            now_mine : (r : ℕ) (it : TwoCycles) → slice_get after p ≡ Some it → AreNeighbours run.net (label_at run.labels) p r → cycle (posted c p) p ≤ cycle (posted c p) r → (s : ℕ → ℕ → Content) (φ : ℕ → Signals) → IsNamed run s φ → AreFarFrom run.net (label_at run.labels) p r (φ (cycle (posted c p) p)) it.now
            now_mine r it at is later s φ named =
                let b = before p it at in
                let t = told_of p it at in
                let ne = (others r is).1 in
                let same = elsewhere r ne in
                let mine_at = there p refl in
                elim (which p b.0 b.1) [
                  | inl h ↦
                      let had = are.next p r turn.was turn.at is (omega arith) s φ named in
                      let now : AreFarFrom run.net (label_at run.labels) p r (φ (suc (cycle c p))) b.0.now = subst (λ (x : TwoCycles). AreFarFrom run.net (label_at run.labels) p r (φ (suc (cycle c p))) x.now) h.1 had in
                      subst (λ (m : ℕ). AreFarFrom run.net (label_at run.labels) p r (φ m) it.now) (sym mine_at) (λ k d cut. t.now_rest r k d cut ne ∙ now k d cut)
                  | inr h ↦ absurd (h.0 refl)
                ]

            now_other : (q r : ℕ) (it : TwoCycles) → q ≢ p → slice_get after q ≡ Some it → AreNeighbours run.net (label_at run.labels) q r → cycle (posted c p) q ≤ cycle (posted c p) r → (s : ℕ → ℕ → Content) (φ : ℕ → Signals) → IsNamed run s φ → AreFarFrom run.net (label_at run.labels) q r (φ (cycle c q)) it.now
            now_other q r it ne at is later s φ named =
                let b = before q it at in
                let t = told_of q it at in
                let here = elsewhere q ne in
                elim (which q b.0 b.1) [
                  | inl h ↦ absurd (ne h.0)
                  | inr h ↦ elim (eqb_tells r p) [
                    | inl u ↦
                        let to_p : AreNeighbours run.net (label_at run.labels) q p = subst (λ (x : ℕ). AreNeighbours run.net (label_at run.labels) q x) u.1 is in
                        let up = there r u.1 in
                        elim (eqb_tells (cycle c q) (suc (cycle c p))) [
                          | inl v ↦ subst (λ (x : ℕ). AreFarFrom run.net (label_at run.labels) q x (φ (cycle c q)) it.now) (sym u.1) (subst (λ (m : ℕ). AreFarFrom run.net (label_at run.labels) q p (φ m) it.now) (sym v.1) (heard_of q it at to_p s φ named true (level_true q v.1)))
                          | inr v ↦ subst (λ (x : ℕ). AreFarFrom run.net (label_at run.labels) q x (φ (cycle c q)) it.now) (sym u.1) (subst (λ (l : List (Option ℕ)). AreFarFrom run.net (label_at run.labels) q p (φ (cycle c q)) l) (sym (t.now_same (level_false q v.1))) (are.now q p b.0 h.1 to_p (let no = v.1 in omega arith) s φ named))
                        ]
                    | inr u ↦
                        let same = elsewhere r u.1 in
                        let had = are.now q r b.0 h.1 is (omega arith) s φ named in
                        λ k d cut. t.now_rest r k d cut u.1 ∙ had k d cut
                  ]
                ]

            next_mine : (r : ℕ) → AreNeighbours run.net (label_at run.labels) p r → cycle (posted c p) p < cycle (posted c p) r → ⊥
            next_mine r is later =
                let other = others r is in
                let same = elsewhere r other.1 in
                let mine_at = there p refl in
                let close = core.close r p other.0 part (core.both_ways p r ((near p r part).1 is)) in
                omega arith

            next_other : (q r : ℕ) (it : TwoCycles) → q ≢ p → slice_get after q ≡ Some it → AreNeighbours run.net (label_at run.labels) q r → cycle (posted c p) q < cycle (posted c p) r → (s : ℕ → ℕ → Content) (φ : ℕ → Signals) → IsNamed run s φ → AreFarFrom run.net (label_at run.labels) q r (φ (suc (cycle c q))) it.next
            next_other q r it ne at is later s φ named =
                let b = before q it at in
                let t = told_of q it at in
                let here = elsewhere q ne in
                elim (which q b.0 b.1) [
                  | inl h ↦ absurd (ne h.0)
                  | inr h ↦ elim (eqb_tells r p) [
                    | inl u ↦
                        let to_p : AreNeighbours run.net (label_at run.labels) q p = subst (λ (x : ℕ). AreNeighbours run.net (label_at run.labels) q x) u.1 is in
                        let up = there r u.1 in
                        let last = core.out_last p q part (within q it at) out (back q (within q it at) to_p) in
                        let same : cycle c q ≡ cycle c p = omega arith in
                        let not_level : cycle c q ≢ suc (cycle c p) = omega arith in
                        subst (λ (x : ℕ). AreFarFrom run.net (label_at run.labels) q x (φ (suc (cycle c q))) it.next) (sym u.1) (subst (λ (m : ℕ). AreFarFrom run.net (label_at run.labels) q p (φ (suc m)) it.next) (sym same) (heard_of q it at to_p s φ named false (level_false q not_level)))
                    | inr u ↦
                        let same = elsewhere r u.1 in
                        let had = are.next q r b.0 h.1 is (omega arith) s φ named in
                        λ k d cut. t.next_rest r k d cut u.1 ∙ had k d cut
                  ]
                ]

            pub far_posted : AreFar run (posted c p) after
            far_posted = record {
              whole = told.whole ∙ turned_long;
              now_whole = λ q it at. (told_of q it at).now_whole ∙ now_long q (before q it at).0 (before q it at).1;
              next_whole = λ q it at. (told_of q it at).next_whole ∙ next_long q (before q it at).0 (before q it at).1;
              now = λ q r it at is later s φ named. elim (eqb_tells q p) [
                | inl t ↦ subst (λ (x : ℕ). slice_get after x ≡ Some it → AreNeighbours run.net (label_at run.labels) x r → cycle (posted c p) x ≤ cycle (posted c p) r → AreFarFrom run.net (label_at run.labels) x r (φ (cycle (posted c p) x)) it.now) (sym t.1) (λ a b d. now_mine r it a b d s φ named) at is later
                | inr t ↦ subst (λ (m : ℕ). AreFarFrom run.net (label_at run.labels) q r (φ m) it.now) (sym (elsewhere q t.1)) (now_other q r it t.1 at is later s φ named)
              ];
              next = λ q r it at is later s φ named. elim (eqb_tells q p) [
                | inl t ↦ absurd (next_mine r (subst (λ (x : ℕ). AreNeighbours run.net (label_at run.labels) x r) t.1 is) (subst (λ (x : ℕ). cycle (posted c p) x < cycle (posted c p) r) t.1 later))
                | inr t ↦ subst (λ (m : ℕ). AreFarFrom run.net (label_at run.labels) q r (φ (suc m)) it.next) (sym (elsewhere q t.1)) (next_other q r it t.1 at is later s φ named)
              ];
            }

-- ---- the floor rises

-- a post raises the floor by one at most
pub floor_rises : (c : Core) (p floor next : ℕ) → IsCore c → p < c.count → IsFloor c floor → IsFloor (posted c p) next → (next ≡ floor) ⊎ (next ≡ suc floor)
floor_rises c p floor next core part is is_next =
    let up = rises c p is_next.part core.whole part in
    let low = is.least is_next.part is_next.is_part in
    let at = is_next.at in
    let least = is_next.least is.part is.is_part in
    let was = is.at in
    let most : cycle (posted c p) is.part ≤ suc (cycle c is.part) = elim (eqb_tells is.part p) [
      | inl t ↦ (let e : cycle (posted c p) is.part ≡ suc (cycle c p) = ap (cycle (posted c p)) t.1 ∙ cycle_there c core.whole p part in let f : cycle c is.part ≡ cycle c p = ap (cycle c) t.1 in omega arith)
      | inr t ↦ (let e = cycle_elsewhere c core.whole p part is.part t.1 in omega arith)
    ] in
    elim (cases_lt floor next) [
      | inl more ↦ inr (omega arith)
      | inr same ↦ inl (omega arith)
    ]

drop_more : {X : Type 0} (xs : List X) → 0 < length xs → length xs ≡ suc (length (drop 1 xs))
drop_more [] h = absurd (omega arith)
drop_more (x ∷ xs) h = refl

pub logs_risen : (run : RunName) (d : Core) (floor : ℕ) (logs after : List RowLog) → ((s : ℕ → ℕ → Content) × ((φ : ℕ → Signals) × IsNamed run s φ)) → AreLogs run d floor logs → AreRisen logs after → ((q : ℕ) (log : RowLog) → slice_get logs q ≡ Some log → 0 < length log.changes.items) → AreLogs run d (suc floor) after
logs_risen run d floor logs after found are risen some = record {
  whole = risen.whole ∙ are.whole;
  roomy = λ q log at. (let b = before q log at in (rows_of q log at found.0 found.1.0 found.1.1).roomy);
  long = λ q log at. (let b = before q log at in let e = ap length (risen.each q b.0 log b.1 at).changes in let m = drop_more b.0.changes.items (some q b.0 b.1) in let l = are.long q b.0 b.1 in omega arith);
  room = λ q log at is. (let b = before q log at in let r = risen.each q b.0 log b.1 at in let e = ap length r.changes in let m = drop_more b.0.changes.items (some q b.0 b.1) in let l = are.room q b.0 b.1 is in let f = r.room in omega arith);
  of = λ q log at s φ named. (rows_of q log at s φ named).of;
} where
  before : (q : ℕ) (log : RowLog) → slice_get after q ≡ Some log → (was : RowLog) × (slice_get logs q ≡ Some was)
  before q log at = item_at logs q (let w = slice_get_within after q log at in let l = risen.whole in omega arith)

  rows_of : (q : ℕ) (log : RowLog) → slice_get after q ≡ Some log → (s : ℕ → ℕ → Content) (φ : ℕ → Signals) → IsNamed run s φ → IsRoomyLog run.net (label_at run.labels) q (λ k. row_at run s φ q (suc floor + k)) log
  rows_of q log at s φ named =
      let b = before q log at in
      let up = (risen.each q b.0 log b.1 at).rows run.net (label_at run.labels) q (λ k. row_at run s φ q (floor + k)) (record { of = are.of q b.0 b.1 s φ named; roomy = are.roomy q b.0 b.1 }) in
      subst (λ (f : ℕ → Row). IsRoomyLog run.net (label_at run.labels) q f log) (fun_ext (λ k. ap (row_at run s φ q) (next k))) up where
        next : (k : ℕ) → floor + suc k ≡ suc floor + k
        next k = omega arith

-- ---- the board

-- part p comes in, one cycle on
pub record ComesIn (b : Boarded) (p : ℕ) (it : Newest) (change : Change) : Type 0 where
  pub part : p < b.core.count
  pub out : is_out b.core p ≡ true
  pub newest : IsNewest b.run p (suc (cycle b.core p)) it
  pub stands : (s : ℕ → ℕ → Content) (φ : ℕ → Signals) → IsNamed b.run s φ → HasStepped b.run s φ p (cycle b.core p) it change

pub comes_in : (a b : Boarded) (p : ℕ) (it : Newest) (change : Change) → a ≡ b → ComesIn b p it change → ComesIn a p it change
comes_in a b p it change e is = subst (λ (x : Boarded). ComesIn x p it change) (sym e) is

module _ (design : Designed) (tape : Taped) (parts : Division) (c : Core) (floor : ℕ) (logs : List RowLog) (moves : List (ListView Move)) (far : List TwoCycles) (newest : List (Option Newest)) (p : ℕ) (it : Newest) (change : Change) (is_design : IsDesigned design) (fit : FitsHold) (law : CapacityLaw) (core : IsCore c) (comes : ComesIn (record { run = run_in design parts tape; core = c }) p it change) (is : IsBoard design tape parts c floor logs moves far newest)
  where
    shown : (s : ℕ → ℕ → Content) (φ : ℕ → Signals) → IsNamed (run_in design parts tape) s φ → it.row.wires.items ≡ map (wire_of (φ (suc (cycle c p)))) (channels_in design.net (label_at parts.labels) p)
    shown s φ named = ap (λ (r : Row). r.wires) (comes.stands s φ named).row

    fits_in : (s : ℕ → ℕ → Content) (φ : ℕ → Signals) → IsNamed (run_in design parts tape) s φ → IsWithinCapacities design.net (row_at (run_in design parts tape) s φ p (suc (cycle c p)))
    fits_in s φ named =
        let early = core.out_early p comes.part comes.out in
        let target = is.set_up.target in
        law design.net (label_at parts.labels) p (s (suc (cycle c p))) (φ (suc (cycle c p)))
        (fit design.net design.order (cycles_of tape) (chosen design.net.prims (rows_of tape)) s φ is_design.net is_design.order is.set_up.fits named (suc (cycle c p)) (omega arith))

    pub pushed_logs : (pushed : List RowLog) → IsPushedAt logs p change pushed → AreLogs (run_in design parts tape) (posted c p) floor pushed
    pushed_logs pushed push = logs_pushed (run_in design parts tape) c core p comes.part comes.out floor logs pushed change is.logs_are push (λ s φ named. (comes.stands s φ named).change_is) fits_in

    pub pushed_some : (pushed : List RowLog) (d : Core) (next : ℕ) → IsPushedAt logs p change pushed → d ≡ posted c p → IsFloor d next → nat_lt floor next ≡ true → (q : ℕ) (log : RowLog) → slice_get pushed q ≡ Some log → 0 < length log.changes.items
    pushed_some pushed d next push to is_next less q log at =
        let are = pushed_logs pushed push in
        let more = ltb-true floor next less in
        let there = subst (λ (x : Core). IsFloor x next) to is_next in
        let long = are.long q log at in
        let low = there.least q (let w = slice_get_within pushed q log at in let l = are.whole in omega arith) in
        omega arith

    pub pushed_rows : OneRun → (pushed : List RowLog) → IsPushedAt logs p change pushed → (q : ℕ) (log : RowLog) → slice_get pushed q ≡ Some log → IsLog log
    pushed_rows one pushed push q log at =
        let are = pushed_logs pushed push in
        let found = (one design.net design.order (cycles_of tape) (chosen design.net.prims (rows_of tape)) is_design.net is_design.order).0 in
        record {
          net = design.net;
          label = label_at parts.labels;
          part = q;
          rows = λ k. row_at (run_in design parts tape) found.0 found.1.0 q (floor + k);
          is = record { of = are.of q log at found.0 found.1.0 found.1.1; roomy = are.roomy q log at };
        }

    risen_logs : OneRun → (pushed risen : List RowLog) (next : ℕ) → IsPushedAt logs p change pushed → IsFloor (posted c p) next → (b : Bool) → nat_lt floor next ≡ b → AreRisenIf b pushed risen → AreLogs (run_in design parts tape) (posted c p) next risen
    risen_logs one pushed risen next push is_next true less are =
        let more = ltb-true floor next less in
        let found = (one design.net design.order (cycles_of tape) (chosen design.net.prims (rows_of tape)) is_design.net is_design.order).0 in
        elim (floor_rises c p floor next core comes.part is.floor_is is_next) [
          | inl same ↦ absurd (omega arith)
          | inr up ↦ subst (λ (f : ℕ). AreLogs (run_in design parts tape) (posted c p) f risen) (sym up) (logs_risen (run_in design parts tape) (posted c p) floor pushed risen found (pushed_logs pushed push) are (pushed_some pushed (posted c p) next push refl is_next less))
        ]
    risen_logs one pushed risen next push is_next false less are =
        let not_more = ltb-false floor next less in
        elim (floor_rises c p floor next core comes.part is.floor_is is_next) [
          | inl same ↦ subst (λ (f : ℕ). AreLogs (run_in design parts tape) (posted c p) f risen) (sym same) (subst (λ (l : List RowLog). AreLogs (run_in design parts tape) (posted c p) floor l) (sym are) (pushed_logs pushed push))
          | inr up ↦ absurd (omega arith)
        ]

    set_up_posted : IsSetUp design tape parts (posted c p)
    set_up_posted = record {
      design_is = is.set_up.design_is;
      count = is.set_up.count;
      fits = is.set_up.fits;
      target = is.set_up.target;
      begun = λ q h. (let up = rises c p q core.whole comes.part in let b = is.set_up.begun q h in omega arith);
      near = is.set_up.near;
      others = is.set_up.others;
    }

    pub board_posted : OneRun → (d : Core) (next : ℕ) (pushed risen : List RowLog) (noted : List (ListView Move)) (turned told : List TwoCycles) (after : List (Option Newest)) (level : ℕ → Bool) → d ≡ posted c p → IsFloor d next → IsPushedAt logs p change pushed → AreRisenIf (nat_lt floor next) pushed risen → AreNotedAt moves p (suc (cycle c p)) (channels_in design.net (label_at parts.labels) p) it.row.wires.items noted → IsTurnedAt far p turned → AreTold design.net (label_at parts.labels) p it.row.wires.items level turned told → ((q : ℕ) → level q ≡ nat_eq (cycle c q) (suc (cycle c p))) → after ≡ set newest p (Some it) → IsBoard design tape parts d next risen noted told after
    board_posted one d next pushed risen noted turned told after level to is_next push rise note turn tell level_is put =
        let there = subst (λ (x : Core). IsFloor x next) to is_next in
        subst (λ (x : Core). IsBoard design tape parts x next risen noted told after) (sym to) (record {
          set_up = set_up_posted;
          floor_is = there;
          logs_are = risen_logs one pushed risen next push there (nat_lt floor next) refl rise;
          moves_are = moves_posted (run_in design parts tape) c core p comes.part comes.out moves noted it.row.wires.items is.moves_are note (is.set_up.begun p comes.part) shown;
          far_are = far_posted (run_in design parts tape) c core p comes.part comes.out far turned is.far_are turn is.set_up.near (λ r. is.set_up.others p r comes.part) told it.row.wires.items level level_is tell shown;
          newest_are = newest_posted (run_in design parts tape) c core p comes.part comes.out newest after it comes.newest (λ s φ named. (comes.stands s φ named).row) is.newest_are put;
        })
