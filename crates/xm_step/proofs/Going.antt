-- The cells of the queues, and then those of the other primitives, past a cycle.
use Rattle.std.proofs.Common.{◌≡◌, ◌⊎◌, ◌&&◌, ◌||◌, is_some, ℕ, ◌+◌, ◌<◌, ◌≤◌, Bool, true, false, nat_lt, List, [], ◌∷◌, Option, Some, None, drop, length, set, get_or, slice_get, refl, sym, ap, ap₂, ◌∙◌, subst, inl, inr, arith, length-append, length-drop}
use Rattle.std.specs.Option.{option_to_list}
use Rattle.std.proofs.lemmas.Bool.{cases_lt, ltb-true}
use Rattle.std.proofs.lemmas.List.{get_or_default}
use Rattle.std.proofs.lemmas.Option.{slice_get_within}
use Rattle.xm_model.specs.Component.{Component, Fork, Function, Join, Merge, Queue, Sink, Source, Switch, content_of}
use Rattle.xm_model.specs.Next.{joined, left, move, next_held, next_pending, next_pref}
use Rattle.xm_model.specs.Signals.{Signals, grant, only_if, pref_in}
use Rattle.xm_model.specs.declared.state.Cell.{Cell}
use Rattle.xm_model.specs.declared.state.Cell.TheVariants as cell
use Rattle.xm_step.specs.Advanced.{IsAdvanced, IsGuarded}
use Rattle.xm_step.specs.Inner.Cells.{AllAdvance, CanAdvance, CanGoOn, HaveGone, IsGuardedBy, KeptAdvance}
use Rattle.xm_step.specs.Still.{HoldsNothing}
use Rattle.xm_step.specs.Inner.Kinds.{AreKindsTo, IsAmongBoth, IsAmongQueues, IsHolderAt, IsQueueAt}
use Rattle.xm_step.specs.declared.kinds.Holder.{Holder}
use Rattle.xm_step.specs.declared.kinds.Holding.TheVariants as holding
use Rattle.xm_model.specs.declared.primitive.SinkMode.{SinkMode}
use Rattle.xm_model.specs.declared.primitive.SourceMode.{SourceMode}
use Rattle.xm_step.specs.Roomy.{IsRoomy, IsRoomyCell, cell_at}
use Rattle.xm_step.specs.declared.kinds.QueuePlace.{QueuePlace}
use Rattle.xm_model.specs.Ports.{queue_input, queue_output}
use Rattle.xm_plan.specs.Schedule.{ArePlaced}
use Rattle.xm_running.specs.Passing.{HasRoom, passed}
use Rattle.xm_step.proofs.Advancing.{gone_more}

pub can_from : (input out capacity : ℕ) (initial : List ℕ) (x : Cell) (φ : Signals) → IsRoomyCell (Queue input out capacity initial) x → IsGuarded (Queue input out capacity initial) x φ → CanAdvance input out capacity x φ
can_from input out capacity initial (cell.Packets q) φ roomy guarded = (roomy, guarded)
can_from input out capacity initial (cell.Pending d) φ roomy guarded = absurd roomy
can_from input out capacity initial (cell.Held h) φ roomy guarded = absurd roomy
can_from input out capacity initial (cell.Pref s) φ roomy guarded = absurd roomy
can_from input out capacity initial cell.Nothing φ roomy guarded = absurd roomy

joined_length : (ps : List ℕ) (leaves comes : Option ℕ) → length (joined (left ps leaves) comes) ≤ length ps + length (option_to_list comes)
joined_length ps None None = omega arith
joined_length ps None (Some d) = omega (arith, length-append ps (d ∷ []))
joined_length ps (Some e) None = omega (arith, length-drop 1 ps)
joined_length ps (Some e) (Some d) = omega (arith, length-drop 1 ps, length-append (drop 1 ps) (d ∷ []))

-- what comes into a queue that keeps its capacity has room
comes_within : (n capacity input : ℕ) (φ : Signals) → n ≤ capacity → φ.ready input ≡ nat_lt n capacity → n + length (option_to_list (move φ input)) ≤ capacity
comes_within n capacity input φ within guarded = by_move (φ.ready input) (φ.offer input) guarded where
  by_move : (r : Bool) (o : Option ℕ) → r ≡ nat_lt n capacity → n + length (option_to_list (only_if r o)) ≤ capacity
  by_move false o e = omega arith
  by_move true None e = omega arith
  by_move true (Some d) e = let less = ltb-true n capacity (sym e) in omega arith

pub pass_has_room : (input out capacity : ℕ) (x : Cell) (φ : Signals) (comes : Option ℕ) → comes ≡ move φ input → CanAdvance input out capacity x φ → HasRoom x comes
pass_has_room input out capacity (cell.Packets q) φ comes is can =
    let h = comes_within (length q.items) capacity input φ can.0.0 can.1 in
    let room = can.0.1 in
    subst (λ (o : Option ℕ). length q.items + length (option_to_list o) ≤ q.room) (sym is) (omega arith)
pass_has_room input out capacity (cell.Pending d) φ comes is can = tt
pass_has_room input out capacity (cell.Held h) φ comes is can = tt
pass_has_room input out capacity (cell.Pref s) φ comes is can = tt
pass_has_room input out capacity cell.Nothing φ comes is can = tt

went_from : (input out capacity : ℕ) (initial : List ℕ) (x : Cell) (φ : Signals) → CanAdvance input out capacity x φ → IsAdvanced (Queue input out capacity initial) x (passed x (move φ out) (move φ input)) φ
went_from input out capacity initial (cell.Packets q) φ can = record {
  content = refl;
  roomy = (
    (let h = comes_within (length q.items) capacity input φ can.0.0 can.1 in
        let j = joined_length q.items (move φ out) (move φ input) in
        omega arith),
    can.0.1,
  );
  room = refl;
}
went_from input out capacity initial (cell.Pending d) φ can = absurd can.0
went_from input out capacity initial (cell.Held h) φ can = absurd can.0
went_from input out capacity initial (cell.Pref s) φ can = absurd can.0
went_from input out capacity initial cell.Nothing φ can = absurd can.0

pub pass_went : (input out capacity : ℕ) (initial : List ℕ) (x y : Cell) (φ : Signals) (leaves comes : Option ℕ) → leaves ≡ move φ out → comes ≡ move φ input → y ≡ passed x leaves comes → CanAdvance input out capacity x φ →
    IsAdvanced (Queue input out capacity initial) x y φ
pass_went input out capacity initial x y φ leaves comes leaves_is comes_is went can =
    let end : passed x (move φ out) (move φ input) ≡ y = sym (went ∙ ap₂ (passed x) leaves_is comes_is) in
    subst (λ (z : Cell). IsAdvanced (Queue input out capacity initial) x z φ) end (went_from input out capacity initial x φ can)

-- where nothing passes, the cell stays
pub none_passed : (x : Cell) → passed x None None ≡ x
none_passed (cell.Packets q) = refl
none_passed (cell.Pending d) = refl
none_passed (cell.Held h) = refl
none_passed (cell.Pref s) = refl
none_passed cell.Nothing = refl

-- where neither of two channels has a move, nothing moves on them
neither_true : (a b : Bool) → (a || b) ≡ false → (a ≡ false) × (b ≡ false)
neither_true false b none = (refl, none)
neither_true true b none = absurd cc

unmoved : (ready : Bool) (offer : Option ℕ) → (ready && is_some offer) ≡ false → only_if ready offer ≡ None
unmoved false offer none = refl
unmoved true None none = refl
unmoved true (Some d) none = absurd cc

pub neither_moves : (φ : Signals) (a b : ℕ) (any : Bool) → any ≡ ((φ.ready a && is_some (φ.offer a)) || (φ.ready b && is_some (φ.offer b))) → any ≡ false → (move φ a ≡ None) × (move φ b ≡ None)
neither_moves φ a b any is none =
    let both = neither_true (φ.ready a && is_some (φ.offer a)) (φ.ready b && is_some (φ.offer b)) (sym is ∙ none) in
    (unmoved (φ.ready a) (φ.offer a) both.0, unmoved (φ.ready b) (φ.offer b) both.1)

pub passed_as : (x y : Cell) (leaves comes l k : Option ℕ) → y ≡ passed x leaves comes → leaves ≡ l → comes ≡ k → y ≡ passed x l k
passed_as x y leaves comes l k went leaves_is comes_is = went ∙ ap₂ (passed x) leaves_is comes_is

-- what each kind holds goes on
pub queue_of : (m : Component) (x : Cell) (φ : Signals) (input out : ℕ) → CanGoOn (holding.Packets input out) m x φ → (capacity : ℕ) × CanAdvance input out capacity x φ
queue_of (Source o cs md) x φ input out can = let h = can.0 in absurd cc
queue_of (Sink i md) x φ input out can = let h = can.0 in absurd cc
queue_of (Queue i o cap ini) x φ input out can = let h = can.0 in let same_input : i ≡ input = cc in let same_out : o ≡ out = cc in (cap, subst (λ (c : ℕ). CanAdvance c out cap x φ) same_input (subst (λ (c : ℕ). CanAdvance i c cap x φ) same_out (can_from i o cap ini x φ can.1.0 can.1.1)))
queue_of (Function i o t) x φ input out can = let h = can.0 in absurd cc
queue_of (Fork i p q t u) x φ input out can = let h = can.0 in absurd cc
queue_of (Join p q o s) x φ input out can = let h = can.0 in absurd cc
queue_of (Switch i p q t) x φ input out can = let h = can.0 in absurd cc
queue_of (Merge p q o) x φ input out can = let h = can.0 in absurd cc

pub packets_went : (m : Component) (x y : Cell) (φ : Signals) (input out : ℕ) → CanGoOn (holding.Packets input out) m x φ →
    ((capacity : ℕ) (initial : List ℕ) → CanAdvance input out capacity x φ → IsAdvanced (Queue input out capacity initial) x y φ) → IsAdvanced m x y φ
packets_went (Source o cs md) x y φ input out can went = let h = can.0 in absurd cc
packets_went (Sink i md) x y φ input out can went = let h = can.0 in absurd cc
packets_went (Queue i o cap ini) x y φ input out can went =
    let h = can.0 in
    let same_input : input ≡ i = cc in
    let same_out : out ≡ o = cc in
    let here : CanAdvance input out cap x φ = subst (λ (c : ℕ). CanAdvance c out cap x φ) (sym same_input) (subst (λ (c : ℕ). CanAdvance i c cap x φ) (sym same_out) (can_from i o cap ini x φ can.1.0 can.1.1)) in
    subst (λ (c : ℕ). IsAdvanced (Queue c o cap ini) x y φ) same_input (subst (λ (c : ℕ). IsAdvanced (Queue input c cap ini) x y φ) same_out (went cap ini here))
packets_went (Function i o t) x y φ input out can went = let h = can.0 in absurd cc
packets_went (Fork i p q t u) x y φ input out can went = let h = can.0 in absurd cc
packets_went (Join p q o s) x y φ input out can went = let h = can.0 in absurd cc
packets_went (Switch i p q t) x y φ input out can went = let h = can.0 in absurd cc
packets_went (Merge p q o) x y φ input out can went = let h = can.0 in absurd cc

pub pending_went : (m : Component) (x y : Cell) (φ : Signals) (out : ℕ) (mode : SourceMode) → CanGoOn (holding.Pending out mode) m x φ → y ≡ cell.Pending (next_pending mode (φ.offer out) (φ.ready out)) → IsAdvanced m x y φ
pending_went (Source o cs md) x y φ out mode can went = let h = can.0 in let a = ap content_of went in record { content = cc; roomy = tt; room = refl }
pending_went (Sink i md) x y φ out mode can went = let h = can.0 in absurd cc
pending_went (Queue i o cap ini) x y φ out mode can went = let h = can.0 in absurd cc
pending_went (Function i o t) x y φ out mode can went = let h = can.0 in absurd cc
pending_went (Fork i p q t u) x y φ out mode can went = let h = can.0 in absurd cc
pending_went (Join p q o s) x y φ out mode can went = let h = can.0 in absurd cc
pending_went (Switch i p q t) x y φ out mode can went = let h = can.0 in absurd cc
pending_went (Merge p q o) x y φ out mode can went = let h = can.0 in absurd cc

pub held_went : (m : Component) (x y : Cell) (φ : Signals) (input : ℕ) (mode : SinkMode) → CanGoOn (holding.Held input mode) m x φ → y ≡ cell.Held (next_held mode (φ.offer input) (φ.ready input)) → IsAdvanced m x y φ
held_went (Source o cs md) x y φ input mode can went = let h = can.0 in absurd cc
held_went (Sink i md) x y φ input mode can went = let h = can.0 in let a = ap content_of went in record { content = cc; roomy = tt; room = refl }
held_went (Queue i o cap ini) x y φ input mode can went = let h = can.0 in absurd cc
held_went (Function i o t) x y φ input mode can went = let h = can.0 in absurd cc
held_went (Fork i p q t u) x y φ input mode can went = let h = can.0 in absurd cc
held_went (Join p q o s) x y φ input mode can went = let h = can.0 in absurd cc
held_went (Switch i p q t) x y φ input mode can went = let h = can.0 in absurd cc
held_went (Merge p q o) x y φ input mode can went = let h = can.0 in absurd cc

pub pref_went : (m : Component) (x y : Cell) (φ : Signals) (a b out : ℕ) → CanGoOn (holding.Pref a b out) m x φ → y ≡ cell.Pref (next_pref (pref_in (content_of x)) (grant (pref_in (content_of x)) (φ.offer a) (φ.offer b)) (φ.ready out)) → IsAdvanced m x y φ
pref_went (Source o cs md) x y φ a b out can went = let h = can.0 in absurd cc
pref_went (Sink i md) x y φ a b out can went = let h = can.0 in absurd cc
pref_went (Queue i o cap ini) x y φ a b out can went = let h = can.0 in absurd cc
pref_went (Function i o t) x y φ a b out can went = let h = can.0 in absurd cc
pref_went (Fork i p q t u) x y φ a b out can went = let h = can.0 in absurd cc
pref_went (Join p q o s) x y φ a b out can went = let h = can.0 in absurd cc
pref_went (Switch i p q t) x y φ a b out can went = let h = can.0 in absurd cc
pref_went (Merge p q o) x y φ a b out can went = let h = can.0 in let e = ap content_of went in record { content = cc; roomy = tt; room = refl }

pub nothing_went : (m : Component) (x y : Cell) (φ : Signals) → CanGoOn holding.Nothing m x φ → y ≡ cell.Nothing → IsAdvanced m x y φ
nothing_went (Source o cs md) x y φ can went = let h = can.0 in absurd cc
nothing_went (Sink i md) x y φ can went = let h = can.0 in absurd cc
nothing_went (Queue i o cap ini) x y φ can went = let h = can.0 in absurd cc
nothing_went (Function i o t) x y φ can went = record { content = ap content_of went; roomy = tt; room = refl }
nothing_went (Fork i p q t u) x y φ can went = record { content = ap content_of went; roomy = tt; room = refl }
nothing_went (Join p q o s) x y φ can went = record { content = ap content_of went; roomy = tt; room = refl }
nothing_went (Switch i p q t) x y φ can went = record { content = ap content_of went; roomy = tt; room = refl }
nothing_went (Merge p q o) x y φ can went = let h = can.0 in absurd cc

-- the channels of a queue are places
pub queue_placed : (ms : List Component) (n : ℕ) (queues : List QueuePlace) (others : List Holder) → AreKindsTo ms n queues others → (places : ℕ) → ArePlaced ms places → (k : ℕ) (it : QueuePlace) → slice_get queues k ≡ Some it →
    (it.input < places) × (it.out < places)
queue_placed ms n queues others kinds places placed k it at =
    let has = (kinds.queue_at k it at).0.has in
    (placed it.prim _ it.input has (inr queue_input), placed it.prim _ it.out has (inl queue_output))

-- one queue more, and one other
pub queue_out : (queues : List QueuePlace) (k : ℕ) (it : QueuePlace) → slice_get queues k ≡ Some it → (q : ℕ) → IsAmongQueues queues (k + 1) q → IsAmongQueues queues k q ⊎ (q ≡ it.prim)
queue_out queues k it at q after = elim (cases_lt after.0 k) [
  | inl less ↦ inl (after.0, (after.1.0, (less, after.1.1.1)))
  | inr late ↦
      let bound = after.1.1.0 in
      let here_too : after.0 ≡ k = omega arith in
      let there = after.1.1.1.0 in
      let one : after.1.0 ≡ it = let e = ap (λ (j : ℕ). slice_get queues j) here_too in cc in
      inr (sym after.1.1.1.1 ∙ ap (λ (x : QueuePlace). x.prim) one)
]

pub queue_in : (queues : List QueuePlace) (k q : ℕ) → IsAmongQueues queues k q → IsAmongQueues queues (k + 1) q
queue_in queues k q b = (b.0, (b.1.0, ((let less = b.1.1.0 in omega arith), b.1.1.1)))

pub queue_here : (queues : List QueuePlace) (k : ℕ) (it : QueuePlace) → slice_get queues k ≡ Some it → IsAmongQueues queues (k + 1) it.prim
queue_here queues k it at = (k, (it, ((omega arith), (at, refl))))

pub other_out : (queues : List QueuePlace) (others : List Holder) (i : ℕ) (it : Holder) → slice_get others i ≡ Some it → (q : ℕ) → IsAmongBoth queues others (i + 1) q → IsAmongBoth queues others i q ⊎ (q ≡ it.prim)
other_out queues others i it at q after = elim after [
  | inl queue ↦ inl (inl queue)
  | inr other ↦ elim (cases_lt other.0 i) [
    | inl less ↦ inl (inr (other.0, (other.1.0, (less, other.1.1.1))))
    | inr late ↦
        let bound = other.1.1.0 in
        let here_too : other.0 ≡ i = omega arith in
        let there = other.1.1.1.0 in
        let one : other.1.0 ≡ it = let e = ap (λ (j : ℕ). slice_get others j) here_too in cc in
        inr (sym other.1.1.1.1 ∙ ap (λ (x : Holder). x.prim) one)
  ]
]

pub other_in : (queues : List QueuePlace) (others : List Holder) (i q : ℕ) → IsAmongBoth queues others i q → IsAmongBoth queues others (i + 1) q
other_in queues others i q b = elim b [ inl queue ↦ inl queue | inr other ↦ inr (other.0, (other.1.0, ((let less = other.1.1.0 in omega arith), other.1.1.1))) ]

pub other_here : (queues : List QueuePlace) (others : List Holder) (i : ℕ) (it : Holder) → slice_get others i ≡ Some it → IsAmongBoth queues others (i + 1) it.prim
other_here queues others i it at = inr (i, (it, ((omega arith), (at, refl))))

module _ (ms : List Component) (old : List Cell) (φ : Signals) (queues : List QueuePlace) (others : List Holder) (n : ℕ) (kinds : AreKindsTo ms n queues others) (roomy : IsRoomy ms old) (guarded : IsGuardedBy ms old φ) (whole : n ≡ length old) where
  queue_fresh : (k : ℕ) (it : QueuePlace) → slice_get queues k ≡ Some it → IsAmongQueues queues k it.prim → ⊥
  queue_fresh k it at among =
      let less = among.1.1.0 in
      let same = kinds.queues_once among.0 k among.1.0 it among.1.1.1.0 at among.1.1.1.1 in
      absurd (omega arith)

  pub other_fresh : (i : ℕ) (it : Holder) → slice_get others i ≡ Some it → IsAmongBoth queues others i it.prim → ⊥
  other_fresh i it at among = elim among [
    | inl queue ↦ kinds.apart queue.0 i queue.1.0 it queue.1.1.1.0 at queue.1.1.1.1
    | inr other ↦ (let less = other.1.1.0 in let same = kinds.others_once other.0 i other.1.0 it other.1.1.1.0 at other.1.1.1.1 in absurd (omega arith))
  ]

  module _ (now : List Cell) (len : length now ≡ length old) (k : ℕ) (it : QueuePlace) (at : slice_get queues k ≡ Some it) (before : HaveGone ms old now φ (IsAmongQueues queues k)) where
    is_queue : IsQueueAt ms it
    is_queue = (kinds.queue_at k it at).0

    pub queue_within : it.prim < length now
    queue_within = let h = (kinds.queue_at k it at).1 in omega arith

    queue_cell : (d : Cell) → get_or now it.prim d ≡ cell_at old it.prim
    queue_cell d = get_or_default now it.prim d cell.Nothing queue_within ∙ before.rest it.prim (queue_fresh k it at)

    pub queue_can : (d : Cell) → (capacity : ℕ) × CanAdvance it.input it.out capacity (get_or now it.prim d) φ
    queue_can d = (
      is_queue.capacity,
      subst (λ (x : Cell). CanAdvance it.input it.out is_queue.capacity x φ) (sym (queue_cell d))
          (can_from it.input it.out is_queue.capacity is_queue.initial (cell_at old it.prim) φ (roomy.roomy it.prim _ is_queue.has) (guarded.guarded it.prim _ is_queue.has)),
    )

    pub queue_gone : (d here : Cell) → ((capacity : ℕ) (initial : List ℕ) → CanAdvance it.input it.out capacity (get_or now it.prim d) φ → IsAdvanced (Queue it.input it.out capacity initial) (get_or now it.prim d) here φ) →
        HaveGone ms old (set now it.prim here) φ (IsAmongQueues queues (k + 1))
    unfolding is_queue queue_can
    queue_gone d here went =
        gone_more ms old now φ (IsAmongQueues queues k) (IsAmongQueues queues (k + 1)) it.prim (Queue it.input it.out is_queue.capacity is_queue.initial) here queue_within is_queue.has
        (queue_out queues k it at) (queue_in queues k) (queue_here queues k it at)
        (subst (λ (x : Cell). IsAdvanced (Queue it.input it.out is_queue.capacity is_queue.initial) x here φ) (queue_cell d) (went is_queue.capacity is_queue.initial (queue_can d).1))
        before

  module _ (now : List Cell) (len : length now ≡ length old) (i : ℕ) (it : Holder) (at : slice_get others i ≡ Some it) (before : HaveGone ms old now φ (IsAmongBoth queues others i)) where
    is_other : IsHolderAt ms it
    is_other = (kinds.other_at i it at).0

    pub other_within : it.prim < length now
    other_within = let h = (kinds.other_at i it at).1 in omega arith

    pub other_cell : (d : Cell) → get_or now it.prim d ≡ cell_at old it.prim
    other_cell d = get_or_default now it.prim d cell.Nothing other_within ∙ before.rest it.prim (other_fresh i it at)

    pub other_can : (d : Cell) → (m : Component) × CanGoOn it.holds m (get_or now it.prim d) φ
    other_can d = (
      is_other.prim,
      subst (λ (x : Cell). CanGoOn it.holds is_other.prim x φ) (sym (other_cell d))
          (is_other.holds, (roomy.roomy it.prim _ is_other.has, guarded.guarded it.prim _ is_other.has)),
    )

    pub other_gone : (d here : Cell) → ((m : Component) → CanGoOn it.holds m (get_or now it.prim d) φ → IsAdvanced m (get_or now it.prim d) here φ) → HaveGone ms old (set now it.prim here) φ (IsAmongBoth queues others (i + 1))
    unfolding is_other other_can
    other_gone d here went =
        gone_more ms old now φ (IsAmongBoth queues others i) (IsAmongBoth queues others (i + 1)) it.prim is_other.prim here other_within is_other.has
        (other_out queues others i it at) (other_in queues others i) (other_here queues others i it at)
        (subst (λ (x : Cell). IsAdvanced is_other.prim x here φ) (other_cell d) (went is_other.prim (other_can d).1))
        before

  pub all_gone : (now : List Cell) (i : ℕ) → length now ≡ length old → length others ≤ i → n ≡ length ms → HaveGone ms old now φ (IsAmongBoth queues others i) → KeptAdvance ms old now φ
  all_gone now i len all count gone = record {
    whole = len;
    advanced = λ p m has busy.
        let within = slice_get_within ms p m has in
        elim (kinds.whole p (omega arith)) [
          | inl queue ↦ gone.gone p m (inl (queue.0, (queue.1.0, (slice_get_within queues queue.0 queue.1.0 queue.1.1.0, queue.1.1)))) has
          | inr rest ↦ elim rest [
            | inl other ↦ gone.gone p m (inr (other.0, (other.1.0, ((let h = slice_get_within others other.0 other.1.0 other.1.1.0 in omega arith), other.1.1)))) has
            | inr idle ↦ absurd (busy (let there = idle.has in let same : idle.prim ≡ m = cc in subst HoldsNothing same idle.idle))
          ]
        ];
    rest = λ p m has nothing. gone.rest p (λ among. elim among [
      | inl queue ↦
          let at = kinds.queue_at queue.0 queue.1.0 queue.1.1.1.0 in
          let there : slice_get ms p ≡ Some (Queue queue.1.0.input queue.1.0.out at.0.capacity at.0.initial) = subst (λ (q : ℕ). slice_get ms q ≡ Some (Queue queue.1.0.input queue.1.0.out at.0.capacity at.0.initial)) queue.1.1.1.1 at.0.has in
          let same : m ≡ Queue queue.1.0.input queue.1.0.out at.0.capacity at.0.initial = cc in
          subst HoldsNothing same nothing
      | inr other ↦
          let at = kinds.other_at other.0 other.1.0 other.1.1.1.0 in
          let there : slice_get ms p ≡ Some at.0.prim = subst (λ (q : ℕ). slice_get ms q ≡ Some at.0.prim) other.1.1.1.1 at.0.has in
          let same : m ≡ at.0.prim = cc in
          at.0.busy (subst HoldsNothing same nothing)
    ]);
  }

pub each_cell : (ms : List Component) (old now : List Cell) (φ : Signals) (k : ℕ) (d : Cell) → length now ≡ length old → k < length old → HaveGone ms old now φ (λ q. q < k) → get_or now k d ≡ cell_at old k
each_cell ms old now φ k d len below before = get_or_default now k d cell.Nothing (omega arith) ∙ before.rest k (λ less. let h : k < k = less in absurd (omega arith))

-- one cell more of all, in order
pub each_gone : (ms : List Component) (old now : List Cell) (φ : Signals) (k : ℕ) (d here : Cell) (m : Component) → length now ≡ length old → k < length old → slice_get ms k ≡ Some m → HaveGone ms old now φ (λ q. q < k) →
    IsAdvanced m (get_or now k d) here φ → HaveGone ms old (set now k here) φ (λ q. q < k + 1)
each_gone ms old now φ k d here m len below has before went =
    gone_more ms old now φ (λ q. q < k) (λ q. q < k + 1) k m here (omega arith) has
    (λ q after. elim (cases_lt q k) [ inl less ↦ inl less | inr late ↦ inr (let h = after in omega arith) ])
    (λ q less. omega arith)
    (omega arith)
    (subst (λ (x : Cell). IsAdvanced m x here φ) (each_cell ms old now φ k d len below before) went)
    before

pub all_each : (ms : List Component) (old now : List Cell) (φ : Signals) (k : ℕ) → length now ≡ length old → length ms ≤ k → HaveGone ms old now φ (λ q. q < k) → AllAdvance ms old now φ
all_each ms old now φ k len all gone = record { whole = len; advanced = λ p m has. gone.gone p m (let h = slice_get_within ms p m has in omega arith) has }

-- once all queues have gone, the first others follow
pub both_from_queues : (ms : List Component) (old now : List Cell) (φ : Signals) (queues : List QueuePlace) (others : List Holder) (k : ℕ) → k ≡ length queues → HaveGone ms old now φ (IsAmongQueues queues k) →
    HaveGone ms old now φ (IsAmongBoth queues others 0)
both_from_queues ms old now φ queues others k all h =
    let whole = subst (λ (n : ℕ). HaveGone ms old now φ (IsAmongQueues queues n)) all h in
    record {
      gone = λ p m among has. whole.gone p m (elim among [ inl queue ↦ queue | inr other ↦ absurd (let less = other.1.1.0 in omega arith) ]) has;
      rest = λ p none. whole.rest p (λ queue. none (inl queue));
    }
