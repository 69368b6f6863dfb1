-- Steps of the walk, as the code makes them.
use Rattle.std.proofs.Common.{◌≡◌, ℕ, suc, ◌+◌, ◌-◌, ◌<◌, ◌≤◌, inl, inr, List, [], ◌∷◌, ◌++◌, Some, None, Bool, true, false, cond, length, length-append, get_or, take, reverse, slice_get, append_assoc, refl, sym, ◌∙◌, ap, subst, arith, All}
use Rattle.std.proofs.Math.ListN.{set}
use Rattle.std.specs.Prelude.{IfOk, Result, Ok, Err, slice_index_or}
use Rattle.xm_model.specs.declared.memory.OutOfMemory.{OutOfMemory}
use Rattle.std.specs.List.{range_with_len}
use Rattle.std.proofs.lemmas.Bool.{cases_Bool, cases_eq, cond-false, cond-true}
use Rattle.std.proofs.lemmas.List.{append-nil, get_or-set_other, get_or-set_same, length-set, reverse-append, take_all, take_more}
use Rattle.std.proofs.lemmas.List.Sums.{sum_by-set}
use Rattle.std.proofs.lemmas.Option.{get_or_from_slice_get, slice_get_within}
use Rattle.xm_model.specs.Component.{Component}
use Rattle.xm_model.specs.Membership.{IsIn}
use Rattle.xm_model.specs.Net.{IsNet, Network, outputs, targets}
use Rattle.xm_search.proofs.Walks.{finish_entered, finish_left, root_entered, then_others}
use Rattle.xm_search.specs.GoalOrder.{onward, outputs_of, outputs_of_one}
use Rattle.xm_rows.specs.Lemmas.Noting.{in_below, in_right}
use Rattle.xm_search.specs.Inner.Walking.{AreMarks, Finishes, IsOver, IsPartWay, IsUnderWay, IsWalked, first_unmarked, steps_left, unmarked}
use Rattle.xm_search.specs.declared.walk.Walk.{Walk}
use Rattle.xm_search.specs.Walk.{IsLeavingOrder, Walks, done, passed}

-- ---- marks

pub marks_entered : (seen : List ℕ) (marks : List Bool) (c : ℕ) → AreMarks seen marks → c < length marks → AreMarks (c ∷ seen) (set marks c true)
marks_entered seen marks c m below = record {
  known = λ d low is. elim (cases_eq c d) [
    | inl same ↦ inl same
    | inr other ↦
        let len = length-set marks c true in
        inr (m.known d (omega (arith, low, len)) (sym (get_or-set_other marks c d true true (λ e. other (sym e))) ∙ is))
  ];
  marked = λ d inside. elim (cases_eq c d) [
    | inl same ↦ subst (λ (k : ℕ). slice_index_or (set marks c true) k true ≡ true) same (get_or-set_same marks c true true below)
    | inr other ↦ elim inside [
      | inl is ↦ absurd (other is)
      | inr before ↦ get_or-set_other marks c d true true (λ e. other (sym e)) ∙ m.marked d before
    ]
  ];
}

pub not_seen : (seen : List ℕ) (marks : List Bool) (c : ℕ) → AreMarks seen marks → slice_index_or marks c true ≡ false → IsIn seen c → ⊥
not_seen seen marks c m is inside = let marked = m.marked c inside in absurd cc

-- one fewer is unmarked
pub fewer : (marks : List Bool) (c : ℕ) → c < length marks → slice_index_or marks c true ≡ false → unmarked (set marks c true) + 1 ≡ unmarked marks
fewer marks c below is =
    let changed = sum_by-set (λ (b : Bool). cond {A = ℕ} b 0 1) marks c true true below in
    let one : cond {A = ℕ} (get_or marks c true) 0 1 ≡ 1 = ap (λ (b : Bool). cond {A = ℕ} b 0 1) is in
    omega (arith, changed, one)

-- ---- the first channel that is not marked

pub record IsSplit (marks : List Bool) (cs : List ℕ) (c : ℕ) : Type 0 where
  pub pre : List ℕ
  pub post : List ℕ
  pub is : cs ≡ pre ++ c ∷ post
  pub known : (x : ℕ) → IsIn pre x → (slice_index_or marks x true ≡ true) × IsIn cs x
  pub here : slice_index_or marks c true ≡ false

pub split_first : (marks : List Bool) (cs : List ℕ) (c : ℕ) → first_unmarked marks cs ≡ Some c → IsSplit marks cs c
split_first marks [] c e = absurd cc
split_first marks (x ∷ xs) c e =
    elim (cases_Bool (slice_index_or marks x true)) [
      | inl known ↦
          let s = split_first marks xs c (sym (cond-true (slice_index_or marks x true) (first_unmarked marks xs) (Some x) known) ∙ e) in
          record {
            pre = x ∷ s.pre;
            post = s.post;
            is = ap (λ (l : List ℕ). x ∷ l) s.is;
            known = λ y inside. elim inside [
              | inl same ↦ (subst (λ (k : ℕ). slice_index_or marks k true ≡ true) same known, inl same)
              | inr later ↦ let k = s.known y later in (k.0, inr k.1)
            ];
            here = s.here;
          }
      | inr free ↦
          let same : x ≡ c = (let both : Some x ≡ Some c = sym (cond-false (slice_index_or marks x true) (first_unmarked marks xs) (Some x) free) ∙ e in cc) in
          record {
            pre = [];
            post = xs;
            is = ap (λ (k : ℕ). k ∷ xs) same;
            known = λ y inside. absurd inside;
            here = subst (λ (k : ℕ). slice_index_or marks k true ≡ false) same free;
          }
    ]

pub all_marked : (marks : List Bool) (cs : List ℕ) → first_unmarked marks cs ≡ None → (x : ℕ) → IsIn cs x → slice_index_or marks x true ≡ true
all_marked marks [] e x inside = absurd inside
all_marked marks (c ∷ cs) e x inside =
    elim (cases_Bool (slice_index_or marks c true)) [
      | inl known ↦ elim inside [
        | inl same ↦ subst (λ (k : ℕ). slice_index_or marks k true ≡ true) same known
        | inr later ↦ all_marked marks cs (sym (cond-true (slice_index_or marks c true) (first_unmarked marks cs) (Some c) known) ∙ e) x later
      ]
      | inr free ↦
          absurd (let never : Some c ≡ None = sym (cond-false (slice_index_or marks c true) (first_unmarked marks cs) (Some c) free) ∙ e in cc)
    ]

-- ---- paths

pub path_parts : (path : List ℕ) (last : ℕ) → 0 < length path → slice_get path (length path - 1) ≡ Some last → path ≡ take (length path - 1) path ++ last ∷ []
path_parts path last some at =
    let n = length path - 1 in
    let whole : n + 1 ≡ length path = omega arith in
    sym (take_all (n + 1) path (omega arith)) ∙ take_more path n last (omega arith) ∙ ap (λ (c : ℕ). take n path ++ c ∷ []) (get_or_from_slice_get path n last last at)

pub turned : (path front : List ℕ) (last : ℕ) → path ≡ front ++ last ∷ [] → reverse path ≡ last ∷ reverse front
turned path front last is = ap reverse is ∙ reverse-append front (last ∷ [])

-- ---- what comes next behind a channel

pub onward_is : (net : Network) (c p : ℕ) (m : Component) → targets net.prims c ≡ p ∷ [] → slice_get net.prims p ≡ Some m → onward net c ≡ outputs m
onward_is net c p m target at = ap (outputs_of_one net) target ∙ ap outputs_of at

-- each of them is a channel
pub is_channel : (net : Network) (m : Component) (p x : ℕ) → IsNet net → slice_get net.prims p ≡ Some m → IsIn (outputs m) x → x < net.channels
is_channel net m p x is at inside =
    let all = is.limits.outputs p m (slice_get_within net.prims p m at) in
    in_below net.channels (outputs m) x (subst (λ (n : Component). All (λ c. c < net.channels) (outputs n)) (get_or_from_slice_get net.prims p m m at) all) inside

-- ---- the code's steps

module _ (net : Network) (is_net : IsNet net) (walk w : Walk) (over : IsOver net walk) (last p : ℕ) (m : Component) (some : 0 < length walk.path.items)
    (at : slice_get walk.path.items (length walk.path.items - 1) ≡ Some last) (target : targets net.prims last ≡ p ∷ []) (prim : slice_get net.prims p ≡ Some m) where
  turned_path : reverse walk.path.items ≡ last ∷ reverse (take (length walk.path.items - 1) walk.path.items)
  turned_path = turned walk.path.items (take (length walk.path.items - 1) walk.path.items) last (path_parts walk.path.items last some at)

  low : (x : ℕ) → IsIn (outputs m) x → x < length walk.seen.items
  low x inside = let below = is_channel net m p x is_net prim inside in omega (arith, below, over.whole)

  first_low : (c : ℕ) → (s : IsSplit walk.seen.items (outputs m) c) → c < length walk.seen.items
  first_low c s = low c (subst (λ (l : List ℕ). IsIn l c) (sym s.is) (in_right s.pre (c ∷ s.post) c (inl refl)))

  pub fewer_left : (c : ℕ) → first_unmarked walk.seen.items (outputs m) ≡ Some c → w.path.items ≡ walk.path.items ++ c ∷ [] →
      w.seen.items ≡ set walk.seen.items c true → steps_left w < steps_left walk
  fewer_left c first path seen =
      let s = split_first walk.seen.items (outputs m) c first in
      let one = fewer walk.seen.items c (first_low c s) s.here in
      let now = ap unmarked seen in
      let len = ap length path ∙ length-append walk.path.items (c ∷ []) in
      omega (arith, one, now, len)

  pub under_entered : (before : List ℕ) (root : ℕ) (old : List ℕ) (c : ℕ) → first_unmarked walk.seen.items (outputs m) ≡ Some c →
      w.left.items ≡ walk.left.items → w.path.items ≡ walk.path.items ++ c ∷ [] → w.seen.items ≡ set walk.seen.items c true →
      IsUnderWay (onward net) before root old walk → IsUnderWay (onward net) before root old w
  under_entered before root old c first left path seen u =
      let s = split_first walk.seen.items (outputs m) c first in
      let back = reverse (take (length walk.path.items - 1) walk.path.items) in
      let next_is = onward_is net last p m target prim ∙ s.is in
      let known = λ (x : ℕ) (inside : IsIn s.pre x). let k = s.known x inside in u.marks.known x (low x k.1) k.0 in
      let new = not_seen u.seen walk.seen.items c u.marks s.here in
      let path_is : reverse w.path.items ≡ c ∷ last ∷ back = ap reverse path ∙ reverse-append walk.path.items (c ∷ []) ∙ ap (λ (l : List ℕ). c ∷ l) turned_path in
      record {
        seen = c ∷ u.seen;
        made = u.made;
        marks = subst (AreMarks (c ∷ u.seen)) (sym seen) (marks_entered u.seen walk.seen.items c u.marks (first_low c s));
        left = left ∙ u.left;
        ends = λ rest after f. u.ends rest after (subst (λ (l : List ℕ). Finishes (onward net) u.seen l rest after) (sym turned_path)
            (finish_entered (onward net) u.seen back rest after s.pre s.post last c next_is known new
            (subst (λ (l : List ℕ). Finishes (onward net) (c ∷ u.seen) l rest after) path_is f)));
      }

  pub under_left : (before : List ℕ) (root : ℕ) (old : List ℕ) → first_unmarked walk.seen.items (outputs m) ≡ None →
      w.left.items ≡ walk.left.items ++ last ∷ [] → w.path.items ≡ take (length walk.path.items - 1) walk.path.items → w.seen.items ≡ walk.seen.items →
      IsUnderWay (onward net) before root old walk → IsUnderWay (onward net) before root old w
  under_left before root old none left path seen u =
      let back = reverse (take (length walk.path.items - 1) walk.path.items) in
      let known = λ (x : ℕ) (inside : IsIn (onward net last) x).
      (let out = subst (λ (l : List ℕ). IsIn l x) (onward_is net last p m target prim) inside in u.marks.known x (low x out) (all_marked walk.seen.items (outputs m) none x out)) in
      record {
        seen = u.seen;
        made = u.made ++ last ∷ [];
        marks = subst (AreMarks u.seen) (sym seen) u.marks;
        left = left ∙ ap (λ (l : List ℕ). l ++ last ∷ []) u.left ∙ append_assoc old u.made (last ∷ []);
        ends = λ rest after f. subst (λ (l : List ℕ). Walks (onward net) before (root ∷ []) l after) (sym (append_assoc u.made (last ∷ []) rest))
            (u.ends (last ∷ rest) after (subst (λ (l : List ℕ). Finishes (onward net) u.seen l (last ∷ rest) after) (sym turned_path)
            (finish_left (onward net) u.seen back rest after last known (subst (λ (l : List ℕ). Finishes (onward net) u.seen l rest after) (ap reverse path) f))));
      }

-- ---- from one root

pub under_root : (next : ℕ → List ℕ) (before : List ℕ) (root : ℕ) (walk w : Walk) → AreMarks before walk.seen.items → root < length walk.seen.items →
    slice_index_or walk.seen.items root true ≡ false → walk.path.items ≡ [] → w.left.items ≡ walk.left.items → w.path.items ≡ walk.path.items ++ root ∷ [] →
    w.seen.items ≡ set walk.seen.items root true → IsUnderWay next before root walk.left.items w
under_root next before root walk w marks below free none left path seen =
    let path_is : w.path.items ≡ root ∷ [] = path ∙ ap (λ (l : List ℕ). l ++ root ∷ []) none in
    record {
      seen = root ∷ before;
      made = [];
      marks = subst (AreMarks (root ∷ before)) (sym seen) (marks_entered before walk.seen.items root marks below);
      left = left ∙ sym (append-nil walk.left.items);
      ends = λ rest after f. root_entered next before rest after root (not_seen before walk.seen.items root marks free)
          (subst (λ (l : List ℕ). Finishes next (root ∷ before) l rest after) (ap reverse path_is) f);
    }

pub walked : (next : ℕ → List ℕ) (before : List ℕ) (root : ℕ) (old : List ℕ) (walk : Walk) → walk.path.items ≡ [] → IsUnderWay next before root old walk →
    IsWalked next before root old walk
walked next before root old walk none u = record {
  after = u.seen;
  made = u.made;
  marks = u.marks;
  left = u.left;
  walks = subst (λ (l : List ℕ). Walks next before (root ∷ []) l u.seen) (append-nil u.made)
      (u.ends [] u.seen (subst (λ (l : List ℕ). Finishes next u.seen l [] u.seen) (sym (ap reverse none)) (refl, refl)));
}

pub seen_before : (next : ℕ → List ℕ) (before : List ℕ) (root : ℕ) (walk : Walk) → AreMarks before walk.seen.items → root < length walk.seen.items →
    slice_index_or walk.seen.items root true ≡ true → IsWalked next before root walk.left.items walk
seen_before next before root walk marks below is = record {
  after = before;
  made = [];
  marks = marks;
  left = sym (append-nil walk.left.items);
  walks = passed before [] [] before root (marks.known root below is) (done before);
}

-- ---- from each channel in turn

pub part_more : (next : ℕ → List ℕ) (n c : ℕ) (walk w : Walk) → c < n → (part : IsPartWay next n c walk) → IsWalked next part.seen c walk.left.items w →
    IsPartWay next n (c + 1) w
part_more next n c walk w below part v =
    let more : range_with_len c (n - c) ≡ c ∷ range_with_len (c + 1) (n - (c + 1)) = (let e : n - c ≡ suc (n - (c + 1)) = omega arith in ap (range_with_len c) e) in
    record {
      seen = v.after;
      marks = v.marks;
      ends = λ rest after ws.
          subst (λ (l : List ℕ). Walks next [] (range_with_len 0 n) l after) (sym (append_assoc walk.left.items v.made rest) ∙ ap (λ (l : List ℕ). l ++ rest) (sym v.left))
          (part.ends (v.made ++ rest) after (subst (λ (l : List ℕ). Walks next part.seen l (v.made ++ rest) after) (sym more)
          (then_others next part.seen (range_with_len (c + 1) (n - (c + 1))) v.made v.after rest after c v.walks ws)));
    }

pub part_all : (next : ℕ → List ℕ) (n c : ℕ) (walk : Walk) → n ≤ c → IsPartWay next n c walk → IsLeavingOrder next (range_with_len 0 n) walk.left.items
part_all next n c walk past part =
    let none : range_with_len c (n - c) ≡ [] = (let e : n - c ≡ 0 = omega arith in ap (range_with_len c) e) in (
      part.seen,
      subst (λ (l : List ℕ). Walks next [] (range_with_len 0 n) l part.seen) (append-nil walk.left.items)
          (part.ends [] part.seen (subst (λ (l : List ℕ). Walks next part.seen l [] part.seen) (sym none) (done part.seen))),
    )

-- what three facts of a result give
pub if_ok : (P Q R S : Walk → Type 0) (r : Result Walk OutOfMemory) → IfOk r P → IfOk r Q → IfOk r R → ((w : Walk) → P w → Q w → R w → S w) → IfOk r S
if_ok P Q R S (Ok w) p q r all = all w p q r
if_ok P Q R S (Err e) p q r all = tt

pub empty_from : (xs : List ℕ) → length xs ≡ 0 → xs ≡ []
empty_from [] e = refl
empty_from (x ∷ xs) e = absurd (omega arith)
