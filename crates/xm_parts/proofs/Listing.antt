-- The signals of a part, listed one after another.
use Rattle.std.proofs.Common.{◌≡◌, ℕ, zero, suc, ◌+◌, ◌<◌, Bool, true, false, List, [], ◌∷◌, ◌++◌, length, take, get_or, refl, ap, ◌∙◌, subst, inl, inr, arith, length-append, Some, slice_get}
use Rattle.std.specs.Prelude.{◌⊎◌, cond, filter}
use Rattle.std.proofs.lemmas.List.{append-nil, take_more}
use Rattle.std.proofs.lemmas.List.Elements.{filter-append}
use Rattle.std.proofs.lemmas.Option.{get_or_from_slice_get, slice_get_within}
use Rattle.xm_design.specs.Numbers.{AreNumbers}
use Rattle.xm_design.specs.Tasks.{Makes}
use Rattle.xm_model.specs.Net.{Network}
use Rattle.xm_order.specs.Dependence.{channel_of}
use Rattle.xm_order.specs.declared.signal.Signal.{Signal}
use Rattle.xm_order.specs.declared.signal.Signal.TheVariants as signal
use Rattle.xm_parts.proofs.Building.{place_read}
use Rattle.xm_parts.proofs.Passing.{get-append_cases, passing_at}
use Rattle.xm_parts.proofs.Touching.{touching}
use Rattle.xm_parts.specs.Inner.Built.{ArePlaces, AreTasksTo, signal_read}
use Rattle.xm_parts.specs.Kept.{IsTask, channel_place, label_at, lies_at, placed}
use Rattle.xm_parts.specs.Partition.{prims_in, touches_at}
use Rattle.xm_parts.specs.Passing.{place}
use Rattle.xm_design.specs.declared.tasks.Task.{Task}

filter_next : (f : Signal → Bool) (xs : List Signal) (k : ℕ) (σ : Signal) → slice_get xs k ≡ Some σ → filter f (take (k + 1) xs) ≡ filter f (take k xs) ++ cond (f σ) (σ ∷ []) []
filter_next f xs k σ at =
    ap (filter f) (take_more xs k σ (slice_get_within xs k σ at) ∙ ap (λ (x : Signal). take k xs ++ x ∷ []) (get_or_from_slice_get xs k σ σ at))
    ∙ filter-append f (take k xs) (σ ∷ [])

module _ (net : Network) (order : List Signal) (label : ℕ → ℕ) (p k : ℕ) (σ : Signal) (at : slice_get order k ≡ Some σ) where
  left : List Signal
  left = filter (lies_at label p) (take k order)

  pub tasks_push : (xs : List Task) (new : Task) → lies_at label p σ ≡ true → IsTask net label p σ new → AreTasksTo net order label p k xs → AreTasksTo net order label p (k + 1) (xs ++ new ∷ [])
  tasks_push xs new is task before =
      let grows : filter (lies_at label p) (take (k + 1) order) ≡ filter (lies_at label p) (take k order) ++ σ ∷ [] = filter_next (lies_at label p) order k σ at ∙ (rw is refl) in
      record {
        whole = rw grows (let w = before.whole in omega (arith, length-append xs (new ∷ []), length-append (filter (lies_at label p) (take k order)) (σ ∷ [])));
        each = λ j τ t there stands.
            both j τ t (get-append_cases (filter (lies_at label p) (take k order)) (σ ∷ []) j τ (rw grows at there)) (get-append_cases xs (new ∷ []) j t stands);
      } where
        both : (j : ℕ) (τ : Signal) (t : Task) →
            ((slice_get (filter (lies_at label p) (take k order)) j ≡ Some τ) ⊎ ((l : ℕ) × (j ≡ length (filter (lies_at label p) (take k order)) + l) × (slice_get (σ ∷ []) l ≡ Some τ))) →
            ((slice_get xs j ≡ Some t) ⊎ ((l : ℕ) × (j ≡ length xs + l) × (slice_get (new ∷ []) l ≡ Some t))) → IsTask net label p τ t
        both j τ t (inl a) (inl b) = before.each j τ t a b
        both j τ t (inl a) (inr b) = absurd (let h = slice_get_within (filter (lies_at label p) (take k order)) j τ a in let w = before.whole in let e = b.1 in omega arith)
        both j τ t (inr a) (inl b) = absurd (let h = slice_get_within xs j t b in let w = before.whole in let e = a.1 in omega arith)
        both j τ t (inr a) (inr b) = lone a.0 b.0 a.2 b.2 where
          lone : (l m : ℕ) → slice_get (σ ∷ []) l ≡ Some τ → slice_get (new ∷ []) m ≡ Some t → IsTask net label p τ t
          lone zero zero x y = let s : σ ≡ τ = cc in let n : new ≡ t = cc in subst (λ (z : Signal). IsTask net label p z t) s (subst (λ (z : Task). IsTask net label p σ z) n task)
          lone zero (suc m) x y = absurd cc
          lone (suc l) m x y = absurd cc

  pub tasks_skip : (xs : List Task) → lies_at label p σ ≡ false → AreTasksTo net order label p k xs → AreTasksTo net order label p (k + 1) xs
  tasks_skip xs is before =
      let same : filter (lies_at label p) (take (k + 1) order) ≡ filter (lies_at label p) (take k order) = filter_next (lies_at label p) order k σ at ∙ rw is (append-nil (filter (lies_at label p) (take k order))) in
      record { whole = rw same before.whole; each = λ j τ t there stands. before.each j τ t (rw same at there) stands }

-- the task that is made for a signal of the part
module _ (net : Network) (labels places cells : List ℕ) (p : ℕ) (whole : length labels ≡ net.channels) (are : ArePlaces labels places)
    (cells_are : AreNumbers (place (touches_at net (label_at labels) p)) (length net.prims) cells) where
  signal_placed : (σ : Signal) → channel_of σ < net.channels → label_at labels (channel_of σ) ≡ p → signal_read places σ ≡ placed (label_at labels) p σ
  signal_placed (signal.Offer c) below lies = ap signal.Offer (place_read labels places are c (omega arith) ∙ ap (λ (q : ℕ). channel_place (label_at labels) q c) lies)
  signal_placed (signal.Ready c) below lies = ap signal.Ready (place_read labels places are c (omega arith) ∙ ap (λ (q : ℕ). channel_place (label_at labels) q c) lies)

  pub task_is : (σ : Signal) (maker : ℕ) → Makes net maker σ → channel_of σ < net.channels → label_at labels (channel_of σ) ≡ p →
      IsTask net (label_at labels) p σ (record { signal = signal_read places σ; prim = get_or cells maker 0 })
  task_is σ maker makes below lies = record {
    signal_is = signal_placed σ below lies;
    maker = maker;
    makes = makes;
    prim_is = let t = touch σ makes lies in let inside = within σ makes in
        ap (slice_get (prims_in net (label_at labels) p)) (get_or_from_slice_get cells maker _ 0 (cells_are.at maker inside)) ∙ passing_at (touches_at net (label_at labels) p) (length net.prims) maker inside t;
  } where
    within : (σ : Signal) → Makes net maker σ → maker < length net.prims
    within (signal.Offer c) m = slice_get_within net.prims maker m.prim m.has
    within (signal.Ready c) m = slice_get_within net.prims maker m.prim m.has

    touch : (σ : Signal) → Makes net maker σ → label_at labels (channel_of σ) ≡ p → touches_at net (label_at labels) p maker ≡ true
    touch (signal.Offer c) m lies = touching net (label_at labels) p maker c m.prim m.has (inl m.has_output) lies
    touch (signal.Ready c) m lies = touching net (label_at labels) p maker c m.prim m.has (inr m.has_input) lies
