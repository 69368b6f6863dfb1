-- The sets of all channels, and a pair that comes to them.
use Rattle.std.proofs.Common.{◌≡◌, ◌≢◌, ◌⊎◌, ℕ, zero, suc, ◌+◌, ◌-◌, Some, map, take, remove, drop, slice_get, ◌<◌, ◌≤◌, true, false, List, [], ◌∷◌, ◌++◌, length, set, get_or, refl, sym, ◌∙◌, ap, subst, inl, inr, arith, length-append}
use Rattle.std.proofs.lemmas.Bool.{cases_eq}
use Rattle.std.proofs.lemmas.List.{get_or-set_other, get_or-set_same, length-set, append-nil, drop_all, map-append, take_all, take_more}
use Rattle.std.proofs.lemmas.Option.{get_or_from_slice_get, slice_get_within}
use Rattle.std.specs.List.{refill}
use Rattle.std.specs.Option.{option_to_list}
use Rattle.std.specs.Prelude.{Option}
use Rattle.xm_model.specs.Lending.{refill-full}
use Rattle.std.proofs.lemmas.List.Sums.{sum_by-set}
use Rattle.xm_colours.proofs.Among.{in_either, in_left, in_map, in_right, place_in}
use Rattle.xm_colours.proofs.Words.{of_has, of_le, of_more, of_rises, of_tells}
use Rattle.xm_colours.specs.Family.{Rises, colours_at}
use Rattle.xm_colours.specs.Inner.Spreading.{AddsOver, Fit, pair}
use Rattle.xm_colours.specs.Inner.Words.{Has, holds, lacking, set_of, sets_of}
use Rattle.xm_colours.specs.declared.pairs.Pair.{Pair}
use Rattle.xm_model.specs.Membership.{IsIn}

pub has_tells : (words : List ℕ) (c d : ℕ) → Has words c d → (c < length words) × (d < 64) × (holds (get_or words c 0) d ≡ true)
has_tells [] c d h = absurd h
has_tells (w ∷ ws) zero d h = let r = of_tells w d h in (omega arith, r.0, r.1)
has_tells (w ∷ ws) (suc c) d h = let r = has_tells ws c d h in let inside = r.0 in (omega arith, r.1, r.2)

pub tells_has : (words : List ℕ) (c d : ℕ) → c < length words → d < 64 → holds (get_or words c 0) d ≡ true → Has words c d
tells_has [] c d inside below h = absurd (omega arith)
tells_has (w ∷ ws) zero d inside below h = of_has w d below h
tells_has (w ∷ ws) (suc c) d inside below h = tells_has ws c d (omega arith) below h

pub sets_rise : (words : List ℕ) (c : ℕ) → Rises (colours_at (sets_of words) c)
sets_rise [] c = tt
sets_rise (w ∷ ws) zero = of_rises w
sets_rise (w ∷ ws) (suc c) = sets_rise ws c

pub adds_none : (words : List ℕ) (pending : List Pair) → AddsOver [] words pending words pending
adds_none words pending = record {
  whole = refl;
  kept = λ c d h. h;
  added = λ it h. absurd h;
  only = λ c d h. inl h;
  waits = λ c d h. inl h;
  still = λ it h. h;
  new = λ it h. inl h;
  same = refl;
}

module _ (words : List ℕ) (pending : List Pair) (it : Pair) (word : ℕ) (inside : it.channel < length words) (below : it.colour < 64) (is : word ≡ get_or words it.channel 0) where
  -- the pair is there
  pub adds_again : holds word it.colour ≡ true → AddsOver (it ∷ []) words pending words pending
  adds_again before =
      let there : Has words it.channel it.colour = tells_has words it.channel it.colour inside below (subst (λ (w : ℕ). holds w it.colour ≡ true) is before) in
      record {
        whole = refl;
        kept = λ c d h. h;
        added = λ x h. elim h [ inl e ↦ subst (λ (y : Pair). Has words y.channel y.colour) e there | inr e ↦ absurd e ];
        only = λ c d h. inl h;
        waits = λ c d h. inl h;
        still = λ x h. h;
        new = λ x h. inl h;
        same = refl;
      }

  module _ (new : ℕ) (before : holds word it.colour ≡ false) (after : holds new it.colour ≡ true) (others : (e : ℕ) → e ≢ it.colour → holds new e ≡ holds word e) where
    there : Has (set words it.channel new) it.channel it.colour
    there = tells_has (set words it.channel new) it.channel it.colour (rw (length-set words it.channel new) inside) below (rw (get_or-set_same words it.channel new 0 inside) after)

    came : (c d : ℕ) → Has (set words it.channel new) c d → Has words c d ⊎ (it ≡ pair c d)
    came c d h =
        let r = has_tells (set words it.channel new) c d h in
        let within : c < length words = let n = length-set words it.channel new in let i = r.0 in omega arith in
        elim (cases_eq c it.channel) [
          | inl same ↦
              let now : holds new d ≡ true = subst (λ (w : ℕ). holds w d ≡ true) (ap (λ k. get_or (set words it.channel new) k 0) same ∙ get_or-set_same words it.channel new 0 inside) r.2 in
              elim (cases_eq d it.colour) [
                | inl equal ↦ inr (ap (λ k. pair k it.colour) (sym same) ∙ ap (λ k. pair c k) (sym equal))
                | inr apart ↦ inl (tells_has words c d within r.1 (subst (λ (k : ℕ). holds (get_or words k 0) d ≡ true) (sym same) (subst (λ (w : ℕ). holds w d ≡ true) is (sym (others d apart) ∙ now))))
              ]
          | inr apart ↦ inl (tells_has words c d within r.1 (subst (λ (w : ℕ). holds w d ≡ true) (get_or-set_other words it.channel c new 0 apart) r.2))
        ]

    stays : (c d : ℕ) → Has words c d → Has (set words it.channel new) c d
    stays c d h =
        let r = has_tells words c d h in
        let within : c < length (set words it.channel new) = let n = length-set words it.channel new in let i = r.0 in omega arith in
        elim (cases_eq c it.channel) [
          | inl same ↦ elim (cases_eq d it.colour) [
            | inl equal ↦ subst (λ (k : ℕ). Has (set words it.channel new) k d) (sym same) (subst (λ (k : ℕ). Has (set words it.channel new) it.channel k) (sym equal) there)
            | inr apart ↦
                let was : holds word d ≡ true = subst (λ (w : ℕ). holds w d ≡ true) (ap (λ k. get_or words k 0) same ∙ sym is) r.2 in
                let at : get_or (set words it.channel new) c 0 ≡ new = ap (λ k. get_or (set words it.channel new) k 0) same ∙ get_or-set_same words it.channel new 0 inside in
                tells_has (set words it.channel new) c d within r.1 (subst (λ (w : ℕ). holds w d ≡ true) (sym at) (others d apart ∙ was))
          ]
          | inr apart ↦ tells_has (set words it.channel new) c d within r.1 (subst (λ (w : ℕ). holds w d ≡ true) (sym (get_or-set_other words it.channel c new 0 apart)) r.2)
        ]

    less : lacking (set words it.channel new) + 1 ≡ lacking words
    less =
        let sums = sum_by-set (λ w. 64 - length (set_of w)) words it.channel new 0 inside in
        let then : 64 - length (set_of (get_or words it.channel 0)) ≡ 64 - length (set_of word) = ap (λ w. 64 - length (set_of w)) (sym is) in
        let more = of_more word new it.colour below before after others in
        let fits = of_le new in
        omega arith

    -- the pair is new
    pub adds_new : AddsOver (it ∷ []) words pending (set words it.channel new) (pending ++ it ∷ [])
    adds_new = record {
      whole = length-set words it.channel new;
      kept = stays;
      added = λ x h. elim h [ inl e ↦ subst (λ (y : Pair). Has (set words it.channel new) y.channel y.colour) e there | inr e ↦ absurd e ];
      only = λ c d h. elim (came c d h) [ inl i ↦ inl i | inr e ↦ inr (inl e) ];
      waits = λ c d h. elim (came c d h) [ inl i ↦ inl i | inr e ↦ inr (in_right (pair c d) pending (it ∷ []) (inl e)) ];
      still = λ x h. in_left x pending (it ∷ []) h;
      new = λ x h. in_either x pending (it ∷ []) h;
      same = let n = less in simp length-append (omega arith);
    }

-- one after another
pub adds_both : (ps qs : List Pair) (ws vs us : List ℕ) (is js ks : List Pair) → AddsOver ps ws is vs js → AddsOver qs vs js us ks → AddsOver (ps ++ qs) ws is us ks
adds_both ps qs ws vs us is js ks p q = record {
  whole = q.whole ∙ p.whole;
  kept = λ c d h. q.kept c d (p.kept c d h);
  added = λ x h. elim (in_either x ps qs h) [ inl i ↦ q.kept x.channel x.colour (p.added x i) | inr i ↦ q.added x i ];
  only = λ c d h. elim (q.only c d h) [
    | inl i ↦ elim (p.only c d i) [ inl j ↦ inl j | inr j ↦ inr (in_left (pair c d) ps qs j) ]
    | inr i ↦ inr (in_right (pair c d) ps qs i)
  ];
  waits = λ c d h. elim (q.waits c d h) [
    | inl i ↦ elim (p.waits c d i) [ inl j ↦ inl j | inr j ↦ inr (q.still (pair c d) j) ]
    | inr i ↦ inr i
  ];
  still = λ x h. q.still x (p.still x h);
  new = λ x h. elim (q.new x h) [
    | inl i ↦ elim (p.new x i) [ inl j ↦ inl j | inr j ↦ inr (in_left x ps qs j) ]
    | inr i ↦ inr (in_right x ps qs i)
  ];
  same = q.same ∙ p.same;
}

-- as the code writes it
pub refill_set : (xs ws vs : List ℕ) (i y : ℕ) → vs ≡ xs → ws ≡ set vs i y → refill (length xs) xs ws ≡ set xs i y
refill_set xs ws vs i y same e =
    let is : ws ≡ set xs i y = e ∙ ap (λ (s : List ℕ). set s i y) same in
    refill-full (length xs) xs ws (ap length is ∙ length-set xs i y) ∙ is

pub adds_written : (words : List ℕ) (pending : List Pair) (it : Pair) (word : ℕ) → it.channel < length words → it.colour < 64 → word ≡ get_or words it.channel 0 →
    (new : ℕ) → holds word it.colour ≡ false → holds new it.colour ≡ true → ((e : ℕ) → e ≢ it.colour → holds new e ≡ holds word e) →
    (vs : List ℕ) (ps : List Pair) → vs ≡ set words it.channel new → ps ≡ pending ++ it ∷ [] → AddsOver (it ∷ []) words pending vs ps
adds_written words pending it word inside below is new before after others vs ps e f = rw (e, f) (adds_new words pending it word inside below is new before after others)

pub fit_some : (o : Option Pair) (it : Pair) (n : ℕ) → o ≡ Some it → Fit (option_to_list o) n → (it.channel < n) × (it.colour < 64)
fit_some o it n e fit = fit it (rw e (inl refl))

-- a pair for each colour of a list
pub fit_at : (c : ℕ) (ds : List ℕ) (n : ℕ) → Fit (map (pair c) ds) n → (i : ℕ) → i < length ds → (c < n) × (get_or ds i 0 < 64)
fit_at c ds n fit i inside = fit (pair c (get_or ds i 0)) (in_map (pair c) (get_or ds i 0) ds (place_in ds i 0 inside))

pub adds_start : (c : ℕ) (ds : List ℕ) (words : List ℕ) (pending : List Pair) → AddsOver (map (pair c) (take 0 ds)) words pending words pending
adds_start c [] words pending = adds_none words pending
adds_start c (d ∷ ds) words pending = adds_none words pending

pub adds_more : (c : ℕ) (ds : List ℕ) (i : ℕ) → i < length ds → (ws vs us : List ℕ) (is js ks : List Pair) →
    AddsOver (map (pair c) (take i ds)) ws is vs js → AddsOver (pair c (get_or ds i 0) ∷ []) vs js us ks → AddsOver (map (pair c) (take (i + 1) ds)) ws is us ks
adds_more c ds i inside ws vs us is js ks p q =
    let more : map (pair c) (take (i + 1) ds) ≡ map (pair c) (take i ds) ++ pair c (get_or ds i 0) ∷ [] = ap (map (pair c)) (take_more ds i 0 inside) ∙ map-append (pair c) (take i ds) (get_or ds i 0 ∷ []) in
    subst (λ (ps : List Pair). AddsOver ps ws is us ks) (sym more) (adds_both (map (pair c) (take i ds)) (pair c (get_or ds i 0) ∷ []) ws vs us is js ks p q)

pub adds_all : (c : ℕ) (ds : List ℕ) (i : ℕ) → length ds ≤ i → (ws vs : List ℕ) (is js : List Pair) → AddsOver (map (pair c) (take i ds)) ws is vs js → AddsOver (map (pair c) ds) ws is vs js
adds_all c ds i past ws vs is js p = subst (λ (xs : List ℕ). AddsOver (map (pair c) xs) ws is vs js) (take_all i ds past) p

-- the one or two pairs that a primitive makes
pub fit_first : (ps qs rs : List Pair) (n : ℕ) → ps ++ qs ≡ rs → Fit rs n → Fit ps n
fit_first ps qs rs n e fit x h = fit x (subst (λ (s : List Pair). IsIn s x) e (in_left x ps qs h))

pub fit_second : (ps qs rs : List Pair) (n m : ℕ) → ps ++ qs ≡ rs → m ≡ n → Fit rs n → Fit qs m
fit_second ps qs rs n m e same fit x h = rw same (fit x (subst (λ (s : List Pair). IsIn s x) e (in_right x ps qs h)))

pub adds_sent : (ps qs rs : List Pair) (ws vs us : List ℕ) (is js ks : List Pair) → ps ++ qs ≡ rs → AddsOver ps ws is vs js → AddsOver qs vs js us ks → AddsOver rs ws is us ks
adds_sent ps qs rs ws vs us is js ks e p q = subst (λ (s : List Pair). AddsOver s ws is us ks) e (adds_both ps qs ws vs us is js ks p q)

-- a list is its front and its last
pub split_last : (xs : List Pair) (n : ℕ) (last : Pair) (front : List Pair) → n ≡ length xs → slice_get xs (n - 1) ≡ Some last → front ≡ remove xs (n - 1) → xs ≡ front ++ last ∷ []
split_last xs n last front e at f =
    let inside = slice_get_within xs (n - 1) last at in
    let more = take_more xs (n - 1) last inside in
    let all : n - 1 + 1 ≡ length xs = omega arith in
    let none : drop (suc (n - 1)) xs ≡ [] = drop_all (suc (n - 1)) xs (omega arith) in
    let is : front ≡ take (n - 1) xs = f ∙ ap (λ (s : List Pair). take (n - 1) xs ++ s) none ∙ append-nil (take (n - 1) xs) in
    sym (take_all (length xs) xs (omega arith)) ∙ ap (λ k. take k xs) (sym all) ∙ more ∙ ap (λ (σ : Pair). take (n - 1) xs ++ σ ∷ []) (get_or_from_slice_get xs (n - 1) last last at) ∙ ap (λ (s : List Pair). s ++ last ∷ []) (sym is)

pub fit_named : (ps qs : List Pair) (n : ℕ) → ps ≡ qs → Fit qs n → Fit ps n
fit_named ps qs n e fit x h = fit x (subst (λ (s : List Pair). IsIn s x) e h)
