-- Every schedule keeps the core, and its jobs are never stale.
use Rattle.std.proofs.Common.{◌≡◌, ◌≢◌, ℕ, zero, suc, ◌+◌, ◌<◌, ◌≤◌, Bool, true, false, List, [], ◌∷◌, ◌++◌, length, sym, refl, ap, ◌∙◌, subst, arith, inl, inr}
use Rattle.std.specs.Prelude.{replicate, slice_index_or, slice_set}
use Rattle.std.proofs.lemmas.Bool.{cases_lt}
use Rattle.std.proofs.lemmas.Bool.Decides.{eqb_tells}
use Rattle.std.proofs.lemmas.List.{get_or-set_other, get_or-set_same, length-replicate, length-set}
use Rattle.xm_board.specs.Core.{AllDone, Core, IsCore, IsMutual, IsReady, IsWhole, cycle, given_back, is_near, is_out, posted, recalled, rounded, started, stopped, taken}
use Rattle.xm_board.specs.Schedule.{JobOf, NoFloorFell, NoneFell, NoneStale, PostsRise, Runs, SchedulesStand, SomeReady, Takes, done, finished, give_back, is_stopped, job, look, not_yet, post, recall, round, stop, take}

-- ---- what a step changes

module _ (c : Core) (whole : IsWhole c) (p : ℕ) (part : p < c.count) where
  pub out_there : (o : Bool) → slice_index_or (slice_set c.out p o) p false ≡ o
  out_there o = let same = whole.out in get_or-set_same c.out p o false (omega arith)

  pub out_elsewhere : (o : Bool) (q : ℕ) → q ≢ p → slice_index_or (slice_set c.out p o) q false ≡ is_out c q
  out_elsewhere o q ne = get_or-set_other c.out p q o false ne

  pub cycle_there : cycle (posted c p) p ≡ suc (cycle c p)
  cycle_there = let same = whole.cycles in get_or-set_same c.cycles p (suc (cycle c p)) 0 (omega arith)

  pub cycle_elsewhere : (q : ℕ) → q ≢ p → cycle (posted c p) q ≡ cycle c q
  cycle_elsewhere q ne = get_or-set_other c.cycles p q (suc (cycle c p)) 0 ne

  -- a part that is out after p came in was out before, and another
  pub was_out : (q : ℕ) → slice_index_or (slice_set c.out p false) q false ≡ true → (q ≢ p) × (is_out c q ≡ true)
  was_out q is =
      elim (eqb_tells q p) [
        | inl t ↦ absurd (let both : false ≡ true = sym (out_there false) ∙ ap (λ (r : ℕ). slice_index_or (slice_set c.out p false) r false) (sym t.1) ∙ is in cc)
        | inr t ↦ (t.1, sym (out_elsewhere false q t.1) ∙ is)
      ]

  pub set_whole : (o : Bool) → length (slice_set c.out p o) ≡ c.count
  set_whole o = length-set c.out p o ∙ whole.out

  pub posted_whole : IsWhole (posted c p)
  posted_whole = record { few = whole.few; neighbours = whole.neighbours; cycles = length-set c.cycles p (suc (cycle c p)) ∙ whole.cycles; out = set_whole false }

pub nothing_out : (n p : ℕ) → slice_index_or (replicate n false) p false ≡ false
nothing_out zero p = refl
nothing_out (suc n) zero = refl
nothing_out (suc n) (suc p) = nothing_out n p

-- ---- jobs

-- the job's part is out, at its cycle
pub record Good (c : Core) (j : JobOf) : Type 0 where
  pub part : j.part < c.count
  pub out : is_out c j.part ≡ true
  pub at : cycle c j.part ≡ j.cycle

abbrev pub Absent : ℕ → List JobOf → Type 0
Absent p [] = Unit {0}
Absent p (j ∷ js) = (j.part ≢ p) × Absent p js

-- each job is good, and no part has two
abbrev pub Fits : Core → List JobOf → Type 0
Fits c [] = Unit {0}
Fits c (j ∷ js) = Good c j × Absent j.part js × Fits c js

absent_part : (p : ℕ) (before after : List JobOf) (j : JobOf) → Absent p (before ++ j ∷ after) → (j.part ≢ p) × Absent p (before ++ after)
absent_part p [] after j a = a
absent_part p (b ∷ bs) after j a = let r = absent_part p bs after j a.1 in (r.0, (a.0, r.1))

taken_from : (c : Core) (before after : List JobOf) (j : JobOf) → Fits c (before ++ j ∷ after) → Good c j × Absent j.part (before ++ after) × Fits c (before ++ after)
taken_from c [] after j f = f
taken_from c (b ∷ bs) after j f =
    let r = taken_from c bs after j f.2 in
    let a = absent_part b.part bs after j f.1 in
    (r.0, ((λ e. a.0 (sym e)), r.1), (f.0, a.1, r.2))

-- a change at a part that no job has keeps the jobs
elsewhere : (c d : Core) (p : ℕ) → d.count ≡ c.count → ((q : ℕ) → q ≢ p → cycle d q ≡ cycle c q) → ((q : ℕ) → q ≢ p → is_out d q ≡ is_out c q) → (js : List JobOf) → Absent p js → Fits c js → Fits d js
elsewhere c d p count cycles outs [] a f = tt
elsewhere c d p count cycles outs (j ∷ js) a f =
    let g = f.0 in
    (record { part = (let h = g.part in omega arith); out = outs j.part a.0 ∙ g.out; at = cycles j.part a.0 ∙ g.at }, f.1, elsewhere c d p count cycles outs js a.1 f.2)

-- a part that is in has no job
none_of : (c : Core) (p : ℕ) → is_out c p ≡ false → (js : List JobOf) → Fits c js → Absent p js
none_of c p inside [] f = tt
none_of c p inside (j ∷ js) f =
    let g = f.0 in
    ((λ e. let both : true ≡ false = sym g.out ∙ (ap (is_out c) e ∙ inside) in absurd cc), none_of c p inside js f.2)

-- ---- the core after each step

pub after_take : (c : Core) (p : ℕ) → IsReady c p → IsCore c → IsCore (taken c p)
after_take c p ready k = record {
  whole = record { few = k.whole.few; neighbours = k.whole.neighbours; cycles = k.whole.cycles; out = set_whole c k.whole p ready.part true };
  both_ways = k.both_ways;
  below = k.below;
  close = k.close;
  out_early = λ q part is.
      elim (eqb_tells q p) [
        | inl t ↦ (let e = ready.early in let same : cycle c q ≡ cycle c p = ap (cycle c) t.1 in omega arith)
        | inr t ↦ k.out_early q part (sym (out_elsewhere c k.whole p ready.part true q t.1) ∙ is)
      ];
  out_last = λ q r part also is near.
      elim (eqb_tells q p) [
        | inl t ↦ (let here : is_near c p r ≡ true = ap (λ (x : ℕ). is_near c x r) (sym t.1) ∙ near in let e = ready.last r also here in let same : cycle c q ≡ cycle c p = ap (cycle c) t.1 in omega arith)
        | inr t ↦ k.out_last q r part also (sym (out_elsewhere c k.whole p ready.part true q t.1) ∙ is) near
      ];
  round = k.round;
}

pub after_in : (c : Core) (p : ℕ) → p < c.count → IsCore c → IsCore (given_back c p)
after_in c p inside k = record {
  whole = record { few = k.whole.few; neighbours = k.whole.neighbours; cycles = k.whole.cycles; out = set_whole c k.whole p inside false };
  both_ways = k.both_ways;
  below = k.below;
  close = k.close;
  out_early = λ q part is. k.out_early q part (was_out c k.whole p inside q is).1;
  out_last = λ q r part also is near. k.out_last q r part also (was_out c k.whole p inside q is).1 near;
  round = k.round;
}

pub after_post : (c : Core) (p : ℕ) → p < c.count → is_out c p ≡ true → IsCore c → IsCore (posted c p)
after_post c p inside out k = record {
  whole = posted_whole c k.whole p inside;
  both_ways = k.both_ways;
  below = λ q part. elim (eqb_tells q p) [
    | inl t ↦ (let n = now q t.1 in let e = k.out_early p inside out in omega arith)
    | inr t ↦ (let n = then q t.1 in let b = k.below q part in omega arith)
  ];
  close = λ q r part also near. elim (eqb_tells q p) [
    | inl t ↦ elim (eqb_tells r p) [
      | inl u ↦ (let n = now q t.1 in let m = now r u.1 in omega arith)
      | inr u ↦ (let n = now q t.1 in let m = then r u.1 in let here : is_near c p r ≡ true = ap (λ (x : ℕ). is_near c x r) (sym t.1) ∙ near in let l = k.out_last p r inside also out here in omega arith)
    ]
    | inr t ↦ elim (eqb_tells r p) [
      | inl u ↦ (let n = then q t.1 in let m = now r u.1 in let here : is_near c q p ≡ true = ap (is_near c q) (sym u.1) ∙ near in let l = k.close q p part inside here in omega arith)
      | inr u ↦ (let n = then q t.1 in let m = then r u.1 in let l = k.close q r part also near in omega arith)
    ]
  ];
  out_early = λ q part is. (let w = was_out c k.whole p inside q is in let n = then q w.0 in let e = k.out_early q part w.1 in omega arith);
  out_last = λ q r part also is near. elim (eqb_tells r p) [
    | inl u ↦ (let w = was_out c k.whole p inside q is in let n = then q w.0 in let m = now r u.1 in let here : is_near c q p ≡ true = ap (is_near c q) (sym u.1) ∙ near in let l = k.out_last q p part inside w.1 here in omega arith)
    | inr u ↦ (let w = was_out c k.whole p inside q is in let n = then q w.0 in let m = then r u.1 in let l = k.out_last q r part also w.1 near in omega arith)
  ];
  round = k.round;
} where
  now : (q : ℕ) → q ≡ p → cycle (posted c p) q ≡ suc (cycle c p)
  now q e = ap (cycle (posted c p)) e ∙ cycle_there c k.whole p inside

  then : (q : ℕ) → q ≢ p → cycle (posted c p) q ≡ cycle c q
  then q ne = cycle_elsewhere c k.whole p inside q ne

pub rises : (c : Core) (p q : ℕ) → IsWhole c → p < c.count → cycle c q ≤ cycle (posted c p) q
rises c p q whole inside =
    elim (eqb_tells q p) [
      | inl t ↦ (let n : cycle (posted c p) q ≡ suc (cycle c p) = ap (cycle (posted c p)) t.1 ∙ cycle_there c whole p inside in let same : cycle c q ≡ cycle c p = ap (cycle c) t.1 in omega arith)
      | inr t ↦ (let n = cycle_elsewhere c whole p inside q t.1 in omega arith)
    ]

pub after_recall : (c : Core) → IsCore c → IsCore (recalled c)
after_recall c k = record {
  whole = record { few = k.whole.few; neighbours = k.whole.neighbours; cycles = k.whole.cycles; out = length-replicate c.count false };
  both_ways = k.both_ways;
  below = k.below;
  close = k.close;
  out_early = λ p part is. absurd (let no : false ≡ true = sym (nothing_out c.count p) ∙ is in cc);
  out_last = λ p q part also is near. absurd (let both : false ≡ true = sym (nothing_out c.count p) ∙ is in cc);
  round = k.round;
}

pub record Both (c : Core) (js : List JobOf) : Type 0 where
  pub core : IsCore c
  pub jobs : Fits c js

after_takes : {c d : Core} {ks : List JobOf} → Takes c d ks → (js : List JobOf) → Both c js → Both d (ks ++ js)
after_takes (is_stopped _) js b = b
after_takes (finished _ _) js b = b
after_takes {c} (job p _ next) js b =
    let none = none_of c p next.ready.inside js b.jobs in
    let whole = b.core.whole in
    record {
      core = after_take c p next.ready b.core;
      jobs = (
        record { part = next.ready.part; out = out_there c whole p next.ready.part true; at = refl },
        none,
        elsewhere c (taken c p) p refl (λ q ne. refl) (λ q ne. out_elsewhere c whole p next.ready.part true q ne) js none b.jobs,
      );
    }
after_takes (not_yet _ _ _ _) js b = b

takes_count : {c d : Core} {ks : List JobOf} → Takes c d ks → d.count ≡ c.count
takes_count (is_stopped _) = refl
takes_count (finished _ _) = refl
takes_count (job p _ next) = refl
takes_count (not_yet _ _ _ _) = refl

takes_rise : {c d : Core} {ks : List JobOf} → Takes c d ks → NoneFell c d
takes_rise (is_stopped _) q = omega arith
takes_rise (finished _ _) q = omega arith
takes_rise (job p _ next) q = omega arith
takes_rise (not_yet _ _ _ _) q = omega arith

-- the jobs after the last round are those of parts that are at the target: none
after_round : (c : Core) (target : ℕ) → AllDone c → c.target < target → target ≤ c.target + 1024 → (js : List JobOf) → Both c js → Both (rounded c target) js
after_round c target all above within js b =
    let k = b.core in
    record {
      core = record {
        whole = record { few = k.whole.few; neighbours = k.whole.neighbours; cycles = k.whole.cycles; out = k.whole.out };
        both_ways = k.both_ways;
        below = λ p part. (let e = all p part in omega arith);
        close = k.close;
        out_early = λ p part is. (let e = k.out_early p part is in omega arith);
        out_last = k.out_last;
        round = omega arith;
      };
      jobs = same js b.jobs;
    } where
      same : (js : List JobOf) → Fits c js → Fits (rounded c target) js
      same [] f = tt
      same (j ∷ js) f = (record { part = f.0.part; out = f.0.out; at = f.0.at }, f.1, same js f.2)

stopped_fits : (c : Core) (js : List JobOf) → Fits c js → Fits (stopped c) js
stopped_fits c [] f = tt
stopped_fits c (j ∷ js) f = (record { part = f.0.part; out = f.0.out; at = f.0.at }, f.1, stopped_fits c js f.2)

pub record After (c d : Core) (js : List JobOf) : Type 0 where
  pub both : Both d js
  pub rose : NoneFell c d
  pub count : d.count ≡ c.count

-- one step, and what comes after it
on : (c d e : Core) (ls : List JobOf) → NoneFell c d → d.count ≡ c.count → After d e ls → After c e ls
on c d e ls up same rest = record { both = rest.both; rose = λ q. (let x = up q in let y = rest.rose q in omega arith); count = rest.count ∙ same }

stays : (c d e : Core) (ls : List JobOf) → d.cycles ≡ c.cycles → d.count ≡ c.count → After d e ls → After c e ls
stays c d e ls cycles same rest = on c d e ls (λ q. (let x : cycle d q ≡ cycle c q = ap (λ (xs : List ℕ). slice_index_or xs q 0) cycles in omega arith)) same rest

pub kept : {c d : Core} {js ls : List JobOf} → Runs c js d ls → Both c js → After c d ls
kept done b = record { both = b; rose = λ q. omega arith; count = refl }
kept {c} {d = e} {js = js} {ls = ls} (take {d = d} t r) b = on c d e ls (takes_rise t) (takes_count t) (kept r (after_takes t js b))
kept {c} {d = e} {ls = ls} (post before after j r) b =
    let o = taken_from c before after j b.jobs in
    let g = o.0 in
    let whole = b.core.whole in
    on c (posted c j.part) e ls (λ q. rises c j.part q whole g.part) refl (kept r (record {
      core = after_post c j.part g.part g.out b.core;
      jobs = elsewhere c (posted c j.part) j.part refl (λ q ne. cycle_elsewhere c whole j.part g.part q ne) (λ q ne. out_elsewhere c whole j.part g.part false q ne) (before ++ after) o.1 o.2;
    }))
kept {c} {d = e} {ls = ls} (give_back before after j r) b =
    let o = taken_from c before after j b.jobs in
    let g = o.0 in
    stays c (given_back c j.part) e ls refl refl (kept r (record {
      core = after_in c j.part g.part b.core;
      jobs = elsewhere c (given_back c j.part) j.part refl (λ q ne. refl) (λ q ne. out_elsewhere c b.core.whole j.part g.part false q ne) (before ++ after) o.1 o.2;
    }))
kept {c} {d = e} {ls = ls} (recall r) b = stays c (recalled c) e ls refl refl (kept r (record { core = after_recall c b.core; jobs = tt }))
kept (look r) b = kept r b
kept {c} {d = e} {js = js} {ls = ls} (stop r) b =
    let k = b.core in
    stays c (stopped c) e ls refl refl (kept r (record {
      core = record {
        whole = record { few = k.whole.few; neighbours = k.whole.neighbours; cycles = k.whole.cycles; out = k.whole.out };
        both_ways = k.both_ways;
        below = k.below;
        close = k.close;
        out_early = k.out_early;
        out_last = k.out_last;
        round = k.round;
      };
      jobs = stopped_fits c js b.jobs;
    }))
kept {c} {d = e} {js = js} {ls = ls} (round target all above within r) b = stays c (rounded c target) e ls refl refl (kept r (after_round c target all above within js b))

fresh : (c : Core) (js : List JobOf) → Fits c js → NoneStale c js
fresh c [] f k j at = absurd cc
fresh c (i ∷ js) f zero j at =
    let same : i ≡ j = cc in
    subst (λ (x : JobOf). (x.part < c.count) × (is_out c x.part ≡ true) × (cycle c x.part ≡ x.cycle)) same (f.0.part, f.0.out, f.0.at)
fresh c (i ∷ js) f (suc k) j at = fresh c js f.2 k j at

-- floors rise with the cycles
floors : (c d : Core) → NoneFell c d → d.count ≡ c.count → NoFloorFell c d
floors c d rose count s t before after =
    let at = after.at in
    let low = before.least after.part (let part = after.is_part in omega arith) in
    let up = rose after.part in
    omega arith

-- a part that is out is one of the parts
set_within : (xs : List Bool) (p : ℕ) → slice_index_or xs p false ≡ true → p < length xs
set_within [] p e = absurd cc
set_within (x ∷ xs) zero e = omega arith
set_within (x ∷ xs) (suc p) e = (let rest = set_within xs p e in omega arith)

pub posts : PostsRise
posts c p core out =
    let inside = set_within c.out p out in
    let whole = core.whole.out in
    floors c (posted c p) (λ q. rises c p q core.whole (omega arith)) refl

pub stand : SchedulesStand
stand c d js core runs =
    let rest = kept runs (record { core = core; jobs = tt }) in
    record { core = rest.both.core; fresh = fresh d js rest.both.jobs; cycles = rest.rose; floors = floors c d rest.rose rest.count }

-- the part with the least cycle
pub record Least (c : Core) (n : ℕ) : Type 0 where
  pub part : ℕ
  pub within : part < n
  pub least : (q : ℕ) → q < n → cycle c part ≤ cycle c q

least_of : (c : Core) (n : ℕ) → Least c (suc n)
least_of c zero = record { part = 0; within = omega arith; least = λ q h. (let same : q ≡ 0 = omega arith in let e : cycle c q ≡ cycle c 0 = ap (cycle c) same in omega arith) }
least_of c (suc n) =
    let r = least_of c n in
    elim (cases_lt (cycle c (suc n)) (cycle c r.part)) [
      | inl less ↦ record {
        part = suc n;
        within = omega arith;
        least = λ q h. elim (cases_lt q (suc n)) [
          | inl below ↦ (let l = r.least q below in omega arith)
          | inr last ↦ (let same : q ≡ suc n = omega arith in let e : cycle c q ≡ cycle c (suc n) = ap (cycle c) same in omega arith)
        ];
      }
      | inr more ↦ record {
        part = r.part;
        within = (let w = r.within in omega arith);
        least = λ q h. elim (cases_lt q (suc n)) [
          | inl below ↦ r.least q below
          | inr last ↦ (let same : q ≡ suc n = omega arith in let e : cycle c q ≡ cycle c (suc n) = ap (cycle c) same in omega arith)
        ];
      }
    ]

least_in : (c : Core) (n late : ℕ) → late < n → Least c n
least_in c zero late h = absurd (omega arith)
least_in c (suc n) late h = least_of c n

pub a_ready : SomeReady
a_ready c late core part early inside =
    let l = least_in c c.count late part in
    let low = l.least late part in
    (l.part, record { part = l.within; inside = inside l.part l.within; early = omega arith; last = λ q also near. l.least q also })

all_start : (n p : ℕ) → ◌≡◌ {A = ℕ} (slice_index_or (replicate n 0) p 0) 0
all_start zero p = refl
all_start (suc n) zero = refl
all_start (suc n) (suc p) = all_start n p

pub start_core : (neighbours : List (List ℕ)) (target : ℕ) → length neighbours ≤ 64 → IsMutual neighbours → target < 1024 → IsCore (started neighbours target)
start_core neighbours target few both low = record {
  whole = record { few = few; neighbours = refl; cycles = length-replicate (length neighbours) 0; out = length-replicate (length neighbours) false };
  both_ways = both;
  below = λ p part. (let e = all_start (length neighbours) p in omega arith);
  close = λ p q part also near. (let e = all_start (length neighbours) p in omega arith);
  out_early = λ p part is. absurd (let no : false ≡ true = sym (nothing_out (length neighbours) p) ∙ is in cc);
  out_last = λ p q part also is near. absurd (let no : false ≡ true = sym (nothing_out (length neighbours) p) ∙ is in cc);
  round = omega arith;
}
