-- The walk over the steps of a goal.
use Rattle.std.proofs.Common.{◌≡◌, ℕ, zero, suc, ◌+◌, ◌-◌, ◌<◌, ◌≤◌, Some, Result, Ok, Err, List, [], ◌∷◌, ◌++◌, map, slice_get, take, length, reverse, remove, refl, sym, ◌∙◌, ap, subst, arith}
use Rattle.std.proofs.lemmas.List.{append_assoc, length-append, length-take-le, reverse-append, take-take, take_all, take_at}
use Rattle.xm_check.specs.Break.{at_place, step_test, steps_test}
use Rattle.xm_check.specs.Inner.Walking.{AreNested, next_test, paths_of}
use Rattle.xm_check.specs.declared.trees.Left.{Left}
use Rattle.xm_design.specs.Designed.{Designed}
use Rattle.xm_flow.specs.ValidLemma.{Lemma}
use Rattle.xm_lits.specs.Inference.{alternatives_of}
use Rattle.xm_lits.specs.declared.literal.Lit.{Lit}
use Rattle.xm_model.specs.ListView.{ListView}
use Rattle.xm_model.specs.Steps.{◌>>=◌}
use Rattle.xm_proof.specs.Argument.{Step}
use Rattle.xm_proof.specs.Tests.{longer}
use Rattle.xm_proof.specs.declared.verdict.ProofPath.{ProofPath}
use Rattle.xm_proof.specs.declared.verdict.ProofPath.TheVariants as place
use Rattle.xm_proof.specs.declared.verdict.Reason.{Reason}

-- the last item apart
split_at : {A : Type 0} (xs : List A) (k : ℕ) (last : A) → length xs ≡ suc k → slice_get xs k ≡ Some last → xs ≡ remove xs k ++ last ∷ []
split_at [] k last long h = absurd (omega arith)
split_at (x ∷ []) zero last long h = let same : x ≡ last = cc in ap (λ y. y ∷ []) same
split_at (x ∷ y ∷ xs) zero last long h = absurd (omega arith)
split_at (x ∷ []) (suc k) last long h = absurd (omega arith)
split_at (x ∷ y ∷ xs) (suc k) last long h = let rest = split_at (y ∷ xs) k last (let e = long in omega arith) h in ap (λ zs. x ∷ zs) rest

pub split_last : {A : Type 0} (xs : List A) (k : ℕ) (last : A) (front : List A) → 0 < length xs → k ≡ length xs - 1 → slice_get xs k ≡ Some last → front ≡ remove xs k → xs ≡ front ++ last ∷ []
split_last xs k last front some at h made =
    let long : length xs ≡ suc k = omega arith in
    split_at xs k last long h ∙ ap (λ zs. zs ++ last ∷ []) (sym made)

pub reverse_last : {A : Type 0} (xs : List A) (last : A) → reverse (xs ++ last ∷ []) ≡ last ∷ reverse xs
reverse_last xs last = reverse-append xs (last ∷ [])

abbrev pub left_at : ℕ → ListView Lit → Left
left_at base lits = record { base = base; lits = lits }

map_last : (base : ℕ) (front : List (ListView Lit)) (last : ListView Lit) → map (left_at base) (front ++ last ∷ []) ≡ map (left_at base) front ++ left_at base last ∷ []
map_last base [] last = refl
map_last base (a ∷ front) last = ap (λ (ls : List Left). left_at base a ∷ ls) (map_last base front last)

-- one more of the alternatives is left
pub one_left : (base : ℕ) (alternatives front : List (ListView Lit)) (last : ListView Lit) (left more : List Left) → alternatives ≡ front ++ last ∷ [] → more ≡ left ++ left_at base last ∷ [] →
    map (left_at base) front ++ reverse more ≡ map (left_at base) alternatives ++ reverse left
one_left base alternatives front last left more split pushed =
    ap (λ (ls : List Left). map (left_at base) front ++ reverse ls) pushed
    ∙ ap (λ (ls : List Left). map (left_at base) front ++ ls) (reverse_last left (left_at base last))
    ∙ sym (append_assoc (map (left_at base) front) (left_at base last ∷ []) (reverse left))
    ∙ ap (λ (ls : List Left). ls ++ reverse left) (sym (map_last base front last))
    ∙ ap (λ (as' : List (ListView Lit)). map (left_at base) as' ++ reverse left) (sym split)

-- the paths that are left stay where the path at hand keeps its beginning
kept : (path more : List Lit) (b : ℕ) (ls : List Left) → AreNested b ls → take b more ≡ take b path → paths_of more ls ≡ paths_of path ls
kept path more b [] nested same = refl
kept path more b (l ∷ ls) nested same =
    let low : l.base ≤ b = nested.0 in
    let here : take l.base more ≡ take l.base path = sym (take-take l.base b more low) ∙ ap (take l.base) same ∙ take-take l.base b path low in
    let rest = kept path more l.base ls nested.1 here in
    ap (λ (start : List Lit). (start ++ l.lits.items) ∷ paths_of more ls) here ∙ ap (λ (ps : List (List Lit)). (take l.base path ++ l.lits.items) ∷ ps) rest

weaker : (m n : ℕ) (ls : List Left) → m ≤ n → AreNested m ls → AreNested n ls
weaker m n [] low nested = tt
weaker m n (l ∷ ls) low nested = let first : l.base ≤ m = nested.0 in let whole : l.base ≤ n = omega arith in (whole, nested.1)

-- the next path at hand
pub next_nested : (path more : List Lit) (l : Left) (ls : List Left) → AreNested (length path) (l ∷ ls) → more ≡ take l.base path ++ l.lits.items → AreNested (length more) ls
next_nested path more l ls nested made =
    let low : l.base ≤ length path = nested.0 in
    let long : length more ≡ length (take l.base path) + length l.lits.items = ap length made ∙ length-append (take l.base path) l.lits.items in
    let cut = length-take-le l.base path low in
    weaker l.base (length more) ls (omega arith) nested.1

pub next_paths : (path more : List Lit) (l : Left) (ls : List Left) → AreNested (length path) (l ∷ ls) → more ≡ take l.base path ++ l.lits.items → paths_of path (l ∷ ls) ≡ more ∷ paths_of more ls
next_paths path more l ls nested made =
    let low : l.base ≤ length path = nested.0 in
    let cut = length-take-le l.base path low in
    let begin : take l.base more ≡ take l.base path = ap (take l.base) made ∙ take_at (take l.base path) l.lits.items l.base cut in
    let rest = kept path more l.base ls nested.1 begin in
    ap (λ (p : List Lit). p ∷ paths_of path ls) (sym made) ∙ ap (λ (ps : List (List Lit)). more ∷ ps) (sym rest)

-- the alternatives are left
pub left_nested : (path : List Lit) (alternatives : List (ListView Lit)) (ls : List Left) → AreNested (length path) ls → AreNested (length path) (map (left_at (length path)) alternatives ++ ls)
left_nested path [] ls nested = nested
left_nested path (a ∷ as') ls nested = let whole : length path ≤ length path = omega arith in (whole, left_nested path as' ls nested)

pub left_paths : (path : List Lit) (alternatives : List (ListView Lit)) (ls : List Left) → paths_of path (map (left_at (length path)) alternatives ++ ls) ≡ longer path (alternatives_of alternatives) ++ paths_of path ls
left_paths path [] ls = refl
left_paths path (a ∷ as') ls =
    let whole : length path ≤ length path = omega arith in
    let all : take (length path) path ≡ path = take_all (length path) path whole in
    ap (λ (start : List Lit). (start ++ a.items) ∷ paths_of path (map (left_at (length path)) as' ++ ls)) all
    ∙ ap (λ (ps : List (List Lit)). (path ++ a.items) ∷ ps) (left_paths path as' ls)

-- a step of the test
no_paths : (it : Designed) (lemmas : List Lemma) (before : List Lit) (k i : ℕ) (steps : List Step) → Ok tt ≡ steps_test it lemmas before k i steps []
no_paths it lemmas before k i [] = refl
no_paths it lemmas before k i (step ∷ steps) = refl

abbrev pub rest_of : Designed → List Lemma → List Lit → ℕ → ℕ → List Step → List (List Lit) → Result (List (List Lit)) Reason → Result (Unit {0}) (ProofPath × Reason)
rest_of it lemmas before k i steps paths r = do
  more ← at_place (place.Node k i) r
  steps_test it lemmas before k (suc i) steps (more ++ paths)

abbrev pub joined : List (List Lit) → Result (List (List Lit)) Reason → Result (List (List Lit)) Reason
joined paths r = do
  more ← r
  Ok (more ++ paths)

first_path : (it : Designed) (lemmas : List Lemma) (before : List Lit) (k i : ℕ) (steps : List Step) (paths more : List (List Lit)) (r : Result (List (List Lit)) Reason) →
    joined paths r ≡ Ok more → rest_of it lemmas before k i steps paths r ≡ steps_test it lemmas before k (suc i) steps more
first_path it lemmas before k i steps paths more (Ok x) h = let same : x ++ paths ≡ more = cc in ap (steps_test it lemmas before k (suc i) steps) same
first_path it lemmas before k i steps paths more (Err e) h = cc

first_stop : (it : Designed) (lemmas : List Lemma) (before : List Lit) (k i : ℕ) (steps : List Step) (paths : List (List Lit)) (why : Reason) (r : Result (List (List Lit)) Reason) →
    joined paths r ≡ Err why → rest_of it lemmas before k i steps paths r ≡ Err (place.Node k i, why)
first_stop it lemmas before k i steps paths why (Ok x) h = cc
first_stop it lemmas before k i steps paths why (Err e) h = let same : e ≡ why = cc in ap (λ (w : Reason). Err (place.Node k i, w)) same

pub goes_on : (it : Designed) (lemmas : List Lemma) (before : List Lit) (k i : ℕ) (step : Step) (steps : List Step) (paths more : List (List Lit)) →
    next_test it lemmas before step paths ≡ Ok more → steps_test it lemmas before k i (step ∷ steps) paths ≡ steps_test it lemmas before k (suc i) steps more
goes_on it lemmas before k i step steps [] more h = let none : [] ≡ more = cc in no_paths it lemmas before k (suc i) steps ∙ ap (steps_test it lemmas before k (suc i) steps) none
goes_on it lemmas before k i step steps (path ∷ paths) more h = first_path it lemmas before k i steps paths more (step_test it lemmas before path step) h

pub stops : (it : Designed) (lemmas : List Lemma) (before : List Lit) (k i : ℕ) (step : Step) (steps : List Step) (paths : List (List Lit)) (why : Reason) →
    next_test it lemmas before step paths ≡ Err why → steps_test it lemmas before k i (step ∷ steps) paths ≡ Err (place.Node k i, why)
stops it lemmas before k i step steps [] why h = cc
stops it lemmas before k i step steps (path ∷ paths) why h = first_stop it lemmas before k i steps paths why (step_test it lemmas before path step) h

-- the next path is taken to hand
pub popped : (path more : List Lit) (left front : List Left) (k : ℕ) (l : Left) → AreNested (length path) (reverse left) → 0 < length left → k ≡ length left - 1 → slice_get left k ≡ Some l → front ≡ remove left k → more ≡ take l.base path ++ l.lits.items →
    (paths_of path (reverse left) ≡ more ∷ paths_of more (reverse front)) × AreNested (length more) (reverse front)
popped path more left front k l nested some last at cut made =
    let turned : reverse left ≡ l ∷ reverse front = ap reverse (split_last left k l front some last at cut) ∙ reverse_last front l in
    let inner : AreNested (length path) (l ∷ reverse front) = subst (λ (ls : List Left). AreNested (length path) ls) turned nested in
    (ap (paths_of path) turned ∙ next_paths path more l (reverse front) inner made, next_nested path more l (reverse front) inner made)
