-- How colours spread: from nothing, by what primitives bring, pair by pair, to the least closed family.
use Rattle.std.proofs.Common.{◌≡◌, ℕ, ◌+◌, ◌-◌, ◌*◌, ◌<◌, ◌≤◌, List, [], ◌∷◌, ◌++◌, length, map, replicate, get_or, slice_get, refl, sym, ◌∙◌, ap, subst, inl, inr, arith, length-append, true, eqb-true}
use Rattle.std.proofs.lemmas.Bool.{cases_eq}
use Rattle.std.proofs.lemmas.List.{get_or-replicate, length-map, length-replicate}
use Rattle.std.proofs.lemmas.List.Sums.{sum_by-le}
use Rattle.std.proofs.lemmas.Option.{slice_get-map, slice_get_read, slice_get_within}
use Rattle.std.specs.Prelude.{option_map}
use Rattle.std.proofs.lemmas.Nat.Bits.{bit_at-zero}
use Rattle.std.specs.Int.{bit_at}
use Rattle.xm_colours.proofs.Among.{in_either, in_left, in_right}
use Rattle.xm_colours.proofs.Sets.{has_tells, sets_rise}
use Rattle.xm_colours.proofs.Through.{closed_from, closed_given, closed_sent, covers, given_fits, sent_fits}
use Rattle.xm_colours.specs.Family.{AreColours, colours_at}
use Rattle.xm_colours.specs.Inner.Spreading.{AddsOver, Covers, Fit, HasGiven, IsPassed, IsSpreadOver, given, pair, sent}
use Rattle.xm_colours.specs.Inner.Words.{Has, holds, lacking, set_of, sets_of}
use Rattle.xm_colours.specs.declared.pairs.Pair.{Pair}
use Rattle.xm_model.specs.Component.{Component, component_of}
use Rattle.xm_model.specs.declared.primitive.Primitive.{Primitive}
use Rattle.xm_model.specs.Lemmas.PortCounts.{counted, output_below}
use Rattle.xm_model.specs.Lemmas.PrimitiveFits.{prim_fits}
use Rattle.xm_model.specs.Net.{HasPrim, IsNet, Network}
use Rattle.xm_model.specs.Membership.{IsIn}
use Rattle.xm_model.specs.Ports.{HasOutput, IsTarget, HasInput}
use Rattle.xm_model.specs.Lemmas.OneTarget.{one_target}

no_colour : (d : ℕ) → holds 0 d ≡ true → ⊥
no_colour d h = let none = bit_at-zero d in let one = eqb-true (bit_at 0 d) 1 h in absurd (omega arith)

-- no channel has a colour
none_has : (n c d : ℕ) → Has (replicate n 0) c d → ⊥
none_has n c d h =
    let r = has_tells (replicate n 0) c d h in
    let inside : c < n = subst (λ (k : ℕ). c < k) (length-replicate {A = ℕ} n 0) r.0 in
    no_colour d (subst (λ (w : ℕ). holds w d ≡ true) (get_or-replicate n c 0 0 inside) r.2)

lacking_le : (words : List ℕ) → lacking words ≤ 64 * length words
lacking_le words = let most = sum_by-le (λ w. 64 - length (set_of w)) 64 words (λ k d i. omega arith) in omega arith

none_spread : (net : Network) → IsSpreadOver net (replicate net.channels 0) []
none_spread net = record {
  whole = length-replicate net.channels 0;
  colours = λ c d h. absurd (none_has net.channels c d h);
  least = λ family closed c d h. absurd (none_has net.channels c d h);
  has = λ it h. absurd h;
  passed = λ c d h. absurd (none_has net.channels c d h);
  short = let most = lacking_le (replicate net.channels 0) in let whole : length (replicate net.channels 0) ≡ net.channels = length-replicate {A = ℕ} net.channels 0 in omega arith;
}

pub at_start : (net : Network) (n : ℕ) (words : List ℕ) (pending : List Pair) → n ≡ net.channels → words ≡ replicate n 0 → pending ≡ [] → IsSpreadOver net words pending
at_start net n words pending same e none = rw (e, none, same) (none_spread net)

-- the code's primitives
pub prim_at : (net : Network) (prims : List Primitive) (i : ℕ) (prim : Primitive) → map component_of prims ≡ net.prims → i < length prims → prim ≡ get_or prims i prim → HasPrim net i (component_of prim)
prim_at net prims i prim same inside is =
    let at = slice_get_read prims (length prims) i prim refl inside is in
    ap (λ (ms : List Component). slice_get ms i) (sym same) ∙ slice_get-map component_of prims i ∙ ap (option_map component_of) at

pub prim_within : (net : Network) (prims : List Primitive) (n i : ℕ) → map component_of prims ≡ net.prims → length prims ≤ n → i < length net.prims → i < n
prim_within net prims n i same past inside =
    let whole = ap length same in
    let count = length-map prims component_of in
    omega arith

module _ (net : Network) (is_net : IsNet net) where
  -- what a primitive brings or makes are pairs of the net
  pub fits : (ps : List Pair) (i : ℕ) (m : Component) → HasPrim net i m → ((x : Pair) → IsIn ps x → HasOutput m x.channel × (x.colour < net.colours)) → Fit ps net.channels
  fits ps i m has h x inside =
      let r = h x inside in
      let below = r.1 in
      let most = is_net.limits.colours in
      (output_below net (counted net is_net) i m x.channel has r.0, omega arith)

  pub fits_given : (i : ℕ) (m : Component) → HasPrim net i m → (n : ℕ) → n ≡ net.channels → Fit (given m) n
  fits_given i m has n e = rw e (fits (given m) i m has (λ x h. given_fits net.colours x m (prim_fits net is_net i m has) h))

  pub fits_sent : (i : ℕ) (m : Component) (it : Pair) → HasPrim net i m → it.colour < net.colours → Fit (sent m it) net.channels
  fits_sent i m it has below = fits (sent m it) i m has (λ x h. sent_fits net.colours x m it (prim_fits net is_net i m has) below h)

  pub covers_at : (i : ℕ) (m : Component) (d : ℕ) → HasPrim net i m → d < net.colours → Covers m d
  covers_at i m d has below = covers net.colours m d (prim_fits net is_net i m has) below

  -- a primitive brings what it has
  module _ (words new_words : List ℕ) (pending new_pending : List Pair) (so : IsSpreadOver net words pending) (i : ℕ) (m : Component) (has : HasPrim net i m) (adds : AddsOver (given m) words pending new_words new_pending) where
    pub seeded : IsSpreadOver net new_words new_pending
    seeded = record {
      whole = adds.whole ∙ so.whole;
      colours = λ c d h. elim (adds.only c d h) [ inl w ↦ so.colours c d w | inr w ↦ (given_fits net.colours (pair c d) m (prim_fits net is_net i m has) w).1 ];
      least = λ family closed c d h. elim (adds.only c d h) [ inl w ↦ so.least family closed c d w | inr w ↦ closed_given family m (pair c d) (closed i m has) w ];
      has = λ x h. elim (adds.new x h) [ inl w ↦ adds.kept x.channel x.colour (so.has x w) | inr w ↦ adds.added x w ];
      passed = λ c d h. elim (adds.waits c d h) [
        | inl w ↦ elim (so.passed c d w) [
          | inl p ↦ inl (adds.still (pair c d) p)
          | inr p ↦ inr (λ j q at has_input x s. adds.kept x.channel x.colour (p j q at has_input x s))
        ]
        | inr w ↦ inl w
      ];
      short = let n = adds.same in let s = so.short in omega arith;
    }

    pub given_more : HasGiven net i words → HasGiven net (i + 1) new_words
    given_more given_below j q below at x h = elim (cases_eq j i) [
      | inl same ↦
          let here : slice_get net.prims j ≡ slice_get net.prims i = ap (slice_get net.prims) same in
          let is : m ≡ q = cc in
          adds.added x (subst (λ (p : Component). IsIn (given p) x) (sym is) h)
      | inr apart ↦ adds.kept x.channel x.colour (given_below j q (omega arith) at x h)
    ]

  -- a pending pair goes on
  module _ (words new_words : List ℕ) (front new_pending : List Pair) (it : Pair) (so : IsSpreadOver net words (front ++ it ∷ [])) (i : ℕ) (m : Component) (has : HasPrim net i m) (has_input : HasInput m it.channel) (adds : AddsOver (sent m it) words front new_words new_pending) where
    pub stepped : IsSpreadOver net new_words new_pending
    stepped = record {
      whole = adds.whole ∙ so.whole;
      colours = λ c d h. elim (adds.only c d h) [ inl w ↦ so.colours c d w | inr w ↦ (sent_fits net.colours (pair c d) m it (prim_fits net is_net i m has) (so.colours it.channel it.colour there) w).1 ];
      least = λ family closed c d h. elim (adds.only c d h) [
        | inl w ↦ so.least family closed c d w
        | inr w ↦ closed_sent family m it.channel it.colour (pair c d) (closed i m has) has_input (so.least family closed it.channel it.colour there) w
      ];
      has = λ x h. elim (adds.new x h) [ inl w ↦ adds.kept x.channel x.colour (so.has x (in_left x front (it ∷ []) w)) | inr w ↦ adds.added x w ];
      passed = λ c d h. elim (adds.waits c d h) [
        | inl w ↦ elim (so.passed c d w) [
          | inl p ↦ elim (in_either (pair c d) front (it ∷ []) p) [
            | inl q ↦ inl (adds.still (pair c d) q)
            | inr q ↦ elim q [ inl e ↦ inr (subst (λ (p : Pair). IsPassed net new_words p.channel p.colour) e went) | inr q ↦ absurd q ]
          ]
          | inr p ↦ inr (λ j q at t x s. adds.kept x.channel x.colour (p j q at t x s))
        ]
        | inr w ↦ inl w
      ];
      short = let n = adds.same in let s = so.short in let l = longer in omega arith;
    } where
      there : Has words it.channel it.colour
      there = so.has it (in_right it front (it ∷ []) (inl refl))

      went : IsPassed net new_words it.channel it.colour
      went j q at t x s = adds.added x (subst (λ (p : Component). IsIn (sent p it) x) (one_target net is_net j i it.channel q m at has t has_input) s)

      longer : length (front ++ it ∷ []) ≡ length front + 1
      longer = simp length-append refl

    pub stepped_less : lacking new_words + length new_pending < lacking words + length (front ++ it ∷ [])
    stepped_less = let n = adds.same in simp length-append (omega arith)

-- the last of the pending pairs
module _ (net : Network) (is_net : IsNet net) (words : List ℕ) (pending front : List Pair) (it : Pair) (so : IsSpreadOver net words pending) (split : pending ≡ front ++ it ∷ []) where
  so_split : IsSpreadOver net words (front ++ it ∷ [])
  so_split = subst (λ (ps : List Pair). IsSpreadOver net words ps) split so

  last_has : Has words it.channel it.colour
  last_has = so_split.has it (in_right it front (it ∷ []) (inl refl))

  pub last_channel : it.channel < net.channels
  last_channel = let inside = (has_tells words it.channel it.colour last_has).0 in let whole = so.whole in omega arith

  pub last_colour : it.colour < net.colours
  last_colour = so.colours it.channel it.colour last_has

  module _ (i : ℕ) (m : Component) (has : HasPrim net i m) where
    pub last_covers : Covers m it.colour
    last_covers = covers_at net is_net i m it.colour has last_colour

    pub last_fits : (mid : List ℕ) → mid ≡ words → Fit (sent m it) (length mid)
    last_fits mid same = rw (ap length same ∙ so.whole) (fits_sent net is_net i m it has last_colour)

    -- it goes on through the primitive that takes from its channel
    pub stepped_to : IsTarget net i it.channel → (mid new_words : List ℕ) (new_pending : List Pair) → mid ≡ words → AddsOver (sent m it) mid front new_words new_pending →
        IsSpreadOver net new_words new_pending × (lacking new_words + length new_pending < lacking words + length pending) × ((c d : ℕ) → Has words c d → Has new_words c d)
    stepped_to target mid new_words new_pending same adds =
        let at = target.has in
        let is : target.prim ≡ m = cc in
        let has_input : HasInput m it.channel = subst (λ (p : Component). HasInput p it.channel) is target.has_input in
        let now : AddsOver (sent m it) words front new_words new_pending = subst (λ (ws : List ℕ). AddsOver (sent m it) ws front new_words new_pending) same adds in
        let count : length pending ≡ length (front ++ it ∷ []) = ap length split in
        let less = stepped_less net is_net words new_words front new_pending it so_split i m has has_input now in
        (stepped net is_net words new_words front new_pending it so_split i m has has_input now, omega arith, now.kept)

-- nothing is pending
all_passed : (net : Network) (words : List ℕ) → IsSpreadOver net words [] → HasGiven net (length net.prims) words → AreColours net (colours_at (sets_of words))
all_passed net words so brought = record {
  closed = λ i m has. closed_from (colours_at (sets_of words)) m (brought i m (slice_get_within net.prims i m has) has)
      (λ c d has_input h x s. elim (so.passed c d h) [ inl p ↦ absurd p | inr p ↦ p i m has has_input x s ]);
  least = so.least;
  rise = sets_rise words;
}

pub at_end : (net : Network) (before words : List ℕ) (pending : List Pair) (sets : List (List ℕ)) → IsSpreadOver net words pending → pending ≡ [] → HasGiven net (length net.prims) before →
    ((c d : ℕ) → Has before c d → Has words c d) → sets ≡ sets_of words → AreColours net (colours_at sets)
at_end net before words pending sets so none brought kept e =
    rw e (all_passed net words (subst (λ (ps : List Pair). IsSpreadOver net words ps) none so) (λ i m below has x h. kept x.channel x.colour (brought i m below has x h)))
