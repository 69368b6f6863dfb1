-- What follows from a literal: its rules, each with alternatives of which one holds wholly.
use Rattle.std.specs.Prelude.{ℕ, List, [], ◌∷◌, ◌++◌, map, Option, Some, None, slice_get, slice_index, cond, Bool}
use Rattle.std.specs.Prelude.{nat_eq, nat_lt}
use Rattle.xm_colours.specs.Family.{colours_at}
use Rattle.xm_design.specs.Designed.{Designed}
use Rattle.xm_lits.specs.declared.inference.Rule.{Rule}
use Rattle.xm_lits.specs.declared.inference.RuleName.{RuleName}
use Rattle.xm_lits.specs.declared.inference.RuleName.TheVariants.{P0, S1, S2, S3, S4, S5, S6, P1, P2, P3, P4}
use Rattle.xm_lits.specs.declared.inference.RuleName.TheVariants.{O1, O2, O3, O4, O5, O6, I2, I3, I4, I5, I6, I7}
use Rattle.xm_lits.specs.declared.literal.Lit.{Lit}
use Rattle.xm_lits.specs.declared.literal.Lit.TheVariants.{Stuck, Dead, Idle, Full, Has, Lacks}
use Rattle.xm_model.specs.Component.{Component, Fork, Function, Join, Merge, Queue, Sink, Source, Switch}
use Rattle.xm_model.specs.ListView.{ListView}
use Rattle.xm_model.specs.Net.{Network, initiators, targets}
use Rattle.xm_model.specs.Membership.{times}
use Rattle.xm_model.specs.Signals.{at_side, takes_a}

-- a name, for a rule of an idle fork output also a colour of the input, and alternatives
pub record Inference : Type 0 where
  pub name : RuleName
  pub via : Option ℕ
  pub alternatives : List (List Lit)

-- the code's lists and rules without rooms
abbrev pub alternatives_of : List (ListView Lit) → List (List Lit)
alternatives_of alternatives = map (λ (a : ListView Lit). a.items) alternatives

abbrev pub inference_of : Rule → Inference
inference_of r = record { name = r.name; via = r.via; alternatives = alternatives_of r.alternatives.items }

abbrev pub rule : RuleName → List (List Lit) → Inference
rule name alternatives = record { name = name; via = None; alternatives = alternatives }

abbrev pub one_rule : RuleName → List (List Lit) → List Inference
one_rule name alternatives = rule name alternatives ∷ []

-- the channel is idle of each of these colours
abbrev pub idle_of : ℕ → List ℕ → List Lit
idle_of c ds = map (λ d. Idle c d) ds

-- the channel is idle of each of its colours
abbrev pub idle_all : (ℕ → List ℕ) → ℕ → List Lit
idle_all colours c = idle_of c (colours c)

-- one alternative for each colour
abbrev pub one_of : (ℕ → List Lit) → List ℕ → List (List Lit)
one_of f ds = map f ds

-- the channel is dead with one of the colours
abbrev pub dead_one : ℕ → List ℕ → List (List Lit)
dead_one c ds = one_of (λ d. Dead c d ∷ []) ds

-- the colours that a table takes to this one
abbrev pub taken_to : List ℕ → ℕ → List ℕ → List ℕ
taken_to table d [] = []
taken_to table d (x ∷ xs) = cond (nat_eq (slice_index table x) d) (x ∷ taken_to table d xs) (taken_to table d xs)

-- the colours but this one
abbrev pub without : ℕ → List ℕ → List ℕ
without d [] = []
without d (x ∷ xs) = cond (nat_eq x d) (without d xs) (x ∷ without d xs)

-- the colours of a rising list and this one, rising
abbrev pub with_colour : ℕ → List ℕ → List ℕ
with_colour d [] = d ∷ []
with_colour d (x ∷ xs) = cond (nat_eq x d) (x ∷ xs) (cond (nat_lt d x) (d ∷ x ∷ xs) (x ∷ with_colour d xs))

-- the colour is one of these
abbrev pub has_colour : List ℕ → ℕ → Bool
has_colour ds d = nat_lt 0 (times d ds)

-- the channel is idle of the colour, where the colour is one of these
abbrev pub idle_where : ℕ → ℕ → List ℕ → List Lit
idle_where c d ds = cond (has_colour ds d) (Idle c d ∷ []) []

-- a queue lacks the colour, and its input is idle of it, where the colour may come there
abbrev pub lacking : (ℕ → List ℕ) → ℕ → ℕ → ℕ → List Lit
lacking colours d q input = Lacks q d ∷ idle_where input d (colours input)

-- the channel is dead with one of its colours, but not this one
abbrev pub dead_other : (ℕ → List ℕ) → ℕ → ℕ → List (List Lit)
dead_other colours c d = dead_one c (without d (colours c))

-- of two channels the one that is not c
abbrev pub other_than : ℕ → ℕ → ℕ → ℕ
other_than c a b = cond (nat_eq c a) b a

-- the output of a switch to which this colour goes
abbrev pub way_of : List Bool → ℕ → ℕ → ℕ → ℕ
way_of to_a d a b = cond (takes_a to_a d) a b

-- the map of the fork's output c
abbrev pub map_to : ℕ → ℕ → List ℕ → List ℕ → List ℕ
map_to c a map_a map_b = cond (nat_eq c a) map_a map_b

-- what may pass a join on this channel, where channel c offers d
abbrev pub passed : (ℕ → List ℕ) → ℕ → ℕ → ℕ → List ℕ
passed colours c d from = cond (nat_eq c from) (d ∷ []) (colours from)

-- the input of a fork is idle of the colour, or dead with it where the other output is stuck
abbrev pub via_rule : ℕ → ℕ → ℕ → Inference
via_rule input other x =
    record { name = I4; via = Some x; alternatives = (Idle input x ∷ []) ∷ (Dead input x ∷ Stuck other ∷ []) ∷ [] }

-- a rule for each of these colours
abbrev pub via_rules : ℕ → ℕ → List ℕ → List Inference
via_rules input other xs = map (via_rule input other) xs

-- the channel is idle of all its colours, or dead with one
abbrev pub idle_or_dead : (ℕ → List ℕ) → ℕ → List (List Lit)
idle_or_dead colours c = idle_all colours c ∷ dead_one c (colours c)

-- the rules of stuck channel c, by primitive number p, which takes from it
abbrev pub stuck_rules : (ℕ → List ℕ) → ℕ → ℕ → Component → List Inference
stuck_rules colours c p (Source _ _ _) = []
stuck_rules colours c p (Sink _ _) = one_rule S1 []
stuck_rules colours c p (Queue _ out _ _) = one_rule S2 (one_of (λ e. Full p ∷ Dead out e ∷ []) (colours out))
stuck_rules colours c p (Function _ out _) = one_rule S3 ((Stuck out ∷ []) ∷ [])
stuck_rules colours c p (Fork _ a b _ _) = one_rule S4 ((Stuck a ∷ []) ∷ (Stuck b ∷ []) ∷ [])
stuck_rules colours c p (Join a b out _) = one_rule S5 (idle_all colours (other_than c a b) ∷ (Stuck out ∷ []) ∷ [])
stuck_rules colours c p (Switch _ _ _ _) = one_rule S6 (idle_or_dead colours c)
stuck_rules colours c p (Merge _ _ _) = one_rule S6 (idle_or_dead colours c)

-- the rules of channel c, which is dead with d, by the primitive that takes from it
abbrev pub passing_rules : (ℕ → List ℕ) → ℕ → ℕ → ℕ → Component → List Inference
passing_rules colours c d p (Function _ out table) = one_rule P1 ((Dead out (slice_index table d) ∷ []) ∷ [])
passing_rules colours c d p (Join a b out pass) =
    one_rule P4 (idle_all colours (other_than c a b) ∷ dead_one out (passed colours c d (at_side pass a b)))
passing_rules colours c d p (Switch _ a b to_a) = one_rule P2 ((Dead (way_of to_a d a b) d ∷ []) ∷ [])
passing_rules colours c d p (Merge a b out) = one_rule P3 (dead_one out (with_colour d (colours (other_than c a b))))
passing_rules colours c d p _ = []

-- both inputs of a join are dead, the one that passes with d
abbrev pub dead_both : (ℕ → List ℕ) → ℕ → ℕ → ℕ → List (List Lit)
dead_both colours d pass other = one_of (λ e. Dead pass d ∷ Dead other e ∷ []) (colours other)

-- and by primitive number p, which offers on it
abbrev pub offering_rules : (ℕ → List ℕ) → ℕ → ℕ → ℕ → Component → List Inference
offering_rules colours c d p (Source _ _ _) = []
offering_rules colours c d p (Sink _ _) = []
offering_rules colours c d p (Queue _ _ _ _) = one_rule O1 ((Has p d ∷ []) ∷ [])
offering_rules colours c d p (Function input _ table) = one_rule O2 (dead_one input (taken_to table d (colours input)))
offering_rules colours c d p (Fork input a _ map_a map_b) =
    one_rule O3 (dead_one input (taken_to (map_to c a map_a map_b) d (colours input)))
offering_rules colours c d p (Join a b _ pass) =
    one_rule O4 (dead_both colours d (at_side pass a b) (at_side pass b a))
offering_rules colours c d p (Switch input _ _ _) = one_rule O5 ((Dead input d ∷ []) ∷ [])
offering_rules colours c d p (Merge a b _) = one_rule O6 ((Dead a d ∷ []) ∷ (Dead b d ∷ []) ∷ [])

-- the input of a join that passes is idle of d, or dead with it where the other is idle
abbrev pub idle_join : (ℕ → List ℕ) → ℕ → ℕ → ℕ → List (List Lit)
idle_join colours d pass other = (Idle pass d ∷ []) ∷ (Dead pass d ∷ idle_all colours other) ∷ []

-- the rules of channel c, which is idle of d, by primitive number p, which offers on it
abbrev pub idle_rules : (ℕ → List ℕ) → ℕ → ℕ → ℕ → Component → List Inference
idle_rules colours c d p (Source _ _ _) = []
idle_rules colours c d p (Sink _ _) = []
idle_rules colours c d p (Queue input _ _ _) = one_rule I2 (lacking colours d p input ∷ dead_other colours c d)
idle_rules colours c d p (Function input _ table) =
    one_rule I3 (idle_of input (taken_to table d (colours input)) ∷ [])
idle_rules colours c d p (Fork input a b map_a map_b) =
    via_rules input (other_than c a b) (taken_to (map_to c a map_a map_b) d (colours input))
idle_rules colours c d p (Join a b _ pass) = one_rule I5 (idle_join colours d (at_side pass a b) (at_side pass b a))
idle_rules colours c d p (Switch input a b to_a) =
    cond (nat_eq c (way_of to_a d a b)) (one_rule I6 ((Idle input d ∷ []) ∷ [])) []
idle_rules colours c d p (Merge a b _) = one_rule I7 ((Idle a d ∷ Idle b d ∷ []) ∷ dead_other colours c d)

-- the rules by the primitive with the one number that is listed
abbrev pub by_prim : (ℕ → Component → List Inference) → ℕ → Option Component → List Inference
by_prim f p None = []
by_prim f p (Some m) = f p m

abbrev pub by_one : (ℕ → Component → List Inference) → Network → List ℕ → List Inference
by_one f net [] = []
by_one f net (p ∷ []) = by_prim f p (slice_get net.prims p)
by_one f net (p ∷ q ∷ ps) = []

-- the rules of a literal: S and P rules go by the primitive that takes from its channel, O and I rules by the one
-- that offers on it
abbrev pub rules_at : Network → (ℕ → List ℕ) → Lit → List Inference
rules_at net colours (Stuck c) = by_one (stuck_rules colours c) net (targets net.prims c)
rules_at net colours (Dead c d) =
    rule P0 ((Stuck c ∷ []) ∷ [])
    ∷ by_one (passing_rules colours c d) net (targets net.prims c)
    ++ by_one (offering_rules colours c d) net (initiators net.prims c)
rules_at net colours (Idle c d) = by_one (idle_rules colours c d) net (initiators net.prims c)
rules_at net colours (Full q) = []
rules_at net colours (Has q d) = []
rules_at net colours (Lacks q d) = []

abbrev pub rules_of : Designed → Lit → List Inference
rules_of it lit = rules_at it.net (colours_at it.colours) lit
