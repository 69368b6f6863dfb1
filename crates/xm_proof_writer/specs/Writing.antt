-- The JSON value of a proof, with the members of each object in byte order.
use Rattle.std.specs.Prelude.{ℕ, List, [], ◌∷◌, ℤ, Some, None, true, codes, map, slice_index_or}
use Rattle.std.specs.Fmt.{signed_decimal}
use Rattle.serde_json.specs.Data.{Data, array, boolean, member, no_members, number, object, string, unsigned}
use Rattle.serde_json.specs.View.{items_of}
use Rattle.xm_flow.specs.ValidLemma.{Lemma}
use Rattle.xm_flow.specs.declared.invariant.Part.{Part}
use Rattle.xm_lits.specs.declared.inference.RuleName.{RuleName}
use Rattle.xm_lits.specs.declared.inference.RuleName.TheVariants.{P0, S1, S2, S3, S4, S5, S6, P1, P2, P3, P4, O1, O2}
use Rattle.xm_lits.specs.declared.inference.RuleName.TheVariants.{O3, O4, O5, O6, I2, I3, I4, I5, I6, I7}
use Rattle.xm_lits.specs.declared.literal.Lit.{Lit}
use Rattle.xm_lits.specs.declared.literal.Lit.TheVariants.{Dead, Full, Has, Idle, Lacks, Stuck}
use Rattle.xm_proof.specs.Argument.{Argument, Cite, Clash, Eager, Open, Refutation, Split, Step, Sum}
use Rattle.xm_proof.specs.declared.proof.Item.{Item}
use Rattle.xm_proof.specs.declared.proof.Item.TheVariants as item
use Rattle.xm_proof_reader.specs.Known.{Known}
use Rattle.xm_rows.specs.declared.row.Entry.{Entry}
use Rattle.xm_writer.specs.Writing.{name_data}

-- ---- names and numbers

abbrev pub channel_data : Known → ℕ → Data
channel_data known c = name_data known.names.channels c

abbrev pub colour_data : Known → ℕ → Data
colour_data known d = name_data known.names.colours d

abbrev pub queue_data : Known → ℕ → Data
queue_data known q = name_data known.names.prims q

-- a decimal text
abbrev pub number_data : ℤ → Data
number_data n = string (signed_decimal n)

-- a place of a list, or a count
abbrev pub place_data : ℕ → Data
place_data n = number (unsigned n)

abbrev pub list_data : List Data → Data
list_data ds = array (items_of ds)

abbrev pub word_data : List ℕ → Data
word_data word = string word

-- ---- literals and items

abbrev pub literal_data : Known → Lit → Data
literal_data known (Stuck c) = list_data (word_data (codes "Stuck") ∷ channel_data known c ∷ [])
literal_data known (Dead c d) =
    list_data (word_data (codes "Dead") ∷ channel_data known c ∷ colour_data known d ∷ [])
literal_data known (Idle c d) =
    list_data (word_data (codes "Idle") ∷ channel_data known c ∷ colour_data known d ∷ [])
literal_data known (Full q) = list_data (word_data (codes "Full") ∷ queue_data known q ∷ [])
literal_data known (Has q d) =
    list_data (word_data (codes "Has") ∷ queue_data known q ∷ colour_data known d ∷ [])
literal_data known (Lacks q d) =
    list_data (word_data (codes "Lacks") ∷ queue_data known q ∷ colour_data known d ∷ [])

abbrev pub item_data : Known → Item → Data
item_data known (item.Lemma k n) = list_data (word_data (codes "lemma") ∷ place_data k ∷ number_data n ∷ [])
item_data known (item.Cap q n) = list_data (word_data (codes "cap") ∷ queue_data known q ∷ number_data n ∷ [])
item_data known (item.Low q d n) =
    list_data (word_data (codes "low") ∷ queue_data known q ∷ colour_data known d ∷ number_data n ∷ [])
item_data known (item.Path l n) = list_data (word_data (codes "path") ∷ literal_data known l ∷ number_data n ∷ [])

-- ---- nodes

abbrev pub rule_name : RuleName → List ℕ
rule_name P0 = codes "P0"
rule_name S1 = codes "S1"
rule_name S2 = codes "S2"
rule_name S3 = codes "S3"
rule_name S4 = codes "S4"
rule_name S5 = codes "S5"
rule_name S6 = codes "S6"
rule_name P1 = codes "P1"
rule_name P2 = codes "P2"
rule_name P3 = codes "P3"
rule_name P4 = codes "P4"
rule_name O1 = codes "O1"
rule_name O2 = codes "O2"
rule_name O3 = codes "O3"
rule_name O4 = codes "O4"
rule_name O5 = codes "O5"
rule_name O6 = codes "O6"
rule_name I2 = codes "I2"
rule_name I3 = codes "I3"
rule_name I4 = codes "I4"
rule_name I5 = codes "I5"
rule_name I6 = codes "I6"
rule_name I7 = codes "I7"

abbrev pub step_data : Known → Step → Data
step_data known (Split name on None kids) = object
    (member (codes "kids") (place_data kids)
    (member (codes "on") (literal_data known on)
    (member (codes "rule") (word_data (rule_name name)) no_members)))
step_data known (Split name on (Some d) kids) = object
    (member (codes "kids") (place_data kids)
    (member (codes "on") (literal_data known on)
    (member (codes "rule") (word_data (rule_name name))
    (member (codes "via") (colour_data known d) no_members))))
step_data known (Clash one None) = object
    (member (codes "clash") (list_data (literal_data known one ∷ [])) no_members)
step_data known (Clash one (Some other)) = object
    (member (codes "clash") (list_data (literal_data known one ∷ literal_data known other ∷ [])) no_members)
step_data known (Eager c) = object (member (codes "eager") (channel_data known c) no_members)
step_data known (Sum items) = object
    (member (codes "sum") (list_data (map (item_data known) items)) no_members)
step_data known (Cite place) = object (member (codes "cite") (place_data place) no_members)
step_data known Open = object (member (codes "open") (boolean true) no_members)

-- ---- goals, lemmas and proofs

abbrev pub goal_data : Known → Refutation → Data
goal_data known g = object
    (member (codes "goal") (literal_data known g.lit)
    (member (codes "tree") (list_data (map (step_data known) g.steps)) no_members))

abbrev pub part_data : Part → Data
part_data part = list_data (place_data part.flow ∷ number_data part.factor ∷ [])

-- the queue and the colour of a column
abbrev pub pair_at : Known → ℕ → ℕ × ℕ
pair_at known column = slice_index_or known.pairs column (0, 0)

abbrev pub term_data : Known → Entry → Data
term_data known entry = list_data (queue_data known (pair_at known entry.column).0
    ∷ colour_data known (pair_at known entry.column).1 ∷ number_data entry.value ∷ [])

abbrev pub lemma_data : Known → Lemma → Data
lemma_data known l = object
    (member (codes "constant") (number_data l.row.constant)
    (member (codes "rows") (list_data (map part_data l.parts))
    (member (codes "scale") (number_data l.scale)
    (member (codes "terms") (list_data (map (term_data known) l.row.entries)) no_members))))

unfoldable pub proof_data : Known → Argument → Data
proof_data known proof = object
    (member (codes "goals") (list_data (map (goal_data known) proof.goals))
    (member (codes "lemmas") (list_data (map (lemma_data known) proof.lemmas)) no_members))
