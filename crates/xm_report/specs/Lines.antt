-- The lines of error, one for each cause of refusal.
use Rattle.std.specs.Prelude.{ℕ, List, [], ◌∷◌, ◌++◌, codes, decimal}
use Rattle.xm_model.specs.TextLines.{line, name_at}
use Rattle.xm_model.specs.Naming.{Naming}
use Rattle.xm_model.specs.declared.fault.WiringFault.{WiringFault}
use Rattle.xm_model.specs.declared.fault.WiringFault.TheVariants.{NoInitiator, TwoInitiators, NoTarget, TwoTargets}
use Rattle.xm_shape.specs.Fault as document
use Rattle.xm_shape.specs.declared.fault.Which.{Which}
use Rattle.xm_shape.specs.declared.fault.Which.TheVariants as which
use Rattle.xm_order.specs.declared.signal.Signal.{Signal}
use Rattle.xm_order.specs.declared.signal.Signal.TheVariants as signal
use Rattle.xm_tape.specs.Fault as tape

-- ---- wiring: the channel, and the two primitives where there are two

abbrev pub fault_text : Naming → List ℕ → ℕ → List ℕ
fault_text names word c = codes "net: " ++ word ++ codes " " ++ name_at names.channels c

abbrev pub channel_fault : Naming → List ℕ → ℕ → List ℕ
channel_fault names word c = line (fault_text names word c)

abbrev pub pair_fault : Naming → List ℕ → ℕ → ℕ → ℕ → List ℕ
pair_fault names word c p q =
    line (fault_text names word c ++ codes " " ++ name_at names.prims p ++ codes " " ++ name_at names.prims q)

abbrev pub wiring_line : Naming → WiringFault → List ℕ
wiring_line names (NoInitiator c) = channel_fault names (codes "no initiator") c
wiring_line names (TwoInitiators c p q) = pair_fault names (codes "two initiators") c p q
wiring_line names (NoTarget c) = channel_fault names (codes "no target") c
wiring_line names (TwoTargets c p q) = pair_fault names (codes "two targets") c p q

-- ---- colours and loops

abbrev pub colour_line : Naming → ℕ → ℕ → List ℕ
colour_line names c d = line (codes "net: colour " ++ name_at names.channels c ++ codes " " ++ name_at names.colours d)

abbrev pub signal_text : Naming → Signal → List ℕ
signal_text names (signal.Offer c) = codes "offer " ++ name_at names.channels c
signal_text names (signal.Ready c) = codes "ready " ++ name_at names.channels c

-- joined by commas
abbrev pub signals_text : Naming → List Signal → List ℕ
signals_text names [] = []
signals_text names (σ ∷ []) = signal_text names σ
signals_text names (σ ∷ τ ∷ rest) = signal_text names σ ++ codes ", " ++ signals_text names (τ ∷ rest)

abbrev pub loop_line : Naming → List Signal → List ℕ
loop_line names loop = line (codes "net: loop " ++ signals_text names loop)

-- ---- documents

abbrev pub which_text : Which → List ℕ
which_text which.Colours = codes "colours"
which_text which.Primitives = codes "primitives"
which_text which.Channels = codes "channels"
which_text which.SourceColours = codes "source-colours"
which_text which.Capacity = codes "capacity"
which_text which.CapacitySum = codes "capacity-sum"
which_text which.Initial = codes "initial"

abbrev pub path_line : List ℕ → List ℕ → List ℕ
path_line word path = line (word ++ codes " " ++ path)

abbrev pub limit_line : Which → ℕ → List ℕ
limit_line which count = line (codes "document: limit " ++ which_text which ++ codes " " ++ decimal count)

abbrev pub document_line : document.Fault → List ℕ
document_line document.not_json = codes "document: not JSON\n"
document_line (document.shape path) = path_line (codes "document: shape") path
document_line (document.unknown_kind path) = path_line (codes "document: unknown kind") path
document_line (document.unknown_colour path) = path_line (codes "document: unknown colour") path
document_line (document.bad_name path) = path_line (codes "document: bad name") path
document_line (document.same_name path) = path_line (codes "document: same name") path
document_line (document.limit which count) = limit_line which count
document_line (document.wiring fault names) = wiring_line names fault

-- ---- tapes

abbrev pub cycles_line : ℕ → List ℕ
cycles_line count = line (codes "tape: limit " ++ decimal count)

abbrev pub row_line : ℕ → ℕ → List ℕ
row_line row bytes = line (codes "tape: row " ++ decimal row ++ codes " length " ++ decimal bytes)

abbrev pub mark_line : ℕ → ℕ → List ℕ
mark_line row oracle = line (codes "tape: mark " ++ decimal row ++ codes " " ++ decimal oracle)

abbrev pub tape_line : tape.Fault → List ℕ
tape_line (tape.tape_shape path) = path_line (codes "tape: shape") path
tape_line (tape.tape_limit count) = cycles_line count
tape_line (tape.row_length row bytes) = row_line row bytes
tape_line (tape.bad_mark row oracle) = mark_line row oracle

-- ---- proofs

-- the channel is the first that is not granted a persistent initiator
abbrev pub persistency_line : Naming → ℕ → List ℕ
persistency_line names c = channel_fault names (codes "not persistent") c

-- the proof's form is first broken at this path
abbrev pub form_line : List ℕ → List ℕ
form_line path = path_line (codes "proof: form") path

-- ---- invariants

-- there are so many pairs of a channel and a colour
abbrev pub width_line : ℕ → List ℕ
width_line pairs = line (codes "net: too wide " ++ decimal pairs)

-- the elimination left 128 bits in this column of the flow rows
abbrev pub overflow_line : ℕ → List ℕ
overflow_line column = line (codes "overflow column " ++ decimal column)

-- the search's tableau left 128 bits after so many pivots
abbrev pub pivots_line : ℕ → List ℕ
pivots_line pivots = line (codes "overflow pivots " ++ decimal pivots)
