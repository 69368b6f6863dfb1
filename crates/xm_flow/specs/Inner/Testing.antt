-- Inner: sums of flow rows so far, column by column, as the test of a lemma forms them. No public clause cites these.
use Rattle.std.specs.Prelude.{◌≡◌, ◌≢◌, ◌⊎◌, ℕ, ◌-◌, List, cond, nat_eq, nat_lt, slice_index_or, take, ℤ, pos, ◌+ℤ◌, ◌*ℤ◌, All}
use Rattle.xm_flow.specs.ValidLemma.{Lemma, flow_at, weighed, weighed_constant}
use Rattle.xm_flow.specs.declared.invariant.Part.{Part}
use Rattle.xm_rows.specs.Row.{Fits128, SparseRow, coefficient}
use Rattle.xm_rows.specs.declared.row.Entry.{Entry}
use Rattle.xm_flow.specs.declared.testing.Slot.{Slot}

-- what a slot holds for lemma number n: nothing where it is another's
abbrev pub sum_in : ℕ → Slot → ℤ
sum_in n s = cond (nat_eq s.lemma n) s.sum (pos 0)

abbrev pub sum_at : ℕ → List Slot → ℕ → ℤ
sum_at n slots k = sum_in n (slice_index_or slots k (record { lemma = 0; sum = pos 0 }))

-- a term is added in the column
pub record IsAdded (n column : ℕ) (term : ℤ) (slots next : List Slot) : Type 0 where
  pub here : sum_at n next column ≡ sum_at n slots column +ℤ term
  pub others : (k : ℕ) → k ≢ column → sum_at n next k ≡ sum_at n slots k

-- the factor times the entries is added, and all of it fits
pub record AreAdded (n : ℕ) (factor : ℤ) (entries : List Entry) (slots next : List Slot) : Type 0 where
  pub sums : (k : ℕ) → sum_at n next k ≡ sum_at n slots k +ℤ (factor *ℤ coefficient entries k)
  pub products : (k : ℕ) → Fits128 (factor *ℤ coefficient entries k)
  pub fit : ((k : ℕ) → Fits128 (sum_at n slots k)) → (k : ℕ) → Fits128 (sum_at n next k)

-- a product of the factor with an entry, or a sum with it, leaves 128 bits
abbrev pub EntriesLeave : ℕ → ℤ → List Entry → List Slot → Type 0
EntriesLeave n factor entries slots =
    (k : ℕ) × ((¬ Fits128 (factor *ℤ coefficient entries k))
    ⊎ (¬ Fits128 (sum_at n slots k +ℤ (factor *ℤ coefficient entries k))))

-- each product of a factor with its flow row, and each sum so far, fits
pub record PartsFit (flow : List SparseRow) (parts : List Part) : Type 0 where
  pub products : All (λ p. (k : ℕ) → Fits128 (p.factor *ℤ coefficient (flow_at flow p.flow).entries k)) parts
  pub product_constants : All (λ p. Fits128 (p.factor *ℤ (flow_at flow p.flow).constant)) parts
  pub sums : (n k : ℕ) → Fits128 (weighed flow (take n parts) k)
  pub sum_constants : (n : ℕ) → Fits128 (weighed_constant flow (take n parts))

-- a part is added, and all of it fits
pub record IsPartAdded
    (n : ℕ) (flow : List SparseRow) (part : Part) (total : ℤ) (slots next : List Slot) (sum : ℤ) : Type 0 where
  pub entries : AreAdded n part.factor (flow_at flow part.flow).entries slots next
  pub product : Fits128 (part.factor *ℤ (flow_at flow part.flow).constant)
  pub constant : sum ≡ total +ℤ (part.factor *ℤ (flow_at flow part.flow).constant)
  pub fits : Fits128 sum

-- something that adding a part forms leaves 128 bits
abbrev pub PartLeaves : ℕ → List SparseRow → Part → ℤ → List Slot → Type 0
PartLeaves n flow part total slots =
    EntriesLeave n part.factor (flow_at flow part.flow).entries slots
    ⊎ ((¬ Fits128 (part.factor *ℤ (flow_at flow part.flow).constant))
    ⊎ (¬ Fits128 (total +ℤ (part.factor *ℤ (flow_at flow part.flow).constant))))

-- the slots and the total are the sums of the parts
pub record AreWeighed (n : ℕ) (flow : List SparseRow) (parts : List Part) (slots : List Slot) (total : ℤ) : Type 0 where
  pub sums : (k : ℕ) → sum_at n slots k ≡ weighed flow parts k
  pub constant : total ≡ weighed_constant flow parts
  pub fit : PartsFit flow parts

-- the row and its constant fit, taken as often as the scale says
pub record IsScaled (it : Lemma) : Type 0 where
  pub entries : All (λ e. Fits128 (it.scale *ℤ e.value)) it.row.entries
  pub constant : Fits128 (it.scale *ℤ it.row.constant)

-- what the scale times the row has in a column of flow rows, of which so many are moves
abbrev pub scaled_at : ℕ → Lemma → ℕ → ℤ
scaled_at moves it k = cond (nat_lt k moves) (pos 0) (it.scale *ℤ coefficient it.row.entries (k - moves))

-- the sums have the same there
abbrev pub IsMet : ℕ → ℕ → Lemma → List Slot → ℕ → Type 0
IsMet n moves it slots k = sum_at n slots k ≡ scaled_at moves it k
