-- The model of a list and of a text.
use Rattle.std.specs.Prelude.{ℕ, List, refl}
use Rattle.std.specs.Coded.{Coded, code_by, coded×, coded_ℕ, coded_list}

-- what contracts see of a list or a text: the items in order, and how many items fit with no growth
pub record ListView (T : Type 0) : Type 0 where
  pub items : List T
  pub room : ℕ

-- a listing is stored as the pair of its fields
abbrev pub list_view_code : {T : Type 0} → Coded T → Coded (ListView T)
list_view_code {T} code =
    code_by (List T × ℕ) (coded× (coded_list code) coded_ℕ) (λ l. (l.items, l.room))
    (λ p. record { items = p.0; room = p.1 }) (λ _. refl)
