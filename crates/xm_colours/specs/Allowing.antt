-- The first pair that a list of allowed colours refuses.
use Rattle.std.specs.Prelude.{◌≡◌, ◌⊎◌, ℕ, ◌<◌, ◌≤◌, List, [], ◌∷◌}
use Rattle.xm_model.specs.Naming.{Allowed}
use Rattle.xm_model.specs.Membership.{IsIn}

-- some entry of the list names the channel and lacks the colour
abbrev pub Refuses : List Allowed → ℕ → ℕ → Type 0
Refuses [] c d = ⊥
Refuses (entry ∷ entries) c d = ((entry.channel ≡ c) × (IsIn entry.colours d → ⊥)) ⊎ Refuses entries c d

-- the list refuses no colour of a channel
abbrev pub AllowsAll : (ℕ → List ℕ) → List Allowed → Type 0
AllowsAll colours allow = (c d : ℕ) → IsIn (colours c) d → Refuses allow c d → ⊥

-- pairs go by channel and then colour: the first pair is the second, or goes before it
abbrev pub IsUpTo : ℕ → ℕ → ℕ → ℕ → Type 0
IsUpTo c d e f = (c < e) ⊎ ((c ≡ e) × (d ≤ f))

-- a pair that is refused, and the first such
pub record IsFirstRefused (colours : ℕ → List ℕ) (allow : List Allowed) (c d : ℕ) : Type 0 where
  pub is_pair : IsIn (colours c) d
  pub refused : Refuses allow c d
  pub first : (e f : ℕ) → IsIn (colours e) f → Refuses allow e f → IsUpTo c d e f
