-- Channels with their colours, and queues with the colours of their outputs.
use Rattle.std.specs.Prelude.{ℕ, zero, suc, List, [], ◌∷◌, ◌++◌, map}
use Rattle.xm_model.specs.Component.{Component, Queue}

-- the pairs of the first channels: a channel with a colour of its set, by channel and then colour
abbrev pub pairs : (ℕ → List ℕ) → ℕ → List (ℕ × ℕ)
pairs colours zero = []
pairs colours (suc c) = pairs colours c ++ map (λ d. (c, d)) (colours c)

-- of primitive number p
abbrev pub queue_pairs_at : (ℕ → List ℕ) → ℕ → Component → List (ℕ × ℕ)
queue_pairs_at colours p (Queue _ out _ _) = map (λ d. (p, d)) (colours out)
queue_pairs_at colours p _ = []

-- the queue pairs of primitives that are numbered from p on: a queue with a colour of its output's set, by primitive
-- and then colour
abbrev pub queue_pairs : (ℕ → List ℕ) → ℕ → List Component → List (ℕ × ℕ)
queue_pairs colours p [] = []
queue_pairs colours p (m ∷ ms) = queue_pairs_at colours p m ++ queue_pairs colours (suc p) ms
