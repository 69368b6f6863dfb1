-- Inner: a list with a place for each colour on each channel. No public clause cites this.
use Rattle.std.specs.Prelude.{◌≡◌, ℕ, ◌*◌, ◌≤◌, List, length}
use Rattle.xm_model.specs.Limits.{most_channels, most_colours}

pub record IsTable (channels colours : ℕ) (sums : List ℕ) : Type 0 where
  pub few_channels : channels ≤ most_channels
  pub few_colours : colours ≤ most_colours
  pub whole : length sums ≡ channels * colours
