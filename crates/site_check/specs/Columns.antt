-- The columns of every 256th byte of a text, found once.
use Rattle.std.specs.Prelude.{◌≡◌, ℕ, ◌*◌, ◌<◌, ◌≤◌, List, length, take, slice_index_or}
use Rattle.site_check.specs.Spots.{column_of}

-- of every 256th place of a text, its end too, these tell how many bytes stand between the last line feed before it and it
pub record AreColumns (text columns : List ℕ) : Type 0 where
  pub enough : length text < length columns * 256
  pub column : (step : ℕ) → step * 256 ≤ length text → slice_index_or columns step 0 ≡ column_of (take (step * 256) text)
