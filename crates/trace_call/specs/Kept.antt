-- Files that are kept as far as they were read.
use Rattle.std.specs.Prelude.{◌≡◌, ◌≤◌, ℕ, Bool, true, List, length, take}

-- a file was read so far: these are its first bytes, and all of them where its end was seen
pub record IsFront (file bytes : List ℕ) (whole : Bool) : Type 0 where
  pub front : bytes ≡ take (length bytes) file
  pub all : whole ≡ true → length file ≤ length bytes
