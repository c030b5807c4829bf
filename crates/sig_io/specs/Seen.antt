-- What is seen of the outside at a call.
use Rattle.std.specs.Prelude.{ℕ, Option}

-- what an object of the outside tells, and its count of faults, before a call and after it
pub record Seen (T : Type 0) : Type 0 where
  pub old : Option T
  pub new : Option T
  pub before : ℕ
  pub after : ℕ

-- what was told, and counted, before a call and after it
abbrev pub seen : {T : Type 0} → (old new : Option T) → (before after : ℕ) → Seen T
seen old new before after = record { old = old; new = new; before = before; after = after }
