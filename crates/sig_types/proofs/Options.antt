-- Facts on options, and on the tests that choose one.
use Rattle.std.proofs.Common.{◌≡◌, ℕ, ◌||◌, Bool, true, false, Option, Some, None, is_none, is_some, refl}
use Rattle.std.specs.Prelude.{cond}
use Rattle.std.specs.Option.{option_or}

-- an option that isn't none is some, and one that isn't some is none
pub some_of : {A : Type 0} (o : Option A) → is_none o ≡ false → is_some o ≡ true
some_of None e = cc
some_of (Some x) e = refl

pub none_of : {A : Type 0} (o : Option A) → is_some o ≡ false → o ≡ None
none_of None e = refl
none_of (Some x) e = cc

-- a test that gives no place doesn't hold
pub cond_none : (b : Bool) (k : ℕ) → cond b (Some k) None ≡ None → b ≡ false
cond_none true k e = cc
cond_none false k e = refl

-- what stands before none, and before false, stays
pub option_or-none : (a : Option ℕ) → option_or a None ≡ a
option_or-none None = refl
option_or-none (Some x) = refl

pub or-false : (b : Bool) → (b || false) ≡ b
or-false true = refl
or-false false = refl
