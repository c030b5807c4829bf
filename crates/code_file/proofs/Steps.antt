-- Steps of a reading that did not fail.
use Rattle.std.proofs.Common.{◌≡◌, ℕ, Bool, true, false, cond, Some, Result, Ok, Err, refl, inl, inr, ◌⊎◌}
use Rattle.code_file.specs.declared.refusal.CodeWhy.{CodeWhy}
use Rattle.code_file.specs.Reading.{Refusal, ◌>>=◌, at_line}

-- the value of a step that did not fail
pub bind_ok : {A B : Type 0} (r : Result A Refusal) (f : A → Result B Refusal) (y : B) → (r >>= f) ≡ Ok y → (x : A) × (r ≡ Ok x) × (f x ≡ Ok y)
bind_ok (Ok x) f y e = (x, refl, e)
bind_ok (Err d) f y e = absurd cc

pub at_line_ok : {A : Type 0} (n : ℕ) (r : Result A CodeWhy) (x : A) → at_line n r ≡ Ok x → r ≡ Ok x
at_line_ok n (Ok x) y e = cc
at_line_ok n (Err why) y e = absurd cc

-- a test that did not fail
pub guard_ok : {A E : Type 0} (b : Bool) (x y : A) (e : E) → cond b (Ok x) (Err e) ≡ Ok y → (b ≡ true) × (x ≡ y)
guard_ok true x y d e = (refl, cc)
guard_ok false x y d e = absurd cc

-- which way a choice went
pub chosen : {X : Type 0} (b : Bool) (x y z : X) → cond b x y ≡ z → ((b ≡ true) × (x ≡ z)) ⊎ ((b ≡ false) × (y ≡ z))
chosen true x y z e = inl (refl, e)
chosen false x y z e = inr (refl, e)

abbrev done : {A E : Type 0} → A → Result A E
done x = Ok x

pub ok_is : {A E : Type 0} (x y : A) → done {E = E} x ≡ done y → x ≡ y
ok_is x y e = cc

pub some_is : {A : Type 0} (x y : A) → Some x ≡ Some y → x ≡ y
some_is x y e = cc
