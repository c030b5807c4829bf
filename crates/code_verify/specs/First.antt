-- Why a code is refused.
use Rattle.vap_code.specs.Codes.{CodeOf}
use Rattle.std.specs.Prelude.{◌≡◌, ◌⊎◌, ℕ}
use Rattle.vap_code.specs.declared.VerifyWhy.{VerifyWhy}
use Rattle.vap_code.specs.Valid.{Valid, FirstBroken}
use Rattle.code_verify.specs.declared.first.VerifyRefusal.{VerifyRefusal}
use Rattle.code_verify.specs.declared.first.VerifyRefusal.TheVariants.{Memory, At}

-- the first broken check and the lowest place that breaks it; nothing is said of want of memory
abbrev pub RefusedBy : CodeOf → VerifyRefusal → Type 0
RefusedBy code Memory = Unit {0}
RefusedBy code (At place why) = FirstBroken code why place

-- a code is valid, or it has a first broken check and a lowest place that breaks it
abbrev pub SomeIsFirst : Type 0
SomeIsFirst = (code : CodeOf) → Valid code ⊎ ((why : VerifyWhy) × (place : ℕ) × FirstBroken code why place)

-- a code breaks at most one check first, and at one lowest place
abbrev pub OneIsFirst : Type 0
OneIsFirst = (code : CodeOf) (why why' : VerifyWhy) (place place' : ℕ) →
    FirstBroken code why place → FirstBroken code why' place' → (why ≡ why') × (place ≡ place')

-- a valid code breaks none
abbrev pub ValidBreaksNone : Type 0
ValidBreaksNone = (code : CodeOf) (why : VerifyWhy) (place : ℕ) → Valid code → FirstBroken code why place → ⊥
