-- What is told of a program that is refused.
use Rattle.std.specs.Prelude.{◌≡◌, ℕ, List, Option, None, Some, Result, Ok, Err}
use Rattle.program_advice.specs.declared.advice.Advice.{Advice}
use Rattle.program_advice.specs.Advice.{IsAdvice}
use Rattle.site_findings.specs.declared.finding.Refusal.{Refusal}
use Rattle.site_findings.specs.declared.finding.Refusal.TheVariants as refusal
use Rattle.site_check.specs.declared.program.Judged.{Judged}
use Rattle.site_check.specs.declared.untaken.Untaken.{Untaken}
use Rattle.site_check.specs.declared.untaken.Untaken.TheVariants.{Unread, NotJudged, Refused}

-- something is told of a text, and it is so
abbrev pub IsGiven : List ℕ → Option Advice → Type 0
IsGiven text None = ⊥
IsGiven text (Some advice) = IsAdvice text advice

-- this is told of a text that is refused for this reason
abbrev pub IsAdvisedOf : List ℕ → Refusal → Option Advice → Type 0
IsAdvisedOf text (refusal.Pua w) advice = advice ≡ None
IsAdvisedOf text (refusal.Table w) advice = advice ≡ None
IsAdvisedOf text (refusal.Lex w) advice = IsGiven text advice
IsAdvisedOf text (refusal.Parse w) advice = IsGiven text advice
IsAdvisedOf text (refusal.Check w) advice = IsGiven text advice
IsAdvisedOf text (refusal.Stream w) advice = advice ≡ None
IsAdvisedOf text refusal.Mark advice = advice ≡ None
IsAdvisedOf text refusal.TooLong advice = advice ≡ None

-- This is told of a program that was judged so: of one that is refused what could stand at its first refused token, and a change.
abbrev pub IsAdvised : List ℕ → Result Judged Untaken → Option Advice → Type 0
IsAdvised text (Ok judged) advice = advice ≡ None
IsAdvised text (Err Unread) advice = advice ≡ None
IsAdvised text (Err NotJudged) advice = advice ≡ None
IsAdvised text (Err (Refused spot why)) advice = IsAdvisedOf text why advice
