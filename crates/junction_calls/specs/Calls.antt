-- The calls of junction_second on one handle, one after the other.
use Rattle.std.specs.Prelude.{◌≡◌, ◌==◌, ℕ, List, [], ◌∷◌, filter, Option, Some}
use Rattle.sig_types.specs.Counts.{Counts}
use Rattle.sig_types.specs.declared.record.Record.{Record}
use Rattle.controller.specs.Controls.{StandsFor, logic_of, site_of}
use Rattle.controller.specs.Past.{Past}
use Rattle.controller.specs.Second.{past_of, run_from}
use Rattle.controller.specs.declared.controller.Controller.{Controller}
use Rattle.junction_calls.specs.declared.counts.DetectorCounts.{DetectorCounts}
use Rattle.junction_calls.specs.declared.told.Told.{Told}
use Rattle.junction_calls.specs.Numbers.{IsFrame, IsTold}
use Rattle.junction_calls.specs.Seconds.{IsSecondMade}

-- one call: its counts, what it answered, and the place of what is told before and after it
pub record Call : Type 0 where
  pub counts : DetectorCounts
  pub answer : ℕ
  pub before : Told
  pub told : Told

-- these calls lead from what a handle held to what it holds
abbrev pub AreCalls : Option Controller → List Call → Option Controller → Type 0
AreCalls held [] now = now ≡ held
AreCalls held (call ∷ calls) now =
    (next : Option Controller) × IsSecondMade call.answer call.counts held next call.before call.told × AreCalls next calls now

-- those of them that made a second
abbrev pub made : List Call → List Call
made calls = filter (λ call. call.answer == 0) calls

-- these calls have these frames, and tell these records, one each
abbrev pub Tell : List Call → List Counts → List Record → Type 0
Tell [] [] [] = Unit {0}
Tell [] [] (r ∷ rs) = ⊥
Tell [] (frame ∷ frames) rs = ⊥
Tell (call ∷ calls) [] rs = ⊥
Tell (call ∷ calls) (frame ∷ frames) [] = ⊥
Tell (call ∷ calls) (frame ∷ frames) (r ∷ rs) = IsFrame call.counts frame × IsTold r call.told × Tell calls frames rs

-- The calls that made a second tell exactly the records of the run over the frames of their counts, and what is held stands for
-- the past after them.
pub record MakesRun (c : Controller) (past : Past) (calls : List Call) (now : Option Controller) : Type 0 where
  pub last : Controller
  pub held : now ≡ Some last
  pub frames : List Counts
  pub stands : StandsFor last (past_of (logic_of c) (site_of c) past frames)
  pub tell : Tell (made calls) frames (run_from (logic_of c) (site_of c) past frames)

-- whatever past a controller stands for, and whatever calls it gets
abbrev pub CallsMakeRuns : Type 0
CallsMakeRuns =
    (c : Controller) (past : Past) (calls : List Call) (now : Option Controller) → StandsFor c past → AreCalls (Some c) calls now →
    MakesRun c past calls now
