-- Calls that make seconds of one controller, one after the other, each by its program or by commands of the caller.
use Rattle.std.specs.Prelude.{◌≡◌, ◌==◌, ◌⊎◌, ℕ, List, [], ◌∷◌, filter, Option, Some, None, Ok}
use Rattle.sig_io.specs.Outside.{Contents}
use Rattle.sig_types.specs.Pass.{Logic}
use Rattle.pua_model.specs.Plan.{PlanOf}
use Rattle.vap_code.specs.Machine.{machine}
use Rattle.vap_code.specs.Stores.{first_store}
use Rattle.controller.specs.Controls.{StandsFor, logic_of, site_of}
use Rattle.controller.specs.Given.{Decided, Decider, Program, Caller, IsGuardedDrive, decided_past, decided_record, past_after_decided}
use Rattle.controller.specs.Past.{Site, Past, opening}
use Rattle.controller.specs.declared.controller.Controller.{Controller}
use Rattle.junction_run.specs.declared.load.Site.{Site as Loaded}
use Rattle.junction_run.specs.Form.{Source}
use Rattle.junction_run.specs.Sites.{site_in, IsSourceLoad}
use Rattle.junction_calls.specs.declared.commands.GivenCommands.{GivenCommands}
use Rattle.junction_calls.specs.declared.counts.DetectorCounts.{DetectorCounts}
use Rattle.junction_calls.specs.declared.told.Told.{Told}
use Rattle.junction_calls.specs.Given.{IsGivenSecond, given_in}
use Rattle.junction_calls.specs.Loads.{Texts, Holds, IsMadeOf, site_names}
use Rattle.junction_calls.specs.Numbers.{IsFrame, IsTold}
use Rattle.junction_calls.specs.Seconds.{IsSecondMade}

-- What a call answers that makes a second of what a handle held by commands of the caller. 4: nothing was held; else as
-- `IsGivenSecond` says.
abbrev pub IsGivenMade : ℕ → DetectorCounts → GivenCommands → Option Controller → Option Controller → Told → Told → Type 0
IsGivenMade n counts given held now before told =
    ((n ≡ 4) × (held ≡ None) × (now ≡ None) × (told ≡ before))
    ⊎ (c : Controller) × (d : Controller) × (held ≡ Some c) × (now ≡ Some d)
    × ((past : Past) → StandsFor c past → IsGivenSecond counts given c past n d before told)

-- one call: its counts, its commands where it has some, what it answered, and the place of what is told before and after it
pub record DrivenCall : Type 0 where
  pub counts : DetectorCounts
  pub given : Option GivenCommands
  pub answer : ℕ
  pub before : Told
  pub told : Told

-- a call without commands makes a second by the program, one with commands a second by these
abbrev pub IsMadeBy : Option GivenCommands → ℕ → DetectorCounts → Option Controller → Option Controller → Told → Told → Type 0
IsMadeBy None n counts held now before told = IsSecondMade n counts held now before told
IsMadeBy (Some given) n counts held now before told = IsGivenMade n counts given held now before told

-- these calls lead from what a handle held to what it holds
abbrev pub AreDriven : Option Controller → List DrivenCall → Option Controller → Type 0
AreDriven held [] now = now ≡ held
AreDriven held (call ∷ calls) now =
    (next : Option Controller) × IsMadeBy call.given call.answer call.counts held next call.before call.told
    × AreDriven next calls now

-- those of them that made a second
abbrev pub driven : List DrivenCall → List DrivenCall
driven calls = filter (λ call. call.answer == 0) calls

-- who decides the second of a call after a past
abbrev pub decider : PlanOf → Past → Option GivenCommands → Decider
decider plan past None = Program
decider plan past (Some given) = Caller (given_in plan past given)

-- these calls have the counts and the commands of these seconds after a past, and tell their records, one each
abbrev pub TellDriven : Logic → Site → Past → List DrivenCall → List Decided → Type 0
TellDriven logic site past [] [] = Unit {0}
TellDriven logic site past [] (s ∷ ss) = ⊥
TellDriven logic site past (call ∷ calls) [] = ⊥
TellDriven logic site past (call ∷ calls) (s ∷ ss) =
    IsFrame call.counts s.frame × (s.by ≡ decider site.plan past call.given) × IsTold (decided_record logic site past s) call.told
    × TellDriven logic site (past_after_decided logic site past s) calls ss

-- The calls that made a second tell exactly the records of these seconds, and what is held stands for the past after them.
pub record MakesDrive (c : Controller) (past : Past) (calls : List DrivenCall) (now : Option Controller) : Type 0 where
  pub last : Controller
  pub held : now ≡ Some last
  pub seconds : List Decided
  pub stands : StandsFor last (decided_past (logic_of c) (site_of c) past seconds)
  pub tell : TellDriven (logic_of c) (site_of c) past (driven calls) seconds

-- Whatever past a controller stands for, and whatever calls it gets. So two controllers of one site and one program that stand for
-- one past answer the same calls by the same records: what was called so far is a state that can be kept and put back.
abbrev pub CallsMakeDrives : Type 0
CallsMakeDrives =
    (c : Controller) (past : Past) (calls : List DrivenCall) (now : Option Controller) → StandsFor c past →
    AreDriven (Some c) calls now → MakesDrive c past calls now

-- These texts, as files, give a site and a code; the calls that made a second told exactly the records of these seconds from second 0
-- on, and the seconds are guarded.
pub record TellDrive (source : Source) (texts : Texts) (c : Controller) (calls : List DrivenCall) (now : Option Controller) : Type 0 where
  pub file : Contents
  pub holds : Holds file texts
  pub loaded : Loaded
  pub gives : IsSourceLoad source site_names file (Ok loaded)
  pub drive : MakesDrive c (opening (site_of c) (first_store loaded.code)) calls now
  pub guarded : IsGuardedDrive (machine loaded.code) (site_in loaded) (first_store loaded.code) drive.seconds

-- after a load, whatever calls come
abbrev pub LoadedDrivesAreGuarded : Type 0
LoadedDrivesAreGuarded =
    (source : Source) (texts : Texts) (c : Controller) (calls : List DrivenCall) (now : Option Controller) →
    IsMadeOf source texts c → AreDriven (Some c) calls now → TellDrive source texts c calls now
