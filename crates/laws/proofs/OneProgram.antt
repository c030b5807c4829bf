-- Files give one program at one site.
use Rattle.std.proofs.Common.{◌≡◌, ◌∙◌, Result, Ok, sym}
use Rattle.vap_ast.specs.Syntax.{Program}
use Rattle.controller.specs.Past.{Site}
use Rattle.junction_run.specs.Form.{Compile, ProgramFile}
use Rattle.junction_run.specs.Laws.{LoadsOnce}
use Rattle.junction_run.specs.Loading.{IsSource, Unloaded, played_at}
use Rattle.junction_run.proofs.Texts.{last_taken}
use Rattle.laws.specs.OneProgram.{IsWhatRunPlays, OneProgram}

same_site : (a b : Site) → ◌≡◌ {A = Result Site Unloaded} (Ok a) (Ok b) → a ≡ b
same_site a b is = cc

same_tree : (a b : Program) → ◌≡◌ {A = Result Program Unloaded} (Ok a) (Ok b) → a ≡ b
same_tree a b is = cc

pub one_given : LoadsOnce → OneProgram
one_given once program words file site other_site tree other_tree a b = (
  same_site site other_site (sym a.at_site ∙ b.at_site),
  same_tree tree other_tree (once (Compile program) file (Ok tree) (Ok other_tree) a.spelled b.spelled),
)

pub is_played : IsWhatRunPlays
is_played program words file site tree is =
    last_taken (played_at (ProgramFile program)) (IsSource (ProgramFile program) (file program)) program words file site tree is.at_site is.spelled
