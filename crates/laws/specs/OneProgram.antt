-- What is told of a program is told of the one that is written in its file.
use Rattle.std.specs.Prelude.{◌≡◌, ℕ, List, Some, Ok}
use Rattle.sig_io.specs.Outside.{Contents}
use Rattle.sig_io.specs.Seen.{Seen}
use Rattle.vap_ast.specs.Syntax.{Program}
use Rattle.controller.specs.Past.{Site}
use Rattle.junction_run.specs.declared.status.Status.TheVariants.{Done}
use Rattle.junction_run.specs.Form.{SiteWords}
use Rattle.junction_run.specs.Loading.{LoadsProgram, program_at}
use Rattle.trace_call.specs.Loaded.{FilesGive}
use Rattle.trace_call.specs.Call.{IsTraced}

-- files give one program at one site
abbrev pub OneProgram : Type 0
OneProgram =
    (program : List ℕ) (words : SiteWords) (file : Contents) (site other_site : Site) (tree other_tree : Program) →
    FilesGive program words file site tree → FilesGive program words file other_site other_tree →
    (site ≡ other_site) × (tree ≡ other_tree)

-- and it is what `junction run` plays
abbrev pub IsWhatRunPlays : Type 0
IsWhatRunPlays =
    (program : List ℕ) (words : SiteWords) (file : Contents) (site : Site) (tree : Program) →
    FilesGive program words file site tree → LoadsProgram program words file (Ok (program_at site tree))

-- two calls with the same words over the same files that do all that is asked for write the same text
abbrev pub OneText : Type 0
OneText =
    (words : List (List ℕ)) (file : Contents) (files others : Seen Contents) (out other_out notes other_notes : Seen (List ℕ)) →
    files.old ≡ Some file → others.old ≡ Some file → out.old ≡ other_out.old →
    IsTraced words files out notes Done → IsTraced words others other_out other_notes Done → out.new ≡ other_out.new
