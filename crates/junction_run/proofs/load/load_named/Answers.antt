use Rattle.std.proofs.Common.{◌∙◌, ◌++◌, ◌∷◌, [], List, ℕ, Err, sym, subst}
use Rattle.junction_run.specs.Form.{SiteWords, site_files}
use Rattle.junction_run.specs.FormWords.{site_in}
use Rattle.junction_run.specs.Notes.{IsNote, load_note}
use Rattle.junction_run.specs.SiteAnswer.{IsLoadStatus, IsSiteLoad, IsSiteNote}
use Rattle.junction_run.proofs.Ends.{load_status_is, note_among, site_stop, site_note}
use Rattle.junction_run.proofs.load.load_named.Goals as goal

pub returns-in-Ok-clause-loaded : goal.returns-in-Ok-clause-loaded
returns-in-Ok-clause-loaded g c = λ file e. c.in-Ok.ensures.loaded file e

pub returns-in-Err-clause-loaded : goal.returns-in-Err-clause-loaded
returns-in-Err-clause-loaded g c = λ file e.
    subst (λ s. IsSiteLoad c.args.program.now (site_in c.args.words.now) file (Err s)) (sym c.load_status.ensures)
    (site_stop c.args.program.now (site_in c.args.words.now) file c.in-Err.stop (c.in-Err.ensures.loaded file e))

pub returns-in-Err-clause-read_fault : goal.returns-in-Err-clause-read_fault
returns-in-Err-clause-read_fault g c = λ at. c.in-Err.ensures.cause (sym c.load_status.ensures ∙ at)

pub returns-in-Err-clause-statuses : goal.returns-in-Err-clause-statuses
returns-in-Err-clause-statuses g c = subst IsLoadStatus (sym c.load_status.ensures) (load_status_is c.in-Err.stop)

pub returns-in-Err-clause-note : goal.returns-in-Err-clause-note
returns-in-Err-clause-note g c = λ clean.
    let words : SiteWords = site_in c.args.words.now in
    let files : List (List ℕ) = site_files words ++ c.args.program.now ∷ [] in (
      load_note c.in-Err.stop,
      c.write_load_stop.ensures clean,
      subst (λ s. IsNote files s (load_note c.in-Err.stop)) (sym c.load_status.ensures) (note_among files c.in-Err.stop c.in-Err.ensures.word),
      λ file e. subst (λ s. IsSiteNote c.args.program.now words file s (load_note c.in-Err.stop)) (sym c.load_status.ensures)
          (site_note c.args.program.now words file c.in-Err.stop (c.in-Err.ensures.loaded file e)),
    )
