use Rattle.std.proofs.Common.{◌∙◌, ◌<◌, ◌++◌, ◌∷◌, [], arith, refl}
use Rattle.junction_run.specs.Form.{Source, ProgramFile, site_files}
use Rattle.junction_run.specs.Loading.{IsSource, played_at}
use Rattle.junction_run.proofs.Ends.{among, among_more}
use Rattle.junction_run.proofs.Texts.{no_site, no_last}
use Rattle.junction_run.specs.FormWords.{site_in}
use Rattle.junction_run.specs.Sites.{site_of_tables}
use Rattle.trace_call.proofs.load.load_program.Goals as goal

pub returns-in-Err-clause-loaded : goal.returns-in-Err-clause-loaded
returns-in-Err-clause-loaded g c = λ file e.
    let source : Source = ProgramFile c.args.program.now in
    no_site (played_at source) (IsSource source (file c.args.program.now)) c.args.program.now (site_in c.args.words.now) file c.in-Err.stop
    (c.in-Err.ensures.site file e)

pub returns-in-Err-clause-word : goal.returns-in-Err-clause-word
returns-in-Err-clause-word g c =
    among_more (site_files (site_in c.args.words.now)) (c.args.program.now ∷ []) c.in-Err.stop c.in-Err.ensures.word

pub returns-in-Err-take_program-clause-loaded : goal.returns-in-Err-take_program-clause-loaded
returns-in-Err-take_program-clause-loaded g c = λ file e.
    let source : Source = ProgramFile c.args.program.now in
    no_last (played_at source) (IsSource source (file c.args.program.now)) c.args.program.now (site_in c.args.words.now) file
    (site_of_tables c.in-Ok.tables) c.in-Err-take_program.stop (c.in-Ok.ensures.site file e)
    (c.in-Err-take_program.ensures.program file (c.take_site.ensures.contents_stay ∙ e))

pub returns-in-Err-take_program-clause-word : goal.returns-in-Err-take_program-clause-word
returns-in-Err-take_program-clause-word g c =
    let third : 3 < 4 = omega arith in
    let word = c.args.program.now in
    among (site_files (site_in c.args.words.now) ++ word ∷ []) word c.in-Err-take_program.stop (3, third, refl) c.in-Err-take_program.ensures.word

pub returns-in-Ok-take_program-clause-loaded : goal.returns-in-Ok-take_program-clause-loaded
returns-in-Ok-take_program-clause-loaded g c = λ file e.
    let taken = c.in-Ok-take_program.ensures.program file (c.take_site.ensures.contents_stay ∙ e) in
    rw c.with_program.ensures (record {
      given = record { at_site = c.in-Ok.ensures.site file e; spelled = taken.0 };
      text = taken.1;
      value = taken.2;
      runs = taken.3;
      code_is = taken.4;
    })
