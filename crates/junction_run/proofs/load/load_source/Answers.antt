use Rattle.std.proofs.Common.{◌∙◌, ◌<◌, ◌++◌, ◌∷◌, [], arith, refl}
use Rattle.junction_run.specs.Form.{Source, word_of, site_files}
use Rattle.junction_run.specs.FormWords.{site_in, source_in}
use Rattle.junction_run.specs.Loading.{IsSource, played_at}
use Rattle.junction_run.specs.Sites.{site_of_tables}
use Rattle.junction_run.proofs.Ends.{among, among_more}
use Rattle.junction_run.proofs.Texts.{no_site, no_last, last_taken}
use Rattle.junction_run.proofs.load.load_source.Goals as goal

pub returns-in-Err-clause-loaded : goal.returns-in-Err-clause-loaded
returns-in-Err-clause-loaded g c = λ file e.
    let source : Source = source_in c.args.source.now in
    no_site (played_at source) (IsSource source (file (word_of source))) (word_of source) (site_in c.args.words.now) file c.in-Err.stop
    (c.in-Err.ensures.site file e)

pub returns-in-Err-clause-word : goal.returns-in-Err-clause-word
returns-in-Err-clause-word g c =
    among_more (site_files (site_in c.args.words.now)) (word_of (source_in c.args.source.now) ∷ []) c.in-Err.stop c.in-Err.ensures.word

pub returns-in-Err-take_source-clause-loaded : goal.returns-in-Err-take_source-clause-loaded
returns-in-Err-take_source-clause-loaded g c = λ file e.
    let source : Source = source_in c.args.source.now in
    no_last (played_at source) (IsSource source (file (word_of source))) (word_of source) (site_in c.args.words.now) file (site_of_tables c.in-Ok.tables)
    c.in-Err-take_source.stop (c.in-Ok.ensures.site file e) (c.in-Err-take_source.ensures.code file (c.take_site.ensures.contents_stay ∙ e))

pub returns-in-Err-take_source-clause-word : goal.returns-in-Err-take_source-clause-word
returns-in-Err-take_source-clause-word g c =
    let third : 3 < 4 = omega arith in
    let word = word_of (source_in c.args.source.now) in
    among (site_files (site_in c.args.words.now) ++ word ∷ []) word c.in-Err-take_source.stop (3, third, refl) c.in-Err-take_source.ensures.word

pub returns-in-Ok-take_source-clause-loaded : goal.returns-in-Ok-take_source-clause-loaded
returns-in-Ok-take_source-clause-loaded g c = λ file e.
    let source : Source = source_in c.args.source.now in
    let taken = c.in-Ok-take_source.ensures.code file (c.take_site.ensures.contents_stay ∙ e) in
    rw c.with_code.ensures (
      taken.0,
      last_taken (played_at source) (IsSource source (file (word_of source))) (word_of source) (site_in c.args.words.now) file
          (site_of_tables c.in-Ok.tables) taken.0 (c.in-Ok.ensures.site file e) taken.1,
      taken.2,
    )
