use Rattle.std.proofs.Common.{◌∙◌, ◌<◌, ◌++◌, ◌∷◌, [], arith, refl}
use Rattle.det_stream.specs.Stream.{stream_of}
use Rattle.junction_run.specs.Answer.{loaded_answer}
use Rattle.junction_run.specs.Form.{Source, SiteWords, word_of, site_files, files_of, Play}
use Rattle.junction_run.specs.FormWords as words
use Rattle.junction_run.specs.Loading.{Playing, LoadsSource, Reached, ReachedInPlay, played_at}
use Rattle.junction_run.specs.Sites as sites
use Rattle.junction_run.proofs.Agree.{source_log}
use Rattle.junction_run.proofs.Ends.{stopped_loading, stopped_before, ended_at, played_alike, among_more, stops_playing, no_write}
use Rattle.junction_run.proofs.run.run.Goals as goal

pub returns-in-Err-clause-ended : goal.returns-in-Err-clause-ended
returns-in-Err-clause-ended g c = λ file e.
    let source : Source = words.source_in c.args.source.now in
    let site : SiteWords = words.site_in c.args.words.now in
    let form = Play source site c.args.detectors.now in
    stopped_loading (LoadsSource source site file) (loaded_answer form file) (Reached form file) c.in-Err.stop _ _
    (stopped_before (word_of source) site c.args.detectors.now file (LoadsSource source site file) c.in-Err.stop (c.in-Err.ensures.loaded file e)) refl

pub returns-in-Err-clause-word : goal.returns-in-Err-clause-word
returns-in-Err-clause-word g c =
    among_more (site_files (words.site_in c.args.words.now) ++ word_of (words.source_in c.args.source.now) ∷ []) (c.args.detectors.now ∷ [])
    c.in-Err.stop c.in-Err.ensures.word

pub returns-in-Err-clause-write : goal.returns-in-Err-clause-write
returns-in-Err-clause-write g c = λ is. absurd (no_write c.in-Err.stop is)

pub returns-clause-ended : goal.returns-clause-ended
returns-clause-ended g c = λ file e.
    let source : Source = words.source_in c.args.source.now in
    let site : SiteWords = words.site_in c.args.words.now in
    let loaded = c.in-Ok.ensures.loaded file e in
    let playing : Playing = played_at source (sites.site_in c.in-Ok.site) loaded.0 in
    ended_at (LoadsSource source site file) (Reached (Play source site c.args.detectors.now) file) c.args.detectors.now
    (stream_of (file c.args.detectors.now)) playing
    c.play_site.result _ _ loaded.1 (ReachedInPlay.at_detectors playing loaded.1)
    (played_alike (sites.playing_in c.in-Ok.site) playing c.args.detectors.now (stream_of (file c.args.detectors.now)) c.play_site.result _ _
    (source_log source c.in-Ok.site.code loaded.0 loaded.2 c.play_site.ensures.valid (sites.site_in c.in-Ok.site))
    (c.play_site.ensures.played file (c.load_source.ensures.contents_stay ∙ e)))

pub returns-clause-word : goal.returns-clause-word
returns-clause-word g c =
    let fourth : 4 < 5 = omega arith in
    stops_playing (files_of (Play (words.source_in c.args.source.now) (words.site_in c.args.words.now) c.args.detectors.now)) c.args.detectors.now
    c.play_site.result (4, fourth, refl) c.play_site.ensures.word
