use Rattle.std.proofs.Common.{refl}
use Rattle.sig_types.specs.Pass.{Store}
use Rattle.det_stream.specs.Answers.{name_of}
use Rattle.vap_code.specs.Stores.{first_store}
use Rattle.junction_run.specs.Played.{playing_of}
use Rattle.junction_run.specs.Sites as sites
use Rattle.junction_run.proofs.Agree.{log_is}
use Rattle.junction_run.proofs.Ends.{plays_may_write, was_played}
use Rattle.junction_run.proofs.Guards.{log_guarded}
use Rattle.junction_run.proofs.run.play_site.Goals as goal

pub returns-in-Err-clause-played : goal.returns-in-Err-clause-played
returns-in-Err-clause-played g c = λ file e. (refl, refl)

pub returns-in-Err-make-clause-played : goal.returns-in-Err-make-clause-played
returns-in-Err-make-clause-played g c = λ file e. (refl, refl)

pub returns-in-Ok-play-clause-played : goal.returns-in-Ok-play-clause-played
returns-in-Ok-play-clause-played g c = λ file e.
    let made = c.in-Ok.ensures in
    let start = c.in-Ok.controller in
    let store : Store = first_store c.args.site.code in
    let played = c.in-Ok-play.ensures.played store made.stands in
    was_played (playing_of start store) (sites.playing_in c.args.site) c.args.detectors.now (name_of c.in-Ok-make.lines) file _ played.0 _ _
    (log_is c.args.site.code start (sites.site_in c.args.site) played.0 made.logic made.site) c.in-Ok-make.ensures.name played.1 (played.2 file e)

pub returns-in-Ok-play-clause-guarded : goal.returns-in-Ok-play-clause-guarded
returns-in-Ok-play-clause-guarded g c =
    let made = c.in-Ok.ensures in
    let store : Store = first_store c.args.site.code in
    let played = c.play.ensures.played store made.stands in
    log_guarded c.play.result (playing_of c.in-Ok.controller store) played.0 _ _ (rw made.site made.two_way) (rw made.site c.requires.times) played.1

pub returns-in-Err-play-clause-played : goal.returns-in-Err-play-clause-played
returns-in-Err-play-clause-played g c = λ file e.
    let made = c.in-Ok.ensures in
    let start = c.in-Ok.controller in
    let store : Store = first_store c.args.site.code in
    let played = c.in-Err-play.ensures.played store made.stands in
    was_played (playing_of start store) (sites.playing_in c.args.site) c.args.detectors.now (name_of c.in-Ok-make.lines) file _ played.0 _ _
    (log_is c.args.site.code start (sites.site_in c.args.site) played.0 made.logic made.site) c.in-Ok-make.ensures.name played.1 (played.2 file e)

pub returns-in-Err-play-clause-guarded : goal.returns-in-Err-play-clause-guarded
returns-in-Err-play-clause-guarded g c =
    let made = c.in-Ok.ensures in
    let store : Store = first_store c.args.site.code in
    let played = c.play.ensures.played store made.stands in
    log_guarded c.play.result (playing_of c.in-Ok.controller store) played.0 _ _ (rw made.site made.two_way) (rw made.site c.requires.times) played.1

pub returns-in-Err-play-clause-unwritten : goal.returns-in-Err-play-clause-unwritten
returns-in-Err-play-clause-unwritten g c = λ none. absurd (plays_may_write c.in-Err-play.stop none)
