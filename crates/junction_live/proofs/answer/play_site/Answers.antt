use Rattle.std.proofs.Common.{◌≡◌, List, refl, subst}
use Rattle.sig_types.specs.Counts.{Counts}
use Rattle.sig_types.specs.Pass.{Store}
use Rattle.vap_code.specs.Stores.{first_store}
use Rattle.controller.proofs.Guarded.{runs_are_guarded}
use Rattle.junction_run.specs.Loading.{Playing, program_at}
use Rattle.junction_run.specs.Played.{playing_of}
use Rattle.junction_run.specs.Records.{records_of}
use Rattle.junction_run.specs.Sites as sites
use Rattle.junction_live.specs.Ended.{GainedText, GainedBegun}
use Rattle.junction_live.proofs.Answering.{taken_played, played_done, played_cut}
use Rattle.junction_live.proofs.Texts.{records_same, gained_along, front_along, whole_guarded, front_guarded}
use Rattle.junction_live.proofs.answer.play_site.Goals as goal

pub returns-in-Err-clause-played : goal.returns-in-Err-clause-played
returns-in-Err-clause-played g c = λ program runs file e.
    taken_played (Unit {0}) c.args.watchers.count c.args.detectors.now (file c.args.detectors.now) (program_at (sites.site_in c.args.site) program)
    c.in-Err.stop _ (c.in-Err.ensures.taken file e)

pub returns-in-Err-clause-write : goal.returns-in-Err-clause-write
returns-in-Err-clause-write g c = λ at. absurd (c.in-Err.ensures.no_write at)

pub returns-in-Err-make_controller-clause-played : goal.returns-in-Err-make_controller-clause-played
returns-in-Err-make_controller-clause-played g c = λ program runs file e. (refl, refl)

pub returns-in-Err-make_board-clause-played : goal.returns-in-Err-make_board-clause-played
returns-in-Err-make_board-clause-played g c = λ program runs file e. (refl, refl)

pub returns-in-Err-make_watched_cell-clause-played : goal.returns-in-Err-make_watched_cell-clause-played
returns-in-Err-make_watched_cell-clause-played g c = λ program runs file e. (refl, refl)

pub returns-in-Ok-write_text-clause-played : goal.returns-in-Ok-write_text-clause-played
returns-in-Ok-write_text-clause-played g c = λ program runs file e.
    let made = c.in-Ok-make_controller.ensures in
    let start = c.in-Ok-make_controller.controller in
    let n = c.args.watchers.count in
    let store : Store = first_store c.args.site.code in
    let p : Playing = playing_of start store in
    let q : Playing = program_at (sites.site_in c.args.site) program in
    let same : (fs : List Counts) → records_of p fs ≡ records_of q fs
    = λ fs. records_same c.args.site.code program runs made.valid start (sites.site_in c.args.site) fs made.logic made.site in
    let text = subst (λ k. GainedText k p c.in-Ok.frames (g.O.Sink.taken c.args.out.now) (g.O.Sink.taken c.write_text.new.out))
    c.in-Ok-make_watched_cell.ensures.1
    (c.in-Ok-write_text.ensures.text store made.stands (rw made.site made.two_way) (rw made.site c.requires.times)) in
    played_done {A = Unit {0}} n c.args.detectors.now (file c.args.detectors.now) c.in-Ok.frames q (tt {0}) _ _ (c.in-Ok.ensures.taken file e)
    (gained_along p q same made.site (λ fs. runs_are_guarded q.logic q.site q.store fs made.two_way c.requires.times) n c.in-Ok.frames _ _ text)

pub returns-in-Ok-write_text-clause-guarded : goal.returns-in-Ok-write_text-clause-guarded
returns-in-Ok-write_text-clause-guarded g c =
    let made = c.in-Ok-make_controller.ensures in
    let store : Store = first_store c.args.site.code in
    let p : Playing = playing_of c.in-Ok-make_controller.controller store in
    whole_guarded c.args.watchers.count p c.in-Ok.frames _ _
    (subst (λ k. GainedText k p c.in-Ok.frames (g.O.Sink.taken c.args.out.now) (g.O.Sink.taken c.write_text.new.out)) c.in-Ok-make_watched_cell.ensures.1
    (c.in-Ok-write_text.ensures.text store made.stands (rw made.site made.two_way) (rw made.site c.requires.times)))

pub returns-clause-played : goal.returns-clause-played
returns-clause-played g c = λ program runs file e.
    let made = c.in-Ok-make_controller.ensures in
    let start = c.in-Ok-make_controller.controller in
    let n = c.args.watchers.count in
    let store : Store = first_store c.args.site.code in
    let p : Playing = playing_of start store in
    let q : Playing = program_at (sites.site_in c.args.site) program in
    let same : (fs : List Counts) → records_of p fs ≡ records_of q fs
    = λ fs. records_same c.args.site.code program runs made.valid start (sites.site_in c.args.site) fs made.logic made.site in
    let text = subst (λ k. GainedBegun k p c.in-Ok.frames (g.O.Sink.taken c.args.out.now) (g.O.Sink.taken c.write_text.new.out))
    c.in-Ok-make_watched_cell.ensures.1
    (c.in-Err-write_text.ensures.text store made.stands (rw made.site made.two_way) (rw made.site c.requires.times)) in
    played_cut (Unit {0}) n c.args.detectors.now (file c.args.detectors.now) c.in-Ok.frames q _ _ (c.in-Ok.ensures.taken file e)
    (front_along p q same made.site (λ fs. runs_are_guarded q.logic q.site q.store fs made.two_way c.requires.times) n c.in-Ok.frames _ _ text)

pub returns-clause-write : goal.returns-clause-write
returns-clause-write g c = λ at. c.in-Err-write_text.ensures.cause.failed

pub returns-clause-guarded : goal.returns-clause-guarded
returns-clause-guarded g c =
    let made = c.in-Ok-make_controller.ensures in
    let store : Store = first_store c.args.site.code in
    let p : Playing = playing_of c.in-Ok-make_controller.controller store in
    front_guarded c.args.watchers.count p c.in-Ok.frames _ _
    (subst (λ k. GainedBegun k p c.in-Ok.frames (g.O.Sink.taken c.args.out.now) (g.O.Sink.taken c.write_text.new.out)) c.in-Ok-make_watched_cell.ensures.1
    (c.in-Err-write_text.ensures.text store made.stands (rw made.site made.two_way) (rw made.site c.requires.times)))
