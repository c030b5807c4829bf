use Rattle.std.proofs.Common.{◌≡◌, ◌∙◌, ◌++◌, List, ℕ, Option, Ok, Err, [], ap, refl, subst, sym}
use Rattle.controller.specs.Controls.{code_of, logic_of, site_of}
use Rattle.controller.specs.Past.{opening}
use Rattle.det_stream.specs.Answers.{name_of}
use Rattle.det_stream.specs.Stream.{stream_of}
use Rattle.signal_log.specs.Log.{header_text}
use Rattle.run_seconds.specs.Told as told
use Rattle.junction_run.specs.Played.{playing_of}
use Rattle.junction_run.specs.Loading.{Playing}
use Rattle.junction_run.specs.Records.{record_told}
use Rattle.junction_run.proofs.Logs.{plan_is}
use Rattle.junction_run.proofs.Told.{told_log, written_at, played_at, names_file, read_failed, write_failed}
use Rattle.junction_run.proofs.play.play.Goals as goal

pub tell_all-requires-clause-begun : goal.tell_all-requires-clause-begun
tell_all-requires-clause-begun g c =
    let s = c.requires.begun in
    (opening (site_of c.args.controller.now) s.0, s.1, refl, tt)

pub returns-in-Ok-clause-played : goal.returns-in-Ok-clause-played
unfolding code_of logic_of
returns-in-Ok-clause-played g c = λ store s.
    let start : Option (List ℕ) = g.O.Sink.taken c.args.out.now in
    let p : Playing = playing_of c.args.controller.now store in
    let names : c.plan.result.now.names ≡ p.site.plan.names = ap (λ q. q.names) (c.plan.ensures ∙ plan_is c.args.controller.now) in
    let seconds = c.in-Ok.ensures.told (opening p.site store) s refl tt in
    let written = seconds.1 start (header_text c.plan.result.now.names) (c.put_header.ensures.text start [] (c.new-draft.ensures.text start)) in (
      seconds.0,
      subst (λ t. told.IsWritten {A = Unit {0}} (Ok tt) t start (g.O.Sink.taken c.tell_all.new.out))
          (ap (λ n. header_text n ++ told.told_from (record_told p.logic p.site) p.logic p.site (opening p.site store) seconds.0) names ∙ told_log p seconds.0)
          written,
      seconds.3,
    )

pub returns-in-Err-clause-played : goal.returns-in-Err-clause-played
unfolding code_of logic_of
returns-in-Err-clause-played g c = λ store s.
    let start : Option (List ℕ) = g.O.Sink.taken c.args.out.now in
    let p : Playing = playing_of c.args.controller.now store in
    let names : c.plan.result.now.names ≡ p.site.plan.names = ap (λ q. q.names) (c.plan.ensures ∙ plan_is c.args.controller.now) in
    let seconds = c.in-Err.ensures.told (opening p.site store) s refl tt in
    let written = seconds.1 start (header_text c.plan.result.now.names) (c.put_header.ensures.text start [] (c.new-draft.ensures.text start)) in (
      seconds.0,
      written_at c.args.word.now c.in-Err.stop c.stop_at.result _ _ _ c.stop_at.ensures
          (subst (λ t. told.IsWritten {A = Unit {0}} (Err c.in-Err.stop) t start (g.O.Sink.taken c.tell_all.new.out))
          (ap (λ n. header_text n ++ told.told_from (record_told p.logic p.site) p.logic p.site (opening p.site store) seconds.0) names ∙ told_log p seconds.0)
          written),
      λ file e. played_at c.args.word.now c.in-Err.stop c.stop_at.result (stream_of (file (name_of c.args.lines.now))) seconds.0 c.stop_at.ensures (seconds.3 file e),
    )

pub returns-in-Err-clause-word : goal.returns-in-Err-clause-word
returns-in-Err-clause-word g c = names_file c.args.word.now c.in-Err.stop c.stop_at.result c.stop_at.ensures

pub returns-in-Err-clause-read : goal.returns-in-Err-clause-read
returns-in-Err-clause-read g c = λ is. c.in-Err.ensures.read (ap Err (read_failed c.args.word.now c.in-Err.stop c.stop_at.result c.stop_at.ensures is))
