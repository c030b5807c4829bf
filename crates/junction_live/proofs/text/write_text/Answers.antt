use Rattle.std.proofs.Common.{ap, sym, subst}
use Rattle.junction_run.specs.Played.{playing_of}
use Rattle.junction_live.specs.Cells.{watchers_in}
use Rattle.junction_live.specs.Ended.{GainedBegun, GainedText}
use Rattle.junction_live.proofs.Texts.{begun_text, text_alone}
use Rattle.junction_live.proofs.text.write_text.Goals as goal

pub returns-in-Ok-clause-text : goal.returns-in-Ok-clause-text
returns-in-Ok-clause-text g c = λ store s two count.
    let playing = playing_of c.args.start.controller store in
    let log = c.in-Ok.ensures.log store s two count in
    subst (λ n. GainedText n playing c.args.frames.now (g.O.Sink.taken c.args.out.now) (g.O.Sink.taken c.write_log.new.out))
    (sym (ap watchers_in c.in-None.is)) (log.0, text_alone playing c.args.frames.now log.0 log.1, log.2)

pub returns-in-Err-clause-text : goal.returns-in-Err-clause-text
returns-in-Err-clause-text g c = λ store s two count.
    let playing = playing_of c.args.start.controller store in
    subst (λ n. GainedBegun n playing c.args.frames.now (g.O.Sink.taken c.args.out.now) (g.O.Sink.taken c.write_log.new.out))
    (sym (ap watchers_in c.in-None.is)) (begun_text 0 playing c.args.frames.now _ _ (c.in-Err.ensures.log store s two count))
