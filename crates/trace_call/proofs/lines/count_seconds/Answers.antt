use Rattle.std.proofs.Common.{refl}
use Rattle.vap_code.specs.Stores.{first_store}
use Rattle.controller.specs.Controls.{site_of}
use Rattle.controller.specs.Past.{opening}
use Rattle.det_stream.specs.Answers.{name_of}
use Rattle.trace_call.proofs.Counted.{tallied_all, tallied_none, tallied_some}
use Rattle.trace_call.proofs.lines.count_seconds.Goals as goal

pub tally_seconds-requires-clause-begun : goal.tally_seconds-requires-clause-begun
tally_seconds-requires-clause-begun g c = (
  opening (site_of c.in-Ok.started.0) (first_store c.args.site.code),
  c.in-Ok.ensures.stands,
  refl,
  tallied_none c.args.tally.now c.args.site c.in-Ok.started.0 c.in-Ok.ensures.code c.requires.none,
)

pub returns-in-Ok-tally_seconds-clause-counted : goal.returns-in-Ok-tally_seconds-clause-counted
returns-in-Ok-tally_seconds-clause-counted g c = λ file e.
    let made = c.in-Ok.ensures in
    let told = c.in-Ok-tally_seconds.ensures.tallied (opening (site_of c.in-Ok.started.0) (first_store c.args.site.code)) made.stands refl
    (tallied_none c.args.tally.now c.args.site c.in-Ok.started.0 made.code c.requires.none) in
    tallied_all c.args.site c.args.word.now (name_of c.in-Ok.started.1) file c.tally_seconds.new.tally c.in-Ok.started.0 told.0 made.code made.site made.name told.1 (told.2 file e)

pub returns-in-Err-tally_seconds-clause-counted : goal.returns-in-Err-tally_seconds-clause-counted
returns-in-Err-tally_seconds-clause-counted g c = λ file e.
    let made = c.in-Ok.ensures in
    let told = c.in-Err-tally_seconds.ensures.tallied (opening (site_of c.in-Ok.started.0) (first_store c.args.site.code)) made.stands refl
    (tallied_none c.args.tally.now c.args.site c.in-Ok.started.0 made.code c.requires.none) in
    tallied_some c.args.site c.args.word.now (name_of c.in-Ok.started.1) file c.tally_seconds.new.tally c.in-Err-tally_seconds.stop told.0 made.name
    c.in-Err-tally_seconds.ensures.no_write (told.2 file e)
