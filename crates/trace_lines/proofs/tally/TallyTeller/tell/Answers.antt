use Rattle.std.proofs.Common.{[], length, subst, sym}
use Rattle.sig_io.proofs.Drafts.{nothing}
use Rattle.controller.specs.Controls.{code_of, logic_of, site_of}
use Rattle.controller.specs.Second.{past_of}
use Rattle.controller.specs.Seen.{sights_in}
use Rattle.trace_lines.specs.Seconds.{sights_by}
use Rattle.trace_lines.specs.Tallied.{HasTallied}
use Rattle.trace_lines.proofs.Tallies.{sights_by-more}
use Rattle.trace_lines.proofs.tally.TallyTeller.tell.Goals as goal

pub returns-clause-puts : goal.returns-clause-puts
returns-clause-puts g c = λ first frames stands known. nothing

pub returns-clause-knows : goal.returns-clause-knows
unfolding code_of logic_of
returns-clause-knows g c = λ first frames stands t.
    let code = code_of c.args.controller.now in
    let site = site_of c.args.controller.now in
    let past = past_of (logic_of c.args.controller.now) site first frames in
    let looked = c.second_seen.ensures.seen past stands c.clear.new.self [] (record { counted = c.clear.ensures.none; places = λ n has. has }) in
    subst (λ seconds. HasTallied c.add.new.self code.instrs seconds) (sym (sights_by-more code site first frames c.args.frame.now))
    (c.add.ensures code.instrs (sights_by code site first frames) (sights_in code site past c.args.frame.now)
    (t.0, looked.places (length code.instrs) (c.clear.ensures.places (length code.instrs) t.1)) looked.counted)
