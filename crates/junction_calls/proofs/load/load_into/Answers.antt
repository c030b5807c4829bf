use Rattle.std.proofs.Common.{sym, subst}
use Rattle.junction_calls.specs.Loads.{IsLoaded}
use Rattle.junction_run.specs.FormWords.{source_in}
use Rattle.junction_calls.proofs.Stopped.{load_stopped}
use Rattle.junction_calls.proofs.load.load_into.Goals as goal

pub returns : goal.returns
returns c =
    subst (λ held. IsLoaded (source_in c.args.source.now)
    (record { program = c.args.program.now; plan = c.args.plan.now; times = c.args.times.now; intergreens = c.args.intergreens.now })
    c.tell_stop.result held c.args.note.now c.tell_stop.new.note c.args.refusal.now c.tell_stop.new.refusal)
    (sym c.take-former.ensures.taken)
    (load_stopped (source_in c.args.source.now) _ c.in-Err.stop _ _ _ _ _ c.in-Err.ensures.stopped c.tell_stop.ensures)
