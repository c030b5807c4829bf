use Rattle.std.proofs.Common.{◌∙◌, List, ℕ, Option, sym}
use Rattle.junction_run.proofs.Ends.{is_cut}
use Rattle.junction_live.specs.Outcome.{all_written, cut_off}
use Rattle.junction_live.proofs.seconds.run_seconds.Goals as goal

pub returns-then-failed-clause-made : goal.returns-then-failed-clause-made
returns-then-failed-clause-made g c =
    let start : Option (List ℕ) = g.O.Sink.taken c.args.out.now in
    let put = c.put_seconds.ensures.put in (
      put.0,
      put.1,
      put.2,
      λ past s none.
          let made = put.4 past s none in
          let at = is_cut start _ c.put_seconds.new.draft _ (sym c.failed.ensures ∙ c.if-failed.true) (made.1 start (c.new-draft.ensures.text start)) in (
            made.0,
            cut_off put.2 at.0 at.1,
            made.2,
          ),
    )

pub returns-in-Ok-clause-made : goal.returns-in-Ok-clause-made
returns-in-Ok-clause-made g c =
    let start : Option (List ℕ) = g.O.Sink.taken c.args.out.now in
    let put = c.put_seconds.ensures.put in (
      put.0,
      put.1,
      put.2,
      λ past s none.
          let made = put.4 past s none in (
            made.0,
            all_written (put.3 (sym c.failed.ensures ∙ c.if-failed.false))
                (c.in-Ok.ensures.ok start _ (made.1 start (c.new-draft.ensures.text start))),
            made.2,
          ),
    )

pub returns-in-Err-clause-made : goal.returns-in-Err-clause-made
returns-in-Err-clause-made g c =
    let start : Option (List ℕ) = g.O.Sink.taken c.args.out.now in
    let put = c.put_seconds.ensures.put in (
      put.0,
      put.1,
      put.2,
      λ past s none.
          let made = put.4 past s none in
          let at = c.in-Err.ensures.fault start _ (made.1 start (c.new-draft.ensures.text start)) in
          (made.0, cut_off put.2 at.n at.cut, made.2),
    )
