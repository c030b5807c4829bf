use Rattle.std.proofs.Common.{◌≡◌, ◌∙◌, [], length, sym, ap, subst, arith, add-one}
use Rattle.pua_model.specs.Plan.{groups_in}
use Rattle.controller.specs.Controls.{plan_of}
use Rattle.signal_log.specs.Summary.{StandsFor as SummaryStands}
use Rattle.junction_run.specs.Drawn.{frame_from, after_frame, after_frames, generator_of, drawn}
use Rattle.junction_run.specs.Played.{playing_of}
use Rattle.junction_run.specs.Records.{records_of}
use Rattle.junction_run.proofs.Drawing.{after_frames-more}
use Rattle.junction_run.proofs.Sampling.{none_sampled, one_sampled, next_takes, next_adds}
use Rattle.junction_run.proofs.sample.sample_seconds.Goals as goal

pub loop-second-init : goal.loop-second-init
loop-second-init c = record {
  sampled = none_sampled c.args.controller.now c.new-summary.result c.args.seed
      (subst (λ n. SummaryStands c.new-summary.result n []) (c.groups.ensures.count ∙ ap groups_in c.plan.ensures) c.new-summary.ensures);
  generator = c.generator_of-generator.ensures;
}

pub second-requires : goal.second-requires
second-requires c =
    let i = c.loop-second.invariant in
    let begun = c.requires.begun in
    next_takes c.args.controller.now c.loop-second.controller c.loop-second.summary c.args.seed c.loop-second.second c.draw_frame.new.frame i.sampled
    (omega arith)
    (c.draw_frame.ensures.frame ∙ ap frame_from i.generator) begun.0 begun.1

pub add-requires : goal.add-requires
add-requires c =
    let i = c.loop-second.invariant in
    let begun = c.requires.begun in
    let width : length c.last.result.now.picture ≡ groups_in (plan_of c.args.controller.now)
    = ap (λ r. length r.picture) c.last.ensures ∙ c.second.ensures.fits.picture ∙ ap groups_in (c.second.ensures.plan ∙ i.sampled.plan) in
    next_adds c.args.controller.now c.loop-second.controller c.loop-second.summary c.args.seed c.loop-second.second c.last.result.now i.sampled (omega arith)
    width begun.0 begun.1

pub loop-second-preserved : goal.loop-second-preserved
loop-second-preserved c =
    let i = c.loop-second.invariant in
    let second = c.loop-second.second in
    let g = generator_of c.args.seed in
    record {
      sampled = one_sampled c.args.controller.now c.loop-second.controller c.second.new.self c.loop-second.summary c.add.new.self c.args.seed second
          c.draw_frame.new.frame c.last.result.now i.sampled (c.draw_frame.ensures.frame ∙ ap frame_from i.generator)
          c.second.ensures.stands (λ past h. c.last.ensures ∙ c.second.ensures.record past h) c.second.ensures.site c.second.ensures.logic c.second.ensures.plan
          (ap (λ r. length r.picture) c.last.ensures ∙ c.second.ensures.fits.picture) c.add.ensures;
      generator = c.draw_frame.ensures.next ∙ ap after_frame i.generator ∙ sym (after_frames-more second g) ∙ sym (ap (λ n. after_frames n g) (add-one second));
    }

pub returns-clause-summed : goal.returns-clause-summed
returns-clause-summed c = λ store s.
    let all : c.loop-second.second ≡ c.args.seconds = omega arith in
    subst (λ n. SummaryStands c.loop-second.summary (groups_in (plan_of c.args.controller.now))
    (records_of (playing_of c.args.controller.now store) (drawn c.args.seed n)))
    all (c.loop-second.invariant.sampled.summed store s)
