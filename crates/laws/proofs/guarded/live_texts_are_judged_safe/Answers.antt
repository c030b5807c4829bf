use Rattle.laws.proofs.GuardedOutputs.{live_texts_are_judged_safe}
use Rattle.laws.proofs.guarded.live_texts_are_judged_safe.Goals as goal

pub returns : goal.returns
returns c =
    live_texts_are_judged_safe c.answers_are_right.ensures.guarded c.live_logs_are_read_whole.ensures.texts c.pictures_agree.ensures.lines
