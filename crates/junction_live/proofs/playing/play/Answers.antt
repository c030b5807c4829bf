use Rattle.junction_live.proofs.playing.play.Goals as goal

pub returns-clause-made : goal.returns-clause-made
returns-clause-made g c =
    let m = c.play_before.ensures.made in (m.0, m.1, m.2, λ past s none. let so = m.3 past s none in (so.0, so.1))
