use Rattle.log_chart.proofs.stay.add_stay.Goals as goal

pub returns-clause-stayed : goal.returns-clause-stayed
returns-clause-stayed c = rw (← c.without_second.ensures) c.show.ensures.shown
