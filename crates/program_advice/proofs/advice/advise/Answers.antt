use Rattle.program_advice.proofs.advice.advise.Goals as goal

pub returns : goal.returns
returns c =
    (c.in_ok-meant.meant, c.in_ok-repair.repair, _, c.in_ok-meant.ensures, c.in_ok-repair.ensures, c.in_ok-advice.ensures)
