use Rattle.program_advice.proofs.AllKinds.{all_stand}
use Rattle.program_advice.proofs.behind.wanted_behind.Goals as goal

pub returns-clause-kinds : goal.returns-clause-kinds
returns-clause-kinds c = λ kind.
    let told = rw c.in_ok-tokens.ensures at c.in_ok-kinds.ensures.told kind in
    (λ is. (told.0 is).1, λ can. told.1 (all_stand kind, can))
