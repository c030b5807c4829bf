use Rattle.std.proofs.Common.{◌≡◌, true, false}
use Rattle.program_advice.proofs.behind.is_text.Goals as goal

pub returns-in-Some : goal.returns-in-Some
returns-in-Some c =
    let refuses = rw c.in-Some.is at c.in_ok-first_refused.ensures.first in
    (λ yes_. absurd (let h : false ≡ true = yes_ in cc), λ whole. absurd (c.one_answer.ensures.apart _ whole.0 _ _ whole.1 refuses))
