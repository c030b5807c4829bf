-- One line more.
use Rattle.std.proofs.Common.{◌≡◌, ℕ, ◌+◌, List, ◌++◌, None, Some, refl, add-one, length}
use Rattle.sig_types.specs.declared.aspect.Rule.{Rule}
use Rattle.sig_types.specs.declared.numbers.GroupNo.{GroupNo}
use Rattle.log_judge.specs.declared.breach.Breach.{Breach}
use Rattle.judge_text.specs.Sums.{alone_to, others_to, pairs_to, sum_text}

pub alone_more : (names : List (List ℕ)) (found : List Breach) (rule : Rule) (n : ℕ) →
    alone_to names found rule (n + 1) ≡ alone_to names found rule n ++ sum_text names found rule (record { 0 = n }) None
unfolding alone_to
alone_more names found rule n = rw add-one refl

pub others_more : (names : List (List ℕ)) (found : List Breach) (rule : Rule) (group : GroupNo) (n : ℕ) →
    others_to names found rule group (n + 1) ≡ others_to names found rule group n ++ sum_text names found rule group (Some (record { 0 = n }))
unfolding others_to
others_more names found rule group n = rw add-one refl

pub pairs_more : (names : List (List ℕ)) (found : List Breach) (rule : Rule) (n : ℕ) →
    pairs_to names found rule (n + 1) ≡ pairs_to names found rule n ++ others_to names found rule (record { 0 = n }) (length names)
unfolding pairs_to
pairs_more names found rule n = rw add-one refl
