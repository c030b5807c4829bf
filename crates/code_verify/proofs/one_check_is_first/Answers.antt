use Rattle.code_verify.proofs.EachCode.{some_is_first}
use Rattle.code_verify.proofs.OneFirst.{one_is_first, valid_breaks_none}
use Rattle.code_verify.proofs.one_check_is_first.Goals as goal

pub returns : goal.returns
returns c = record { some = some_is_first; one = one_is_first; none = valid_breaks_none }
