use Rattle.vap_lex.proofs.SomeAnswer.{has_answer}
use Rattle.vap_lex.proofs.OneAnswer.{one_list, one_place, never_both}
use Rattle.vap_lex.proofs.scan.one_answer.Goals as goal

pub returns : goal.returns
returns c = record { some = has_answer; tokens = one_list; refusal = one_place; apart = never_both }
