use Rattle.laws.proofs.WorstCases.{files_give_sites, worst_case_is_shown}
use Rattle.laws.proofs.waits.the_worst_case_is_shown.Goals as goal

pub returns-clause-sites : goal.returns-clause-sites
returns-clause-sites c = files_give_sites

pub returns-clause-shown : goal.returns-clause-shown
returns-clause-shown c = worst_case_is_shown c.what_is_wished_is_shown.ensures.histories
