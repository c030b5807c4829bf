use Rattle.sig_response.proofs.Rest.{shows_sooner_at_rest}
use Rattle.sig_response.proofs.ToRest.{comes_to_rest}
use Rattle.sig_response.proofs.what_is_wished_is_shown_sooner_at_rest.Goals as goal

pub returns-clause-sooner : goal.returns-clause-sooner
returns-clause-sooner c = shows_sooner_at_rest

pub returns-clause-rest : goal.returns-clause-rest
returns-clause-rest c = comes_to_rest
