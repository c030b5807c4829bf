use Rattle.vap_ast.proofs.Stores.{first_fits}
use Rattle.vap_ast.proofs.laws.first_store_fits.Goals as goal

pub returns : goal.returns
returns c = record { fits = first_fits }
