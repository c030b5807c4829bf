use Rattle.pua_reader.proofs.RowsSaid.{plan_says_its_rows}
use Rattle.pua_reader.proofs.laws.plan_says_its_rows.Goals as goal

pub returns : goal.returns
returns c = plan_says_its_rows
