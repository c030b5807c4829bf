-- What was written of the runs of several junctions before a fault.
use Rattle.std.specs.Prelude.{ℕ, List, Option, Result, Ok}
use Rattle.sig_io.specs.Draft.{IsCut}
use Rattle.sig_io.specs.Outside.{Contents}
use Rattle.junction_run.specs.Loading.{Unloaded}
use Rattle.junction_net.specs.List.{JobWords}
use Rattle.junction_net.specs.Net.{ResultsOf}
use Rattle.junction_net.specs.Results.{JobResult, net_text}

-- out gained a front of the text of what junctions that were loaded so answer, and not all of it
abbrev pub IsCutRun : Contents → Result (List JobWords) Unloaded → Option (List ℕ) → Option (List ℕ) → Type 0
IsCutRun file loaded old new = (rs : List JobResult) × ResultsOf file loaded (Ok rs) × (n : ℕ) × IsCut old new n (net_text rs)
