-- The text of a sample.
use Rattle.std.specs.Prelude.{ℕ, List}
use Rattle.signal_log.specs.Summary.{summary_text}
use Rattle.junction_run.specs.Drawn.{drawn}
use Rattle.junction_run.specs.Loading.{Playing}
use Rattle.junction_run.specs.Records.{records_of}

-- what the records of so many seconds over the drawn frames add up to
unfoldable pub sample_text : (seed seconds : ℕ) → Playing → List ℕ
sample_text seed seconds playing = summary_text playing.site.plan.names seed seconds (records_of playing (drawn seed seconds))
