-- The log of what is played.
use Rattle.std.specs.Prelude.{ℕ, List}
use Rattle.sig_types.specs.Counts.{Counts}
use Rattle.sig_types.specs.declared.record.Record.{Record}
use Rattle.sig_types.specs.Pass.{Logic}
use Rattle.controller.specs.Past.{Site, Past, opening}
use Rattle.controller.specs.Second.{record_of, run_from}
use Rattle.signal_log.specs.Log.{log_text, record_text}
use Rattle.junction_run.specs.Loading.{Playing}

-- the text of the record of a second after a past with this frame
abbrev pub record_told : Logic → Site → Past → Counts → List ℕ
record_told logic site past frame = record_text site.plan.names (record_of logic site past frame)

-- the records of the seconds with these frames, from the opening on
unfoldable pub records_of : Playing → List Counts → List Record
records_of playing frames = run_from playing.logic playing.site (opening playing.site playing.store) frames

-- their log
unfoldable pub log_of : Playing → List Counts → List ℕ
log_of playing frames = log_text playing.site.plan.names (records_of playing frames)
