-- What is read of the logs that live runs write.
use Rattle.std.specs.Prelude.{◌≡◌, ℕ, List, Option, Ok}
use Rattle.std.specs.Io.KnownBytes.{append_known}
use Rattle.sig_io.specs.Outside.{Contents}
use Rattle.det_stream.specs.Stream.{stream_of}
use Rattle.junction_run.specs.declared.status.Status.TheVariants as status
use Rattle.junction_run.specs.Loading.{Playing}
use Rattle.junction_live.specs.Answer.{IsWholeText, Loads, Meets}
use Rattle.junction_live.specs.Form.{LiveWords}
use Rattle.laws.specs.RunLogs.{IsReadWhole}

-- with status 0 the log in what `live` writes is read whole: it is that of a run of what its files give, over the frames that its
-- seconds had
abbrev pub LiveLogsAreReadWhole : Type 0
LiveLogsAreReadWhole =
    (form : LiveWords) (file : Contents) (old new : Option (List ℕ)) → Meets form file status.Done old new →
    (playing : Playing) × Loads form file (Ok playing)
    × ((text : List ℕ) × (new ≡ append_known old text)
    × ((whole : IsWholeText form.watchers playing (stream_of (file form.detectors)).frames text)
    × IsReadWhole playing whole.whole.made whole.log))

-- and the whole of what it writes is read as that log, also where lines of watchers stand behind it
abbrev pub LiveTextsAreReadWhole : Type 0
LiveTextsAreReadWhole =
    (form : LiveWords) (file : Contents) (old new : Option (List ℕ)) → Meets form file status.Done old new →
    (playing : Playing) × Loads form file (Ok playing)
    × ((text : List ℕ) × (new ≡ append_known old text)
    × ((whole : IsWholeText form.watchers playing (stream_of (file form.detectors)).frames text)
    × IsReadWhole playing whole.whole.made text))
