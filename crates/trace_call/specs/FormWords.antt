-- The words of a call, as the program holds them.
use Rattle.std.specs.Prelude.{map, string_bytes}
use Rattle.junction_run.specs.FormWords.{site_in}
use Rattle.trace_call.specs.declared.form.Form.{Form}
use Rattle.trace_call.specs.declared.form.Form.TheVariants as form
use Rattle.trace_call.specs.declared.form.RunNames.{RunNames}
use Rattle.trace_call.specs.Form.{Asked, Help, HowEnded, Lines, Second, Trace, Version, Values, RunWords, files_in}

-- the names of the files of a run, as the definitions see them
abbrev pub run_named : RunNames → RunWords
run_named run = record { program = run.program.now; site = site_in run.site; detectors = run.detectors.now }

-- what the words ask for, as the definition sees it
abbrev pub asked_in : Form → Asked
asked_in form.Help = Help
asked_in form.Version = Version
asked_in (form.Values run names window) =
    Values (record { run = run_named run; names = map string_bytes names.now; first = window.from; last = window.to })
asked_in (form.HowEnded run csv) = HowEnded (record { run = run_named run; csv = csv })
asked_in (form.Lines run style added) =
    Lines (record { run = run_named run; style = style; added = files_in (map string_bytes added.now) })
asked_in (form.Second run second) = Second (record { run = run_named run; second = second })
asked_in (form.Trace run) = Trace (run_named run)
