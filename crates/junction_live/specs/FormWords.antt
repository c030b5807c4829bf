-- The words of a live run, as the program holds them.
use Rattle.std.specs.Prelude.{map, string_bytes}
use Rattle.junction_live.specs.declared.form.LiveWords.{LiveWords as Words}
use Rattle.junction_live.specs.Form.{LiveWords}
use Rattle.junction_run.specs.SiteAnswer.{program_named, site_named}

-- the words of a live run, as the definitions see them
abbrev pub form_in : Words → LiveWords
form_in words = record {
  program = program_named (map string_bytes words.names.now);
  site = site_named (map string_bytes words.names.now);
  detectors = words.detectors.now;
  watchers = words.watchers.count;
}
