-- The words of a command, as the program holds them.
use Rattle.junction_run.specs.declared.form.Source.{Source as Named}
use Rattle.junction_run.specs.declared.form.Source.TheVariants as named
use Rattle.junction_run.specs.declared.form.Form.{Form as Asked}
use Rattle.junction_run.specs.declared.form.Form.TheVariants as asked
use Rattle.junction_run.specs.Form.{Source, ProgramFile, CodeFile, Form, Play, Compile, Sample, Audit}
-- the names of the files of a site, as the definitions see them
pub use Rattle.site_load.specs.Sites.{site_in}

-- what decides the passes of a run, as the definitions see it
abbrev pub source_in : Named → Source
source_in (named.Program word) = ProgramFile word.now
source_in (named.Code word) = CodeFile word.now

-- what the words ask for, as the definition sees it
abbrev pub form_in : Asked → Form
form_in (asked.Play source site detectors) = Play (source_in source) (site_in site) detectors.now
form_in (asked.Compile program) = Compile program.now
form_in (asked.Sample program site seed seconds) = Sample program.now (site_in site) seed seconds.count
form_in (asked.Audit log site) = Audit log.now (site_in site)
