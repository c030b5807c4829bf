-- How calls end that judge a log.
use Rattle.std.specs.Prelude.{ℕ}
use Rattle.site_load.specs.declared.stop.SiteStop.{SiteStop}
use Rattle.site_load.specs.declared.stop.SiteStop.TheVariants as site
use Rattle.report_words.specs.declared.status.Status.{Status}
use Rattle.report_words.specs.declared.status.Status.TheVariants as status
use Rattle.report_words.specs.declared.stop.JudgeStop.{JudgeStop}
use Rattle.report_words.specs.declared.stop.JudgeStop.TheVariants.{Words, Memory, Site, ReadFault, RefusedLine, WriteFault}

-- the exit status
abbrev pub exit_number : Status → ℕ
exit_number status.Done = 0
exit_number status.Broken = 1
exit_number status.Memory = 1
exit_number status.Words = 2
exit_number status.ReadFault = 3
exit_number status.WriteFault = 4
exit_number status.Refused = 5
exit_number status.TooLong = 7

-- how a call ends that took no site
abbrev pub site_status : SiteStop → Status
site_status site.Memory = status.Memory
site_status (site.ReadFault word) = status.ReadFault
site_status (site.Refused word line reason) = status.Refused
site_status (site.TooLong word) = status.TooLong

-- how a call ends that stopped
abbrev pub status_of : JudgeStop → Status
status_of Words = status.Words
status_of Memory = status.Memory
status_of (Site stop) = site_status stop
status_of (ReadFault word) = status.ReadFault
status_of (RefusedLine word line why) = status.Refused
status_of WriteFault = status.WriteFault
