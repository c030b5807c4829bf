-- Words and files settle what a call answers that draws a log at a site, where nothing fails and memory is found.
use Rattle.report_words.specs.declared.status.Status.TheVariants.{Memory}
use Rattle.report_judged.specs.SiteCall.{IsReported}
use Rattle.laws.specs.OneShown.{SettlesAnswers}

-- Two calls of `diagram` with a site, with the same words over the same files, have one status, one text and one note: of the picture, of
-- the first file or line that is refused, of a log that ends before the seconds asked for, and of one of other groups than the plan's.
abbrev pub SiteDiagramsHaveOneAnswer : Type 0
SiteDiagramsHaveOneAnswer = SettlesAnswers Memory IsReported
