-- Words and files settle what is judged of a record in tenths of a second, where nothing fails and memory is found.
use Rattle.report_words.specs.declared.status.Status.TheVariants.{Memory}
use Rattle.tenth_report.specs.Calls.{IsReported}
use Rattle.laws.specs.OneShown.{SettlesAnswers}

-- Two calls of `breaches`, or of `protocol`, with the same words over the same record and tables have one status, one text and one
-- note: of all parts of the record, of the first table that is refused, and of the first line of the record.
abbrev pub RecordsHaveOneAnswer : Type 0
RecordsHaveOneAnswer = SettlesAnswers Memory IsReported
