use Rattle.signal_log.proofs.Lengths.{header_is_short, lines_are_short}
use Rattle.signal_log.proofs.LogLines.{log_has_lines, lines_begin, lines_have_no_feed}
use Rattle.signal_log.proofs.laws.log_is_read_by_lines.Goals as goal

pub returns-clause-lines : goal.returns-clause-lines
returns-clause-lines c = log_has_lines

pub returns-clause-begin : goal.returns-clause-begin
returns-clause-begin c = lines_begin

pub returns-clause-short : goal.returns-clause-short
returns-clause-short c = lines_are_short

pub returns-clause-header : goal.returns-clause-header
returns-clause-header c = header_is_short

pub returns-clause-feeds : goal.returns-clause-feeds
returns-clause-feeds c = lines_have_no_feed
