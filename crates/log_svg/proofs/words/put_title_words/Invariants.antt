use Rattle.std.proofs.Common.{take}
use Rattle.sig_io.specs.Draft.{Puts}
use Rattle.log_svg.specs.Words.{title_words}
use Rattle.log_svg.proofs.words.put_title_words.Given as goal

abbrev pub invariant-loop-byte : goal.invariant-loop-byte
invariant-loop-byte g l =
    Puts g.O.Sink.taken g.O.Sink.faults l.fn.draft l.draft l.fn.sink l.sink (title_words (take l.byte-index l.title))
