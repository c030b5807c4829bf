use Rattle.std.proofs.Common.{[], map, codes}
use Rattle.std.specs.Fmt.{decimal}
use Rattle.sig_io.proofs.Drafts.{same_put, then}
use Rattle.sig_types.specs.LogForm.{letter}
use Rattle.signal_log.specs.Log.{place_text, or_dash, count_text, counted_from, refused_texts, fault_text, record_text}
use Rattle.signal_log.proofs.Beginnings.{loud_beginning, quiet_record}
use Rattle.signal_log.proofs.Pieces.{twelve}
use Rattle.signal_log.proofs.log.put_second.Goals as goal

pub returns-then-quiet : goal.returns-then-quiet
returns-then-quiet g c =
    let quiet = c.if-quiet.true in
    same_put (quiet_record c.args.plan.now.names c.args.rec.now c.is_quiet-quiet.result quiet (c.is_quiet-quiet.ensures quiet)) c.put_piece.ensures

pub returns : goal.returns
unfolding record_text
returns g c =
    let r = c.args.rec.now in
    let head = same_put (loud_beginning r c.is_quiet-quiet.result c.if-quiet.false) c.put_piece.ensures in
    let whole = twelve [] (decimal r.second.0) (codes "|") (place_text r.place) (codes "|") (map letter r.picture) (codes "|")
    (or_dash (map count_text (counted_from 1 r.frame)))
    (codes "|") (or_dash (refused_texts c.args.plan.now.names r.stages r.turns)) (codes "|") (fault_text r.fault) (codes "\n") in
    same_put whole (then (then head c.put_counts.ensures) c.put_end.ensures)
