use Rattle.std.proofs.Common.{◌≤◌, arith}
use Rattle.std.proofs.lemmas.Bool.{le-ltb, lt-ltb}
use Rattle.sig_io.proofs.Drafts.{then}
use Rattle.judge_text.proofs.line.put_green.Goals as goal

pub returns-then-second-pictures : goal.returns-then-second-pictures
returns-then-second-pictures g c =
    rw (lt-ltb c.args.second c.args.pictures c.if-second-pictures.true) (then c.put.ensures c.put_second.ensures)

pub returns-else-second-pictures : goal.returns-else-second-pictures
returns-else-second-pictures g c =
    let behind : c.args.pictures ≤ c.args.second = omega (arith, c.if-second-pictures.false) in
    rw (le-ltb c.args.second c.args.pictures behind)
    (then (then c.put-else-second-pictures.ensures c.put_second-else-second-pictures.ensures) c.put-else-second-pictures-2.ensures)
