use Rattle.std.proofs.Common.{rules, ◌≡◌, ◌∙◌, ◌+◌, ◌∷◌, arith}
use Rattle.std.proofs.lemmas.Result.{err_from_is_err_and}
use Rattle.csv.specs.Records.{fields_of}
use Rattle.sig_tables.specs.Records.{table_rows}
use Rattle.sig_tables.specs.Held.{HoldsPairs, empties}
use Rattle.sig_tables.proofs.PairsRead.{IsAccepted, begun, refused_header, refused_next, accepted_next, refused_last, last_seconds, are_pairs}
use Rattle.sig_tables.proofs.intergreens_reader.read_intergreens.Goals as goal

pub returns-in_err-records-clause-refused : goal.returns-in_err-records-clause-refused
returns-in_err-records-clause-refused c =
    let p = err_from_is_err_and c.from_residual.result c.from_residual.ensures.1 in
    rw (p.1, p.2) (refused_header c.args.plan.now (table_rows c.args.bytes.now) c.in_err-records.field-0.0 c.in_err-records.ensures.refused)

pub loop-listed-init : goal.loop-listed-init
loop-listed-init c =
    let read = c.in_ok-records.ensures.read in
    begun c.args.plan.now c.args.bytes.now c.in_ok-records.records c.in_ok-no_cells.field-0.items c.new.result.items read.0 read.1.0 read.1.1
    c.in_ok-no_cells.ensures.size c.in_ok-no_cells.ensures.empty c.in_ok-no_cells.ensures.empties c.new.ensures.items

pub loop-listed-smaller : goal.loop-listed-smaller
loop-listed-smaller c =
    let reads = c.loop-listed.invariant in
    let has = c.in_ok-next.ensures.more (search rules) c.args.bytes.now (reads.header ∷ reads.rows) reads.read in
    let holds : HoldsPairs c.args.plan.now reads.rows c.deref.result.now c.loop-listed.listed.pairs.items = rw c.deref.ensures.value reads.holds in
    let entry : IsAccepted c.args.plan.now c.loop-listed.listed.cells.items (fields_of c.next.new.self.row) c.in-Ok.entry.from c.in-Ok.entry.to c.in-Ok.entry.seconds = record {
      at_most = c.groups-groups.ensures.plan.groups_at_most;
      pair = c.in-Ok.ensures.pair;
      first = c.in-Ok.ensures.from;
      second = c.in-Ok.ensures.to;
      other = c.in-Ok.ensures.other;
      free = rw c.deref.ensures.value at c.in-Ok.ensures.free;
      seconds = c.in-Ok.ensures.seconds;
      range = c.in-Ok.ensures.seconds_at_most;
    } in
    let next = accepted_next c.args.plan.now c.args.bytes.now c.loop-listed.records c.next.new.self c.loop-listed.listed.cells.items c.put.new.self.cells.items c.loop-listed.listed.pairs.items
    c.put.new.self.pairs.items (fields_of c.next.new.self.row) c.in-Ok.entry.from c.in-Ok.entry.to c.in-Ok.entry.seconds reads has (c.in-Ok.ensures.accepted reads.rows c.loop-listed.listed.pairs.items holds)
    entry c.in_ok-put-in-Ok.ensures.cells c.in_ok-put-in-Ok.ensures.pairs in
    let fills : empties c.put.new.self.cells.items + 1 ≡ empties c.loop-listed.listed.cells.items = next.1 in
    omega (arith, fills)

pub loop-listed-preserved : goal.loop-listed-preserved
loop-listed-preserved c =
    let reads = c.loop-listed.invariant in
    let has = c.in_ok-next.ensures.more (search rules) c.args.bytes.now (reads.header ∷ reads.rows) reads.read in
    let holds : HoldsPairs c.args.plan.now reads.rows c.deref.result.now c.loop-listed.listed.pairs.items = rw c.deref.ensures.value reads.holds in
    let entry : IsAccepted c.args.plan.now c.loop-listed.listed.cells.items (fields_of c.next.new.self.row) c.in-Ok.entry.from c.in-Ok.entry.to c.in-Ok.entry.seconds = record {
      at_most = c.groups-groups.ensures.plan.groups_at_most;
      pair = c.in-Ok.ensures.pair;
      first = c.in-Ok.ensures.from;
      second = c.in-Ok.ensures.to;
      other = c.in-Ok.ensures.other;
      free = rw c.deref.ensures.value at c.in-Ok.ensures.free;
      seconds = c.in-Ok.ensures.seconds;
      range = c.in-Ok.ensures.seconds_at_most;
    } in
    (accepted_next c.args.plan.now c.args.bytes.now c.loop-listed.records c.next.new.self c.loop-listed.listed.cells.items c.put.new.self.cells.items c.loop-listed.listed.pairs.items
    c.put.new.self.pairs.items (fields_of c.next.new.self.row) c.in-Ok.entry.from c.in-Ok.entry.to c.in-Ok.entry.seconds reads has (c.in-Ok.ensures.accepted reads.rows c.loop-listed.listed.pairs.items holds)
    entry c.in_ok-put-in-Ok.ensures.cells c.in_ok-put-in-Ok.ensures.pairs).0

pub returns-in-Err-clause-refused : goal.returns-in-Err-clause-refused
returns-in-Err-clause-refused c =
    let reads = c.loop-listed.invariant in
    let has = c.in_ok-next.ensures.more (search rules) c.args.bytes.now (reads.header ∷ reads.rows) reads.read in
    let holds : HoldsPairs c.args.plan.now reads.rows c.deref.result.now c.loop-listed.listed.pairs.items = rw c.deref.ensures.value reads.holds in
    refused_next c.args.plan.now c.args.bytes.now c.loop-listed.records c.next.new.self c.loop-listed.listed.cells.items c.loop-listed.listed.pairs.items (fields_of c.next.new.self.row) c.in-Err.why reads has
    (c.in-Err.ensures.refused reads.rows c.loop-listed.listed.pairs.items holds)

pub returns-in_err-judge_both_ways-clause-refused : goal.returns-in_err-judge_both_ways-clause-refused
returns-in_err-judge_both_ways-clause-refused c =
    let reads = c.loop-listed.invariant in
    let all = c.in_ok-next.ensures.end (search rules) c.args.bytes.now (reads.header ∷ reads.rows) reads.read in
    let last = refused_last c.args.plan.now c.args.bytes.now c.loop-listed.records c.loop-listed.listed.cells.items c.loop-listed.listed.pairs.items reads all in
    let p = err_from_is_err_and c.from_residual-in_err-judge_both_ways.result c.from_residual-in_err-judge_both_ways.ensures.1 in
    rw (p.1, p.2, last) (c.in_err-judge_both_ways.ensures.refused c.args.plan.now reads.rows reads.holds)

pub of-requires : goal.of-requires
of-requires c =
    let reads = c.loop-listed.invariant in
    rw c.groups-groups.ensures.count (are_pairs c.args.plan.now reads.rows c.loop-listed.listed.cells.items c.loop-listed.listed.pairs.items reads.holds c.groups-groups.ensures.plan.has_groups
    c.groups-groups.ensures.plan.groups_at_most (c.in_ok-judge_both_ways.ensures.both c.args.plan.now reads.rows reads.holds))

pub returns-clause-accepted : goal.returns-clause-accepted
returns-clause-accepted c =
    let reads = c.loop-listed.invariant in
    let all = c.in_ok-next.ensures.end (search rules) c.args.bytes.now (reads.header ∷ reads.rows) reads.read in
    refused_last c.args.plan.now c.args.bytes.now c.loop-listed.records c.loop-listed.listed.cells.items c.loop-listed.listed.pairs.items reads all
    ∙ c.in_ok-judge_both_ways.ensures.none c.args.plan.now reads.rows reads.holds

pub returns-clause-seconds : goal.returns-clause-seconds
returns-clause-seconds c =
    let reads = c.loop-listed.invariant in
    let all = c.in_ok-next.ensures.end (search rules) c.args.bytes.now (reads.header ∷ reads.rows) reads.read in
    rw c.of.ensures (last_seconds c.args.plan.now c.args.bytes.now c.loop-listed.listed.cells.items c.loop-listed.listed.pairs.items reads.header reads.rows reads.holds all)

pub next-requires-clause-read : goal.next-requires-clause-read
next-requires-clause-read c = let reads = c.loop-listed.invariant in (c.args.bytes.now, (reads.header ∷ reads.rows), reads.read)
