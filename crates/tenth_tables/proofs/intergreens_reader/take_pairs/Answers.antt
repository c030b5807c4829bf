use Rattle.std.proofs.Common.{rules, ◌≡◌, ◌+◌, ◌∷◌, ℕ, List, arith}
use Rattle.std.proofs.lemmas.Result.{IfErr-weaker}
use Rattle.csv.specs.Records.{fields_of}
use Rattle.sig_tables.specs.Records.{table_rows}
use Rattle.sig_tables.specs.Refusals.{IsRefusal}
use Rattle.sig_tables.specs.Held.{empties}
use Rattle.tenth_tables.specs.Intergreens.{intergreens_refused}
use Rattle.tenth_tables.specs.Held.{HasPairs, HoldsPairs, ReadsPairs}
use Rattle.tenth_tables.proofs.PairsRead.{IsAccepted, accepted_next, both_ok, has_pairs, refused_last, refused_next}
use Rattle.tenth_tables.proofs.intergreens_reader.take_pairs.Goals as goal

pub next-requires-clause-number : goal.next-requires-clause-number
next-requires-clause-number c =
    let reads = c.loop-listed.invariant c.requires.begins.0 c.requires.begins.1 in
    omega (arith, reads.count)

pub next-requires-clause-read : goal.next-requires-clause-read
next-requires-clause-read c =
    let reads = c.loop-listed.invariant c.requires.begins.0 c.requires.begins.1 in
    (c.requires.begins.0, reads.header ∷ reads.rows, reads.read)

pub judge_entry-requires-clause-size : goal.judge_entry-requires-clause-size
judge_entry-requires-clause-size c =
    rw c.deref.ensures.value (c.loop-listed.invariant c.requires.begins.0 c.requires.begins.1).holds.size

pub put-requires-clause-size : goal.put-requires-clause-size
put-requires-clause-size c = (c.loop-listed.invariant c.requires.begins.0 c.requires.begins.1).holds.size

pub loop-listed-smaller : goal.loop-listed-smaller
loop-listed-smaller c =
    let text = c.requires.begins.0 in
    let reads = c.loop-listed.invariant text c.requires.begins.1 in
    let has = c.in_ok-next.ensures.more (search rules) text (reads.header ∷ reads.rows) reads.read in
    let holds : HoldsPairs c.args.plan.now reads.rows c.deref.result.now c.loop-listed.listed.pairs.items = rw c.deref.ensures.value reads.holds in
    let entry : IsAccepted c.args.plan.now c.loop-listed.listed.cells.items (fields_of c.next.new.self.row) c.in-Ok.entry.from c.in-Ok.entry.to c.in-Ok.entry.tenths = record {
      at_most = c.requires.at_most;
      pair = c.in-Ok.ensures.pair;
      first = c.in-Ok.ensures.from;
      second = c.in-Ok.ensures.to;
      other = c.in-Ok.ensures.other;
      free = rw c.deref.ensures.value at c.in-Ok.ensures.free;
      seconds = c.in-Ok.ensures.tenths;
      range = c.in-Ok.ensures.tenths_at_most;
    } in
    let next = accepted_next c.args.plan.now text c.loop-listed.records c.next.new.self c.loop-listed.listed.cells.items c.put.new.self.cells.items c.loop-listed.listed.pairs.items
    c.put.new.self.pairs.items (fields_of c.next.new.self.row) c.in-Ok.entry.from c.in-Ok.entry.to c.in-Ok.entry.tenths reads has (c.in-Ok.ensures.accepted reads.rows c.loop-listed.listed.pairs.items holds)
    entry c.in_ok-put-in-Ok.ensures.cells c.in_ok-put-in-Ok.ensures.pairs in
    let fills : empties c.put.new.self.cells.items + 1 ≡ empties c.loop-listed.listed.cells.items = next.1 in
    omega (arith, fills)

pub loop-listed-preserved : goal.loop-listed-preserved
loop-listed-preserved c = λ text begins.
    let reads = c.loop-listed.invariant text begins in
    let has = c.in_ok-next.ensures.more (search rules) text (reads.header ∷ reads.rows) reads.read in
    let holds : HoldsPairs c.args.plan.now reads.rows c.deref.result.now c.loop-listed.listed.pairs.items = rw c.deref.ensures.value reads.holds in
    let entry : IsAccepted c.args.plan.now c.loop-listed.listed.cells.items (fields_of c.next.new.self.row) c.in-Ok.entry.from c.in-Ok.entry.to c.in-Ok.entry.tenths = record {
      at_most = c.requires.at_most;
      pair = c.in-Ok.ensures.pair;
      first = c.in-Ok.ensures.from;
      second = c.in-Ok.ensures.to;
      other = c.in-Ok.ensures.other;
      free = rw c.deref.ensures.value at c.in-Ok.ensures.free;
      seconds = c.in-Ok.ensures.tenths;
      range = c.in-Ok.ensures.tenths_at_most;
    } in
    (accepted_next c.args.plan.now text c.loop-listed.records c.next.new.self c.loop-listed.listed.cells.items c.put.new.self.cells.items c.loop-listed.listed.pairs.items
    c.put.new.self.pairs.items (fields_of c.next.new.self.row) c.in-Ok.entry.from c.in-Ok.entry.to c.in-Ok.entry.tenths reads has (c.in-Ok.ensures.accepted reads.rows c.loop-listed.listed.pairs.items holds)
    entry c.in_ok-put-in-Ok.ensures.cells c.in_ok-put-in-Ok.ensures.pairs).0

pub returns-in-Err-clause-refused : goal.returns-in-Err-clause-refused
returns-in-Err-clause-refused c = λ text begins.
    let reads = c.loop-listed.invariant text begins in
    let has = c.in_ok-next.ensures.more (search rules) text (reads.header ∷ reads.rows) reads.read in
    let holds : HoldsPairs c.args.plan.now reads.rows c.deref.result.now c.loop-listed.listed.pairs.items = rw c.deref.ensures.value reads.holds in
    refused_next c.args.plan.now text c.loop-listed.records c.next.new.self c.loop-listed.listed.cells.items c.loop-listed.listed.pairs.items (fields_of c.next.new.self.row) c.in-Err.why reads has
    (c.in-Err.ensures.refused reads.rows c.loop-listed.listed.pairs.items holds)

pub judge_both_ways-requires-clause-size : goal.judge_both_ways-requires-clause-size
judge_both_ways-requires-clause-size c = (c.loop-listed.invariant c.requires.begins.0 c.requires.begins.1).holds.size

pub judge_both_ways-requires-clause-at_most : goal.judge_both_ways-requires-clause-at_most
judge_both_ways-requires-clause-at_most c =
    let reads = c.loop-listed.invariant c.requires.begins.0 c.requires.begins.1 in
    omega (arith, reads.holds.count, reads.read.number, reads.count)

pub judge_both_ways-requires-clause-inside : goal.judge_both_ways-requires-clause-inside
judge_both_ways-requires-clause-inside c = λ k lt. (c.loop-listed.invariant c.requires.begins.0 c.requires.begins.1).inside k lt

pub returns-clause-refused : goal.returns-clause-refused
returns-clause-refused c =
    IfErr-weaker c.judge_both_ways.result _
    (λ e. (text : List ℕ) → ReadsPairs c.args.plan.now text c.args.records.now c.args.listed.now.cells.items c.args.listed.now.pairs.items →
    IsRefusal (intergreens_refused c.args.plan.now (table_rows text)) e)
    (λ e refused text begins.
    let reads = c.loop-listed.invariant text begins in
    let all = c.in_ok-next.ensures.end (search rules) text (reads.header ∷ reads.rows) reads.read in
    rw (refused_last c.args.plan.now text c.loop-listed.records c.loop-listed.listed.cells.items c.loop-listed.listed.pairs.items reads all)
    (refused c.args.plan.now reads.rows reads.holds))
    c.judge_both_ways.ensures.refused

pub returns-clause-read : goal.returns-clause-read
returns-clause-read c =
    both_ok c.judge_both_ways.result _ _
    (λ x. (text : List ℕ) → ReadsPairs c.args.plan.now text c.args.records.now c.args.listed.now.cells.items c.args.listed.now.pairs.items →
    HasPairs c.args.plan.now text c.loop-listed.listed.cells.items)
    (λ x none both text begins.
    let reads = c.loop-listed.invariant text begins in
    let all = c.in_ok-next.ensures.end (search rules) text (reads.header ∷ reads.rows) reads.read in
    has_pairs c.args.plan.now text c.loop-listed.records c.loop-listed.listed.cells.items c.loop-listed.listed.pairs.items reads all
    c.requires.at_least c.requires.at_most (none c.args.plan.now reads.rows reads.holds) (both c.args.plan.now reads.rows reads.holds))
    c.judge_both_ways.ensures.none c.judge_both_ways.ensures.both
