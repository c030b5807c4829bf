use Rattle.std.proofs.Common.{rules, ◌∷◌, arith}
use Rattle.csv.specs.Records.{fields_of}
use Rattle.tenth_tables.proofs.TimesRead.{refused_next, accepted_next, refused_last}
use Rattle.tenth_tables.proofs.times_reader.take_times.Goals as goal

pub loop-held-init : goal.loop-held-init
loop-held-init c = λ text begins. begins

pub next-requires-clause-number : goal.next-requires-clause-number
next-requires-clause-number c =
    let reads = c.loop-held.invariant c.requires.begins.0 c.requires.begins.1 in
    omega (arith, reads.count, reads.at_most)

pub next-requires-clause-read : goal.next-requires-clause-read
next-requires-clause-read c =
    let reads = c.loop-held.invariant c.requires.begins.0 c.requires.begins.1 in
    (c.requires.begins.0, reads.header ∷ reads.rows, reads.read)

pub add_times-requires-clause-groups : goal.add_times-requires-clause-groups
add_times-requires-clause-groups c = (c.loop-held.invariant c.requires.begins.0 c.requires.begins.1).holds.size

pub returns-in-Err-clause-refused : goal.returns-in-Err-clause-refused
returns-in-Err-clause-refused c = λ text begins.
    let reads = c.loop-held.invariant text begins in
    let has = c.in_ok-next.ensures.more (search rules) text (reads.header ∷ reads.rows) reads.read in
    refused_next c.args.plan.now c.args.fields text c.loop-held.records c.next.new.self c.loop-held.held (fields_of c.next.new.self.row) c.in-Err.why reads has
    (c.in-Err.ensures.refused reads.rows reads.holds)

pub loop-held-preserved : goal.loop-held-preserved
loop-held-preserved c = λ text begins.
    let reads = c.loop-held.invariant text begins in
    let has = c.in_ok-next.ensures.more (search rules) text (reads.header ∷ reads.rows) reads.read in
    accepted_next c.args.plan.now c.args.fields text c.loop-held.records c.next.new.self c.loop-held.held c.add_times.new.held (fields_of c.next.new.self.row) reads has
    (c.in_default.ensures.accepted reads.rows reads.holds) (c.in_default.ensures.held reads.rows reads.holds) c.in_default.ensures.fills

pub returns-clause-read : goal.returns-clause-read
returns-clause-read c = λ text begins.
    let reads = c.loop-held.invariant text begins in
    let all = c.in_ok-next.ensures.end (search rules) text (reads.header ∷ reads.rows) reads.read in
    record {
      header = reads.header;
      rows = reads.rows;
      all = all;
      holds = reads.holds;
      refused = refused_last c.args.plan.now c.args.fields text c.loop-held.records c.loop-held.held reads all;
    }
