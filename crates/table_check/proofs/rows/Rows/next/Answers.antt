use Rattle.std.proofs.Common.{Bor, List, ℕ, ◌∙◌, inl, Some}
use Rattle.csv.specs.Reading.{default_config, strip_bom}
use Rattle.csv.specs.Records.{fields_of}
use Rattle.csv.specs.declared.parser.State.TheVariants as st
use Rattle.csv.proofs.ReadFacts.{rows-end, rows-more}
use Rattle.sig_tables.proofs.ReadErrors.{of_memory}
use Rattle.sig_tables.proofs.Rows.{are_all}
use Rattle.table_check.proofs.rows.Rows.next.Goals as goal

pub returns-in-Ok-clause-more : goal.returns-in-Ok-clause-more
returns-in-Ok-clause-more c = λ found text rows has.
    let read = rw found at (c.in-Ok.ensures.reads has.trim has.ready) in
    let m = rows-more (λ (s : Bor (List ℕ)). Some s.now) c.args.self.now.reader c.read_byte_record.new.self (fields_of c.read_byte_record.new.row) default_config st.StartRecord (strip_bom text) has.rest rows has.config has.source has.reached read in
    record {
      trim = read.3 ∙ has.trim;
      ready = inl (c.in-Ok.ensures.ready has.trim);
      flexible = c.in-Ok.ensures.flexible ∙ has.flexible;
      config = read.2 ∙ has.config;
      rest = m.0;
      source = m.1;
      reached = m.2;
    }

pub returns-in-Ok-clause-end : goal.returns-in-Ok-clause-end
returns-in-Ok-clause-end c = λ found text rows has.
    let read = rw found at (c.in-Ok.ensures.reads has.trim has.ready) in
    are_all text rows c.args.self.now.reader.state has.rest has.reached
    (rows-end (λ (s : Bor (List ℕ)). Some s.now) c.args.self.now.reader c.read_byte_record.new.self (fields_of c.read_byte_record.new.row) default_config has.rest has.config has.source read)

pub memory_of-requires : goal.memory_of-requires
memory_of-requires c =
    let read = c.requires in
    of_memory c.in-Err.error.kind c.args.self.now.reader c.read_byte_record.new.self read.2.flexible (c.in-Err.ensures.why read.2.ready)
