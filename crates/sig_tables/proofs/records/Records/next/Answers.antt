use Rattle.std.proofs.Common.{Bor, List, ℕ, ◌∙◌, ◌∷◌, [], sym, inl, Some, arith, length-append}
use Rattle.std.proofs.lemmas.Bool.{false≢true}
use Rattle.csv.specs.Reading.{default_config, strip_bom}
use Rattle.csv.specs.Records.{fields_of}
use Rattle.csv.specs.declared.parser.State.TheVariants as st
use Rattle.csv.proofs.ReadFacts.{rows-end, rows-more}
use Rattle.sig_tables.proofs.ReadErrors.{of_memory}
use Rattle.sig_tables.proofs.Rows.{are_all}
use Rattle.sig_tables.proofs.records.Records.next.Goals as goal

pub returns-in-Ok-false : goal.returns-in-Ok-false
returns-in-Ok-false c = record {
  more = λ found. absurd (false≢true found);
  end = λ found text rows has.
      let read = rw c.in-Ok-false.field-0-test at (c.in-Ok-false.ensures.reads has.trim has.ready) in
      are_all text rows c.args.self.now.reader.state has.rest has.reached
      (rows-end (λ (s : Bor (List ℕ)). Some s.now) c.args.self.now.reader c.read_byte_record.new.self (fields_of c.read_byte_record.new.row) default_config has.rest has.config has.source read);
  memory = tt;
}

pub returns : goal.returns
returns c = record {
  more = λ found text rows has.
      let read = rw c.in-Ok-true.field-0-test at (c.in-Ok-true.ensures.reads has.trim has.ready) in
      let m = rows-more (λ (s : Bor (List ℕ)). Some s.now) c.args.self.now.reader c.read_byte_record.new.self (fields_of c.read_byte_record.new.row) default_config st.StartRecord (strip_bom text) has.rest rows has.config has.source has.reached read in
      record {
        trim = read.3 ∙ has.trim;
        ready = inl (c.in-Ok-true.ensures.ready has.trim);
        flexible = c.in-Ok-true.ensures.flexible ∙ has.flexible;
        config = read.2 ∙ has.config;
        rest = m.0;
        source = m.1;
        reached = m.2;
        number = omega (arith, has.number, length-append rows (fields_of c.read_byte_record.new.row ∷ []));
      };
  end = λ found. absurd (false≢true (sym found));
  memory = tt;
}

pub refusal_of-requires : goal.refusal_of-requires
refusal_of-requires c =
    let read = c.requires.read in
    of_memory c.in-Err.error.kind c.args.self.now.reader c.read_byte_record.new.self read.2.flexible (c.in-Err.ensures.why read.2.ready)
