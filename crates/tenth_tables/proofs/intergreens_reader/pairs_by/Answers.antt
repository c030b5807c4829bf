use Rattle.std.proofs.Common.{ℕ, List}
use Rattle.std.proofs.lemmas.Result.{IfErr-weaker, IfOk-weaker}
use Rattle.sig_tables.specs.declared.header.Table.TheVariants.{Intergreens}
use Rattle.sig_tables.specs.Records.{table_rows}
use Rattle.sig_tables.specs.Refusals.{IsRefusal}
use Rattle.tenth_tables.specs.Intergreens.{intergreens_refused}
use Rattle.tenth_tables.specs.Held.{HasHeader, HasPairs}
use Rattle.tenth_tables.proofs.PairsRead.{begun}
use Rattle.tenth_tables.proofs.intergreens_reader.pairs_by.Goals as goal

pub take_pairs-requires-clause-begins : goal.take_pairs-requires-clause-begins
take_pairs-requires-clause-begins c =
    let h = c.requires.begins.1 in (
      c.requires.begins.0,
      begun c.args.plan.now c.requires.begins.0 c.args.records.now c.args.listed.now.cells.items c.args.listed.now.pairs.items
          h.0 h.1.0 h.1.1 c.requires.none,
    )

pub returns-clause-refused : goal.returns-clause-refused
returns-clause-refused c =
    IfErr-weaker c.take_pairs.result _
    (λ e. (text : List ℕ) → HasHeader Intergreens c.args.records.now text → IsRefusal (intergreens_refused c.args.plan.now (table_rows text)) e)
    (λ e refused text h. refused text (begun c.args.plan.now text c.args.records.now c.args.listed.now.cells.items c.args.listed.now.pairs.items
    h.0 h.1.0 h.1.1 c.requires.none))
    c.take_pairs.ensures.refused

pub returns-clause-read : goal.returns-clause-read
returns-clause-read c =
    IfOk-weaker c.take_pairs.result _
    (λ x. (text : List ℕ) → HasHeader Intergreens c.args.records.now text → HasPairs c.args.plan.now text c.take_pairs.new.listed.cells.items)
    (λ x read text h. read text (begun c.args.plan.now text c.args.records.now c.args.listed.now.cells.items c.args.listed.now.pairs.items
    h.0 h.1.0 h.1.1 c.requires.none))
    c.take_pairs.ensures.read
