use Rattle.std.proofs.Common.{rules, ◌≡◌, ◌∙◌, ◌∷◌, [], ap, false, true, sym, length}
use Rattle.std.proofs.lemmas.List.{length-replicate}
use Rattle.csv.specs.Records.{fields_of}
use Rattle.sig_tables.specs.declared.refusal.TableWhy.TheVariants as why
use Rattle.sig_tables.specs.Records.{is_header}
use Rattle.table_check.specs.Refused.{headers_in}
use Rattle.table_check.proofs.Notes.{seen_none}
use Rattle.table_check.proofs.Passed.{begun, no_header, no_record}
use Rattle.table_check.proofs.refused.put_all.Goals as goal
use Rattle.table_check.proofs.refused.put_all.Goals.{then-not-branch-via-then-not-branch, then-not-branch-via-else-not-branch+then-not-is_header}

pub returns-then-not-branch : goal.returns-then-not-branch
returns-then-not-branch c = λ text has.
    let pushed : c.push.new.self.items ≡ (1, why.Header) ∷ [] = search rules in
    elim c.then-not-branch.branch [
      | then-not-branch-via-then-not-branch w ↦
          let found : c.in_ok-next.field-0 ≡ false = search rules in
          pushed ∙ no_record c.args.plan.now c.args.table text (c.in_ok-next.ensures.end found text [] has)
      | then-not-branch-via-else-not-branch+then-not-is_header w ↦
          let found : c.in_ok-next.field-0 ≡ true = search rules in
          let read = c.in_ok-next.ensures.more found text [] has in
          let wrong : is_header (headers_in c.args.table) (fields_of c.next.new.self.row) ≡ false = sym w.is_header.ensures ∙ search rules in
          pushed ∙ no_header c.args.plan.now c.args.table text c.next.new.self (fields_of c.next.new.self.row) read wrong
    ]

pub put_each-requires : goal.put_each-requires
put_each-requires c =
    let found : c.in_ok-next.field-0 ≡ true = search rules in
    let read = c.in_ok-next.ensures.more found c.requires.read.0 [] c.requires.read.1 in
    let right : is_header (headers_in c.args.table) (fields_of c.next.new.self.row) ≡ true = sym c.is_header.ensures ∙ search rules in (
      c.requires.read.0,
      rw c.deref_mut.ensures.value (begun c.args.plan.now c.args.table c.requires.read.0 c.next.new.self c.len-fields.result c.in_ok-seen.seen.items
          (fields_of c.next.new.self.row) c.args.refused.now.items read right (sym c.len-fields.ensures)
          (seen_none c.args.plan.now c.args.table c.in_ok-seen.seen.items c.in_ok-seen.ensures)
          (ap length c.in_ok-seen.ensures ∙ length-replicate 4096 false) c.requires.none),
    )

pub returns : goal.returns
returns c = λ text has.
    let found : c.in_ok-next.field-0 ≡ true = search rules in
    let read = c.in_ok-next.ensures.more found text [] has in
    let right : is_header (headers_in c.args.table) (fields_of c.next.new.self.row) ≡ true = sym c.is_header.ensures ∙ search rules in
    c.in_ok-put_each.ensures text (rw c.deref_mut.ensures.value (begun c.args.plan.now c.args.table text c.next.new.self c.len-fields.result c.in_ok-seen.seen.items
    (fields_of c.next.new.self.row) c.args.refused.now.items read right (sym c.len-fields.ensures)
    (seen_none c.args.plan.now c.args.table c.in_ok-seen.seen.items c.in_ok-seen.ensures)
    (ap length c.in_ok-seen.ensures ∙ length-replicate 4096 false) c.requires.none))
