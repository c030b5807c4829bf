use Rattle.std.proofs.Common.{◌+◌, ◌≤◌, ◌++◌, [], length, take, drop, get_or, refl, sym, arith}
use Rattle.sig_io.proofs.Drafts.{nothing, same_put, then}
use Rattle.tenth_report.specs.declared.search.JudgedPart.{JudgedPart}
use Rattle.tenth_report.specs.Kept.{counted, kept_text}
use Rattle.tenth_report.specs.Told.{part_text}
use Rattle.tenth_report.proofs.KeptParts.{first_left, none_told, own_count, told_more}
use Rattle.tenth_report.proofs.text.put_parts.Goals as goal

pub loop-part-init : goal.loop-part-init
loop-part-init g c = record { done = []; put = nothing; left = refl; enough = c.requires }

pub split_at-requires : goal.split_at-requires
split_at-requires g c =
    let none : JudgedPart = record { first = 0; tenths = 0; count = 0 } in
    let i = c.loop-part.part-index in
    let parts = c.args.parts.now in
    omega (arith, own_count parts i (length c.loop-part.rest.now) (get_or parts i none) (first_left parts i none c.loop-part-test.true) c.loop-part.invariant.enough)

pub loop-part-preserved : goal.loop-part-preserved
loop-part-preserved g c =
    let none : JudgedPart = record { first = 0; tenths = 0; count = 0 } in
    let i = c.loop-part.part-index in
    let parts = c.args.parts.now in
    let part = get_or parts i none in
    let rest = c.loop-part.rest.now in
    let before = c.loop-part.invariant in
    let first = first_left parts i none c.loop-part-test.true in
    let own : part.count + counted (drop (i + 1) parts) ≤ length rest = own_count parts i (length rest) part first before.enough in
    record {
      done = before.done ++ part_text c.args.csv c.args.plan.now.names part.first part.tenths (take part.count rest);
      put = then before.put (rw c.split_at.ensures.front at c.put_part.ensures);
      left = rw c.split_at.ensures.back
          (told_more c.args.csv c.args.plan.now.names parts i part rest (kept_text c.args.csv c.args.plan.now.names parts c.args.found.now) before.done first before.left);
      enough = omega (arith, own, c.split_at.ensures.back_len);
    }

pub returns : goal.returns
returns g c =
    let i = c.loop-part.invariant in
    same_put
    (sym (none_told c.args.csv c.args.plan.now.names c.args.parts.now c.loop-part.part-index c.loop-part.rest.now
    (kept_text c.args.csv c.args.plan.now.names c.args.parts.now c.args.found.now) i.done c.loop-part-test.false i.left))
    i.put
