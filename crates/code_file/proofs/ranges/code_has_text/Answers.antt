use Rattle.std.proofs.Common.{refl, subst, arith}
use Rattle.vap_code.specs.declared.VerifyWhy.TheVariants.{Shape}
use Rattle.code_file.specs.Shape.{HasRanges}
use Rattle.code_file.proofs.TextOfShape.{shape_has_text}
use Rattle.code_file.proofs.TextLaws.{text_is_read}
use Rattle.code_file.proofs.TextLength.{text_is_short}
use Rattle.code_file.proofs.ranges.code_has_text.Goals as goal

pub returns : goal.returns
returns c =
    let shape = c.code.ensures.valid Shape 0 (omega arith) refl in
    let ranges = subst HasRanges c.code.ensures.same c.code_ranges.ensures in
    let text = shape_has_text c.args.code.now shape ranges in
    record { text = text; read = text_is_read c.args.code.now text; short = text_is_short c.args.code.now text }
