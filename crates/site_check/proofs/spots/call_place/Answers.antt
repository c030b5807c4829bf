use Rattle.std.proofs.Common.{◌≡◌, ◌∙◌, ap, cond, false, sym}
use Rattle.site_check.specs.Spots.{argument_spot, call_spot, is_of_word}
use Rattle.site_check.specs.Statements.{lines_of}
use Rattle.site_check.proofs.spots.call_place.Goals as goal

pub returns-else-is_of_word : goal.returns-else-is_of_word
returns-else-is_of_word c =
    let text = c.args.text.now in
    let tokens = c.args.program.now.tokens in
    let lines = lines_of c.args.program.now.checked in
    let names = c.args.program.now.checked.names in
    let w = c.args.wanted in
    let no : is_of_word c.args.warning.now ≡ false = sym c.is_of_word.ensures ∙ c.if-is_of_word.false in
    c.argument_spot.ensures
    ∙ (ap (λ b. argument_spot text tokens lines names w.line w.kind b w.value) c.requires.first
    ∙ sym (ap (λ b. cond b (call_spot text tokens lines names w.line w.kind w.value)
    (argument_spot text tokens lines names w.line w.kind false w.value)) no))
