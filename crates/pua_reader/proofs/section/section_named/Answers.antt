use Rattle.std.proofs.Common.{◌≡◌, true, false, refl, sym, ◌∙◌}
use Rattle.std.specs.Prelude.{codes}
use Rattle.sig_types.specs.Text.{same_name}
use Rattle.pua_reader.specs.Words.{section_named, is_interstage_word}
use Rattle.pua_reader.proofs.section.section_named.Goals as goal

pub returns-then-same_name : goal.returns-then-same_name
unfolding section_named
returns-then-same_name c =
    let e : same_name c.args.word.now (codes "signal_groups") ≡ true = sym c.same_name.ensures ∙ c.if-same_name.true in
    rw e refl

pub returns-else-same_name-4 : goal.returns-else-same_name-4
unfolding section_named
returns-else-same_name-4 c =
    let a : same_name c.args.word.now (codes "signal_groups") ≡ false = sym c.if-same_name.ensures in
    let b : same_name c.args.word.now (codes "stages") ≡ false = sym c.if-same_name-2.ensures in
    let d : same_name c.args.word.now (codes "starting_stage") ≡ false = sym c.if-same_name-3.ensures in
    let e : is_interstage_word c.args.word.now ≡ false = sym c.if-is_interstage.ensures in
    let f : same_name c.args.word.now (codes "end") ≡ false = sym c.if-same_name-4.ensures in
    rw (a, b, d, e, f) refl
