use Rattle.std.proofs.Common.{◌≡◌, sym, ap, ◌∙◌, true}
use Rattle.std.specs.Prelude.{slice_index}
use Rattle.sig_types.specs.Text.{is_letter}
use Rattle.vap_lex.proofs.Words.{word_is}
use Rattle.vap_lex.proofs.piece.beginning.Goals as goal

pub returns-then-is_letter-clause-word : goal.returns-then-is_letter-clause-word
returns-then-is_letter-clause-word c =
    let first : is_letter (slice_index c.args.bytes.now 0) ≡ true = ap is_letter (sym c.byte_at-first.ensures.byte) ∙ sym c.is_letter.ensures ∙ c.if-is_letter.true in
    λ _. rw (c.word_len.ensures.len, c.split_at.ensures.back) (word_is c.args.bytes.now c.requires.not_empty first)
