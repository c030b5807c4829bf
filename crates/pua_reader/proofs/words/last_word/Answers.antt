use Rattle.std.proofs.Common.{ℕ, ◌-◌, List, sym, ap, ◌∙◌, Bor}
use Rattle.std.proofs.lemmas.List.{length-map}
use Rattle.pua_reader.specs.Interstages.{word}
use Rattle.pua_reader.proofs.Texts.{texts}
use Rattle.pua_reader.proofs.words.last_word.Goals as goal

pub returns : goal.returns
returns c = c.word_at.ensures ∙ ap (λ (n : ℕ). word (texts c.args.words.now) (n - 1)) (sym (length-map c.args.words.now (λ (w : Bor (List ℕ)). w.now)))
