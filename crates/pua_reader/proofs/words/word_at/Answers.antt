use Rattle.std.proofs.Common.{ℕ, List, [], sym, Bor}
use Rattle.std.proofs.lemmas.List.{get_or-map}
use Rattle.pua_reader.proofs.words.word_at.Goals as goal

pub returns : goal.returns
returns c = sym (get_or-map (λ (w : Bor (List ℕ)). w.now) c.args.words.now c.args.place (record { ref_ptr = (0, 0); now = [] }) [] c.requires)
