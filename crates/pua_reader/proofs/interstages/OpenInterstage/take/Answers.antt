use Rattle.std.proofs.Common.{ℕ, List, ◌∙◌, arith, Bor}
use Rattle.std.proofs.lemmas.List.{length-map}
use Rattle.pua_reader.specs.declared.form.Form.TheVariants as form
use Rattle.pua_reader.proofs.Texts.{texts}
use Rattle.pua_reader.proofs.Forms.{form_gives}
use Rattle.pua_reader.proofs.interstages.OpenInterstage.take.Goals as goal

pub length_of-requires : goal.length_of-requires
length_of-requires c =
    let facts = form_gives (texts c.args.words.now) form.Length (c.requires.form ∙ c.in-Length.is) in
    rw c.last_word.ensures facts.1

pub last_word-requires : goal.last_word-requires
last_word-requires c =
    let facts = form_gives (texts c.args.words.now) form.Length (c.requires.form ∙ c.in-Length.is) in
    omega (arith, facts.0, length-map c.args.words.now (λ (w : Bor (List ℕ)). w.now))

pub word_at-requires-in-Ends-2 : goal.word_at-requires-in-Ends-2
word_at-requires-in-Ends-2 c =
    let facts = form_gives (texts c.args.words.now) form.Ends (c.requires.form ∙ c.in-Ends.is) in
    omega (arith, facts.0, length-map c.args.words.now (λ (w : Bor (List ℕ)). w.now))

pub ends_of-requires-clause-red_end : goal.ends_of-requires-clause-red_end
ends_of-requires-clause-red_end c =
    let facts = form_gives (texts c.args.words.now) form.Ends (c.requires.form ∙ c.in-Ends.is) in
    rw c.word_at-in-Ends.ensures facts.1

pub ends_of-requires-clause-green_end : goal.ends_of-requires-clause-green_end
ends_of-requires-clause-green_end c =
    let facts = form_gives (texts c.args.words.now) form.Ends (c.requires.form ∙ c.in-Ends.is) in
    rw c.word_at-in-Ends-2.ensures facts.2
