use Rattle.std.proofs.Common.{◌≡◌, ℕ, ◌+◌, ◌<◌, true, false, List, [], ◌∷◌, length, take, ◌++◌, get_or, sym, ap, ◌∙◌, arith, Bor}
use Rattle.std.proofs.lemmas.List.{length-map, take_more, get_or-map}
use Rattle.std.proofs.Common.{Vec, Global}
use Rattle.std.specs.List.{list_any}
use Rattle.std.specs.BTreeMap.{is_at}
use Rattle.pua_model.specs.Plan.{are_apart, stands_in}
use Rattle.pua_reader.specs.Words.{Text}
use Rattle.pua_reader.proofs.Small.{apart_push}
use Rattle.pua_reader.proofs.Texts.{texts}
use Rattle.pua_reader.proofs.Lowered.{low, key_stands, keys_more, not_not, not_new, twice_at, by_text}
use Rattle.pua_reader.proofs.twins.are_apart.Goals as goal

pub returns-in-Ok-false : goal.returns-in-Ok-false
returns-in-Ok-false c =
    let i : ℕ = c.loop-word.word-index in
    let word : Bor (List ℕ) = get_or c.args.words.now i (record { ref_ptr = (0, 0); now = [] }) in
    let lt : i < length (texts c.args.words.now) = omega (arith, c.loop-word-test.true, length-map c.args.words.now (λ (w : Bor (List ℕ)). w.now)) in
    let small : c.in_ok-key.key.items ≡ low word.now = c.in_ok-key.ensures in
    let found : list_any (is_at (by_text (λ (k : Vec ℕ Global). k.items) c.in_ok-key.key)) c.loop-word.seen.keys ≡ true =
    not_not _ (sym c.in-Ok-false.field-0-test ∙ c.in-Ok-false.ensures.added) in
    let stands : stands_in word.now (take i (texts c.args.words.now)) ≡ true =
    sym (key_stands (λ (k : Vec ℕ Global). k.items) c.loop-word.seen.keys c.in_ok-key.key word.now (take i (texts c.args.words.now))
    c.loop-word.invariant.known small) ∙ found in
    sym (twice_at (texts c.args.words.now) i word.now lt
    (get_or-map (λ (w : Bor (List ℕ)). w.now) c.args.words.now i (record { ref_ptr = (0, 0); now = [] }) [] c.loop-word-test.true) stands)

pub loop-word-preserved : goal.loop-word-preserved
loop-word-preserved c =
    let i : ℕ = c.loop-word.word-index in
    let ws : List Text = texts c.args.words.now in
    let word : Bor (List ℕ) = get_or c.args.words.now i (record { ref_ptr = (0, 0); now = [] }) in
    let lt : i < length ws = omega (arith, c.loop-word-test.true, length-map c.args.words.now (λ (w : Bor (List ℕ)). w.now)) in
    let here : get_or ws i [] ≡ word.now = get_or-map (λ (w : Bor (List ℕ)). w.now) c.args.words.now i (record { ref_ptr = (0, 0); now = [] }) []
    c.loop-word-test.true in
    let more : take (i + 1) ws ≡ take i ws ++ word.now ∷ [] = take_more ws i [] lt ∙ ap (λ (x : Text). take i ws ++ x ∷ []) here in
    let small : c.in_ok-key.key.items ≡ low word.now = c.in_ok-key.ensures in
    let free : list_any (is_at (by_text (λ (k : Vec ℕ Global). k.items) c.in_ok-key.key)) c.loop-word.seen.keys ≡ false =
    not_new _ (sym c.in-Ok-true.field-0-test ∙ c.in-Ok-true.ensures.added) in
    let new : stands_in word.now (take i ws) ≡ false =
    sym (key_stands (λ (k : Vec ℕ Global). k.items) c.loop-word.seen.keys c.in_ok-key.key word.now (take i ws) c.loop-word.invariant.known small) ∙ free in
    record {
      apart = ap are_apart more ∙ apart_push (take i ws) word.now c.loop-word.invariant.apart new;
      known = λ cs. rw (c.in-Ok-true.ensures.keys, more)
          (keys_more (λ (k : Vec ℕ Global). k.items) c.loop-word.seen.keys c.in_ok-key.key word.now (take i ws) c.loop-word.invariant.known small free cs);
    }
