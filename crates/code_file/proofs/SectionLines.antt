-- Lines of a section one after another, read as they are written.
use Rattle.std.proofs.Common.{◌≡◌, ◌∙◌, ℕ, zero, suc, ◌+◌, true, List, [], ◌∷◌, ◌++◌, length, Result, Ok, refl, sym, ap, subst, append_assoc}
use Rattle.std.specs.List.{flat_map}
use Rattle.code_file.specs.declared.refusal.CodeWhy.{CodeWhy}
use Rattle.code_file.specs.declared.refusal.CodeWhy.TheVariants.{Line}
use Rattle.code_file.specs.Text.{line, AllFit}
use Rattle.code_file.specs.Reading.{◌>>=◌, Place, next_line, at_line, judged_at, many_at}
use Rattle.code_file.proofs.Steps.{bind_ok, at_line_ok, ok_is}
use Rattle.code_file.proofs.Lines.{from, line_taken, line_again}
use Rattle.code_file.proofs.Cuts.{lacks}

-- a line that was read
pub record Took {A : Type 0} (judge : List ℕ → Result A CodeWhy) (p : Place) (x : A × Place) : Type 0 where
  pub text : List ℕ
  pub judged : judge text ≡ Ok x.0
  pub bytes : p.bytes ≡ line text ++ x.1.bytes

pub judged_found : {A : Type 0} (u : CodeWhy) (judge : List ℕ → Result A CodeWhy) (p : Place) (x : A × Place) → judged_at u judge p ≡ Ok x → Took judge p x
unfolding judged_at
judged_found u judge p x e =
    let a = bind_ok (next_line u p) (λ l. at_line p.number (judge l.0) >>= λ y. Ok (y, l.1)) x e in
    let b = bind_ok (at_line p.number (judge a.0.0)) (λ y. Ok (y, a.0.1)) x a.2 in
    let is : (b.0, a.0.1) ≡ x = ok_is (b.0, a.0.1) x b.2 in
    subst (λ y. Took judge p y) is (record { text = a.0.0; judged = at_line_ok p.number (judge a.0.0) b.0 b.1; bytes = line_taken u p a.0.0 a.0.1 a.1 })

pub judged_again : {A : Type 0} (u : CodeWhy) (judge : List ℕ → Result A CodeWhy) (k : ℕ) (text rest : List ℕ) (x : A) → lacks 10 text ≡ true →
    judge text ≡ Ok x →
    judged_at u judge (from k (line text ++ rest)) ≡ Ok (x, from (k + 1) rest)
unfolding judged_at
judged_again u judge k text rest x clean is =
    ap (λ r. r >>= λ l. at_line k (judge l.0) >>= λ y. Ok (y, l.1)) (line_again u k text rest clean)
    ∙ ap (λ r. at_line k r >>= λ y. Ok (y, from (k + 1) rest)) is

-- ---- many lines

-- the lines of a section: each is the text of an item that fits where it stands
pub record IsSection {S A : Type 0} (judge : S → List ℕ → Result A CodeWhy) (Fits : S → A → Type 0) (text : A → List ℕ) : Type 0 where
  pub found : (s : S) (l : List ℕ) (a : A) → judge s l ≡ Ok a → (l ≡ text a) × Fits s a
  pub again : (s : S) (a : A) → Fits s a → judge s (text a) ≡ Ok a
  pub clean : (s : S) (a : A) → Fits s a → lacks 10 (text a) ≡ true

abbrev pub lines_text : {A : Type 0} → (A → List ℕ) → List A → List ℕ
lines_text text items = flat_map (λ a. line (text a)) items

pub record TookMany {S A : Type 0} (Fits : S → A → Type 0) (after : S → A → S) (text : A → List ℕ) (n : ℕ) (s : S) (p : Place) (x : List A × Place)
    : Type 0 where
  pub bytes : p.bytes ≡ lines_text text x.0 ++ x.1.bytes
  pub count : length x.0 ≡ n
  pub fit : AllFit Fits after s x.0

pub many_found : {S A : Type 0} (judge : S → List ℕ → Result A CodeWhy) (after : S → A → S) (Fits : S → A → Type 0) (text : A → List ℕ) →
    IsSection judge Fits text →
    (n : ℕ) (s : S) (p : Place) (x : List A × Place) → many_at judge after n s p ≡ Ok x → TookMany Fits after text n s p x
unfolding many_at
many_found judge after Fits text is zero s p x e =
    subst (λ y. TookMany Fits after text 0 s p y) (ok_is ([], p) x e) (record { bytes = refl; count = refl; fit = tt })
many_found judge after Fits text is (suc n) s p x e =
    let a = bind_ok (judged_at Line (judge s) p)
    (λ first. many_at judge after n (after s first.0) first.1 >>= λ others. Ok (first.0 ∷ others.0, others.1)) x e in
    let b = bind_ok (many_at judge after n (after s a.0.0) a.0.1) (λ others. Ok (a.0.0 ∷ others.0, others.1)) x a.2 in
    let one = judged_found Line (judge s) p a.0 a.1 in
    let here = is.found s one.text a.0.0 one.judged in
    let rest = many_found judge after Fits text is n (after s a.0.0) a.0.1 b.0 b.1 in
    let parts : p.bytes ≡ (line (text a.0.0) ++ lines_text text b.0.0) ++ b.0.1.bytes
    = one.bytes ∙ ap (λ (l : List ℕ). line l ++ a.0.1.bytes) here.0 ∙ ap (λ (bs : List ℕ). line (text a.0.0) ++ bs) rest.bytes
    ∙ sym (append_assoc (line (text a.0.0)) (lines_text text b.0.0) b.0.1.bytes) in
    subst (λ y. TookMany Fits after text (suc n) s p y) (ok_is (a.0.0 ∷ b.0.0, b.0.1) x b.2)
    (record { bytes = parts; count = ap suc rest.count; fit = (here.1, rest.fit) })

pub many_again : {S A : Type 0} (judge : S → List ℕ → Result A CodeWhy) (after : S → A → S) (Fits : S → A → Type 0) (text : A → List ℕ) →
    IsSection judge Fits text →
    (items : List A) (s : S) (k : ℕ) (rest : List ℕ) → AllFit Fits after s items →
    (q : ℕ) × (many_at judge after (length items) s (from k (lines_text text items ++ rest)) ≡ Ok (items, from q rest))
unfolding many_at
many_again judge after Fits text is [] s k rest fit = (k, refl)
many_again judge after Fits text is (a ∷ items) s k rest fit =
    let one = judged_again Line (judge s) k (text a) (lines_text text items ++ rest) a (is.clean s a fit.0) (is.again s a fit.0) in
    let others = many_again judge after Fits text is items (after s a) (k + 1) rest fit.1 in
    let regrouped : (line (text a) ++ lines_text text items) ++ rest ≡ line (text a) ++ (lines_text text items ++ rest) =
    append_assoc (line (text a)) (lines_text text items) rest in (
      others.0,
      ap (λ bs. many_at judge after (suc (length items)) s (from k bs)) regrouped
          ∙ ap (λ r. r >>= λ first. many_at judge after (length items) (after s first.0) first.1 >>= λ more. Ok (first.0 ∷ more.0, more.1)) one
          ∙ ap (λ r. r >>= λ more. Ok (a ∷ more.0, more.1)) others.1,
    )
