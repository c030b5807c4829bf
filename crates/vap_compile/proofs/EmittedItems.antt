-- Items that are emitted one after another.
use Rattle.std.proofs.Common.{◌≡◌, ℕ, ◌+◌, List, [], ◌∷◌, ◌++◌, length, ap, ◌∙◌, arith, append_assoc, length-append}
use Rattle.vap_ast.specs.declared.name.Entry.{Entry}
use Rattle.vap_ast.specs.Syntax as s
use Rattle.vap_code.specs.declared.Instr.{Instr}
use Rattle.vap_ast.specs.Sizes.{expr_size, item_size, items_size}
use Rattle.vap_compile.specs.Layout.{expr_code, item_code, items_code, stmt_code}
use Rattle.vap_compile.proofs.Joined.{one_more}
use Rattle.vap_code.specs.declared.Instr.TheVariants.{Tick, Jump, JumpZero}
use Rattle.vap_compile.proofs.Lengths.{expr_length, item_length, items_length}

module _ (names : List Entry) (labels : List ℕ → ℕ) where
  pub emitted : (code more whole : List Instr) (item : s.Item) (rest : s.Items)
      → more ≡ code ++ item_code names labels (length code) item
      → code ++ items_code names labels (length code) (s.Items.next item rest) ≡ whole → more
      ++ items_code names labels (length more) rest ≡ whole
  emitted code more whole item rest e h =
      let part = item_code names labels (length code) item in
      let long : length more ≡ length code + item_size item =
      omega (arith, ap length e, length-append code part, item_length names labels (length code) item) in
      ap (λ n. more ++ items_code names labels n rest) long
      ∙ ap (λ c. c ++ items_code names labels (length code + item_size item) rest) e
      ∙ append_assoc code part (items_code names labels (length code + item_size item) rest)
      ∙ h

  pub emitted_length : (code more : List Instr) (whole : ℕ) (item : s.Item) (rest : s.Items)
      → more ≡ code ++ item_code names labels (length code) item
      → length code + items_size (s.Items.next item rest) ≡ whole → length more + items_size rest ≡ whole
  emitted_length code more whole item rest e h =
      omega (
        arith,
        ap length e,
        length-append code (item_code names labels (length code) item),
        item_length names labels (length code) item,
        h,
      )

-- the parts of a choice, one after another
nested : (code a b c : List Instr) (t z j : Instr)
    → (((((code ++ t ∷ []) ++ a) ++ z ∷ []) ++ b) ++ j ∷ []) ++ c ≡ code ++ (t ∷ (a ++ (z ∷ (b ++ (j ∷ c)))))
nested code a b c t z j =
    one_more ((((code ++ t ∷ []) ++ a) ++ z ∷ []) ++ b) c j
    ∙ append_assoc (((code ++ t ∷ []) ++ a) ++ z ∷ []) b (j ∷ c)
    ∙ one_more ((code ++ t ∷ []) ++ a) (b ++ j ∷ c) z
    ∙ append_assoc (code ++ t ∷ []) a (z ∷ (b ++ j ∷ c))
    ∙ one_more code (a ++ (z ∷ (b ++ j ∷ c))) t

module _ (names : List Entry) (labels : List ℕ → ℕ) (line : ℕ) (code c1 c2 c3 c4 c5 c6 : List Instr)
    (test : s.Expr) (first second : s.Items) (at_second to_end : ℕ)
    (e1 : c1 ≡ code ++ Tick line ∷ []) (e2 : c2 ≡ c1 ++ expr_code names test)
    (at : at_second ≡ length c2 + items_size first + 2)
    (to : to_end ≡ at_second + items_size second)
    (e3 : c3 ≡ c2 ++ JumpZero at_second ∷ []) (e4 : c4 ≡ c3 ++ items_code names labels (length c3) first)
    (e5 : c5 ≡ c4 ++ Jump to_end ∷ []) (e6 : c6 ≡ c5 ++ items_code names labels (length c5) second) where
  pub long_2 : length c2 ≡ length code + 1 + expr_size test
  long_2 =
      omega (
        arith,
        ap length e1,
        ap length e2,
        length-append code (Tick line ∷ []),
        length-append c1
            (expr_code names test),
        expr_length names test,
      )

  pub long_3 : length c3 ≡ length code + expr_size test + 2
  long_3 = omega (arith, long_2, ap length e3, length-append c2 (JumpZero at_second ∷ []))

  pub long_5 : length c5 ≡ length code + expr_size test + 2 + items_size first + 1
  long_5 =
      omega (
        arith,
        long_3,
        ap length e4,
        ap length e5,
        length-append c3
            (items_code names labels (length c3) first),
        length-append c4 (Jump to_end ∷ []),
        items_length
            names labels (length c3) first,
      )

  pub choice_emitted : c6 ≡ code ++ stmt_code names labels (length code) line (s.If test first second)
  choice_emitted =
      let at_first = length code + expr_size test + 2 in
      let second_at = at_first + items_size first + 1 in
      let end_at = second_at + items_size second in
      let s : at_second ≡ second_at = omega (arith, at, long_2) in
      let t : to_end ≡ end_at = omega (arith, s, to) in
      let f2 : c2 ≡ (code ++ Tick line ∷ []) ++ expr_code names test =
      e2 ∙ ap (λ c. c ++ expr_code names test) e1 in
      let f3 : c3 ≡ ((code ++ Tick line ∷ []) ++ expr_code names test) ++ JumpZero second_at ∷ [] =
      e3 ∙ ap (λ n. c2 ++ JumpZero n ∷ []) s ∙ ap (λ c. c ++ JumpZero second_at ∷ []) f2 in
      let f4 : c4 ≡ (((code ++ Tick line ∷ []) ++ expr_code names test) ++ JumpZero second_at ∷ [])
      ++ items_code names labels at_first first =
      e4 ∙ ap (λ n. c3 ++ items_code names labels n first) long_3 ∙ ap
      (λ c. c ++ items_code names labels at_first first) f3 in
      let f5 : c5 ≡ ((((code ++ Tick line ∷ []) ++ expr_code names test) ++ JumpZero second_at ∷ [])
      ++ items_code names labels at_first first) ++ Jump end_at ∷ [] =
      e5 ∙ ap (λ n. c4 ++ Jump n ∷ []) t ∙ ap (λ c. c ++ Jump end_at ∷ []) f4 in
      e6 ∙ ap (λ n. c5 ++ items_code names labels n second) long_5 ∙ ap
      (λ c. c ++ items_code names labels second_at second) f5
      ∙ nested code (expr_code names test) (items_code names labels at_first first)
      (items_code names labels second_at second) (Tick line) (JumpZero second_at) (Jump end_at)
