-- Routines that are added one after another.
use Rattle.std.proofs.Common.{◌≡◌, ℕ, suc, ◌+◌, ◌<◌, List, [], ◌∷◌, ◌++◌, length, map, drop, get_or, sym, ap, ◌∙◌, arith, append_assoc, append-nil, length-append, drop-cons}
use Rattle.vap_ast.specs.declared.tree.Routine.{Routine}
use Rattle.vap_ast.specs.Tree.{routine_of, body_of}
use Rattle.vap_ast.specs.declared.name.Entry.{Entry}
use Rattle.vap_ast.specs.Sizes.{items_size}
use Rattle.vap_ast.specs.Syntax.{Items}
use Rattle.vap_check.specs.Accepted.{bodies_size}
use Rattle.vap_code.specs.declared.Instr.{Instr}
use Rattle.vap_compile.specs.Layout.{routine_code, routines_code, routine_starts}
use Rattle.vap_compile.proofs.Lengths.{routine_length, routines_length}

module _ (names : List Entry) where
  pub long_more : (code more : List Instr) (body : Items)
      → more ≡ code ++ routine_code names (length code) body
      → length more ≡ length code + items_size body + 1
  long_more code more body e =
      omega (
        arith,
        ap length e,
        length-append code (routine_code names (length code) body),
        routine_length names (length code) body,
      )

  pub added : (code more whole : List Instr) (body : Items) (rest : List Items)
      → more ≡ code ++ routine_code names (length code) body
      → code ++ routines_code names (length code) (body ∷ rest) ≡ whole
      → more ++ routines_code names (length more) rest ≡ whole
  added code more whole body rest e h =
      ap (λ n. more ++ routines_code names n rest) (long_more code more body e)
      ∙ ap (λ c. c ++ routines_code names (length code + items_size body + 1) rest) e
      ∙ append_assoc code (routine_code names (length code) body)
      (routines_code names (length code + items_size body + 1) rest)
      ∙ h

  pub started : (code more : List Instr) (starts more_starts whole : List ℕ) (body : Items)
      (rest : List Items)
      → more ≡ code ++ routine_code names (length code) body → more_starts ≡ starts ++ length code ∷ []
      → starts ++ routine_starts (length code) (body ∷ rest) ≡ whole
      → more_starts ++ routine_starts (length more) rest ≡ whole
  started code more starts more_starts whole body rest e f h =
      ap (λ n. more_starts ++ routine_starts n rest) (long_more code more body e)
      ∙ ap (λ s. s ++ routine_starts (length code + items_size body + 1) rest) f
      ∙ append_assoc starts (length code ∷ []) (routine_starts (length code + items_size body + 1) rest)
      ∙ h

  pub code_on : (a b : List Items) (p : ℕ)
      → routines_code names p (a ++ b) ≡ routines_code names p a ++ routines_code names (p + bodies_size a) b
  code_on [] b p = let e : p ≡ p + 0 = omega arith in ap (λ n. routines_code names n b) e
  code_on (body ∷ a) b p =
      let e : p + items_size body + 1 + bodies_size a ≡ p + (items_size body + 1 + bodies_size a) =
      omega arith in
      ap (λ c. routine_code names p body ++ c)
      (code_on a b (p + items_size body + 1) ∙ ap
      (λ n. routines_code names (p + items_size body + 1) a ++ routines_code names n b) e)
      ∙ sym (append_assoc (routine_code names p body) (routines_code names (p + items_size body + 1) a)
      (routines_code names (p + (items_size body + 1 + bodies_size a)) b))

pub starts_on : (a b : List Items) (p : ℕ)
    → routine_starts p (a ++ b) ≡ routine_starts p a ++ routine_starts (p + bodies_size a) b
starts_on [] b p = let e : p ≡ p + 0 = omega arith in ap (λ n. routine_starts n b) e
starts_on (body ∷ a) b p =
    let e : p + items_size body + 1 + bodies_size a ≡ p + (items_size body + 1 + bodies_size a) =
    omega arith in
    ap (λ c. p ∷ c) (starts_on a b (p + items_size body + 1) ∙ ap
    (λ n. routine_starts (p + items_size body + 1) a ++ routine_starts n b) e)

-- the size of bodies with one more
pub size_on : (a b : List Items) → bodies_size (a ++ b) ≡ bodies_size a + bodies_size b
size_on [] b = omega arith
size_on (body ∷ a) b = omega (arith, size_on a b)

-- the bodies from a routine on
pub bodies_at : (xs : List Routine) (i : ℕ) (x : Routine) → i < length xs → x ≡ get_or xs i x
    → map (λ r. r.body) (map routine_of (drop i xs)) ≡ body_of x.body ∷ map (λ r. r.body)
    (map routine_of (drop (i + 1) xs))
bodies_at xs i x lt is =
    let e : suc i ≡ i + 1 = omega arith in
    ap (λ l. map (λ r. r.body) (map routine_of l))
    (drop-cons xs i x lt ∙ ap (λ y. y ∷ drop (suc i) xs) (sym is) ∙ ap (λ n. x ∷ drop n xs) e)

pub whole_code : (names : List Entry) (subs : List Items) (main : Items) (x y : List Instr)
    → x ≡ routines_code names 0 subs → y ≡ x ++ routine_code names (length x) main
    → y ≡ routines_code names 0 (subs ++ main ∷ [])
whole_code names subs main x y e f =
    let n : length x ≡ 0 + bodies_size subs = omega (arith, ap length e, routines_length names subs 0) in
    f
    ∙ ap (λ k. x ++ routine_code names k main) n
    ∙ ap (λ c. c ++ routine_code names (0 + bodies_size subs) main) e
    ∙ ap (λ c. routines_code names 0 subs ++ c)
    (sym (append-nil (routine_code names (0 + bodies_size subs) main)))
    ∙ sym (code_on names subs (main ∷ []) 0)

pub whole_starts : (names : List Entry) (subs : List Items) (main : Items) (x : List Instr) (s t : List ℕ)
    → x ≡ routines_code names 0 subs → s ≡ routine_starts 0 subs → t ≡ s ++ length x ∷ []
    → t ≡ routine_starts 0 (subs ++ main ∷ [])
whole_starts names subs main x s t e f g =
    let n : length x ≡ 0 + bodies_size subs = omega (arith, ap length e, routines_length names subs 0) in
    g
    ∙ ap (λ k. s ++ k ∷ []) n
    ∙ ap (λ l. l ++ (0 + bodies_size subs) ∷ []) f
    ∙ sym (starts_on subs (main ∷ []) 0)
