-- One sight more is noted.
use Rattle.std.proofs.Common.{◌≡◌, ◌∙◌, ℕ, Bool, true, false, List, [], ◌∷◌, ◌++◌, Option, Some, None, refl, sym, ap, if◌then◌else◌}
use Rattle.vap_code.specs.Sights.{Sight}
use Rattle.trace_told.specs.EndLines.{commanded, first_line, is_pair, kept_or}

-- the line with one sight more
first_line-more : (a b : ℕ) (past : List Sight) (s : Sight) →
    first_line a b (past ++ s ∷ []) ≡ kept_or (first_line a b past) (is_pair a b (commanded s.instr s.state.operands)) s.state.line
first_line-more a b [] s = refl
first_line-more a b (t ∷ past) s = go (is_pair a b (commanded t.instr t.state.operands)) (first_line-more a b past s)
  where
    go : (such : Bool) → first_line a b (past ++ s ∷ []) ≡ kept_or (first_line a b past) (is_pair a b (commanded s.instr s.state.operands)) s.state.line →
        (if such then Some t.state.line else first_line a b (past ++ s ∷ []))
        ≡ kept_or (if such then Some t.state.line else first_line a b past) (is_pair a b (commanded s.instr s.state.operands)) s.state.line
    go true rest = refl
    go false rest = rest

-- a command between two stages was seen
pub noted : (a b : ℕ) (past : List Sight) (s : Sight) (o : Option (ℕ × ℕ)) (old new : Option ℕ) (line : ℕ) → o ≡ commanded s.instr s.state.operands →
    line ≡ s.state.line → new ≡ kept_or old (is_pair a b o) line → old ≡ first_line a b past → new ≡ first_line a b (past ++ s ∷ [])
noted a b past s o old new line is at step kept =
    step ∙ (λ j. kept_or (kept j) (is_pair a b (is j)) (at j)) ∙ sym (first_line-more a b past s)

kept_none : (old : Option ℕ) (line : ℕ) → old ≡ kept_or old false line
kept_none None line = refl
kept_none (Some other) line = refl

-- another sight
pub passed : (a b : ℕ) (past : List Sight) (s : Sight) (o : Option (ℕ × ℕ)) (old : Option ℕ) → o ≡ commanded s.instr s.state.operands → o ≡ None →
    old ≡ first_line a b past → old ≡ first_line a b (past ++ s ∷ [])
passed a b past s o old is none kept =
    noted a b past s o old old s.state.line is refl (kept_none old s.state.line ∙ ap (λ (o : Option (ℕ × ℕ)). kept_or old (is_pair a b o) s.state.line) (sym none)) kept
