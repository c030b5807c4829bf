-- One TRACE after the other.
use Rattle.std.proofs.Common.{◌≡◌, ◌∙◌, ◌<◌, ◌+◌, ◌++◌, ℕ, suc, List, Option, length, get_or, drop, drop-cons, sym, ap, append_assoc, arith}
use Rattle.std.specs.Prelude.{slice_get}
use Rattle.vap_ast.specs.declared.name.Entry.{Entry}
use Rattle.vap_lex.specs.declared.token.Token.{Token}
use Rattle.trace_watch.specs.declared.places.Mark.{Mark}
use Rattle.trace_told.specs.declared.columns.Column.{Column}
use Rattle.trace_told.specs.declared.brackets.Brackets.{Brackets}
use Rattle.trace_told.specs.Traces.{TraceOf, trace_at, traces_from}

module _ (names : List Entry) (columns : List Column) (tokens : List Token) (brackets : List Brackets) where
  -- the TRACE statements at the marks from one on
  marks_at : (k : ℕ) (marks : List Mark) (d : Mark) → k < length marks → traces_from names columns tokens brackets k (drop k marks)
      ≡ trace_at names columns tokens (get_or marks k d) (slice_get brackets k)
      ++ traces_from names columns tokens brackets (k + 1) (drop (k + 1) marks)
  marks_at k marks d lt =
      let e : suc k ≡ k + 1 = omega arith in
      ap (traces_from names columns tokens brackets k) (drop-cons marks k d lt)
      ∙ ap (λ n. trace_at names columns tokens (get_or marks k d) (slice_get brackets k)
      ++ traces_from names columns tokens brackets (k + 1) (drop n marks)) e

  -- one more of them
  pub one_more : (k : ℕ) (marks : List Mark) (old new all : List TraceOf) (mark d : Mark) (b : Option Brackets) → k < length marks
      → mark ≡ get_or marks k d → b ≡ slice_get brackets k → new ≡ old ++ trace_at names columns tokens mark b
      → old ++ traces_from names columns tokens brackets k (drop k marks) ≡ all
      → new ++ traces_from names columns tokens brackets (k + 1) (drop (k + 1) marks) ≡ all
  one_more k marks old new all mark d b lt at is added before =
      let rest = traces_from names columns tokens brackets (k + 1) (drop (k + 1) marks) in
      ap (λ l. l ++ rest) (added ∙ λ j. old ++ trace_at names columns tokens (at j) (is j))
      ∙ append_assoc old (trace_at names columns tokens (get_or marks k d) (slice_get brackets k)) rest
      ∙ ap (λ l. old ++ l) (sym (marks_at k marks d lt)) ∙ before
