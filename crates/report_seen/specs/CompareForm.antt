-- What the words of a call ask for.
use Rattle.std.specs.Prelude.{ℕ, List, [], ◌∷◌, codes, Option, None, Some, if◌then◌else◌}
use Rattle.std.specs.Str.{bytes_eq}
use Rattle.report_seen.specs.declared.compare_form.CompareForm.{CompareForm}

-- two logs
pub record Asked : Type 0 where
  pub one : List ℕ
  pub other : List ℕ

-- compare LOG LOG
abbrev pub form_of : List (List ℕ) → Option Asked
form_of (word ∷ one ∷ other ∷ []) = if bytes_eq word (codes "compare") then Some (record { one = one; other = other }) else None
form_of _ = None

-- what is asked for, as the program holds it
abbrev pub asked_in : CompareForm → Asked
asked_in form = record { one = form.one.now; other = form.other.now }

-- the same where the words are a form
abbrev pub asked_by : Option CompareForm → Option Asked
asked_by None = None
asked_by (Some form) = Some (asked_in form)
