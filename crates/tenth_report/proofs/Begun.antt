-- What was gathered of a record, while its entries come.
use Rattle.std.proofs.Common.{◌≡◌, ◌∙◌, ℕ, ◌<◌, ◌≤◌, List, [], ◌∷◌, ◌++◌, length, Option, None, Some, refl, sym, ap, arith}
use Rattle.std.specs.Option.{ForSome}
use Rattle.std.proofs.Math.ListN.{length-append}
use Rattle.std.proofs.lemmas.List.{append-nil}
use Rattle.std.proofs.lemmas.Option.{none-some}
use Rattle.tenth_records.specs.declared.entry.Entry.{Entry}
use Rattle.tenth_records.specs.Record.{first_or}
use Rattle.tenth_report.specs.declared.gathering.Gathering.{Gathering}
use Rattle.tenth_report.specs.Protocol.{first_time}
use Rattle.tenth_report.proofs.Paging.{FitsAt}

-- the first time is that of the first entry, if there was one; before it nothing is unknown
abbrev pub IsBegun : Gathering → Option ℕ → List Entry → Type 0
IsBegun g None past = (g.begin ≡ None) × (past ≡ []) × (g.gaps.since ≡ None)
IsBegun g (Some first) past = (g.begin ≡ Some first) × (first_time past ≡ first) × (1 ≤ length past)

first_append : (past : List Entry) (e : Entry) → 1 ≤ length past → first_time (past ++ e ∷ []) ≡ first_time past
first_append [] e some = absurd (omega (arith, some))
first_append (x ∷ past) e some = refl

-- with one entry more
pub begun_next : (g t : Gathering) (first : Option ℕ) (past : List Entry) (e : Entry) → IsBegun g first past → t.begin ≡ Some (first_or g.begin e.at) →
    IsBegun t (Some (first_or first e.at)) (past ++ e ∷ [])
begun_next g t None past e is begin =
    (begin ∙ ap (λ b. Some (first_or b e.at)) is.0, ap (λ (xs : List Entry). first_time (xs ++ e ∷ [])) is.1, omega (arith, length-append past (e ∷ [])))
begun_next g t (Some first) past e is begin =
    (begin ∙ ap (λ b. Some (first_or b e.at)) is.0, first_append past e is.2 ∙ is.1, omega (arith, length-append past (e ∷ [])))

-- behind the last one
pub begun_first : (g : Gathering) (first : Option ℕ) (past : List Entry) → IsBegun g first past → first_or g.begin 0 ≡ first_time (past ++ [])
begun_first g None past is = ap (λ b. first_or b 0) is.0 ∙ ap first_time (sym (append-nil past ∙ is.1))
begun_first g (Some first) past is = ap (λ b. first_or b 0) is.0 ∙ sym (ap first_time (append-nil past) ∙ is.1)

-- where nothing is known, the next entry is later
pub gap_later : (g : Gathering) (first : Option ℕ) (next : ℕ) (past : List Entry) (at : ℕ) → FitsAt g.pages first next → IsBegun g first past → next ≤ at →
    ForSome g.gaps.since (λ _. g.pages.at < at)
gap_later g None next past at fits begun later = λ since is. absurd (none-some since (sym begun.2 ∙ is))
gap_later g (Some first) next past at fits begun later = λ since is. omega (arith, fits.1, later)
