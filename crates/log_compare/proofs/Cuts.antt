-- The lines of a text, as cuts give them one after another.
use Rattle.std.proofs.Common.{◌≡◌, ℕ, ◌<◌, ◌==◌, true, false, List, [], ◌∷◌, length, refl, sym, ap, arith, length-append, None, Some}
use Rattle.std.proofs.lemmas.Bool.{eqb-true}
use Rattle.sig_types.specs.Text.{cut_at, fed_lines}
use Rattle.log_read.proofs.LineLemmas.{first_line, no_lines}
use Rattle.log_read.proofs.RecordForms.{cut_is, uncut}

-- what follows a cut is shorter than the text
pub shorter : (stop : ℕ) (bs a r : List ℕ) → cut_at stop bs ≡ Some (a, r) → length r < length bs
shorter stop bs a r e = let is = cut_is stop bs a r e in omega (arith, ap length is.whole, length-append a (stop ∷ r))

-- what stands before the first line feed is the first line
pub next_line : (bs a r : List ℕ) → cut_at 10 bs ≡ Some (a, r) → fed_lines bs ≡ a ∷ fed_lines r
next_line bs a r e = let is = cut_is 10 bs a r e in first_line bs a true r record { no_feed = is.none; cut = is.whole }

pub last_line : (bs : List ℕ) → cut_at 10 bs ≡ None → 0 < length bs → fed_lines bs ≡ bs ∷ fed_lines []
last_line bs e some = first_line bs bs false [] record { no_feed = uncut 10 bs e; cut = (refl, refl, some) }

none_of : (bs : List ℕ) → length bs ≡ 0 → fed_lines bs ≡ []
none_of [] e = no_lines
none_of (b ∷ bs) e = absurd (omega (arith, e))

pub nothing_fed : (bs : List ℕ) → true ≡ (length bs == 0) → fed_lines bs ≡ []
nothing_fed bs e = none_of bs (eqb-true (length bs) 0 (sym e))
