-- What is told of the lines that are left, by what is read of the next one.
use Rattle.std.proofs.Common.{◌≡◌, ℕ, suc, ◌+◌, ◌<◌, ◌≤◌, true, false, List, [], ◌∷◌, length, Option, Some, None, refl, sym, ap, ◌∙◌, arith, subst}
use Rattle.std.specs.Prelude.{Ok, Err, IfSome}
use Rattle.std.specs.Option.{ForNone, ForSome}
use Rattle.std.specs.Str.Lines.{lines}
use Rattle.std.proofs.lemmas.Bool.{lt-ltb, le-ltb}
use Rattle.std.proofs.lemmas.Option.{same_Some}
use Rattle.tenth_records.specs.declared.entry.Entry.{Entry}
use Rattle.tenth_records.specs.declared.entry.TenthStop.{TenthStop}
use Rattle.tenth_records.specs.declared.entry.TenthStop.TheVariants.{Memory, Fault, At}
use Rattle.tenth_records.specs.declared.entry.TenthWhy.{TenthWhy}
use Rattle.tenth_records.specs.declared.entry.TenthWhy.TheVariants as why
use Rattle.tenth_records.specs.declared.line.Point.{Point}
use Rattle.tenth_records.specs.declared.lines.RecordLines.{RecordLines}
use Rattle.tenth_records.specs.Record.{after, entry_of, entry_then, first_or, names_in, told}
use Rattle.tenth_records.specs.Header.{IsCounted, IsFirst, IsNoHeader, header_of, named}
use Rattle.tenth_records.specs.Answers.{IsOpened, record_told, start, told_end}

-- no line is left behind the end
pub told_ended : (groups : ℕ) (p : Point) (number : ℕ) (text : List ℕ) → text ≡ [] → p.ended ≡ true → told groups p number (lines text) ≡ told_end None
unfolding told
told_ended groups p number text none ended = rw (none, ended) refl

-- no line is left, and the end was not read
pub told_open : (groups : ℕ) (p : Point) (count line : ℕ) (text : List ℕ) → line ≡ suc count → text ≡ [] → p.ended ≡ false →
    told groups p (suc count) (lines text) ≡ told_end (Some (line, why.MissingEnd))
unfolding told
told_open groups p count line text is none going = rw (is, none, going) refl

-- the next line is too long
pub told_long : (groups : ℕ) (p : Point) (count line : ℕ) (all : List (List ℕ)) (first : List ℕ) (rest : List (List ℕ)) → line ≡ suc count → all ≡ first ∷ rest → 262144 < length first →
    told groups p (suc count) all ≡ told_end (Some (line, why.LineTooLong))
unfolding told entry_of
told_long groups p count line all first rest is begins long = rw (is, begins, lt-ltb 262144 (length first) long) refl

-- the next line is refused
pub told_refused : (groups : ℕ) (p : Point) (count line : ℕ) (all : List (List ℕ)) (first : List ℕ) (rest : List (List ℕ)) (w : TenthWhy) → line ≡ suc count → all ≡ first ∷ rest →
    entry_of groups p first ≡ Err w → told groups p (suc count) all ≡ told_end (Some (line, w))
unfolding told
told_refused groups p count line all first rest w is begins wrong = rw (is, begins, wrong) refl

-- the next line is an entry
pub told_entry : (groups : ℕ) (p next : Point) (count line : ℕ) (all : List (List ℕ)) (first : List ℕ) (rest : List (List ℕ)) (e : Entry) → line ≡ suc count → all ≡ first ∷ rest →
    entry_of groups p first ≡ Ok e → next ≡ after p e → told groups p (suc count) all ≡ entry_then e (told groups next (suc line) rest)
unfolding told
told_entry groups p next count line all first rest e is begins right same = rw (is, begins, right, same) refl

-- what holds of one thing holds of each that is there
pub for_one : {A : Type 0} (x : A) (P : A → Type 0) → P x → ForSome (Some x) P
for_one x P is = λ y same. subst P (same_Some x y same) is

-- as many lines are at most those of a week
pub counted_at_most : (count : ℕ) (first : Option ℕ) (next : ℕ) → ForNone first (count ≤ 1) → ForSome first (λ f. IsCounted count next f) → count ≤ 6048002
counted_at_most count None next none some = omega (arith, none refl)
counted_at_most count (Some f) next none some =
    let is = some f refl in
    omega (arith, is.0, is.1, is.2)

pub first_at_most : (count : ℕ) (first : Option ℕ) (next : ℕ) → ForSome first (λ f. IsCounted count next f) → IfSome first (λ n. n ≤ 999999999)
first_at_most count None next some = tt
first_at_most count (Some f) next some = (some f refl).3

-- an entry more was taken
more_counted : (count : ℕ) (first : Option ℕ) (next at : ℕ) → ForNone first (count ≤ 1) → ForSome first (λ f. IsCounted count next f) → next ≤ at →
    IfSome first (λ n. at ≤ n + 6048000) → at ≤ 999999999 → IsCounted (count + 1) (at + 1) (first_or first at)
more_counted count None next at none some later within few = (omega arith, omega arith, omega (arith, none refl), few)
more_counted count (Some f) next at none some later within few =
    let is = some f refl in
    (omega (arith, is.0, later), omega (arith, within), omega (arith, is.2, later), is.3)

pub counted_more : (count : ℕ) (first : Option ℕ) (next at : ℕ) → ForNone first (count ≤ 1) → ForSome first (λ f. IsCounted count next f) → next ≤ at →
    IfSome first (λ n. at ≤ n + 6048000) → at ≤ 999999999 → ForSome (Some (first_or first at)) (λ f. IsCounted (count + 1) (at + 1) f)
counted_more count first next at none some later within few =
    for_one (first_or first at) (λ f. IsCounted (count + 1) (at + 1) f) (more_counted count first next at none some later within few)

-- an entry stands at most a week behind the first one
pub within_week : (first : Option ℕ) (at : ℕ) → IfSome first (λ n. at ≤ n + 6048000) → at ≤ first_or first at + 6048000
within_week None at within = omega arith
within_week (Some f) at within = within

-- the header of no lines, and one by the first of them
pub no_header : (text : List ℕ) → text ≡ [] → header_of (lines text) ≡ Err why.Header
unfolding header_of
no_header text none = rw none refl

pub long_header : (all : List (List ℕ)) (first : List ℕ) (rest : List (List ℕ)) → all ≡ first ∷ rest → 262144 < length first → header_of all ≡ Err why.LineTooLong
unfolding header_of
long_header all first rest begins long = rw (begins, lt-ltb 262144 (length first) long) refl

pub header_is : (all : List (List ℕ)) (first : List ℕ) (rest : List (List ℕ)) → all ≡ first ∷ rest → length first ≤ 262144 → header_of all ≡ named (names_in first)
unfolding header_of
header_is all first rest begins short = rw (begins, le-ltb 262144 (length first) short) refl

-- a first line that isn't taken, or is no header, opens nothing
pub not_taken : (A : Type 0) (file : List ℕ → List ℕ) (old name : List ℕ) (new : RecordLines) (e : TenthStop) → old ≡ name → IsFirst {A = A} (file old) new (Err e) → IsOpened (file name) (Err e)
not_taken A file old name new Memory same is = absurd is
not_taken A file old name new Fault same is = tt
not_taken A file old name new (At line w) same is = (is.0, ap (λ (n : List ℕ). header_of (lines (file n))) (sym same) ∙ is.1)

pub not_named : (bytes line : List ℕ) (rest : List (List ℕ)) (e : TenthStop) → lines bytes ≡ line ∷ rest → length line ≤ 262144 → IsNoHeader line e → IsOpened bytes (Err e)
not_named bytes line rest Memory begins short is = tt
not_named bytes line rest Fault begins short is = absurd is
not_named bytes line rest (At number w) begins short is = (is.0, header_is (lines bytes) line rest begins short ∙ is.1)

-- what is left behind the header
pub told_first : (names : List (List ℕ)) (groups : ℕ) (bytes line left : List ℕ) → groups ≡ length names → lines bytes ≡ line ∷ lines left →
    told groups start 2 (lines left) ≡ record_told names bytes
unfolding record_told
told_first names groups bytes line left size begins = rw (size, begins) refl
