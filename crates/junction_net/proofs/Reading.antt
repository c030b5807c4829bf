-- The lines of a list that are read one after another.
use Rattle.std.proofs.Common.{◌≡◌, ◌∙◌, ℕ, suc, ◌+◌, ◌<◌, ◌≤◌, true, false, List, [], ◌∷◌, ◌++◌, length, map, take, drop, get_or, refl, sym, ap, arith, Option, Some, None, add-one, nat_le, length-append}
use Rattle.std.specs.Prelude.{unwrap_or}
use Rattle.std.specs.List.{list_all}
use Rattle.std.specs.Str.{IsAscii, IsUtf8}
use Rattle.std.proofs.Math.Seq.{drop-cons, take-suc}
use Rattle.std.proofs.Math.ListN.{length-drop}
use Rattle.std.proofs.lemmas.List.{length-take-le, take_all}
use Rattle.std.proofs.lemmas.Str.{IsUtf8-from_ascii}
use Rattle.std.proofs.lemmas.Str.Ascii.{IsAscii-nil, IsAscii-cons}
use Rattle.std.proofs.lemmas.Bool.{and_parts, lt-leb, le-leb}
use Rattle.std.proofs.lemmas.Grind.{common_steps}
use Rattle.sig_types.specs.FirstRefused.{refused_to, first_refused}
use Rattle.sig_types.proofs.Refusals.{accepted_more, refused_here}
use Rattle.junction_net.specs.declared.rows.ListWhy.{ListWhy}
use Rattle.junction_net.specs.declared.rows.ListWhy.TheVariants.{Row, Limit}
use Rattle.sig_types.specs.Text.{fed_lines}
use Rattle.junction_net.specs.List.{is_name_byte, names_of, words_of, no_words, judge, lines_refusal, list_refusal, jobs_of, JobWords}

-- a name is text
byte_ascii : (b : ℕ) → is_name_byte b ≡ true → b < 128
byte_ascii b h = grind (arith, common_steps)

bytes_ascii : (bs : List ℕ) → list_all is_name_byte bs ≡ true → IsAscii bs
bytes_ascii [] h = IsAscii-nil
bytes_ascii (b ∷ bs) h =
    let both = and_parts (is_name_byte b) (list_all is_name_byte bs) h in
    IsAscii-cons b bs (byte_ascii b both.0) (bytes_ascii bs both.1)

pub name_is_text : (name : List ℕ) → list_all is_name_byte name ≡ true → IsUtf8 name
name_is_text name h = IsUtf8-from_ascii name (bytes_ascii name h)

-- the first lines are read, these junctions are theirs, and these lines are left
pub record HasRead (lines left : List (List ℕ)) (jobs : List JobWords) : Type 0 where
  pub rest : left ≡ drop (length jobs) lines
  pub inside : length jobs ≤ length lines
  pub none : refused_to judge lines [] (length jobs) ≡ None
  pub jobs_are : jobs ≡ map words_of (take (length jobs) lines)
  pub few : length jobs ≤ 16

none_yet : (lines : List (List ℕ)) → refused_to judge lines [] 0 ≡ None
unfolding refused_to
none_yet lines = refl

pub begins : (lines : List (List ℕ)) → HasRead lines lines []
begins lines = record { rest = refl; inside = omega arith; none = none_yet lines; jobs_are = refl; few = omega arith }

-- the next line of those that are left
pub record HeadAt (lines : List (List ℕ)) (k : ℕ) (line : List ℕ) (more : List (List ℕ)) : Type 0 where
  pub inside : k < length lines
  pub here : get_or lines k [] ≡ line
  pub after : drop (k + 1) lines ≡ more

cons_parts : (x y : List ℕ) (xs ys : List (List ℕ)) → x ∷ xs ≡ y ∷ ys → (x ≡ y) × (xs ≡ ys)
cons_parts x y xs ys e = (cc, cc)

head_at : (lines : List (List ℕ)) (k : ℕ) (line : List ℕ) (more : List (List ℕ)) → drop k lines ≡ line ∷ more → HeadAt lines k line more
head_at lines k line more e =
    let long : k < length lines = omega (arith, length-drop k lines, ap length e) in
    let parts = cons_parts (get_or lines k []) line (drop (suc k) lines) more (sym (drop-cons lines k [] long) ∙ e) in
    record { inside = long; here = parts.0; after = rw add-one parts.1 }

-- what a line is judged
pub judge_none : (before : List (List ℕ)) (line : List ℕ) (job : JobWords) → length before < 16 → names_of line ≡ Some job → judge before line ≡ None
judge_none before line job lt e = let few : nat_le 16 (length before) ≡ false = lt-leb 16 (length before) lt in rw (few, e) refl

judge_row : (before : List (List ℕ)) (line : List ℕ) → length before < 16 → names_of line ≡ None → judge before line ≡ Some (length before + 1, Row)
judge_row before line lt e = let few : nat_le 16 (length before) ≡ false = lt-leb 16 (length before) lt in rw (few, e) refl

judge_limit : (before : List (List ℕ)) (line : List ℕ) → 16 ≤ length before → judge before line ≡ Some (length before + 1, Limit)
judge_limit before line le = let many : nat_le 16 (length before) ≡ true = le-leb 16 (length before) le in rw many refl

pub words_are : (line : List ℕ) (job : JobWords) → names_of line ≡ Some job → words_of line ≡ job
words_are line job e = ap (λ (o : Option JobWords). unwrap_or o no_words) e

pub map_more : {A B : Type 0} (f : A → B) (xs : List A) (y : A) → map f (xs ++ y ∷ []) ≡ map f xs ++ f y ∷ []
map_more f [] y = refl
map_more {A} {B} f (x ∷ xs) y = ap (λ (l : List B). f x ∷ l) (map_more f xs y)

pub reads_more : (lines left : List (List ℕ)) (jobs : List JobWords) (line : List ℕ) (more : List (List ℕ)) (job : JobWords) → HasRead lines left jobs →
    left ≡ line ∷ more → length jobs < 16 → names_of line ≡ Some job → HasRead lines more (jobs ++ job ∷ [])
reads_more lines left jobs line more job read next lt named =
    let head = head_at lines (length jobs) line more (sym read.rest ∙ next) in
    let count : length (jobs ++ job ∷ []) ≡ length jobs + 1 = length-append jobs (job ∷ []) in
    let one : suc (length jobs) ≡ length (jobs ++ job ∷ []) = omega (arith, count) in
    let size : length (take (length jobs) lines) ≡ length jobs = length-take-le (length jobs) lines read.inside in
    let here : judge (take (length jobs) lines) (get_or lines (length jobs) []) ≡ None =
    rw head.here (judge_none (take (length jobs) lines) line job (omega (arith, size)) named) in
    record {
      rest = sym (ap (λ (k : ℕ). drop k lines) count ∙ head.after);
      inside = omega (arith, count, head.inside);
      none = rw count (accepted_more judge lines [] (length jobs) read.none here);
      jobs_are = ap (λ (l : List JobWords). l ++ job ∷ []) read.jobs_are
          ∙ ap (λ (j : JobWords). map words_of (take (length jobs) lines) ++ j ∷ []) (sym (words_are line job named))
          ∙ sym (map_more words_of (take (length jobs) lines) line)
          ∙ ap (λ (l : List ℕ). map words_of (take (length jobs) lines ++ l ∷ [])) (sym head.here)
          ∙ ap (map words_of) (sym (take-suc lines (length jobs) [] head.inside) ∙ ap (λ (k : ℕ). take k lines) one);
      few = omega (arith, count);
    }

-- a list with a refused line has its refusal
refused_by_lines : (lines : List (List ℕ)) (found : ℕ × ListWhy) → first_refused judge lines [] ≡ Some found → lines_refusal lines ≡ Some found
unfolding refused_to
refused_by_lines [] found e = absurd cc
refused_by_lines (l ∷ ls) found e = e

refused_at : (text left : List ℕ) (jobs : List JobWords) (line : List ℕ) (more : List (List ℕ)) (why : ListWhy) →
    HasRead (fed_lines text) (fed_lines left) jobs →
    fed_lines left ≡ line ∷ more → ((before : List (List ℕ)) → length before ≡ length jobs → judge before line ≡ Some (length before + 1, why)) →
    list_refusal text ≡ Some (length jobs + 1, why)
unfolding list_refusal
refused_at text left jobs line more why read next judged =
    let head = head_at (fed_lines text) (length jobs) line more (sym read.rest ∙ next) in
    let size : length (take (length jobs) (fed_lines text)) ≡ length jobs = length-take-le (length jobs) (fed_lines text) read.inside in
    let here : judge (take (length jobs) (fed_lines text)) (get_or (fed_lines text) (length jobs) []) ≡ Some (length jobs + 1, why) =
    rw head.here (judged (take (length jobs) (fed_lines text)) size ∙ ap (λ (k : ℕ). Some (k + 1, why)) size) in
    refused_by_lines (fed_lines text) (length jobs + 1, why)
    (refused_here judge (fed_lines text) [] (length jobs + 1, why) (length jobs) read.none head.inside here)

pub limit_at : (text left : List ℕ) (jobs : List JobWords) (line : List ℕ) (more : List (List ℕ)) → HasRead (fed_lines text) (fed_lines left) jobs →
    fed_lines left ≡ line ∷ more → length jobs ≡ 16 → list_refusal text ≡ Some (length jobs + 1, Limit)
limit_at text left jobs line more read next many =
    refused_at text left jobs line more Limit read next (λ before size. judge_limit before line (omega (arith, size)))

pub row_at : (text left : List ℕ) (jobs : List JobWords) (line : List ℕ) (more : List (List ℕ)) → HasRead (fed_lines text) (fed_lines left) jobs →
    fed_lines left ≡ line ∷ more → length jobs < 16 → names_of line ≡ None → list_refusal text ≡ Some (length jobs + 1, Row)
row_at text left jobs line more read next few none =
    refused_at text left jobs line more Row read next (λ before size. judge_row before line (omega (arith, size)) none)

-- all lines are read
ended : (lines : List (List ℕ)) (jobs : List JobWords) → HasRead lines [] jobs → length jobs ≡ length lines
ended lines jobs read = omega (arith, length-drop (length jobs) lines, ap length read.rest, read.inside)

accepted_lines : (lines : List (List ℕ)) (jobs : List JobWords) → HasRead lines [] jobs → 1 ≤ length jobs → lines_refusal lines ≡ None
accepted_lines [] jobs read some = absurd (omega (arith, read.inside))
accepted_lines (l ∷ ls) jobs read some = ap (refused_to judge (l ∷ ls) []) (sym (ended (l ∷ ls) jobs read)) ∙ read.none

pub accepted : (text : List ℕ) (jobs : List JobWords) → HasRead (fed_lines text) [] jobs → 1 ≤ length jobs → (list_refusal text ≡ None) × (jobs ≡ jobs_of text)
unfolding list_refusal jobs_of
accepted text jobs read some =
    let all = ended (fed_lines text) jobs read in
    (accepted_lines (fed_lines text) jobs read some, read.jobs_are ∙ ap (map words_of) (take_all (length jobs) (fed_lines text) (omega (arith, all))))

empty_lines : (lines : List (List ℕ)) (jobs : List JobWords) → HasRead lines [] jobs → length jobs ≡ 0 → lines_refusal lines ≡ Some (0, Row)
empty_lines [] jobs read none = refl
empty_lines (l ∷ ls) jobs read none = absurd (omega (arith, ended (l ∷ ls) jobs read))

pub empty_at : (text : List ℕ) (jobs : List JobWords) → HasRead (fed_lines text) [] jobs → length jobs ≡ 0 → list_refusal text ≡ Some (0, Row)
unfolding list_refusal
empty_at text jobs read none = empty_lines (fed_lines text) jobs read none
