-- A list as it is written, and as it is read.
use Rattle.std.proofs.Common.{◌≡◌, ◌∙◌, ℕ, ◌<◌, ◌≤◌, ◌⊎◌, inl, inr, ◌==◌, ◌&&◌, Bool, true, false, not, List, [], ◌∷◌, ◌++◌, length, refl, sym, ap, arith, Some, append_assoc, nat_le, length-append, ne_eqb, if◌then◌else◌}
use Rattle.std.specs.List.{slice_split, list_all, join_with_byte, AllByRecursion}
use Rattle.std.proofs.lemmas.Bool.{and_parts, leb-true}
use Rattle.std.proofs.lemmas.List.Elements.{All-from_recursion}
use Rattle.std.proofs.lemmas.List.Splits.{slice_split_at, slice_split_none, join_with_byte-slice_split}
use Rattle.sig_types.specs.Text.{fed_lines, is_empty, lines_of_parts}
use Rattle.junction_net.specs.List.{JobWords, is_name_byte, is_file_name, are_file_names, names_in, names_of}
use Rattle.junction_net.specs.Written.{line_of}
use Rattle.junction_net.proofs.Cuts.{lines_of_more, some_part, job_by, checked}

-- ---- names in a line

-- no byte of the text is this one
abbrev pub Free : ℕ → List ℕ → Type 0
Free c bs = AllByRecursion (λ b. (b == c) ≡ false) bs

free_append : (c : ℕ) (xs ys : List ℕ) → Free c xs → Free c ys → Free c (xs ++ ys)
free_append c [] ys fx fy = fy
free_append c (x ∷ xs) ys fx fy = (fx.0, free_append c xs ys fx.1 fy)

byte_free : (c b : ℕ) → c < 33 → is_name_byte b ≡ true → (b == c) ≡ false
byte_free c b lt h =
    let low : 33 ≤ b = leb-true 33 b (and_parts (nat_le 33 b) (nat_le b 126) h).0 in
    ne_eqb b c (λ e. omega arith)

bytes_free : (c : ℕ) (bs : List ℕ) → c < 33 → list_all is_name_byte bs ≡ true → Free c bs
bytes_free c [] lt h = tt
bytes_free c (b ∷ bs) lt h =
    let both = and_parts (is_name_byte b) (list_all is_name_byte bs) h in
    (byte_free c b lt both.0, bytes_free c bs lt both.1)

name_free : (c : ℕ) (name : List ℕ) → c < 33 → is_file_name name ≡ true → Free c name
name_free c name lt h = bytes_free c name lt (and_parts (not (length name == 0)) (list_all is_name_byte name) h).1

-- the five of names
pub record Five (job : JobWords) : Type 0 where
  pub program : is_file_name job.program ≡ true
  pub plan : is_file_name job.plan ≡ true
  pub times : is_file_name job.times ≡ true
  pub intergreens : is_file_name job.intergreens ≡ true
  pub detectors : is_file_name job.detectors ≡ true

five_names : (job : JobWords) → are_file_names job ≡ true → Five job
five_names job h =
    let d = and_parts (is_file_name job.program && is_file_name job.plan && is_file_name job.times && is_file_name job.intergreens)
    (is_file_name job.detectors) h in
    let c = and_parts (is_file_name job.program && is_file_name job.plan && is_file_name job.times) (is_file_name job.intergreens) d.0 in
    let b = and_parts (is_file_name job.program && is_file_name job.plan) (is_file_name job.times) c.0 in
    let a = and_parts (is_file_name job.program) (is_file_name job.plan) b.0 in
    record { program = a.0; plan = a.1; times = b.1; intergreens = c.1; detectors = d.1 }

split_at : (xs ys : List ℕ) → Free 32 xs → slice_split (λ b. b == 32) (xs ++ 32 ∷ ys) ≡ xs ∷ slice_split (λ b. b == 32) ys
split_at xs ys free = slice_split_at (λ b. b == 32) xs 32 ys (All-from_recursion (λ b. (b == 32) ≡ false) xs free) refl

-- a junction's line has its names
pub names_written : (job : JobWords) → are_file_names job ≡ true → names_of (line_of job) ≡ Some job
unfolding names_of
names_written job h =
    let five = five_names job h in
    let free : (name : List ℕ) → is_file_name name ≡ true → Free 32 name = λ name is. name_free 32 name (omega arith) is in
    ap names_in (split_at job.program _ (free job.program five.program)
    ∙ ap (λ (ps : List (List ℕ)). job.program ∷ ps) (split_at job.plan _ (free job.plan five.plan)
    ∙ ap (λ (ps : List (List ℕ)). job.plan ∷ ps) (split_at job.times _ (free job.times five.times)
    ∙ ap (λ (ps : List (List ℕ)). job.times ∷ ps) (split_at job.intergreens _ (free job.intergreens five.intergreens)
    ∙ ap (λ (ps : List (List ℕ)). job.intergreens ∷ ps)
    (slice_split_none (λ b. b == 32) job.detectors (All-from_recursion (λ b. (b == 32) ≡ false) job.detectors (free job.detectors five.detectors)))))))
    ∙ ap (checked job) h

-- and a line with names is theirs
pub record IsLine (line : List ℕ) (job : JobWords) : Type 0 where
  pub names : are_file_names job ≡ true
  pub text : line ≡ line_of job

checked_is : (job found : JobWords) (b : Bool) → are_file_names job ≡ b → checked job b ≡ Some found → IsLine (line_of job) found
checked_is job found true h e =
    let same : job ≡ found = cc in
    record { names = ap are_file_names (sym same) ∙ h; text = ap line_of same }
checked_is job found false h e = absurd cc

line_in : (parts : List (List ℕ)) (job : JobWords) → names_in parts ≡ Some job → IsLine (join_with_byte 32 parts) job
line_in [] job e = absurd cc
line_in (p ∷ []) job e = absurd cc
line_in (p ∷ q ∷ []) job e = absurd cc
line_in (p ∷ q ∷ t ∷ []) job e = absurd cc
line_in (p ∷ q ∷ t ∷ v ∷ []) job e = absurd cc
line_in (p ∷ q ∷ t ∷ v ∷ w ∷ []) job e = checked_is (job_by p q t v w) job (are_file_names (job_by p q t v w)) refl e
line_in (p ∷ q ∷ t ∷ v ∷ w ∷ x ∷ more) job e = absurd cc

pub line_written : (line : List ℕ) (job : JobWords) → names_of line ≡ Some job → IsLine line job
unfolding names_of
line_written line job e = rw (join_with_byte-slice_split 32 line) at (line_in (slice_split (λ b. b == 32) line) job e)

-- ---- lines in a text

-- a line of a junction has no line feed, and isn't empty
pub record IsLineText (line : List ℕ) : Type 0 where
  pub free : Free 10 line
  pub some : 0 < length line

then_space : (xs ys : List ℕ) → Free 10 xs → Free 10 ys → Free 10 (xs ++ 32 ∷ ys)
then_space xs ys fx fy = free_append 10 xs (32 ∷ ys) fx (refl, fy)

pub line_is_text : (job : JobWords) → are_file_names job ≡ true → IsLineText (line_of job)
line_is_text job h =
    let five = five_names job h in
    let free : (name : List ℕ) → is_file_name name ≡ true → Free 10 name = λ name is. name_free 10 name (omega arith) is in
    record {
      free = then_space job.program _ (free job.program five.program) (then_space job.plan _ (free job.plan five.plan)
          (then_space job.times _ (free job.times five.times)
          (then_space job.intergreens _ (free job.intergreens five.intergreens) (free job.detectors five.detectors))));
      some = omega (arith, length-append job.program (32 ∷ (job.plan ++ 32 ∷ (job.times ++ 32 ∷ (job.intergreens ++ 32 ∷ job.detectors)))));
    }

fed_next : (xs ys : List ℕ) → Free 10 xs → fed_lines (xs ++ 10 ∷ ys) ≡ xs ∷ fed_lines ys
unfolding fed_lines
fed_next xs ys free =
    ap lines_of_parts (slice_split_at (λ b. b == 10) xs 10 ys (All-from_recursion (λ b. (b == 10) ≡ false) xs free) refl)
    ∙ lines_of_more xs (slice_split (λ b. b == 10) ys) (some_part 10 ys)

fed_none : fed_lines [] ≡ []
unfolding fed_lines
fed_none = refl

fed_last : (xs : List ℕ) → Free 10 xs → 0 < length xs → fed_lines xs ≡ xs ∷ []
unfolding fed_lines
fed_last [] free some = absurd (omega arith)
fed_last (x ∷ xs) free some = rw (slice_split_none (λ b. b == 10) (x ∷ xs) (All-from_recursion (λ b. (b == 10) ≡ false) (x ∷ xs) free)) refl

pub fed_joined : (lines : List (List ℕ)) → AllByRecursion IsLineText lines → fed_lines (join_with_byte 10 lines) ≡ lines
fed_joined [] all = fed_none
fed_joined (x ∷ []) all = fed_last x all.0.free all.0.some
fed_joined (x ∷ y ∷ more) all = fed_next x (join_with_byte 10 (y ∷ more)) all.0.free ∙ ap (λ (l : List (List ℕ)). x ∷ l) (fed_joined (y ∷ more) all.1)

pub fed_ended : (lines : List (List ℕ)) → 1 ≤ length lines → AllByRecursion IsLineText lines → fed_lines (join_with_byte 10 lines ++ 10 ∷ []) ≡ lines
fed_ended [] some all = absurd (omega arith)
fed_ended (x ∷ []) some all = fed_next x [] all.0.free ∙ ap (λ (l : List (List ℕ)). x ∷ l) fed_none
fed_ended (x ∷ y ∷ more) some all =
    ap fed_lines (append_assoc x (10 ∷ join_with_byte 10 (y ∷ more)) (10 ∷ []))
    ∙ fed_next x (join_with_byte 10 (y ∷ more) ++ 10 ∷ []) all.0.free
    ∙ ap (λ (l : List (List ℕ)). x ∷ l) (fed_ended (y ∷ more) (omega arith) all.1)

-- a text is its lines
abbrev pub Ends : List ℕ → List (List ℕ) → Type 0
Ends text lines = (text ≡ join_with_byte 10 lines) ⊎ (text ≡ join_with_byte 10 lines ++ 10 ∷ [])

part_last : (x : List ℕ) (b : Bool) → is_empty x ≡ b → 1 ≤ length (if b then [] else x ∷ []) → Ends x (if b then [] else x ∷ [])
part_last x true e some = absurd (omega arith)
part_last x false e some = inl refl

end_more : (x rest : List ℕ) (y : List ℕ) (lines : List (List ℕ)) → Ends rest (y ∷ lines) → Ends (x ++ 10 ∷ rest) (x ∷ y ∷ lines)
end_more x rest y lines (inl e) = inl (ap (λ (l : List ℕ). x ++ 10 ∷ l) e)
end_more x rest y lines (inr e) = inr (ap (λ (l : List ℕ). x ++ 10 ∷ l) e ∙ sym (append_assoc x (10 ∷ join_with_byte 10 (y ∷ lines)) (10 ∷ [])))

parts_end : (x : List ℕ) (parts : List (List ℕ)) → 1 ≤ length (lines_of_parts (x ∷ parts)) → Ends (join_with_byte 10 (x ∷ parts)) (lines_of_parts (x ∷ parts))
parts_end x [] some = part_last x (is_empty x) refl some
parts_end x ([] ∷ []) some = inr refl
parts_end x ((b ∷ bs) ∷ []) some = inl refl
parts_end x (y ∷ z ∷ more) some = end_more x (join_with_byte 10 (y ∷ z ∷ more)) y (lines_of_parts (z ∷ more)) (parts_end y (z ∷ more) (omega arith))

some_parts : (parts : List (List ℕ)) → 1 ≤ length (lines_of_parts parts) → Ends (join_with_byte 10 parts) (lines_of_parts parts)
some_parts [] some = absurd (omega arith)
some_parts (x ∷ parts) some = parts_end x parts some

pub text_ends : (text : List ℕ) → 1 ≤ length (fed_lines text) → Ends text (fed_lines text)
unfolding fed_lines
text_ends text some = rw (join_with_byte-slice_split 10 text) at (some_parts (slice_split (λ b. b == 10) text) some)
