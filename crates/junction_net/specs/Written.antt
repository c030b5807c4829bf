-- The texts that are accepted, as they are written, and what a refusal says of the lines.
use Rattle.std.specs.Prelude.{◌≡◌, ◌≤◌, ◌<◌, ◌⊎◌, ℕ, ◌+◌, true, List, [], ◌∷◌, ◌++◌, length, map, slice_index_or, Some, None, Ok}
use Rattle.std.specs.List.{join_with_byte, AllByRecursion}
use Rattle.junction_net.specs.declared.rows.ListWhy.{ListWhy}
use Rattle.junction_net.specs.declared.rows.ListWhy.TheVariants.{Row, Limit}
use Rattle.sig_types.specs.Text.{fed_lines}
use Rattle.junction_net.specs.List.{JobWords, are_file_names, names_of, list_refusal}
use Rattle.junction_net.specs.Answers.{Gives}

-- a junction's line: its names in their order, with a space between each two
abbrev pub line_of : JobWords → List ℕ
line_of job = join_with_byte 32 (job.program ∷ job.plan ∷ job.times ∷ job.intergreens ∷ job.detectors ∷ [])

-- the lines of junctions, with a line feed between each two
abbrev pub written : List JobWords → List ℕ
written jobs = join_with_byte 10 (map line_of jobs)

-- the text is the lines of these junctions, 1 to 16, with five names each; a line feed may stand at its end
pub record IsWritten (jobs : List JobWords) (text : List ℕ) : Type 0 where
  pub some : 1 ≤ length jobs
  pub few : length jobs ≤ 16
  pub names : AllByRecursion (λ job. are_file_names job ≡ true) jobs
  pub ends : (text ≡ written jobs) ⊎ (text ≡ written jobs ++ 10 ∷ [])

-- the accepted texts are those that are written so, and each gives the junctions that it was written of
abbrev pub AcceptedAreWritten : Type 0
AcceptedAreWritten = (text : List ℕ) (jobs : List JobWords) →
    (Gives text (Ok jobs) → IsWritten jobs text) × (IsWritten jobs text → Gives text (Ok jobs))

-- the first n lines have five names each
abbrev pub HaveNames : List (List ℕ) → ℕ → Type 0
HaveNames lines n = (k : ℕ) → k < n → (job : JobWords) × (names_of (slice_index_or lines k []) ≡ Some job)

-- the line after the first n is refused, which are not
pub data IsFirstRefused (lines : List (List ℕ)) : ℕ → ListWhy → Type 0 where
  no_line : lines ≡ [] → IsFirstRefused lines 0 Row
  row : (n : ℕ) → n < length lines → n < 16 → HaveNames lines n → names_of (slice_index_or lines n []) ≡ None → IsFirstRefused lines (n + 1) Row
  limit : 16 < length lines → HaveNames lines 16 → IsFirstRefused lines 17 Limit

-- a refusal is that of the first refused line
abbrev pub RefusedIsFirst : Type 0
RefusedIsFirst = (text : List ℕ) (line : ℕ) (why : ListWhy) → list_refusal text ≡ Some (line, why) → IsFirstRefused (fed_lines text) line why
