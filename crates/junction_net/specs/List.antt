-- What a list of junctions says: the names of the files of each, or the line at which it is refused, and why.
use Rattle.std.specs.Prelude.{ℕ, ◌+◌, ◌==◌, Bool, not, ◌&&◌, List, [], ◌∷◌, length, map, nat_le, Option, Some, None, is_none, unwrap_or, if◌then◌else◌}
use Rattle.std.specs.List.{slice_split, list_all}
use Rattle.sig_types.specs.FirstRefused.{first_refused, first_reason, when, with_line}
use Rattle.sig_types.specs.Text.{fed_lines}
use Rattle.junction_net.specs.declared.rows.ListWhy.{ListWhy}
use Rattle.junction_net.specs.declared.rows.ListWhy.TheVariants.{Row, Limit}

-- the files of a junction, by their names
pub record JobWords : Type 0 where
  pub program : List ℕ
  pub plan : List ℕ
  pub times : List ℕ
  pub intergreens : List ℕ
  pub detectors : List ℕ

-- a byte of a name
abbrev pub is_name_byte : ℕ → Bool
is_name_byte b = nat_le 33 b && nat_le b 126

-- a name: one or more bytes from 33 to 126
abbrev pub is_file_name : List ℕ → Bool
is_file_name name = not (length name == 0) && list_all is_name_byte name

-- the five are names
abbrev pub are_file_names : JobWords → Bool
are_file_names job =
    is_file_name job.program && is_file_name job.plan && is_file_name job.times && is_file_name job.intergreens && is_file_name job.detectors

-- the names in the parts of a line: five, in this order
abbrev pub names_in : List (List ℕ) → Option JobWords
names_in (program ∷ plan ∷ times ∷ intergreens ∷ detectors ∷ []) =
    let job : JobWords = record { program = program; plan = plan; times = times; intergreens = intergreens; detectors = detectors } in
    if are_file_names job then Some job else None
names_in _ = None

-- the names in a line, parted by one space each
unfoldable pub names_of : List ℕ → Option JobWords
names_of line = names_in (slice_split (λ b. b == 32) line)

-- why a line is refused after these lines: it is the 17th, whatever it holds; or it isn't five names
abbrev pub judge : List (List ℕ) → List ℕ → Option (ℕ × ListWhy)
judge before line = with_line (length before + 1)
    (first_reason (when (nat_le 16 (length before)) Limit ∷ when (is_none (names_of line)) Row ∷ []))

-- the refusal of lines: the first refused one, or line 0 where there is no line
abbrev pub lines_refusal : List (List ℕ) → Option (ℕ × ListWhy)
lines_refusal [] = Some (0, Row)
lines_refusal (l ∷ ls) = first_refused judge (l ∷ ls) []

-- the line at which a list is refused, and why
unfoldable pub list_refusal : List ℕ → Option (ℕ × ListWhy)
list_refusal text = lines_refusal (fed_lines text)

-- five empty names, which no line has
abbrev pub no_words : JobWords
no_words = record { program = []; plan = []; times = []; intergreens = []; detectors = [] }

-- the names in a line that has five
abbrev pub words_of : List ℕ → JobWords
words_of line = unwrap_or (names_of line) no_words

-- the junctions of an accepted list, one for each line
unfoldable pub jobs_of : List ℕ → List JobWords
jobs_of text = map words_of (fed_lines text)
