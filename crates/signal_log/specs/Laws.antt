-- What a log tells of the frames of its seconds, and the form of its lines.
use Rattle.std.specs.Prelude.{◌≡◌, ℕ, ◌<◌, ◌≤◌, ◌^◌, ◌==◌, true, false, List, [], ◌∷◌, ◌++◌, codes, map, length, All}
use Rattle.std.specs.Fmt.{decimal}
use Rattle.sig_types.specs.LogForm.{header_line, letter}
use Rattle.sig_types.specs.Recorded.{IsRecord}
use Rattle.sig_types.specs.Text.{fed_lines}
use Rattle.sig_types.specs.Counts.{Counts}
use Rattle.sig_types.specs.declared.record.Record.{Record}
use Rattle.pua_model.specs.Plan.{are_names}
use Rattle.signal_log.specs.Log.{place_text, record_line, log_text}

-- a number that `decimal` writes whole: it has at most 64 digits
abbrev pub Small : ℕ → Type 0
Small n = n < 2 ^ 64

-- counts that are written whole
abbrev pub SmallCounts : Counts → Type 0
SmallCounts [] = Unit {0}
SmallCounts (c ∷ cs) = (Small c.0 × Small c.1) × SmallCounts cs

-- the counts of 64 detectors, which can be told apart in a text
pub record IsPrintable (frame : Counts) : Type 0 where
  pub entries : length frame ≡ 64
  pub counts : SmallCounts frame

-- frames that can be told apart in a text
abbrev pub ArePrintable : List Counts → Type 0
ArePrintable [] = Unit {0}
ArePrintable (f ∷ fs) = IsPrintable f × ArePrintable fs

-- the frames of records
abbrev pub frames_of : List Record → List Counts
frames_of rs = map (λ r. r.frame) rs

-- a log of records with these frames
abbrev pub Spells : List (List ℕ) → List ℕ → List Counts → Type 0
Spells names text frames = (rs : List Record) × (text ≡ log_text names rs) × (frames_of rs ≡ frames)

-- no text is a log of two lists of frames
abbrev pub LogSpells : Type 0
LogSpells = (names : List (List ℕ)) (text : List ℕ) (fs gs : List Counts) →
    are_names names ≡ true → ArePrintable fs → ArePrintable gs →
    Spells names text fs → Spells names text gs → fs ≡ gs

-- no text is a log of two numbers of seconds
abbrev pub LogCounts : Type 0
LogCounts = (names : List (List ℕ)) (rs qs : List Record) → are_names names ≡ true → log_text names rs ≡ log_text names qs →
    length rs ≡ length qs

-- no byte is this one
abbrev pub Lacks : ℕ → List ℕ → Type 0
Lacks b bytes = All (λ c. (c == b) ≡ false) bytes

-- a record of at most 10,000 refused stage commands between stages below 1,000, and of at most 64 refused turns
pub record IsBounded (r : Record) : Type 0 where
  pub commands : length r.stages ≤ 10000
  pub stages : All (λ s. (s.from.0 < 1000) × (s.to.0 < 1000)) r.stages
  pub turns : length r.turns ≤ 64

-- the line of such a record of at most 64 groups has at most 262,144 bytes
abbrev pub LinesAreShort : Type 0
LinesAreShort = (names : List (List ℕ)) (r : Record) → are_names names ≡ true → length names ≤ 64 → IsRecord (length names) r →
    IsBounded r → length (record_line names r) ≤ 262144

-- the header of at most 64 groups has at most 262,144 bytes
abbrev pub HeaderIsShort : Type 0
HeaderIsShort = (names : List (List ℕ)) → are_names names ≡ true → length names ≤ 64 → length (header_line names) ≤ 262144

-- no line feed stands in the header or in the line of a record
abbrev pub LinesHaveNoFeed : Type 0
LinesHaveNoFeed = (names : List (List ℕ)) → are_names names ≡ true → Lacks 10 (header_line names) × ((r : Record) → Lacks 10 (record_line names r))

-- the line of a record begins with its second, a place without a bar and its letters, each before a bar
pub record Begins (r : Record) (line : List ℕ) : Type 0 where
  pub rest : List ℕ
  pub no_bar : Lacks 124 (place_text r.place)
  pub text : line ≡ decimal r.second.0 ++ codes "|" ++ place_text r.place ++ codes "|" ++ map letter r.picture ++ codes "|" ++ rest

-- the line of each record begins so
abbrev pub LinesBegin : Type 0
LinesBegin = (names : List (List ℕ)) (r : Record) → Begins r (record_line names r)

-- the lines of a log are the header and those of its records
abbrev pub LogHasLines : Type 0
LogHasLines = (names : List (List ℕ)) (rs : List Record) → are_names names ≡ true →
    fed_lines (log_text names rs) ≡ header_line names ∷ map (record_line names) rs
