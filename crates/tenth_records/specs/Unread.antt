-- What a reader of the lines of a record has left.
use Rattle.std.specs.Prelude.{◌≡◌, ℕ, ◌+◌, ◌<◌, ◌≤◌, List, [], ◌∷◌, Bool, true, false, length, Result, Err, IfOk, if◌then◌else◌}
use Rattle.std.specs.Str.Lines.{lines, strip_carriage_return}
use Rattle.line_reader.specs.Unread as raw
use Rattle.line_reader.specs.declared.reader.LineRefusal.{LineRefusal}
use Rattle.line_reader.specs.declared.reader.LineRefusal.TheVariants.{TooLong}
use Rattle.tenth_records.specs.declared.lines.RecordLines.{RecordLines}

-- the bytes that come next, of a file with these bytes
abbrev pub unread_bytes : RecordLines → List ℕ → List ℕ
unread_bytes r bytes = raw.unread_bytes r.reader bytes

-- the line that was read last, without the carriage return before its line feed
abbrev pub line_of : RecordLines → List ℕ
line_of r = if raw.was_ended r.reader then strip_carriage_return (raw.line_of r.reader) else raw.line_of r.reader

-- how many bytes of the file were given
abbrev pub bytes_given : RecordLines → ℕ
bytes_given r = raw.bytes_given r.reader

-- the name of the file
abbrev pub name_in : RecordLines → List ℕ
name_in r = raw.name_in r.reader

-- the first line of the text is this one, and this text is left after it
abbrev pub IsNextLine : List ℕ → List ℕ → List ℕ → Type 0
IsNextLine text line rest = lines text ≡ line ∷ lines rest

-- what a read of a line says of the bytes that were left: a line of at most 262,144 bytes, or none where none were left
abbrev pub LineIsRead : List ℕ → RecordLines → List ℕ → Bool → Type 0
LineIsRead text new bytes true = IsNextLine text (line_of new) (unread_bytes new bytes) × (length (line_of new) ≤ 262144)
LineIsRead text new bytes false = (text ≡ []) × (unread_bytes new bytes ≡ [])

-- at most 262,146 bytes were given with a line, and none with the end
abbrev pub GivesAtMost : ℕ → ℕ → Bool → Type 0
GivesAtMost old new true = new ≤ old + 262146
GivesAtMost old new false = new ≡ old

-- the next line has more than 262,144 bytes
abbrev pub NextIsLong : List ℕ → Type 0
NextIsLong text = (line : List ℕ) × ((rest : List ℕ) × (IsNextLine text line rest × (262144 < length line)))

-- what a read of the next line gives, of a file with these bytes
abbrev pub ReadsLine : List ℕ → RecordLines → RecordLines → Result Bool LineRefusal → Type 0
ReadsLine bytes old new result = IfOk result (λ found. LineIsRead (unread_bytes old bytes) new bytes found)

-- the answer that the next line is too long is right, of a file with these bytes
abbrev pub TooLongIsRight : List ℕ → RecordLines → Result Bool LineRefusal → Type 0
TooLongIsRight bytes old result = result ≡ Err TooLong → NextIsLong (unread_bytes old bytes)

-- how many bytes were given by a read
abbrev pub GivesLine : RecordLines → RecordLines → Result Bool LineRefusal → Type 0
GivesLine old new result = IfOk result (λ found. GivesAtMost (bytes_given old) (bytes_given new) found)
