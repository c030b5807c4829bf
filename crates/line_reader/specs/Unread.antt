-- What a reader of lines has left.
use Rattle.std.specs.Prelude.{◌≡◌, ℕ, ◌+◌, ◌-◌, ◌<◌, ◌≤◌, ◌==◌, ◌||◌, List, [], ◌∷◌, Bool, true, false, ◌++◌, length, take, drop, string_bytes, nat_lt, position, is_some, Result, Err, IfOk}
use Rattle.std.specs.List.{All}
use Rattle.line_reader.specs.declared.reader.LineReader.{LineReader}
use Rattle.line_reader.specs.declared.reader.LineRefusal.{LineRefusal}
use Rattle.line_reader.specs.declared.reader.LineRefusal.TheVariants.{TooLong}

-- the bytes that have been taken from the file and not yet given
abbrev pub buffered_bytes : LineReader → List ℕ
buffered_bytes r = take (r.end - r.start) (drop r.start r.buffer.items)

-- the next line is read without asking the files: a line feed is held, or more bytes than a line may have
abbrev pub is_ready : LineReader → Bool
is_ready r = nat_lt r.longest (r.end - r.start) || is_some (position (λ b. b == 10) (buffered_bytes r))

-- the bytes that come next, of a file with these bytes
abbrev pub unread_bytes : LineReader → List ℕ → List ℕ
unread_bytes r bytes = buffered_bytes r ++ drop r.place bytes

-- the line that was read last, without a line feed
abbrev pub line_of : LineReader → List ℕ
line_of r = take (r.line_end - r.line_start) (drop r.line_start r.buffer.items)

-- a line feed ended the line that was read last
abbrev pub was_ended : LineReader → Bool
was_ended r = r.ended

-- the most bytes of a line
abbrev pub longest_of : LineReader → ℕ
longest_of r = r.longest

-- how many bytes of the file were given
abbrev pub bytes_given : LineReader → ℕ
bytes_given r = r.place - (r.end - r.start)

-- the name of the file
abbrev pub name_in : LineReader → List ℕ
name_in r = string_bytes r.name

-- the reader took n bytes more into its buffer, and none only where the file has none
pub record KeepsUnread (old new : LineReader) (bytes : List ℕ) (n : ℕ) : Type 0 where
  pub bytes_stay : unread_bytes new bytes ≡ unread_bytes old bytes
  pub at_end : n ≡ 0 → drop new.place bytes ≡ []

-- a line and the bytes after it: a line feed between them, or at the end a line of at least one byte and nothing after it
abbrev pub IsCut : List ℕ → List ℕ → Bool → List ℕ → Type 0
IsCut text line true rest = text ≡ line ++ 10 ∷ rest
IsCut text line false rest = (text ≡ line) × (rest ≡ []) × (0 < length line)

-- the first line of a text is this one, which has no line feed, and these bytes follow
pub record BeginsWith (text line : List ℕ) (ended : Bool) (rest : List ℕ) : Type 0 where
  pub no_feed : All (λ b. (b == 10) ≡ false) line
  pub cut : IsCut text line ended rest

-- what a read of a line says of the bytes that were left: a line that isn't too long, or none where none were left
abbrev pub LineIsRead : List ℕ → LineReader → List ℕ → Bool → Type 0
LineIsRead text new bytes true =
    BeginsWith text (line_of new) (was_ended new) (unread_bytes new bytes) × (length (line_of new) ≤ longest_of new)
LineIsRead text new bytes false = (text ≡ []) × (unread_bytes new bytes ≡ [])

-- at most this many bytes were given with a line, its line feed among them, and none with the end
abbrev pub GivesAtMost : ℕ → ℕ → ℕ → Bool → Type 0
GivesAtMost most old new true = new ≤ old + most
GivesAtMost most old new false = new ≡ old

-- the first line of a text has more bytes than these
pub record FirstIsLonger (longest : ℕ) (text : List ℕ) : Type 0 where
  pub line : List ℕ
  pub ended : Bool
  pub rest : List ℕ
  pub begins : BeginsWith text line ended rest
  pub longer : longest < length line

-- what a read of the next line gives, of a file with these bytes
abbrev pub ReadsLine : List ℕ → LineReader → LineReader → Result Bool LineRefusal → Type 0
ReadsLine bytes old new result = IfOk result (λ found. LineIsRead (unread_bytes old bytes) new bytes found)

-- the answer that the next line is too long is right, of a file with these bytes
abbrev pub TooLongIsRight : List ℕ → LineReader → Result Bool LineRefusal → Type 0
TooLongIsRight bytes old result = result ≡ Err TooLong → FirstIsLonger (longest_of old) (unread_bytes old bytes)

-- how many bytes were given by a read
abbrev pub GivesLine : LineReader → LineReader → Result Bool LineRefusal → Type 0
GivesLine old new result = IfOk result (λ found. GivesAtMost (longest_of old + 1) (bytes_given old) (bytes_given new) found)
