-- The pictures of the records of a log are its pictures.
use Rattle.std.specs.Prelude.{◌≡◌, ℕ, ◌≤◌, Bool, false, List, All, map, None}
use Rattle.sig_types.specs.declared.record.Record.{Record}
use Rattle.sig_types.specs.Text.{fed_lines}
use Rattle.sig_types.specs.Turns.{Picture}
use Rattle.log_read.specs.declared.begin.Begin.{Begin}
use Rattle.log_read.specs.Log.{HasEntries, Tells}
use Rattle.log_read.specs.Readings.{IsPictures, IsRecords, pictures_by, records_by}
use Rattle.log_read.specs.Watchers.{is_watch, told_lines}

-- the pictures of these records
abbrev pub pictures_of : List Record → List Picture
pictures_of records = map (λ (r : Record). r.picture) records

-- where the first n lines of a log that begins with this second are a header of groups with these names and these records, the
-- pictures of a log of these groups that are read from them are those of the records
abbrev pub FirstPicturesAgree : Type 0
FirstPicturesAgree = (given : Bool) (first : ℕ) (names lines : List (List ℕ)) (n : ℕ) (records : List Record) → first ≤ 999999999 →
    HasEntries (records_by given names) first lines n records → HasEntries (pictures_by names) first lines n (pictures_of records)

-- the lines of a log of which these are all records, to its end or to the first watcher's line, are lines of these pictures to
-- their end, wherever it begins
abbrev pub PicturesAgree : Type 0
PicturesAgree = (given : Bool) (begin : Begin) (names : List (List ℕ)) (bytes : List ℕ) (records : List Record) →
    IsRecords given begin names bytes records None → Tells (pictures_by names) begin (told_lines bytes) (pictures_of records) None

-- a log without a watcher's line of which these are all records, to its end, is a log of these pictures to its end
abbrev pub UnwatchedPicturesAgree : Type 0
UnwatchedPicturesAgree = (given : Bool) (begin : Begin) (names : List (List ℕ)) (bytes : List ℕ) (records : List Record) →
    All (λ line. is_watch line ≡ false) (fed_lines bytes) → IsRecords given begin names bytes records None →
    IsPictures begin names bytes (pictures_of records) None
