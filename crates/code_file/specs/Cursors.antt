-- Where a reader stands.
use Rattle.code_file.specs.declared.cursor.Cursor.{Cursor}
use Rattle.code_file.specs.Reading.{Place}

-- the place of a cursor
abbrev pub place_of : Cursor → Place
place_of c = record { number = c.number; bytes = c.bytes.now }
