-- The comments of a program's text.
use Rattle.std.specs.Prelude.{ℕ, ◌==◌, Bool, true, false, ◌||◌, if◌then◌else◌, List, [], ◌∷◌}
use Rattle.line_slips.specs.declared.comments.Reading.{Reading}
use Rattle.line_slips.specs.declared.comments.Reading.TheVariants.{Outside, Slash, Star, Comment, CommentStar}

-- where a reader stands behind one more byte: a slash and a star begin a comment, and a star and a slash end it
abbrev pub after : Reading → ℕ → Reading
after Outside b = if b == 47 then Slash else (if b == 42 then Star else Outside)
after Slash b = if b == 47 then Slash else (if b == 42 then Comment else Outside)
after Star b = if b == 47 then Slash else (if b == 42 then Star else Outside)
after Comment b = if b == 42 then CommentStar else Comment
after CommentStar b = if b == 47 then Outside else (if b == 42 then CommentStar else Comment)

-- it stands in a comment
abbrev pub is_inside : Reading → Bool
is_inside Outside = false
is_inside Slash = false
is_inside Star = false
is_inside Comment = true
is_inside CommentStar = true

-- a comment ends here that began in an earlier line
abbrev pub closes_earlier : Reading → ℕ → Bool
closes_earlier Outside b = false
closes_earlier Slash b = false
closes_earlier Star b = b == 47
closes_earlier Comment b = false
closes_earlier CommentStar b = false

-- such a comment ends in these bytes
abbrev pub closes_later : Reading → List ℕ → Bool
closes_later at [] = false
closes_later at (b ∷ bs) = closes_earlier at b || closes_later (after at b) bs

-- where a line begins: in a comment where one ends in it that doesn't begin in it
unfoldable pub line_start : List ℕ → Reading
line_start line = if closes_later Outside line then Comment else Outside
