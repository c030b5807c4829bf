-- The words of a line, and what kind of line they make.
use Rattle.std.specs.Prelude.{ℕ, ◌==◌, ◌-◌, Bool, true, false, not, ◌&&◌, ◌||◌, List, [], ◌∷◌, length, take, drop, nat_le, filter, codes, Option, Some, None, if◌then◌else◌, ℤ, pos, negsuc}
use Rattle.std.specs.List.{slice_split, list_all}
use Rattle.sig_types.specs.Text.{same_name, number_of, is_digit}
use Rattle.pua_reader.specs.declared.section.Section.{Section}
use Rattle.pua_reader.specs.declared.section.Section.TheVariants as section
use Rattle.pua_reader.specs.declared.section.Kind.{Kind}
use Rattle.pua_reader.specs.declared.section.Kind.TheVariants.{Passed, Begins, Row}

-- a text is a list of bytes
abbrev pub Text : Type 0
Text = List ℕ

-- a space or a tab
abbrev pub is_blank : ℕ → Bool
is_blank b = (b == 32) || (b == 9)

-- what parts words: spaces and tabs, and with `keys`, as in an interstage, also `:` and `=`
abbrev pub parts : Bool → ℕ → Bool
parts keys b = is_blank b || (keys && ((b == 58) || (b == 61)))

-- the words between what parts them
unfoldable pub words : Bool → Text → List Text
words keys line = filter (λ w. not (length w == 0)) (slice_split (parts keys) line)

-- printable ASCII and tabs
abbrev pub is_printed : ℕ → Bool
is_printed b = (nat_le 32 b && nat_le b 126) || (b == 9)

-- the line has printable ASCII and tabs alone
abbrev pub is_text : Text → Bool
is_text line = list_all is_printed line

-- `interstage`, also with digits right after it
abbrev pub is_interstage_word : Text → Bool
is_interstage_word w = same_name (take 10 w) (codes "interstage") && list_all is_digit (drop 10 w)

-- the section that a word after `$` begins
unfoldable pub section_named : Text → Option Section
section_named w =
    if same_name w (codes "signal_groups") then Some section.Groups
    else if same_name w (codes "stages") then Some section.Stages
    else if same_name w (codes "starting_stage") then Some section.Start
    else if is_interstage_word w then Some section.Interstage
    else if same_name w (codes "end") then Some section.End
    else None

-- a word that begins with `$` begins a section or a comment
abbrev pub kind_of_dollar : Option Section → Kind
kind_of_dollar None = Passed
kind_of_dollar (Some s) = Begins s

-- the kind of a line with this word first
abbrev pub kind_of_word : Text → Kind
kind_of_word [] = Row
kind_of_word (b ∷ bs) = if b == 36 then kind_of_dollar (section_named bs) else Row

-- a line without words and a comment are passed over
abbrev pub kind_of : List Text → Kind
kind_of [] = Passed
kind_of (w ∷ ws) = kind_of_word w

-- the place of a section in the order of sections
abbrev pub place_in_order : Section → ℕ
place_in_order section.Before = 0
place_in_order section.Groups = 1
place_in_order section.Stages = 2
place_in_order section.Start = 3
place_in_order section.Interstage = 4
place_in_order section.End = 5

-- the order of the sections: groups, stages, start, any number of interstages, end
abbrev pub may_follow : Section → Section → Bool
may_follow section.Before section.Groups = true
may_follow section.Groups section.Stages = true
may_follow section.Stages section.Start = true
may_follow section.Start section.Interstage = true
may_follow section.Start section.End = true
may_follow section.Interstage section.Interstage = true
may_follow section.Interstage section.End = true
may_follow _ _ = false

-- the number with a minus before it, where it is not 0
abbrev pub negative : Option ℕ → Option ℤ
negative None = None
negative (Some n) = if n == 0 then None else Some (negsuc (n - 1))

-- the number as it is
abbrev pub positive : Option ℕ → Option ℤ
positive None = None
positive (Some n) = Some (pos n)

-- a decimal number that may have a minus before a number that is not 0
abbrev pub signed_of : Text → Option ℤ
signed_of [] = None
signed_of (b ∷ bs) = if b == 45 then negative (number_of bs) else positive (number_of (b ∷ bs))
