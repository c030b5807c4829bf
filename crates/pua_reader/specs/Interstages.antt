-- Rows of interstages, and their ends.
use Rattle.std.specs.Prelude.{ℕ, ◌+◌, ◌-◌, ◌==◌, Bool, false, not, ◌&&◌, ◌||◌, List, [], ◌∷◌, ◌++◌, length, replicate, Option, Some, None, if◌then◌else◌, nat_le, codes, is_some, is_none, slice_index_or, slice_set, ℤ, pos}
use Rattle.sig_types.specs.FirstRefused.{first_reason, when}
use Rattle.sig_types.specs.Text.{same_name, number_of, is_name}
use Rattle.sig_types.specs.Words.{least_below}
use Rattle.sig_types.specs.declared.numbers.StageNo.{StageNo}
use Rattle.pua_model.specs.declared.parts.Group.{Group}
use Rattle.pua_model.specs.declared.parts.Stage.{Stage}
use Rattle.pua_model.specs.Plan.{InterstageOf, has_pair, is_end}
use Rattle.pua_model.specs.Wish.{leads}
use Rattle.pua_reader.specs.declared.refusal.PuaWhy.{PuaWhy}
use Rattle.pua_reader.specs.declared.refusal.PuaWhy.TheVariants as why
use Rattle.pua_reader.specs.declared.form.Form.{Form}
use Rattle.pua_reader.specs.declared.form.Form.TheVariants as form
use Rattle.pua_reader.specs.Words.{Text, signed_of}
use Rattle.pua_reader.specs.Groups.{place_of}
use Rattle.pua_reader.specs.Stages.{is_stage_word, stage_of}

-- an interstage whose section is read: the line of its section line, what its keys gave, and the ends of each group
pub record OpenInterstageOf : Type 0 where
  pub line : ℕ
  pub length : Option ℕ
  pub from : Option StageNo
  pub to : Option StageNo
  pub rows : List (Option (ℤ × ℤ))

-- an interstage that is begun by the section line in line n, with no row yet
abbrev pub open_at : ℕ → ℕ → OpenInterstageOf
open_at n groups = record { line = n; length = None; from = None; to = None; rows = replicate groups None }

-- the form of a row that gives a length by this word
abbrev pub number_form : Text → Form
number_form w = if is_some (number_of w) then form.Length else form.NoForm

-- the form of a row that gives a stage by this word: f, where the word can name one
abbrev pub stage_form : Form → Text → Form
stage_form f w = if is_stage_word w then f else form.NoForm

-- the form of a row `GROUP R E` of these three words
abbrev pub ends_form : Text → Text → Text → Form
ends_form a b c = if is_name a && is_some (signed_of b) && is_some (signed_of c) then form.Ends else form.NoForm

-- `length[s] N`, `length N`, `from_stage S`, `to_stage S`, `interstage_number X`
unfoldable pub form_of_two : Text → Text → Form
form_of_two a b =
    if same_name a (codes "length") || same_name a (codes "length[s]") then number_form b
    else if same_name a (codes "from_stage") then stage_form form.From b
    else if same_name a (codes "to_stage") then stage_form form.To b
    else if same_name a (codes "interstage_number") then form.Number
    else form.NoForm

-- `length [s] N`, `from stage S`, `to stage S`, `interstage number X`, `GROUP R E`
unfoldable pub form_of_three : Text → Text → Text → Form
form_of_three a b c =
    if same_name a (codes "length") then (if same_name b (codes "[s]") then number_form c else form.NoForm)
    else if same_name a (codes "from") && same_name b (codes "stage") then stage_form form.From c
    else if same_name a (codes "to") && same_name b (codes "stage") then stage_form form.To c
    else if same_name a (codes "interstage") && same_name b (codes "number") then form.Number
    else ends_form a b c

-- the form of a row
abbrev pub form_of : List Text → Form
form_of [] = form.NoForm
form_of (a ∷ []) = form.NoForm
form_of (a ∷ b ∷ []) = form_of_two a b
form_of (a ∷ b ∷ c ∷ []) = form_of_three a b c
form_of (a ∷ b ∷ c ∷ d ∷ more) = form.NoForm

-- a number, or 0 where there is none
abbrev pub or_none : Option ℕ → ℕ
or_none None = 0
or_none (Some n) = n

-- an end, or 0 where there is none
abbrev pub end_or_none : Option ℤ → ℤ
end_or_none None = pos 0
end_or_none (Some e) = e

-- the end that a word spells, or 0
abbrev pub spelled_end : Text → ℤ
spelled_end w = end_or_none (signed_of w)

-- the word at a place of a row
abbrev pub word : List Text → ℕ → Text
word ws i = slice_index_or ws i []

-- a row's last word, which is the value of a key
abbrev pub last_word : List Text → Text
last_word ws = word ws (length ws - 1)

-- why a row with the length n is refused, after the length given before: it has one already, or n is not 1 to 126
unfoldable pub length_reasons : Option ℕ → ℕ → Option PuaWhy
length_reasons given n = first_reason (when (is_some given) why.Row ∷ when (not (nat_le 1 n && nat_le n 126)) why.Range ∷ [])

-- why a row with a stage is refused, after the one given before: it has one already, or the file has no such stage
unfoldable pub stage_reasons : Option StageNo → Option StageNo → Option PuaWhy
stage_reasons given stage = first_reason (when (is_some given) why.Row ∷ when (is_none stage) why.UnknownName ∷ [])

-- the group at the place has its row already
abbrev pub has_row : List (Option (ℤ × ℤ)) → Option ℕ → Bool
has_row rows None = false
has_row rows (Some g) = is_some (slice_index_or rows g None)

-- why a row with the ends of the group at a place is refused, after these rows
unfoldable pub ends_reasons : List (Option (ℤ × ℤ)) → Option ℕ → ℤ → ℤ → Option PuaWhy
ends_reasons rows place r e = first_reason (
    when (has_row rows place) why.NameTwice
    ∷ when (is_none place) why.UnknownName
    ∷ when (not (is_end r && is_end e)) why.Range
    ∷ [])

-- why a row of each form is refused
abbrev pub form_why : Form → List Group → List Stage → OpenInterstageOf → List Text → Option PuaWhy
form_why form.NoForm groups stages current ws = Some why.Row
form_why form.Number groups stages current ws = None
form_why form.Length groups stages current ws = length_reasons current.length (or_none (number_of (last_word ws)))
form_why form.From groups stages current ws = stage_reasons current.from (stage_of stages (last_word ws))
form_why form.To groups stages current ws = stage_reasons current.to (stage_of stages (last_word ws))
form_why form.Ends groups stages current ws =
    ends_reasons current.rows (place_of groups (word ws 0)) (spelled_end (word ws 1)) (spelled_end (word ws 2))

-- why a row is refused in the section of the current interstage
abbrev pub interstage_row_why : List Group → List Stage → OpenInterstageOf → List Text → Option PuaWhy
interstage_row_why groups stages current ws = form_why (form_of ws) groups stages current ws

-- the rows with these ends for the group at the place
abbrev pub set_row : List (Option (ℤ × ℤ)) → Option ℕ → ℤ → ℤ → List (Option (ℤ × ℤ))
set_row rows None r e = rows
set_row rows (Some g) r e = slice_set rows g (Some (r, e))

-- what a row of each form gives
abbrev pub open_after_form : Form → List Group → List Stage → OpenInterstageOf → List Text → OpenInterstageOf
open_after_form form.NoForm groups stages current ws = current
open_after_form form.Number groups stages current ws = current
open_after_form form.Length groups stages current ws = record current { length = number_of (last_word ws) }
open_after_form form.From groups stages current ws = record current { from = stage_of stages (last_word ws) }
open_after_form form.To groups stages current ws = record current { to = stage_of stages (last_word ws) }
open_after_form form.Ends groups stages current ws =
    record current {
      rows = set_row current.rows (place_of groups (word ws 0)) (spelled_end (word ws 1)) (spelled_end (word ws 2));
    }

-- the current interstage with what a row gives it
abbrev pub open_after : List Group → List Stage → OpenInterstageOf → List Text → OpenInterstageOf
open_after groups stages current ws = open_after_form (form_of ws) groups stages current ws

-- the interstage of a section in which nothing is missing
abbrev pub interstage_by_keys : Option ℕ → Option StageNo → Option StageNo → List (Option (ℤ × ℤ)) → Option InterstageOf
interstage_by_keys (Some n) (Some a) (Some b) rows = Some (record { from = a.0; to = b.0; length = n; rows = rows })
interstage_by_keys None from to rows = None
interstage_by_keys (Some n) None to rows = None
interstage_by_keys (Some n) (Some a) None rows = None

-- the interstage that a section gives at its end, where nothing is missing
abbrev pub interstage_of : OpenInterstageOf → Option InterstageOf
interstage_of current = interstage_by_keys current.length current.from current.to current.rows

-- group g is green in stage s
abbrev pub greens_in : List Stage → ℕ → ℕ → Bool
greens_in stages s g = slice_index_or (slice_index_or stages (s - 1) (record { name = []; greens = [] })).greens g false

-- the lowest group that an interstage does not lead from its place in the one stage to that in the other
abbrev pub first_inconsistent : ℕ → List Stage → InterstageOf → Option ℕ
first_inconsistent groups stages w =
    least_below
    (λ g. not (leads (slice_index_or w.rows g None) (greens_in stages w.from g) (greens_in stages w.to g) w.length))
    groups

-- the reason to refuse an interstage by its number and the first group that it leads wrongly, if there is one
abbrev pub inconsistent_why : ℕ → List Group → Option ℕ → Option PuaWhy
inconsistent_why number groups None = None
inconsistent_why number groups (Some g) =
    Some (why.Inconsistent number (record { 0 = g }) (slice_index_or groups g (record { name = []; number = 0 })).name)

-- why the section of an interstage is refused as a whole, after these interstages
unfoldable pub interstage_reasons : List Group → List Stage → List InterstageOf → Option InterstageOf → Option PuaWhy
interstage_reasons groups stages interstages None = Some why.Row
interstage_reasons groups stages interstages (Some w) = first_reason (
    when (w.from == w.to) why.Range
    ∷ when (has_pair w.from w.to interstages) why.PairTwice
    ∷ inconsistent_why (length interstages + 1) groups (first_inconsistent (length groups) stages w)
    ∷ [])

-- the interstages with one more, where there is one
abbrev pub interstages_with : List InterstageOf → Option InterstageOf → List InterstageOf
interstages_with interstages None = interstages
interstages_with interstages (Some w) = interstages ++ w ∷ []
