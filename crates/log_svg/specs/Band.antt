-- The band of stages and interstages.
use Rattle.std.specs.Prelude.{ℕ, ◌+◌, ◌-◌, ◌*◌, ◌/◌, ◌&&◌, Bool, List, [], ◌++◌, codes, if◌then◌else◌, length, nat_le, nat_lt, slice_index_or}
use Rattle.std.specs.List.{flat_map}
use Rattle.std.specs.Fmt.{decimal}
use Rattle.sig_types.specs.declared.numbers.StageNo.{StageNo}
use Rattle.sig_types.specs.declared.numbers.StagePlace.{StagePlace}
use Rattle.sig_types.specs.declared.numbers.StagePlace.TheVariants.{NoPlan, Stage, Inter}
use Rattle.log_chart.specs.Stays.{Stay}
use Rattle.log_svg.specs.declared.layout.Layout.{Layout}
use Rattle.log_svg.specs.Svg.{begin_of, box_begin, is_seen, label_begin, times_text, width_of}

-- the class of a place: a stage is plain, an interstage striped
abbrev pub place_class : StagePlace → List ℕ
place_class NoPlan = codes "s"
place_class (Stage s) = codes "s"
place_class (Inter a b t) = codes "i"

-- the name of a stage or an interstage
abbrev pub place_name : StagePlace → List ℕ
place_name NoPlan = codes "-"
place_name (Stage s) = codes "S" ++ decimal s.0
place_name (Inter a b t) = decimal a.0 ++ codes "-" ++ decimal b.0

-- the stage has a name of these
abbrev pub has_name : List (List ℕ) → StageNo → Bool
has_name stages s = nat_le 1 s.0 && nat_le s.0 (length stages)

-- its name, which stands at the place of its number less 1
abbrev pub name_at : List (List ℕ) → StageNo → List ℕ
name_at stages s = slice_index_or stages (s.0 - 1) []

-- a stage of an interstage, by its name or its number
abbrev pub end_name : List (List ℕ) → StageNo → List ℕ
end_name stages s = if has_name stages s then name_at stages s else decimal s.0

-- a stage by its name, or its number where it has none of these
abbrev pub stage_name : List (List ℕ) → StageNo → List ℕ
stage_name stages s = if has_name stages s then name_at stages s else codes "S" ++ decimal s.0

-- a stage or an interstage by its names
abbrev pub named_place : List (List ℕ) → StagePlace → List ℕ
named_place stages NoPlan = codes "-"
named_place stages (Stage s) = stage_name stages s
named_place stages (Inter a b t) = end_name stages a ++ codes "-" ++ end_name stages b

-- how many digits the number of a stage has
abbrev pub stage_digits : StageNo → ℕ
stage_digits s = if nat_lt s.0 10 then 1 else 2

-- how many letters a stage of an interstage has
abbrev pub end_letters : List (List ℕ) → StageNo → ℕ
end_letters stages s = if has_name stages s then length (name_at stages s) else stage_digits s

-- how many a stage has
abbrev pub stage_letters : List (List ℕ) → StageNo → ℕ
stage_letters stages s = if has_name stages s then length (name_at stages s) else 1 + stage_digits s

-- how many letters the name has
abbrev pub name_letters : List (List ℕ) → StagePlace → ℕ
name_letters stages NoPlan = 1
name_letters stages (Stage s) = stage_letters stages s
name_letters stages (Inter a b t) = 1 + end_letters stages a + end_letters stages b

-- the name in the middle of the stay
unfoldable pub stay_name : List (List ℕ) → Layout → Stay → List ℕ
stay_name stages layout s =
    label_begin (codes "m") (begin_of layout s + width_of layout s / 2) 73 ++ named_place stages s.shown ++ codes "</text>\n"

-- the name stands where the stay is wide enough
abbrev pub is_named : List (List ℕ) → Layout → Stay → Bool
is_named stages layout s = nat_le (name_letters stages s.shown * 7 + 4) (width_of layout s)

-- the name where there is room for it
abbrev pub stay_words : List (List ℕ) → Layout → Stay → List ℕ
stay_words stages layout s = if is_named stages layout s then stay_name stages layout s else []

-- what is told of a stay where one points at it
unfoldable pub stay_title : List (List ℕ) → Layout → Stay → List ℕ
stay_title stages layout s = codes "><title>" ++ named_place stages s.shown ++ times_text layout s ++ codes "</title></rect>\n"

-- a stay: a box, and its name
unfoldable pub stay_text : List (List ℕ) → Layout → Stay → List ℕ
stay_text stages layout s =
    box_begin (place_class s.shown) (begin_of layout s) 60 (width_of layout s) 18 ++ stay_title stages layout s ++ stay_words stages layout s

-- a stay that has some of the strip's seconds
abbrev pub seen_stay : List (List ℕ) → Layout → Stay → List ℕ
seen_stay stages layout s = if is_seen layout s then stay_text stages layout s else []

-- the stays, one after the other
abbrev pub band_text : List (List ℕ) → Layout → List Stay → List ℕ
band_text stages layout stays = flat_map (seen_stay stages layout) stays
