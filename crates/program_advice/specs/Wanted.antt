-- What could stand in a place, in words.
use Rattle.std.specs.Prelude.{ℕ, ◌==◌, Bool, false, not, ◌&&◌, ◌||◌, if◌then◌else◌, List, [], ◌∷◌, ◌++◌, codes, drop}
use Rattle.std.specs.List.{list_any}
use Rattle.vap_parse.specs.declared.kind.Kind.{Kind}
use Rattle.program_advice.specs.declared.kinds.Class.{Class}
use Rattle.program_advice.specs.declared.kinds.Class.TheVariants as c
use Rattle.program_advice.specs.Kinds.{class_of, class_place, kind_word}

-- one of these kinds is of a class
abbrev pub has : List Kind → Class → Bool
has kinds class = list_any (λ kind. class_place (class_of kind) == class_place class) kinds

-- a class is told by the word of another one, where one of that is among these kinds
abbrev pub is_covered : List Kind → Class → Bool
is_covered kinds c.Alone = false
is_covered kinds c.Name = has kinds c.Reading || has kinds c.Command
is_covered kinds c.Operand = has kinds c.Reading
is_covered kinds c.If = has kinds c.Command
is_covered kinds c.End = false
is_covered kinds c.Command = has kinds c.Command
is_covered kinds c.Reading = has kinds c.Reading
is_covered kinds c.Assign = false
is_covered kinds c.Equal = has kinds c.Comparison
is_covered kinds c.Comparison = has kinds c.Comparison
is_covered kinds c.Sum = has kinds c.Factor
is_covered kinds c.Minus = has kinds c.Factor || has kinds c.Reading
is_covered kinds c.Factor = has kinds c.Factor

-- one that could stand, behind a comma and a blank
abbrev pub group_part : List ℕ → List ℕ
group_part word = codes ", " ++ word

-- the same, where it could
abbrev pub kinds_text : Bool → List ℕ → List ℕ
kinds_text can word = if can then group_part word else []

-- the word of one of these kinds, where no other word tells it
abbrev pub kind_part : List Kind → Kind → List ℕ
kind_part kinds kind = if is_covered kinds (class_of kind) then [] else group_part (kind_word kind)

-- the words of those of these kinds, one behind the other
abbrev pub each_part : List Kind → List Kind → List ℕ
each_part kinds [] = []
each_part kinds (kind ∷ more) = kind_part kinds kind ++ each_part kinds more

-- the name of an aspect is told: where one could stand, and no other name
abbrev pub is_aspect_told : List Kind → Bool → Bool
is_aspect_told kinds aspect = aspect && not (has kinds c.Name)

-- what could stand, each behind a comma and a blank: classes of kinds, kinds, and the name of an aspect
abbrev pub parts_text : List Kind → Bool → List ℕ
parts_text kinds aspect =
    kinds_text (has kinds c.Command) (codes "a statement") ++ kinds_text (has kinds c.Reading) (codes "a value")
    ++ kinds_text (has kinds c.Factor) (codes "an operator") ++ kinds_text (has kinds c.Comparison) (codes "a comparison")
    ++ each_part kinds kinds ++ kinds_text (is_aspect_told kinds aspect) (codes "the name of an aspect")

-- the same with a comma and a blank between
unfoldable pub wanted_list : List Kind → Bool → List ℕ
wanted_list kinds aspect = drop 2 (parts_text kinds aspect)
