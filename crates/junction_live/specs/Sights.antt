-- What watchers tell at their end.
use Rattle.std.specs.Prelude.{◌≡◌, ℕ, ◌+◌, List, [], ◌∷◌, ◌++◌, length, codes, map, slice_get, Some, All}
use Rattle.std.specs.Fmt.{decimal}
use Rattle.sig_types.specs.declared.aspect.Aspect.{Aspect}
use Rattle.sig_types.specs.LogForm.{letter}
use Rattle.sig_types.specs.Turns.{History}

-- what a watcher saw last: a second, and the aspects of its picture
abbrev pub Sight : Type 0
Sight = ℕ × List Aspect

-- WATCH NUMBER SECOND ASPECTS, the line of the watcher of this number
abbrev pub watch_text : ℕ → Sight → List ℕ
watch_text number sight =
    codes "WATCH " ++ decimal number ++ codes " " ++ decimal sight.0 ++ codes " " ++ map letter sight.1 ++ codes "\n"

-- a line for each watcher, of which the first has this number
abbrev pub watches_from : ℕ → List Sight → List ℕ
watches_from number [] = []
watches_from number (sight ∷ sights) = watch_text number sight ++ watches_from (number + 1) sights

-- the picture is that of its second in this history
abbrev pub IsSight : History → Sight → Type 0
IsSight pictures sight = slice_get pictures sight.0 ≡ Some sight.1

-- what so many watchers saw of this history
pub record AreSights (watchers : ℕ) (pictures : History) (sights : List Sight) : Type 0 where
  pub count : length sights ≡ watchers
  pub each : All (IsSight pictures) sights
