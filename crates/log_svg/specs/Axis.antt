-- The lines down and the labels of the seconds, above and below the rows.
use Rattle.std.specs.Prelude.{zero, suc, ℕ, ◌+◌, ◌*◌, ◌%◌, ◌==◌, List, [], ◌++◌, codes, Option, if◌then◌else◌, nat_le}
use Rattle.std.specs.Fmt.{decimal}
use Rattle.log_svg.specs.declared.layout.Layout.{Layout}
use Rattle.log_svg.specs.Layout.{x_of}
use Rattle.log_svg.specs.Svg.{label_text, upright_text}
use Rattle.log_svg.specs.Words.{below_text, moment_of}

-- every how many seconds a label stands, so that labels are at least 60 units apart
abbrev pub label_step : ℕ → ℕ
label_step scale =
    if nat_le 60 (5 * scale) then 5 else (if nat_le 60 (10 * scale) then 10 else (if nat_le 60 (20 * scale) then 20 else 30))

-- every how many seconds a tick stands
abbrev pub tick_step : ℕ → ℕ
tick_step scale = if nat_le 8 scale then 1 else 5

-- above the beginning of a second: a thin line through all rows and a tick where it has a label, a short tick, or nothing
abbrev pub tick_above : Layout → ℕ → ℕ → List ℕ
tick_above layout end t =
    if t % label_step layout.scale == 0
    then upright_text (codes "b") (x_of layout t) 44 (end + 2) ++ upright_text (codes "c") (x_of layout t) 42 50
    else (if t % tick_step layout.scale == 0 then upright_text (codes "c") (x_of layout t) 46 50 else [])

-- below it: by its time of the day where that is known, so that full minutes have labels
abbrev pub tick_below : Option ℕ → Layout → ℕ → ℕ → List ℕ
tick_below begin layout end t =
    if moment_of begin t % label_step layout.scale == 0 then upright_text (codes "c") (x_of layout t) (end + 2) (end + 10)
    else (if moment_of begin t % tick_step layout.scale == 0 then upright_text (codes "c") (x_of layout t) (end + 2) (end + 6) else [])

-- the label above: its number
abbrev pub label_above : Layout → ℕ → List ℕ
label_above layout t = if t % label_step layout.scale == 0 then label_text (codes "l") (x_of layout t) 39 (decimal t) else []

-- the label below: its time of the day, or its number
abbrev pub label_below : Option ℕ → Layout → ℕ → ℕ → List ℕ
label_below begin layout end t =
    if moment_of begin t % label_step layout.scale == 0 then label_text (codes "l") (x_of layout t) (end + 20) (below_text begin t) else []

-- what stands at the beginning of a second
abbrev pub second_text : Option ℕ → Layout → ℕ → ℕ → List ℕ
second_text begin layout end t = tick_above layout end t ++ tick_below begin layout end t ++ label_above layout t ++ label_below begin layout end t

-- the first n seconds, one after the other
unfoldable pub axis_text : Option ℕ → Layout → ℕ → ℕ → List ℕ
axis_text begin layout end zero = []
axis_text begin layout end (suc n) = axis_text begin layout end n ++ second_text begin layout end (layout.from + n)
