-- Where things stand in a diagram, in units of the SVG.
use Rattle.std.specs.Prelude.{ℕ, ◌+◌, ◌-◌, ◌*◌, ◌/◌, ◌%◌, ◌<◌, ◌≤◌, ◌&&◌, Bool, List, length, min, max, nat_le, nat_lt}
use Rattle.std.specs.List.{fold}
use Rattle.log_svg.specs.declared.layout.Layout.{Layout}
use Rattle.log_svg.specs.declared.layout.Sheet.{Sheet}

-- ---- a part of the rows in a strip of the seconds

-- where a second begins
abbrev pub x_of : Layout → ℕ → ℕ
x_of layout t = layout.left + (t - layout.from) * layout.scale

-- the middle of a second
abbrev pub middle_of : Layout → ℕ → ℕ
middle_of layout t = x_of layout t + layout.scale / 2

-- where the last second ends
abbrev pub right_of : Layout → ℕ
right_of layout = x_of layout (layout.to + 1)

-- the strip has this second
abbrev pub has_second : Layout → ℕ → Bool
has_second layout t = nat_le layout.from t && nat_le t layout.to

-- the part has this row
abbrev pub has_row : Layout → ℕ → Bool
has_row layout row = nat_le layout.row row && nat_lt row (layout.row + layout.rows)

-- where a row begins; each is 20 high
abbrev pub y_of : Layout → ℕ → ℕ
y_of layout row = 84 + 20 * (row - layout.row)

-- where the last row ends
abbrev pub end_of : Layout → ℕ
end_of layout = 84 + 20 * layout.rows

-- at most 600 seconds, and numbers of a size that any sum of them fits
pub record IsLayout (layout : Layout) : Type 0 where
  pub order : layout.from ≤ layout.to
  pub short : layout.to < layout.from + 600
  pub last : layout.to < 1000000
  pub all : layout.last < 1000000
  pub left : 12 ≤ layout.left
  pub room : layout.left ≤ 1000
  pub least : 2 ≤ layout.scale
  pub scale : layout.scale ≤ 20
  pub few : layout.rows ≤ 200

-- ---- a whole diagram

-- the letters of the longest of these names
abbrev pub longest_of : List (List ℕ) → ℕ
longest_of names = fold (λ most name. max most (length name)) 0 names

-- where the first second begins, with room for the names at the left: 7 units a letter, and for 6 at least
abbrev pub left_of : List (List ℕ) → ℕ
left_of names = 24 + 7 * max 6 (longest_of names)

-- the units of a second: so many that these seconds have at most 1,200 of them together, but at most 20
abbrev pub scale_of : ℕ → ℕ
scale_of seconds = min 20 (1200 / seconds)

-- a third of the width: the seconds with what stands beside them, or the legend where that is wider
abbrev pub third_of : ℕ → ℕ → ℕ
third_of left plot = (max (left + plot + 24) 960 + 2) / 3

-- how many rows a part has: as many as a page has room for, which is two thirds as high as wide
abbrev pub each_of : ℕ → ℕ → ℕ
each_of rows third = max 1 (min rows ((2 * third - 164) / 20))

-- how high a panel is
abbrev pub pitch_of : ℕ → ℕ
pitch_of each = 90 + 20 * each

-- The sheet of so many rows and strips. As many panels stand on a page as have room below its head.
abbrev pub sheet_with : ℕ → ℕ → ℕ → ℕ → ℕ → ℕ → Sheet
sheet_with left scale third rows strips each = record {
  left = left;
  scale = scale;
  width = 3 * third;
  page = 2 * third;
  rows = rows;
  each = each;
  parts = (rows - 1) / each + 1;
  strips = strips;
  pitch = pitch_of each;
  fit = max 1 ((2 * third - 74) / pitch_of each);
}

-- a third of the width of strips of so many seconds
abbrev pub third_by : ℕ → ℕ → ℕ
third_by left seconds = third_of left (seconds * scale_of seconds)

-- the sheet of strips that have so many seconds
abbrev pub sheet_by : ℕ → ℕ → ℕ → ℕ → Sheet
sheet_by left seconds rows strips =
    sheet_with left (scale_of seconds) (third_by left seconds) rows strips (each_of rows (third_by left seconds))

-- where panel n begins: the panels stand one below the other, and none over the end of a page
abbrev pub top_of : Sheet → ℕ → ℕ
top_of sheet n = 50 + n / sheet.fit * sheet.page + n % sheet.fit * sheet.pitch

-- how high the picture is
abbrev pub height_of : Sheet → ℕ
height_of sheet = top_of sheet (sheet.strips * sheet.parts - 1) + sheet.pitch + 24

-- numbers of a size that any sum of them fits
pub record IsSheet (sheet : Sheet) : Type 0 where
  pub left : 12 ≤ sheet.left
  pub room : sheet.left ≤ 1000
  pub least : 2 ≤ sheet.scale
  pub scale : sheet.scale ≤ 20
  pub width : sheet.width ≤ 3000
  pub page : sheet.page ≤ 2000
  pub rows : sheet.rows ≤ 129
  pub some : 1 ≤ sheet.each
  pub each : sheet.each ≤ 129
  pub part : 1 ≤ sheet.parts
  pub parts : sheet.parts ≤ 129
  pub strip : 1 ≤ sheet.strips
  pub strips : sheet.strips ≤ 3600
  pub pitch : sheet.pitch ≤ 2670
  pub fit : 1 ≤ sheet.fit
