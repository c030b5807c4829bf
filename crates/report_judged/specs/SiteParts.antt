-- What a site gives a diagram.
use Rattle.std.specs.Prelude.{zero, suc, ℕ, List, [], ◌∷◌, ◌++◌, ◌&&◌, codes, if◌then◌else◌, length, map, nat_le}
use Rattle.site_load.specs.Loading.{Site}
use Rattle.log_svg.specs.Words.{Looked}
use Rattle.sig_tables.specs.declared.times.TimesRow.{TimesRow}
use Rattle.sig_tables.specs.TimesTable.{row_of}

-- the minimum greens of the first n groups
unfoldable pub minimums_to : (ℕ → ℕ) → ℕ → List ℕ
minimums_to minimum zero = []
minimums_to minimum (suc n) = minimums_to minimum n ++ minimum n ∷ []

-- a word as a name, which has 1 to 32 bytes; a dash for another one, which no plan has
abbrev pub short_name : List ℕ → List ℕ
short_name word = if nat_le 1 (length word) && nat_le (length word) 32 then word else codes "-"

-- the same of each word
abbrev pub short_names : List (List ℕ) → List (List ℕ)
short_names words = map short_name words

-- how a diagram is to look with these times and names of stages
abbrev pub look_by : List TimesRow → List (List ℕ) → Looked → Looked
look_by times stages look = record {
  strip = look.strip;
  title = look.title;
  begin = look.begin;
  minimums = minimums_to (λ g. (row_of times g).min) (length times);
  stages = stages;
}

-- how a diagram is to look with a site: with the minimum greens of its groups and the names of its stages
abbrev pub look_at : Site → Looked → Looked
look_at site look = record {
  strip = look.strip;
  title = look.title;
  begin = look.begin;
  minimums = minimums_to site.rules.minimum_green site.rules.count;
  stages = site.plan.stage_names;
}
