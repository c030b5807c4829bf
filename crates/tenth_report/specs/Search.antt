-- What a search has found in a record, behind some of its entries.
use Rattle.std.specs.Prelude.{◌≡◌, ℕ, ◌+◌, ◌-◌, ◌≤◌, Bool, true, false, List, [], ◌∷◌, ◌++◌, map, length, Option, None, Some}
use Rattle.sig_io.specs.Outside.{Contents}
use Rattle.sig_types.specs.Rules.{Rules}
use Rattle.sig_types.specs.Turns as turns
use Rattle.sig_tables.specs.Limits.{Numbers}
use Rattle.sig_tables.specs.SiteRules.{rules_of}
use Rattle.log_judge.specs.declared.breach.Breach.{Breach}
use Rattle.log_judge.specs.declared.find.Terms.{Terms}
use Rattle.log_judge.specs.declared.judge.Judge.{Judge}
use Rattle.log_judge.specs.Breaches.{breaches_within}
use Rattle.log_judge.specs.Stands.{StandsFor, groups_of, seconds_of, terms_of}
use Rattle.tenth_records.specs.declared.entry.Entry.{Entry}
use Rattle.tenth_records.specs.declared.entry.Shown.{Shown}
use Rattle.tenth_records.specs.declared.entry.Shown.TheVariants.{Picture, Unknown, End}
use Rattle.tenth_records.specs.Answers.{IsSized}
use Rattle.tenth_records.specs.Parts.{Part, is_known, parts_in, parts_of, pictures_from, unknown_in, unknown_to}
use Rattle.tenth_records.specs.Record.{Told, is_end}
use Rattle.tenth_report.specs.declared.search.Found.{Found}
use Rattle.tenth_report.specs.declared.search.JudgedPart.{JudgedPart}
use Rattle.tenth_report.specs.declared.search.Search.{Search}
use Rattle.log_protocol.specs.Parts.{known_in}
use Rattle.log_protocol.specs.Came.{unknown_past}
use Rattle.tenth_report.specs.Breaches.{all_breaches, part_breaches}

-- the rules of tables in tenths
abbrev pub rules_in : Numbers → Rules
rules_in n = rules_of n.times n.pairs

-- these are the breaches before, and those that are complete within the pictures that a judge has seen
pub record IsJudged (r : Rules) (k : Terms) (before : List Breach) (h : turns.History) (judge : Judge) (found : List Breach) : Type 0 where
  pub stands : StandsFor judge h
  pub found_are : found ≡ before ++ breaches_within r k h

-- what is kept of a part that was judged
abbrev pub kept : Rules → ℕ → Part → JudgedPart
kept r tolerance part = record {
  first = part.first;
  tenths = length part.pictures;
  count = length (part_breaches r tolerance part);
}

-- the part that isn't over, where there is one, with the pictures that are still to come in it, and the parts behind it
abbrev pub with_open : Bool → ℕ → (now more : turns.History) → List Part → List Part
with_open true first now more rest = record { first = first; pictures = now ++ more } ∷ rest
with_open false first now more rest = rest

-- The breaches of the parts that are over were found, and those of the pictures so far of the part that isn't; together with the
-- pictures still to come in it and the parts behind it these are all parts of the record. So with the tenths of which nothing is known.
pub record HasFound (r : Rules) (s : Search) (all : List Part) (unknown : ℕ) (more : turns.History) (rest : List Part) (to_come : ℕ) : Type 0 where
  pub over : List Part
  pub now : turns.History
  pub judged : IsJudged r (unknown_past s.tolerance) (all_breaches r s.tolerance over) now s.judge s.found.breaches.items
  pub parts : s.found.parts.items ≡ map (kept r s.tolerance) over
  pub count : s.over ≡ length (all_breaches r s.tolerance over)
  pub left : all ≡ over ++ with_open (is_known s.shown) s.first now more rest
  pub known : s.found.known ≡ known_in over + length now
  pub unknown_is : unknown ≡ s.found.unknown + to_come
  pub none : is_known s.shown ≡ false → now ≡ []

-- of all entries of a record those before these were taken
abbrev pub HasTaken : Rules → Search → (all rest : List Entry) → Type 0
HasTaken r s all rest =
    HasFound r s (parts_of all) (unknown_in all) (pictures_from s.at s.shown rest) (parts_in (is_known s.shown) rest)
    (unknown_to s.at s.shown rest + unknown_in rest)

-- the tenths of which nothing is known, with these in which this is shown
abbrev pub unknown_then : ℕ → Shown → ℕ → ℕ
unknown_then n (Picture picture) more = more
unknown_then n Unknown more = n + more
unknown_then n End more = more

-- the tables have the groups of the pictures, and the judge knows the tolerance
pub record IsFor (s : Search) (n : Numbers) : Type 0 where
  pub times : length n.times ≡ groups_of s.judge
  pub pairs : n.pairs.count ≡ groups_of s.judge
  pub sized : IsSized (groups_of s.judge) s.shown
  pub terms : terms_of s.judge ≡ unknown_past s.tolerance
  pub tolerance : s.tolerance ≤ 90

-- in a record whose first time is this, no more tenths were counted than passed since, and at most a week
pub record Fits (s : Search) (begin : ℕ) : Type 0 where
  pub span : s.found.known + s.found.unknown ≤ s.at - begin
  pub week : s.at ≤ begin + 6048000
  pub begun : is_end s.shown ≡ false → begin ≤ s.at
  pub inside : is_known s.shown ≡ true → s.first + seconds_of s.judge ≡ s.at
  pub after : is_known s.shown ≡ true → begin ≤ s.first
  pub outside : is_known s.shown ≡ false → seconds_of s.judge ≡ 0

-- this time comes later, and at most a week after the first one
pub record HasRoom (s : Search) (to : ℕ) : Type 0 where
  pub begin : ℕ
  pub fits : Fits s begin
  pub later : s.at ≤ to
  pub begun : begin ≤ to
  pub week : to ≤ begin + 6048000

-- before the first entry
pub record IsNew (s : Search) (groups tolerance : ℕ) : Type 0 where
  pub groups_are : groups_of s.judge ≡ groups
  pub tolerance_is : s.tolerance ≡ tolerance
  pub terms : terms_of s.judge ≡ unknown_past tolerance
  pub shown : s.shown ≡ End
  pub at : s.at ≡ 0
  pub none : seconds_of s.judge ≡ 0
  pub stands : StandsFor s.judge []
  pub no_breaches : s.found.breaches.items ≡ []
  pub no_parts : s.found.parts.items ≡ []
  pub no_count : s.over ≡ 0
  pub no_known : s.found.known ≡ 0
  pub no_unknown : s.found.unknown ≡ 0

-- the breaches of a record with these entries, by these rules with this tolerance
pub record AreFound (r : Rules) (tolerance : ℕ) (entries : List Entry) (found : Found) : Type 0 where
  pub breaches : found.breaches.items ≡ all_breaches r tolerance (parts_of entries)
  pub parts : found.parts.items ≡ map (kept r tolerance) (parts_of entries)
  pub known : found.known ≡ known_in (parts_of entries)
  pub unknown : found.unknown ≡ unknown_in entries

-- the entries of a record of which the lines behind its header tell this, where its file tells what it holds, and what was found in them
pub record IsSearched (r : Rules) (tolerance : ℕ) (told : Option Contents) (left : Contents → Told) (found : Found) : Type 0 where
  pub entries : List Entry
  pub are : AreFound r tolerance entries found
  pub read : (file : Contents) → told ≡ Some file → left file ≡ record { entries = entries; refused = None }
