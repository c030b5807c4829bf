-- What the pages of the parts of a record stand for, behind some of its entries.
use Rattle.std.specs.Prelude.{◌≡◌, ℕ, ◌+◌, ◌-◌, ◌≤◌, true, false, List, [], ◌++◌, length}
use Rattle.sig_types.specs.Turns as turns
use Rattle.tenth_records.specs.declared.entry.Entry.{Entry}
use Rattle.tenth_records.specs.declared.entry.Shown.TheVariants.{End}
use Rattle.tenth_records.specs.Answers.{IsSized}
use Rattle.tenth_records.specs.Parts.{Part, is_known, parts_in, parts_of, pictures_from}
use Rattle.tenth_records.specs.Record.{is_end}
use Rattle.log_protocol.specs.Page.{IsPageOf, groups_of, seconds_of}
use Rattle.log_protocol.specs.Parts.{known_in}
use Rattle.log_protocol.specs.Totals.{AreTotalsOf}
use Rattle.tenth_report.specs.declared.pages.Pages.{Pages}
use Rattle.tenth_report.specs.Search.{with_open}

-- The parts that are over are in the totals, and the pictures so far of the part that isn't on the page; together with the pictures
-- still to come in it and the parts behind it these are all parts of the record.
pub record HasGathered (p : Pages) (all : List Part) (more : turns.History) (rest : List Part) : Type 0 where
  pub over : List Part
  pub now : turns.History
  pub totals : AreTotalsOf p.totals (groups_of p.page) over
  pub page : IsPageOf p.page now
  pub known : p.known ≡ known_in over + length now
  pub left : all ≡ over ++ with_open (is_known p.shown) p.first now more rest
  pub none : is_known p.shown ≡ false → now ≡ []

-- of all entries of a record those before these were taken
abbrev pub HasTaken : Pages → (all rest : List Entry) → Type 0
HasTaken p all rest = HasGathered p (parts_of all) (pictures_from p.at p.shown rest) (parts_in (is_known p.shown) rest)

-- the page has these groups, and so have the pictures
pub record IsOf (p : Pages) (groups : ℕ) : Type 0 where
  pub page : groups_of p.page ≡ groups
  pub count : p.groups ≡ groups
  pub sized : IsSized groups p.shown
  pub few : groups ≤ 64

-- in a record whose first time is this, no more tenths were counted than passed since, and at most a week
pub record Fits (p : Pages) (begin : ℕ) : Type 0 where
  pub span : p.known ≤ p.at - begin
  pub week : p.at ≤ begin + 6048000
  pub begun : is_end p.shown ≡ false → begin ≤ p.at
  pub inside : is_known p.shown ≡ true → p.first + seconds_of p.page ≡ p.at
  pub outside : is_known p.shown ≡ false → seconds_of p.page ≡ 0
  pub counted : seconds_of p.page ≤ p.known

-- this time comes later, and at most a week after the first one
pub record HasRoom (p : Pages) (to : ℕ) : Type 0 where
  pub begin : ℕ
  pub fits : Fits p begin
  pub later : p.at ≤ to
  pub begun : begin ≤ to
  pub week : to ≤ begin + 6048000

-- before the first entry
pub record AreNew (p : Pages) (groups : ℕ) : Type 0 where
  pub of : IsOf p groups
  pub shown : p.shown ≡ End
  pub at : p.at ≡ 0
  pub none : seconds_of p.page ≡ 0
  pub page : IsPageOf p.page []
  pub totals : AreTotalsOf p.totals groups []
  pub known : p.known ≡ 0
