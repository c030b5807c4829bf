-- What is gathered of a record, behind some of its entries.
use Rattle.std.specs.Prelude.{◌≡◌, ℕ, List, [], Option, None, Some}
use Rattle.sig_io.specs.Outside.{Contents}
use Rattle.tenth_records.specs.declared.entry.Entry.{Entry}
use Rattle.tenth_records.specs.Parts.{parts_of}
use Rattle.tenth_records.specs.Record.{Told}
use Rattle.log_protocol.specs.Came.{extremes}
use Rattle.log_protocol.specs.Parts.{known_in}
use Rattle.log_protocol.specs.Totals.{AreTotalsOf}
use Rattle.tenth_report.specs.declared.gathering.Gathered.{Gathered}
use Rattle.tenth_report.specs.declared.gathering.Gathering.{Gathering}
use Rattle.tenth_report.specs.Gaps.{gaps_of}
use Rattle.tenth_report.specs.Pages.{AreNew}
use Rattle.tenth_report.specs.Protocol.{first_time}

-- before the first entry
pub record IsNew (g : Gathering) (groups : ℕ) : Type 0 where
  pub pages : AreNew g.pages groups
  pub begin : g.begin ≡ None
  pub came : g.gaps.came ≡ extremes []
  pub since : g.gaps.since ≡ None

-- what came in a record of so many groups with these entries
pub record IsGathered (groups : ℕ) (entries : List Entry) (gathered : Gathered) : Type 0 where
  pub totals : AreTotalsOf gathered.totals groups (parts_of entries)
  pub known : gathered.known ≡ known_in (parts_of entries)
  pub first : gathered.first ≡ first_time entries
  pub unknown : gathered.unknown ≡ extremes (gaps_of entries)

-- the entries of a record of which the lines behind its header tell this, where its file tells what it holds, and what came in them
pub record HasCome (groups : ℕ) (told : Option Contents) (left : Contents → Told) (gathered : Gathered) : Type 0 where
  pub entries : List Entry
  pub are : IsGathered groups entries gathered
  pub read : (file : Contents) → told ≡ Some file → left file ≡ record { entries = entries; refused = None }
