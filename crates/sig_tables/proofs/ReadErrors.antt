-- Why a reader of records of any length stops.
use Rattle.std.proofs.Common.{◌≡◌, ℕ, List, Some, true, false, sym, ◌∙◌, Bor}
use Rattle.std.proofs.lemmas.Bool.{false≢true}
use Rattle.csv.specs.Reading.{ExplainsRead}
use Rattle.csv.specs.declared.reader.Reader.{Reader}
use Rattle.csv.specs.declared.error.ErrorKind.{ErrorKind}
use Rattle.csv.specs.declared.error.ErrorKind.TheVariants as kind
use Rattle.sig_tables.specs.Records.{IsOfMemory}

pub of_memory : (k : ErrorKind) (old new : Reader (Bor (List ℕ))) → old.flexible ≡ true → ExplainsRead (λ (s : Bor (List ℕ)). Some s.now) old new false k → IsOfMemory k
of_memory (kind.Io e) old new flexible why = tt
of_memory kind.OutOfMemory old new flexible why = tt
of_memory (kind.Utf8 pos err) old new flexible why = false≢true why.0
of_memory (kind.UnequalLengths pos expected len) old new flexible why = false≢true (sym why.0 ∙ flexible)
of_memory (kind.Serialize said) old new flexible why = why
of_memory (kind.Deserialize pos err) old new flexible why = why
