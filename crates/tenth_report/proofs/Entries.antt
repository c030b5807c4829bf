-- A search over the entries of a record.
use Rattle.std.proofs.Common.{◌≡◌, ◌∙◌, ℕ, ◌+◌, ◌-◌, ◌<◌, ◌≤◌, List, [], ◌∷◌, ◌++◌, Option, None, Some, Err, refl, sym, ap, subst, append_assoc, arith}
use Rattle.sig_types.specs.Rules.{Rules}
use Rattle.report_words.specs.declared.stop.JudgeStop.TheVariants.{Words, Memory, Site, ReadFault, RefusedLine, WriteFault}
use Rattle.tenth_records.specs.declared.entry.Entry.{Entry}
use Rattle.tenth_records.specs.declared.entry.Shown.{Shown}
use Rattle.tenth_records.specs.declared.entry.Shown.TheVariants.{Picture, Unknown, End}
use Rattle.tenth_records.specs.declared.entry.TenthStop.{TenthStop}
use Rattle.tenth_records.specs.declared.entry.TenthStop.TheVariants as tenth
use Rattle.tenth_records.specs.Answers.{IsNext, told_end}
use Rattle.tenth_records.specs.Parts.{parts_in, parts_of, pictures_from, unknown_in, unknown_to}
use Rattle.tenth_records.specs.Record.{Told, entry_then, first_or}
use Rattle.tenth_report.specs.declared.search.Search.{Search}
use Rattle.tenth_report.specs.declared.stop.RecordStop.{RecordStop}
use Rattle.tenth_report.specs.declared.stop.RecordStop.TheVariants.{Judge, RefusedEntry}
use Rattle.tenth_report.specs.Search.{Fits, HasFound, HasRoom, HasTaken}
use Rattle.tenth_report.specs.Stops.{IsReadFault, IsRecordStop, IsStopOf, IsWriteFault}

-- the search has taken all entries from this first time on, up to the earliest time that may follow
abbrev pub FitsAt : Search → Option ℕ → ℕ → Type 0
FitsAt s None next = ((begin : ℕ) → Fits s begin) × (s.at ≡ 0) × (next ≡ 0)
FitsAt s (Some first) next = Fits s first × (next ≡ s.at + 1) × (first ≤ s.at)

-- the next entry has room
pub room_at : (s : Search) (first : Option ℕ) (next at : ℕ) → FitsAt s first next → next ≤ at → at ≤ first_or first at + 6048000 → HasRoom s at
room_at s None next at is later week =
    record { begin = at; fits = is.0 at; later = omega (arith, is.1); begun = omega arith; week = omega arith }
room_at s (Some first) next at is later week =
    record { begin = first; fits = is.0; later = omega (arith, is.1, later); begun = omega (arith, is.1, is.2, later); week = week }

-- and fits behind it
pub fits_next : (s t : Search) (first : Option ℕ) (next at : ℕ) → FitsAt s first next → next ≤ at → at ≤ first_or first at + 6048000 → t.at ≡ at →
    ((begin : ℕ) → Fits s begin → begin ≤ at → at ≤ begin + 6048000 → Fits t begin) → FitsAt t (Some (first_or first at)) (at + 1)
fits_next s t None next at is later week same on =
    (on at (is.0 at) (omega arith) (omega arith), ap (λ n. n + 1) (sym same), omega (arith, same))
fits_next s t (Some first) next at is later week same on =
    (on first is.0 (omega (arith, is.1, is.2, later)) week, ap (λ n. n + 1) (sym same), omega (arith, same, is.1, is.2, later))

-- as many tenths as may still come
abbrev pub left_in : Option ℕ → ℕ → ℕ
left_in None next = 6048003
left_in (Some first) next = first + 6048002 - next

pub fewer : (first : Option ℕ) (next at : ℕ) → next ≤ at → at ≤ first_or first at + 6048000 →
    left_in (Some (first_or first at)) (at + 1) < left_in first next
fewer None next at later week = omega arith
fewer (Some first) next at later week = omega (arith, later, week)

-- one entry more was taken
pub one_taken : (r : Rules) (s t : Search) (past : List Entry) (e : Entry) → ((rest : List Entry) → HasTaken r s (past ++ rest) rest) →
    ((all rest : List Entry) → HasTaken r s all (e ∷ rest) → HasTaken r t all rest) → (rest : List Entry) → HasTaken r t ((past ++ e ∷ []) ++ rest) rest
one_taken r s t past e taken take rest =
    subst (λ (xs : List Entry). HasTaken r t xs rest) (sym (append_assoc past (e ∷ []) rest)) (take (past ++ (e ∷ rest)) rest (taken (e ∷ rest)))

pub read_on : (all old new : Told) (past : List Entry) (e : Entry) → old ≡ entry_then e new → all.entries ≡ past ++ old.entries →
    all.entries ≡ (past ++ e ∷ []) ++ new.entries
read_on all old new past e is was = was ∙ ap (λ (t : Told). past ++ t.entries) is ∙ sym (append_assoc past (e ∷ []) new.entries)

pub refused_on : (all old new : Told) (e : Entry) → old ≡ entry_then e new → all.refused ≡ old.refused → all.refused ≡ new.refused
refused_on all old new e is was = was ∙ ap (λ (t : Told). t.refused) is

same_told : (a b : Told) → a.entries ≡ b.entries → a.refused ≡ b.refused → a ≡ b
same_told a b entries refused =
    let x : Told = record { entries = a.entries; refused = a.refused } in
    let y : Told = record { entries = b.entries; refused = b.refused } in
    let same : x ≡ y = rw (entries, refused) refl in
    same

-- all entries were read
pub read_whole : (all old : Told) (past : List Entry) → old ≡ told_end None → all.entries ≡ past ++ old.entries → all.refused ≡ old.refused →
    all ≡ record { entries = past ++ []; refused = None }
read_whole all old past is entries refused =
    same_told all (record { entries = past ++ []; refused = None }) (entries ∙ ap (λ (t : Told). past ++ t.entries) is)
    (refused ∙ ap (λ (t : Told). t.refused) is)

-- none is left
none_left : (at : ℕ) (shown : Shown) → unknown_to at shown [] + unknown_in [] ≡ 0
unfolding unknown_in
none_left at (Picture p) = refl
none_left at Unknown = refl
none_left at End = refl

no_pictures : (at : ℕ) (shown : Shown) → pictures_from at shown [] ≡ []
unfolding pictures_from
no_pictures at shown = refl

pub whole_taken : (r : Rules) (s : Search) (all : List Entry) → HasTaken r s all [] → HasFound r s (parts_of all) (unknown_in all) [] [] 0
unfolding parts_in
whole_taken r s all h =
    subst (λ n. HasFound r s (parts_of all) (unknown_in all) [] [] n) (none_left s.at s.shown)
    (subst (λ x. HasFound r s (parts_of all) (unknown_in all) x [] (unknown_to s.at s.shown [] + unknown_in [])) (no_pictures s.at s.shown) h)

-- why a record is read no further
pub stopped_so : (word : List ℕ) (all old new : Told) (s : TenthStop) (t : RecordStop) → IsStopOf word s t → IsNext old new (Err s) →
    all.refused ≡ old.refused → IsRecordStop word all t
stopped_so word all old new tenth.Memory t of is refused = absurd is
stopped_so word all old new tenth.Fault (Judge Words) of is refused = absurd of
stopped_so word all old new tenth.Fault (Judge Memory) of is refused = absurd of
stopped_so word all old new tenth.Fault (Judge (Site stop)) of is refused = absurd of
stopped_so word all old new tenth.Fault (Judge (ReadFault w)) of is refused = of
stopped_so word all old new tenth.Fault (Judge (RefusedLine w line why)) of is refused = absurd of
stopped_so word all old new tenth.Fault (Judge WriteFault) of is refused = absurd of
stopped_so word all old new tenth.Fault (RefusedEntry w line why) of is refused = absurd of
stopped_so word all old new (tenth.At line why) (Judge stop) of is refused = absurd of
stopped_so word all old new (tenth.At line why) (RefusedEntry w line' why') of is refused =
    (of.0, rw (of.1, of.2) (refused ∙ ap (λ (t : Told). t.refused) is))

-- only a read that failed is told as one
pub fault_of : (A : Type 0) (word : List ℕ) (s : TenthStop) (t : RecordStop) → IsStopOf word s t → IsReadFault {A = A} (Err t) → s ≡ tenth.Fault
fault_of A word tenth.Memory t of is = absurd (subst (λ t. IsReadFault {A = A} (Err t)) of is)
fault_of A word tenth.Fault t of is = refl
fault_of A word (tenth.At line why) (Judge stop) of is = absurd of
fault_of A word (tenth.At line why) (RefusedEntry w line' why') of is = absurd is

-- and none as a write that failed
pub no_write_of : (A : Type 0) (word : List ℕ) (s : TenthStop) (t : RecordStop) → IsStopOf word s t → IsWriteFault {A = A} (Err t) → ⊥
no_write_of A word tenth.Memory t of is = subst (λ t. IsWriteFault {A = A} (Err t)) of is
no_write_of A word tenth.Fault (Judge Words) of is = is
no_write_of A word tenth.Fault (Judge Memory) of is = is
no_write_of A word tenth.Fault (Judge (Site stop)) of is = is
no_write_of A word tenth.Fault (Judge (ReadFault w)) of is = is
no_write_of A word tenth.Fault (Judge (RefusedLine w line why)) of is = is
no_write_of A word tenth.Fault (Judge WriteFault) of is = of
no_write_of A word tenth.Fault (RefusedEntry w line why) of is = is
no_write_of A word (tenth.At line why) (Judge stop) of is = absurd of
no_write_of A word (tenth.At line why) (RefusedEntry w line' why') of is = is
