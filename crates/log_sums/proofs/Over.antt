-- Parts with a record more.
use Rattle.std.proofs.Common.{◌≡◌, ◌∙◌, ℕ, zero, suc, ◌+◌, ◌<◌, ◌≤◌, Bool, true, false, eqb, List, [], ◌∷◌, ◌++◌, length, get_or, refl, sym, ap, subst, arith, length-append, eqb-true, lt-ltb}
use Rattle.std.specs.Prelude.{min}
use Rattle.std.proofs.lemmas.List.{take-append-le}
use Rattle.std.proofs.lemmas.Bool.{eqb-false, ltb-true}
use Rattle.sig_types.specs.declared.record.Record.{Record}
use Rattle.log_sums.specs.declared.serves.Serve.{Serve}
use Rattle.log_sums.specs.declared.sums.LogSums.{LogSums}
use Rattle.log_sums.specs.Adding.{AddsUpTo}
use Rattle.log_sums.specs.Serves.{serves_of}
use Rattle.log_sums.specs.Summed.{AreSumsOf}
use Rattle.log_sums.specs.declared.parts.PartSums.{PartSums}
use Rattle.log_sums.specs.PartsAdding.{IsOver, PartsUpTo}
use Rattle.log_sums.specs.Parts.{AreParts, begin_of, end_of}

-- what holds of each item of a list, by its place, and of one more
pub each_more : {A : Type 0} (P : ℕ → A → Type 0) (xs : List A) (y : A) → ((i : ℕ) (d : A) → i < length xs → P i (get_or xs i d)) → P (length xs) y →
    (i : ℕ) (d : A) → i < length (xs ++ y ∷ []) → P i (get_or (xs ++ y ∷ []) i d)
each_more P [] y before here zero d inside = here
each_more P [] y before here (suc i) d inside = absurd (omega (arith, inside))
each_more P (x ∷ xs) y before here zero d inside = before zero d (omega arith)
each_more P (x ∷ xs) y before here (suc i) d inside =
    each_more (λ j. P (suc j)) xs y (λ j e less. before (suc j) e (omega (arith, less))) here i d (omega (arith, inside))

pub count_more : {A : Type 0} (xs : List A) (y : A) → length (xs ++ y ∷ []) ≡ suc (length xs)
count_more xs y = omega (arith, length-append xs (y ∷ []))

-- a part that is over stays as it is
pub over_more : (groups from to : ℕ) (records : List Record) (r : Record) (x : LogSums) → IsOver groups from to records x →
    IsOver groups from to (records ++ r ∷ []) x
over_more groups from to records r x is =
    let past : to < length records = ltb-true to (length records) (sym is.0.goes_on ∙ is.1) in
    let most : to ≤ length records = omega (arith, past) in
    let later : to < length (records ++ r ∷ []) = omega (arith, past, length-append records (r ∷ [])) in (
      record {
        from_is = is.0.from_is;
        to_is = is.0.to_is;
        sums = rw (take-append-le to records (r ∷ []) most) is.0.sums;
        goes_on = is.1 ∙ sym (lt-ltb to (length (records ++ r ∷ [])) later);
      },
      is.1,
    )

-- a part is over where a record comes behind its last second
pub ends : (groups from to : ℕ) (records : List Record) (r : Record) (old over : LogSums) → AddsUpTo groups from to records old → to ≤ length records →
    over ≡ record {
      from = old.from;
      to = old.to;
      seconds = old.seconds;
      goes_on = true;
      groups = old.groups;
      detectors = old.detectors;
      places = old.places;
      commands = old.commands;
      turns = old.turns;
      rules = old.rules;
      early = old.early;
      faults = old.faults;
      serves = old.serves;
    } →
    IsOver groups from to (records ++ r ∷ []) over
ends groups from to records r old over is most same =
    let later : to < length (records ++ r ∷ []) = omega (arith, most, length-append records (r ∷ [])) in
    rw same (
      record {
        from_is = is.from_is;
        to_is = is.to_is;
        sums = rw (take-append-le to records (r ∷ []) most) record {
          seconds_are = is.sums.seconds_are;
          groups_are = is.sums.groups_are;
          size = is.sums.size;
          detectors_are = is.sums.detectors_are;
          places_are = is.sums.places_are;
          commands_are = is.sums.commands_are;
          turns_are = is.sums.turns_are;
          rules_are = is.sums.rules_are;
          early_are = is.sums.early_are;
          others_are = is.sums.others_are;
          faults_are = is.sums.faults_are;
          serves_are = is.sums.serves_are;
        };
        goes_on = sym (lt-ltb to (length (records ++ r ∷ [])) later);
      },
      refl,
    )

-- where a part ends before the last second that counts, all records lie before the next one, which begins behind them
pub ended : (from each to n k e : ℕ) → 1 ≤ each → e ≡ end_of from each to k → e < n + 1 → e < to → min to n ≤ end_of from each to k →
    (e ≡ n) × (begin_of from each (suc k) ≡ n + 1)
ended from each to n k e some is past less enough =
    let same : e ≡ n = omega (arith, some, is, past, less, enough) in
    (same, omega (arith, some, is, past, less, enough))

-- the beginnings with one more
begun_at : (from each to n k i : ℕ) (here : Bool) → eqb i (suc k) ≡ here → i ≤ suc k → (i ≤ k → begin_of from each i ≤ min to n) →
    begin_of from each (suc k) ≤ min to (n + 1) → begin_of from each i ≤ min to (n + 1)
begun_at from each to n k i true e most before next = subst (λ (j : ℕ). begin_of from each j ≤ min to (n + 1)) (sym (eqb-true i (suc k) e)) next
begun_at from each to n k i false e most before next =
    let within : i ≤ k = omega (arith, eqb-false i (suc k) e, most) in
    omega (arith, before within)

-- a part that is over, and the next one with its first record
pub part_more : (groups from each to e : ℕ) (serves : List Serve) (records : List Record) (r : Record) (old new : PartSums) (over : LogSums) → 1 ≤ each →
    PartsUpTo groups from each to serves records old → e ≡ old.current.to → e < length records + 1 → e < to → new.each ≡ old.each → new.to ≡ old.to →
    new.over.items ≡ old.over.items ++ over ∷ [] →
    IsOver groups (begin_of from each (length old.over.items)) (end_of from each to (length old.over.items)) (records ++ r ∷ []) over →
    AddsUpTo groups (length records + 1) (min to (e + each)) (records ++ r ∷ []) new.current → over.serves.items ≡ old.current.serves.items →
    serves_of new.current.serves.items ≡ serves_of old.current.serves.items → PartsUpTo groups from each to serves (records ++ r ∷ []) new
part_more groups from each to e serves records r old new over some is end past less each_same to_same items over_is next over_same same =
    let n = length records in
    let k = length old.over.items in
    let rs = records ++ r ∷ [] in
    let size : length rs ≡ n + 1 = length-append records (r ∷ []) in
    let last : e ≡ end_of from each to k = end ∙ is.current_is.to_is in
    let at = ended from each to n k e some last past less is.enough in
    let count : length new.over.items ≡ suc k = ap length items ∙ count_more old.over.items over in
    let end_is : end_of from each to (suc k) ≡ min to (e + each) = omega (arith, at.0, at.1, some) in
    record {
      each_is = each_same ∙ is.each_is;
      to_is = to_same ∙ is.to_is;
      over_are = rw items (each_more (λ i x. IsOver groups (begin_of from each i) (end_of from each to i) rs x) old.over.items over
          (λ i d inside. over_more groups (begin_of from each i) (end_of from each to i) records r (get_or old.over.items i d) (is.over_are i d inside)) over_is);
      current_is = subst (λ j. AddsUpTo groups (begin_of from each j) (end_of from each to j) rs new.current) (sym count)
          (subst (λ f. AddsUpTo groups f (end_of from each to (suc k)) rs new.current) (sym at.1)
          (subst (λ t. AddsUpTo groups (n + 1) t rs new.current) (sym end_is) next));
      over_serve = rw items (each_more (λ i x. serves_of x.serves.items ≡ serves) old.over.items over is.over_serve (ap serves_of over_same ∙ is.current_serves));
      current_serves = same ∙ is.current_serves;
      begun = λ i one most. rw size (begun_at from each to n k i (eqb i (suc k)) refl (omega (arith, most, count)) (is.begun i one)
          (omega (arith, at.0, at.1, less)));
      enough = rw (size, count) (omega (arith, at.0, at.1, some));
    }

-- a record more of the part that isn't over
pub same_part : (groups from each to : ℕ) (serves : List Serve) (records : List Record) (r : Record) (old new : PartSums) →
    PartsUpTo groups from each to serves records old →
    new.each ≡ old.each → new.to ≡ old.to → new.over.items ≡ old.over.items →
    min to (length records + 1) ≤ end_of from each to (length old.over.items) →
    AddsUpTo groups (begin_of from each (length old.over.items)) (end_of from each to (length old.over.items)) (records ++ r ∷ []) new.current →
    serves_of new.current.serves.items ≡ serves_of old.current.serves.items → PartsUpTo groups from each to serves (records ++ r ∷ []) new
same_part groups from each to serves records r old new is each_same to_same items enough next same =
    let rs = records ++ r ∷ [] in
    let size : length rs ≡ length records + 1 = length-append records (r ∷ []) in
    record {
      each_is = each_same ∙ is.each_is;
      to_is = to_same ∙ is.to_is;
      over_are = rw items
          (λ i d inside. over_more groups (begin_of from each i) (end_of from each to i) records r (get_or old.over.items i d) (is.over_are i d inside));
      current_is = rw items next;
      over_serve = rw items is.over_serve;
      current_serves = same ∙ is.current_serves;
      begun = rw items (λ i one most. (let before = is.begun i one most in omega (arith, before, size)));
      enough = rw (items, size) enough;
    }

-- all parts, where the log ends
pub all_parts : (groups from each to : ℕ) (serves : List Serve) (records : List Record) (x : PartSums) (parts : List LogSums) → 1 ≤ each →
    PartsUpTo groups from each to serves records x →
    ((groups from to : ℕ) (records : List Record) (x : LogSums) → AddsUpTo groups from to records x → AreSumsOf groups from to records x) →
    parts ≡ x.over.items ++ x.current ∷ [] → AreParts groups from each to serves records parts
all_parts groups from each to serves records x parts some is law items =
    let k = length x.over.items in
    let count : length parts ≡ suc k = ap length items ∙ count_more x.over.items x.current in
    record {
      sums = rw items (each_more (λ i y. AreSumsOf groups (begin_of from each i) (end_of from each to i) records y) x.over.items x.current
          (λ i d inside. law groups (begin_of from each i) (end_of from each to i) records (get_or x.over.items i d) (is.over_are i d inside).0)
          (law groups (begin_of from each k) (end_of from each to k) records x.current is.current_is));
      serves_are = rw items (each_more (λ i y. serves_of y.serves.items ≡ serves) x.over.items x.current is.over_serve is.current_serves);
      some = omega (arith, count);
      begun = λ i one inside. is.begun i one (omega (arith, inside, count));
      all = rw count (omega (arith, some, is.enough));
    }
