-- What is told of parts, one after another.
use Rattle.std.proofs.Common.{◌≡◌, ◌∙◌, ℕ, ◌+◌, ◌<◌, ◌≤◌, zero, suc, Bool, true, false, List, [], ◌∷◌, ◌++◌, length, map, take, drop, get_or, refl, sym, ap, append_assoc, add-one, arith}
use Rattle.std.proofs.Math.ListN.{length-append}
use Rattle.std.proofs.Math.Seq.{drop-cons}
use Rattle.std.proofs.lemmas.List.{append-nil}
use Rattle.std.specs.List.{flat_map}
use Rattle.sig_types.specs.Rules.{Rules}
use Rattle.log_judge.specs.declared.breach.Breach.{Breach}
use Rattle.tenth_records.specs.declared.entry.Entry.{Entry}
use Rattle.tenth_records.specs.Parts.{Part, parts_of, unknown_in}
use Rattle.tenth_report.specs.declared.search.Found.{Found}
use Rattle.tenth_report.specs.declared.search.JudgedPart.{JudgedPart}
use Rattle.judge_text.specs.Rows.{columns_text}
use Rattle.judge_text.specs.Sums.{sums_text}
use Rattle.log_protocol.specs.Parts.{known_in}
use Rattle.tenth_report.specs.Breaches.{all_breaches, part_breaches}
use Rattle.tenth_report.specs.Kept.{counted, found_text, kept_text}
use Rattle.tenth_report.specs.Search.{AreFound, kept}
use Rattle.tenth_report.specs.Told.{counts_text, part_text, part_told, table_of, text_of, words_of}

-- the first of the parts that are left
pub first_left : (parts : List JudgedPart) (i : ℕ) (d : JudgedPart) → i < length parts → drop i parts ≡ get_or parts i d ∷ drop (i + 1) parts
first_left parts i d lt = drop-cons parts i d lt ∙ ap (λ n. get_or parts i d ∷ drop n parts) (sym (add-one i))

-- it has no more breaches than are left
pub own_count : (parts : List JudgedPart) (i n : ℕ) (part : JudgedPart) → drop i parts ≡ part ∷ drop (i + 1) parts → counted (drop i parts) ≤ n →
    part.count + counted (drop (i + 1) parts) ≤ n
unfolding counted
own_count parts i n part first enough = rw first at enough

-- what is told with it
pub told_more : (csv : Bool) (names : List (List ℕ)) (parts : List JudgedPart) (i : ℕ) (part : JudgedPart) (rest : List Breach) (whole done : List ℕ) →
    drop i parts ≡ part ∷ drop (i + 1) parts → whole ≡ done ++ kept_text csv names (drop i parts) rest →
    whole ≡ (done ++ part_text csv names part.first part.tenths (take part.count rest)) ++ kept_text csv names (drop (i + 1) parts) (drop part.count rest)
unfolding kept_text
told_more csv names parts i part rest whole done first was =
    was ∙ ap (λ (x : List JudgedPart). done ++ kept_text csv names x rest) first
    ∙ sym (append_assoc done (part_text csv names part.first part.tenths (take part.count rest)) (kept_text csv names (drop (i + 1) parts) (drop part.count rest)))

drop_all : (parts : List JudgedPart) (n : ℕ) → length parts ≤ n → drop n parts ≡ []
drop_all [] zero le = refl
drop_all [] (suc n) le = refl
drop_all (x ∷ xs) zero le = absurd (omega (arith, le))
drop_all (x ∷ xs) (suc n) le = drop_all xs n (omega (arith, le))

-- behind the last part nothing is told
pub none_told : (csv : Bool) (names : List (List ℕ)) (parts : List JudgedPart) (n : ℕ) (rest : List Breach) (whole done : List ℕ) → length parts ≤ n →
    whole ≡ done ++ kept_text csv names (drop n parts) rest → whole ≡ done
unfolding kept_text
none_told csv names parts n rest whole done le was =
    was ∙ ap (λ (x : List JudgedPart). done ++ kept_text csv names x rest) (drop_all parts n le) ∙ append-nil done

take_front : (xs ys : List Breach) → take (length xs) (xs ++ ys) ≡ xs
take_front [] ys = refl
take_front (x ∷ xs) ys = ap (λ (zs : List Breach). x ∷ zs) (take_front xs ys)

drop_front : (xs ys : List Breach) → drop (length xs) (xs ++ ys) ≡ ys
drop_front [] ys = refl
drop_front (x ∷ xs) ys = drop_front xs ys

-- parts that are kept are told as they are
pub kept_told : (csv : Bool) (names : List (List ℕ)) (r : Rules) (tolerance : ℕ) (parts : List Part) →
    kept_text csv names (map (kept r tolerance) parts) (all_breaches r tolerance parts) ≡ flat_map (part_told csv names r tolerance) parts
unfolding kept_text
kept_told csv names r tolerance [] = refl
kept_told csv names r tolerance (part ∷ parts) =
    let xs : List Breach = part_breaches r tolerance part in
    let ys : List Breach = all_breaches r tolerance parts in
    ap (λ (zs : List Breach). part_text csv names part.first (length part.pictures) zs ++ kept_text csv names (map (kept r tolerance) parts) (drop (length xs) (xs ++ ys)))
    (take_front xs ys)
    ∙ ap (λ (zs : List Breach). part_text csv names part.first (length part.pictures) xs ++ kept_text csv names (map (kept r tolerance) parts) zs) (drop_front xs ys)
    ∙ ap (λ (t : List ℕ). part_text csv names part.first (length part.pictures) xs ++ t) (kept_told csv names r tolerance parts)

-- and count their breaches
kept_count : (r : Rules) (tolerance : ℕ) (parts : List Part) → counted (map (kept r tolerance) parts) ≡ length (all_breaches r tolerance parts)
unfolding counted
kept_count r tolerance [] = refl
kept_count r tolerance (part ∷ parts) =
    ap (λ n. length (part_breaches r tolerance part) + n) (kept_count r tolerance parts)
    ∙ sym (length-append (part_breaches r tolerance part) (all_breaches r tolerance parts))

pub found_count : (r : Rules) (tolerance : ℕ) (entries : List Entry) (found : Found) → AreFound r tolerance entries found →
    counted found.parts.items ≤ length found.breaches.items
found_count r tolerance entries found are =
    omega (arith, ap counted are.parts, kept_count r tolerance (parts_of entries), ap (length {A = Breach}) are.breaches)

-- the text of what was found
pub found_told : (csv : Bool) (names : List (List ℕ)) (r : Rules) (tolerance : ℕ) (entries : List Entry) (found : Found) → AreFound r tolerance entries found →
    found_text csv names found ≡ text_of csv names r tolerance (parts_of entries) (unknown_in entries)
unfolding table_of words_of
found_told true names r tolerance entries found are =
    rw (are.parts, are.breaches) (ap (λ (t : List ℕ). columns_text ++ t) (kept_told true names r tolerance (parts_of entries)))
found_told false names r tolerance entries found are =
    rw (are.parts, are.breaches, are.known, are.unknown)
    (ap (λ (t : List ℕ). t ++ counts_text (known_in (parts_of entries)) (unknown_in entries) (all_breaches r tolerance (parts_of entries))
    ++ sums_text names (all_breaches r tolerance (parts_of entries))) (kept_told false names r tolerance (parts_of entries)))
