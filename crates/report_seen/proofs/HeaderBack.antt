-- The header: what is written of names is read as these names.
use Rattle.std.proofs.Common.{◌≡◌, ◌∙◌, ℕ, ◌+◌, ◌<◌, ◌≤◌, true, false, List, [], ◌∷◌, ◌++◌, length, Option, Some, refl, sym, ap, arith, append_assoc}
use Rattle.std.specs.Prelude.{fold, not, nat_lt}
use Rattle.std.specs.List.{flat_map}
use Rattle.std.proofs.lemmas.Bool.{and_parts, false_from_ne_true, lt-ltb, not-true, or_from, or_parts, true≢false}
use Rattle.std.proofs.lemmas.List.{append-nil, length_push}
use Rattle.pua_model.specs.Plan.{are_apart, are_names, stands_in as stands_after}
use Rattle.sig_types.specs.LogForm.{header_line, spaced}
use Rattle.sig_types.specs.Text.{is_name, same_name}
use Rattle.log_read.specs.Fields.{listed_names, named_items, names_in, stands_in, with_name}
use Rattle.report_seen.specs.WrittenLogs.{AreGroups}
use Rattle.report_seen.proofs.CutTexts.{parted_again}
use Rattle.report_seen.proofs.NameTexts.{name_without, names_without, same_back}

-- none of these names stands among those before
abbrev AreNew : List (List ℕ) → List (List ℕ) → Type 0
AreNew done [] = Unit {0}
AreNew done (n ∷ ns) = (stands_in n done ≡ false) × AreNew done ns

all_new : (ns : List (List ℕ)) → AreNew [] ns
all_new [] = tt
all_new (n ∷ ns) = (refl, all_new ns)

stands_push : (word n : List ℕ) (done : List (List ℕ)) → stands_in word done ≡ false → same_name n word ≡ false →
    stands_in word (done ++ n ∷ []) ≡ false
stands_push word n [] none other = or_from (same_name n word) false other refl
stands_push word n (m ∷ done) none other =
    let both = or_parts (same_name m word) (stands_in word done) none in
    or_from (same_name m word) (stands_in word (done ++ n ∷ [])) both.0 (stands_push word n done both.1 other)

-- one name more before them, that none of them is
new_push : (n : List ℕ) (done ns : List (List ℕ)) → AreNew done ns → stands_after n ns ≡ false → AreNew (done ++ n ∷ []) ns
new_push n done [] new other = tt
new_push n done (m ∷ ns) new other =
    let both = or_parts (same_name m n) (stands_after n ns) other in
    let here : same_name n m ≡ false = false_from_ne_true (same_name n m) (λ is. true≢false (sym (same_back n m is) ∙ both.0)) in
    (stands_push m n done new.0 here, new_push n done ns new.1 both.1)

-- the names that were read
abbrev read : List (List ℕ) → Option (List (List ℕ))
read names = Some names

one_name : (n : List ℕ) (done : List (List ℕ)) → is_name n ≡ true → length done < 64 → stands_in n done ≡ false →
    with_name (read done) n ≡ read (done ++ n ∷ [])
one_name n done named few new =
    let room : nat_lt (length done) 64 ≡ true = lt-ltb (length done) 64 few in rw (named, room, new) refl

named_again : (done ns : List (List ℕ)) → are_names ns ≡ true → are_apart ns ≡ true → AreNew done ns →
    length done + length ns ≤ 64 →
    fold with_name (read done) ns ≡ read (done ++ ns)
named_again done [] named apart new few = ap read (sym (append-nil done))
named_again done (n ∷ ns) named apart new few =
    let names = and_parts (is_name n) (are_names ns) named in
    let others = and_parts (not (stands_after n ns)) (are_apart ns) apart in
    ap (λ o. fold with_name o ns) (one_name n done names.0 (omega arith) new.0)
    ∙ named_again (done ++ n ∷ []) ns names.1 others.1 (new_push n done ns new.1 (not-true (stands_after n ns) others.0))
    (omega (arith, length_push done n))
    ∙ ap read (append_assoc done (n ∷ []) ns)

listed_again : (n : List ℕ) (ns : List (List ℕ)) → AreGroups (n ∷ ns) → listed_names (n ++ flat_map spaced ns) ≡ read (n ∷ ns)
listed_again n ns groups =
    let named = and_parts (is_name n) (are_names ns) groups.names_are in
    ap named_items (parted_again n ns (name_without 32 n refl named.0) (names_without 32 ns refl named.1))
    ∙ named_again [] (n ∷ ns) groups.names_are groups.apart (all_new (n ∷ ns)) (omega (arith, groups.few))

some_names : (n : List ℕ) (ns : List (List ℕ)) → names_in (header_line (n ∷ ns)) ≡ listed_names (n ++ flat_map spaced ns)
unfolding names_in header_line
some_names n ns = refl

pub header_again : (names : List (List ℕ)) → AreGroups names → names_in (header_line names) ≡ Some names
header_again [] groups = absurd (omega (arith, groups.some))
header_again (n ∷ ns) groups = some_names n ns ∙ listed_again n ns groups
