-- What was refused in the records of a log, while they are read one after another.
use Rattle.std.proofs.Common.{◌≡◌, ◌∙◌, ℕ, suc, ◌+◌, List, [], ◌∷◌, ◌++◌, Some, map, take, get_or, sym, ap, arith, append_assoc}
use Rattle.std.specs.List.{slice_get}
use Rattle.std.proofs.lemmas.List.{append-nil, map-append}
use Rattle.std.proofs.lemmas.Option.{get_or_from_slice_get, slice_get_within}
use Rattle.std.proofs.Math.Seq.{take-suc}
use Rattle.sig_types.specs.declared.record.Record.{Record}
use Rattle.sig_types.specs.declared.refused.TurnRefusal.{TurnRefusal}
use Rattle.sig_types.specs.Rules.{Rules}
use Rattle.sig_types.specs.Turns.{History}
use Rattle.log_judge.specs.declared.find.Terms.{Terms}
use Rattle.log_judge.specs.declared.why.Asked.{Asked}
use Rattle.refusal_text.specs.declared.refusal.Refusal.{Refusal}
use Rattle.refusal_text.specs.declared.refusal.Refusal.TheVariants.{Turn}
use Rattle.refusal_text.specs.declared.refusal.Said.{Said}
use Rattle.refusal_text.specs.Refusals.{told_after, told_in}

-- the pictures of records
abbrev pub pictures_of : List Record → History
pictures_of records = map (λ x. x.picture) records

-- one record more
pub told_more : (r : Rules) (k : Terms) (first from to : ℕ) (h : History) (xs : List Record) (x : Record) →
    told_after r k first from to h (xs ++ x ∷ []) ≡ told_after r k first from to h xs ++ told_in r k first from to (h ++ pictures_of xs) x
told_more r k first from to h [] x = append-nil (told_in r k first from to h x) ∙ ap (λ (g : History). told_in r k first from to g x) (sym (append-nil h))
told_more r k first from to h (y ∷ ys) x =
    ap (λ (l : List Refusal). told_in r k first from to h y ++ l) (told_more r k first from to (h ++ y.picture ∷ []) ys x)
    ∙ ap (λ (g : History). told_in r k first from to h y ++ (told_after r k first from to (h ++ y.picture ∷ []) ys ++ told_in r k first from to g x))
    (append_assoc h (y.picture ∷ []) (pictures_of ys))
    ∙ sym (append_assoc (told_in r k first from to h y) (told_after r k first from to (h ++ y.picture ∷ []) ys) (told_in r k first from to (h ++ (y.picture ∷ pictures_of ys)) x))

-- the pictures of one record more
pub pictures_more : (h : History) (xs : List Record) (x : Record) → (h ++ pictures_of xs) ++ x.picture ∷ [] ≡ h ++ pictures_of (xs ++ x ∷ [])
pictures_more h xs x =
    append_assoc h (pictures_of xs) (x.picture ∷ [])
    ∙ ap (λ (g : History). h ++ g) (sym (map-append (λ (y : Record). y.picture) xs (x ∷ [])))

-- one item more
pub item_more : {A : Type 0} (f : A → Refusal) (new mid base : List Refusal) (xs : List A) (p : ℕ) (x : A) → slice_get xs p ≡ Some x → new ≡ mid ++ f x ∷ [] →
    mid ≡ base ++ map f (take p xs) → new ≡ base ++ map f (take (p + 1) xs)
item_more f new mid base xs p x is put before =
    let inside = slice_get_within xs p x is in
    let next : p + 1 ≡ suc p = omega arith in
    let here : get_or xs p x ≡ x = get_or_from_slice_get xs p x x is in
    put ∙ ap (λ ms. ms ++ f x ∷ []) before ∙ append_assoc base (map f (take p xs)) (f x ∷ [])
    ∙ ap (λ ms. base ++ ms) (sym (ap (map f) (ap (λ n. take n xs) next ∙ take-suc xs p x inside ∙ ap (λ y. take p xs ++ y ∷ []) here) ∙ map-append f (take p xs) (x ∷ [])))

-- a turn by its parts
pub turn_same : (n m : ℕ) (turn : TurnRefusal) (a b : Asked) (x y : Said) → n ≡ m → a ≡ b → x ≡ y → Turn n turn a x ≡ Turn m turn b y
turn_same n m turn a b x y seconds asked said =
    ap (λ (t : ℕ). Turn t turn a x) seconds ∙ ap (λ (c : Asked). Turn m turn c x) asked ∙ ap (λ (z : Said). Turn m turn b z) said
