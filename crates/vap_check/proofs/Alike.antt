-- What lists of the same names tell is the same.
use Rattle.std.proofs.Common.{◌≡◌, ℕ, suc, ◌+◌, ◌<◌, Bool, ◌||◌, List, [], ◌∷◌, ◌++◌, length, drop, get_or, map, Option, refl, sym, ap, ◌∙◌, arith, drop-cons}
use Rattle.std.specs.Str.{bytes_eq}
use Rattle.vap_ast.specs.Syntax.{Constant, Array, Routine}
use Rattle.vap_check.specs.declared.kinds.Kind.{Kind}
use Rattle.vap_check.specs.declared.refusal.CheckWhy.TheVariants.{ConstTwice, NameKind, LabelTwice, SubTwice, ArraySize}
use Rattle.vap_check.specs.FirstFinding.{when}
use Rattle.vap_check.specs.Names.{among, with_name, with_names, Labelled, items_labels, label_names}
use Rattle.vap_check.specs.Findings.{label_findings, const_findings, array_findings, subs_findings, items_findings, clash_findings, is_odd_size}
use Rattle.vap_check.proofs.Agree.{with_one, with_more}

name_alike : (x : List ℕ) (a b : List (List ℕ)) → among a ≡ among b → among (with_name a x) ≡ among (with_name b x)
name_alike x a b e = λ i q. (with_one a x q ∙ ap (λ f. bytes_eq q x || f q) e ∙ sym (with_one b x q)) i

pub names_alike : (xs a b : List (List ℕ)) → among a ≡ among b → among (with_names a xs) ≡ among (with_names b xs)
names_alike xs a b e = λ i q. (with_more xs a q ∙ ap (λ f. among xs q || f q) e ∙ sym (with_more xs b q)) i

pub labels_alike : (ls : List Labelled) (a b : List (List ℕ)) → among a ≡ among b → label_findings a ls ≡ label_findings b ls
labels_alike [] a b e = refl
labels_alike (l ∷ ls) a b e =
    let later = labels_alike ls (with_name a l.name) (with_name b l.name) (name_alike l.name a b e) in
    λ i. when (e i l.name) l.line LabelTwice ++ later i

pub consts_alike : (cs : List Constant) (a b : List (List ℕ)) → among a ≡ among b → const_findings a cs ≡ const_findings b cs
consts_alike [] a b e = refl
consts_alike (c ∷ cs) a b e =
    let later = consts_alike cs (with_name a c.name) (with_name b c.name) (name_alike c.name a b e) in
    λ i. when (e i c.name) c.line ConstTwice ++ later i

pub arrays_alike : (line_of : List ℕ → Option ℕ) (xs : List Array) (a b : List (List ℕ)) → among a ≡ among b →
    array_findings line_of a xs ≡ array_findings line_of b xs
arrays_alike line_of [] a b e = refl
arrays_alike line_of (x ∷ xs) a b e =
    let later = arrays_alike line_of xs (with_name a x.name) (with_name b x.name) (name_alike x.name a b e) in
    λ i. when (e i x.name) x.line NameKind ++ (clash_findings (line_of x.name) x.line ++ (when (is_odd_size x.size x.values) x.line ArraySize ++ later i))

pub subs_alike : (kind : List ℕ → Kind) (taken : List ℕ → Bool) (rs : List Routine) (a b : List (List ℕ)) → among a ≡ among b →
    subs_findings kind taken a rs ≡ subs_findings kind taken b rs
subs_alike kind taken [] a b e = refl
subs_alike kind taken (r ∷ rs) a b e =
    let later = subs_alike kind taken rs (with_name a r.name) (with_name b r.name) (name_alike r.name a b e) in
    λ i. when (e i r.name) r.line SubTwice ++ (when (taken r.name) r.line NameKind
    ++ ((label_findings [] (items_labels r.body) ++ items_findings kind (e i) (among (label_names r.body)) r.body) ++ later i))

-- the first of the rest of a list, mapped
pub each_at : {A B : Type 0} (f : A → B) (xs : List A) (i : ℕ) (x : A) → i < length xs → x ≡ get_or xs i x → map f (drop i xs) ≡ f x ∷ map f (drop (i + 1) xs)
each_at {A} {B} f xs i x lt is =
    let e : suc i ≡ i + 1 = omega arith in
    ap (map f) (drop-cons xs i x lt) ∙ ap (λ (y : A). f y ∷ map f (drop (suc i) xs)) (sym is) ∙ ap (λ n. f x ∷ map f (drop n xs)) e
