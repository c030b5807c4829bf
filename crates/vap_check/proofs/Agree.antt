-- Names that are kept once tell what all of them tell.
use Rattle.std.proofs.Common.{◌≡◌, ℕ, Bool, true, false, ◌||◌, List, [], ◌∷◌, ◌++◌, map, Option, None, Some, is_some, refl, sym, ap, ◌∙◌, subst, if◌then◌else◌}
use Rattle.std.specs.Option.{option_map, option_or}
use Rattle.std.proofs.lemmas.Slice.Eq.{bytes_eq-Decides}
use Rattle.std.proofs.lemmas.List.Folds.{list_any-append}
use Rattle.std.specs.Str.{bytes_eq}
use Rattle.sig_types.proofs.Options.{or-false}
use Rattle.vap_ast.specs.Syntax.{Items, Constant, Program}
use Rattle.vap_check.specs.declared.finding.Finding.{Finding}
use Rattle.vap_check.specs.declared.kinds.Declared.{Declared}
use Rattle.vap_check.specs.declared.kinds.Declared.TheVariants as what
use Rattle.vap_check.specs.declared.kinds.First.{First}
use Rattle.vap_check.specs.declared.kinds.Kind.{Kind}
use Rattle.vap_check.specs.declared.kinds.Kind.TheVariants as kind
use Rattle.vap_check.specs.declared.known.Known.{Known}
use Rattle.vap_check.specs.FirstFinding.{first_of_all}
use Rattle.vap_check.specs.Names.{among, with_name, with_names, distinct, kind_of, array_names, sub_names, timer_names, items_labels, label_names}
use Rattle.vap_check.specs.KeptNames.{Declarations, declared_in, declared_of, with_declared, with_all, with_constant, with_constants, kind_as, line_as, taken_as, line_in, kind_in, taken_in, Knows}
use Rattle.vap_check.specs.Findings.{items_findings, body_findings, label_findings, const_line, is_declared, const_findings, array_findings, subs_findings, findings}
use Rattle.vap_check.proofs.Flat.{findings_on}

or_assoc : (a b c : Bool) → (a || (b || c)) ≡ ((a || b) || c)
or_assoc true b c = refl
or_assoc false b c = refl

or_swap : (a b : Bool) → (a || b) ≡ (b || a)
or_swap true true = refl
or_swap true false = refl
or_swap false true = refl
or_swap false false = refl

pub same_is : (a b : List ℕ) → bytes_eq a b ≡ true → a ≡ b
same_is a b e = (bytes_eq-Decides a b).0 e

-- a name that is equal to one of these is one of these
absorbed : (names : List (List ℕ)) (x n : List ℕ) → among names x ≡ true → among names n ≡ (bytes_eq n x || among names n)
absorbed names x n there = elim (bytes_eq n x) as (λ b. bytes_eq n x ≡ b → among names n ≡ (b || among names n)) [
  | true ↦ λ e. subst (λ y. among names y ≡ true) (sym (same_is n x e)) there
  | false ↦ λ e. refl
] refl

pub with_one : (names : List (List ℕ)) (x n : List ℕ) → among (with_name names x) n ≡ (bytes_eq n x || among names n)
with_one names x n = elim (among names x) as (λ b. among names x ≡ b → among (if b then names else names ++ x ∷ []) n ≡ (bytes_eq n x || among names n)) [
  | true ↦ λ e. absorbed names x n e
  | false ↦ λ e. list_any-append (bytes_eq n) names (x ∷ []) ∙ ap (λ c. among names n || c) (or-false (bytes_eq n x)) ∙ or_swap (among names n) (bytes_eq n x)
] refl

pub with_more : (xs names : List (List ℕ)) (n : List ℕ) → among (with_names names xs) n ≡ (among xs n || among names n)
with_more [] names n = refl
with_more (x ∷ xs) names n =
    with_more xs (with_name names x) n ∙ ap (λ c. among xs n || c) (with_one names x n) ∙ or_assoc (among xs n) (bytes_eq n x) (among names n)
    ∙ ap (λ c. c || among names n) (or_swap (among xs n) (bytes_eq n x))

-- among names that are kept once are the same as among all of them
pub among_distinct : (xs : List (List ℕ)) → among (distinct xs) ≡ among xs
among_distinct xs = λ i n. (with_more xs [] n ∙ or-false (among xs n)) i

-- ---- declarations

pub or_nothing : (o : Option Declared) → option_or o None ≡ o
or_nothing None = refl
or_nothing (Some x) = refl

pub some_or : (o : Option Declared) (b : Bool) (d : Declared) → is_some (option_or o (if b then Some d else None)) ≡ (b || is_some o)
some_or (Some x) true d = refl
some_or (Some x) false d = refl
some_or None true d = refl
some_or None false d = refl

or_both : (o : Option Declared) (a b : Bool) (d : Declared) →
    option_or (option_or o (if a then Some d else None)) (if b then Some d else None) ≡ option_or o (if (a || b) then Some d else None)
or_both (Some x) a b d = refl
or_both None true b d = refl
or_both None false b d = refl

-- one kind of declaration, of all names
all_at : (d : Declared) (names : List (List ℕ)) (known : Declarations) (q : List ℕ) →
    with_all d known names q ≡ option_or (known q) (if among names q then Some d else None)
all_at d [] known q = sym (or_nothing (known q))
all_at d (x ∷ xs) known q = all_at d xs (with_declared d known x) q ∙ or_both (known q) (bytes_eq q x) (among xs q) d

-- a constant's first declaration
abbrev pub first_of : Constant → First
first_of c = record { line = c.line; value = c.value }

-- the first constant of a name
abbrev pub first_constant : List Constant → List ℕ → Option First
first_constant [] q = None
first_constant (c ∷ cs) q = if bytes_eq q c.name then Some (first_of c) else first_constant cs q

or_first : (o : Option Declared) (b : Bool) (f : First) (r : Option First) →
    option_or (option_or o (if b then Some (what.Constant f) else None)) (option_map what.Constant r) ≡ option_or o
    (option_map what.Constant (if b then Some f else r))
or_first (Some x) b f r = refl
or_first None true f r = refl
or_first None false f r = refl

constants_at : (cs : List Constant) (known : Declarations) (q : List ℕ) →
    with_constants known cs q ≡ option_or (known q) (option_map what.Constant (first_constant cs q))
constants_at [] known q = sym (or_nothing (known q))
constants_at (c ∷ cs) known q =
    constants_at cs (with_constant known c) q ∙ or_first (known q) (bytes_eq q c.name) (first_of c) (first_constant cs q)

-- a constant before an array before a subroutine before a timer
abbrev pub chosen : Option First → (is_array is_sub is_timer : Bool) → Option Declared
chosen c a s t =
    option_or (option_or (option_or (option_map what.Constant c) (if a then Some what.Array else None))
    (if s then Some what.Sub else None)) (if t then Some what.Timer else None)

-- what a name of a program is
pub declared_at : (p : Program) (q : List ℕ) →
    declared_of p q ≡ chosen (first_constant p.consts q) (among (array_names p) q) (among (sub_names p) q) (among (timer_names p) q)
declared_at p q =
    let consts = with_constants (λ name. None) p.consts in
    let arrays = with_all what.Array consts (array_names p) in
    let subs = with_all what.Sub arrays (sub_names p) in
    all_at what.Timer (timer_names p) subs q
    ∙ ap (λ o. option_or o (if among (timer_names p) q then Some what.Timer else None)) (all_at what.Sub (sub_names p) arrays q
    ∙ ap (λ o. option_or o (if among (sub_names p) q then Some what.Sub else None)) (all_at what.Array (array_names p) consts q
    ∙ ap (λ o. option_or o (if among (array_names p) q then Some what.Array else None)) (constants_at p.consts (λ name. None) q)))

first_there : (cs : List Constant) (q : List ℕ) → is_some (first_constant cs q) ≡ among (map (λ c. c.name) cs) q
first_there [] q = refl
first_there (c ∷ cs) q = elim (bytes_eq q c.name) as
    (λ b. is_some (if b then Some (first_of c) else first_constant cs q) ≡ (b || among (map (λ c. c.name) cs) q)) [
      | true ↦ refl
      | false ↦ first_there cs q
    ]

first_line : (cs : List Constant) (q : List ℕ) → option_map (λ (f : First). f.line) (first_constant cs q) ≡ const_line cs q
first_line [] q = refl
first_line (c ∷ cs) q = elim (bytes_eq q c.name) as
    (λ b. option_map (λ (f : First). f.line) (if b then Some (first_of c) else first_constant cs q) ≡ (if b then Some c.line else const_line cs q)) [
      | true ↦ refl
      | false ↦ first_line cs q
    ]

kind_chosen : (c : Option First) (a s t : Bool) →
    kind_as (chosen c a s t) ≡ (if is_some c then kind.Constant else if a then kind.Array else if s then kind.Sub else if t then kind.Timer else kind.Variable)
kind_chosen (Some f) a s t = refl
kind_chosen None true s t = refl
kind_chosen None false true t = refl
kind_chosen None false false true = refl
kind_chosen None false false false = refl

line_chosen : (c : Option First) (a s t : Bool) → line_as (chosen c a s t) ≡ option_map (λ (f : First). f.line) c
line_chosen (Some f) a s t = refl
line_chosen None true s t = refl
line_chosen None false true t = refl
line_chosen None false false true = refl
line_chosen None false false false = refl

taken_chosen : (c : Option First) (a s t : Bool) → taken_as (chosen c a s t) ≡ (is_some c || a)
taken_chosen (Some f) a s t = refl
taken_chosen None true s t = refl
taken_chosen None false true t = refl
taken_chosen None false false true = refl
taken_chosen None false false false = refl

-- ---- what is kept of a program tells what its names are

module _ (k : Known) (p : Program) (h : Knows k p) where
  known_at : (q : List ℕ) → declared_in k q ≡ chosen (first_constant p.consts q) (among (array_names p) q) (among (sub_names p) q) (among (timer_names p) q)
  known_at q = ap (λ f. f q) h ∙ declared_at p q

  kind_at : (q : List ℕ) → kind_in k q ≡ kind_of p q
  kind_at q =
      ap kind_as (known_at q) ∙ kind_chosen (first_constant p.consts q) (among (array_names p) q) (among (sub_names p) q) (among (timer_names p) q)
      ∙ ap (λ b. if b then kind.Constant else if among (array_names p) q then kind.Array else if among (sub_names p) q then kind.Sub else if among
      (timer_names p) q then kind.Timer else kind.Variable) (first_there p.consts q)

  pub kinds_are : kind_in k ≡ kind_of p
  kinds_are = λ i q. kind_at q i

  taken_at : (q : List ℕ) → taken_in k q ≡ is_declared p q
  taken_at q =
      ap taken_as (known_at q) ∙ taken_chosen (first_constant p.consts q) (among (array_names p) q) (among (sub_names p) q) (among (timer_names p) q)
      ∙ ap (λ b. b || among (array_names p) q) (first_there p.consts q)

  pub taken_are : taken_in k ≡ is_declared p
  taken_are = λ i q. taken_at q i

  line_at : (q : List ℕ) → line_in k q ≡ const_line p.consts q
  line_at q =
      ap line_as (known_at q) ∙ line_chosen (first_constant p.consts q) (among (array_names p) q) (among (sub_names p) q) (among (timer_names p) q)
      ∙ first_line p.consts q

  pub lines_are : line_in k ≡ const_line p.consts
  lines_are = λ i q. line_at q i

-- ---- bodies

-- the labels of a body, and then its items
pub body_on : (kind : List ℕ → Kind) (above keys : List (List ℕ)) (body : Items) (f g : Option Finding) →
    among keys ≡ among (distinct (label_names body)) → g ≡ first_of_all f (label_findings [] (items_labels body))
    → first_of_all g (items_findings kind (among above) (among keys) body) ≡ first_of_all f (body_findings kind above body)
body_on kind above keys body f g k e =
    ap (λ o. first_of_all o (items_findings kind (among above) (among keys) body)) e
    ∙ ap (λ l. first_of_all (first_of_all f (label_findings [] (items_labels body))) (items_findings kind (among above) l body))
    (k ∙ among_distinct (label_names body))
    ∙ sym (findings_on (label_findings [] (items_labels body)) (items_findings kind (among above) (among (label_names body)) body) f)

-- ---- programs

-- the findings of a program, one part after another
pub all_on : (k : Known) (p : Program) → Knows k p → (start above : List (List ℕ)) (f g h j : Option Finding) → start ≡ []
    → f ≡ first_of_all None (const_findings [] p.consts)
    → g ≡ first_of_all f (array_findings (line_in k) [] p.arrays)
    → among above ≡ among (with_names start (map (λ r. r.name) p.subs))
    → h ≡ first_of_all g (subs_findings (kind_in k) (taken_in k) start p.subs)
    → j ≡ first_of_all h (body_findings (kind_in k) above p.main.body)
    → j ≡ first_of_all None (findings p)
all_on k p knows start above f g h j none ef eg ea eh ej =
    let a = const_findings [] p.consts in
    let b = array_findings (const_line p.consts) [] p.arrays in
    let c = subs_findings (kind_of p) (is_declared p) [] p.subs in
    let d = body_findings (kind_of p) (sub_names p) p.main.body in
    let at_b : array_findings (line_in k) [] p.arrays ≡ b = ap (λ l. array_findings l [] p.arrays) (lines_are k p knows) in
    let at_c : subs_findings (kind_in k) (taken_in k) start p.subs ≡ c = λ i. subs_findings (kinds_are k p knows i) (taken_are k p knows i) (none i) p.subs in
    let above_is : among above ≡ among (sub_names p) = ea ∙ ap (λ s. among (with_names s (sub_names p))) none ∙ among_distinct (sub_names p) in
    let at_d : body_findings (kind_in k) above p.main.body ≡ d =
    λ i. label_findings [] (items_labels p.main.body) ++ items_findings (kinds_are k p knows i) (above_is i) (among (label_names p.main.body)) p.main.body in
    ej ∙ ap (first_of_all h) at_d ∙ ap (λ o. first_of_all o d)
    (eh ∙ ap (first_of_all g) at_c ∙ ap (λ o. first_of_all o c) (eg ∙ ap (first_of_all f) at_b ∙ ap (λ o. first_of_all o b) ef))
    ∙ sym (findings_on c d (first_of_all (first_of_all None a) b)) ∙ sym (findings_on b (c ++ d) (first_of_all None a)) ∙
    sym (findings_on a (b ++ (c ++ d)) None)
