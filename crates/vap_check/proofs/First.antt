-- The finding that is kept is the first of all, and a program has one answer.
use Rattle.std.proofs.Common.{◌≡◌, ℕ, true, false, ◌||◌, ◌&&◌, ◌==◌, List, [], ◌∷◌, None, Some, Contains, inl, inr, refl, sym, ap, ◌∙◌, subst, if◌then◌else◌, arith}
use Rattle.std.specs.Prelude.{nat_lt, ◌⊎◌, Option}
use Rattle.sig_types.specs.Limits.{most_instrs}
use Rattle.std.specs.List.{AllByRecursion}
use Rattle.std.proofs.lemmas.Bool.{cases_lt}
use Rattle.std.proofs.lemmas.Bool.Decides.{nat_tests}
use Rattle.std.proofs.lemmas.List.Elements.{All-from_recursion, All-contains, Contains-get_or, Contains-append_right}
use Rattle.vap_ast.specs.Syntax.{Program}
use Rattle.vap_check.specs.declared.refusal.CheckWhy.{CheckWhy}
use Rattle.vap_check.specs.declared.refusal.CheckWhy.TheVariants.{ConstTwice, NameKind, LabelTwice, NoLabel, SubTwice, NoSub, ArraySize, AssignConst, Arity, Limit, StatementTooLong, ProgramTooLong}
use Rattle.vap_check.specs.declared.refusal.Which.{Which}
use Rattle.vap_check.specs.declared.refusal.Which.TheVariants.{Variables, Timers, Arrays, Cells, Subroutines, Labels}
use Rattle.vap_check.specs.declared.finding.Finding.{Finding}
use Rattle.vap_check.specs.FirstFinding.{order, is_sooner, first_of_all, IsFirst}
use Rattle.vap_check.specs.Findings.{findings}
use Rattle.vap_check.specs.Accepted.{Accepted, Refuses, passed, program_size, wrong, many, long}

-- what isn't sooner than something that isn't sooner than a third, isn't sooner than the third
passes : (al ao bl bo cl co : ℕ) → (nat_lt al bl || (al == bl && nat_lt ao bo)) ≡ false → (nat_lt bl cl || (bl == cl && nat_lt bo co)) ≡ false →
    (nat_lt al cl || (al == cl && nat_lt ao co)) ≡ false
passes al ao bl bo cl co e f = grind (arith, nat_tests)

turns : (al ao bl bo : ℕ) → (nat_lt al bl || (al == bl && nat_lt ao bo)) ≡ true → (nat_lt bl al || (bl == al && nat_lt bo ao)) ≡ false
turns al ao bl bo e = grind (arith, nat_tests)

itself : (al ao : ℕ) → (nat_lt al al || (al == al && nat_lt ao ao)) ≡ false
itself al ao = grind (arith, nat_tests)

same_line : (al ao bl bo : ℕ) → (nat_lt al bl || (al == bl && nat_lt ao bo)) ≡ false → (nat_lt bl al || (bl == al && nat_lt bo ao)) ≡ false → al ≡ bl
same_line al ao bl bo e f = grind (arith, nat_tests)

same_order : (al ao bl bo : ℕ) → (nat_lt al bl || (al == bl && nat_lt ao bo)) ≡ false → (nat_lt bl al || (bl == al && nat_lt bo ao)) ≡ false → ao ≡ bo
same_order al ao bl bo e f = grind (arith, nat_tests)

-- the finding that is kept is the one there was or one of these, and none of all is sooner
pub record Least (g : Finding) (fs : List Finding) (f : Finding) : Type 0 where
  pub from : (g ≡ f) ⊎ Contains fs f
  pub before : is_sooner g f ≡ false
  pub none : AllByRecursion (λ h. is_sooner h f ≡ false) fs

either : {A B C : Type 0} → A ⊎ B → (A → C) → (B → C) → C
either (inl a) f g = f a
either (inr b) f g = g b

more : (x : Finding) (fs : List Finding) (f : Finding) → Contains fs f → Contains (x ∷ fs) f
more x fs f c = Contains-append_right (x ∷ []) fs f c

here : (x : Finding) (fs : List Finding) → Contains (x ∷ fs) x
here x fs = Contains-get_or (x ∷ fs) 0 x (omega arith)

follows : (a b c : Finding) → is_sooner a b ≡ false → is_sooner b c ≡ false → is_sooner a c ≡ false
follows a b c = passes a.line (order a.why) b.line (order b.why) c.line (order c.why)

-- a sooner one takes the place
taken : (g x : Finding) (fs : List Finding) (f : Finding) → is_sooner x g ≡ true → Least x fs f → Least g (x ∷ fs) f
taken g x fs f e l = record {
  from = inr (either l.from (λ is. subst (Contains (x ∷ fs)) is (here x fs)) (λ c. more x fs f c));
  before = follows g x f (turns x.line (order x.why) g.line (order g.why) e) l.before;
  none = (l.before, l.none);
}

-- another one doesn't
kept : (g x : Finding) (fs : List Finding) (f : Finding) → is_sooner x g ≡ false → Least g fs f → Least g (x ∷ fs) f
kept g x fs f e l = record {
  from = either l.from (λ is. inl is) (λ c. inr (more x fs f c));
  before = l.before;
  none = (follows x g f e l.before, l.none);
}

least : (fs : List Finding) (g f : Finding) → first_of_all (Some g) fs ≡ Some f → Least g fs f
least [] g f e =
    let is : g ≡ f = cc in
    record { from = inl is; before = subst (λ h. is_sooner g h ≡ false) is (itself g.line (order g.why)); none = tt }
least (x ∷ fs) g f e =
    (elim (is_sooner x g) as (λ b. is_sooner x g ≡ b → first_of_all (if b then Some x else Some g) fs ≡ Some f → Least g (x ∷ fs) f) [
      | true ↦ λ t h. taken g x fs f t (least fs x f h)
      | false ↦ λ t h. kept g x fs f t (least fs g f h)
    ]) refl e

still : (fs : List Finding) (g : Finding) → first_of_all (Some g) fs ≡ None → ⊥
still [] g e = cc
still (x ∷ fs) g e =
    (elim (is_sooner x g) as (λ b. first_of_all (if b then Some x else Some g) fs ≡ None → ⊥) [
      | true ↦ λ h. still fs x h
      | false ↦ λ h. still fs g h
    ]) e

-- the first of all findings
pub first_is : (fs : List Finding) (f : Finding) → first_of_all None fs ≡ Some f → IsFirst fs f
first_is [] f e = cc
first_is (x ∷ fs) f e =
    let l = least fs x f e in (
      either l.from (λ is. subst (Contains (x ∷ fs)) is (here x fs)) (λ c. more x fs f c),
      All-from_recursion (λ h. is_sooner h f ≡ false) (x ∷ fs) (l.before, l.none),
    )

-- where none is kept there is none
pub none_is : (fs : List Finding) → first_of_all None fs ≡ None → fs ≡ []
none_is [] e = refl
none_is (x ∷ fs) e = absurd (still fs x e)

-- ---- one answer

-- the reason at a place of the order
abbrev reason_at : ℕ → CheckWhy
reason_at n =
    if n == 1 then ConstTwice
    else if n == 2 then NameKind
    else if n == 3 then LabelTwice
    else if n == 4 then NoLabel
    else if n == 5 then SubTwice
    else if n == 6 then NoSub
    else if n == 7 then ArraySize
    else if n == 8 then AssignConst
    else if n == 9 then Arity
    else if n == 10 then Limit Variables
    else if n == 11 then Limit Timers
    else if n == 12 then Limit Arrays
    else if n == 13 then Limit Cells
    else if n == 14 then Limit Subroutines
    else if n == 15 then Limit Labels
    else if n == 16 then StatementTooLong
    else ProgramTooLong

at_order : (why : CheckWhy) → reason_at (order why) ≡ why
at_order ConstTwice = refl
at_order NameKind = refl
at_order LabelTwice = refl
at_order NoLabel = refl
at_order SubTwice = refl
at_order NoSub = refl
at_order ArraySize = refl
at_order AssignConst = refl
at_order Arity = refl
at_order (Limit Variables) = refl
at_order (Limit Timers) = refl
at_order (Limit Arrays) = refl
at_order (Limit Cells) = refl
at_order (Limit Subroutines) = refl
at_order (Limit Labels) = refl
at_order StatementTooLong = refl
at_order ProgramTooLong = refl

one_order : (v w : CheckWhy) → order v ≡ order w → v ≡ w
one_order v w e = sym (at_order v) ∙ ap reason_at e ∙ at_order w

one_first : (fs : List Finding) (f g : Finding) → IsFirst fs f → IsFirst fs g → (f.line ≡ g.line) × (f.why ≡ g.why)
one_first fs f g a b =
    let x : is_sooner f g ≡ false = All-contains (λ h. is_sooner h g ≡ false) fs f b.1 a.0 in
    let y : is_sooner g f ≡ false = All-contains (λ h. is_sooner h f ≡ false) fs g a.1 b.0 in
    (same_line f.line (order f.why) g.line (order g.why) x y, one_order f.why g.why (same_order f.line (order f.why) g.line (order g.why) x y))

nothing : (fs : List Finding) (f : Finding) → fs ≡ [] → IsFirst fs f → ⊥
nothing fs f e a = let c : Contains [] f = subst (λ gs. Contains gs f) e a.0 in omega (arith, c.1)

pub one_refusal : (p : Program) (l m : ℕ) (v w : CheckWhy) → Refuses p l v → Refuses p m w → (l ≡ m) × (v ≡ w)
one_refusal p l m v w (wrong _ _ a) (wrong _ _ b) = one_first (findings p) (record { line = l; why = v }) (record { line = m; why = w }) a b
one_refusal p l m v w (wrong _ _ a) (many which e f) = absurd (nothing (findings p) _ e a)
one_refusal p l m v w (wrong _ _ a) (long e f g) = absurd (nothing (findings p) _ e a)
one_refusal p l m v w (many which e f) (wrong _ _ a) = absurd (nothing (findings p) _ e a)
one_refusal p l m v w (many which e f) (many other h j) = let same : which ≡ other = cc in (refl, ap Limit same)
one_refusal p l m v w (many which e f) (long h j k) = cc
one_refusal p l m v w (long e f g) (wrong _ _ a) = absurd (nothing (findings p) _ e a)
one_refusal p l m v w (long e f g) (many which h j) = cc
one_refusal p l m v w (long e f g) (long h j k) = (refl, refl)

pub none_both : (p : Program) (l : ℕ) (v : CheckWhy) → Accepted p → Refuses p l v → ⊥
none_both p l v a (wrong _ _ b) = nothing (findings p) _ a.clean b
none_both p l v a (many which e f) = let g = a.few in cc
none_both p l v a (long e f g) = omega (arith, a.short)

-- ---- some answer

abbrev Answer : Program → Type 0
Answer p = Accepted p ⊎ ((l : ℕ) × (w : CheckWhy) × Refuses p l w)

-- nothing is wrong, and this is what there is too many of
few_answer : (p : Program) (which : Option Which) → findings p ≡ [] → passed p ≡ which → Answer p
few_answer p (Some which) clean e = inr (0, Limit which, many which clean e)
few_answer p None clean e =
    elim (cases_lt most_instrs (program_size p)) [
      | inl lt ↦ inr (0, ProgramTooLong, long clean e lt)
      | inr le ↦ inl (record { clean = clean; few = e; short = le })
    ]

-- this is the first of all that is wrong
first_answer : (p : Program) (first : Option Finding) → first_of_all None (findings p) ≡ first → Answer p
first_answer p (Some f) e = inr (f.line, f.why, wrong f.line f.why (first_is (findings p) f e))
first_answer p None e = few_answer p (passed p) (none_is (findings p) e) refl

pub has_answer : (p : Program) → Answer p
has_answer p = first_answer p (first_of_all None (findings p)) refl
