-- Where nothing is wrong, each name is declared once.
use Rattle.std.proofs.Common.{◌≡◌, ℕ, ◌≤◌, Bool, true, false, List, [], ◌∷◌, ◌++◌, map, length, Option, None, Some, refl, sym, ap, ◌∙◌, if◌then◌else◌, append_assoc, append-nil}
use Rattle.std.specs.Prelude.{nat_lt, filter}
use Rattle.std.proofs.lemmas.Bool.{ltb-false}
use Rattle.vap_ast.specs.Syntax.{Array, Routine, Program}
use Rattle.vap_check.specs.declared.refusal.CheckWhy.{CheckWhy}
use Rattle.vap_check.specs.declared.refusal.CheckWhy.TheVariants.{NameKind, SubTwice, ArraySize}
use Rattle.vap_check.specs.declared.refusal.Which.{Which}
use Rattle.vap_check.specs.declared.refusal.Which.TheVariants.{Variables, Timers, Arrays, Cells, Subroutines, Labels}
use Rattle.vap_check.specs.declared.finding.Finding.{Finding}
use Rattle.vap_check.specs.declared.kinds.Kind.{Kind}
use Rattle.vap_check.specs.declared.kinds.Kind.TheVariants as kind
use Rattle.vap_check.specs.declared.known.Known.{Known}
use Rattle.vap_check.specs.FirstFinding.{when}
use Rattle.vap_check.specs.Names.{among, with_name, with_names, distinct, kind_of, uses, is_kind, variables, timers, array_names, sub_names}
use Rattle.vap_check.specs.KeptNames.{Knows, of_kind}
use Rattle.vap_check.specs.Findings.{const_findings, array_findings, subs_findings, body_findings, clash_findings, is_odd_size, const_line, is_declared, findings}
use Rattle.vap_check.specs.Accepted.{passed, cells, labels}
use Rattle.vap_check.specs.Usable.{Few}
use Rattle.vap_check.proofs.Agree.{kinds_are}

-- two lists that are empty together
pub first_empty : (a b : List Finding) → a ++ b ≡ [] → a ≡ []
first_empty [] b e = refl
first_empty (x ∷ a) b e = cc

pub second_empty : (a b : List Finding) → a ++ b ≡ [] → b ≡ []
second_empty [] b e = e
second_empty (x ∷ a) b e = cc

pub when_none : (b : Bool) (line : ℕ) (why : CheckWhy) → when b line why ≡ [] → b ≡ false
when_none true line why e = cc
when_none false line why e = refl

pub one_name : (names : List (List ℕ)) (x : List ℕ) → among names x ≡ false → with_name names x ≡ names ++ x ∷ []
one_name names x e = ap (λ b. if b then names else names ++ x ∷ []) e

-- ---- arrays

fresh_arrays : (xs : List Array) (line_of : List ℕ → Option ℕ) (before : List (List ℕ)) → array_findings line_of before xs ≡ [] →
    with_names before (map (λ a. a.name) xs) ≡ before ++ map (λ a. a.name) xs
fresh_arrays [] line_of before e = sym (append-nil before)
fresh_arrays (a ∷ xs) line_of before e =
    let w = when (among before a.name) a.line NameKind in
    let clash = clash_findings (line_of a.name) a.line in
    let size = when (is_odd_size a.size a.values) a.line ArraySize in
    let rest = array_findings line_of (with_name before a.name) xs in
    let new = when_none (among before a.name) a.line NameKind (first_empty w (clash ++ (size ++ rest)) e) in
    let nothing : rest ≡ [] = second_empty size rest (second_empty clash (size ++ rest) (second_empty w (clash ++ (size ++ rest)) e)) in
    let later = map (λ (a : Array). a.name) xs in
    fresh_arrays xs line_of (with_name before a.name) nothing ∙ ap (λ (ns : List (List ℕ)). ns ++ later) (one_name before a.name new) ∙
    append_assoc before (a.name ∷ []) later

-- ---- subroutines

fresh_subs : (rs : List Routine) (kind : List ℕ → Kind) (taken : List ℕ → Bool) (before : List (List ℕ)) → subs_findings kind taken before rs ≡ [] →
    with_names before (map (λ r. r.name) rs) ≡ before ++ map (λ r. r.name) rs
fresh_subs [] kind taken before e = sym (append-nil before)
fresh_subs (r ∷ rs) kind taken before e =
    let w = when (among before r.name) r.line SubTwice in
    let other = when (taken r.name) r.line NameKind in
    let body = body_findings kind before r.body in
    let rest = subs_findings kind taken (with_name before r.name) rs in
    let new = when_none (among before r.name) r.line SubTwice (first_empty w (other ++ (body ++ rest)) e) in
    let nothing : rest ≡ [] = second_empty body rest (second_empty other (body ++ rest) (second_empty w (other ++ (body ++ rest)) e)) in
    let later = map (λ (r : Routine). r.name) rs in
    fresh_subs rs kind taken (with_name before r.name) nothing ∙ ap (λ (ns : List (List ℕ)). ns ++ later) (one_name before r.name new) ∙
    append_assoc before (r.name ∷ []) later

-- ---- a program

module _ (p : Program) (clean : findings p ≡ []) where
  abbrev array_part : List Finding
  array_part = array_findings (const_line p.consts) [] p.arrays

  abbrev sub_part : List Finding
  sub_part = subs_findings (kind_of p) (is_declared p) [] p.subs

  abbrev main_part : List Finding
  main_part = body_findings (kind_of p) (sub_names p) p.main.body

  pub no_const : const_findings [] p.consts ≡ []
  no_const = first_empty (const_findings [] p.consts) (array_part ++ (sub_part ++ main_part)) clean

  past_consts : array_part ++ (sub_part ++ main_part) ≡ []
  past_consts = second_empty (const_findings [] p.consts) (array_part ++ (sub_part ++ main_part)) clean

  pub no_array : array_findings (const_line p.consts) [] p.arrays ≡ []
  no_array = first_empty array_part (sub_part ++ main_part) past_consts

  past_arrays : sub_part ++ main_part ≡ []
  past_arrays = second_empty array_part (sub_part ++ main_part) past_consts

  pub no_sub : subs_findings (kind_of p) (is_declared p) [] p.subs ≡ []
  no_sub = first_empty sub_part main_part past_arrays

  pub no_main : body_findings (kind_of p) (sub_names p) p.main.body ≡ []
  no_main = second_empty sub_part main_part past_arrays

  pub arrays_kept : distinct (array_names p) ≡ array_names p
  arrays_kept = fresh_arrays p.arrays (const_line p.consts) [] no_array

  pub subs_kept : distinct (sub_names p) ≡ sub_names p
  subs_kept = fresh_subs p.subs (kind_of p) (is_declared p) [] no_sub

module _ (p : Program) (k : Known) (knows : Knows k p) where
  pub timers_kept : distinct (of_kind k kind.Timer (uses p)) ≡ timers p
  timers_kept = ap (λ kind_is. distinct (filter (λ n. is_kind kind.Timer (kind_is n)) (uses p))) (kinds_are k p knows)

  pub variables_kept : distinct (of_kind k kind.Variable (uses p)) ≡ variables p
  variables_kept = ap (λ kind_is. distinct (filter (λ n. is_kind kind.Variable (kind_is n)) (uses p))) (kinds_are k p knows)

-- ---- limits

below : (limit n : ℕ) (w : Which) (other : Option Which) → (if nat_lt limit n then Some w else other) ≡ None → (n ≤ limit) × (other ≡ None)
below limit n w other e =
    (elim (nat_lt limit n) as (λ b. nat_lt limit n ≡ b → (if b then Some w else other) ≡ None → (n ≤ limit) × (other ≡ None)) [
      | true ↦ λ t h. cc
      | false ↦ λ t h. (ltb-false limit n t, h)
    ]) refl e

pub few : (p : Program) → passed p ≡ None → Few p
few p e =
    let a = below 256 (length (variables p)) Variables _ e in
    let b = below 64 (length (timers p)) Timers _ a.1 in
    let c = below 32 (length p.arrays) Arrays _ b.1 in
    let d = below 4096 (cells p) Cells _ c.1 in
    let f = below 64 (length p.subs) Subroutines _ d.1 in
    let g = below 4096 (labels p) Labels _ f.1 in
    record { variables = a.0; timers = b.0; arrays = c.0; cells = d.0; subs = f.0; labels = g.0 }
