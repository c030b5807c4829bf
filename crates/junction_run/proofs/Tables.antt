-- An accepted table of intergreens lists each pair both ways, and no group with itself.
use Rattle.std.proofs.Common.{
  ◌≡◌,
  ◌∙◌,
  ℕ,
  zero,
  suc,
  ◌<◌,
  ◌+◌,
  Bool,
  true,
  false,
  List,
  [],
  ◌∷◌,
  length,
  get_or,
  take,
  drop,
  Option,
  None,
  Some,
  refl,
  sym,
  ap,
  arith,
  inl,
  inr,
}
use Rattle.std.specs.Prelude.{is_none, is_some, ◌==◌, unwrap_or, if◌then◌else◌}
use Rattle.std.proofs.lemmas.Bool.{cases_lt, true≢false, and_left, and_right}
use Rattle.std.proofs.lemmas.Bool.Decides.{eqb_tells}
use Rattle.sig_types.specs.FirstRefused.{or_next, refused_to, first_refused, when, with_line}
use Rattle.pua_model.specs.Plan.{PlanOf}
use Rattle.sig_tables.specs.declared.refusal.TableWhy.{TableWhy}
use Rattle.sig_tables.specs.declared.refusal.TableWhy.TheVariants as why
use Rattle.sig_tables.specs.Records.{Row, table_rows}
use Rattle.sig_tables.specs.Refusals.{numbered}
use Rattle.sig_tables.specs.IntergreenTable.{
  listed_seconds,
  pair_in,
  is_pair,
  is_self,
  has_pair,
  intergreen_form,
  intergreen_reason,
  one_way,
  one_way_reason,
  intergreens_refused,
  intergreen_of,
}

-- a pair is listed both ways, and is of two groups
pub record IsListedWell (seconds : ℕ → ℕ → Option ℕ) : Type 0 where
  pub both : (i g z : ℕ) → seconds i g ≡ Some z → is_some (seconds g i) ≡ true
  pub other : (g : ℕ) → seconds g g ≡ None

or_none : {W : Type 0} (a b : Option W) → or_next a b ≡ None → (a ≡ None) × (b ≡ None)
or_none None b is = (refl, is)
or_none (Some x) b is = cc

-- of an accepted list each item is accepted
accepted_at : {A W : Type 0} (judge : List A → A → Option W) (xs : List A) (d : A) (n k : ℕ) → refused_to judge xs d n ≡ None → k < n →
    judge (take k xs) (get_or xs k d) ≡ None
unfolding refused_to
accepted_at judge xs d zero k is below = absurd (omega arith)
accepted_at judge xs d (suc n) k is below =
    let parts = or_none (refused_to judge xs d n) (judge (take n xs) (get_or xs n d)) is in
    elim (cases_lt k n) [
      | inl before ↦ accepted_at judge xs d n k parts.0 before
      | inr last ↦ (let e : k ≡ n = omega arith in rw e parts.1)
    ]

-- seconds that are listed stand in a record
found_case : (plan : PlanOf) (row : Row) (rows : List Row) (i g z : ℕ) (b : Bool) → is_pair (pair_in plan row) i g ≡ b →
    (if b then Some (unwrap_or (Rattle.sig_tables.specs.IntergreenTable.seconds_in row) 0) else listed_seconds plan rows i g) ≡ Some z →
    (listed_seconds plan rows i g ≡ Some z → (k : ℕ) × (k < length rows) × (is_pair (pair_in plan (get_or rows k [])) i g ≡ true)) →
    (k : ℕ) × (k < length (row ∷ rows)) × (is_pair (pair_in plan (get_or (row ∷ rows) k [])) i g ≡ true)
found_case plan row rows i g z true here is later = (0, omega arith, here)
found_case plan row rows i g z false here is later = let at = later is in (suc at.0, omega (arith, at.1), at.2)

found : (plan : PlanOf) (rows : List Row) (i g z : ℕ) → listed_seconds plan rows i g ≡ Some z →
    (k : ℕ) × (k < length rows) × (is_pair (pair_in plan (get_or rows k [])) i g ≡ true)
unfolding listed_seconds
found plan [] i g z is = cc
found plan (row ∷ rows) i g z is = found_case plan row rows i g z (is_pair (pair_in plan row) i g) refl is (λ later. found plan rows i g z later)

pair_is : (o : Option (ℕ × ℕ)) (i g : ℕ) → is_pair o i g ≡ true → o ≡ Some (i, g)
pair_is None i g is = cc
pair_is (Some p) i g is =
    let first : p.0 ≡ i = grind (arith, eqb_tells, and_left) in
    let second : p.1 ≡ g = grind (arith, eqb_tells, and_right) in
    rw (← first, ← second) refl

none_numbered : (judge : List Row → Row → Option TableWhy) (before : List Row) (row : Row) → numbered judge before row ≡ None → judge before row ≡ None
unfolding numbered
none_numbered judge before row is = unnumbered (judge before row) is
  where
    unnumbered : (o : Option TableWhy) → with_line (length before + 2) o ≡ None → o ≡ None
    unnumbered None is = refl
    unnumbered (Some w) is = cc

when_none : (b : Bool) (w : TableWhy) → when b w ≡ None → b ≡ false
when_none true w is = cc
when_none false w is = refl

other_way : (plan : PlanOf) (rows before : List Row) (row : Row) (i g : ℕ) → pair_in plan row ≡ Some (i, g) → one_way_reason plan rows before row ≡ None →
    is_some (listed_seconds plan rows g i) ≡ true
unfolding one_way_reason
other_way plan rows before row i g named is =
    let way : one_way plan rows (Some (i, g)) ≡ None = ap (λ o. one_way plan rows o) (sym named) ∙ is in
    not_none (listed_seconds plan rows g i) (when_none (is_none (listed_seconds plan rows g i)) (why.OneWay (record { 0 = i }) (record { 0 = g })) way)
  where
    not_none : (o : Option ℕ) → is_none o ≡ false → is_some o ≡ true
    not_none None e = cc
    not_none (Some z) e = refl

same_refused : (plan : PlanOf) (before : List Row) (row : Row) (g : ℕ) → pair_in plan row ≡ Some (g, g) → intergreen_reason plan before row ≡ None → ⊥
unfolding intergreen_reason
same_refused plan before row g named is =
    let form = or_none (intergreen_form plan row)
    (or_next (when (has_pair plan before (pair_in plan row)) why.Twice) (or_next (when (is_self (pair_in plan row)) why.SelfConflict) None)) is in
    let twice = or_none (when (has_pair plan before (pair_in plan row)) why.Twice) (or_next (when (is_self (pair_in plan row)) why.SelfConflict) None) form.1 in
    let self = or_none (when (is_self (pair_in plan row)) why.SelfConflict) None twice.1 in
    let two : is_self (Some (g, g)) ≡ false = ap is_self (sym named) ∙ when_none (is_self (pair_in plan row)) why.SelfConflict self.0 in
    let one : (g == g) ≡ true = grind (arith, eqb_tells) in
    true≢false (sym one ∙ two)

listed_well : (plan : PlanOf) (rows : List Row) → first_refused (numbered (intergreen_reason plan)) rows [] ≡ None →
    first_refused (numbered (one_way_reason plan rows)) rows [] ≡ None → IsListedWell (listed_seconds plan rows)
listed_well plan rows right both = record {
  both = λ i g z is.
      let at = found plan rows i g z is in
      let named = pair_is (pair_in plan (get_or rows at.0 [])) i g at.2 in
      other_way plan rows (take at.0 rows) (get_or rows at.0 []) i g named
      (none_numbered (one_way_reason plan rows) _ _ (accepted_at (numbered (one_way_reason plan rows)) rows [] (length rows) at.0 both at.1));
  other = λ g. no_self g (listed_seconds plan rows g g) refl;
}
  where
    no_self : (g : ℕ) (o : Option ℕ) → listed_seconds plan rows g g ≡ o → o ≡ None
    no_self g None is = refl
    no_self g (Some z) is =
        let at = found plan rows g g z is in
        let named = pair_is (pair_in plan (get_or rows at.0 [])) g g at.2 in
        absurd (same_refused plan (take at.0 rows) (get_or rows at.0 []) g named
        (none_numbered (intergreen_reason plan) _ _ (accepted_at (numbered (intergreen_reason plan)) rows [] (length rows) at.0 right at.1)))

pub accepted_lists_well : (plan : PlanOf) (text : List ℕ) → intergreens_refused plan (table_rows text) ≡ None → IsListedWell (intergreen_of plan text)
unfolding intergreens_refused intergreen_of
accepted_lists_well plan text is =
    let rows : List Row = drop 1 (table_rows text) in
    let head = or_none _ (or_next (first_refused (numbered (intergreen_reason plan)) rows [])
    (or_next (first_refused (numbered (one_way_reason plan rows)) rows []) None)) is in
    let right = or_none (first_refused (numbered (intergreen_reason plan)) rows [])
    (or_next (first_refused (numbered (one_way_reason plan rows)) rows []) None) head.1 in
    let both = or_none (first_refused (numbered (one_way_reason plan rows)) rows []) None right.1 in
    listed_well plan rows right.0 both.0
