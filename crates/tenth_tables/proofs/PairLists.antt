-- The seconds of pairs among records, and the cells in which a reader holds them.
use Rattle.std.proofs.Common.{◌≡◌, ◌≢◌, ◌∙◌, ℕ, ◌+◌, ◌*◌, ◌<◌, ◌≤◌, ◌⊎◌, Bool, true, false, List, [], ◌∷◌, ◌++◌, length, get_or, Some, None, Option, refl, sym, ap, arith, inl, inr, subst, slice_set, length-append}
use Rattle.std.proofs.lemmas.List.{length-set, get_or_append_left}
use Rattle.std.proofs.Math.Seq.{get_or-append_seam}
use Rattle.std.specs.Prelude.{is_some, ◌==◌, unwrap_or}
use Rattle.std.proofs.lemmas.Bool.{cases_Bool, cases_eq, cases_lt, and_right}
use Rattle.std.proofs.lemmas.Bool.Decides.{eqb_tells}
use Rattle.std.proofs.lemmas.Option.{none-some, same_Some}
use Rattle.sig_types.specs.declared.numbers.GroupNo.{GroupNo}
use Rattle.pua_model.specs.Plan.{PlanOf, groups_in}
use Rattle.sig_tables.specs.declared.refusal.TableWhy.{TableWhy}
use Rattle.sig_tables.specs.declared.refusal.TableWhy.TheVariants as why
use Rattle.sig_tables.specs.Records.{Row}
use Rattle.sig_tables.specs.Pairs.{cell_of}
use Rattle.sig_tables.specs.IntergreenTable.{pair_in, is_pair}
use Rattle.tenth_tables.specs.Intergreens.{listed_tenths, tenths_in, intergreen_form, intergreen_reason}
use Rattle.sig_tables.specs.Held.{no_pair}
use Rattle.tenth_tables.specs.Held.{HoldsPairs}
use Rattle.sig_tables.proofs.Cells.{cell_in, cell_here, cell_other, cell_none}

listed_other : (plan : PlanOf) (rows : List Row) (row : Row) (i g : ℕ) → is_pair (pair_in plan row) i g ≡ false → listed_tenths plan (rows ++ row ∷ []) i g ≡ listed_tenths plan rows i g
unfolding listed_tenths
listed_other plan [] row i g other = rw other refl
listed_other plan (r ∷ rs) row i g other = rw (listed_other plan rs row i g other) refl

listed_here : (plan : PlanOf) (rows : List Row) (row : Row) (i g : ℕ) → listed_tenths plan rows i g ≡ None → is_pair (pair_in plan row) i g ≡ true →
    listed_tenths plan (rows ++ row ∷ []) i g ≡ Some (unwrap_or (tenths_in row) 0)
unfolding listed_tenths
listed_here plan [] row i g none here = rw here refl
listed_here plan (r ∷ rs) row i g none here = elim (cases_Bool (is_pair (pair_in plan r) i g)) [
  | inl at ↦ absurd (none-some _ (sym (rw at at none)))
  | inr other ↦ rw other (listed_here plan rs row i g (rw other at none) here)
]

pub reason_form : (plan : PlanOf) (rows : List Row) (row : Row) (why : TableWhy) → intergreen_form plan row ≡ Some why → intergreen_reason plan rows row ≡ Some why
unfolding intergreen_reason
reason_form plan rows row why is = rw is refl

pub reason_twice : (plan : PlanOf) (rows : List Row) (row : Row) (f t : ℕ) → intergreen_form plan row ≡ None → pair_in plan row ≡ Some (f, t) → is_some (listed_tenths plan rows f t) ≡ true →
    intergreen_reason plan rows row ≡ Some why.Twice
unfolding intergreen_reason
reason_twice plan rows row f t right is twice = rw (right, is, twice) refl

pub reason_self : (plan : PlanOf) (rows : List Row) (row : Row) (f t : ℕ) → intergreen_form plan row ≡ None → pair_in plan row ≡ Some (f, t) → is_some (listed_tenths plan rows f t) ≡ false →
    (f == t) ≡ true → intergreen_reason plan rows row ≡ Some why.SelfConflict
unfolding intergreen_reason
reason_self plan rows row f t right is once self = rw (right, is, once, self) refl

pub reason_none : (plan : PlanOf) (rows : List Row) (row : Row) (f t : ℕ) → intergreen_form plan row ≡ None → pair_in plan row ≡ Some (f, t) → is_some (listed_tenths plan rows f t) ≡ false →
    (f == t) ≡ false → intergreen_reason plan rows row ≡ None
unfolding intergreen_reason
reason_none plan rows row f t right is once self = rw (right, is, once, self) refl

-- a reader holds what is listed
pub held_listed : (plan : PlanOf) (rows : List Row) (cells : List (Option ℕ)) (pairs : List (GroupNo × GroupNo)) (f t : ℕ) → HoldsPairs plan rows cells pairs → f < 64 → t < 64 → (b : Bool) →
    is_some (get_or cells (64 * f + t) None) ≡ b → is_some (listed_tenths plan rows f t) ≡ b
held_listed plan rows cells pairs f t holds fl tl b is = ap is_some (sym (holds.seconds f t) ∙ cell_in cells f t fl tl) ∙ is

no_self : (f t g : ℕ) → f ≢ t → f ≡ g → t ≡ g → ⊥
no_self f t g ne e1 e2 = ne (e1 ∙ sym e2)

apart_pair : (f t i g : ℕ) → (f ≡ i → t ≡ g → ⊥) → is_pair (Some (f, t)) i g ≡ false
apart_pair f t i g ne = elim (cases_eq f i) [
  | inl e ↦ (elim (cases_eq t g) [ inl e2 ↦ absurd (ne e e2) | inr n2 ↦ (let h : (t == g) ≡ false = grind (arith, eqb_tells) in rw h (and_right (f == i) false refl)) ])
  | inr n ↦ (let h : (f == i) ≡ false = grind (arith, eqb_tells) in rw h refl)
]

same_pair : (f t i g : ℕ) → f ≡ i → t ≡ g → is_pair (Some (f, t)) i g ≡ true
same_pair f t i g e1 e2 =
    let h1 : (f == i) ≡ true = grind (arith, eqb_tells) in
    let h2 : (t == g) ≡ true = grind (arith, eqb_tells) in
    rw (h1, h2) refl

-- a cell after one pair more, by whether it is that pair's
cases_cell : (f t i g : ℕ) → ((f ≡ i) × (t ≡ g)) ⊎ (f ≡ i → t ≡ g → ⊥)
cases_cell f t i g = elim (cases_eq f i) [
  | inl e ↦ (elim (cases_eq t g) [ inl e2 ↦ inl (e, e2) | inr n2 ↦ inr (λ a b. n2 b) ])
  | inr n ↦ inr (λ a b. n a)
]

cell_at : (cells : List (Option ℕ)) (f t i g : ℕ) (z : Option ℕ) → length cells ≡ 4096 → f < 64 → t < 64 → f ≡ i → t ≡ g → cell_of (slice_set cells (64 * f + t) z) i g ≡ z
cell_at cells f t i g z size fl tl e1 e2 = subst (λ (j : ℕ). cell_of (slice_set cells (64 * f + t) z) j g ≡ z) e1 (subst (λ (j : ℕ). cell_of (slice_set cells (64 * f + t) z) f j ≡ z) e2 (cell_here cells f t z size fl tl))

-- one more record is held
pub held_more : (plan : PlanOf) (rows : List Row) (cells : List (Option ℕ)) (pairs : List (GroupNo × GroupNo)) (row : Row) (from to : GroupNo) (z : ℕ) → HoldsPairs plan rows cells pairs →
    groups_in plan ≤ 64 → from.0 < groups_in plan → to.0 < groups_in plan → from.0 ≢ to.0 → pair_in plan row ≡ Some (from.0, to.0) →
    get_or cells (64 * from.0 + to.0) None ≡ None → tenths_in row ≡ Some z → z ≤ 990 →
    HoldsPairs plan (rows ++ row ∷ []) (slice_set cells (64 * from.0 + to.0) (Some z)) (pairs ++ (from, to) ∷ [])
held_more plan rows cells pairs row from to z holds few fl tl ne named free read range =
    let f64 : from.0 < 64 = omega arith in
    let t64 : to.0 < 64 = omega arith in
    record {
      size = length-set cells (64 * from.0 + to.0) (Some z) ∙ holds.size;
      seconds = λ i g. elim (cases_cell from.0 to.0 i g) [
        | inl same ↦ (let here : is_pair (pair_in plan row) i g ≡ true = rw named (same_pair from.0 to.0 i g same.0 same.1) in
            let none : listed_tenths plan rows i g ≡ None = sym (holds.seconds i g) ∙ subst (λ (j : ℕ). cell_of cells j g ≡ None) same.0 (subst (λ (j : ℕ). cell_of cells from.0 j ≡ None) same.1 (cell_in cells from.0 to.0 f64 t64 ∙ free)) in
            cell_at cells from.0 to.0 i g (Some z) holds.size f64 t64 same.0 same.1 ∙ sym (listed_here plan rows row i g none here ∙ ap (λ o. Some (unwrap_or o 0)) read))
        | inr other ↦ (let apart : is_pair (pair_in plan row) i g ≡ false = rw named (apart_pair from.0 to.0 i g other) in
            cell_other cells from.0 to.0 i g (Some z) f64 t64 other ∙ holds.seconds i g ∙ sym (listed_other plan rows row i g apart))
      ];
      count = omega (arith, holds.count, length-append pairs ((from, to) ∷ []), length-append rows (row ∷ []));
      named = λ k lt. elim (cases_lt k (length rows)) [
        | inl before ↦ rw (get_or_append_left rows (row ∷ []) [] k before, get_or_append_left pairs ((from, to) ∷ []) no_pair k (omega (arith, holds.count))) (holds.named k before)
        | inr last ↦ (let e : k ≡ length rows = omega (arith, length-append rows (row ∷ [])) in
            let p : k ≡ length pairs = omega (arith, holds.count) in
            rw (ap (λ (n : ℕ). get_or (rows ++ row ∷ []) n []) e ∙ get_or-append_seam rows row [] [], ap (λ (n : ℕ). get_or (pairs ++ (from, to) ∷ []) n no_pair) p ∙ get_or-append_seam pairs (from, to) [] no_pair) named)
      ];
      inside = λ i g y some. elim (cases_cell from.0 to.0 i g) [
        | inl same ↦ (omega (arith, same.0), omega (arith, same.1))
        | inr other ↦ holds.inside i g y (sym (cell_other cells from.0 to.0 i g (Some z) f64 t64 other) ∙ some)
      ];
      range = λ i g y some. elim (cases_cell from.0 to.0 i g) [
        | inl same ↦ (let e : z ≡ y = same_Some z y (sym (cell_at cells from.0 to.0 i g (Some z) holds.size f64 t64 same.0 same.1) ∙ some) in omega arith)
        | inr other ↦ holds.range i g y (sym (cell_other cells from.0 to.0 i g (Some z) f64 t64 other) ∙ some)
      ];
      other = λ g. cell_other cells from.0 to.0 g g (Some z) f64 t64 (no_self from.0 to.0 g ne) ∙ holds.other g;
      found = λ i g y some. elim (cases_cell from.0 to.0 i g) [
        | inl same ↦ (length pairs, (omega (arith, length-append pairs ((from, to) ∷ [])), ap (λ (p : GroupNo × GroupNo). p.0.0) (get_or-append_seam pairs (from, to) [] no_pair) ∙ same.0, ap (λ (p : GroupNo × GroupNo). p.1.0) (get_or-append_seam pairs (from, to) [] no_pair) ∙ same.1))
        | inr other ↦ (let old = holds.found i g y (sym (cell_other cells from.0 to.0 i g (Some z) f64 t64 other) ∙ some) in
            (old.0, (omega (arith, old.1.0, length-append pairs ((from, to) ∷ [])), ap (λ (p : GroupNo × GroupNo). p.0.0) (get_or_append_left pairs ((from, to) ∷ []) no_pair old.0 old.1.0) ∙ old.1.1, ap (λ (p : GroupNo × GroupNo). p.1.0) (get_or_append_left pairs ((from, to) ∷ []) no_pair old.0 old.1.0) ∙ old.1.2)))
      ];
    }

pub held_nothing : (plan : PlanOf) (cells : List (Option ℕ)) → length cells ≡ 4096 → ((k : ℕ) → get_or cells k None ≡ None) → HoldsPairs plan [] cells []
unfolding listed_tenths
held_nothing plan cells size none = record {
  size = size;
  seconds = λ i g. cell_none cells i g none;
  count = refl;
  named = λ k lt. absurd (omega arith);
  inside = λ i g z some. absurd (none-some z (sym (cell_none cells i g none) ∙ some));
  range = λ i g z some. absurd (none-some z (sym (cell_none cells i g none) ∙ some));
  other = λ g. cell_none cells g g none;
  found = λ i g z some. absurd (none-some z (sym (cell_none cells i g none) ∙ some));
}
