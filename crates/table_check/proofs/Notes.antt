-- What is noted with one record more.
use Rattle.std.proofs.Common.{◌≡◌, ◌≢◌, ◌∙◌, ℕ, ◌+◌, ◌*◌, ◌<◌, Bool, true, false, List, [], ◌∷◌, ◌++◌, length, get_or, Some, None, Option, refl, sym, ap, arith, inl, inr, replicate, slice_set, get_or-set_other}
use Rattle.std.proofs.lemmas.List.{length-replicate, length-set}
use Rattle.std.specs.Prelude.{is_some, IfSome, ◌==◌, ◌&&◌, zero, suc}
use Rattle.std.proofs.lemmas.Bool.{cases_Bool, cases_eq, false≢true}
use Rattle.std.proofs.lemmas.Bool.Decides.{eqb_tells}
use Rattle.std.proofs.lemmas.Grind.{get_or-set_at}
use Rattle.pua_model.specs.Plan.{PlanOf}
use Rattle.table_check.specs.declared.table.Table.{Table}
use Rattle.table_check.specs.declared.table.Table.TheVariants.{Times, Intergreens}
use Rattle.sig_tables.specs.Groups.{group_at, is_group}
use Rattle.sig_tables.specs.IntergreenTable.{is_pair, listed_seconds, pair_in}
use Rattle.sig_tables.specs.Records.{Row}
use Rattle.sig_tables.specs.TimesTable.{listed_times}
use Rattle.table_check.specs.Seen.{HasSeen, HasSeenBy, IsInPlaces, Notes, noted, pair_place, place_in}

and_both : (a b : Bool) → (a && b) ≡ true → (a ≡ true) × (b ≡ true)
and_both true b is = (refl, is)
and_both false b is = absurd (false≢true is)

same_eqb : (a b : ℕ) → a ≡ b → (a == b) ≡ true
same_eqb a b e = grind (arith, eqb_tells)

both_true : (f t i g : ℕ) → f ≡ i → t ≡ g → is_pair (Some (f, t)) i g ≡ true
both_true f t i g fi tg = rw (same_eqb f i fi, same_eqb t g tg) refl

abbrev or : Bool → Bool → Bool
or true b = true
or false b = b

or_right : (b : Bool) → or b true ≡ true
or_right true = refl
or_right false = refl

or_left : (b : Bool) → or b false ≡ b
or_left true = refl
or_left false = refl

-- a group is named by one record more where it was before or the record names it
times_pushed : (plan : PlanOf) (rows : List Row) (row : Row) (g : ℕ) →
    is_some (listed_times plan (rows ++ row ∷ []) g) ≡ or (is_some (listed_times plan rows g)) (is_group (group_at plan row 0) g)
unfolding listed_times
times_pushed plan [] row g = elim (cases_Bool (is_group (group_at plan row 0) g)) [
  | inl at ↦ rw at refl
  | inr other ↦ rw other refl
]
times_pushed plan (r ∷ rs) row g = elim (cases_Bool (is_group (group_at plan r 0) g)) [
  | inl at ↦ rw at refl
  | inr other ↦ rw other (times_pushed plan rs row g)
]

pairs_pushed : (plan : PlanOf) (rows : List Row) (row : Row) (i g : ℕ) →
    is_some (listed_seconds plan (rows ++ row ∷ []) i g) ≡ or (is_some (listed_seconds plan rows i g)) (is_pair (pair_in plan row) i g)
unfolding listed_seconds
pairs_pushed plan [] row i g = elim (cases_Bool (is_pair (pair_in plan row) i g)) [
  | inl at ↦ rw at refl
  | inr other ↦ rw other refl
]
pairs_pushed plan (r ∷ rs) row i g = elim (cases_Bool (is_pair (pair_in plan r) i g)) [
  | inl at ↦ rw at refl
  | inr other ↦ rw other (pairs_pushed plan rs row i g)
]

-- a place that is noted now is so, and all others stay
set_here : (seen : List Bool) (k : ℕ) → k < length seen → get_or (slice_set seen k true) k false ≡ true
set_here seen k lt = get_or-set_at seen k k true false refl lt

-- of a place that is noted now, or wasn't named
group_noted : (seen : List Bool) (named : Option ℕ) (g : ℕ) → IfSome named (λ k. k < 64) → length seen ≡ 4096 →
    get_or (noted seen named) g false ≡ or (get_or seen g false) (is_group named g)
group_noted seen None g inside size = sym (or_left (get_or seen g false))
group_noted seen (Some k) g inside size = elim (cases_eq k g) [
  | inl same ↦ (let at : (k == g) ≡ true = grind (arith, eqb_tells) in
      rw (at, sym same) (set_here seen k (omega arith) ∙ sym (or_right (get_or seen k false))))
  | inr ne ↦ (let off : (k == g) ≡ false = grind (arith, eqb_tells) in
      rw off (get_or-set_other seen k g true false (λ e. ne (sym e)) ∙ sym (or_left (get_or seen g false))))
]

pair_same : (f t i g : ℕ) → is_pair (Some (f, t)) i g ≡ true → 64 * i + g ≡ 64 * f + t
pair_same f t i g at =
    let parts = and_both (f == i) (t == g) at in
    let fi : f ≡ i = grind (arith, eqb_tells, parts.0) in
    let tg : t ≡ g = grind (arith, eqb_tells, parts.1) in
    omega (arith, fi, tg)

pair_apart : (f t i g : ℕ) → i < 64 → g < 64 → f < 64 → t < 64 → is_pair (Some (f, t)) i g ≡ false → 64 * i + g ≢ 64 * f + t
pair_apart f t i g il gl fl tl off e =
    let fi : f ≡ i = omega (arith, e, il, gl, fl, tl) in
    let tg : t ≡ g = omega (arith, e, il, gl, fl, tl) in
    false≢true (sym off ∙ both_true f t i g fi tg)

-- of a pair
pair_noted : (seen : List Bool) (named : Option (ℕ × ℕ)) (i g : ℕ) → i < 64 → g < 64 → IfSome named (λ p. (p.0 < 64) × (p.1 < 64)) →
    length seen ≡ 4096 → get_or (noted seen (pair_place named)) (64 * i + g) false ≡ or (get_or seen (64 * i + g) false) (is_pair named i g)
pair_noted seen None i g il gl inside size = sym (or_left (get_or seen (64 * i + g) false))
pair_noted seen (Some p) i g il gl inside size = elim (cases_Bool (is_pair (Some p) i g)) [
  | inl at ↦ (let same : 64 * i + g ≡ 64 * p.0 + p.1 = pair_same p.0 p.1 i g at in
      rw (at, same) (set_here seen (64 * p.0 + p.1) (omega (arith, size, inside.0, inside.1)) ∙ sym (or_right (get_or seen (64 * p.0 + p.1) false))))
  | inr off ↦ rw off (get_or-set_other seen (64 * p.0 + p.1) (64 * i + g) true false (pair_apart p.0 p.1 i g il gl inside.0 inside.1 off)
      ∙ sym (or_left (get_or seen (64 * i + g) false)))
]

noted_size : (seen : List Bool) (place : Option ℕ) → length (noted seen place) ≡ length seen
noted_size seen None = refl
noted_size seen (Some k) = length-set seen k true

notes_more : (plan : PlanOf) (table : Table) (rows : List Row) (row : Row) (seen : List Bool) → HasSeen plan table rows seen →
    IsInPlaces plan table row → Notes plan table (rows ++ row ∷ []) (noted seen (place_in plan table row))
notes_more plan Times rows row seen has inside = λ g lt.
    group_noted seen (group_at plan row 0) g inside has.size
    ∙ ap (λ b. or b (is_group (group_at plan row 0) g)) (has.notes g lt)
    ∙ sym (times_pushed plan rows row g)
notes_more plan Intergreens rows row seen has inside = λ i g il gl.
    pair_noted seen (pair_in plan row) i g il gl inside has.size
    ∙ ap (λ b. or b (is_pair (pair_in plan row) i g)) (has.notes i g il gl)
    ∙ sym (pairs_pushed plan rows row i g)

-- one record more is seen
pub seen_more : (plan : PlanOf) (table : Table) (rows : List Row) (row : Row) (seen : List Bool) → HasSeen plan table rows seen →
    IsInPlaces plan table row → HasSeen plan table (rows ++ row ∷ []) (noted seen (place_in plan table row))
seen_more plan table rows row seen has inside = record {
  size = noted_size seen (place_in plan table row) ∙ has.size;
  notes = notes_more plan table rows row seen has inside;
}

none_noted : (n k : ℕ) → get_or (replicate n false) k false ≡ false
none_noted zero k = refl
none_noted (suc n) zero = refl
none_noted (suc n) (suc k) = none_noted n k

notes_none : (plan : PlanOf) (table : Table) → Notes plan table [] (replicate 4096 false)
unfolding listed_times listed_seconds
notes_none plan Times = λ g lt. none_noted 4096 g
notes_none plan Intergreens = λ i g il gl. none_noted 4096 (64 * i + g)

-- none is seen before the first record
pub seen_none : (plan : Option PlanOf) (table : Table) (seen : List Bool) → seen ≡ replicate 4096 false → HasSeenBy plan table [] seen
seen_none None table seen is = ap length is ∙ length-replicate 4096 false
seen_none (Some plan) table seen is = record {
  size = ap length is ∙ length-replicate 4096 false;
  notes = rw is (notes_none plan table);
}

within_group : (g : Option ℕ) → IfSome g (λ k. k < 64) → IfSome g (λ k. k < 4096)
within_group None inside = tt
within_group (Some k) inside = omega (arith, inside)

within_pair : (p : Option (ℕ × ℕ)) → IfSome p (λ q. (q.0 < 64) × (q.1 < 64)) → IfSome (pair_place p) (λ k. k < 4096)
within_pair None inside = tt
within_pair (Some p) inside = omega (arith, inside.0, inside.1)

-- the place of a pair is one of them
pub within_places : (plan : PlanOf) (table : Table) (row : Row) → IsInPlaces plan table row → IfSome (place_in plan table row) (λ k. k < 4096)
within_places plan Times row inside = within_group (group_at plan row 0) inside
within_places plan Intergreens row inside = within_pair (pair_in plan row) inside
