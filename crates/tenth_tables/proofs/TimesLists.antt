-- The times of groups among records, and the places in which a reader holds them.
use Rattle.std.proofs.Common.{◌≡◌, ◌∙◌, ℕ, ◌<◌, Bool, true, false, List, [], ◌∷◌, ◌++◌, get_or, Some, None, Option, refl, sym, ap, arith, inl, inr, slice_set, get_or-set_other}
use Rattle.std.specs.Prelude.{is_some}
use Rattle.std.proofs.lemmas.Bool.{cases_Bool, cases_eq}
use Rattle.std.proofs.lemmas.Bool.Decides.{eqb_tells}
use Rattle.std.proofs.lemmas.Option.{none-some}
use Rattle.std.proofs.lemmas.List.{length-set}
use Rattle.std.proofs.lemmas.Grind.{get_or-set_at}
use Rattle.sig_types.proofs.Options.{none_of}
use Rattle.pua_model.specs.Plan.{PlanOf, groups_in}
use Rattle.sig_tables.specs.declared.refusal.TableWhy.{TableWhy}
use Rattle.sig_tables.specs.declared.refusal.TableWhy.TheVariants as why
use Rattle.sig_tables.specs.declared.times.TimesRow.{TimesRow}
use Rattle.sig_tables.specs.Records.{Row}
use Rattle.sig_tables.specs.Groups.{group_at, is_group}
use Rattle.sig_tables.specs.TimesTable.{times_or}
use Rattle.tenth_tables.specs.Times.{IsRow, listed_times, times_in, times_form, times_reason}
use Rattle.tenth_tables.specs.Held.{HoldsTimes}

listed_other : (plan : PlanOf) (rows : List Row) (row : Row) (g : ℕ) → is_group (group_at plan row 0) g ≡ false → listed_times plan (rows ++ row ∷ []) g ≡ listed_times plan rows g
unfolding listed_times
listed_other plan [] row g other = rw other refl
listed_other plan (r ∷ rs) row g other = rw (listed_other plan rs row g other) refl

listed_here : (plan : PlanOf) (rows : List Row) (row : Row) (g : ℕ) → listed_times plan rows g ≡ None → is_group (group_at plan row 0) g ≡ true →
    listed_times plan (rows ++ row ∷ []) g ≡ Some (times_or (times_in row))
unfolding listed_times
listed_here plan [] row g none here = rw here refl
listed_here plan (r ∷ rs) row g none here = elim (cases_Bool (is_group (group_at plan r 0) g)) [
  | inl at ↦ absurd (none-some _ (sym (rw at at none)))
  | inr other ↦ rw other (listed_here plan rs row g (rw other at none) here)
]

pub reason_form : (plan : PlanOf) (fields : ℕ) (rows : List Row) (row : Row) (why : TableWhy) → times_form plan fields row ≡ Some why → times_reason plan fields rows row ≡ Some why
unfolding times_reason
reason_form plan fields rows row why is = rw is refl

pub reason_twice : (plan : PlanOf) (fields : ℕ) (rows : List Row) (row : Row) (g : ℕ) → times_form plan fields row ≡ None → group_at plan row 0 ≡ Some g → is_some (listed_times plan rows g) ≡ true →
    times_reason plan fields rows row ≡ Some why.Twice
unfolding times_reason
reason_twice plan fields rows row g right is twice = rw (right, is, twice) refl

pub reason_none : (plan : PlanOf) (fields : ℕ) (rows : List Row) (row : Row) (g : ℕ) → times_form plan fields row ≡ None → group_at plan row 0 ≡ Some g → is_some (listed_times plan rows g) ≡ false →
    times_reason plan fields rows row ≡ None
unfolding times_reason
reason_none plan fields rows row g right is once = rw (right, is, once) refl

-- a reader holds what is listed
pub held_listed : (plan : PlanOf) (rows : List Row) (held : List (Option TimesRow)) (g : ℕ) → HoldsTimes plan rows held → g < groups_in plan → (b : Bool) →
    is_some (get_or held g None) ≡ b → is_some (listed_times plan rows g) ≡ b
held_listed plan rows held g holds lt b is = ap is_some (sym (holds.times g lt)) ∙ is

-- one more record is held
pub held_more : (plan : PlanOf) (rows : List Row) (held : List (Option TimesRow)) (row : Row) (g : ℕ) (times : TimesRow) → HoldsTimes plan rows held → g < groups_in plan →
    group_at plan row 0 ≡ Some g → is_some (get_or held g None) ≡ false → times_in row ≡ Some times → IsRow times →
    HoldsTimes plan (rows ++ row ∷ []) (slice_set held g (Some times))
held_more plan rows held row g times holds lt named free read fits = record {
  size = length-set held g (Some times) ∙ holds.size;
  times = λ k below. elim (cases_eq k g) [
    | inl same ↦ (let here : is_group (group_at plan row 0) k ≡ true = rw named (grind (arith, eqb_tells)) in
        let none : listed_times plan rows k ≡ None = rw same (sym (holds.times g lt) ∙ none_of _ free) in
        get_or-set_at held g k (Some times) None same (omega (arith, holds.size)) ∙ sym (listed_here plan rows row k none here ∙ ap (λ o. Some (times_or o)) read))
    | inr other ↦ (let apart : is_group (group_at plan row 0) k ≡ false = rw named (grind (arith, eqb_tells)) in
        get_or-set_other held g k (Some times) None other ∙ holds.times k below ∙ sym (listed_other plan rows row k apart))
  ];
  range = λ k below. elim (cases_eq k g) [
    | inl same ↦ rw (get_or-set_at held g k (Some times) None same (omega (arith, holds.size))) fits
    | inr other ↦ rw (get_or-set_other held g k (Some times) None other) (holds.range k below)
  ];
}
