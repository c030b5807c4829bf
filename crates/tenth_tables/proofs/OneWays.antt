-- The first pair that is not listed the other way.
use Rattle.std.proofs.Common.{◌≡◌, ◌∙◌, ℕ, zero, suc, ◌+◌, ◌*◌, ◌<◌, ◌≤◌, Bool, true, false, List, [], length, get_or, take, Some, None, Option, refl, sym, ap, arith, subst}
use Rattle.std.specs.Prelude.{is_none, is_some}
use Rattle.std.proofs.lemmas.List.{length-take-le}
use Rattle.sig_types.specs.declared.numbers.GroupNo.{GroupNo}
use Rattle.sig_types.specs.FirstRefused.{refused_to, first_refused}
use Rattle.sig_types.proofs.Refusals.{refused_here}
use Rattle.sig_types.proofs.Options.{some_of}
use Rattle.pua_model.specs.Plan.{PlanOf}
use Rattle.sig_tables.specs.declared.refusal.TableWhy.TheVariants as why
use Rattle.sig_tables.specs.Records.{Row}
use Rattle.sig_tables.specs.Refusals.{numbered}
use Rattle.sig_tables.specs.Pairs.{cell_of}
use Rattle.sig_tables.specs.IntergreenTable.{pair_in}
use Rattle.tenth_tables.specs.Intergreens.{listed_tenths, one_way_reason}
use Rattle.sig_tables.specs.Held.{no_pair, IsPairOf}
use Rattle.tenth_tables.specs.Held.{HoldsPairs}
use Rattle.sig_tables.proofs.Cells.{cell_in}

none_refused : {A W : Type 0} (judge : List A → A → Option W) (xs : List A) (d : A) (n : ℕ) → ((j : ℕ) → j < n → judge (take j xs) (get_or xs j d) ≡ None) → refused_to judge xs d n ≡ None
unfolding refused_to
none_refused judge xs d zero before = refl
none_refused judge xs d (suc n) before = rw (none_refused judge xs d n (λ j lt. before j (omega arith)), before n (omega arith)) refl

both_here : (plan : PlanOf) (rows before : List Row) (row : Row) (f t : ℕ) → pair_in plan row ≡ Some (f, t) → is_none (listed_tenths plan rows t f) ≡ false →
    numbered (one_way_reason plan rows) before row ≡ None
unfolding numbered one_way_reason
both_here plan rows before row f t named listed = rw (named, listed) refl

one_here : (plan : PlanOf) (rows before : List Row) (row : Row) (from to : GroupNo) → pair_in plan row ≡ Some (from.0, to.0) → is_none (listed_tenths plan rows to.0 from.0) ≡ true →
    numbered (one_way_reason plan rows) before row ≡ Some (length before + 2, why.OneWay from to)
unfolding numbered one_way_reason
one_here plan rows before row from to named listed = rw (named, listed) refl

-- whether the pair of the record at k is listed the other way, as the cell tells
other_way : (plan : PlanOf) (rows : List Row) (cells : List (Option ℕ)) (pairs : List (GroupNo × GroupNo)) (f t : ℕ) → HoldsPairs plan rows cells pairs → f < 64 → t < 64 → (b : Bool) →
    is_none (get_or cells (64 * t + f) None) ≡ b → is_none (listed_tenths plan rows t f) ≡ b
other_way plan rows cells pairs f t holds fl tl b is = ap is_none (sym (holds.seconds t f) ∙ cell_in cells t f tl fl) ∙ is

-- pairs below k are listed both ways
abbrev pub BothBelow : List (Option ℕ) → List (GroupNo × GroupNo) → ℕ → Type 0
BothBelow cells pairs n = (j : ℕ) → j < n → is_none (get_or cells (64 * (get_or pairs j no_pair).1.0 + (get_or pairs j no_pair).0.0) None) ≡ false

pub both_below : (plan : PlanOf) (rows : List Row) (cells : List (Option ℕ)) (pairs : List (GroupNo × GroupNo)) (n : ℕ) → HoldsPairs plan rows cells pairs →
    ((k : ℕ) → k < length pairs → IsPairOf 64 (get_or pairs k no_pair)) → n ≤ length rows → BothBelow cells pairs n → refused_to (numbered (one_way_reason plan rows)) rows [] n ≡ None
both_below plan rows cells pairs n holds inside le both =
    none_refused (numbered (one_way_reason plan rows)) rows [] n
    (λ j lt. let below = inside j (omega (arith, holds.count)) in
    both_here plan rows (take j rows) (get_or rows j []) (get_or pairs j no_pair).0.0 (get_or pairs j no_pair).1.0 (holds.named j (omega arith))
    (other_way plan rows cells pairs _ _ holds below.0 below.1 false (both j lt)))

pub one_way_at : (plan : PlanOf) (rows : List Row) (cells : List (Option ℕ)) (pairs : List (GroupNo × GroupNo)) (k : ℕ) (from to : GroupNo) → HoldsPairs plan rows cells pairs →
    ((k : ℕ) → k < length pairs → IsPairOf 64 (get_or pairs k no_pair)) → k < length pairs → BothBelow cells pairs k → get_or pairs k no_pair ≡ (from, to) →
    is_none (get_or cells (64 * to.0 + from.0) None) ≡ true → first_refused (numbered (one_way_reason plan rows)) rows [] ≡ Some (k + 2, why.OneWay from to)
one_way_at plan rows cells pairs k from to holds inside lt both is none =
    let lr : k < length rows = omega (arith, holds.count) in
    let below : IsPairOf 64 (from, to) = rw is at (inside k lt) in
    let named : pair_in plan (get_or rows k []) ≡ Some (from.0, to.0) = holds.named k lr ∙ ap (λ (p : GroupNo × GroupNo). Some (p.0.0, p.1.0)) is in
    let here = one_here plan rows (take k rows) (get_or rows k []) from to named (other_way plan rows cells pairs from.0 to.0 holds below.0 below.1 true none) in
    refused_here (numbered (one_way_reason plan rows)) rows [] (k + 2, why.OneWay from to) k (both_below plan rows cells pairs k holds inside (omega arith) both) lr
    (here ∙ ap (λ (n : ℕ). Some (n + 2, why.OneWay from to)) (length-take-le k rows (omega arith)))

pub both_listed : (plan : PlanOf) (rows : List Row) (cells : List (Option ℕ)) (pairs : List (GroupNo × GroupNo)) → HoldsPairs plan rows cells pairs →
    ((k : ℕ) → k < length pairs → IsPairOf 64 (get_or pairs k no_pair)) → BothBelow cells pairs (length pairs) → (i g z : ℕ) → cell_of cells i g ≡ Some z → is_some (cell_of cells g i) ≡ true
both_listed plan rows cells pairs holds inside both i g z some =
    let f = holds.found i g z some in
    let below = inside f.0 f.1.0 in
    let here : is_none (cell_of cells (get_or pairs f.0 no_pair).1.0 (get_or pairs f.0 no_pair).0.0) ≡ false = ap is_none (cell_in cells _ _ below.1 below.0) ∙ both f.0 f.1.0 in
    some_of (cell_of cells g i) (subst (λ (j : ℕ). is_none (cell_of cells j i) ≡ false) f.1.2 (subst (λ (j : ℕ). is_none (cell_of cells (get_or pairs f.0 no_pair).1.0 j) ≡ false) f.1.1 here))
