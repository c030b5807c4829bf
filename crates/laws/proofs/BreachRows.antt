-- The rows of what each test finds.
use Rattle.std.proofs.Common.{◌≡◌, ℕ, zero, suc, ◌+◌, ◌⊎◌, Bool, true, false, not, ◌&&◌, max, Option, Some, None, refl, arith, sym, inl, inr, ap, subst, ◌∙◌, List, [], ◌∷◌, nat_lt, if◌then◌else◌, All, Any}
use Rattle.std.proofs.lemmas.Bool.{cases_eq}
use Rattle.sig_types.specs.declared.aspect.Aspect.{Aspect}
use Rattle.sig_types.specs.declared.aspect.Aspect.TheVariants.{Red, RedAmber, Green, Amber}
use Rattle.sig_types.specs.declared.aspect.Rule.{Rule}
use Rattle.sig_types.specs.declared.aspect.Rule.TheVariants as rule
use Rattle.sig_types.specs.FirstRefused.{first_reason, when}
use Rattle.sig_types.specs.Rules.{Rules}
use Rattle.sig_audit.specs.Verdict.{place_in_order}
use Rattle.log_judge.specs.declared.breach.Breach.{Breach}
use Rattle.log_judge.specs.declared.breach.Breach.TheVariants.{Step, Short, Long, Conflict, Intergreen}
use Rattle.log_judge.specs.Past.{since, on_since}
use Rattle.log_judge.specs.Breaches.{listed, no, can_follow, is_known, short, other_time, step_breach, is_pair, are_both_on, conflict_breach, too_soon, running_breach}
use Rattle.judge_text.specs.Words.{aspect_rule}
use Rattle.laws.specs.BreachesAndVerdicts.{Named, named, audited}
use Rattle.laws.proofs.EachBreach.{Each}

-- a row
abbrev pub row : Rule → ℕ → Option ℕ → Named
row x g o = record { rule = x; group = g; other = o }

-- what is found has this row
abbrev pub HasRow : Option Breach → Named → Type 0
HasRow o n = (b : Breach) → o ≡ Some b → named b ≡ n

when_row : (c : Bool) (x : Breach) (n : Named) → named x ≡ n → HasRow (when c x) n
when_row true x n is b e = (let same : x ≡ b = cc in ap named (sym same) ∙ is)
when_row false x n is b e = absurd (cc)

first_row : (c d : Bool) (x y : Breach) (n : Named) → named x ≡ n → named y ≡ n → HasRow (first_reason (when c x ∷ when d y ∷ [])) n
first_row true d x y n one two b e = (let same : x ≡ b = cc in ap named (sym same) ∙ one)
first_row false true x y n one two b e = (let same : y ≡ b = cc in ap named (sym same) ∙ two)
first_row false false x y n one two b e = absurd (cc)

pub step_row : (a : ℕ → Aspect) (g m : ℕ) → HasRow (step_breach a g m) (row rule.Sequence g None)
step_row a g m = when_row (not (can_follow (a m) (a (suc m)))) (Step (suc m) (no g) (a m) (a (suc m))) (row rule.Sequence g None) refl

pub short_row : (g t least : ℕ) (x : Aspect) (o : Option ℕ) → HasRow (short audited g x t least o) (row (aspect_rule x) g None)
short_row g t least x None b e = absurd (cc)
short_row g t least x (Some s) b e =
    when_row (is_known audited s && nat_lt t (s + least)) (Short t (no g) x s least) (row (aspect_rule x) g None) refl b e

pub other_time_row : (g t time : ℕ) (x : Aspect) (o : Option ℕ) → HasRow (other_time audited g x t time o) (row (aspect_rule x) g None)
other_time_row g t time x None b e = absurd (cc)
other_time_row g t time x (Some s) b e =
    first_row (is_known audited s && nat_lt (t + 0) (s + time)) (nat_lt (s + time + 0) t) (Short t (no g) x s time) (Long t (no g) x s time)
    (row (aspect_rule x) g None) refl refl b e

pub running_row : (r : Rules) (a : ℕ → Aspect) (g m : ℕ) (x : Aspect) → HasRow (running_breach r audited a g m x) (row rule.Sequence g None)
running_row r a g m Red b e = absurd (cc)
running_row r a g m RedAmber b e =
    when_row (nat_lt (since a m + r.red_amber g + 0) (suc m)) (Long (suc m) (no g) RedAmber (since a m) (r.red_amber g)) (row rule.Sequence g None) refl b e
running_row r a g m Green b e = absurd (cc)
running_row r a g m Amber b e =
    when_row (nat_lt (since a m + r.amber g + 0) (suc m)) (Long (suc m) (no g) Amber (since a m) (r.amber g)) (row rule.Sequence g None) refl b e

pub conflict_row : (r : Rules) (over : Bool) (a c : ℕ → Aspect) (g i m : ℕ) → HasRow (conflict_breach r over a c g i m) (row rule.Conflict g (Some i))
conflict_row r over a c g i m =
    when_row (is_pair r g i && are_both_on a c m && over) (Conflict (suc m) (no g) (no i) (max (on_since a m) (on_since c m))) (row rule.Conflict g (Some i)) refl

pub soon_row : (b : Bool) (g i t : ℕ) (between ended : Option ℕ) → HasRow (if b then too_soon g i t between ended else None) (row rule.Intergreen g (Some i))
soon_row false g i t between ended b e = absurd (cc)
soon_row true g i t None ended b e = absurd (cc)
soon_row true g i t (Some z) None b e = absurd (cc)
soon_row true g i t (Some z) (Some x) b e = when_row (nat_lt t (x + z)) (Intergreen t (no g) (no i) x z) (row rule.Intergreen g (Some i)) refl b e

-- a fact of rows of each breach that a test finds
pub each_listed : (X : Named → Type 0) (o : Option Breach) (n : Named) → HasRow o n → ((o ≡ None → ⊥) → X n) → Each (λ b. X (named b)) (listed o)
each_listed X None n is x = tt
each_listed X (Some b) n is x = (subst X (sym (is b refl)) (x (λ e. cc)), tt)

-- a test finds none where no breach has its row
pub none_listed : (o : Option Breach) (n : Named) → HasRow o n → Each (λ b. named b ≡ n → ⊥) (listed o) → o ≡ None
none_listed None n is each = refl
none_listed (Some b) n is each = absurd (each.0 (is b refl))

-- rules are told apart by their places
abbrev rule_at : ℕ → Rule
rule_at zero = rule.Sequence
rule_at (suc zero) = rule.MinGreen
rule_at (suc (suc zero)) = rule.MinRed
rule_at (suc (suc (suc zero))) = rule.Conflict
rule_at (suc (suc (suc (suc zero)))) = rule.Intergreen
rule_at (suc (suc (suc (suc (suc zero))))) = rule.Running
rule_at (suc (suc (suc (suc (suc (suc zero)))))) = rule.WrongStage
rule_at (suc (suc (suc (suc (suc (suc (suc n))))))) = rule.NoInterstage

placed : (x : Rule) → rule_at (place_in_order x) ≡ x
placed rule.Sequence = refl
placed rule.MinGreen = refl
placed rule.MinRed = refl
placed rule.Conflict = refl
placed rule.Intergreen = refl
placed rule.Running = refl
placed rule.WrongStage = refl
placed rule.NoInterstage = refl

pub same_rule : (x y : Rule) → place_in_order x ≡ place_in_order y → x ≡ y
same_rule x y same = sym (placed x) ∙ ap rule_at same ∙ placed y

-- two rows are one or not
others_are : (o q : Option ℕ) → (o ≡ q) ⊎ (o ≡ q → ⊥)
others_are None None = inl refl
others_are None (Some j) = inr (λ e. cc)
others_are (Some i) None = inr (λ e. cc)
others_are (Some i) (Some j) = elim (cases_eq i j) [
  | inl same ↦ inl (ap Some same)
  | inr ne ↦ inr (λ e. (let same : i ≡ j = cc in ne same))
]

rows_are : (n m : Named) → (n ≡ m) ⊎ (n ≡ m → ⊥)
rows_are n m = elim (cases_eq (place_in_order n.rule) (place_in_order m.rule)) [
  | inr ne ↦ inr (λ e. ne (ap (λ (x : Named). place_in_order x.rule) e))
  | inl rules ↦ elim (cases_eq n.group m.group) [
    | inr ne ↦ inr (λ e. ne (ap (λ (x : Named). x.group) e))
    | inl groups ↦ elim (others_are n.other m.other) [
      | inr ne ↦ inr (λ e. ne (ap (λ (x : Named). x.other) e))
      | inl others ↦ inl (λ i. row (same_rule n.rule m.rule rules i) (groups i) (others i))
    ]
  ]
]

-- a breach of the list has the row, or none has it
pub stands_or_not : (n : Named) (xs : List Breach) → Any (λ b. named b ≡ n) xs ⊎ Each (λ b. named b ≡ n → ⊥) xs
stands_or_not n [] = inr tt
stands_or_not n (x ∷ xs) = elim (rows_are (named x) n) [
  | inl same ↦ inl (0, x, omega arith, refl, same)
  | inr ne ↦ elim (stands_or_not n xs) [
    | inl any ↦ inl (suc any.0, any.1, (let lt = any.2 in omega (arith, lt)), any.3, any.4)
    | inr each ↦ inr (ne, each)
  ]
]

-- what holds of each holds of all
pub all_of_each : (P : Breach → Type 0) (xs : List Breach) → Each P xs → All P xs
all_of_each P [] each k d lt = absurd (omega (arith, lt))
all_of_each P (x ∷ xs) each zero d lt = each.0
all_of_each P (x ∷ xs) each (suc k) d lt = all_of_each P xs each.1 k d (omega (arith, lt))

pub each_so : (P Q : Breach → Type 0) → ((b : Breach) → P b → Q b) → (xs : List Breach) → Each P xs → Each Q xs
each_so P Q so [] each = tt
each_so P Q so (x ∷ xs) each = (so x each.0, each_so P Q so xs each.1)
