-- Bounds on the numbers of a table that is made from its last place back: the stretches, the command counts.
use Rattle.std.proofs.Common.{◌≡◌, ℕ, ◌+◌, ◌-◌, ◌<◌, ◌≤◌, List, [], ◌∷◌, ◌++◌, length, get_or, Bool, true, false, Option, Some, None, refl, sym, ap, ◌∙◌, subst, arith, ⊎_elim}
use Rattle.std.proofs.lemmas.Bool.{cases_lt}
use Rattle.std.proofs.lemmas.Option.{get_or_from_slice_get, slice_get_within}
use Rattle.std.specs.Prelude.{if◌then◌else◌, ◌&&◌, IsTrue, IfSome, slice_get}
use Rattle.vap_code.specs.declared.Instr.{Instr}
use Rattle.vap_code.specs.declared.Instr.TheVariants.{Tick, Jump, JumpZero, Ret}
use Rattle.vap_code.specs.Valid.{from_last, greatest, later_at, of_target, target, goes_on, has_next, is_tick, instr_at}
use Rattle.code_verify.proofs.TableFacts.{at_from_last, later_from_last}
use Rattle.vap_compile.proofs.Runs.{HasAt}
use Rattle.vap_compile.proofs.Each.{Each}

-- the next place is the one successor
pub record Flat (i : Instr) : Type 0 where
  pub no_target : target i ≡ None
  pub on : IsTrue (goes_on i)

abbrev pub Flats : List Instr → Type 0
Flats [] = Unit {0}
Flats (i ∷ is) = Flat i × Flats is

pub flats_on : (a b : List Instr) → Flats a → Flats b → Flats (a ++ b)
flats_on [] b f g = g
flats_on (i ∷ a) b f g = (f.0, flats_on a b f.1 g)

-- the sum of what each instruction costs
abbrev pub costs : (Instr → ℕ) → List Instr → ℕ
costs cost [] = 0
costs cost (i ∷ is) = cost i + costs cost is

pub costs_on : (cost : Instr → ℕ) (a b : List Instr) → costs cost (a ++ b) ≡ costs cost a + costs cost b
costs_on cost [] b = omega arith
costs_on cost (i ∷ a) b = omega (arith, costs_on cost a b)

module _ (instrs : List Instr) (starts : List ℕ) (kind : Instr → ℕ → ℕ) where
  abbrev pub head : ℕ → List ℕ → ℕ
  head n later =
      kind (instr_at instrs (length instrs - n))
      (greatest instrs starts (length instrs - n) (later_at instrs (length instrs - n) later))

  abbrev pub table : List ℕ
  table = from_last head (length instrs)

  abbrev pub number : ℕ → ℕ
  number p = get_or table p 0

  -- 0 at a tick
  abbrev pub weight : ℕ → ℕ
  weight q = if is_tick (instr_at instrs q) then 0 else number q

  later : ℕ → List ℕ
  later p = from_last head (length instrs - p - 1)

  pub top : ℕ → ℕ
  unfolding later
  top p = greatest instrs starts p (later_at instrs p (later p))

  pub number_is : (p : ℕ) → p < length instrs → number p ≡ kind (instr_at instrs p) (top p)
  unfolding top later
  number_is p h =
      let e : length instrs - (length instrs - p) ≡ p = omega arith in
      at_from_last head (length instrs) p h
      ∙ ap (λ q. kind (instr_at instrs q)
      (greatest instrs starts q (later_at instrs q (from_last head (length instrs - p - 1))))) e

  same_later : (p q : ℕ) → p < q → q < length instrs → get_or (later p) (q - (p + 1)) 0 ≡ number q
  unfolding later
  same_later p q h k =
      let a : length instrs - p - 1 ≡ length instrs - (p + 1) = omega arith in
      let b : p + 1 + (q - (p + 1)) ≡ q = omega arith in
      ap (λ n. get_or (from_last head n) (q - (p + 1)) 0) a
      ∙ later_from_last head (length instrs) (p + 1) (q - (p + 1)) (omega arith)
      ∙ ap (λ n. get_or (from_last head (length instrs)) n 0) b

  -- a later place, or a tick, weighs in the table what it weighs
  no_less : (p q : ℕ) → q < length instrs → (is_tick (instr_at instrs q) ≡ false → p < q)
      → later_at instrs p (later p) q ≤ weight q
  no_less p q k ahead = go (is_tick (instr_at instrs q)) refl
    where
      go : (b : Bool) → is_tick (instr_at instrs q) ≡ b
          → (if b then 0 else get_or (later p) (q - (p + 1)) 0) ≤ (if b then 0 else number q)
      go true e = omega arith
      go false e = omega (arith, same_later p q (ahead e) k)

  ahead_of : (p t : ℕ) → (t ≤ p → IsTrue (is_tick (instr_at instrs t)))
      → is_tick (instr_at instrs t) ≡ false → p < t
  ahead_of p t back e = ⊎_elim (λ lt. lt) (λ le. absurd (differ (sym (back le) ∙ e))) (cases_lt p t)
    where
      differ : true ≡ false → ⊥
      differ x = cc

  -- where each successor weighs at most b, so does the greatest
  pub top_low : (p b : ℕ) → p < length instrs
      → IfSome (target (instr_at instrs p))
      (λ t. (t < length instrs) × (t ≤ p → IsTrue (is_tick (instr_at instrs t))) × (weight t ≤ b))
      → (IsTrue (goes_on (instr_at instrs p)) → (p + 1 < length instrs) × (weight (p + 1) ≤ b))
      → top p ≤ b
  unfolding top
  top_low p b h jumps falls = both (jumped (target (instr_at instrs p)) jumps) fallen
    where
      f : ℕ → ℕ
      f = later_at instrs p (later p)

      both : of_target (target (instr_at instrs p)) (later_at instrs p (later p)) ≤ b
          → (if goes_on (instr_at instrs p) && has_next starts (length instrs) p then later_at instrs p
          (later p) (p + 1) else 0) ≤ b
          → greatest instrs starts p (later_at instrs p (later p)) ≤ b
      both x y = omega arith

      jumped : (o : Option ℕ)
          → IfSome o (λ t. (t < length instrs) × (t ≤ p → IsTrue (is_tick (instr_at instrs t))) ×
          (weight t ≤ b))
          → of_target o (later_at instrs p (later p)) ≤ b
      jumped None j = omega arith
      jumped (Some t) j = omega (arith, no_less p t j.0 (ahead_of p t j.1), j.2)

      fallen : (if goes_on (instr_at instrs p) && has_next starts (length instrs) p then later_at instrs
          p (later p) (p + 1) else 0) ≤ b
      fallen = go (goes_on (instr_at instrs p)) (has_next starts (length instrs) p) refl
        where
          go : (g n : Bool) → goes_on (instr_at instrs p) ≡ g
              → (if g && n then later_at instrs p (later p) (p + 1) else 0) ≤ b
          go true true e = let s = falls e in omega (arith, no_less p (p + 1) s.0 (λ t. omega arith), s.1)
          go true false e = omega arith
          go false n e = omega arith

  pub weight_upto : (q : ℕ) → weight q ≤ number q
  weight_upto q =
      elim (is_tick (instr_at instrs q)) as (λ b. (if b then 0 else number q) ≤ number q)
      [ true ↦ omega arith | false ↦ omega arith ]

  pub weight_tick : (q : ℕ) → IsTrue (is_tick (instr_at instrs q)) → weight q ≡ 0
  weight_tick q e = ap (λ b. if b then 0 else number q) e

  module _ (cost : Instr → ℕ) (cheap : (i : Instr) (g : ℕ) → kind i g ≤ cost i + g) where
    -- a flat instruction, where what follows weighs b
    pub flat_number : (p b : ℕ) (i : Instr) → slice_get instrs p ≡ Some i → Flat i
        → p + 1 < length instrs → weight (p + 1) ≤ b → number p ≤ cost i + b
    flat_number p b i h flat inside w =
        let is = get_or_from_slice_get instrs p i Ret h in
        let within = slice_get_within instrs p i h in
        let none = ap target is ∙ flat.no_target in
        let low =
        top_low p b within (subst
        (λ o. IfSome o (λ t. (t < length instrs) ×
        (t ≤ p → IsTrue (is_tick (instr_at instrs t))) × (weight t ≤ b))) (sym none) tt)
        (λ g. (inside, w)) in
        let e = number_is p within ∙ ap (λ j. kind j (top p)) is in
        omega (arith, e, cheap i (top p), low)

    -- flat instructions one after another
    pub flat_run : (is : List Instr) (p b most : ℕ) → HasAt instrs p is → Flats is
        → p + length is < length instrs → weight (p + length is) ≤ b → costs cost is + b ≤ most
        → Each (λ q i. number q ≤ most) p is × (weight p ≤ costs cost is + b)
    flat_run [] p b most has flats inside w le =
        (tt, let e : p + 0 ≡ p = omega arith in omega (arith, ap weight e, w))
    flat_run (i ∷ is) p b most has flats inside w le =
        let e : p + length (i ∷ is) ≡ p + 1 + length is = omega arith in
        let rest =
        flat_run is (p + 1) b most has.1 flats.1 (omega arith) (omega (arith, ap weight e, w))
        (omega arith) in
        let one = flat_number p (costs cost is + b) i has.0 flats.0 (omega arith) rest.1 in
        ((omega (arith, one), rest.0), omega (arith, one, weight_upto p))

    -- a jump, where its target weighs b
    pub jump_number : (p b t : ℕ) → slice_get instrs p ≡ Some (Jump t) → t < length instrs
        → (t ≤ p → IsTrue (is_tick (instr_at instrs t))) → weight t ≤ b → number p ≤ cost (Jump t) + b
    jump_number p b t h inside back w =
        let is = get_or_from_slice_get instrs p (Jump t) Ret h in
        let within = slice_get_within instrs p (Jump t) h in
        let low =
        top_low p b within (subst
        (λ i. IfSome (target i) (λ t. (t < length instrs) ×
        (t ≤ p → IsTrue (is_tick (instr_at instrs t))) × (weight t ≤ b))) (sym is)
        (inside, back, w)) (λ g. absurd (stays (ap goes_on (sym is) ∙ g))) in
        let e = number_is p within ∙ ap (λ j. kind j (top p)) is in
        omega (arith, e, cheap (Jump t) (top p), low)
      where
        stays : false ≡ true → ⊥
        stays x = cc

    -- the same where the next place may follow
    pub zero_number : (p b t : ℕ) → slice_get instrs p ≡ Some (JumpZero t) → t < length instrs → p < t
        → weight t ≤ b → p + 1 < length instrs → weight (p + 1) ≤ b → number p ≤ cost (JumpZero t) + b
    zero_number p b t h inside ahead w next w' =
        let is = get_or_from_slice_get instrs p (JumpZero t) Ret h in
        let within = slice_get_within instrs p (JumpZero t) h in
        let low =
        top_low p b within (subst
        (λ i. IfSome (target i) (λ t. (t < length instrs) ×
        (t ≤ p → IsTrue (is_tick (instr_at instrs t))) × (weight t ≤ b))) (sym is)
        (inside, (λ le. absurd (omega arith)), w)) (λ g. (next, w')) in
        let e = number_is p within ∙ ap (λ j. kind j (top p)) is in
        omega (arith, e, cheap (JumpZero t) (top p), low)

    pub tick_number : (p line : ℕ) → ((g : ℕ) → kind (Tick line) g ≡ 0)
        → slice_get instrs p ≡ Some (Tick line) → (number p ≡ 0) × (weight p ≡ 0)
    tick_number p line none h =
        let is = get_or_from_slice_get instrs p (Tick line) Ret h in
        let within = slice_get_within instrs p (Tick line) h in
        (number_is p within ∙ ap (λ j. kind j (top p)) is ∙ none (top p), weight_tick p (ap is_tick is))

    pub ret_number : (p r : ℕ) → ((g : ℕ) → kind Ret g ≤ r) → slice_get instrs p ≡ Some Ret → number p ≤ r
    ret_number p r low h =
        let is = get_or_from_slice_get instrs p Ret Ret h in
        let e = number_is p (slice_get_within instrs p Ret h) ∙ ap (λ j. kind j (top p)) is in
        omega (arith, e, low (top p))
