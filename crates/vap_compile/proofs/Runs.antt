-- Runs of the machine, one after another.
use Rattle.std.proofs.Common.{◌≡◌, ℕ, suc, ◌+◌, ◌<◌, ◌≤◌, List, [], ◌∷◌, ◌++◌, length, Some, refl, ap, ◌∙◌, subst, arith, append_assoc, length-append}
use Rattle.std.specs.Prelude.{slice_get, ℤ}
use Rattle.std.proofs.Math.Seq.{get_or-append_seam}
use Rattle.std.proofs.lemmas.Option.{slice_get-get_or}
use Rattle.sig_types.specs.Pass.{Store, World}
use Rattle.vap_code.specs.declared.Instr.{Instr}
use Rattle.vap_code.specs.Machine.{End, Stuck, State, Goes, Ends, act, step_at, after, exec}

-- the instructions stand in the code at this place
abbrev pub HasAt : List Instr → ℕ → List Instr → Type 0
HasAt code p [] = Unit {0}
HasAt code p (i ∷ is) = (slice_get code p ≡ Some i) × HasAt code (p + 1) is

pub has_front : (code : List Instr) (p : ℕ) (a b : List Instr) → HasAt code p (a ++ b) → HasAt code p a
has_front code p [] b h = tt
has_front code p (i ∷ a) b h = (h.0, has_front code (p + 1) a b h.1)

pub has_back : (code : List Instr) (p : ℕ) (a b : List Instr) → HasAt code p (a ++ b)
    → HasAt code (p + length a) b
has_back code p [] b h = let e : p ≡ p + 0 = omega arith in subst (λ n. HasAt code n b) e h
has_back code p (i ∷ a) b h =
    let e : p + 1 + length a ≡ p + length (i ∷ a) = omega arith in
    subst (λ n. HasAt code n b) e (has_back code (p + 1) a b h.1)

pub has_all : (is pre : List Instr) → HasAt (pre ++ is) (length pre) is
has_all [] pre = tt
has_all (i ∷ is) pre =
    let within : length pre < length (pre ++ i ∷ is) = omega (arith, length-append pre (i ∷ is)) in
    let here =
    slice_get-get_or (pre ++ i ∷ is) (length pre) i within ∙ ap Some (get_or-append_seam pre i is i) in
    let n : length (pre ++ i ∷ []) ≡ length pre + 1 = omega (arith, length-append pre (i ∷ [])) in
    let rest = has_all is (pre ++ i ∷ []) in
    let rest' = subst (λ l. HasAt l (length (pre ++ i ∷ [])) is) (append_assoc pre (i ∷ []) is) rest in
    (here, subst (λ m. HasAt (pre ++ i ∷ is) m is) n rest')

abbrev pub state : ℕ → List ℤ → List ℕ → ℕ → ℕ → Store → State
state place operands noted line units store =
    record { place = place; operands = operands; noted = noted; line = line; units = units; store = store }

module _ (instrs : List Instr) (starts : List ℕ) (world : World) where
  abbrev pub run : ℕ → State → End
  run n s = exec instrs starts world n s

  -- the machine comes from one state to another
  pub record Comes (s t : State) : Type 0 where
    pub by : (k : ℕ) → (j : ℕ) × (k ≤ j) × (run j s ≡ run k t)

  -- the machine ends so
  pub record Comes_to_end (s : State) (how : End) : Type 0 where
    pub by : (j : ℕ) × (run j s ≡ how)

  -- no number of steps leads to a state in which no case fits
  pub record Free (s : State) : Type 0 where
    pub never : (j : ℕ) → run j s ≡ Stuck → ⊥

  pub stays : (s : State) → Comes s s
  stays s = record { by = λ k. (k, omega arith, refl) }

  pub comes_on : (s t u : State) → Comes s t → Comes t u → Comes s u
  comes_on s t u a b =
      record { by = λ k. let y = b.by k in let x = a.by y.0 in (x.0, omega (arith, x.1, y.1), x.2 ∙ y.2) }

  pub comes_end : (s t : State) (how : End) → Comes s t → Comes_to_end t how → Comes_to_end s how
  comes_end s t how a b = record { by = let y = b.by in let x = a.by y.0 in (x.0, x.2 ∙ y.1) }

  pub free_on : (s t : State) → Comes s t → Free s → Free t
  free_on s t a f = record { never = λ j e. let x = a.by j in f.never x.0 (x.2 ∙ e) }

  -- one instruction that goes on
  pub one_step : (s t : State) (i : Instr) → slice_get instrs s.place ≡ Some i
      → act starts world i s ≡ Goes t → Comes s t
  one_step s t i h e =
      record {
        by = λ k. (
          suc k,
          omega arith,
          ap
              (λ o. after (step_at starts world o s) (exec instrs starts world k)) h ∙ ap
              (λ t. after t (exec instrs starts world k)) e,
        );
      }

  -- one instruction that ends the run
  pub one_end : (s : State) (i : Instr) (how : End) → slice_get instrs s.place ≡ Some i
      → act starts world i s ≡ Ends how → Comes_to_end s how
  one_end s i how h e =
      record {
        by = (
          1,
          ap (λ o. after (step_at starts world o s) (exec instrs starts world 0)) h ∙ ap
              (λ t. after t (exec instrs starts world 0)) e,
        );
      }

  -- where no case fits there is no such state
  pub not_stuck : {A : Type 0} (s : State) (i : Instr) → slice_get instrs s.place ≡ Some i
      → act starts world i s ≡ Ends Stuck → Free s → A
  not_stuck s i h e f =
      absurd (f.never 1 (ap (λ o. after (step_at starts world o s) (exec instrs starts world 0)) h ∙ ap
      (λ t. after t (exec instrs starts world 0)) e))
