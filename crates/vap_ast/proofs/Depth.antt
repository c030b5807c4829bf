-- The meaning doesn't depend on the depth, where that is at least the units.
use Rattle.std.proofs.Common.{◌≡◌, ℕ, zero, suc, ◌≤◌, Result, Ok, Err, refl, ap, ◌∙◌, arith}
use Rattle.sig_types.specs.declared.kinds.FaultKind.{FaultKind}
use Rattle.sig_types.specs.declared.kinds.FaultKind.TheVariants.{Budget}
use Rattle.sig_types.specs.Pass.{Store, World}
use Rattle.vap_ast.specs.Names.{Source, meaning_in}
use Rattle.vap_ast.specs.Mean.{Outcome, Done, Faulted, at_step, spend, or_fault, after_done, step, mean_within, sub_body}
use Rattle.vap_ast.specs.Syntax.{Item, Items, Stmt}

-- no more units are left than these
abbrev AtMost : ℕ → Outcome → Type 0
AtMost u (Done s left) = left ≤ u
AtMost u (Faulted kind line) = Unit {0}

-- one meaning of the items, for units up to a number
abbrev pub Next : Type 0
Next = Items → Items → Store → ℕ → Outcome

more : (u v : ℕ) (o : Outcome) → u ≤ v → AtMost u o → AtMost v o
more u v (Done s left) le h = omega arith
more u v (Faulted kind line) le h = tt

pub at_step_all : (P : Outcome → Type 0) (todo : Items) (done : Outcome) (go : ℕ → Stmt → Items → Outcome) → P done → ((n : ℕ) (what : Stmt) (rest : Items) → P (go n what rest)) → P (at_step todo done go)
at_step_all P Items.none done go d f = d
at_step_all P (Items.next (Item.Label name line) rest) done go d f = at_step_all P rest done go d f
at_step_all P (Items.next (Item.Step line what) rest) done go d f = f line what rest

at_step_same : (todo : Items) (done : Outcome) (f g : ℕ → Stmt → Items → Outcome) → ((n : ℕ) (what : Stmt) (rest : Items) → f n what rest ≡ g n what rest) → at_step todo done f ≡ at_step todo done g
at_step_same Items.none done f g h = refl
at_step_same (Items.next (Item.Label name line) rest) done f g h = at_step_same rest done f g h
at_step_same (Items.next (Item.Step line what) rest) done f g h = h line what rest

pub or_fault_all : {A : Type 0} (P : Outcome → Type 0) (line : ℕ) (r : Result A FaultKind) (go : A → Outcome) → ((kind : FaultKind) → P (Faulted kind line)) → ((v : A) → P (go v)) → P (or_fault line r go)
or_fault_all P line (Ok v) go bad f = f v
or_fault_all P line (Err kind) go bad f = bad kind

or_fault_same : {A : Type 0} (line : ℕ) (r : Result A FaultKind) (f g : A → Outcome) → ((v : A) → f v ≡ g v) → or_fault line r f ≡ or_fault line r g
or_fault_same line (Ok v) f g h = h v
or_fault_same line (Err kind) f g h = refl

module _ (source : Source) (world : World) where
  step_fewer : (next : Next) (u : ℕ) → ((r t : Items) (s : Store) (l : ℕ) → l ≤ u → AtMost l (next r t s l)) → (routine : Items) (line : ℕ) (what : Stmt) (rest : Items) (s : Store) → AtMost u (step source world next routine line what rest s u)
  step_fewer next u f routine line (Stmt.Assign name e) rest s = or_fault_all (AtMost u) line _ _ (λ k. tt) (λ v. f _ _ _ u (omega arith))
  step_fewer next u f routine line (Stmt.Cell name i e) rest s = or_fault_all (AtMost u) line _ _ (λ k. tt) (λ v. f _ _ _ u (omega arith))
  step_fewer next u f routine line (Stmt.If test first second) rest s = or_fault_all (AtMost u) line _ _ (λ k. tt) (λ v. f _ _ _ u (omega arith))
  step_fewer next u f routine line (Stmt.Goto label) rest s = f _ _ _ u (omega arith)
  step_fewer next u f routine line (Stmt.Gosub name) rest s =
      let body = sub_body source.subs (meaning_in source.names name) in
      called (next body body s u) (f body body s u (omega arith))
    where
      unit : (s' : Store) (left : ℕ) → left ≤ u → AtMost u (spend line left (λ left'. next routine rest s' left'))
      unit s' zero le = tt
      unit s' (suc left) le = more left u (next routine rest s' left) (omega arith) (f routine rest s' left (omega arith))

      called : (o : Outcome) → AtMost u o → AtMost u (after_done o (λ s' left. spend line left (λ left'. next routine rest s' left')))
      called (Done s' left) h = unit s' left h
      called (Faulted kind n) h = tt
  step_fewer next u f routine line (Stmt.Do kind args) rest s = or_fault_all (AtMost u) line _ _ (λ k. tt) (λ v. f _ _ _ u (omega arith))
  step_fewer next u f routine line (Stmt.Timer kind name) rest s = f _ _ _ u (omega arith)
  step_fewer next u f routine line Stmt.Trace rest s = f _ _ _ u (omega arith)

  -- no unit comes back
  pub fewer : (depth : ℕ) (routine todo : Items) (s : Store) (units : ℕ) → AtMost units (mean_within source world depth routine todo s units)
  fewer zero routine todo s units = at_step_all (AtMost units) todo _ _ (omega arith) (λ n what rest. tt)
  fewer (suc depth) routine todo s units = at_step_all (AtMost units) todo _ _ (omega arith) (λ n what rest. spent n what rest units (λ r t s l. fewer depth r t s l))
    where
      spent : (n : ℕ) (what : Stmt) (rest : Items) (u : ℕ) → ((r t : Items) (s : Store) (l : ℕ) → AtMost l (mean_within source world depth r t s l)) → AtMost u (spend n u (λ left. step source world (mean_within source world depth) routine n what rest s left))
      spent n what rest zero f = tt
      spent n what rest (suc u) f = more u (suc u) (step source world (mean_within source world depth) routine n what rest s u) (omega arith) (step_fewer (mean_within source world depth) u (λ r t s l le. f r t s l) routine n what rest s)

  step_same : (f g : Next) (u : ℕ) → ((r t : Items) (s : Store) (l : ℕ) → AtMost l (f r t s l)) → ((r t : Items) (s : Store) (l : ℕ) → l ≤ u → f r t s l ≡ g r t s l) → (routine : Items) (line : ℕ) (what : Stmt) (rest : Items) (s : Store) → step source world f routine line what rest s u ≡ step source world g routine line what rest s u
  step_same f g u low h routine line (Stmt.Assign name e) rest s = or_fault_same line _ _ _ (λ v. h _ _ _ u (omega arith))
  step_same f g u low h routine line (Stmt.Cell name i e) rest s = or_fault_same line _ _ _ (λ v. h _ _ _ u (omega arith))
  step_same f g u low h routine line (Stmt.If test first second) rest s = or_fault_same line _ _ _ (λ v. h _ _ _ u (omega arith))
  step_same f g u low h routine line (Stmt.Goto label) rest s = h _ _ _ u (omega arith)
  step_same f g u low h routine line (Stmt.Gosub name) rest s =
      let body = sub_body source.subs (meaning_in source.names name) in
      called (f body body s u) (low body body s u) ∙ ap (λ o. after_done o (λ s' left. spend line left (λ left'. g routine rest s' left'))) (h body body s u (omega arith))
    where
      unit : (s' : Store) (left : ℕ) → left ≤ u → spend line left (λ left'. f routine rest s' left') ≡ spend line left (λ left'. g routine rest s' left')
      unit s' zero le = refl
      unit s' (suc left) le = h routine rest s' left (omega arith)

      called : (o : Outcome) → AtMost u o → after_done o (λ s' left. spend line left (λ left'. f routine rest s' left')) ≡ after_done o (λ s' left. spend line left (λ left'. g routine rest s' left'))
      called (Done s' left) le = unit s' left le
      called (Faulted kind n) le = refl
  step_same f g u low h routine line (Stmt.Do kind args) rest s = or_fault_same line _ _ _ (λ v. h _ _ _ u (omega arith))
  step_same f g u low h routine line (Stmt.Timer kind name) rest s = h _ _ _ u (omega arith)
  step_same f g u low h routine line Stmt.Trace rest s = h _ _ _ u (omega arith)

  -- depths of at least the units agree
  pub deep_enough : (d e : ℕ) (routine todo : Items) (s : Store) (units : ℕ) → units ≤ d → units ≤ e → mean_within source world d routine todo s units ≡ mean_within source world e routine todo s units
  deep_enough zero zero routine todo s units a b = refl
  deep_enough zero (suc e) routine todo s units a b = at_step_same todo _ _ _ (λ n what rest. none n what rest units a)
    where
      none : (n : ℕ) (what : Stmt) (rest : Items) (u : ℕ) → u ≤ 0 → Faulted Budget n ≡ spend n u (λ left. step source world (mean_within source world e) routine n what rest s left)
      none n what rest zero le = refl
      none n what rest (suc u) le = absurd (omega arith)
  deep_enough (suc d) zero routine todo s units a b = at_step_same todo _ _ _ (λ n what rest. none n what rest units b)
    where
      none : (n : ℕ) (what : Stmt) (rest : Items) (u : ℕ) → u ≤ 0 → spend n u (λ left. step source world (mean_within source world d) routine n what rest s left) ≡ Faulted Budget n
      none n what rest zero le = refl
      none n what rest (suc u) le = absurd (omega arith)
  deep_enough (suc d) (suc e) routine todo s units a b = at_step_same todo _ _ _ (λ n what rest. some n what rest units a b (λ r t s l p q. deep_enough d e r t s l p q))
    where
      some : (n : ℕ) (what : Stmt) (rest : Items) (u : ℕ) → u ≤ suc d → u ≤ suc e → ((r t : Items) (s : Store) (l : ℕ) → l ≤ d → l ≤ e → mean_within source world d r t s l ≡ mean_within source world e r t s l) → spend n u (λ left. step source world (mean_within source world d) routine n what rest s left) ≡ spend n u (λ left. step source world (mean_within source world e) routine n what rest s left)
      some n what rest zero p q ih = refl
      some n what rest (suc u) p q ih = step_same (mean_within source world d) (mean_within source world e) u (fewer d) (λ r t s l le. ih r t s l (omega arith) (omega arith)) routine n what rest s
