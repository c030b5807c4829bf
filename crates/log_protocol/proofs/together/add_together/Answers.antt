use Rattle.std.proofs.Common.{◌≡◌, ◌∙◌, ℕ, ◌+◌, ◌*◌, ◌<◌, ◌≤◌, List, length, arith, ap, inl, inr}
use Rattle.std.proofs.lemmas.Bool.{cases_eq}
use Rattle.sig_types.specs.Turns.{shown}
use Rattle.log_protocol.specs.declared.together.Together.{Together}
use Rattle.log_protocol.specs.Steps.{together_at, with_both}
use Rattle.log_protocol.proofs.together.add_together.Goals as goal

step_done : (new loop : List Together) (f : ℕ → ℕ → Together) (g n : ℕ) → n ≤ 64 → ((q : ℕ) → q < 64 * g → together_at new q ≡ together_at loop q) →
    ((i : ℕ) → i < n → together_at new (64 * g + i) ≡ f g i) → ((j i : ℕ) → j < g → i < n → together_at loop (64 * j + i) ≡ f j i) →
    (j i : ℕ) → j < g + 1 → i < n → together_at new (64 * j + i) ≡ f j i
step_done new loop f g n few below each done j i le lt = elim (cases_eq j g) [
  | inl same ↦ rw same (each i lt)
  | inr ne ↦ below (64 * j + i) (omega (arith, le, ne, lt, few)) ∙ done j i (omega (arith, le, ne)) lt
]

pub loop-g-preserved : goal.loop-g-preserved
loop-g-preserved c =
    let g = c.loop-g.g in
    let inv = c.loop-g.invariant in
    let p = c.args.picture.now in
    record {
      size = c.add_with.ensures.size ∙ inv.size;
      done = step_done c.add_with.new.pairs.items c.loop-g.pairs.items
          (λ j i. with_both (together_at c.args.pairs.now.items (64 * j + i)) (shown p j) (shown p i) c.args.second)
          g (length p) (omega arith) c.add_with.ensures.below
          (λ i lt. c.add_with.ensures.each i lt
          ∙ ap (λ (x : Together). with_both x (shown p g) (shown p i) c.args.second) (inv.left (64 * g + i) (omega arith)))
          inv.done;
      left = λ q le. c.add_with.ensures.above q (omega (arith, le)) ∙ inv.left q (omega (arith, le));
    }
