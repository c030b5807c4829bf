use Rattle.std.proofs.Common.{◌≡◌, ℕ, [], length, get_or, sym, ap, ◌∙◌, arith, subst, ◌∷◌, ◌<◌, ◌≤◌, length-append}
use Rattle.vap_code.specs.declared.Instr.TheVariants.{Tick}
use Rattle.vap_code.specs.Valid.{height_after}
use Rattle.std.specs.Option.{option_or}
use Rattle.code_verify.specs.Tables.{first_jump, brings}
use Rattle.code_verify.proofs.Brought.{first_jump_push, none_yet}
use Rattle.code_verify.proofs.TableFacts.{from_first_more, low_push}
use Rattle.code_verify.proofs.tables.heights.Goals as goal

pub loop-p-init : goal.loop-p-init
loop-p-init c =
    let none : c.in_ok-heights.heights.items ≡ [] = c.in_ok-heights.ensures.items in
    record {
      table = none;
      long = ap length none;
      low = λ k lt. absurd (omega (arith, lt, ap length none));
      wide = c.in_ok-brought.ensures.long;
      brought = λ t lt. c.in_ok-brought.ensures.none t ∙ sym (ap (λ hs. first_jump c.args.instrs.now hs t) none ∙ none_yet c.args.instrs.now t);
    }

pub loop-p-preserved : goal.loop-p-preserved
loop-p-preserved c =
    let i = c.loop-p.invariant in
    let pushed = c.in_ok-push.ensures.items in
    let h = c.height_after-height.result in
    record {
      table = pushed ∙ from_first_more (height_after c.args.instrs.now c.args.starts.now) c.loop-p.heights.items c.loop-p.p h i.table
          (c.height_after-height.ensures.exact ∙ ap (height_after c.args.instrs.now c.args.starts.now) c.deref.ensures.value);
      long = omega (arith, ap length pushed, length-append c.loop-p.heights.items (h ∷ []), i.long);
      low = subst (λ hs. (k : ℕ) → k < length hs → get_or hs k 0 ≤ k) (sym pushed)
          (low_push c.loop-p.heights.items h i.low (omega (arith, c.height_after-height.ensures.low, ap length c.deref.ensures.value)));
      wide = c.keep_jump.ensures.long ∙ i.wide;
      brought = λ t lt.
          c.keep_jump.ensures.kept t (omega (arith, lt, i.wide))
          ∙ ap (λ o. option_or o (brings (get_or c.args.instrs.now c.loop-p.p (Tick 0)) h t)) (i.brought t lt)
          ∙ ap (λ n. option_or (first_jump c.args.instrs.now c.loop-p.heights.items t) (brings (get_or c.args.instrs.now n (Tick 0)) h t)) (sym i.long)
          ∙ sym (ap (λ hs. first_jump c.args.instrs.now hs t) pushed ∙
          first_jump_push c.args.instrs.now c.loop-p.heights.items h t (Tick 0) (omega (arith, i.long, c.loop-p-test.true)));
    }
