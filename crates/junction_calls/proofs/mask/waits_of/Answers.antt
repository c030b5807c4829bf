use Rattle.std.proofs.Common.{rules, ◌∙◌, length-set, get_or-set_other, ◌<◌, length, refl, arith}
use Rattle.sig_guard.specs.Stands.{rules as site_rules}
use Rattle.junction_calls.proofs.ToldWaits.{one_wait_more}
use Rattle.junction_calls.proofs.Zeros.{all_zero}
use Rattle.junction_calls.proofs.mask.waits_of.Goals as goal

pub loop-g-init : goal.loop-g-init
loop-g-init c = record { size = refl; filled = λ h s natural p lt. absurd (omega arith); rest = λ p le. all_zero 64 p }

pub loop-g-preserved : goal.loop-g-preserved
loop-g-preserved c =
    let size = c.loop-g.invariant.size in
    let inside : c.loop-g.g < length c.loop-g.waits = search rules in
    record {
      size = length-set c.loop-g.waits c.from.result c.wait_number.result ∙ size;
      filled = λ h s natural.
          one_wait_more (site_rules c.args.guard.now) h c.loop-g.waits c.from.result c.loop-g.g c.wait_number.result c.turn_wait.result c.from.ensures inside
          (c.turn_wait.ensures h s natural) c.wait_number.ensures (c.loop-g.invariant.filled h s natural);
      rest = λ p le.
          get_or-set_other c.loop-g.waits c.from.result p c.wait_number.result 0 (λ same. (omega (arith, le, c.from.ensures, same)))
          ∙ c.loop-g.invariant.rest p (omega (arith, le));
    }
