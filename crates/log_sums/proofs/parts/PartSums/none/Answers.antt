use Rattle.std.proofs.Common.{◌≡◌, [], ap, arith, length, refl, subst, sym}
use Rattle.log_sums.specs.Adding.{AddsUpTo}
use Rattle.log_sums.specs.Parts.{begin_of, end_of}
use Rattle.log_sums.proofs.parts.PartSums.none.Goals as goal

pub returns : goal.returns
returns c = λ groups few some.
    let none : length c.new-over.result.items ≡ 0 = ap length c.new-over.ensures.items in
    let end : c.end_behind-end.result ≡ end_of c.args.from c.args.each c.args.to 0 = omega (arith, c.end_behind-end.ensures, c.less_one.ensures, some) in
    let begin : c.args.from ≡ begin_of c.args.from c.args.each 0 = omega arith in
    record {
      each_is = refl;
      to_is = refl;
      over_are = λ i d inside. absurd (omega (arith, inside, none));
      current_is = subst (λ j. AddsUpTo groups (begin_of c.args.from c.args.each j) (end_of c.args.from c.args.each c.args.to j) [] c.in_ok-current.current) (sym none)
          (subst (λ b. AddsUpTo groups b (end_of c.args.from c.args.each c.args.to 0) [] c.in_ok-current.current) begin
          (subst (λ t. AddsUpTo groups c.args.from t [] c.in_ok-current.current) end (c.in_ok-current.ensures.sums groups few)));
      over_serve = λ i d inside. absurd (omega (arith, inside, none));
      current_serves = c.in_ok-current.ensures.serves;
      begun = λ i one most. absurd (omega (arith, one, most, none));
      enough = omega arith;
    }
