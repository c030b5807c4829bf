use Rattle.std.proofs.lemmas.Bool.{lt-ltb, le-ltb}
use Rattle.std.proofs.Common.{◌/◌, arith, refl}
use Rattle.std.proofs.lemmas.Fmt.{decimal_digit, decimal_step}
use Rattle.report_seen.proofs.letters.detector_name.Goals as goal

pub returns-then-number-lt10 : goal.returns-then-number-lt10
returns-then-number-lt10 c =
    let n = c.args.number in
    rw (decimal_digit n (omega (arith, c.if-number-lt10.true)), lt-ltb n 10 c.if-number-lt10.true) refl

pub returns-else-number-lt10 : goal.returns-else-number-lt10
returns-else-number-lt10 c =
    let n = c.args.number in
    rw (
      decimal_step n (omega (arith, c.if-number-lt10.false)) (omega (arith, c.requires)),
      decimal_digit (n / 10) (omega (arith, c.requires)),
      le-ltb n 10 c.if-number-lt10.false,
    ) refl
