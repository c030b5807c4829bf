use Rattle.std.proofs.Common.{refl, rules}
use Rattle.sig_io.proofs.Results.{IfOk-all, OnErr-holds}
use Rattle.sig_io.proofs.adapters.PrintSinkSink.TheImpl.Goals as goal

pub write_some-tells : goal.write_some-tells
write_some-tells g c = record {
  at_least = search rules;
  count = search rules;
  bytes = IfOk-all c.result _ (λ n. refl);
  none = OnErr-holds c.result _ refl;
  cause = search rules;
}
