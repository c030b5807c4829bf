use Rattle.std.proofs.Common.{rules}
use Rattle.sig_io.proofs.adapters.DiskFilesFiles.TheImpl.Goals as goal

pub read_at-tells : goal.read_at-tells
read_at-tells g c = record {
  count = search rules;
  bytes = λ file told. absurd (cc);
  contents_stay = search rules;
  cause = search rules;
}
