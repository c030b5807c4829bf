use Rattle.std.proofs.Common.{arith}
use Rattle.vap_ast.proofs.Depth.{deep_enough}
use Rattle.vap_ast.proofs.laws.one_meaning.Goals as goal

pub returns : goal.returns
returns c = record { depth_is_free = λ source world depth routine todo s units le. deep_enough source world depth units routine todo s units le (omega arith) }
