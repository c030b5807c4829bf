use Rattle.std.proofs.Common.{rules, inl, inr}
use Rattle.sig_io.proofs.memory.MemFilesFiles.read_at.Goals as goal
use Rattle.sig_io.proofs.memory.MemFilesFiles.read_at.Goals.{then-not-contains+in_default, else-not-contains}

pub returns-clause-fails : goal.returns-clause-fails
returns-clause-fails c = elim c.if-not-contains.branch [ then-not-contains+in_default w ↦ inr (search rules) | else-not-contains w ↦ inl (search rules) ]
