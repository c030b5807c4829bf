use Rattle.std.proofs.Common.{refl}
use Rattle.junction_calls.specs.Variables.{too_long, no_memory}
use Rattle.junction_calls.proofs.Names.{names_told, refused_told}
use Rattle.junction_calls.proofs.variables.tell_names.Goals as goal

-- src/variables.rt:32:9
pub returns-then-program-gt1048576 : goal.returns-then-program-gt1048576
returns-then-program-gt1048576 c = too_long c.if-program-gt1048576.true refl refl

-- src/variables.rt:36:42
pub returns-in-Err-Refused : goal.returns-in-Err-Refused
returns-in-Err-Refused c = refused_told _ _ _ _ _ _ _ _ c.in-Err-Refused.field-0-is c.in-Err-Refused.ensures.text

-- src/variables.rt:37:82
pub returns-in-Err-Memory : goal.returns-in-Err-Memory
returns-in-Err-Memory c = no_memory refl refl

-- src/variables.rt:30:1
pub returns-in-Ok-names_of : goal.returns-in-Ok-names_of
returns-in-Ok-names_of c =
    names_told _ _ _ _ _ _ _ _ _ c.in-Ok.ensures.text.0 c.copy_text.ensures.copied c.deref.ensures.value c.in-Ok-names_of.ensures
    c.copy_text.ensures.length

-- src/variables.rt:28:1
pub returns-in-Err : goal.returns-in-Err
returns-in-Err c = no_memory refl refl
