use Rattle.std.proofs.Common.{ℕ, List, Result, Ok, Err, IfOk}
use Rattle.vap_code.specs.declared.Code.{Code}
use Rattle.vap_code.specs.Valid.{HasShape}
use Rattle.code_file.specs.declared.refusal.CodeRefusal.{CodeRefusal}
use Rattle.vap_code.specs.Codes.{code_in}
use Rattle.code_file.specs.Reading.{code_of}
use Rattle.code_file.specs.Refusal.{Gives}
use Rattle.code_file.proofs.TextLaws.{one_text}
use Rattle.code_file.proofs.ShapeOfText.{text_has_shape}
use Rattle.code_file.proofs.reading.read_code.Goals as goal

shaped : (r : Result Code CodeRefusal) (text : List ℕ) → Gives code_in r (code_of text) → IfOk r (λ c. HasShape (code_in c))
shaped (Ok c) text is = text_has_shape (code_in c) (one_text text (code_in c) is).0
shaped (Err e) text is = tt

pub returns-clause-shape : goal.returns-clause-shape
returns-clause-shape c = shaped c.read_text.result c.args.text.now c.read_text.ensures
