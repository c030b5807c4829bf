use Rattle.code_file.proofs.TextLaws.{text_is_read, one_text, no_text_begins}
use Rattle.code_file.proofs.TextOfShape.{shape_has_text}
use Rattle.code_file.proofs.ShapeOfText.{text_has_shape, text_has_ranges}
use Rattle.code_file.proofs.TextLength.{text_is_short}
use Rattle.code_file.proofs.laws.code_laws.Goals as goal

pub returns-clause-read : goal.returns-clause-read
returns-clause-read c = text_is_read

pub returns-clause-one : goal.returns-clause-one
returns-clause-one c = one_text

pub returns-clause-beginning : goal.returns-clause-beginning
returns-clause-beginning c = no_text_begins

pub returns-clause-shape : goal.returns-clause-shape
returns-clause-shape c = λ code. ((λ h. (text_has_shape code h, text_has_ranges code h)), (λ h. shape_has_text code h.0 h.1))

pub returns-clause-short : goal.returns-clause-short
returns-clause-short c = text_is_short
