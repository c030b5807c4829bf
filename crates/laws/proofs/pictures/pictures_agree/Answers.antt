use Rattle.laws.proofs.PicturesAgree.{agree, unwatched_agree}
use Rattle.laws.proofs.pictures.pictures_agree.Goals as goal

pub returns-clause-lines : goal.returns-clause-lines
returns-clause-lines c = agree

pub returns-clause-unwatched : goal.returns-clause-unwatched
returns-clause-unwatched c = unwatched_agree
