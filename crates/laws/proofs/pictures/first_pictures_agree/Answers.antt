use Rattle.laws.proofs.PicturesAgree.{first_agree}
use Rattle.laws.proofs.pictures.first_pictures_agree.Goals as goal

pub returns : goal.returns
returns c = first_agree
