use Rattle.det_board.proofs.Opening.{opens_front}
use Rattle.det_board.proofs.make.open.Goals as goal

pub of_words-requires : goal.of_words-requires
of_words-requires c = opens_front c.args.detectors c.from.result c.args.zeros.now c.requires.zeros c.from.ensures c.requires.at_most
