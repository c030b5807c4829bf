use Rattle.sig_types.proofs.FrameLaws.{takes_last, first_frames}
use Rattle.sig_types.proofs.laws.frames_can_be_taken.Goals as goal

pub returns-clause-last : goal.returns-clause-last
returns-clause-last c = takes_last

pub returns-clause-fronts : goal.returns-clause-fronts
returns-clause-fronts c = first_frames
