-- A text tells one capture.
use Rattle.std.proofs.Common.{refl, true}
use Rattle.ws_scripts.specs.Captures2.{capture2_lines}
use Rattle.ws_scripts.proofs.CaptureTells.{of_either, one_told}
use Rattle.ws_scripts.proofs.laws.one_capture_in_either_format.Goals as goal

pub returns-clause-one : goal.returns-clause-one
returns-clause-one c = λ text one other p q. one_told true text one other (of_either one text p)
    (of_either other text q)

pub returns-clause-written : goal.returns-clause-written
returns-clause-written c = λ capture holds. (capture2_lines capture, (holds, refl), refl)
