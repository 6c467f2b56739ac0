-- What was found is the mark of the bytes that have come.
use Rattle.ws_faults.proofs.FinderLemmas.{found_so}
use Rattle.ws_faults.proofs.finding.FaultFinder.fault.Goals as goal

pub returns : goal.returns
returns c = record { found = λ role bytes h. found_so role c.args.self.now bytes h }
