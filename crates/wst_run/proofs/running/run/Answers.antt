-- A run does what its words ask for, or answers what is wrong with them.
use Rattle.std.proofs.Common.{inr, rules}
use Rattle.ws_frame.specs.Devices.{IsUntouched, watched}
use Rattle.wst_run.proofs.running.run.Goals as goal

pub returns-in-Err-clause-runs : goal.returns-in-Err-clause-runs
returns-in-Err-clause-runs g c =
    let (places, refused) = c.in-Err.ensures.read in
    let untouched : IsUntouched (watched g.R.Read.remaining c.args.reader.now c.args.reader.now) = search rules in
    (places, inr (c.in-Err.fault, refused, untouched, c.answer_words.ensures))
