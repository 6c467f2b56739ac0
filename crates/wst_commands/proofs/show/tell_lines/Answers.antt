-- Of a transcript with a place that 64 bits can't tell nothing is written.
use Rattle.std.proofs.Common.{inr, refl, rules}
use Rattle.std.proofs.KnownBytes.{Keeps-refl}
use Rattle.ws_frame.specs.Watching.{inner_of}
use Rattle.ws_lines.specs.TurnLines.{FitsPlaces}
use Rattle.wst_commands.proofs.show.tell_lines.Goals as goal

pub returns-then-not-fits_places : goal.returns-then-not-fits_places
returns-then-not-fits_places g c =
    let can_not : ¬ (FitsPlaces c.args.transcript.now.turns) = search rules in
    inr (inr (inr (refl, can_not, Keeps-refl (g.W.Write.contents (inner_of c.args.writer.now)))))
