-- Where the place isn't reached, no due pong from here on has the payload.
use Rattle.std.proofs.Common.{◌≡◌, ◌∙◌, ℕ, List, false, ap, sym}
use Rattle.ws_suite.specs.InnerNoted.{noted_of, reaches}
use Rattle.ws_suite.specs.Kept.{reply_in}
use Rattle.ws_suite.specs.Matching.{payload_of}
use Rattle.ws_suite.proofs.KeptLemmas.{payload_kept}
use Rattle.ws_suite.proofs.PlaceLemmas.{none_left_of}
use Rattle.ws_suite.proofs.judging.pongs.is_left.Goals as goal

pub returns : goal.returns
returns c = λ due are no.
    let places = c.args.places.now in
    let pong = c.args.pong.now in
    none_left_of due (reply_in pong) c.args.next places are
    (ap (λ (payload : List ℕ). reaches places.has_all c.args.next (noted_of places payload))
    (payload_kept pong.kind pong.payload.now) ∙ (sym c.reaches.ensures ∙ no))
