-- The client that is left had a number, and has none any more.
use Rattle.std.proofs.Common.{◌≡◌, ◌∙◌, None, Some, refl, sym}
use Rattle.ws_serving.proofs.GuestLemmas.{left_number}
use Rattle.ws_serving.proofs.guests.leave.Goals as goal

pub returns-in-Some-clause-left : goal.returns-in-Some-clause-left
returns-in-Some-clause-left g c =
    let (stream, held) = c.requires.holds in (
      c.in-Some.number,
      sym c.number-number.ensures ∙ c.in-Some.is,
      refl,
      left_number c.args.clients.now.held c.args.at stream c.args.clients.now.numbers c.leave.new.self.numbers held
          c.leave.ensures.numbers,
    )

pub returns-in-None-clause-left : goal.returns-in-None-clause-left
returns-in-None-clause-left g c =
    let (n, there) = c.requires.numbered in
    let bad : None ≡ Some n = sym c.in-None.is ∙ (c.number-number.ensures ∙ there) in
    absurd (cc)
