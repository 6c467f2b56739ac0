-- A piece that isn't taken as one inside a payload meets the receiving side as it was.
use Rattle.std.proofs.Common.{◌≡◌, OnErr, rules, subst}
use Rattle.ws_session.specs.InnerReceiver.{ReceiverValue, IsOwed}
use Rattle.ws_session.specs.InnerTaking.{WantsRoom}
use Rattle.ws_session.proofs.receiver.Receiver.take.Goals.{else-matches-via-then-matches+in_ok-take_inside+else-branch, else-matches-via-else-matches}
use Rattle.ws_session.proofs.receiver.Receiver.take.Goals as goal

pub returns-clause-wants : goal.returns-clause-wants
returns-clause-wants c =
    let same : c.else-matches.self ≡ c.args.self.now = elim c.else-matches.branch [
      | else-matches-via-then-matches+in_ok-take_inside+else-branch w ↦ search rules
      | else-matches-via-else-matches w ↦ search rules
    ] in
    subst (λ (x : ReceiverValue). OnErr c.take_part.result (WantsRoom (IsOwed (record { role = x.role; status = c.args.status.now; answering = c.args.answering; key = c.args.key })) x c.args.piece.now)) same c.take_part.ensures.wants
