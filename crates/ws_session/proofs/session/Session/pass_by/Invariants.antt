-- Take after take: what is used so far was taken with its answers, whatever was told, and one that was over is unchanged.
use Rattle.std.proofs.Common.{◌≡◌, ◌≤◌, ◌-◌, true, List, [], length, take}
use Rattle.ws_session.specs.declared.event.PlacedEvent.{PlacedEvent}
use Rattle.ws_session.specs.Exchange.{is_over}
use Rattle.ws_session.specs.Taking.{HasTakenAll}
use Rattle.ws_session.specs.InnerInvariant.{reply_by}
use Rattle.ws_session.proofs.Calls.{call_of}
use Rattle.ws_session.proofs.session.Session.pass_by.Given as goal

-- what is used so far was taken
abbrev pub invariant-loop-used : goal.invariant-loop-used
invariant-loop-used l = record {
  within : l.used ≤ length l.piece;
  taken : (told : List PlacedEvent) × HasTakenAll (reply_by l.answering) l.fn.self l.self (call_of (take l.used l.piece) l.key l.fn.out.items l.out.items) [] told;
  sending : l.self.sending ≡ l.fn.self.sending;
  over : is_over l.fn.self.status ≡ true → (l.self ≡ l.fn.self) × (l.out.items ≡ l.fn.out.items);
}

abbrev pub decreases-loop-used : goal.decreases-loop-used
decreases-loop-used l = length l.piece - l.used
