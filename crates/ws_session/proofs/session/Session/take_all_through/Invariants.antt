-- Front after front: what is used so far was taken with its events and answers, and one that was over is unchanged.
use Rattle.std.proofs.Common.{◌≡◌, ◌≤◌, ◌-◌, true, length, take}
use Rattle.ws_session.specs.Exchange.{is_over}
use Rattle.ws_session.specs.Taking.{HasTakenAll}
use Rattle.ws_session.specs.InnerInvariant.{reply_by}
use Rattle.ws_session.proofs.Calls.{call_of}
use Rattle.ws_session.proofs.session.Session.take_all_through.Given as goal

-- what is used so far was taken
abbrev pub invariant-loop-used : goal.invariant-loop-used
invariant-loop-used l = record {
  within : l.used ≤ length l.piece;
  taken : HasTakenAll (reply_by l.answering) l.fn.self l.self (call_of (take l.used l.piece) l.key l.fn.out.items l.out.items) l.fn.events.items l.events.items;
  sending : l.self.sending ≡ l.fn.self.sending;
  over : is_over l.fn.self.status ≡ true → (l.self ≡ l.fn.self) × (l.out.items ≡ l.fn.out.items) × (l.events.items ≡ l.fn.events.items);
}

abbrev pub decreases-loop-used : goal.decreases-loop-used
decreases-loop-used l = length l.piece - l.used
