-- Inside the crate: what one event changes of an echo. A reader may skip this file.
use Rattle.std.specs.Prelude.{◌≡◌, ℕ, ◌-◌, ◌≤◌, ⊤, Bool, true, false, List, [], drop, length, Some}
use Rattle.ws_wire.specs.Frame.{Frame}
use Rattle.ws_machines.specs.declared.stream.StreamEvent.{StreamEvent}
use Rattle.ws_machines.specs.declared.stream.StreamEvent.TheVariants as event
use Rattle.ws_session.specs.declared.event.PlacedEvent.{PlacedEvent}
use Rattle.ws_session.specs.Exchange.{HasExchanged, is_over}
use Rattle.ws_session.specs.Replies.{echo_reply_to}
use Rattle.ws_session.specs.Taking.{HasTakenAll, TakeCall}
use Rattle.ws_echo.specs.EchoMachines.{EchoValue, most_replies}
use Rattle.ws_echo.specs.declared.echo_machine.EchoStop.TheVariants as stop

-- a piece that is taken, and the replies that wait before and after it
abbrev pub piece_call : List ℕ → List ℕ → List ℕ → List ℕ → TakeCall
piece_call piece key before after = record { piece = piece; key = key; before = before; after = after }

-- the session has taken a piece, and its replies to that wait behind the others
pub record TakesOnePiece (old new : EchoValue) (piece : List ℕ) : Type 0 where
  pub told : List PlacedEvent
  pub taken : HasTakenAll echo_reply_to old.session new.session (piece_call piece old.key old.rest new.rest) [] told
  pub key : new.key ≡ old.key
  pub left : new.left ≡ old.left - length piece
  pub stop : new.stop ≡ old.stop

-- the stream of its session has ended: the session is over then
pub record EndsStream (old new : EchoValue) : Type 0 where
  pub exchanged : (sent : List Frame) (bytes : List ℕ) (ended : Bool) → HasExchanged old.session sent bytes ended
      → HasExchanged new.session sent bytes true
  pub over : is_over old.session.status ≡ false → is_over new.session.status ≡ true
  pub same : (new.session.role ≡ old.session.role) × (new.session.limits ≡ old.session.limits)
  pub key : new.key ≡ old.key
  pub rest : new.rest ≡ old.rest
  pub left : new.left ≡ old.left
  pub stop : new.stop ≡ old.stop

-- what happened leaves it so
abbrev pub StepsEcho : EchoValue → StreamEvent → EchoValue → Type 0
StepsEcho old (event.Came piece) new = TakesOnePiece old new piece.now
StepsEcho old event.Ended new = EndsStream old new
StepsEcho old event.ReadFailed new = new ≡ record old { stop = Some stop.ReadFault }
StepsEcho old event.NothingCame new = new ≡ record old { stop = Some stop.NothingCame }
StepsEcho old (event.Taken count) new = new ≡ record old { rest = drop count old.rest }
StepsEcho old event.WriteFailed new = new ≡ record old { rest = []; stop = Some stop.WriteFault }
StepsEcho old event.DirectionEnded new = ⊤
StepsEcho old event.Reported new = ⊤
StepsEcho old (event.DeadlinePassed waited) new = new ≡ record old { rest = []; stop = Some stop.Late }

-- no more replies wait, once a piece has come, than a machine can count
abbrev pub FitsReplies : StreamEvent → EchoValue → Type 0
FitsReplies (event.Came piece) new = length new.rest ≤ most_replies
FitsReplies _ new = ⊤
