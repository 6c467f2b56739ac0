-- The talks that a tester may have with an echo at the tested end: RFC 6455 sections 5.4 to 5.6 and 7.1.
use Rattle.std.specs.Prelude.{◌≡◌, ℕ, ◌≤◌, ◌↔◌, Bool, true, false, List, [], length, take, Option, None, IfSome}
use Rattle.std.specs.List.{last_or}
use Rattle.ws_session.specs.declared.status.Status.{Status}
use Rattle.ws_session.specs.Sends.{most_limits}
use Rattle.ws_session.specs.Exchange.{SessionValue, Exchange, HasExchanged, is_over}
use Rattle.ws_peer.specs.declared.peer.Going.TheVariants.{Ended}
use Rattle.ws_peer.specs.Talks.{Entry, Fed, Finished, PeerEnd, fed_in, appended_in}
use Rattle.ws_echo.specs.Echoes.{HasEchoed, IsEchoAfter}

-- A call, after which the echo has this status: it has ended exactly where its session is over; and it appends nothing
-- where it is told that no more comes.
abbrev pub IsAnsweredBy : Status → Entry → Type 0
IsAnsweredBy status (Fed piece appended going) = (going ≡ Ended) ↔ (is_over status ≡ true)
IsAnsweredBy status (Finished appended) = appended ≡ []

abbrev pub last_call : List Entry → Option Entry
last_call talk = last_or None talk

-- After these calls all that was appended is what an echo at this end that takes the largest messages puts for all that
-- was fed: its replies and each message again, masked where it is the client. And it answered the last call, if there
-- was one, by its status.
pub record HasEchoedTalk (end : PeerEnd) (talk : List Entry) : Type 0 where
  pub status : Status
  pub echoed : HasEchoed end.role most_limits end.key (fed_in talk) false (appended_in talk) status
  pub answered : IfSome (last_call talk) (IsAnsweredBy status)

-- it is so after each call
abbrev pub IsEchoTalk : PeerEnd → List Entry → Type 0
IsEchoTalk end talk = (n : ℕ) → n ≤ length talk → HasEchoedTalk end (take n talk)

-- ---- an echo as a peer

-- its session, the key with which it masks what it sends where it is the client, and whether memory ran out
pub record EchoPeerValue : Type 0 where
  pub session : SessionValue
  pub key : List ℕ
  pub is_spent : Bool

-- The peer may have had this talk as this end: it masks with the end's key, the talk is an echo's, and the session has
-- taken what was fed and put what was appended.
pub record MayHaveHad (peer : EchoPeerValue) (end : PeerEnd) (talk : List Entry) : Type 0 where
  pub key : peer.key ≡ end.key
  pub is_echo : IsEchoTalk end talk
  pub after : IsEchoAfter end.role most_limits end.key (fed_in talk) false (appended_in talk) peer.session

-- the session agrees with some exchange whose stream goes on
pub record HasTakenSomething (session : SessionValue) : Type 0 where
  pub exchange : Exchange
  pub goes_on : exchange.ended ≡ false
  pub exchanged : HasExchanged session exchange.sent exchange.taken exchange.ended
