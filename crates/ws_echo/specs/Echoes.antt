-- What an echo that was new makes of the bytes that it takes: RFC 6455 sections 5.5, 5.6 and 7.1.
use Rattle.std.specs.Prelude.{◌≡◌, ℕ, Bool, false, List, [], ◌++◌, map}
use Rattle.ws_wire.specs.declared.role.Role.{Role}
use Rattle.ws_wire.specs.Frame.{stream_bytes}
use Rattle.ws_session.specs.declared.event.Event.{Event}
use Rattle.ws_session.specs.declared.status.Status.{Status}
use Rattle.ws_session.specs.Limits.{LimitsValue}
use Rattle.ws_session.specs.Events.{HasEvents}
use Rattle.ws_session.specs.Replies.{echo_replies_of, under_key}
use Rattle.ws_session.specs.Exchange.{SessionValue, HasExchanged, is_over, status_of}

-- An echo of this role under these limits took these bytes, at whose end the stream has ended or not: the bytes have
-- these events, it put its replies to them, of which a client masks each with the key and a server none, and its status
-- is theirs
pub record HasEchoed (role : Role) (limits : LimitsValue) (key bytes : List ℕ) (ended : Bool) (put : List ℕ)
    (status : Status) : Type 0 where
  pub events : List Event
  pub has_events : HasEvents role limits bytes events
  pub is_put : put ≡ stream_bytes (map (under_key role key) (echo_replies_of [] events))
  pub is_status : status ≡ status_of (echo_replies_of [] events) ended events

-- the session of an echo that took these bytes so, and put this
pub record IsEchoAfter (role : Role) (limits : LimitsValue) (key bytes : List ℕ) (ended : Bool) (put : List ℕ)
    (session : SessionValue) : Type 0 where
  pub events : List Event
  pub has_events : HasEvents role limits bytes events
  pub is_put : put ≡ stream_bytes (map (under_key role key) (echo_replies_of [] events))
  pub exchanged : HasExchanged session (echo_replies_of [] events) bytes ended
  pub same : (session.role ≡ role) × (session.limits ≡ limits)

-- ---- an echo that is driven

-- an echo that is to be driven: its role and limits, the masking key that it is handed, the bytes that it is fed before
-- any are read, and how many may be read
pub record DriveCall : Type 0 where
  pub role : Role
  pub limits : LimitsValue
  pub key : List ℕ
  pub first : List ℕ
  pub budget : ℕ

-- of these bytes, at whose end the stream has ended or not, these are the echo's replies, and it stands so
abbrev pub Echoes : DriveCall → List ℕ → Bool → List ℕ → Status → Type 0
Echoes call bytes ended put status = HasEchoed call.role call.limits call.key bytes ended put status

-- its session took these bytes so, and put this
abbrev pub IsEchoOf : DriveCall → List ℕ → Bool → List ℕ → SessionValue → Type 0
IsEchoOf call bytes ended put session = IsEchoAfter call.role call.limits call.key bytes ended put session

-- all that is due for what was read was written, and the session goes on
abbrev pub HasAnsweredAll : DriveCall → List ℕ → List ℕ → Type 0
HasAnsweredAll call read written =
    (status : Status) × Echoes call (call.first ++ read) false written status × (is_over status ≡ false)

-- A beginning of what is due for what was read was written: the echo took a front of what it was fed, and this is a
-- beginning of its replies to that, and so of its replies to all
pub record BeginsAnswers (call : DriveCall) (read written : List ℕ) : Type 0 where
  pub front : List ℕ
  pub later : List ℕ
  pub parts : call.first ++ read ≡ front ++ later
  pub status : Status
  pub more : List ℕ
  pub echoed : Echoes call front false (written ++ more) status
  pub begins : (put : List ℕ) (ended : Bool) (then : Status) → Echoes call (call.first ++ read) ended put then
      → (rest : List ℕ) × (put ≡ written ++ rest)
