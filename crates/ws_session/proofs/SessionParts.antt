-- A session as its receiving side, its sending side and its status.
use Rattle.std.proofs.Common.{◌≡◌, ◌∙◌, ℕ, true, List, [], length, Option, None, ap, arith}
use Rattle.ws_wire.specs.declared.role.Role.{Role}
use Rattle.ws_session.specs.declared.message.Message.{Message}
use Rattle.ws_session.specs.declared.status.Status.{Status}
use Rattle.ws_session.specs.declared.status.Status.TheVariants.{Open}
use Rattle.ws_session.specs.Limits.{LimitsValue}
use Rattle.ws_session.specs.Faults.{open_payload}
use Rattle.ws_session.specs.Exchange.{SendingValue, SessionValue, is_over}
use Rattle.ws_session.specs.InnerInvariant.{IsSound}
use Rattle.ws_session.specs.InnerReceiver.{ReceiverValue, IsSoundReceiver, IsExact, session_with}
use Rattle.ws_session.specs.InnerStanding.{IsStanding}

-- a sound receiving side that keeps nothing once all is over
pub sound_session : (v : ReceiverValue) (sending : Option SendingValue) (status : Status) → IsSoundReceiver v → (is_over status ≡ true → (v.opened ≡ None) × (v.partial_frame ≡ [])) → IsSound (session_with v sending status)
sound_session v sending status s nothing = record {
  part = s.part;
  limit = s.limit;
  size = s.size;
  held = s.held;
  kept = s.room;
  over = λ over.
      let none = nothing over in
      omega (arith, ap (λ (o : Option Message). length (open_payload o)) none.0, ap (λ (l : List ℕ). length l) none.1);
}

pub standing : (v : ReceiverValue) (sending : Option SendingValue) (status : Status) → IsSoundReceiver v → IsExact v → (is_over status ≡ true → (v.opened ≡ None) × (v.partial_frame ≡ [])) → IsStanding v sending status
standing v sending status s exact nothing = record { sound = sound_session v sending status s nothing; exact = exact }

make_session : Role → LimitsValue → Option Message → List ℕ → ℕ → Option SendingValue → Status → SessionValue
make_session role limits opened partial kept sending status = record { role = role; limits = limits; opened = opened; partial_frame = partial; kept = kept; sending = sending; status = status }

-- what shows is the same
pub same_session : (v w : ReceiverValue) (sending : Option SendingValue) (status : Status) → v.role ≡ w.role → v.limits ≡ w.limits → v.opened ≡ w.opened → v.partial_frame ≡ w.partial_frame → length v.assembled ≡ length w.assembled → session_with v sending status ≡ session_with w sending status
unfolding make_session
same_session v w sending status role limits opened partial kept =
    ap (λ (x : Role). make_session x v.limits v.opened v.partial_frame (length v.assembled) sending status) role ∙ ap (λ (x : LimitsValue). make_session w.role x v.opened v.partial_frame (length v.assembled) sending status) limits
    ∙ ap (λ (x : Option Message). make_session w.role w.limits x v.partial_frame (length v.assembled) sending status) opened ∙ ap (λ (x : List ℕ). make_session w.role w.limits w.opened x (length v.assembled) sending status) partial
    ∙ ap (λ (x : ℕ). make_session w.role w.limits w.opened w.partial_frame x sending status) kept

-- a receiving side that keeps nothing shows so, whatever its session's status
pub ended_session : (v w : ReceiverValue) (sending : Option SendingValue) (status then : Status) → w.role ≡ v.role → w.limits ≡ v.limits → w.opened ≡ None → w.partial_frame ≡ [] → w.assembled ≡ []
    → session_with w sending then ≡ record (session_with v sending status) { opened = None; partial_frame = []; kept = 0; status = then }
unfolding make_session
ended_session v w sending status then role limits opened partial nothing =
    ap (λ (x : Role). make_session x w.limits w.opened w.partial_frame (length w.assembled) sending then) role ∙ ap (λ (x : LimitsValue). make_session v.role x w.opened w.partial_frame (length w.assembled) sending then) limits
    ∙ ap (λ (x : Option Message). make_session v.role v.limits x w.partial_frame (length w.assembled) sending then) opened ∙ ap (λ (x : List ℕ). make_session v.role v.limits None x (length w.assembled) sending then) partial
    ∙ ap (λ (l : List ℕ). make_session v.role v.limits None [] (length l) sending then) nothing

-- one that is new, beside a sending side on which nothing is open
pub fresh_session : (v : ReceiverValue) (sending : Option SendingValue) (role : Role) (limits : LimitsValue) → v.role ≡ role → v.limits ≡ limits → v.opened ≡ None → v.partial_frame ≡ [] → v.assembled ≡ [] → sending ≡ None
    → session_with v sending Open ≡ record { role = role; limits = limits; opened = None; partial_frame = []; kept = 0; sending = None; status = Open }
unfolding make_session
fresh_session v sending role limits roles sizes opened partial kept nothing =
    ap (λ (x : Role). make_session x v.limits v.opened v.partial_frame (length v.assembled) sending Open) roles ∙ ap (λ (x : LimitsValue). make_session role x v.opened v.partial_frame (length v.assembled) sending Open) sizes
    ∙ ap (λ (x : Option Message). make_session role limits x v.partial_frame (length v.assembled) sending Open) opened ∙ ap (λ (x : List ℕ). make_session role limits None x (length v.assembled) sending Open) partial
    ∙ ap (λ (l : List ℕ). make_session role limits None [] (length l) sending Open) kept
    ∙ ap (λ (x : Option SendingValue). make_session role limits None [] 0 x Open) nothing
