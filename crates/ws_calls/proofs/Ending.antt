-- The end of a run: all calls were made, and what comes last is told.
use Rattle.std.proofs.Common.{◌≡◌, ◌∙◌, ℕ, List, [], ◌∷◌, ◌++◌, map, None, Some, ap, refl, subst}
use Rattle.ws_wire.specs.declared.role.Role.{Role}
use Rattle.ws_session.specs.Limits.{LimitsValue}
use Rattle.ws_session.specs.Exchange.{Exchange, SessionValue, is_over}
use Rattle.ws_calls.specs.declared.calls.Call.{Call}
use Rattle.ws_calls.specs.declared.calls.EchoCall.{EchoCall}
use Rattle.ws_calls.specs.CallLines.{last_lines}
use Rattle.ws_calls.specs.Calls.{AreAnswered, Endpoint, IsStatusAfter, echo_of, new_exchange, session_of}
use Rattle.ws_calls.specs.InnerSteps.{Agrees, HasMade, IsHeld}
use Rattle.ws_calls.specs.Runs.{ReportsEcho, ReportsSession}
use Rattle.ws_calls.specs.Script.{as_call}
use Rattle.ws_calls.proofs.Answering.{held_there}

same_calls : (calls : List Call) → map (λ (x : Call). x) calls ≡ calls
same_calls [] = refl
same_calls (call ∷ calls) = ap (λ (l : List Call). call ∷ l) (same_calls calls)

status_made : {T : Type 0} (call_of : T → Call) (endpoint : Endpoint) (values : List T) (taken : ℕ) (v : SessionValue)
    (lines : List ℕ) → (h : HasMade call_of endpoint new_exchange [] values taken v lines)
    → IsStatusAfter endpoint h.after v.status
status_made call_of endpoint values taken v lines h =
    subst
    (λ (m : LimitsValue). IsStatusAfter (record { role = endpoint.role; limits = m; reply = endpoint.reply }) h.after v.status)
    h.same.1
    (subst
    (λ (r : Role). IsStatusAfter (record { role = r; limits = v.limits; reply = endpoint.reply }) h.after v.status) h.same.0
    (h.agrees.exchanged.events, h.agrees.exchanged.has_events, h.agrees.exchanged.status))

pub session_told : (role : Role) (limits : LimitsValue) (calls : List Call) (taken : ℕ) (v : SessionValue)
    (before lines : List ℕ) (held : ℕ)
    → HasMade (λ (x : Call). x) (session_of role limits) new_exchange [] calls taken v before → IsHeld v held
    → lines ≡ before ++ last_lines (Some held) v.status → ReportsSession role limits calls lines
session_told role limits calls taken v before lines held h is last =
    let status = status_made (λ (x : Call). x) (session_of role limits) calls taken v before h in (
      record { answers = h.answers; held = Some held; status = v.status },
      record {
        after = h.after;
        answers = subst (λ (l : List Call). AreAnswered (session_of role limits) new_exchange l h.answers h.after)
            (same_calls calls) h.answered;
        held = (
          held,
          refl,
          (v.status, status, held_there (is_over v.status) v h.after held refl h.agrees.exchanged is.over is.count),
        );
        status = status;
      },
      last ∙ ap (λ (l : List ℕ). l ++ last_lines (Some held) v.status) h.told,
    )

pub echo_told : (role : Role) (limits : LimitsValue) (calls : List EchoCall) (taken : ℕ) (v : SessionValue)
    (before lines : List ℕ) → HasMade as_call (echo_of role limits) new_exchange [] calls taken v before
    → lines ≡ before ++ last_lines None v.status → ReportsEcho role limits calls lines
echo_told role limits calls taken v before lines h last =
    let status = status_made as_call (echo_of role limits) calls taken v before h in (
      record { answers = h.answers; held = None; status = v.status },
      record { after = h.after; answers = h.answered; held = refl; status = status },
      last ∙ ap (λ (l : List ℕ). l ++ last_lines None v.status) h.told,
    )

-- what was made at an end that is new
pub session_begun : (role : Role) (limits : LimitsValue) (first : SessionValue) (first_taken : ℕ) (first_lines : List ℕ)
    (calls : List Call) (taken : ℕ) (v : SessionValue) (lines : List ℕ) → Agrees new_exchange first_taken first
    → (first.role ≡ role) × (first.limits ≡ limits) → first_lines ≡ []
    → ((exchange : Exchange) → Agrees exchange first_taken first
    → HasMade (λ (x : Call). x) (session_of first.role first.limits) exchange first_lines calls taken v lines)
    → HasMade (λ (x : Call). x) (session_of role limits) new_exchange [] calls taken v lines
session_begun role limits first first_taken first_lines calls taken v lines new same none made =
    subst (λ (l : List ℕ). HasMade (λ (x : Call). x) (session_of role limits) new_exchange l calls taken v lines) none
    (subst (λ (r : Role). HasMade (λ (x : Call). x) (session_of r limits) new_exchange first_lines calls taken v lines) same.0
    (subst
    (λ (m : LimitsValue). HasMade (λ (x : Call). x) (session_of first.role m) new_exchange first_lines calls taken v lines)
    same.1 (made new_exchange new)))

pub echo_begun : (role : Role) (limits : LimitsValue) (first : SessionValue) (first_taken : ℕ) (first_lines : List ℕ)
    (calls : List EchoCall) (taken : ℕ) (v : SessionValue) (lines : List ℕ) → Agrees new_exchange first_taken first
    → (first.role ≡ role) × (first.limits ≡ limits) → first_lines ≡ []
    → ((exchange : Exchange) → Agrees exchange first_taken first
    → HasMade as_call (echo_of first.role first.limits) exchange first_lines calls taken v lines)
    → HasMade as_call (echo_of role limits) new_exchange [] calls taken v lines
echo_begun role limits first first_taken first_lines calls taken v lines new same none made =
    subst (λ (l : List ℕ). HasMade as_call (echo_of role limits) new_exchange l calls taken v lines) none
    (subst (λ (r : Role). HasMade as_call (echo_of r limits) new_exchange first_lines calls taken v lines) same.0
    (subst
    (λ (m : LimitsValue). HasMade as_call (echo_of first.role m) new_exchange first_lines calls taken v lines)
    same.1 (made new_exchange new)))
