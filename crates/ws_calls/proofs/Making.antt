-- Calls that are made one after the other, at an end that may have exchanged something before.
use Rattle.std.proofs.Common.{◌≡◌, ◌∙◌, ℕ, List, [], ◌∷◌, ◌++◌, map, ap, ap₂, sym, refl, subst, append_assoc, append-nil}
use Rattle.std.proofs.lemmas.Grind.{flat_map-append}
use Rattle.std.proofs.lemmas.List.{map-append}
use Rattle.std.specs.List.{flat_map}
use Rattle.ws_session.specs.Exchange.{Exchange, SessionValue}
use Rattle.ws_session.specs.Limits.{LimitsValue}
use Rattle.ws_wire.specs.declared.role.Role.{Role}
use Rattle.ws_session.specs.declared.event.Event.{Event}
use Rattle.ws_wire.specs.Frame.{Frame}
use Rattle.ws_calls.specs.declared.calls.Call.{Call}
use Rattle.ws_calls.specs.CallLines.{answer_lines}
use Rattle.ws_calls.specs.Calls.{AreAnswered, Endpoint, IsCallAnswered}
use Rattle.ws_calls.specs.InnerSteps.{Agrees, HasMade, HasToldCall, endpoint_of}
use Rattle.ws_calls.proofs.Answering.{answered_added}

-- no call was made
pub nothing_made : {T : Type 0} (call_of : T → Call) (reply : Event → List Frame) (session : SessionValue) (taken : ℕ)
    (lines : List ℕ) (exchange : Exchange) → Agrees exchange taken session
    → HasMade call_of (endpoint_of reply session) exchange lines [] taken session lines
nothing_made call_of reply session taken lines exchange agrees = record {
  answers = [];
  after = exchange;
  answered = (refl, refl);
  agrees = agrees;
  same = (refl, refl);
  told = sym (append-nil lines);
}

module _ {T : Type 0} (call_of : T → Call) (reply : Event → List Frame) (endpoint : Endpoint) (exchange : Exchange)
    (first : List ℕ) (values : List T) (value : T) (taken taken_after : ℕ) (old new : SessionValue)
    (before lines : List ℕ) where
  -- one more call
  one_more : (h : HasMade call_of endpoint exchange first values taken old before) → endpoint ≡ endpoint_of reply old
      → HasToldCall (endpoint_of reply old) h.after (call_of value) before taken_after new lines
      → HasMade call_of endpoint exchange first (values ++ value ∷ []) taken_after new lines
  one_more h same told =
      let answered : IsCallAnswered endpoint h.after (call_of value) told.answer told.answered.after =
      subst (λ (x : Endpoint). IsCallAnswered x h.after (call_of value) told.answer told.answered.after) (sym same)
      told.answered.answered in
      let answers = h.answers ++ told.answer ∷ [] in
      record {
        answers = answers;
        after = told.answered.after;
        answered =
            subst (λ (l : List Call). AreAnswered endpoint exchange l answers told.answered.after)
            (sym (map-append call_of values (value ∷ [])))
            (answered_added endpoint exchange h.after told.answered.after (map call_of values) (call_of value) h.answers
            told.answer h.answered answered);
        agrees = told.answered.agrees;
        same = (
          told.answered.same.0 ∙ ap (λ (x : Endpoint). x.role) (sym same),
          told.answered.same.1 ∙ ap (λ (x : Endpoint). x.limits) (sym same),
        );
        told =
            let last = answer_lines told.answer in
            told.told
            ∙ (ap (λ (l : List ℕ). l ++ last) h.told
            ∙ (append_assoc first (flat_map answer_lines h.answers) last
            ∙ ap (λ (l : List ℕ). first ++ l)
            (ap (λ (l : List ℕ). flat_map answer_lines h.answers ++ l) (sym (append-nil last))
            ∙ sym (flat_map-append answer_lines h.answers (told.answer ∷ [])))));
      }

abbrev endpoint_at : (Event → List Frame) → Role → LimitsValue → Endpoint
endpoint_at reply role limits = record { role = role; limits = limits; reply = reply }

-- one more call is made behind those before it, whatever the end had exchanged before them
pub called_more : {T : Type 0} (call_of : T → Call) (reply : Event → List Frame) (first_taken : ℕ)
    (first_session : SessionValue) (first : List ℕ) (values : List T) (value : T) (taken taken_after : ℕ)
    (old new : SessionValue) (before lines : List ℕ)
    → ((exchange : Exchange) → Agrees exchange first_taken first_session
    → HasMade call_of (endpoint_of reply first_session) exchange first values taken old before)
    → ((exchange : Exchange) → Agrees exchange taken old
    → HasToldCall (endpoint_of reply old) exchange (call_of value) before taken_after new lines)
    → (exchange : Exchange) → Agrees exchange first_taken first_session
    → HasMade call_of (endpoint_of reply first_session) exchange first (values ++ value ∷ []) taken_after new lines
called_more call_of reply first_taken first_session first values value taken taken_after old new before lines made told
    exchange agrees =
    let h = made exchange agrees in
    let endpoint = endpoint_of reply first_session in
    let same : endpoint ≡ endpoint_of reply old =
    sym (ap₂ (endpoint_at reply) h.same.0 h.same.1) in
    one_more call_of reply endpoint exchange first values value taken taken_after old new before lines h same
    (told h.after h.agrees)
