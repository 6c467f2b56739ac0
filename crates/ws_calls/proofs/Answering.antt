-- What a piece at a session answers, and what calls one after the other do.
use Rattle.std.proofs.Common.{◌≡◌, ◌∙◌, ℕ, ◌+◌, ◌≤◌, Bool, true, false, MatchBool, List, [], ◌∷◌, ◌++◌, length, take, map, Option, Some, None, ap, ap₂, sym, refl, subst, arith, append_assoc}
use Rattle.std.proofs.lemmas.List.{length-append}
use Rattle.std.specs.List.{AllByRecursion}
use Rattle.ws_wire.specs.Frame.{Frame, stream_bytes}
use Rattle.ws_session.specs.declared.event.Event.{Event}
use Rattle.ws_session.specs.declared.event.Event.TheVariants as event
use Rattle.ws_session.specs.declared.event.PlacedEvent.{PlacedEvent}
use Rattle.ws_session.specs.Events.{HasEvents}
use Rattle.ws_session.specs.Replies.{replies_by, under_key}
use Rattle.ws_session.specs.Exchange.{Exchange, SessionValue, HasExchanged, is_over, last_event, status_after}
use Rattle.ws_session.specs.Taking.{HasTakenAll, events_in}
use Rattle.ws_session.specs.declared.message.Message.{Message}
use Rattle.ws_session.specs.Faults.{open_payload}
use Rattle.ws_calls.specs.declared.calls.Call.{Call}
use Rattle.ws_calls.specs.declared.calls.Call.TheVariants.{Take}
use Rattle.ws_calls.specs.declared.report.PlacedInStream.{PlacedInStream}
use Rattle.ws_calls.specs.declared.report.CallAnswer.{CallAnswer}
use Rattle.ws_calls.specs.declared.report.CallAnswer.TheVariants.{Taken}
use Rattle.ws_calls.specs.Calls.{AreAnswered, Endpoint, IsCallAnswered, IsTakeAnswered, Keeps, events_without_places, placed_by}
use Rattle.ws_calls.specs.CallLines.{answer_lines}
use Rattle.ws_calls.specs.InnerSteps.{Agrees, HasTakenPart, HasToldCall, placed_behind, told_behind}
use Rattle.ws_calls.proofs.Placed.{places_within, same_events, same_front_events}
use Rattle.ws_calls.specs.InnerSteps.{endpoint_of}
use Rattle.ws_calls.proofs.Sending.{status_there}

-- once the stream has ended the endpoint is over
over_at_end : (sent : List Frame) (e : Option Event) → is_over (status_after sent true e) ≡ true
over_at_end sent None = refl
over_at_end sent (Some event.Part) = refl
over_at_end sent (Some (event.Message message)) = refl
over_at_end sent (Some (event.Ping payload)) = refl
over_at_end sent (Some (event.Pong payload)) = refl
over_at_end sent (Some (event.Close close)) = refl
over_at_end sent (Some (event.Failed reason)) = refl

not_ended : (ended : Bool) (v : SessionValue) (sent : List Frame) (taken : List ℕ) → HasExchanged v sent taken ended → is_over v.status ≡ false → ended ≡ false
not_ended false v sent taken h going = refl
not_ended true v sent taken h going =
    let over : is_over v.status ≡ true = ap is_over h.status ∙ over_at_end sent (last_event h.events) in
    absurd (let both : true ≡ false = sym over ∙ going in cc)

module _ (reply : Event → List Frame) (exchange : Exchange) (start : ℕ) (old : SessionValue) (piece key : List ℕ) (is : Agrees exchange start old) where
  abbrev TakeAnswered : ℕ → SessionValue → CallAnswer → Type 0
  TakeAnswered taken new answer = (after : Exchange) × IsTakeAnswered (endpoint_of reply old) exchange piece key answer after × Agrees after taken new
      × ((new.role ≡ old.role) × (new.limits ≡ old.limits))

  at_status : (b : Bool) (P Q : Type 0) → is_over old.status ≡ b → MatchBool b P Q → MatchBool (is_over old.status) P Q
  at_status b P Q e h = subst (λ (v : Bool). MatchBool v P Q) (sym e) h

  -- a session that is over
  pub take_over : is_over old.status ≡ true → TakeAnswered start old (Taken [] (length piece) [])
  take_over over = (
    exchange,
    (old.status, status_there reply exchange start old is, refl, at_status true _ _ over (record { nothing = refl; is_put = refl; next = refl })),
    is,
    (refl, refl),
  )

  -- one that is not
  pub take_going : (new : SessionValue) (put : List ℕ) (told : List PlacedEvent) → is_over old.status ≡ false
      → HasTakenAll reply old new (record { piece = piece; key = key; before = []; after = put }) [] told
      → TakeAnswered (start + length piece) new (Taken (map (placed_behind start) told) (length piece) put)
  take_going new put told going h =
      let same : told ≡ h.told = h.added in
      let t = h.takes exchange (not_ended exchange.ended old exchange.sent exchange.taken is.exchanged going) is.exchanged in
      let events : List Event = events_in h.told in
      let moved = same_events start h.told in
      subst (λ (l : List PlacedEvent). TakeAnswered (start + length piece) new (Taken (map (placed_behind start) l) (length piece) put)) (sym same) (
        record { sent = exchange.sent ++ replies_by reply exchange.sent (events_in h.told); taken = exchange.taken ++ piece; ended = exchange.ended },
        (
          old.status,
          status_there reply exchange start old is,
          refl,
          at_status false _ _ going (record {
            adds = record {
              before = is.exchanged.events;
              has_before = is.exchanged.has_events;
              within = subst (λ (m : ℕ). AllByRecursion (λ (x : PlacedInStream). x.place ≤ m + length piece) (map (placed_behind start) h.told)) is.count (places_within start (length piece) h.told h.within);
              by_place = λ n. subst (λ (l : List Event). HasEvents old.role old.limits (exchange.taken ++ take n piece) (is.exchanged.events ++ l))
                  (sym (ap (λ (m : ℕ). events_without_places (placed_by (m + n) (map (placed_behind start) h.told))) (sym is.count) ∙ same_front_events start n h.told)) (t.places n is.exchanged.events is.exchanged.has_events);
            };
            is_put = t.put ∙ ap (λ (l : List Event). stream_bytes (map (under_key old.role key) (replies_by reply exchange.sent l))) (sym moved);
            next = ap (λ (l : List Event). record { sent = exchange.sent ++ replies_by reply exchange.sent l; taken = exchange.taken ++ piece; ended = exchange.ended }) (sym moved);
          }),
        ),
        record { exchanged = t.agrees; count = omega (arith, is.count, length-append exchange.taken piece) },
        h.same,
      )

  pub told_over : (len : ℕ) (put before lines : List ℕ) (events : List PlacedInStream) → is_over old.status ≡ true → len ≡ length piece → events ≡ [] → put ≡ []
      → lines ≡ before ++ answer_lines (Taken events len put) → HasToldCall (endpoint_of reply old) exchange (Take piece key) before start old lines
  told_over len put before lines events over count none empty last =
      let g = take_over over in
      let same : Taken events len put ≡ Taken [] (length piece) [] = ap (λ (l : List PlacedInStream). Taken l len put) none ∙ (ap (λ (n : ℕ). Taken [] n put) count ∙ ap (λ (l : List ℕ). Taken [] (length piece) l) empty) in
      record {
        answer = Taken [] (length piece) [];
        answered = record { after = g.0; answered = g.1; agrees = g.2; same = g.3 };
        told = last ∙ ap (λ (a : CallAnswer). before ++ answer_lines a) same;
      }

  -- the events were told, and then what was put
  pub told_going : (new : SessionValue) (slice empty put put_told before between lines : List ℕ) (told : List PlacedEvent) (events : List PlacedInStream) (taken len : ℕ) → is_over old.status ≡ false → slice ≡ piece → empty ≡ []
      → HasTakenPart reply old new slice key empty put told → taken ≡ start + length slice → between ≡ before ++ told_behind start told → len ≡ length piece → events ≡ [] → put_told ≡ put
      → lines ≡ between ++ answer_lines (Taken events len put_told) → HasToldCall (endpoint_of reply old) exchange (Take piece key) before taken new lines
  told_going new slice empty put put_told before between lines told events taken len going same_piece nothing h count first same_len none same_put last =
      let h1 = subst (λ (l : List ℕ). HasTakenPart reply old new l key empty put told) same_piece h in
      let h2 = subst (λ (l : List ℕ). HasTakenPart reply old new piece key l put told) nothing h1 in
      let all : taken ≡ start + length piece = count ∙ ap (λ (l : List ℕ). start + length l) same_piece in
      let g = take_going new put told going h2 in
      let lines_of_events = told_behind start told in
      let same : Taken events len put_told ≡ Taken [] (length piece) put = ap (λ (l : List PlacedInStream). Taken l len put_told) none ∙ (ap (λ (n : ℕ). Taken [] n put_told) same_len ∙ ap (λ (l : List ℕ). Taken [] (length piece) l) same_put) in
      let after = answer_lines (Taken [] (length piece) put) in
      record {
        answer = Taken (map (placed_behind start) told) (length piece) put;
        answered = record { after = g.0; answered = g.1; agrees = subst (λ (n : ℕ). Agrees g.0 n new) (sym all) g.2; same = g.3 };
        told = last ∙ (ap (λ (a : CallAnswer). between ++ answer_lines a) same ∙ (ap (λ (l : List ℕ). l ++ after) first ∙ append_assoc before lines_of_events after));
      }

-- the bytes kept
pub held_there : (b : Bool) (v : SessionValue) (exchange : Exchange) (held : ℕ) → is_over v.status ≡ b → HasExchanged v exchange.sent exchange.taken exchange.ended
    → (is_over v.status ≡ true → held ≡ 0) → held ≡ length (open_payload v.opened) + length v.partial_frame → MatchBool b (held ≡ 0) (Keeps exchange.taken held)
held_there true v exchange held e h over is = over e
held_there false v exchange held e h over is =
    let t = h.taking e in
    record {
      frames = h.has_events.frames;
      rest = h.has_events.rest;
      split = h.has_events.split;
      count = is ∙ ap₂ (λ (m : Option Message) (l : List ℕ). length (open_payload m) + length l) t.0 t.1;
    }

-- one more call
pub answered_added : (endpoint : Endpoint) (first next after : Exchange) (calls : List Call) (call : Call) (answers : List CallAnswer) (answer : CallAnswer)
    → AreAnswered endpoint first calls answers next → IsCallAnswered endpoint next call answer after → AreAnswered endpoint first (calls ++ call ∷ []) (answers ++ answer ∷ []) after
answered_added endpoint first next after [] call [] answer h is = (after, subst (λ (x : Exchange). IsCallAnswered endpoint x call answer after) h.1 is, (refl, refl))
answered_added endpoint first next after [] call (a ∷ answers) answer h is = absurd (let e = h.0 in cc)
answered_added endpoint first next after (c ∷ calls) call [] answer h is = absurd h
answered_added endpoint first next after (c ∷ calls) call (a ∷ answers) answer (x, one, h) is = (x, one, answered_added endpoint x next after calls call answers answer h is)
