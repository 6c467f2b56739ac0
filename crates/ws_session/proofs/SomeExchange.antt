-- A session that agrees with some exchange does so after each call.
use Rattle.std.proofs.Common.{◌≡◌, ℕ, Bool, true, false, List, [], ◌∷◌, ◌++◌, take, Option, Some, None, refl, sym, ap, ◌∙◌, subst}
use Rattle.std.specs.Prelude.{option_to_list, Result, Ok, Err, IfOk, IsOkAnd, OnErr}
use Rattle.ws_wire.specs.Frame.{Frame}
use Rattle.ws_session.specs.declared.event.Event.{Event}
use Rattle.ws_session.specs.declared.event.Event.TheVariants as event
use Rattle.ws_session.specs.declared.event.Taken.{Taken}
use Rattle.ws_session.specs.declared.payload_room.TakenInto.{TakenInto}
use Rattle.ws_session.specs.declared.status.Status.{Status}
use Rattle.ws_session.specs.declared.status.Status.TheVariants as status
use Rattle.ws_session.specs.Replies.{replies_by}
use Rattle.ws_session.specs.Exchange.{SessionValue, HasExchanged, HasSomeExchange, is_over, last_event, status_after}
use Rattle.ws_session.specs.Taking.{TakeCall, HasTaken, TakesNothing}
use Rattle.ws_session.specs.Sends.{Send, HasSent, frame_of}
use Rattle.ws_session.proofs.Calls.{exchange_of}
use Rattle.ws_session.proofs.Over.{ended_is_over}

lost_after : (sent : List Frame) (ended : Bool) (o : Option Event) → is_over (status_after sent ended o) ≡ false → status.Lost ≡ status_after sent true o
lost_after sent ended None going = refl
lost_after sent ended (Some event.Part) going = refl
lost_after sent ended (Some (event.Message m)) going = refl
lost_after sent ended (Some (event.Ping p)) going = refl
lost_after sent ended (Some (event.Pong p)) going = refl
lost_after sent ended (Some (event.Close c)) going = absurd cc
lost_after sent ended (Some (event.Failed r)) going = absurd cc

module _ (old new : SessionValue) where
  pub unchanged : new ≡ old → HasSomeExchange old → HasSomeExchange new
  unchanged same some = subst (λ (v : SessionValue). HasSomeExchange v) (sym same) some

  taken_by_end : (reply : Event → List Frame) (call : TakeCall) (taken : Taken) (sent : List Frame) (s : List ℕ) (ended : Bool) → HasExchanged old sent s ended → HasTaken reply old new call taken → (is_over old.status ≡ true → new ≡ old) → HasSomeExchange new
  taken_by_end reply call taken sent s true h takes over = unchanged (over (ended_is_over old sent s h)) (exchange_of sent s true, h)
  taken_by_end reply call taken sent s false h takes over =
      let t = takes (exchange_of sent s false) refl h in
      (exchange_of (sent ++ replies_by reply sent (option_to_list taken.event)) (s ++ take taken.used call.piece) false, t.agrees)

  pub after_take : (reply : Event → List Frame) (call : TakeCall) (taken : Taken) → HasSomeExchange old → HasTaken reply old new call taken → (is_over old.status ≡ true → new ≡ old) → HasSomeExchange new
  after_take reply call taken some takes over = taken_by_end reply call taken some.0.sent some.0.taken some.0.ended some.1 takes over

  -- whatever the call answers
  pub after_takes : {E : Type 0} (r : Result TakenInto E) (told : Option Event) (reply : Event → List Frame)
      (call : TakeCall) (put : Type 0) → HasSomeExchange old
      → IfOk r (λ taken. HasTaken reply old new call (record { used = taken.used; event = told }))
      → (is_over old.status ≡ true → IsOkAnd r (λ taken. TakesNothing old new call (record { used = taken.used; event = told })))
      → OnErr r ((new ≡ old) × put) → HasSomeExchange new
  after_takes (Ok taken) told reply call put some takes over kept = after_take reply call (record { used = taken.used; event = told }) some takes (λ o. let nothing = over o in nothing.unchanged)
  after_takes (Err refused) told reply call put some takes over kept = unchanged kept.0 some

  pub after_send : (send : Send) (key before after : List ℕ) → HasSomeExchange old → HasSent old new send key before after → HasSomeExchange new
  after_send send key before after some sends =
      let s = sends some.0 some.1 in
      (exchange_of (some.0.sent ++ frame_of send ∷ []) some.0.taken some.0.ended, s.agrees)

  pub after_end : HasSomeExchange old → is_over old.status ≡ false → new ≡ record old { opened = None; partial_frame = []; kept = 0; status = status.Lost } → HasSomeExchange new
  after_end some going same =
      let h = some.1 in
      subst (λ (v : SessionValue). HasSomeExchange v) (sym same) (
        exchange_of some.0.sent some.0.taken true,
        record {
          bytes = h.bytes;
          events = h.events;
          has_events = h.has_events;
          status = lost_after some.0.sent some.0.ended (last_event h.events) (sym (ap (λ (s : Status). is_over s) h.status) ∙ going);
          sending = h.sending;
          taking = λ still. absurd cc;
        },
      )
