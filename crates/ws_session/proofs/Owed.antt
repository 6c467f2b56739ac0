-- When a call that takes bytes may want memory for an answer.
use Rattle.std.proofs.Common.{◌≡◌, ◌≢◌, ℕ, ◌+◌, ◌⊎◌, true, false, Bool, if◌then◌else◌, List, [], ◌∷◌, ◌++◌, length, take, drop, Option, Some, None, refl, sym, ap, ◌∙◌, arith, inl, inr, subst}
use Rattle.std.specs.Prelude.{option_to_list}
use Rattle.std.proofs.lemmas.Bool.{cases_lt}
use Rattle.std.proofs.lemmas.List.{length-append}
use Rattle.std.proofs.Math.Seq.{drop-append_seam}
use Rattle.ws_wire.specs.Header.{AreBytes}
use Rattle.ws_wire.specs.Frame.{Frame}
use Rattle.ws_session.specs.declared.reason.Reason.{Reason}
use Rattle.ws_session.specs.declared.event.Event.{Event}
use Rattle.ws_session.specs.declared.event.Event.TheVariants as event
use Rattle.ws_session.specs.declared.event.Taken.{Taken}
use Rattle.ws_session.specs.declared.replying.Replying.{Replying}
use Rattle.ws_session.specs.declared.session.Answering.TheVariants.{Plain}
use Rattle.ws_session.specs.declared.status.Status.{Status}
use Rattle.ws_session.specs.declared.receiver.under_way.UnderWay.{UnderWay}
use Rattle.ws_session.specs.InnerContent.{Content}
use Rattle.ws_session.specs.Events.{HasEvents}
use Rattle.ws_session.specs.Replies.{replies_by, until_close, has_close}
use Rattle.ws_session.specs.Exchange.{SendingValue, SessionValue, Exchange, HasExchanged, is_over}
use Rattle.ws_session.specs.Taking.{Takes}
use Rattle.ws_session.specs.Memory.{WouldTake, HoldsData, WantsMemory, WantsMemoryToTell}
use Rattle.ws_session.specs.InnerNextFrame.{IsFirstFaultOfNext}
use Rattle.ws_session.specs.InnerInvariant.{CanAnswer, reply_by}
use Rattle.ws_session.specs.InnerReceiving.{AssemblyValue, IsWholeFrame}
use Rattle.ws_session.specs.InnerReplying.{bytes_put}
use Rattle.ws_session.specs.InnerReceiver.{ReceiverValue, receiver_of, session_with, status_by, event_of_kept, opened_by, HasReceived, IsOwed}
use Rattle.ws_session.proofs.Calls.{exchange_of, call_of}
use Rattle.ws_session.proofs.EventsGoOn.{one_events}
use Rattle.ws_session.proofs.Receipts.{received_frame, received_fault}
use Rattle.ws_session.proofs.Statuses.{is_going_on}
use Rattle.ws_session.proofs.StatusReplies.{replies_at}

same_back : (es a b : List Event) → es ++ a ≡ es ++ b → a ≡ b
same_back es a b e = sym (drop-append_seam es a) ∙ ap (λ (l : List Event). drop (length es) l) e ∙ drop-append_seam es b

some_by : (o : Option Event) (e : Event) → option_to_list o ≡ e ∷ [] → o ≡ Some e
some_by None e same = absurd cc
some_by (Some d) e same = cc

no_more : (es : List Event) (e : Event) → es ≡ es ++ e ∷ [] → ⊥
no_more es e same = omega (arith, ap (λ (l : List Event). length l) same, length-append es (e ∷ []))

none_more : (es : List Event) (o : Option Event) → es ++ option_to_list o ≡ es → o ≡ None
none_more es None e = refl
none_more es (Some x) e = absurd (no_more es x (sym e))

-- what would be taken is what a call takes that has an event
module _ (v new : SessionValue) (reply : Event → List Frame) (exchange : Exchange) (key piece before after : List ℕ) (used : ℕ) (e : Event) (h : HasExchanged v exchange.sent exchange.taken exchange.ended) (takes : Takes reply v new (exchange_of exchange.sent exchange.taken exchange.ended) (call_of piece key before after) (record { used = used; event = Some e })) where
  pub would_tell : (t : Taken) → WouldTake v exchange piece t → t.event ≡ Some e
  would_tell t w =
      let es = h.events in
      let has = h.has_events in
      elim (cases_lt t.used used) [
        | inl early ↦
            let none = none_more es t.event (one_events v.role v.limits (exchange.taken ++ take t.used piece) (es ++ option_to_list t.event) es (w.event es has) (takes.least t.used es early has)) in
            absurd (omega (arith, w.whole none, early, takes.used))
        | inr on ↦ elim (cases_lt used t.used) [
          | inl late ↦ absurd (no_more es e (one_events v.role v.limits (exchange.taken ++ take used piece) es (es ++ e ∷ []) (w.least used es late has) (takes.event es has)))
          | inr back ↦
              let same : t.used ≡ used = omega (arith, on, back) in
              let at : HasEvents v.role v.limits (exchange.taken ++ take used piece) (es ++ option_to_list t.event) = subst (λ n. HasEvents v.role v.limits (exchange.taken ++ take n piece) (es ++ option_to_list t.event)) same (w.event es has) in
              some_by t.event e (same_back es (option_to_list t.event) (e ∷ []) (one_events v.role v.limits (exchange.taken ++ take used piece) (es ++ option_to_list t.event) (es ++ e ∷ []) at (takes.event es has)))
        ]
      ]

-- an answer is owed for it
module _ (r : Replying) (old : ReceiverValue) (sending : Option SendingValue) (exchange : Exchange) (piece : List ℕ) (can : CanAnswer r.answering sending) (same_role : r.role ≡ old.role) (going : is_over r.status ≡ false) (h : HasExchanged (session_with old sending r.status) exchange.sent exchange.taken exchange.ended) (bytes : AreBytes piece) where
  owed_by : (t : Taken) (e : Event) → t.event ≡ Some e → IsOwed r e → replies_by (reply_by r.answering) exchange.sent (option_to_list t.event) ≢ []
  owed_by t e is owed none =
      let g = is_going_on (session_with old sending r.status) exchange.sent exchange.taken exchange.ended h going in
      owed (sym (replies_at r.answering exchange.sent r.status e g.status) ∙ ap (λ (o : Option Event). replies_by (reply_by r.answering) exchange.sent (option_to_list o)) (sym is) ∙ none)

  -- such a side as it would be afterwards
  after_of : AssemblyValue → UnderWay → Content → ReceiverValue
  after_of a f x = record { role = old.role; limits = old.limits; opened = opened_by (receiver_of old.role old.limits a f) x; partial_frame = []; assembled = []; came = 0; text = None; frame = f }

  pub tells_frame : (a : AssemblyValue) (f : UnderWay) (used : ℕ) (x : Content) → a.opened ≡ old.opened → IsWholeFrame old.role old.limits a (old.partial_frame ++ piece) (length old.partial_frame + used) x
      → (t : Taken) → WouldTake (session_with old sending r.status) exchange piece t → t.event ≡ Some (event_of_kept (receiver_of old.role old.limits a f) x)
  unfolding after_of
  tells_frame a f used x opened w t would =
      let e = event_of_kept (receiver_of old.role old.limits a f) x in
      let put = bytes_put r (reply_by r.answering e) in
      let received : HasReceived r (receiver_of old.role old.limits a f) (after_of a f x) [] ([] ++ put) e (opened_by (receiver_of old.role old.limits a f) x) = record { role = refl; limits = refl; opened_is = refl; partial = refl; put = refl } in
      let takes = received_frame r old (after_of a f x) sending exchange.sent exchange.taken piece exchange.ended [] ([] ++ put) can same_role going h bytes a f used x e opened w refl received in
      would_tell (session_with old sending r.status) (session_with (after_of a f x) sending (status_by r.status (Some e))) (reply_by r.answering) exchange r.key piece [] ([] ++ put) used e h takes t would

  pub wants_frame : (a : AssemblyValue) (f : UnderWay) (used : ℕ) (x : Content) → a.opened ≡ old.opened → IsWholeFrame old.role old.limits a (old.partial_frame ++ piece) (length old.partial_frame + used) x → IsOwed r (event_of_kept (receiver_of old.role old.limits a f) x)
      → (t : Taken) → WouldTake (session_with old sending r.status) exchange piece t → HoldsData exchange.taken piece t.used ⊎ (replies_by (reply_by r.answering) exchange.sent (option_to_list t.event) ≢ [])
  wants_frame a f used x opened w owed t would = inr (owed_by t (event_of_kept (receiver_of old.role old.limits a f) x) (tells_frame a f used x opened w t would) owed)

  nothing_after : ReceiverValue
  nothing_after = record { role = old.role; limits = old.limits; opened = None; partial_frame = []; assembled = []; came = 0; text = None; frame = old.frame }

  pub tells_fault : (a : AssemblyValue) (f : UnderWay) (used : ℕ) (reason : Reason) → a.opened ≡ old.opened → AreBytes (old.partial_frame ++ piece) → IsFirstFaultOfNext old.role old.limits a.opened (old.partial_frame ++ piece) (length old.partial_frame + used) reason
      → (t : Taken) → WouldTake (session_with old sending r.status) exchange piece t → t.event ≡ Some (event.Failed reason)
  unfolding nothing_after
  tells_fault a f used reason opened are first t would =
      let e = event.Failed reason in
      let put = bytes_put r (reply_by r.answering e) in
      let received : HasReceived r (receiver_of old.role old.limits a f) nothing_after [] ([] ++ put) e None = record { role = refl; limits = refl; opened_is = refl; partial = refl; put = refl } in
      let takes = received_fault r old nothing_after sending exchange.sent exchange.taken piece exchange.ended [] ([] ++ put) can same_role going h bytes a f used reason e opened are first refl received in
      would_tell (session_with old sending r.status) (session_with nothing_after sending (status_by r.status (Some e))) (reply_by r.answering) exchange r.key piece [] ([] ++ put) used e h takes t would

  pub wants_fault : (a : AssemblyValue) (f : UnderWay) (used : ℕ) (reason : Reason) → a.opened ≡ old.opened → AreBytes (old.partial_frame ++ piece) → IsFirstFaultOfNext old.role old.limits a.opened (old.partial_frame ++ piece) (length old.partial_frame + used) reason → IsOwed r (event.Failed reason)
      → (t : Taken) → WouldTake (session_with old sending r.status) exchange piece t → HoldsData exchange.taken piece t.used ⊎ (replies_by (reply_by r.answering) exchange.sent (option_to_list t.event) ≢ [])
  wants_fault a f used reason opened are first owed t would = inr (owed_by t (event.Failed reason) (tells_fault a f used reason opened are first t would) owed)

-- ---- a call that keeps the events

none_of_none : (b : Bool) → (if b then [] else until_close []) ≡ []
none_of_none true = refl
none_of_none false = refl

some_is_not : (o : Option Event) (e : Event) → o ≡ Some e → o ≢ None
some_is_not o e is none = let no : Some e ≡ None = sym is ∙ none in absurd cc

-- an answer is owed for an event alone
no_replies : (reply : Event → List Frame) (sent : List Frame) (o : Option Event) → o ≡ None → replies_by reply sent (option_to_list o) ≡ []
no_replies reply sent None none = none_of_none (has_close sent)
no_replies reply sent (Some e) none = absurd cc

pub wants_to_tell : (reply : Event → List Frame) (v : SessionValue) (piece : List ℕ) → WantsMemory reply v piece → WantsMemoryToTell v piece
wants_to_tell reply v piece wants exchange unended h t would = elim (wants exchange unended h t would) [ inl held ↦ inl held | inr owed ↦ inr (λ none. owed (no_replies reply exchange.sent t.event none)) ]

-- so it is where the piece holds a whole frame or a fault
module _ (old : ReceiverValue) (sending : Option SendingValue) (status : Status) (going : is_over status ≡ false) (piece : List ℕ) (bytes : AreBytes piece) where
  plain : Replying
  plain = record { role = old.role; status = status; answering = Plain; key = [] }

  pub frame_tells : (a : AssemblyValue) (f : UnderWay) (used : ℕ) (x : Content) → a.opened ≡ old.opened → IsWholeFrame old.role old.limits a (old.partial_frame ++ piece) (length old.partial_frame + used) x → WantsMemoryToTell (session_with old sending status) piece
  unfolding plain
  frame_tells a f used x opened w exchange unended h t would = inr (some_is_not t.event (event_of_kept (receiver_of old.role old.limits a f) x) (tells_frame plain old sending exchange piece tt refl going h bytes a f used x opened w t would))

  pub fault_tells : (a : AssemblyValue) (f : UnderWay) (used : ℕ) (reason : Reason) → a.opened ≡ old.opened → AreBytes (old.partial_frame ++ piece) → IsFirstFaultOfNext old.role old.limits a.opened (old.partial_frame ++ piece) (length old.partial_frame + used) reason → WantsMemoryToTell (session_with old sending status) piece
  unfolding plain
  fault_tells a f used reason opened are first exchange unended h t would = inr (some_is_not t.event (event.Failed reason) (tells_fault plain old sending exchange piece tt refl going h bytes a f used reason opened are first t would))
