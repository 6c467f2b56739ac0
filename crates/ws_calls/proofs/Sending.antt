-- What a send at a session answers.
use Rattle.std.proofs.Common.{◌≡◌, ℕ, List, [], ◌∷◌, Option, ap, sym, refl, subst, OnOk, OnErr, IfErr, Result, Ok, Err}
use Rattle.ws_wire.specs.Frame.{Frame}
use Rattle.ws_session.specs.declared.event.Event.{Event}
use Rattle.ws_session.specs.declared.send_fault.SendFault.{SendFault}
use Rattle.ws_session.specs.declared.send_fault.SendFault.TheVariants as fault
use Rattle.ws_sends.specs.declared.keyed_send.KeyedSend.{KeyedSend}
use Rattle.ws_sends.specs.KeyedSends.{key_in, send_in}
use Rattle.ws_session.specs.Exchange.{Exchange, SessionValue, HasExchanged}
use Rattle.ws_session.specs.Sends.{Send, frame_of, HasSent, IsRefusedBy, IsFirstWrong}
use Rattle.ws_calls.specs.declared.calls.Call.TheVariants as asked
use Rattle.ws_calls.specs.declared.report.CallAnswer.{CallAnswer}
use Rattle.ws_calls.specs.declared.report.CallAnswer.TheVariants.{Sent, Refused}
use Rattle.ws_calls.specs.Calls.{Endpoint, IsStatusAfter, IsSendAnswered, after_sending}
use Rattle.ws_calls.specs.InnerSteps.{Agrees, HasAnsweredSend, HasToldCall, HasToldSend, IsOutcome, IsSendRefusal, endpoint_of, send_answer}

-- the status of what a session has exchanged
pub status_there : (reply : Event → List Frame) (exchange : Exchange) (taken : ℕ) (v : SessionValue) → Agrees exchange taken v → IsStatusAfter (endpoint_of reply v) exchange v.status
status_there reply exchange taken v is = (is.exchanged.events, is.exchanged.has_events, is.exchanged.status)

module _ (reply : Event → List Frame) (exchange : Exchange) (taken : ℕ) (old new : SessionValue) (what : Send) (key put : List ℕ) (is : Agrees exchange taken old) where
  abbrev SendAnswered : CallAnswer → Type 0
  SendAnswered answer = (after : Exchange) × IsSendAnswered (endpoint_of reply old) exchange what key answer after × Agrees after taken new
      × ((new.role ≡ old.role) × (new.limits ≡ old.limits))

  is_done : HasSent old new what key [] put → SendAnswered (Sent put)
  is_done h =
      let t = h exchange is.exchanged in (
        after_sending exchange (frame_of what ∷ []),
        (old.status, status_there reply exchange taken old is, t.may, t.put, refl),
        record { exchanged = t.agrees; count = is.count },
        t.same,
      )

  is_refused : (why : SendFault) → new ≡ old → IsFirstWrong exchange.sent old.status what why → SendAnswered (Refused why)
  is_refused why same first = (
    exchange,
    (old.status, status_there reply exchange taken old is, first, refl),
    record { exchanged = subst (λ (v : SessionValue). HasExchanged v exchange.sent exchange.taken exchange.ended) (sym same) is.exchanged; count = is.count },
    (ap (λ (v : SessionValue). v.role) same, ap (λ (v : SessionValue). v.limits) same),
  )

  at_answer : (a b : CallAnswer) → b ≡ a → SendAnswered a → SendAnswered b
  at_answer a b e h = subst (λ (c : CallAnswer). SendAnswered c) (sym e) h

  -- whichever it is
  pub send_answered : {X : Type 0} (sent : Result X SendFault) (answer : CallAnswer) → OnOk sent (HasSent old new what key [] put) → IfErr sent (IsRefusedBy old what)
      → OnErr sent (new ≡ old) → IsOutcome sent put answer → SendAnswered answer
  send_answered (Ok done) answer h r k e = at_answer (Sent put) answer e (is_done h)
  send_answered (Err fault.NoMemory) answer h r k e = absurd e
  send_answered (Err fault.Over) answer h r k e = at_answer (Refused fault.Over) answer e (is_refused fault.Over k (r exchange is.exchanged))
  send_answered (Err fault.Busy) answer h r k e = at_answer (Refused fault.Busy) answer e (is_refused fault.Busy k (r exchange is.exchanged))
  send_answered (Err fault.NothingOpen) answer h r k e = at_answer (Refused fault.NothingOpen) answer e (is_refused fault.NothingOpen k (r exchange is.exchanged))
  send_answered (Err fault.NotText) answer h r k e = at_answer (Refused fault.NotText) answer e (is_refused fault.NotText k (r exchange is.exchanged))
  send_answered (Err fault.TooLong) answer h r k e = at_answer (Refused fault.TooLong) answer e (is_refused fault.TooLong k (r exchange is.exchanged))
  send_answered (Err fault.BadCode) answer h r k e = at_answer (Refused fault.BadCode) answer e (is_refused fault.BadCode k (r exchange is.exchanged))

unchanged : {X : Type 0} (P Q : Type 0) (sent : Result X SendFault) → OnErr sent (P × Q) → OnErr sent P
unchanged P Q (Ok done) h = tt
unchanged P Q (Err why) h = h.0

-- what a session's send says, put behind nothing
pub has_sent : {X : Type 0} (reply : Event → List Frame) (exchange : Exchange) (taken : ℕ) (old new : SessionValue) (what : Send) (key before put : List ℕ) (sent : Result X SendFault) (answer : CallAnswer)
    → before ≡ [] → OnOk sent (HasSent old new what key before put) → IfErr sent (IsRefusedBy old what) → OnErr sent ((new ≡ old) × (put ≡ before)) → IsOutcome sent put answer
    → Agrees exchange taken old → HasAnsweredSend (endpoint_of reply old) exchange what key answer taken new
has_sent reply exchange taken old new what key before put sent answer empty done refused kept outcome is =
    let g = send_answered reply exchange taken old new what key put is sent answer (subst (λ (l : List ℕ). OnOk sent (HasSent old new what key l put)) empty done) refused (unchanged (new ≡ old) (put ≡ before) sent kept) outcome in
    record { after = g.0; answered = g.1; agrees = g.2; same = g.3 }

-- a call that sends this is told as the send is, whether the run goes on or memory ran out
pub told_send : {X E : Type 0} (endpoint : Endpoint) (exchange : Exchange) (taken : ℕ) (new : SessionValue) (what : KeyedSend) (given : Send) (key before lines : List ℕ) (result : Result X E) → given ≡ send_in what → key ≡ key_in what
    → OnOk result (HasToldSend endpoint exchange given key before taken new lines) → OnOk result (HasToldCall endpoint exchange (asked.Send what) before taken new lines)
told_send endpoint exchange taken new what given key before lines (Ok done) is under h =
    let g = subst (λ (x : Send). HasToldSend endpoint exchange x key before taken new lines) is h in
    let k = subst (λ (x : List ℕ). HasToldSend endpoint exchange (send_in what) x before taken new lines) under g in
    let a = k.answered in
    record { answer = k.answer; answered = record { after = a.after; answered = a.answered; agrees = a.agrees; same = a.same }; told = k.told }
told_send endpoint exchange taken new what given key before lines (Err why) is under h = tt

-- a send that was done or refused is answered as such
pub refusal_outcome : {X : Type 0} (sent : Result X SendFault) (put : List ℕ) (refusal : Option SendFault) → IsSendRefusal sent refusal → IsOutcome sent put (send_answer put refusal)
refusal_outcome (Ok done) put refusal is = ap (send_answer put) is
refusal_outcome (Err fault.NoMemory) put refusal is = absurd is
refusal_outcome (Err fault.Over) put refusal is = ap (send_answer put) is
refusal_outcome (Err fault.Busy) put refusal is = ap (send_answer put) is
refusal_outcome (Err fault.NothingOpen) put refusal is = ap (send_answer put) is
refusal_outcome (Err fault.NotText) put refusal is = ap (send_answer put) is
refusal_outcome (Err fault.TooLong) put refusal is = ap (send_answer put) is
refusal_outcome (Err fault.BadCode) put refusal is = ap (send_answer put) is
