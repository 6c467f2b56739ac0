-- The frames of its own that an application sends, one after the other.
use Rattle.std.proofs.Common.{◌≡◌, ◌∙◌, ℕ, Bool, true, false, ◌||◌, List, [], ◌∷◌, ◌++◌, map, Result, Ok, Err, ap, sym, refl, subst, append_assoc, append-nil, inl, inr}
use Rattle.std.specs.Prelude.{OnOk, OnErr, IfErr}
use Rattle.std.proofs.lemmas.List.{map-append}
use Rattle.std.proofs.lemmas.Grind.{flat_map-append}
use Rattle.ws_wire.specs.declared.role.Role.{Role}
use Rattle.ws_wire.specs.declared.role.Role.TheVariants.{Client, Server}
use Rattle.ws_wire.specs.Header.{is_masked}
use Rattle.ws_wire.specs.Frame.{Frame, KeyedFrame, FitsTheLayout, frame_bytes, stream_bytes}
use Rattle.ws_wire.proofs.Splits.{all-append}
use Rattle.ws_session.specs.declared.event.Event.{Event}
use Rattle.ws_session.specs.declared.message.Kind.TheVariants as kind
use Rattle.ws_session.specs.declared.send_fault.SendFault.{SendFault}
use Rattle.ws_session.specs.declared.send_fault.SendFault.TheVariants.{Over, Busy, NothingOpen, NotText, TooLong, BadCode, NoMemory}
use Rattle.ws_session.specs.declared.status.Status.{Status}
use Rattle.ws_session.specs.Events.{HasEvents}
use Rattle.ws_session.specs.Messages.{is_close}
use Rattle.ws_session.specs.Exchange.{SessionValue, Exchange, HasExchanged, HasSomeExchange, status_of}
use Rattle.ws_session.specs.Faults.{KeysFit, expects_key, frames_of}
use Rattle.ws_session.specs.Replies.{has_close, key_for, under_key}
use Rattle.ws_session.specs.Sends.{Send, HasSent, HasTextReason, IsFirstWrong, IsRefusal, IsRefusedBy, MaySend, Sends, frame_of, most_limits}
use Rattle.ws_session.specs.Sends as send
use Rattle.ws_session.specs.Validity.{AreValidFrames}
use Rattle.ws_sends.specs.declared.keyed_send.KeyedSend.{KeyedSend}
use Rattle.ws_sends.specs.KeyedSends.{key_in, send_in}
use Rattle.ws_suite.specs.Evidence.{other_role}
use Rattle.ws_peer.specs.Apps.{AreFramesOfSends, SendsOwn, has_close_send, is_close_send}
use Rattle.ws_peer.specs.EchoTalks.{HasTakenSomething}
use Rattle.ws_peer.specs.InnerAppLaws.{IsDoneOrRefused, IsNotForMemory, SendLaws}
use Rattle.ws_echo.proofs.Echoing.{at_equal}

-- ---- closes among frames

or_assoc : (a b c : Bool) → a || (b || c) ≡ (a || b) || c
or_assoc true b c = refl
or_assoc false b c = refl

pub has_close-append : (xs ys : List Frame) → has_close (xs ++ ys) ≡ has_close xs || has_close ys
has_close-append [] ys = refl
has_close-append (x ∷ xs) ys = ap (λ b. is_close x || b) (has_close-append xs ys) ∙ or_assoc (is_close x) (has_close xs) (has_close ys)

-- of two neither
pub none_left : (a b : Bool) → a || b ≡ false → a ≡ false
none_left true b e = e
none_left false b e = refl

pub none_right : (a b : Bool) → a || b ≡ false → b ≡ false
none_right true b e = absurd cc
none_right false b e = e

pub neither : (a b : Bool) → a ≡ false → b ≡ false → a || b ≡ false
neither a b e f = ap (λ x. x || b) e ∙ f

-- the frame of a send is a close where the send is one
close_sent : (s : Send) → is_close (frame_of s) ≡ is_close_send s
close_sent (send.Begin kind.Text payload fin) = refl
close_sent (send.Begin kind.Binary payload fin) = refl
close_sent (send.More payload fin) = refl
close_sent (send.Ping payload) = refl
close_sent (send.Pong payload) = refl
close_sent (send.Close close) = refl

-- ---- keys

pub key_fits : (role : Role) (key : List ℕ) → is_masked (key_for role key) ≡ expects_key (other_role role)
key_fits Client key = refl
key_fits Server key = refl

pub keys_fit : (role : Role) (key : List ℕ) (frames : List Frame) → KeysFit (other_role role) (map (under_key role key) frames)
keys_fit role key [] = tt
keys_fit role key (frame ∷ frames) = (key_fits role key, keys_fit role key frames)

pub frames_keyed : (role : Role) (key : List ℕ) (frames : List Frame) → frames_of (map (under_key role key) frames) ≡ frames
frames_keyed role key [] = refl
frames_keyed role key (frame ∷ frames) = ap (λ (l : List Frame). frame ∷ l) (frames_keyed role key frames)

pub frames_both : (xs ys : List KeyedFrame) → frames_of (xs ++ ys) ≡ frames_of xs ++ frames_of ys
frames_both xs ys = map-append (λ (x : KeyedFrame). x.frame) xs ys

pub stream_both : (xs ys : List KeyedFrame) → stream_bytes (xs ++ ys) ≡ stream_bytes xs ++ stream_bytes ys
stream_both xs ys = flat_map-append frame_bytes xs ys

-- ---- frames by sends

-- those of some sends, and then those of others
sent_both : (role : Role) (events : List Event) (sent : List Frame) (xs ys : List KeyedSend) (fs gs : List KeyedFrame) → AreFramesOfSends role events sent xs fs → AreFramesOfSends role events (sent ++ frames_of fs) ys gs
    → AreFramesOfSends role events sent (xs ++ ys) (fs ++ gs)
sent_both role events sent [] ys fs gs none later =
    subst (λ (l : List KeyedFrame). AreFramesOfSends role events sent ys (l ++ gs)) (sym none)
    (subst (λ (l : List Frame). AreFramesOfSends role events l ys gs) (ap (λ (l : List KeyedFrame). sent ++ frames_of l) none ∙ append-nil sent) later)
sent_both role events sent (x ∷ xs) ys fs gs (inl (fault, wrong, rest)) later = inl (fault, wrong, sent_both role events sent xs ys fs gs rest later)
sent_both role events sent (x ∷ xs) ys fs gs (inr (may, (more, is, rest))) later =
    let one = frame_of (send_in x) in
    let same : (sent ++ one ∷ []) ++ frames_of more ≡ sent ++ frames_of fs = append_assoc sent (one ∷ []) (frames_of more) ∙ ap (λ (l : List KeyedFrame). sent ++ frames_of l) (sym is) in
    inr (may, (more ++ gs, ap (λ (l : List KeyedFrame). l ++ gs) is, sent_both role events (sent ++ one ∷ []) xs ys more gs rest (subst (λ (l : List Frame). AreFramesOfSends role events l ys gs) (sym same) later)))

-- none is a close where no send is one
pub no_close_sent : (role : Role) (events : List Event) (sent : List Frame) (sends : List KeyedSend) (own : List KeyedFrame) → AreFramesOfSends role events sent sends own → has_close_send sends ≡ false → has_close (frames_of own) ≡ false
no_close_sent role events sent [] own none free = ap (λ (l : List KeyedFrame). has_close (frames_of l)) none
no_close_sent role events sent (x ∷ sends) own (inl (fault, wrong, rest)) free = no_close_sent role events sent sends own rest (none_right (is_close_send (send_in x)) (has_close_send sends) free)
no_close_sent role events sent (x ∷ sends) own (inr (may, (more, is, rest))) free =
    let one = frame_of (send_in x) in
    ap (λ (l : List KeyedFrame). has_close (frames_of l)) is
    ∙ neither (is_close one) (has_close (frames_of more)) (close_sent (send_in x) ∙ none_left (is_close_send (send_in x)) (has_close_send sends) free)
    (no_close_sent role events (sent ++ one ∷ []) sends more rest (none_right (is_close_send (send_in x)) (has_close_send sends) free))

-- ---- a session's sends

abbrev exchange_of : List Frame → List ℕ → Exchange
exchange_of sent taken = record { sent = sent; taken = taken; ended = false }

abbrev after_own : Exchange → List KeyedFrame → Exchange
after_own exchange own = record { sent = exchange.sent ++ frames_of own; taken = exchange.taken; ended = exchange.ended }

-- nothing is sent
pub sends_none : (session : SessionValue) (bytes : List ℕ) → SendsOwn [] session session bytes bytes
sends_none session bytes = record {
  own = [];
  layout = tt;
  keys = tt;
  are_sent = λ sent taken events had has. refl;
  put = sym (append-nil bytes);
  agrees = λ exchange h. subst (λ (l : List Frame). HasExchanged session l exchange.taken exchange.ended) (sym (append-nil exchange.sent)) h;
  valid = λ exchange h v. subst (λ (l : List Frame). AreValidFrames most_limits l) (sym (append-nil exchange.sent)) v;
  same = (refl, refl);
}

-- its status, by the events that it was told
status_told : SendLaws → (session : SessionValue) (sent : List Frame) (taken : List ℕ) (events : List Event) → HasExchanged session sent taken false → HasEvents session.role session.limits taken events
    → session.status ≡ status_of sent false events
status_told laws session sent taken events had has = had.status ∙ ap (λ (l : List Event). status_of sent false l) (laws.one_list session.role session.limits taken had.events events had.has_events has)

-- one is sent
pub sends_one : SendLaws → (old new : SessionValue) (what : KeyedSend) (before after : List ℕ) → HasSomeExchange old → HasSent old new (send_in what) (key_in what) before after → HasTextReason (send_in what)
    → SendsOwn (what ∷ []) old new before after
sends_one laws old new what before after some sent text =
    let s = send_in what in
    let one : KeyedFrame = under_key old.role (key_in what) (frame_of s) in
    let here : Sends old new some.0 s (key_in what) before after = sent some.0 some.1 in
    record {
      own = one ∷ [];
      layout = (here.can, tt);
      keys = (key_fits old.role (key_in what), tt);
      are_sent = λ frames taken events had has.
          inr (subst (λ (status : Status). MaySend frames status s) (status_told laws old frames taken events had has) (sent (exchange_of frames taken) had).may, ([], refl, refl));
      put = here.put ∙ ap (λ (l : List ℕ). before ++ l) (sym (append-nil (frame_bytes one)));
      agrees = λ exchange h. (sent exchange h).agrees;
      valid = λ exchange h v. laws.valid exchange.sent old.status s v text (sent exchange h).may;
      same = here.same;
    }

-- what is refused but for memory is wrong
first_wrong : (sent : List Frame) (status : Status) (s : Send) (fault : SendFault) → IsNotForMemory fault → IsRefusal sent status s fault → IsFirstWrong sent status s fault
first_wrong sent status s Over is h = h
first_wrong sent status s Busy is h = h
first_wrong sent status s NothingOpen is h = h
first_wrong sent status s NotText is h = h
first_wrong sent status s TooLong is h = h
first_wrong sent status s BadCode is h = h
first_wrong sent status s NoMemory is h = absurd is

-- one is refused, and nothing changes
pub sends_refused : SendLaws → (old new : SessionValue) (what : KeyedSend) (fault : SendFault) (before after : List ℕ) → IsRefusedBy old (send_in what) fault → IsNotForMemory fault → new ≡ old → after ≡ before
    → SendsOwn (what ∷ []) old new before after
unfolding sends_none
sends_refused laws old new what fault before after refused other same put =
    let none = sends_none old before in
    subst (λ (s : SessionValue). SendsOwn (what ∷ []) old s before after) (sym same)
    (subst (λ (l : List ℕ). SendsOwn (what ∷ []) old old before l) (sym put)
    (record {
      own = [];
      layout = tt;
      keys = tt;
      are_sent = λ frames taken events had has.
          let first = first_wrong frames old.status (send_in what) fault other (refused (exchange_of frames taken) had) in
          inl (fault, subst (λ (status : Status). IsFirstWrong frames status (send_in what) fault) (status_told laws old frames taken events had has) first, refl);
      put = none.put;
      agrees = none.agrees;
      valid = none.valid;
      same = none.same;
    }))

-- whichever it is
pub sends_told : SendLaws → {X : Type 0} (result : Result X SendFault) (old new : SessionValue) (what : KeyedSend) (before after : List ℕ) → HasSomeExchange old → OnOk result (HasSent old new (send_in what) (key_in what) before after)
    → IfErr result (IsRefusedBy old (send_in what)) → OnErr result ((new ≡ old) × (after ≡ before)) → OnOk result (HasTextReason (send_in what)) → IsDoneOrRefused result → SendsOwn (what ∷ []) old new before after
sends_told laws (Ok done) old new what before after some sent refused kept text is = sends_one laws old new what before after some sent text
sends_told laws (Err why) old new what before after some sent refused kept text is = sends_refused laws old new what why before after refused is kept.0 kept.1

-- some, and then others
pub sends_both : (xs ys : List KeyedSend) (old mid new : SessionValue) (before middle after : List ℕ) → SendsOwn xs old mid before middle → SendsOwn ys mid new middle after → SendsOwn (xs ++ ys) old new before after
sends_both xs ys old mid new before middle after a b =
    let frames : frames_of (a.own ++ b.own) ≡ frames_of a.own ++ frames_of b.own = frames_both a.own b.own in
    let all = λ (sent : List Frame). append_assoc sent (frames_of a.own) (frames_of b.own) ∙ ap (λ (l : List Frame). sent ++ l) (sym frames) in
    record {
      own = a.own ++ b.own;
      layout = all-append FitsTheLayout a.own b.own a.layout b.layout;
      keys = all-append (λ (x : KeyedFrame). is_masked x.key ≡ expects_key (other_role old.role)) a.own b.own a.keys (subst (λ (r : Role). KeysFit (other_role r) b.own) a.same.0 b.keys);
      are_sent = λ sent taken events had has.
          let here = b.are_sent (sent ++ frames_of a.own) taken events (a.agrees (exchange_of sent taken) had) (at_equal old.role mid.role old.limits mid.limits (sym a.same.0) (sym a.same.1) taken events has) in
          sent_both old.role events sent xs ys a.own b.own (a.are_sent sent taken events had has) (subst (λ (r : Role). AreFramesOfSends r events (sent ++ frames_of a.own) ys b.own) a.same.0 here);
      put =
          b.put ∙ (ap (λ (l : List ℕ). l ++ stream_bytes b.own) a.put ∙ (append_assoc before (stream_bytes a.own) (stream_bytes b.own)
          ∙ ap (λ (l : List ℕ). before ++ l) (sym (stream_both a.own b.own))));
      agrees = λ exchange h. subst (λ (l : List Frame). HasExchanged new l exchange.taken exchange.ended) (all exchange.sent) (b.agrees (after_own exchange a.own) (a.agrees exchange h));
      valid = λ exchange h v. subst (λ (l : List Frame). AreValidFrames most_limits l) (all exchange.sent) (b.valid (after_own exchange a.own) (a.agrees exchange h) (a.valid exchange h v));
      same = (b.same.0 ∙ a.same.0, b.same.1 ∙ a.same.1);
    }

-- what was taken stays taken
pub still_taken : (sends : List KeyedSend) (old new : SessionValue) (before after : List ℕ) → SendsOwn sends old new before after → HasTakenSomething old → HasTakenSomething new
still_taken sends old new before after h some = record { exchange = after_own some.exchange h.own; goes_on = some.goes_on; exchanged = h.agrees some.exchange some.exchanged }
