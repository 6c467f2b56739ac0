-- The talks that an echo may have had, call after call.
use Rattle.std.proofs.Common.{◌≡◌, ℕ, ◌+◌, ◌↔◌, true, false, List, [], ◌∷◌, ◌++◌, length, take, drop, refl, sym, ap, ◌∙◌, subst, append-nil, arith, length-append, inl, inr}
use Rattle.std.specs.Prelude.{Option, Some, None, IfSome}
use Rattle.std.specs.List.{last_or}
use Rattle.std.specs.Io.{StartsWith}
use Rattle.std.proofs.lemmas.Bool.{cases_lt}
use Rattle.std.proofs.lemmas.List.{take_all, take-append-le, take-append-drop}
use Rattle.std.proofs.Math.Seq.{take-append_seam, drop-append_seam}
use Rattle.ws_session.specs.declared.event.Event.{Event}
use Rattle.ws_session.specs.declared.event.PlacedEvent.{PlacedEvent}
use Rattle.ws_wire.specs.declared.role.Role.{Role}
use Rattle.ws_wire.specs.declared.role.Role.TheVariants.{Client, Server}
use Rattle.ws_wire.specs.Frame.{Frame}
use Rattle.ws_wire.specs.Header.{IsMaskingKey}
use Rattle.ws_session.specs.Replies.{echo_reply_to, key_for}
use Rattle.ws_session.specs.Exchange.{SessionValue, HasExchanged, is_over}
use Rattle.ws_session.specs.Sends.{most_limits}
use Rattle.ws_session.specs.Taking.{TakesAll, HasTakenAll}
use Rattle.ws_peer.specs.declared.peer.Going.{Going}
use Rattle.ws_peer.specs.declared.peer.Going.TheVariants.{Ended}
use Rattle.ws_peer.specs.Talks.{Entry, Fed, Finished, PeerEnd, Says, fed_in, appended_in}
use Rattle.ws_echo.specs.Echoes.{IsEchoAfter}
use Rattle.ws_echo.specs.EchoLaws.{EchoLaws}
use Rattle.ws_peer.specs.EchoTalks.{EchoPeerValue, HasEchoedTalk, HasTakenSomething, IsAnsweredBy, IsEchoTalk, MayHaveHad}
use Rattle.ws_peer.proofs.Talking.{fed_in-more, appended_in-more}
use Rattle.ws_echo.proofs.Echoing.{Grown, echo_more, echo_new, has_echoed}
use Rattle.ws_echo.specs.InnerEchoing.{piece_call}

-- ---- lists

pub last_more : {A : Type 0} (o : Option A) (xs : List A) (x : A) → last_or o (xs ++ x ∷ []) ≡ Some x
last_more o [] x = refl
last_more o (y ∷ xs) x = last_more (Some y) xs x

-- what begins with some bytes is they and the rest
pub begun_by : (after before : List ℕ) → StartsWith after before → after ≡ before ++ drop (length before) after
begun_by after before h = sym (take-append-drop (length before) after) ∙ ap (λ (l : List ℕ). l ++ drop (length before) after) h

pub begins_with : (after before more : List ℕ) → after ≡ before ++ more → StartsWith after before
begins_with after before more e = ap (λ (l : List ℕ). take (length before) l) e ∙ take-append_seam before more

pub the_rest : (after before more : List ℕ) → after ≡ before ++ more → more ≡ drop (length before) after
the_rest after before more e = sym (ap (λ (l : List ℕ). drop (length before) l) e ∙ drop-append_seam before more)

-- where a key masks, the key with which an end sends does
pub sending_key : (role : Role) (key : List ℕ) → IsMaskingKey (Some key) → IsMaskingKey (key_for role key)
sending_key Client key is = is
sending_key Server key is = tt

-- ---- what a session took, whatever it replies

-- a new session has taken something: nothing
pub taken_nothing : (session : SessionValue) → HasExchanged session [] [] false → HasTakenSomething session
taken_nothing session h = record { exchange = record { sent = []; taken = []; ended = false }; goes_on = refl; exchanged = h }

at_some : {reply : Event → List Frame} (old new : SessionValue) (piece key before after : List ℕ) (told_before told_after : List PlacedEvent) → (h : HasTakenSomething old)
    → (t : HasTakenAll reply old new (piece_call piece key before after) told_before told_after) → TakesAll reply old new h.exchange (piece_call piece key before after) t.told
at_some old new piece key before after told_before told_after h t = t.takes h.exchange h.goes_on h.exchanged

pub taken_more : {reply : Event → List Frame} (old new : SessionValue) (piece key before after : List ℕ) (told_before told_after : List PlacedEvent) → HasTakenSomething old
    → HasTakenAll reply old new (piece_call piece key before after) told_before told_after → HasTakenSomething new
taken_more old new piece key before after told_before told_after h t =
    let s = at_some old new piece key before after told_before told_after h t in
    record { exchange = record { sent = _; taken = _; ended = h.exchange.ended }; goes_on = h.goes_on; exchanged = s.agrees }

-- what is put is put after what was there
pub put_after : {reply : Event → List Frame} (old new : SessionValue) (piece key before after : List ℕ) (told_before told_after : List PlacedEvent) → HasTakenSomething old
    → HasTakenAll reply old new (piece_call piece key before after) told_before told_after → StartsWith after before
put_after old new piece key before after told_before told_after h t =
    let s = at_some old new piece key before after told_before told_after h t in
    begins_with after before _ s.put

-- ---- talks

no_talk : (end : PeerEnd) (session : SessionValue) → EchoLaws → IsEchoAfter end.role most_limits end.key [] false [] session → HasEchoedTalk end []
no_talk end session laws is = record { status = session.status; echoed = has_echoed laws end.role most_limits end.key session [] [] false is; answered = tt }

-- with a new echo nothing was said yet
pub had_nothing : EchoLaws → (peer : EchoPeerValue) (end : PeerEnd) → peer.key ≡ end.key → peer.session.role ≡ end.role → peer.session.limits ≡ most_limits → HasExchanged peer.session [] [] false → MayHaveHad peer end []
had_nothing laws peer end k r l h =
    let is = echo_new laws end.role most_limits end.key peer.session r l h in
    record { key = k; is_echo = λ n less. subst (λ (t : List Entry). HasEchoedTalk end t) (sym (take_all n [] (omega arith))) (no_talk end peer.session laws is); after = is }

-- a talk, and one call more
talk_more : (end : PeerEnd) (talk : List Entry) (entry : Entry) → IsEchoTalk end talk → HasEchoedTalk end (talk ++ entry ∷ []) → IsEchoTalk end (talk ++ entry ∷ [])
talk_more end talk entry so_far now n less =
    let len : length (talk ++ entry ∷ []) ≡ length talk + 1 = length-append talk (entry ∷ []) in
    elim (cases_lt (length talk) n) [
      | inl more ↦ subst (λ (t : List Entry). HasEchoedTalk end t) (sym (take_all n (talk ++ entry ∷ []) (omega (arith, len, more)))) now
      | inr within ↦ subst (λ (t : List Entry). HasEchoedTalk end t) (sym (take-append-le n talk (entry ∷ []) within)) (so_far n within)
    ]

had_more : EchoLaws → (peer : EchoPeerValue) (end : PeerEnd) (talk : List Entry) (entry : Entry) → peer.key ≡ end.key → IsEchoTalk end talk
    → IsEchoAfter end.role most_limits end.key (fed_in (talk ++ entry ∷ [])) false (appended_in (talk ++ entry ∷ [])) peer.session
    → IsAnsweredBy peer.session.status entry → MayHaveHad peer end (talk ++ entry ∷ [])
had_more laws peer end talk entry k so_far is answered = record {
  key = k;
  is_echo = talk_more end talk entry so_far (record {
    status = peer.session.status;
    echoed = has_echoed laws end.role most_limits end.key peer.session (fed_in (talk ++ entry ∷ [])) (appended_in (talk ++ entry ∷ [])) false is;
    answered = subst (λ (o : Option Entry). IfSome o (IsAnsweredBy peer.session.status)) (sym (last_more None talk entry)) answered;
  });
  after = is;
}

-- a piece was fed
had_fed : EchoLaws → (old new : EchoPeerValue) (end : PeerEnd) (talk : List Entry) (piece before after : List ℕ) (told_before told_after : List PlacedEvent) (going : Going)
    → MayHaveHad old end talk → new.key ≡ old.key → HasTakenAll echo_reply_to old.session new.session (piece_call piece old.key before after) told_before told_after
    → (going ≡ Ended) ↔ (is_over new.session.status ≡ true) → MayHaveHad new end (talk ++ Fed piece (drop (length before) after) going ∷ [])
had_fed laws old new end talk piece before after told_before told_after going had same taken answered =
    let under : HasTakenAll echo_reply_to old.session new.session (piece_call piece end.key before after) told_before told_after =
    subst (λ (k : List ℕ). HasTakenAll echo_reply_to old.session new.session (piece_call piece k before after) told_before told_after) had.key taken in
    let g : Grown end.role most_limits end.key (fed_in talk ++ piece) (appended_in talk) before after new.session =
    echo_more laws end.role most_limits end.key old.session new.session (fed_in talk) (appended_in talk) piece before after told_before told_after had.after under in
    let more : g.more ≡ drop (length before) after = the_rest after before g.more g.added in
    let entry = Fed piece (drop (length before) after) going in
    had_more laws new end talk entry (same ∙ had.key) had.is_echo
    (subst (λ (l : List ℕ). IsEchoAfter end.role most_limits end.key (fed_in (talk ++ entry ∷ [])) false l new.session)
    (ap (λ (l : List ℕ). appended_in talk ++ l) more ∙ sym (appended_in-more talk entry))
    (subst (λ (l : List ℕ). IsEchoAfter end.role most_limits end.key l false (appended_in talk ++ g.more) new.session) (sym (fed_in-more talk entry)) g.stands)) answered

pub says_fed : EchoLaws → (old new : EchoPeerValue) (piece before after : List ℕ) (told_before told_after : List PlacedEvent) (going : Going) → HasTakenSomething old.session
    → new.key ≡ old.key → HasTakenAll echo_reply_to old.session new.session (piece_call piece old.key before after) told_before told_after
    → (going ≡ Ended) ↔ (is_over new.session.status ≡ true) → Says MayHaveHad old new (λ appended. Fed piece appended going) before after
says_fed laws old new piece before after told_before told_after going some same taken answered = record {
  appended = drop (length before) after;
  grown = begun_by after before (put_after old.session new.session piece old.key before after told_before told_after some taken);
  leads = λ end talk had. had_fed laws old new end talk piece before after told_before told_after going had same taken answered;
}

-- no more comes
pub had_finished : EchoLaws → (peer : EchoPeerValue) (end : PeerEnd) (talk : List Entry) → MayHaveHad peer end talk → MayHaveHad peer end (talk ++ Finished [] ∷ [])
had_finished laws peer end talk had =
    let entry = Finished [] in
    had_more laws peer end talk entry had.key had.is_echo (subst (λ (l : List ℕ). IsEchoAfter end.role most_limits end.key (fed_in (talk ++ entry ∷ [])) false l peer.session)
    (sym (appended_in-more talk entry ∙ append-nil (appended_in talk)))
    (subst (λ (l : List ℕ). IsEchoAfter end.role most_limits end.key l false (appended_in talk) peer.session) (sym (fed_in-more talk entry ∙ append-nil (fed_in talk))) had.after)) refl
