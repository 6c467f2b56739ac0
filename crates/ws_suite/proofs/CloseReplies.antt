-- The reply to a close or a fault is a close with the right code.
use Rattle.std.proofs.Common.{◌≡◌, ◌∙◌, ℕ, ◌||◌, Bool, true, false, List, [], ◌∷◌, ◌++◌}
use Rattle.std.proofs.Common.{flat_map, drop, Option, Some, None, append-nil, ap, sym, refl, subst}
use Rattle.std.proofs.lemmas.Grind.{flat_map-append}
use Rattle.ws_wire.specs.Frame.{Frame}
use Rattle.ws_session.specs.declared.event.Event.{Event}
use Rattle.ws_session.specs.declared.event.Event.TheVariants as event
use Rattle.ws_session.specs.Events.{events_after}
use Rattle.ws_session.specs.Exchange.{code_if_any}
use Rattle.ws_session.specs.Replies.{close_code_of, reply_to}
use Rattle.ws_suite.specs.declared.evidence.Ending.{Ending}
use Rattle.ws_suite.specs.declared.evidence.Ending.TheVariants.{Closed, Failed}
use Rattle.ws_suite.specs.Evidence.{ending_in}
use Rattle.ws_suite.specs.Matching.{IsCodeFor}
use Rattle.ws_suite.proofs.AnsweredEvents.{OnlyLastEnds, close_is, empty_back, has_end, is_end}
use Rattle.ws_suite.proofs.ValidDirections.{later_events}

-- ---- the reply to what ends a connection

-- the code of the close that answers it
abbrev reply_code : Event → Option ℕ
reply_code event.Part = None
reply_code (event.Message message) = None
reply_code (event.Ping payload) = None
reply_code (event.Pong payload) = None
reply_code (event.Close close) = code_if_any close
reply_code (event.Failed reason) = Some (close_code_of reason)

reply_told : (front : List Frame) (last : Event) → is_end last ≡ true → flat_map ending_in (events_after front (reply_to last)) ≡ Closed (reply_code last) ∷ []
reply_told front event.Part e = absurd cc
reply_told front (event.Message message) e = absurd cc
reply_told front (event.Ping payload) e = absurd cc
reply_told front (event.Pong payload) e = absurd cc
reply_told front (event.Close None) e = refl
reply_told front (event.Close (Some close)) e = ap (λ (x : Event). ending_in x ++ []) (close_is front close.code)
reply_told front (event.Failed reason) e = ap (λ (x : Event). ending_in x ++ []) (close_is front (close_code_of reason))

-- and that is right
reply_right : (last : Event) → is_end last ≡ true → (what : Ending) × (ending_in last ≡ what ∷ []) × IsCodeFor what (reply_code last)
reply_right event.Part e = absurd cc
reply_right (event.Message message) e = absurd cc
reply_right (event.Ping payload) e = absurd cc
reply_right (event.Pong payload) e = absurd cc
reply_right (event.Close close) e = (Closed (code_if_any close), refl, refl)
reply_right (event.Failed reason) e = (Failed reason, refl, refl)

-- what stands behind others, where there is one in all, is that
one_behind : (xs : List Ending) (x y : Ending) → xs ++ x ∷ [] ≡ y ∷ [] → x ≡ y
one_behind [] x y e = cc
one_behind (z ∷ xs) x y e = absurd (let none : x ∷ [] ≡ [] = empty_back xs (x ∷ []) (ap (λ (l : List Ending). drop 1 l) e) in cc)

same_code : (a b : Option ℕ) → Closed a ≡ Closed b → a ≡ b
same_code a b e = cc

-- the last of events that end is their end
pub ends_last : (events : List Event) → OnlyLastEnds events → has_end events ≡ true → (before : List Event) × (last : Event) × (events ≡ before ++ last ∷ []) × (is_end last ≡ true)
ends_last [] only e = absurd cc
ends_last (x ∷ events) only e = pick (λ some. ends_last events only.1 some) (is_end x) refl
  where
    pick : (has_end events ≡ true → (before : List Event) × (last : Event) × (events ≡ before ++ last ∷ []) × (is_end last ≡ true))
        → (b : Bool) → is_end x ≡ b → (before : List Event) × (last : Event) × (x ∷ events ≡ before ++ last ∷ []) × (is_end last ≡ true)
    pick behind true ends = ([], x, ap (λ (l : List Event). x ∷ l) (only.0 ends), ends)
    pick behind false goes =
        let later = behind (sym (ap (λ b. b || has_end events) goes) ∙ e) in
        (x ∷ later.0, later.1, ap (λ (l : List Event). x ∷ l) later.2, later.3)

-- what answers what ended the other direction has the right code
pub answered_rightly : (before : List Event) (last : Event) (front : List Frame) (due got : Ending) (code : Option ℕ) → is_end last ≡ true
    → flat_map ending_in (before ++ last ∷ []) ≡ due ∷ [] → flat_map ending_in (events_after [] (front ++ reply_to last)) ≡ got ∷ [] → got ≡ Closed code → IsCodeFor due code
answered_rightly before last front due got code ends dues gots is =
    let right = reply_right last ends in
    let one : flat_map ending_in (last ∷ []) ≡ right.0 ∷ [] = append-nil (ending_in last) ∙ right.1 in
    let due_is : right.0 ≡ due =
    one_behind (flat_map ending_in before) right.0 due (ap (λ (l : List Ending). flat_map ending_in before ++ l) (sym one) ∙ (sym (flat_map-append ending_in before (last ∷ [])) ∙ dues)) in
    let told : flat_map ending_in (events_after [] (front ++ reply_to last)) ≡ flat_map ending_in (events_after [] front) ++ Closed (reply_code last) ∷ [] =
    ap (λ (l : List Event). flat_map ending_in l) (later_events [] front (reply_to last))
    ∙ (flat_map-append ending_in (events_after [] front) (events_after front (reply_to last)) ∙ ap (λ (l : List Ending). flat_map ending_in (events_after [] front) ++ l) (reply_told front last ends)) in
    let got_is : Closed (reply_code last) ≡ got = one_behind (flat_map ending_in (events_after [] front)) (Closed (reply_code last)) got (sym told ∙ gots) in
    let same : reply_code last ≡ code = same_code (reply_code last) code (got_is ∙ is) in
    subst (λ (w : Ending). IsCodeFor w code) due_is (subst (λ (c : Option ℕ). IsCodeFor right.0 c) same right.2)
