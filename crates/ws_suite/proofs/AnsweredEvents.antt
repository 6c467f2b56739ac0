-- What a client is told of an echo's answers: the event of each answer, in the order of what it answers.
use Rattle.std.proofs.Common.{◌≡◌, ◌∙◌, ℕ, ◌+◌, ◌*◌, ◌/◌, ◌%◌, Bool, true, false, cond, List, [], ◌∷◌, ◌++◌, flat_map, Some, None, ap, sym, refl, arith, append-nil}
use Rattle.std.specs.Prelude.{◌||◌, not}
use Rattle.std.specs.List.{AllByRecursion}
use Rattle.ws_wire.specs.Frame.{Frame}
use Rattle.ws_session.specs.declared.message.Kind.{Kind}
use Rattle.ws_session.specs.declared.message.Kind.TheVariants.{Text, Binary}
use Rattle.ws_session.specs.declared.event.Event.{Event}
use Rattle.ws_session.specs.declared.event.Event.TheVariants as event
use Rattle.ws_session.specs.declared.status.Status.TheVariants as status
use Rattle.ws_session.specs.Messages.{Groups, before_first, data_frames, groups_of, is_close, is_control, message_of}
use Rattle.ws_session.specs.Events.{event_of, events_after}
use Rattle.ws_session.specs.Replies.{close_code_of, close_frame, control_frame, echo_reply_to, has_close, message_frame, until_close}
use Rattle.ws_session.specs.Exchange.{is_over, status_after, status_before_close, status_of}

-- ---- the end of events

-- a close or a fault
abbrev pub is_end : Event → Bool
is_end event.Part = false
is_end (event.Message message) = false
is_end (event.Ping payload) = false
is_end (event.Pong payload) = false
is_end (event.Close close) = true
is_end (event.Failed reason) = true

abbrev pub has_end : List Event → Bool
has_end [] = false
has_end (e ∷ es) = is_end e || has_end es

-- nothing follows an end
abbrev pub OnlyLastEnds : List Event → Type 0
OnlyLastEnds [] = Unit {0}
OnlyLastEnds (e ∷ es) = (is_end e ≡ true → es ≡ []) × OnlyLastEnds es

pub no_both : (b : Bool) → b ≡ true → b ≡ false → ⊥
no_both b e f = let both : true ≡ false = sym e ∙ f in absurd cc

pub empty_back : {X : Type 0} (xs ys : List X) → xs ++ ys ≡ [] → ys ≡ []
empty_back [] ys e = e
empty_back (x ∷ xs) ys e = absurd cc

pub empty_front : {X : Type 0} (xs ys : List X) → xs ++ ys ≡ [] → xs ≡ []
empty_front [] ys e = refl
empty_front (x ∷ xs) ys e = absurd cc

pub only_front : (es rest : List Event) → OnlyLastEnds (es ++ rest) → OnlyLastEnds es
only_front [] rest h = tt
only_front (e ∷ es) rest h = (λ ends. empty_front es rest (h.0 ends), only_front es rest h.1)

pub only_back : (es rest : List Event) → OnlyLastEnds (es ++ rest) → OnlyLastEnds rest
only_back [] rest h = h
only_back (e ∷ es) rest h = only_back es rest h.1

-- where an end is among the first, nothing follows them
end_stops_by : (b : Bool) (x : Event) (es rest : List Event) → is_end x ≡ b → (is_end x ≡ true → es ++ rest ≡ []) → (has_end es ≡ true → rest ≡ []) → is_end x || has_end es ≡ true → rest ≡ []
end_stops_by true x es rest ends last later e = empty_back es rest (last ends)
end_stops_by false x es rest goes last later e = later (sym (ap (λ b. b || has_end es) goes) ∙ e)

pub end_stops : (es rest : List Event) → OnlyLastEnds (es ++ rest) → has_end es ≡ true → rest ≡ []
end_stops [] rest h e = absurd cc
end_stops (x ∷ es) rest h e = end_stops_by (is_end x) x es rest refl h.0 (λ later. end_stops es rest h.1 later) e

-- a session is over by events exactly where they have an end
going_by : (b : Bool) → is_over (cond b status.Closing status.Open) ≡ false
going_by true = refl
going_by false = refl

going : (sent : List Frame) → is_over (status_before_close sent false) ≡ false
going sent = going_by (has_close sent)

one_is_over : (sent : List Frame) (e : Event) → is_over (status_after sent false (Some e)) ≡ is_end e || false
one_is_over sent event.Part = going sent
one_is_over sent (event.Message message) = going sent
one_is_over sent (event.Ping payload) = going sent
one_is_over sent (event.Pong payload) = going sent
one_is_over sent (event.Close close) = refl
one_is_over sent (event.Failed reason) = refl

over_by : (b over : Bool) (e f : Event) (es : List Event) → is_end e ≡ b → (is_end e ≡ true → f ∷ es ≡ []) → over ≡ has_end (f ∷ es) → over ≡ is_end e || has_end (f ∷ es)
over_by true over e f es ends last later = absurd (let none : f ∷ es ≡ [] = last ends in cc)
over_by false over e f es goes last later = later ∙ sym (ap (λ b. b || has_end (f ∷ es)) goes)

pub over_by_end : (sent : List Frame) (es : List Event) → OnlyLastEnds es → is_over (status_of sent false es) ≡ has_end es
over_by_end sent [] h = going sent
over_by_end sent (e ∷ []) h = one_is_over sent e
over_by_end sent (e ∷ f ∷ es) h = over_by (is_end e) (is_over (status_of sent false (f ∷ es))) e f es refl h.0 (over_by_end sent (f ∷ es) h.1)

-- ---- what is told of an answer

abbrev pub close_with : ℕ → Event
close_with code = event.Close (Some (record { code = code; reason = [] }))

-- the event of what answers an event: a message the message, a ping a pong, a close or a fault a close with its code
abbrev pub event_back : Event → List Event
event_back event.Part = []
event_back (event.Message message) = event.Message message ∷ []
event_back (event.Ping payload) = event.Pong payload ∷ []
event_back (event.Pong payload) = []
event_back (event.Close None) = event.Close None ∷ []
event_back (event.Close (Some close)) = close_with close.code ∷ []
event_back (event.Failed reason) = close_with (close_code_of reason) ∷ []

abbrev pub AllWhole : List Frame → Type 0
AllWhole frames = AllByRecursion (λ (f : Frame). f.fin ≡ true) frames

-- whole frames leave nothing open
abbrev put_first : Bool → Frame → Groups → Groups
put_first b f groups = cond b (record { finished = (f ∷ []) ∷ groups.finished; unfinished = groups.unfinished }) (before_first f groups.finished groups.unfinished)

unfinished_by : (b : Bool) (f : Frame) (fs : List Frame) → f.fin ≡ true → (groups_of fs).unfinished ≡ [] → (groups_of (cond b (f ∷ fs) fs)).unfinished ≡ []
unfinished_by false f fs fin none = none
unfinished_by true f fs fin none = ap (λ b. (put_first b f (groups_of fs)).unfinished) fin ∙ none

nothing_unfinished : (before : List Frame) → AllWhole before → (groups_of (data_frames before)).unfinished ≡ []
nothing_unfinished [] h = refl
nothing_unfinished (f ∷ fs) h = unfinished_by (not (is_control f)) f (data_frames fs) h.0 (nothing_unfinished fs h.1)

message_by : (kind : Kind) (payload : List ℕ) (before : List Frame) → AllWhole before → event_of before (message_frame (record { kind = kind; payload = payload })) ≡ event.Message (record { kind = kind; payload = payload })
message_by Text payload before h =
    ap (λ (l : List Frame). event.Message (message_of (l ++ message_frame (record { kind = Text; payload = payload }) ∷ []))) (nothing_unfinished before h)
    ∙ ap (λ (l : List ℕ). event.Message (record { kind = Text; payload = l })) (append-nil payload)
message_by Binary payload before h =
    ap (λ (l : List Frame). event.Message (message_of (l ++ message_frame (record { kind = Binary; payload = payload }) ∷ []))) (nothing_unfinished before h)
    ∙ ap (λ (l : List ℕ). event.Message (record { kind = Binary; payload = l })) (append-nil payload)

pub not_a_close : (kind : Kind) (payload : List ℕ) → is_close (message_frame (record { kind = kind; payload = payload })) ≡ false
not_a_close Text payload = refl
not_a_close Binary payload = refl

pub close_is : (before : List Frame) (code : ℕ) → event_of before (close_frame code) ≡ close_with code
close_is before code =
    let same : 256 * (code / 256) + code % 256 ≡ code = omega arith in
    ap (λ n. close_with n) same

all_more : (before : List Frame) (f : Frame) → AllWhole before → f.fin ≡ true → AllWhole (before ++ f ∷ [])
all_more [] f h fin = (fin, tt)
all_more (g ∷ before) f h fin = (h.0, all_more before f h.1 fin)

-- what an echo owes that hasn't sent its close
abbrev pub plain_answers : List Event → List Frame
plain_answers events = until_close (flat_map echo_reply_to events)

-- the events of an echo's answers, after whole frames
pub told_back : (before : List Frame) (es : List Event) → AllWhole before → OnlyLastEnds es → events_after before (until_close (flat_map echo_reply_to es)) ≡ flat_map event_back es
told_back before [] h only = refl
told_back before (event.Part ∷ es) h only = told_back before es h only.1
told_back before (event.Pong payload ∷ es) h only = told_back before es h only.1
told_back before (event.Ping payload ∷ es) h only = ap (λ (l : List Event). event.Pong payload ∷ l) (told_back (before ++ control_frame 10 payload ∷ []) es (all_more before (control_frame 10 payload) h refl) only.1)
told_back before (event.Message message ∷ es) h only =
    let f = message_frame message in
    let rest = until_close (flat_map echo_reply_to es) in
    ap (λ b. events_after before (cond b (f ∷ []) (f ∷ rest))) (not_a_close message.kind message.payload)
    ∙ (ap (λ (e : Event). e ∷ events_after (before ++ f ∷ []) rest) (message_by message.kind message.payload before h)
    ∙ ap (λ (l : List Event). event.Message message ∷ l) (told_back (before ++ f ∷ []) es (all_more before f h refl) only.1))
told_back before (event.Close None ∷ es) h only = ap (λ (l : List Event). event.Close None ∷ flat_map event_back l) (sym (only.0 refl))
told_back before (event.Close (Some close) ∷ es) h only =
    ap (λ (e : Event). e ∷ []) (close_is before close.code) ∙ ap (λ (l : List Event). close_with close.code ∷ flat_map event_back l) (sym (only.0 refl))
told_back before (event.Failed reason ∷ es) h only =
    ap (λ (e : Event). e ∷ []) (close_is before (close_code_of reason)) ∙ ap (λ (l : List Event). close_with (close_code_of reason) ∷ flat_map event_back l) (sym (only.0 refl))

-- ---- the frames of the answers

-- a close among the answers answers an end
pub close_answers_end : (es : List Event) → has_close (until_close (flat_map echo_reply_to es)) ≡ true → has_end es ≡ true
close_answers_end [] e = absurd cc
close_answers_end (event.Part ∷ es) e = close_answers_end es e
close_answers_end (event.Pong payload ∷ es) e = close_answers_end es e
close_answers_end (event.Ping payload ∷ es) e = close_answers_end es e
close_answers_end (event.Message message ∷ es) e =
    let f = message_frame message in
    let rest = until_close (flat_map echo_reply_to es) in
    let no = not_a_close message.kind message.payload in
    close_answers_end es (sym (ap (λ b. has_close (cond b (f ∷ []) (f ∷ rest))) no ∙ ap (λ b. b || has_close rest) no) ∙ e)
close_answers_end (event.Close close ∷ es) e = refl
close_answers_end (event.Failed reason ∷ es) e = refl

whole_reply : (e : Event) → AllWhole (echo_reply_to e)
whole_reply event.Part = tt
whole_reply (event.Message message) = (refl, tt)
whole_reply (event.Ping payload) = (refl, tt)
whole_reply (event.Pong payload) = tt
whole_reply (event.Close None) = (refl, tt)
whole_reply (event.Close (Some close)) = (refl, tt)
whole_reply (event.Failed reason) = (refl, tt)

pub all_both : (fs gs : List Frame) → AllWhole fs → AllWhole gs → AllWhole (fs ++ gs)
all_both [] gs h k = k
all_both (f ∷ fs) gs h k = (h.0, all_both fs gs h.1 k)

whole_replies : (es : List Event) → AllWhole (flat_map echo_reply_to es)
whole_replies [] = tt
whole_replies (e ∷ es) = all_both (echo_reply_to e) (flat_map echo_reply_to es) (whole_reply e) (whole_replies es)

whole_by : (b : Bool) (f : Frame) (fs : List Frame) → f.fin ≡ true → AllWhole fs → AllWhole (cond b (f ∷ []) (f ∷ fs))
whole_by true f fs fin h = (fin, tt)
whole_by false f fs fin h = (fin, h)

whole_until : (fs : List Frame) → AllWhole fs → AllWhole (until_close fs)
whole_until [] h = tt
whole_until (f ∷ fs) h = whole_by (is_close f) f (until_close fs) h.0 (whole_until fs h.1)

pub whole_answers : (es : List Event) → AllWhole (until_close (flat_map echo_reply_to es))
whole_answers es = whole_until (flat_map echo_reply_to es) (whole_replies es)

neither_of : (c d : Bool) → c || d ≡ false → (c ≡ false) × (d ≡ false)
neither_of true d e = absurd cc
neither_of false d e = (refl, e)

pub close_after : (before fs : List Frame) → has_close before ≡ false → has_close (before ++ fs) ≡ has_close fs
close_after [] fs e = refl
close_after (g ∷ before) fs e =
    let none = neither_of (is_close g) (has_close before) e in
    ap (λ b. b || has_close (before ++ fs)) none.0 ∙ close_after before fs none.1
