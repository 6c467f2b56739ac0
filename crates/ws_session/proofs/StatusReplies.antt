-- What is owed for one event, by the status: the status, the open message and what is kept of it after that.
use Rattle.std.proofs.Common.{◌≡◌, ℕ, Bool, true, false, cond, List, [], ◌∷◌, ◌++◌, Option, Some, None, refl, sym, ap, ◌∙◌, append_assoc, subst}
use Rattle.std.specs.List.{AllByRecursion, flat_map}
use Rattle.std.proofs.lemmas.List.{append-nil}
use Rattle.ws_wire.specs.Frame.{Frame}
use Rattle.ws_session.specs.declared.event.Event.{Event}
use Rattle.ws_session.specs.declared.event.Event.TheVariants as event
use Rattle.ws_session.specs.Messages.{is_control, is_close, open_message_of}
use Rattle.ws_session.specs.InnerNextFrame.{message_with, status_with, due_at}
use Rattle.std.specs.Prelude.{◌||◌}
use Rattle.ws_session.specs.declared.status.Status.{Status}
use Rattle.ws_session.specs.declared.status.Status.TheVariants as status
use Rattle.ws_session.specs.declared.message.Kind.{Kind}
use Rattle.ws_session.specs.declared.message.Kind.TheVariants.{Text, Binary}
use Rattle.ws_session.specs.declared.message.Message.{Message}
use Rattle.ws_session.specs.declared.session.Answering.{Answering}
use Rattle.ws_session.specs.declared.session.Answering.TheVariants.{Plain, Echoing}
use Rattle.ws_session.specs.Replies.{control_frame, message_frame, until_close, has_close, replies_by}
use Rattle.ws_session.specs.InnerInvariant.{reply_to_message, reply_by, CanAnswer}
use Rattle.ws_session.specs.Exchange.{SendingValue, IsSendingOf, status_before_close, status_after}
use Rattle.ws_session.proofs.OpenMessage.{open_snoc}

-- ---- replies

or_false : (b : Bool) → b ≡ false → b || false ≡ false
or_false b e = ap (λ c. c || false) e

or_true : (b : Bool) → b || true ≡ true
or_true true = refl
or_true false = refl

pub closes_snoc : (sent : List Frame) (f : Frame) → is_close f ≡ true → has_close (sent ++ f ∷ []) ≡ true
closes_snoc [] f e = ap (λ b. b || false) e
closes_snoc (g ∷ sent) f e = ap (λ b. is_close g || b) (closes_snoc sent f e) ∙ or_true (is_close g)

pub has_close_snoc : (sent : List Frame) (f : Frame) → is_close f ≡ false → has_close (sent ++ f ∷ []) ≡ has_close sent
has_close_snoc [] f e = or_false (is_close f) e
has_close_snoc (g ∷ sent) f e = ap (λ b. is_close g || b) (has_close_snoc sent f e)

not_a_close : (kind : Kind) (payload : List ℕ) → is_close (message_frame (record { kind = kind; payload = payload })) ≡ false
not_a_close Text payload = refl
not_a_close Binary payload = refl

no_control : (kind : Kind) (payload : List ℕ) → is_control (message_frame (record { kind = kind; payload = payload })) ≡ false
no_control Text payload = refl
no_control Binary payload = refl

one_message : (a : Answering) (m : Message) → until_close (reply_to_message a m ++ []) ≡ reply_to_message a m
one_message Plain m = refl
one_message Echoing m = ap (λ b. cond b (message_frame m ∷ []) (message_frame m ∷ [])) (not_a_close m.kind m.payload)

one_reply : (a : Answering) (e : Event) → until_close (flat_map (reply_by a) (e ∷ [])) ≡ reply_by a e
one_reply a event.Part = refl
one_reply a (event.Message m) = one_message a m
one_reply a (event.Ping p) = refl
one_reply a (event.Pong p) = refl
one_reply a (event.Close None) = refl
one_reply a (event.Close (Some c)) = refl
one_reply a (event.Failed r) = refl

replies_when : (b : Bool) (a : Answering) (sent : List Frame) (s : Status) (e : Event) → has_close sent ≡ b → s ≡ cond b status.Closing status.Open → replies_by (reply_by a) sent (e ∷ []) ≡ due_at s (reply_by a e)
replies_when true a sent s e c is = ap (λ d. cond d [] (until_close (flat_map (reply_by a) (e ∷ [])))) c ∙ ap (λ (t : Status). due_at t (reply_by a e)) (sym is)
replies_when false a sent s e c is = ap (λ d. cond d [] (until_close (flat_map (reply_by a) (e ∷ [])))) c ∙ one_reply a e ∙ ap (λ (t : Status). due_at t (reply_by a e)) (sym is)

-- what a session owes for one event goes by its status
pub replies_at : (a : Answering) (sent : List Frame) (s : Status) (e : Event) → s ≡ status_before_close sent false → replies_by (reply_by a) sent (e ∷ []) ≡ due_at s (reply_by a e)
replies_at a sent s e is = replies_when (has_close sent) a sent s e refl is

nothing_either : (b : Bool) (none : List Frame) → cond b none none ≡ none
nothing_either true none = refl
nothing_either false none = refl

pub no_replies : (reply : Event → List Frame) (sent : List Frame) → replies_by reply sent [] ≡ []
no_replies reply sent = nothing_either (has_close sent) []

-- the frames that are owed are control frames, but for a message that is sent back
abbrev pub AllControl : List Frame → Type 0
AllControl fs = AllByRecursion (λ (f : Frame). is_control f ≡ true) fs

-- control frames leave the open message
pub open_control : (fs gs : List Frame) → AllControl gs → open_message_of (fs ++ gs) ≡ open_message_of fs
open_control fs [] h = ap (λ (l : List Frame). open_message_of l) (append-nil fs)
open_control fs (g ∷ gs) h =
    ap (λ (l : List Frame). open_message_of l) (sym (append_assoc fs (g ∷ []) gs)) ∙ open_control (fs ++ g ∷ []) gs h.1 ∙ open_snoc fs g
    ∙ ap (λ b. cond b (open_message_of fs) (cond g.fin None (Some (message_with (open_message_of fs) g)))) h.0

at_status : (P : List Frame → Type 0) (s : Status) (fs : List Frame) → P [] → P fs → P (due_at s fs)
at_status P status.Open fs none some = some
at_status P status.Closing fs none some = none
at_status P (status.Clean c) fs none some = some
at_status P (status.Failed r) fs none some = some
at_status P status.Lost fs none some = some

-- with frames of which none is a close, no close is sent
leaves_close : (sent : List Frame) (s : Status) (f : Frame) → is_close f ≡ false → has_close (sent ++ due_at s (f ∷ [])) ≡ has_close sent
leaves_close sent s f e = at_status (λ (fs : List Frame). has_close (sent ++ fs) ≡ has_close sent) s (f ∷ []) (ap (λ (l : List Frame). has_close l) (append-nil sent)) (has_close_snoc sent f e)

nothing_owed : (sent : List Frame) (s : Status) → has_close (sent ++ due_at s []) ≡ has_close sent
nothing_owed sent s = at_status (λ (fs : List Frame). has_close (sent ++ fs) ≡ has_close sent) s [] (ap (λ (l : List Frame). has_close l) (append-nil sent)) (ap (λ (l : List Frame). has_close l) (append-nil sent))

message_leaves : (a : Answering) (sent : List Frame) (s : Status) (m : Message) → has_close (sent ++ due_at s (reply_to_message a m)) ≡ has_close sent
message_leaves Plain sent s m = nothing_owed sent s
message_leaves Echoing sent s m = leaves_close sent s (message_frame m) (not_a_close m.kind m.payload)

still : (sent more : List Frame) (s : Status) → s ≡ status_before_close sent false → has_close more ≡ has_close sent → status_before_close more false ≡ s
still sent more s is same = ap (λ b. cond b status.Closing status.Open) same ∙ sym is

-- the status after an event, of what was sent before and what is owed for it
pub status_after_event : (a : Answering) (sent : List Frame) (s : Status) (e : Event) → s ≡ status_before_close sent false → status_after (sent ++ due_at s (reply_by a e)) false (Some e) ≡ status_with s e
status_after_event a sent s event.Part is = still sent (sent ++ due_at s []) s is (nothing_owed sent s)
status_after_event a sent s (event.Message m) is = still sent (sent ++ due_at s (reply_to_message a m)) s is (message_leaves a sent s m)
status_after_event a sent s (event.Pong p) is = still sent (sent ++ due_at s []) s is (nothing_owed sent s)
status_after_event a sent s (event.Ping p) is = still sent (sent ++ due_at s (control_frame 10 p ∷ [])) s is (leaves_close sent s (control_frame 10 p) refl)
status_after_event a sent s (event.Close c) is = refl
status_after_event a sent s (event.Failed r) is = refl

-- ---- the sending side

abbrev IsSendingAfter : List Frame → Option SendingValue → List Frame → Type 0
IsSendingAfter sent sending fs = IsSendingOf (open_message_of (sent ++ fs)) sending

control_keeps : (sent : List Frame) (sending : Option SendingValue) (fs : List Frame) → AllControl fs → IsSendingOf (open_message_of sent) sending → IsSendingAfter sent sending fs
control_keeps sent sending fs all is = subst (λ (m : Option Message). IsSendingOf m sending) (sym (open_control sent fs all)) is

-- where nothing is kept, nothing is open
pub nothing_open : (m : Option Message) → IsSendingOf m None → m ≡ None
nothing_open None is = refl
nothing_open (Some m) is = absurd is

message_keeps : (a : Answering) (m : Message) (sent : List Frame) (sending : Option SendingValue) → CanAnswer a sending → IsSendingOf (open_message_of sent) sending → IsSendingAfter sent sending (reply_to_message a m)
message_keeps Plain m sent sending can is = control_keeps sent sending [] tt is
message_keeps Echoing m sent sending can is =
    let none : open_message_of sent ≡ None = nothing_open (open_message_of sent) (subst (λ (o : Option SendingValue). IsSendingOf (open_message_of sent) o) can is) in
    let after : open_message_of (sent ++ message_frame m ∷ []) ≡ None = open_snoc sent (message_frame m) ∙ ap (λ b. cond b (open_message_of sent) None) (no_control m.kind m.payload) in
    subst (λ (o : Option Message). IsSendingOf o sending) (none ∙ sym after) is

reply_keeps : (a : Answering) (e : Event) (sent : List Frame) (sending : Option SendingValue) → CanAnswer a sending → IsSendingOf (open_message_of sent) sending → IsSendingAfter sent sending (reply_by a e)
reply_keeps a event.Part sent sending can is = control_keeps sent sending [] tt is
reply_keeps a (event.Message m) sent sending can is = message_keeps a m sent sending can is
reply_keeps a (event.Ping p) sent sending can is = control_keeps sent sending (control_frame 10 p ∷ []) (refl, tt) is
reply_keeps a (event.Pong p) sent sending can is = control_keeps sent sending [] tt is
reply_keeps a (event.Close None) sent sending can is = control_keeps sent sending _ (refl, tt) is
reply_keeps a (event.Close (Some c)) sent sending can is = control_keeps sent sending _ (refl, tt) is
reply_keeps a (event.Failed r) sent sending can is = control_keeps sent sending _ (refl, tt) is

-- replies leave what is kept of the open message
pub owed_keeps : (a : Answering) (s : Status) (e : Event) (sent : List Frame) (sending : Option SendingValue) → CanAnswer a sending → IsSendingOf (open_message_of sent) sending → IsSendingAfter sent sending (due_at s (reply_by a e))
owed_keeps a s e sent sending can is = at_status (IsSendingAfter sent sending) s (reply_by a e) (control_keeps sent sending [] tt is) (reply_keeps a e sent sending can is)
