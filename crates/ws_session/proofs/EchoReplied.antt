-- What an echo owes for what came leaves valid frames valid, with nothing open, and can be sent.
use Rattle.std.proofs.Common.{◌≡◌, ℕ, ◌+◌, ◌^◌, ◌<◌, ◌≤◌, ◌⊎◌, Bool, true, false, cond, List, [], ◌∷◌, ◌++◌, length, map, Option, Some, None, refl, sym, ap, ◌∙◌, append_assoc, arith, inl, inr, subst}
use Rattle.std.specs.List.{AllByRecursion, flat_map}
use Rattle.std.proofs.lemmas.Bool.{cases_lt}
use Rattle.std.proofs.lemmas.List.{append-nil, length-append}
use Rattle.ws_wire.specs.declared.role.Role.{Role}
use Rattle.ws_wire.specs.Header.{AreBytes, IsMaskingKey}
use Rattle.ws_wire.specs.Frame.{Frame, KeyedFrame, FitsTheLayout, frame_bytes}
use Rattle.ws_wire.proofs.Splits.{all-append}
use Rattle.ws_text.specs.Text.{IsText, BeginsText}
use Rattle.ws_session.specs.declared.message.Kind.{Kind}
use Rattle.ws_session.specs.declared.message.Kind.TheVariants.{Text, Binary}
use Rattle.ws_session.specs.declared.message.Message.{Message}
use Rattle.ws_session.specs.declared.event.Event.{Event}
use Rattle.ws_session.specs.declared.event.Event.TheVariants as event
use Rattle.ws_session.specs.Limits.{LimitsValue}
use Rattle.ws_session.specs.Messages.{is_control, is_close, opcode_of, open_message_of}
use Rattle.ws_session.specs.Validity.{AreValidFrames}
use Rattle.ws_session.specs.Faults.{IsOpenText, open_payload}
use Rattle.ws_session.specs.Events.{close_in, event_of, HasEvents}
use Rattle.ws_session.specs.Replies.{message_frame, reply_to, echo_reply_to, echo_replies_of, until_close, has_close, key_for, under_key}
use Rattle.ws_session.specs.InnerNextFrame.{HasNoFaultOfNext, message_with, opened_with, event_behind}
use Rattle.ws_session.proofs.ByteLists.{bytes_append}
use Rattle.ws_session.proofs.OpenMessage.{open_snoc, event_snoc}
use Rattle.ws_session.proofs.Payloads.{kind_is_text}
use Rattle.ws_session.proofs.Frames.{none_or_some}
use Rattle.ws_session.proofs.Within.{split_all}
use Rattle.ws_session.proofs.Valid.{FrameOfText, IsValidNext, NoneCloses, valid_snoc, data_opcode}
use Rattle.ws_session.proofs.FaultlessFrames.{alone_is, fine_is_valid}
use Rattle.ws_session.proofs.Decided.{text_told, begins_told}
use Rattle.ws_session.proofs.SendsStayValid.{control_next, none_closes}
use Rattle.ws_session.proofs.ToldFrames.{each_told}
use Rattle.ws_session.proofs.Replied.{IsSound, IsReply, sound_later, sound_reply, all_until, replies_step, reply_can, no_bytes}

-- ---- messages that are told of frames without a fault

-- a message that is told is no larger than is taken, and of text where it says so
pub record IsSoundMessage (limits : LimitsValue) (m : Message) : Type 0 where
  pub size : length m.payload ≤ limits.max_message
  pub bytes : AreBytes m.payload
  pub text : m.kind ≡ Text → IsText m.payload

abbrev pub TellsSound : LimitsValue → Event → Type 0
TellsSound limits (event.Message m) = IsSoundMessage limits m
TellsSound limits _ = Unit {0}

abbrev IsSoundOpen : Option Message → Type 0
IsSoundOpen opened = AreBytes (open_payload opened) × (IsOpenText opened → BeginsText (open_payload opened))

payload_with : (opened : Option Message) (f : Frame) → (message_with opened f).payload ≡ open_payload opened ++ f.payload
payload_with None f = refl
payload_with (Some m) f = refl

of_text_with : (opened : Option Message) (f : Frame) → (1 ≤ f.opcode → opened ≡ None) → (message_with opened f).kind ≡ Text → FrameOfText opened f
of_text_with None f begins e = inl (kind_is_text f.opcode e)
of_text_with (Some m) f begins e = elim (cases_lt 0 f.opcode) [ inl some ↦ absurd (let no : Some m ≡ None = begins (omega arith) in cc) | inr none ↦ inr (omega arith, e) ]

tells_by : (limits : LimitsValue) (a b c d : Bool) (f : Frame) (m : Message) → (a ≡ false → d ≡ true → IsSoundMessage limits m)
    → TellsSound limits (cond a (cond b (event.Close (close_in f.payload)) (cond c (event.Ping f.payload) (event.Pong f.payload))) (cond d (event.Message m) event.Part))
tells_by limits true true c d f m sound = tt
tells_by limits true false true d f m sound = tt
tells_by limits true false false d f m sound = tt
tells_by limits false b c true f m sound = sound refl refl
tells_by limits false b c false f m sound = tt

opens_by : (a d : Bool) (opened : Option Message) (m : Message) → IsSoundOpen opened → (a ≡ false → IsSoundOpen (Some m)) → IsSoundOpen (cond a opened (cond d None (Some m)))
opens_by true d opened m before after = before
opens_by false true opened m before after = (no_bytes, λ h. absurd h)
opens_by false false opened m before after = after refl

module _ (role : Role) (limits : LimitsValue) (opened : Option Message) (x : KeyedFrame) (can : FitsTheLayout x) (fine : HasNoFaultOfNext role limits opened (frame_bytes x)) (left : IsSoundOpen opened) where
  not_never_valid : (IsValidNext limits opened x.frame → ⊥) → ⊥
  not_never_valid h = fine_is_valid role limits opened x can fine left.1 h

  small_opcode : is_control x.frame ≡ false → x.frame.opcode ≤ 2
  small_opcode e = data_opcode x.frame e (alone_is role limits opened x can fine)

  size_is : x.frame.opcode ≤ 2 → length (open_payload opened ++ x.frame.payload) ≤ limits.max_message
  size_is le = elim (cases_lt limits.max_message (length (open_payload opened) + length x.frame.payload)) [ inl big ↦ absurd (not_never_valid (λ v. omega (arith, big, v.size le))) | inr fits ↦ omega (arith, fits, length-append (open_payload opened) x.frame.payload) ]

  of_text : x.frame.opcode ≤ 2 → (message_with opened x.frame).kind ≡ Text → FrameOfText opened x.frame
  of_text le e = of_text_with opened x.frame (λ one. none_or_some opened (λ some. not_never_valid (λ v. some (v.begins one le)))) e

  begins_is : FrameOfText opened x.frame → BeginsText (open_payload opened ++ x.frame.payload)
  begins_is is = elim (begins_told (open_payload opened ++ x.frame.payload)) [ inl b ↦ b | inr never ↦ absurd (not_never_valid (λ v. never (v.text is))) ]

  text_is : FrameOfText opened x.frame → x.frame.fin ≡ true → IsText (open_payload opened ++ x.frame.payload)
  text_is is fin = elim (text_told (open_payload opened ++ x.frame.payload)) [ inl t ↦ t | inr never ↦ absurd (not_never_valid (λ v. never (v.whole is fin))) ]

  bytes_are : AreBytes (message_with opened x.frame).payload
  bytes_are = subst (λ (l : List ℕ). AreBytes l) (sym (payload_with opened x.frame)) (bytes_append (open_payload opened) x.frame.payload left.0 can.payload)

  message_is : is_control x.frame ≡ false → x.frame.fin ≡ true → IsSoundMessage limits (message_with opened x.frame)
  message_is e fin =
      let same = payload_with opened x.frame in
      record {
        size = subst (λ (l : List ℕ). length l ≤ limits.max_message) (sym same) (size_is (small_opcode e));
        bytes = bytes_are;
        text = λ kind. subst (λ (l : List ℕ). IsText l) (sym same) (text_is (of_text (small_opcode e) kind) fin);
      }

  opened_is : is_control x.frame ≡ false → IsSoundOpen (Some (message_with opened x.frame))
  opened_is e = (bytes_are, λ kind. subst (λ (l : List ℕ). BeginsText l) (sym (payload_with opened x.frame)) (begins_is (of_text (small_opcode e) kind)))

  sound_next : TellsSound limits (event_behind opened x.frame) × IsSoundOpen (opened_with opened x.frame)
  sound_next = (
    tells_by limits (is_control x.frame) (is_close x.frame) _ x.frame.fin x.frame (message_with opened x.frame) message_is,
    opens_by (is_control x.frame) x.frame.fin opened (message_with opened x.frame) left opened_is,
  )

sound_step : (role : Role) (limits : LimitsValue) (before : List Frame) (x : KeyedFrame) → FitsTheLayout x → HasNoFaultOfNext role limits (open_message_of before) (frame_bytes x) → IsSoundOpen (open_message_of before)
    → TellsSound limits (event_of before x.frame) × IsSoundOpen (open_message_of (before ++ x.frame ∷ []))
sound_step role limits before x can fine left =
    let next = sound_next role limits (open_message_of before) x can fine left in
    (subst (λ (e : Event). TellsSound limits e) (sym (event_snoc before x.frame)) next.0, subst (λ (o : Option Message). IsSoundOpen o) (sym (open_snoc before x.frame)) next.1)

sound_messages : (role : Role) (limits : LimitsValue) (s : List ℕ) (events later : List Event) → HasEvents role limits s (events ++ later) → AllByRecursion (TellsSound limits) later
sound_messages role limits s events later h =
    (split_all (TellsSound limits) events later (each_told role limits (TellsSound limits) IsSoundOpen (sound_step role limits) (no_bytes, λ text. absurd text) (λ r. tt) s (events ++ later) h)).1

-- ---- what an echo owes for them

-- it is a reply, or a message in one frame
abbrev IsEchoFrame : LimitsValue → Frame → Type 0
IsEchoFrame limits f = IsReply f ⊎ ((m : Message) × (f ≡ message_frame m) × IsSoundMessage limits m)

are_replies : (limits : LimitsValue) (fs : List Frame) → AllByRecursion IsReply fs → AllByRecursion (IsEchoFrame limits) fs
are_replies limits [] h = tt
are_replies limits (f ∷ fs) h = (inl h.0, are_replies limits fs h.1)

echo_frame : (limits : LimitsValue) (e : Event) → IsSound e → TellsSound limits e → AllByRecursion (IsEchoFrame limits) (echo_reply_to e)
echo_frame limits event.Part h sound = tt
echo_frame limits (event.Message m) h sound = (inr (m, refl, sound), tt)
echo_frame limits (event.Ping payload) h sound = are_replies limits (reply_to (event.Ping payload)) (sound_reply (event.Ping payload) h)
echo_frame limits (event.Pong payload) h sound = tt
echo_frame limits (event.Close close) h sound = are_replies limits (reply_to (event.Close close)) (sound_reply (event.Close close) h)
echo_frame limits (event.Failed r) h sound = are_replies limits (reply_to (event.Failed r)) (sound_reply (event.Failed r) h)

echo_frames : (limits : LimitsValue) (es : List Event) → AllByRecursion IsSound es → AllByRecursion (TellsSound limits) es → AllByRecursion (IsEchoFrame limits) (flat_map echo_reply_to es)
echo_frames limits [] h sound = tt
echo_frames limits (e ∷ es) h sound = all-append (IsEchoFrame limits) (echo_reply_to e) (flat_map echo_reply_to es) (echo_frame limits e h.0 sound.0) (echo_frames limits es h.1 sound.1)

told_frames : (role : Role) (limits : LimitsValue) (s : List ℕ) (events later : List Event) → HasEvents role limits s (events ++ later) → AllByRecursion (IsEchoFrame limits) (flat_map echo_reply_to later)
told_frames role limits s events later h = echo_frames limits later (sound_later role limits s events later h) (sound_messages role limits s events later h)

-- ---- nothing is open after them

abbrev LeavesNone : Frame → Type 0
LeavesNone f = opened_with None f ≡ None

message_leaves_none : (kind : Kind) (payload : List ℕ) → LeavesNone (message_frame (record { kind = kind; payload = payload }))
message_leaves_none Text payload = refl
message_leaves_none Binary payload = refl

echo_leaves_none : (e : Event) → AllByRecursion LeavesNone (echo_reply_to e)
echo_leaves_none event.Part = tt
echo_leaves_none (event.Message m) = (message_leaves_none m.kind m.payload, tt)
echo_leaves_none (event.Ping payload) = (refl, tt)
echo_leaves_none (event.Pong payload) = tt
echo_leaves_none (event.Close None) = (refl, tt)
echo_leaves_none (event.Close (Some close)) = (refl, tt)
echo_leaves_none (event.Failed r) = (refl, tt)

all_leave_none : (es : List Event) → AllByRecursion LeavesNone (flat_map echo_reply_to es)
all_leave_none [] = tt
all_leave_none (e ∷ es) = all-append LeavesNone (echo_reply_to e) (flat_map echo_reply_to es) (echo_leaves_none e) (all_leave_none es)

none_after : (sent : List Frame) (f : Frame) → open_message_of sent ≡ None → LeavesNone f → open_message_of (sent ++ f ∷ []) ≡ None
none_after sent f none leaves = open_snoc sent f ∙ ap (λ (o : Option Message). opened_with o f) none ∙ leaves

none_after_all : (sent fs : List Frame) → open_message_of sent ≡ None → AllByRecursion LeavesNone fs → open_message_of (sent ++ fs) ≡ None
none_after_all sent [] none h = ap (λ (l : List Frame). open_message_of l) (append-nil sent) ∙ none
none_after_all sent (f ∷ fs) none h = ap (λ (l : List Frame). open_message_of l) (sym (append_assoc sent (f ∷ []) fs)) ∙ none_after_all (sent ++ f ∷ []) fs (none_after sent f none h.0) h.1

all_by : (P : Frame → Type 0) (b : Bool) (fs : List Frame) → AllByRecursion P fs → AllByRecursion P (cond b [] (until_close fs))
all_by P true fs h = tt
all_by P false fs h = all_until P fs h

pub nothing_open_after : (sent : List Frame) (events : List Event) → open_message_of sent ≡ None → open_message_of (sent ++ echo_replies_of sent events) ≡ None
nothing_open_after sent events none = none_after_all sent (echo_replies_of sent events) none (all_by LeavesNone (has_close sent) (flat_map echo_reply_to events) (all_leave_none events))

-- ---- behind valid frames

kind_of_message : (kind : Kind) (payload : List ℕ) → FrameOfText None (message_frame (record { kind = kind; payload = payload })) → kind ≡ Text
kind_of_message Text payload is = refl
kind_of_message Binary payload (inl one) = absurd (omega (arith, one))
kind_of_message Binary payload (inr zero_open) = absurd zero_open.1

opcode_is : (kind : Kind) → (1 ≤ opcode_of kind) × (opcode_of kind ≤ 2)
opcode_is Text = (omega arith, omega arith)
opcode_is Binary = (omega arith, omega arith)

no_control : (kind : Kind) (payload : List ℕ) → is_control (message_frame (record { kind = kind; payload = payload })) ≡ false
no_control Text payload = refl
no_control Binary payload = refl

no_close : (kind : Kind) (payload : List ℕ) → is_close (message_frame (record { kind = kind; payload = payload })) ≡ false
no_close Text payload = refl
no_close Binary payload = refl

text_begins : (l : List ℕ) → IsText l → BeginsText l
text_begins l t = record { more = []; is_text = subst (λ (x : List ℕ). IsText x) (sym (append-nil l)) t }

no_both : (b : Bool) → b ≡ true → b ≡ false → ⊥
no_both b e f = let both : true ≡ false = sym e ∙ f in absurd cc

message_next : (limits most : LimitsValue) (m : Message) → limits.max_message ≤ most.max_message → limits.max_message ≤ most.max_frame → IsSoundMessage limits m → IsValidNext most None (message_frame m)
message_next limits most m le frame sound =
    let opcode = opcode_is m.kind in
    record {
      alone = record { rsv = refl; opcode = inl opcode.1; control = λ e. absurd (no_both (is_control (message_frame m)) e (no_control m.kind m.payload)) };
      close = λ e. absurd (no_both (is_close (message_frame m)) e (no_close m.kind m.payload));
      goes_on = λ e. absurd (omega (arith, e, opcode.0));
      begins = λ one two. refl;
      size = λ two. omega (arith, le, sound.size);
      frame = λ two. omega (arith, frame, sound.size);
      text = λ is. text_begins m.payload (sound.text (kind_of_message m.kind m.payload is));
      whole = λ is end. sound.text (kind_of_message m.kind m.payload is);
    }

module _ (limits most : LimitsValue) (le : limits.max_message ≤ most.max_message) (frame : limits.max_message ≤ most.max_frame) where
  frame_next : (sent : List Frame) (f : Frame) → open_message_of sent ≡ None → IsEchoFrame limits f → IsValidNext most (open_message_of sent) f
  frame_next sent f none (inl reply) = control_next most (open_message_of sent) f reply.0
  frame_next sent f none (inr message) =
      subst (λ (o : Option Message). IsValidNext most o f) (sym none) (subst (λ (g : Frame). IsValidNext most None g) (sym message.1) (message_next limits most message.0 le frame message.2))

  until_valid : (sent fs : List Frame) → AreValidFrames most sent → NoneCloses sent → open_message_of sent ≡ None → AllByRecursion (IsEchoFrame limits) fs → AllByRecursion LeavesNone fs → AreValidFrames most (sent ++ until_close fs)
  until_valid sent [] v none left h leaves = subst (λ (l : List Frame). AreValidFrames most l) (sym (append-nil sent)) v
  until_valid sent (f ∷ fs) v none left h leaves =
      let next = valid_snoc most sent f v none (frame_next sent f left h.0) in
      replies_step (is_close f) most sent f fs refl none next (λ later. until_valid (sent ++ f ∷ []) fs next later (none_after sent f left leaves.0) h.1 leaves.1)

  valid_by : (b : Bool) (sent fs : List Frame) → has_close sent ≡ b → AreValidFrames most sent → open_message_of sent ≡ None → AllByRecursion (IsEchoFrame limits) fs → AllByRecursion LeavesNone fs → AreValidFrames most (sent ++ cond b [] (until_close fs))
  valid_by true sent fs e v left h leaves = subst (λ (l : List Frame). AreValidFrames most l) (sym (append-nil sent)) v
  valid_by false sent fs e v left h leaves = until_valid sent fs v (none_closes sent e) left h leaves

  pub echo_stays_valid : (role : Role) (s : List ℕ) (events later : List Event) (sent : List Frame) → HasEvents role limits s (events ++ later) → AreValidFrames most sent → open_message_of sent ≡ None → AreValidFrames most (sent ++ echo_replies_of sent later)
  echo_stays_valid role s events later sent h v left =
      valid_by (has_close sent) sent (flat_map echo_reply_to later) refl v left (told_frames role limits s events later h) (all_leave_none later)

-- ---- on the wire

opcode_fits : (kind : Kind) → opcode_of kind < 16
opcode_fits kind = omega (arith, (opcode_is kind).1)

frame_can : (limits : LimitsValue) (own : Role) (key : List ℕ) (f : Frame) → limits.max_message < 2 ^ 63 → IsMaskingKey (key_for own key) → IsEchoFrame limits f → FitsTheLayout (under_key own key f)
frame_can limits own key f small is (inl reply) = reply_can own key f is reply
frame_can limits own key f small is (inr (m, same, sound)) =
    subst (λ (g : Frame). FitsTheLayout (under_key own key g)) (sym same) (record { rsv = omega arith; opcode = opcode_fits m.kind; key = is; payload = sound.bytes; len = omega (arith, small, sound.size) })

all_can : (limits : LimitsValue) (own : Role) (key : List ℕ) (fs : List Frame) → limits.max_message < 2 ^ 63 → IsMaskingKey (key_for own key) → AllByRecursion (IsEchoFrame limits) fs → AllByRecursion FitsTheLayout (map (under_key own key) fs)
all_can limits own key [] small is h = tt
all_can limits own key (f ∷ fs) small is h = (frame_can limits own key f small is h.0, all_can limits own key fs small is h.1)

pub echo_can : (role own : Role) (limits : LimitsValue) (s key : List ℕ) (events later : List Event) (sent : List Frame) → HasEvents role limits s (events ++ later) → limits.max_message < 2 ^ 63 → IsMaskingKey (key_for own key)
    → AllByRecursion FitsTheLayout (map (under_key own key) (echo_replies_of sent later))
echo_can role own limits s key events later sent h small is =
    all_can limits own key (echo_replies_of sent later) small is (all_by (IsEchoFrame limits) (has_close sent) (flat_map echo_reply_to later) (told_frames role limits s events later h))
