-- What is owed for what came leaves valid frames valid, and can be sent.
use Rattle.std.proofs.Common.{◌≡◌, ◌≢◌, ℕ, zero, suc, ◌+◌, ◌*◌, ◌/◌, ◌%◌, ◌<◌, ◌≤◌, Bool, true, false, cond, List, [], ◌∷◌, ◌++◌, length, map, Option, Some, None, refl, sym, append_assoc, arith, inl, inr, subst, eqb-true, lit≤}
use Rattle.std.specs.Prelude.{◌==◌}
use Rattle.std.specs.List.{AllByRecursion, flat_map}
use Rattle.std.proofs.lemmas.List.{append-nil}
use Rattle.ws_wire.specs.declared.role.Role.{Role}
use Rattle.ws_wire.specs.declared.role.Role.TheVariants.{Client, Server}
use Rattle.ws_wire.specs.Header.{AreBytes, IsMaskingKey, is_masked}
use Rattle.ws_wire.specs.Frame.{Frame, KeyedFrame, FitsTheLayout, frame_bytes}
use Rattle.ws_wire.proofs.Splits.{all-append}
use Rattle.ws_text.specs.Close.{CodeAllowed}
use Rattle.ws_text.proofs.Texts.{no_text}
use Rattle.ws_session.specs.declared.message.Message.{Message}
use Rattle.ws_session.specs.declared.reason.Reason.{Reason}
use Rattle.ws_session.specs.declared.reason.Reason.TheVariants.{ReservedBits, Opcode, MaskWrong, NotShortest, BadLength, ControlCut, ControlLong, NothingToContinue, MessageOpen, TooBig, FrameBig, NotText, TextCut, CloseOneByte, CloseCode, CloseReason}
use Rattle.ws_session.specs.declared.event.Event.{Event}
use Rattle.ws_session.specs.declared.event.Event.TheVariants as event
use Rattle.ws_session.specs.Limits.{LimitsValue}
use Rattle.ws_session.specs.Messages.{is_control, is_close, data_frames, groups_of, message_of, open_message_of}
use Rattle.ws_session.specs.Validity.{AreValidFrames}
use Rattle.ws_session.specs.Faults.{expects_key, KeysFit}
use Rattle.ws_session.specs.Events.{close_in, event_of, HasEvents}
use Rattle.ws_session.specs.Replies.{close_code_of, close_frame, reply_to, until_close, has_close, replies_of, key_for, under_key}
use Rattle.ws_session.specs.InnerNextFrame.{HasNoFaultOfNext}
use Rattle.ws_session.proofs.ToldFrames.{each_told}
use Rattle.ws_session.proofs.Valid.{NoneCloses, valid_snoc}
use Rattle.ws_session.proofs.FaultlessFrames.{alone_is, not_never_code}
use Rattle.ws_session.proofs.Within.{split_all}
use Rattle.ws_session.proofs.Decided.{code_told}
use Rattle.ws_session.proofs.SendsStayValid.{IsFineControl, control_next, none_closes}

-- ---- events that are told of frames without a fault

abbrev pub IsSound : Event → Type 0
IsSound (event.Ping payload) = (length payload ≤ 125) × AreBytes payload
IsSound (event.Close (Some close)) = CodeAllowed close.code
IsSound _ = Unit {0}

sound_by : (a b c d : Bool) (f : Frame) (m : Message) → (a ≡ true → length f.payload ≤ 125) → AreBytes f.payload → (b ≡ true → IsSound (event.Close (close_in f.payload)))
    → IsSound (cond a (cond b (event.Close (close_in f.payload)) (cond c (event.Ping f.payload) (event.Pong f.payload))) (cond d (event.Message m) event.Part))
sound_by true true c d f m short bytes close = close refl
sound_by true false true d f m short bytes close = (short refl, bytes)
sound_by true false false d f m short bytes close = tt
sound_by false b c true f m short bytes close = tt
sound_by false b c false f m short bytes close = tt

module _ (role : Role) (limits : LimitsValue) where
  sound_close : (opened : Option Message) (x : KeyedFrame) (p : List ℕ) → FitsTheLayout x → HasNoFaultOfNext role limits opened (frame_bytes x) → x.frame.opcode ≡ 8 → p ≡ x.frame.payload → IsSound (event.Close (close_in p))
  sound_close opened x [] can fine e is = tt
  sound_close opened x (a ∷ []) can fine e is = tt
  sound_close opened x (a ∷ b ∷ reason) can fine e is =
      elim (code_told (256 * a + b)) [
        | inl allowed ↦ allowed
        | inr never ↦ absurd (not_never_code role limits opened x can fine e a b reason is never)
      ]

  sound_frame : (before : List Frame) (x : KeyedFrame) → FitsTheLayout x → HasNoFaultOfNext role limits (open_message_of before) (frame_bytes x) → IsSound (event_of before x.frame)
  sound_frame before x can fine =
      let opened = open_message_of before in
      sound_by (is_control x.frame) (is_close x.frame) (x.frame.opcode == 9) x.frame.fin x.frame (message_of ((groups_of (data_frames before)).unfinished ++ x.frame ∷ []))
      (λ e. ((alone_is role limits opened x can fine).control e).1) can.payload (λ e. sound_close opened x x.frame.payload can fine (eqb-true x.frame.opcode 8 e) refl)

  sound_events : (s : List ℕ) (events : List Event) → HasEvents role limits s events → AllByRecursion IsSound events
  sound_events s events h = each_told role limits IsSound (λ opened. Unit {0}) (λ before x can fine left. (sound_frame before x can fine, tt)) tt (λ r. tt) s events h

  pub sound_later : (s : List ℕ) (events later : List Event) → HasEvents role limits s (events ++ later) → AllByRecursion IsSound later
  sound_later s events later h = (split_all IsSound events later (sound_events s (events ++ later) h)).1

-- ---- what is owed for them

abbrev pub IsReply : Frame → Type 0
IsReply f = IsFineControl f × AreBytes f.payload

bytes_cons : (b : ℕ) (l : List ℕ) → b < 256 → AreBytes l → AreBytes (b ∷ l)
bytes_cons b l lt h zero = lt
bytes_cons b l lt h (suc i) = h i

pub no_bytes : AreBytes []
no_bytes i = omega arith

code_fits : (c : ℕ) → CodeAllowed c → c < 65536
code_fits c (inl low) = omega (arith, low.1)
code_fits c (inr (inl mid)) = omega (arith, mid.1)
code_fits c (inr (inr high)) = omega (arith, high.1)

close_replies : (c : ℕ) → CodeAllowed c → IsReply (close_frame c)
close_replies c allowed =
    let fits = code_fits c allowed in
    let high : c / 256 < 256 = omega arith in
    let low : c % 256 < 256 = omega arith in (
      record {
        rsv = refl;
        least = omega arith;
        most = omega arith;
        fin = refl;
        short = omega arith;
        close = λ e. (Some (record { code = c; reason = [] }), (record { code = allowed; reason = no_text; short = omega arith }, refl));
      },
      bytes_cons (c / 256) (c % 256 ∷ []) high (bytes_cons (c % 256) [] low no_bytes),
    )

fault_code : (r : Reason) → CodeAllowed (close_code_of r)
fault_code TooBig = inr (inl (lit≤ tt, lit≤ tt))
fault_code FrameBig = inr (inl (lit≤ tt, lit≤ tt))
fault_code NotText = inr (inl (lit≤ tt, lit≤ tt))
fault_code TextCut = inr (inl (lit≤ tt, lit≤ tt))
fault_code CloseReason = inr (inl (lit≤ tt, lit≤ tt))
fault_code ReservedBits = inl (lit≤ tt, lit≤ tt)
fault_code Opcode = inl (lit≤ tt, lit≤ tt)
fault_code MaskWrong = inl (lit≤ tt, lit≤ tt)
fault_code NotShortest = inl (lit≤ tt, lit≤ tt)
fault_code BadLength = inl (lit≤ tt, lit≤ tt)
fault_code ControlCut = inl (lit≤ tt, lit≤ tt)
fault_code ControlLong = inl (lit≤ tt, lit≤ tt)
fault_code NothingToContinue = inl (lit≤ tt, lit≤ tt)
fault_code MessageOpen = inl (lit≤ tt, lit≤ tt)
fault_code CloseOneByte = inl (lit≤ tt, lit≤ tt)
fault_code CloseCode = inl (lit≤ tt, lit≤ tt)

pub sound_reply : (e : Event) → IsSound e → AllByRecursion IsReply (reply_to e)
sound_reply event.Part h = tt
sound_reply (event.Message m) h = tt
sound_reply (event.Ping payload) h = ((record { rsv = refl; least = omega arith; most = omega arith; fin = refl; short = h.0; close = λ e. absurd cc }, h.1), tt)
sound_reply (event.Pong payload) h = tt
sound_reply (event.Close None) h = ((record { rsv = refl; least = omega arith; most = omega arith; fin = refl; short = omega arith; close = λ e. (None, refl) }, no_bytes), tt)
sound_reply (event.Close (Some close)) h = (close_replies close.code h, tt)
sound_reply (event.Failed r) h = (close_replies (close_code_of r) (fault_code r), tt)

sound_replies : (es : List Event) → AllByRecursion IsSound es → AllByRecursion IsReply (flat_map reply_to es)
sound_replies [] h = tt
sound_replies (e ∷ es) h = all-append IsReply (reply_to e) (flat_map reply_to es) (sound_reply e h.0) (sound_replies es h.1)

until_step : (P : Frame → Type 0) (b : Bool) (f : Frame) (fs : List Frame) → P f → AllByRecursion P (until_close fs) → AllByRecursion P (cond b (f ∷ []) (f ∷ until_close fs))
until_step P true f fs p h = (p, tt)
until_step P false f fs p h = (p, h)

pub all_until : (P : Frame → Type 0) (fs : List Frame) → AllByRecursion P fs → AllByRecursion P (until_close fs)
all_until P [] h = tt
all_until P (f ∷ fs) h = until_step P (is_close f) f fs h.0 (all_until P fs h.1)

owed_by : (b : Bool) (fs : List Frame) → AllByRecursion IsReply (until_close fs) → AllByRecursion IsReply (cond b [] (until_close fs))
owed_by true fs h = tt
owed_by false fs h = h

are_replies : (sent : List Frame) (es : List Event) → AllByRecursion IsSound es → AllByRecursion IsReply (replies_of sent es)
are_replies sent es h = owed_by (has_close sent) (flat_map reply_to es) (all_until IsReply (flat_map reply_to es) (sound_replies es h))

-- ---- behind valid frames

pub replies_step : (c : Bool) (most : LimitsValue) (sent : List Frame) (f : Frame) (fs : List Frame) → is_close f ≡ c → NoneCloses sent → AreValidFrames most (sent ++ f ∷ [])
    → (NoneCloses (sent ++ f ∷ []) → AreValidFrames most ((sent ++ f ∷ []) ++ until_close fs)) → AreValidFrames most (sent ++ cond c (f ∷ []) (f ∷ until_close fs))
replies_step true most sent f fs e none v h = v
replies_step false most sent f fs e none v h = subst (λ (l : List Frame). AreValidFrames most l) (append_assoc sent (f ∷ []) (until_close fs)) (h (all-append (λ (g : Frame). is_close g ≡ false) sent (f ∷ []) none (e, tt)))

until_valid : (most : LimitsValue) (sent fs : List Frame) → AreValidFrames most sent → NoneCloses sent → AllByRecursion IsReply fs → AreValidFrames most (sent ++ until_close fs)
until_valid most sent [] v none h = subst (λ (l : List Frame). AreValidFrames most l) (sym (append-nil sent)) v
until_valid most sent (f ∷ fs) v none h =
    let next = valid_snoc most sent f v none (control_next most (open_message_of sent) f h.0.0) in
    replies_step (is_close f) most sent f fs refl none next (λ later. until_valid most (sent ++ f ∷ []) fs next later h.1)

valid_by : (b : Bool) (most : LimitsValue) (sent fs : List Frame) → has_close sent ≡ b → AreValidFrames most sent → AllByRecursion IsReply fs → AreValidFrames most (sent ++ cond b [] (until_close fs))
valid_by true most sent fs e v h = subst (λ (l : List Frame). AreValidFrames most l) (sym (append-nil sent)) v
valid_by false most sent fs e v h = until_valid most sent fs v (none_closes sent e) h

pub stays_valid : (role : Role) (limits most : LimitsValue) (s : List ℕ) (events later : List Event) (sent : List Frame) → HasEvents role limits s (events ++ later) → AreValidFrames most sent → AreValidFrames most (sent ++ replies_of sent later)
stays_valid role limits most s events later sent h v = valid_by (has_close sent) most sent (flat_map reply_to later) refl v (sound_replies later (sound_later role limits s events later h))

-- ---- on the wire

pub reply_can : (own : Role) (key : List ℕ) (f : Frame) → IsMaskingKey (key_for own key) → IsReply f → FitsTheLayout (under_key own key f)
reply_can own key f is h = record { rsv = omega (arith, h.0.rsv); opcode = omega (arith, h.0.most); key = is; payload = h.1; len = omega (arith, h.0.short) }

all_can : (own : Role) (key : List ℕ) (fs : List Frame) → IsMaskingKey (key_for own key) → AllByRecursion IsReply fs → AllByRecursion FitsTheLayout (map (under_key own key) fs)
all_can own key [] is h = tt
all_can own key (f ∷ fs) is h = (reply_can own key f is h.0, all_can own key fs is h.1)

pub replies_can : (role own : Role) (limits : LimitsValue) (s key : List ℕ) (events later : List Event) (sent : List Frame) → HasEvents role limits s (events ++ later) → IsMaskingKey (key_for own key)
    → AllByRecursion FitsTheLayout (map (under_key own key) (replies_of sent later))
replies_can role own limits s key events later sent h is = all_can own key (replies_of sent later) is (are_replies sent later (sound_later role limits s events later h))

key_fits : (own other : Role) (key : List ℕ) → own ≢ other → is_masked (key_for own key) ≡ expects_key other
key_fits Client Client key differ = absurd (differ refl)
key_fits Client Server key differ = refl
key_fits Server Client key differ = refl
key_fits Server Server key differ = absurd (differ refl)

pub keys_fit : (own other : Role) (key : List ℕ) (fs : List Frame) → own ≢ other → KeysFit other (map (under_key own key) fs)
keys_fit own other key [] differ = tt
keys_fit own other key (f ∷ fs) differ = (key_fits own other key differ, keys_fit own other key fs differ)
