-- A frame that is sent keeps those before it valid.
use Rattle.std.proofs.Common.{◌≡◌, ℕ, ◌+◌, ◌<◌, ◌≤◌, Bool, true, false, List, [], ◌∷◌, ◌++◌, length, Option, Some, None, refl, arith, inl, inr}
use Rattle.std.specs.Prelude.{◌||◌}
use Rattle.std.proofs.lemmas.Bool.{cases_lt}
use Rattle.ws_wire.specs.Frame.{Frame}
use Rattle.ws_text.specs.Text.{IsText, BeginsText}
use Rattle.ws_text.specs.Close.{CloseValue, IsClosePayload, CodeAllowed}
use Rattle.ws_session.specs.declared.limits.TheConstants.{MAX_MESSAGE}
use Rattle.ws_session.specs.declared.message.Kind.{Kind}
use Rattle.ws_session.specs.declared.message.Kind.TheVariants.{Text, Binary}
use Rattle.ws_session.specs.declared.message.Message.{Message}
use Rattle.ws_session.specs.declared.send_fault.SendFault.{SendFault}
use Rattle.ws_session.specs.declared.send_fault.SendFault.TheVariants.{Over, Busy, NothingOpen, NotText, TooLong, BadCode, NoMemory}
use Rattle.ws_session.specs.declared.status.Status.{Status}
use Rattle.ws_session.specs.Limits.{LimitsValue}
use Rattle.ws_session.specs.Messages.{is_close, open_message_of}
use Rattle.ws_session.specs.Validity.{AreValidFrames}
use Rattle.ws_session.specs.Replies.{has_close, control_frame}
use Rattle.ws_session.specs.Sends.{Send, Begin, More, Ping, Pong, Close, frame_of, most_limits, HasTextReason, IsNoText, IsWrongWith, MaySend}
use Rattle.ws_session.proofs.Valid.{FrameOfText, IsValidNext, NoneCloses, valid_snoc, false_of}
use Rattle.ws_session.proofs.Decided.{text_told, begins_told, code_told}

-- ---- a control frame

pub record IsFineControl (f : Frame) : Type 0 where
  pub rsv : f.rsv ≡ 0
  pub least : 8 ≤ f.opcode
  pub most : f.opcode ≤ 10
  pub fin : f.fin ≡ true
  pub short : length f.payload ≤ 125
  pub close : is_close f ≡ true → (c : Option CloseValue) × IsClosePayload f.payload c

-- it may stand behind whatever is open
pub control_next : (limits : LimitsValue) (opened : Option Message) (f : Frame) → IsFineControl f → IsValidNext limits opened f
control_next limits opened f h = record {
  alone = record { rsv = h.rsv; opcode = inr (h.least, h.most); control = λ e. (h.fin, h.short) };
  close = h.close;
  goes_on = λ e. absurd (omega (arith, e, h.least));
  begins = λ one two. absurd (omega (arith, two, h.least));
  size = λ two. absurd (omega (arith, two, h.least));
  frame = λ two. absurd (omega (arith, two, h.least));
  text = λ is. absurd (elim is [ inl one ↦ omega (arith, one, h.least) | inr zero_open ↦ omega (arith, zero_open.0, h.least) ]);
  whole = λ is end. absurd (elim is [ inl one ↦ omega (arith, one, h.least) | inr zero_open ↦ omega (arith, zero_open.0, h.least) ]);
}

-- ---- nothing is wrong with a send

abbrev NotWrongWith : Option Message → Send → Type 0
NotWrongWith opened send = (fault : SendFault) → IsWrongWith opened send fault → ⊥

at_most : (a b : ℕ) → (b < a → ⊥) → a ≤ b
at_most a b never = elim (cases_lt b a) [ inl lt ↦ absurd (never lt) | inr le ↦ le ]

begins_text : (fin : Bool) (bytes : List ℕ) → (IsNoText fin bytes → ⊥) → BeginsText bytes
begins_text fin bytes never = elim (begins_told bytes) [ inl b ↦ b | inr not_begun ↦ absurd (never (inl not_begun)) ]

whole_text : (fin : Bool) (bytes : List ℕ) → (IsNoText fin bytes → ⊥) → fin ≡ true → IsText bytes
whole_text fin bytes never end = elim (text_told bytes) [ inl t ↦ t | inr not_text ↦ absurd (never (inr (end, not_text))) ]

binary_of_text : (payload : List ℕ) (fin : Bool) → FrameOfText None (frame_of (Begin Binary payload fin)) → ⊥
binary_of_text payload fin (inl one) = omega (arith, one)
binary_of_text payload fin (inr zero_open) = zero_open.1

begin_next : (kind : Kind) (payload : List ℕ) (fin : Bool) → NotWrongWith None (Begin kind payload fin) → IsValidNext most_limits None (frame_of (Begin kind payload fin))
begin_next Text payload fin never = record {
  alone = record { rsv = refl; opcode = inl (omega arith); control = λ e. absurd cc };
  close = λ e. absurd cc;
  goes_on = λ e. absurd (omega (arith, e));
  begins = λ one two. refl;
  size = λ le. omega (arith, at_most (length payload) MAX_MESSAGE (λ lt. never TooLong lt));
  frame = λ le. at_most (length payload) MAX_MESSAGE (λ lt. never TooLong lt);
  text = λ is. begins_text fin payload (λ n. never NotText (refl, n));
  whole = λ is end. whole_text fin payload (λ n. never NotText (refl, n)) end;
}
begin_next Binary payload fin never = record {
  alone = record { rsv = refl; opcode = inl (omega arith); control = λ e. absurd cc };
  close = λ e. absurd cc;
  goes_on = λ e. absurd (omega (arith, e));
  begins = λ one two. refl;
  size = λ le. omega (arith, at_most (length payload) MAX_MESSAGE (λ lt. never TooLong lt));
  frame = λ le. at_most (length payload) MAX_MESSAGE (λ lt. never TooLong lt);
  text = λ is. absurd (binary_of_text payload fin is);
  whole = λ is end. absurd (binary_of_text payload fin is);
}

more_of_text : (m : Message) (payload : List ℕ) (fin : Bool) → FrameOfText (Some m) (frame_of (More payload fin)) → m.kind ≡ Text
more_of_text m payload fin (inl one) = absurd (omega (arith, one))
more_of_text m payload fin (inr zero_open) = zero_open.1

more_next : (m : Message) (payload : List ℕ) (fin : Bool) → NotWrongWith (Some m) (More payload fin) → IsValidNext most_limits (Some m) (frame_of (More payload fin))
more_next m payload fin never = record {
  alone = record { rsv = refl; opcode = inl (omega arith); control = λ e. absurd cc };
  close = λ e. absurd cc;
  goes_on = λ e none. absurd cc;
  begins = λ one two. absurd (omega (arith, one));
  size = λ le. at_most (length m.payload + length payload) MAX_MESSAGE (λ lt. never TooLong lt);
  frame = λ le. omega (arith, at_most (length m.payload + length payload) MAX_MESSAGE (λ lt. never TooLong lt));
  text = λ is. begins_text fin (m.payload ++ payload) (λ n. never NotText (more_of_text m payload fin is, n));
  whole = λ is end. whole_text fin (m.payload ++ payload) (λ n. never NotText (more_of_text m payload fin is, n)) end;
}

allowed_code : (opened : Option Message) (close : CloseValue) → NotWrongWith opened (Close (Some close)) → CodeAllowed close.code
allowed_code opened close never = elim (code_told close.code) [ inl c ↦ c | inr bad ↦ absurd (never BadCode bad) ]

close_fine : (opened : Option Message) (close : Option CloseValue) → NotWrongWith opened (Close close) → HasTextReason (Close close) → IsFineControl (frame_of (Close close))
close_fine opened None never text = record { rsv = refl; least = omega arith; most = omega arith; fin = refl; short = omega arith; close = λ e. (None, refl) }
close_fine opened (Some close) never text =
    let short : length close.reason ≤ 123 = at_most (length close.reason) 123 (λ lt. never TooLong lt) in
    record {
      rsv = refl;
      least = omega arith;
      most = omega arith;
      fin = refl;
      short = omega arith;
      close = λ e. (Some close, (record { code = allowed_code opened close never; reason = text; short = short }, refl));
    }

-- ---- behind the frames before

send_next : (opened : Option Message) (send : Send) → NotWrongWith opened send → HasTextReason send → IsValidNext most_limits opened (frame_of send)
send_next None (Begin kind payload fin) never text = begin_next kind payload fin never
send_next (Some m) (Begin kind payload fin) never text = absurd (never Busy (λ e. absurd cc))
send_next None (More payload fin) never text = absurd (never NothingOpen refl)
send_next (Some m) (More payload fin) never text = more_next m payload fin never
send_next opened (Ping payload) never text =
    control_next most_limits opened (control_frame 9 payload) (record { rsv = refl; least = omega arith; most = omega arith; fin = refl; short = at_most (length payload) 125 (λ lt. never TooLong lt); close = λ e. absurd cc })
send_next opened (Pong payload) never text =
    control_next most_limits opened (control_frame 10 payload) (record { rsv = refl; least = omega arith; most = omega arith; fin = refl; short = at_most (length payload) 125 (λ lt. never TooLong lt); close = λ e. absurd cc })
send_next opened (Close close) never text = control_next most_limits opened (frame_of (Close close)) (close_fine opened close never text)

neither_of : (c d : Bool) → c || d ≡ false → (c ≡ false) × (d ≡ false)
neither_of true d e = absurd cc
neither_of false d e = (refl, e)

pub none_closes : (fs : List Frame) → has_close fs ≡ false → NoneCloses fs
none_closes [] e = tt
none_closes (f ∷ fs) e = let t = neither_of (is_close f) (has_close fs) e in (t.0, none_closes fs t.1)

-- over is no fault of the send itself
not_over : (opened : Option Message) (send : Send) → IsWrongWith opened send Over → ⊥
not_over opened (Begin kind payload fin) h = h
not_over opened (More payload fin) h = h
not_over opened (Ping payload) h = h
not_over opened (Pong payload) h = h
not_over opened (Close None) h = h
not_over opened (Close (Some close)) h = h

itself_right : (sent : List Frame) (status : Status) (send : Send) → MaySend sent status send → NotWrongWith (open_message_of sent) send
itself_right sent status send may Over h = not_over (open_message_of sent) send h
itself_right sent status send may Busy h = may Busy h
itself_right sent status send may NothingOpen h = may NothingOpen h
itself_right sent status send may NotText h = may NotText h
itself_right sent status send may TooLong h = may TooLong h
itself_right sent status send may BadCode h = may BadCode h
itself_right sent status send may NoMemory h = may NoMemory h

pub send_stays_valid : (sent : List Frame) (status : Status) (send : Send) → AreValidFrames most_limits sent → HasTextReason send → MaySend sent status send → AreValidFrames most_limits (sent ++ frame_of send ∷ [])
send_stays_valid sent status send valid text may =
    let open_end : has_close sent ≡ false = false_of (has_close sent) (λ e. may Over (inl e)) in
    valid_snoc most_limits sent (frame_of send) valid (none_closes sent open_end) (send_next (open_message_of sent) send (itself_right sent status send may) text)
