-- A frame without a fault is valid, behind others.
use Rattle.std.proofs.Common.{◌≡◌, ℕ, ◌+◌, ◌*◌, ◌<◌, ◌≤◌, ◌⊎◌, Bool, true, false, List, [], ◌∷◌, ◌++◌, length, get_or, Option, Some, None, refl, sym, ap, ◌∙◌, arith, inl, inr, subst}
use Rattle.std.proofs.lemmas.Bool.{cases_lt}
use Rattle.std.proofs.lemmas.List.{append-nil}
use Rattle.ws_wire.specs.declared.role.Role.{Role}
use Rattle.ws_wire.specs.Header.{IsHeader, header_bytes}
use Rattle.ws_wire.specs.Masking.{masked_payload}
use Rattle.ws_wire.specs.Frame.{KeyedFrame, FitsTheLayout, frame_bytes}
use Rattle.ws_wire.proofs.Frames.{sent_is_wire}
use Rattle.ws_text.specs.Text.{IsText, BeginsText}
use Rattle.ws_session.specs.declared.message.Message.{Message}
use Rattle.ws_session.specs.declared.reason.Reason.{Reason}
use Rattle.ws_session.specs.declared.reason.Reason.TheVariants.{ReservedBits, Opcode, ControlCut, ControlLong, NothingToContinue, MessageOpen, TooBig, FrameBig, NotText, TextCut, CloseOneByte, CloseCode, CloseReason}
use Rattle.ws_session.specs.Limits.{LimitsValue}
use Rattle.ws_session.specs.Messages.{is_control, is_close}
use Rattle.ws_session.specs.Faults.{open_payload, Applies, AppliesInPayload}
use Rattle.ws_session.specs.InnerNextFrame.{header_of, HasNoFaultOfNext}
use Rattle.std.proofs.Common.{eqb-true}
use Rattle.std.proofs.lemmas.Bool.{leb-true, le-leb, cases_eq}
use Rattle.ws_text.specs.Close.{CloseValue, IsClosePayload, CodeAllowed, HoldsCode}
use Rattle.ws_session.specs.Validity.{IsValidAlone}
use Rattle.ws_session.specs.Faults.{IsOpenText, IsControl}
use Rattle.ws_session.proofs.Frames.{one_or_two, none_or_some}
use Rattle.ws_session.proofs.Valid.{no_both, FrameOfText, IsValidNext}
use Rattle.ws_session.proofs.FineFrames.{begins_nothing, code_fits, make_value, one_or_two_is, reason_short, text_frame_or_not, two_bytes_are}

pub nothing_masked : (k : Option (List ℕ)) (l : List ℕ) → l ≡ masked_payload k [] ++ l
nothing_masked None l = refl
nothing_masked (Some k) l = refl

module _ (role : Role) (limits : LimitsValue) (opened : Option Message) (x : KeyedFrame) (can : FitsTheLayout x) (fine : HasNoFaultOfNext role limits opened (frame_bytes x)) where
  is_header : IsHeader (header_of x)
  is_header = (sent_is_wire x can).header

  -- nothing applies to the frame
  never : (r : Reason) → Applies role limits opened (header_of x) [] r → ⊥
  never r a = fine (length (header_bytes (header_of x)) + 0) r (record {
    header = header_of x;
    is_header = is_header;
    payload = [];
    are_bytes = λ i. omega arith;
    within = omega arith;
    rest = masked_payload x.key x.frame.payload;
    parts = ap (λ (l : List ℕ). header_bytes (header_of x) ++ l) (nothing_masked x.key (masked_payload x.key x.frame.payload));
    is_place = refl;
    applies = a;
  })

  never_whole : (r : Reason) → AppliesInPayload opened (header_of x) x.frame.payload r → ⊥
  never_whole r a = fine (length (header_bytes (header_of x)) + length x.frame.payload) r (record {
    header = header_of x;
    is_header = is_header;
    payload = x.frame.payload;
    are_bytes = can.payload;
    within = omega arith;
    rest = [];
    parts = ap (λ (l : List ℕ). header_bytes (header_of x) ++ l) (sym (append-nil (masked_payload x.key x.frame.payload)));
    is_place = refl;
    applies = inr a;
  })

  opcode_is : (x.frame.opcode ≤ 2) ⊎ ((8 ≤ x.frame.opcode) × (x.frame.opcode ≤ 10))
  opcode_is =
      elim (cases_lt x.frame.opcode 3) [
        | inl small ↦ inl (omega arith)
        | inr three ↦ elim (cases_lt x.frame.opcode 8) [
          | inl mid ↦ absurd (never Opcode (inl (refl, inl (three, omega arith))))
          | inr eight ↦ elim (cases_lt x.frame.opcode 11) [ inl control ↦ inr (eight, omega arith) | inr big ↦ absurd (never Opcode (inl (refl, inr big))) ]
        ]
      ]

  control_to : is_control x.frame ≡ true → IsControl (header_of x)
  control_to e = let big : 8 ≤ x.frame.opcode = leb-true 8 x.frame.opcode e in elim opcode_is [ inl small ↦ absurd (omega (arith, small, big)) | inr c ↦ c ]

  true_of : (b : Bool) → (b ≡ false → ⊥) → b ≡ true
  true_of true h = refl
  true_of false h = absurd (h refl)

  pub alone_is : IsValidAlone x.frame
  alone_is = record {
    rsv = elim (cases_eq x.frame.rsv 0) [ inl e ↦ e | inr other ↦ absurd (never ReservedBits (inl (refl, other))) ];
    opcode = opcode_is;
    control = λ e. (true_of x.frame.fin (λ f. never ControlCut (inl (refl, (control_to e, f)))), elim (cases_lt 125 (length x.frame.payload)) [ inl long ↦ absurd (never ControlLong (inl (refl, (control_to e, long)))) | inr short ↦ short ]);
  }

  size_is : x.frame.opcode ≤ 2 → length (open_payload opened) + length x.frame.payload ≤ limits.max_message
  size_is le = elim (cases_lt limits.max_message (length (open_payload opened) + length x.frame.payload)) [ inl big ↦ absurd (never TooBig (inl (refl, (le, big)))) | inr fits ↦ fits ]

  frame_is : x.frame.opcode ≤ 2 → length x.frame.payload ≤ limits.max_frame
  frame_is le = elim (cases_lt limits.max_frame (length x.frame.payload)) [ inl big ↦ absurd (never FrameBig (inl (refl, (le, big)))) | inr fits ↦ fits ]

  begins_is : 1 ≤ x.frame.opcode → x.frame.opcode ≤ 2 → opened ≡ None
  begins_is one two = none_or_some opened (λ some. never MessageOpen (inl (refl, (one_or_two x.frame.opcode two one, some))))

  -- ---- what can only be refuted

  some_byte : (p : List ℕ) → (p ≡ []) ⊎ (0 < length p)
  some_byte [] = inl refl
  some_byte (b ∷ p) = inr (omega arith)

  not_never_begins : FrameOfText opened x.frame → BeginsText (open_payload opened) → (BeginsText (open_payload opened ++ x.frame.payload) → ⊥) → ⊥
  not_never_begins is open_begins h =
      elim (some_byte x.frame.payload) [
        | inl none ↦ h (subst (λ (l : List ℕ). BeginsText l) (sym (ap (λ (l : List ℕ). open_payload opened ++ l) none ∙ append-nil (open_payload opened))) open_begins)
        | inr some ↦ never_whole NotText (is, some, h)
      ]

  not_never_text : FrameOfText opened x.frame → x.frame.fin ≡ true → BeginsText (open_payload opened ++ x.frame.payload) → (IsText (open_payload opened ++ x.frame.payload) → ⊥) → ⊥
  not_never_text is fin begins h = never_whole TextCut (is, fin, refl, begins, h)

  held : (a b : ℕ) (reason : List ℕ) → a ∷ b ∷ reason ≡ x.frame.payload → HoldsCode x.frame.payload (make_value (256 * a + b) reason)
  held a b reason is =
      let high : a < 256 = subst (λ (l : List ℕ). get_or l 0 0 < 256) (sym is) (can.payload 0) in
      let low : b < 256 = subst (λ (l : List ℕ). get_or l 1 0 < 256) (sym is) (can.payload 1) in
      record { fits = code_fits a b high low; bytes = sym is ∙ two_bytes_are a b reason high low }

  -- its code is allowed
  pub not_never_code : x.frame.opcode ≡ 8 → (a b : ℕ) (reason : List ℕ) → a ∷ b ∷ reason ≡ x.frame.payload → (CodeAllowed (256 * a + b) → ⊥) → ⊥
  not_never_code e a b reason is h = never_whole CloseCode (e, refl, (make_value (256 * a + b) reason, held a b reason is, h))

  not_never_close : x.frame.opcode ≡ 8 → (p : List ℕ) → p ≡ x.frame.payload → length p ≤ 125 → ((c : Option CloseValue) × IsClosePayload p c → ⊥) → ⊥
  not_never_close e [] is short h = h (None, refl)
  not_never_close e (a ∷ []) is short h = never_whole CloseOneByte (e, refl, ap (λ (l : List ℕ). length l) (sym is))
  not_never_close e (a ∷ b ∷ reason) is short h =
      let close = make_value (256 * a + b) reason in
      let holds = held a b reason is in
      not_never_code e a b reason is (λ allowed.
      never_whole CloseReason (e, refl, (close, holds, λ text. h (Some close, (record { code = allowed; reason = text; short = reason_short a b reason short }, is ∙ holds.bytes)))))

  of_text_or_not : FrameOfText opened x.frame ⊎ (FrameOfText opened x.frame → ⊥)
  of_text_or_not = text_frame_or_not opened x.frame.opcode

  open_text_begins : (IsOpenText opened → BeginsText (open_payload opened)) → FrameOfText opened x.frame → BeginsText (open_payload opened)
  open_text_begins h (inl one) = let n = one_or_two_is x.frame.opcode (inl one) in subst (λ (o : Option Message). BeginsText (open_payload o)) (sym (begins_is n.0 n.1)) begins_nothing
  open_text_begins h (inr zero_open) = h zero_open.1

  close_or_never : (((is_close x.frame ≡ true) → (c : Option CloseValue) × IsClosePayload x.frame.payload c) → ⊥) → ⊥
  close_or_never h =
      elim (cases_eq x.frame.opcode 8) [
        | inr other ↦ h (λ e. absurd (other (eqb-true x.frame.opcode 8 e)))
        | inl eight ↦ not_never_close eight x.frame.payload refl (alone_is.control (le-leb 8 x.frame.opcode (omega (arith, eight)))).1 (λ c. h (λ e. c))
      ]

  whole_or_never : (b : Bool) → x.frame.fin ≡ b → FrameOfText opened x.frame → BeginsText (open_payload opened ++ x.frame.payload) → ((x.frame.fin ≡ true → IsText (open_payload opened ++ x.frame.payload)) → ⊥) → ⊥
  whole_or_never true fin is begins h = not_never_text is fin begins (λ text. h (λ e. text))
  whole_or_never false fin is begins h = h (λ e. absurd (no_both x.frame.fin e fin))

  text_or_never : (IsOpenText opened → BeginsText (open_payload opened)) → ((FrameOfText opened x.frame → BeginsText (open_payload opened ++ x.frame.payload)) → (FrameOfText opened x.frame → x.frame.fin ≡ true → IsText (open_payload opened ++ x.frame.payload)) → ⊥) → ⊥
  text_or_never open_begins h =
      elim of_text_or_not [
        | inr other ↦ h (λ is. absurd (other is)) (λ is. absurd (other is))
        | inl is ↦ not_never_begins is (open_text_begins open_begins is) (λ begins. whole_or_never x.frame.fin refl is begins (λ text. h (λ same. begins) (λ same fin. text fin)))
      ]

  pub fine_is_valid : (IsOpenText opened → BeginsText (open_payload opened)) → (IsValidNext limits opened x.frame → ⊥) → ⊥
  fine_is_valid open_begins h =
      close_or_never (λ close. text_or_never open_begins (λ text whole. h (record {
        alone = alone_is;
        close = close;
        goes_on = λ e none. never NothingToContinue (inl (refl, (e, none)));
        begins = begins_is;
        size = size_is;
        frame = frame_is;
        text = text;
        whole = whole;
      })))
