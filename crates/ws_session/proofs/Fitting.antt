-- Frames up to the first that passes a limit.
use Rattle.std.proofs.Common.{◌≡◌, ℕ, ◌+◌, ◌<◌, ◌≤◌, ◌⊎◌, Bool, true, false, cond, List, [], ◌∷◌, ◌++◌, length, Option, Some, None, refl, sym, ap, ◌∙◌, append_assoc, arith, inl, inr, subst}
use Rattle.std.specs.Prelude.{not, ◌&&◌, ◌||◌, nat_lt}
use Rattle.std.proofs.lemmas.Bool.{cases_lt, lt-ltb, ltb-true, lt-leb}
use Rattle.std.proofs.lemmas.List.{append-nil, map-append}
use Rattle.ws_wire.specs.Frame.{Frame, KeyedFrame}
use Rattle.ws_session.specs.declared.message.Message.{Message}
use Rattle.ws_session.specs.declared.reason.Reason.{Reason}
use Rattle.ws_session.specs.Limits.{LimitsValue}
use Rattle.ws_session.specs.Messages.{is_control, open_message_of}
use Rattle.ws_session.specs.Validity.{IsValidAlone, AreValidFrames}
use Rattle.ws_session.specs.Faults.{frames_of, open_payload}
use Rattle.ws_session.specs.Reach.{is_message_too_big, passes_limit, size_reason, PassingFrame, fitting_after, fitting, first_passing_after, first_passing}
use Rattle.ws_session.proofs.Valid.{IsValidNext, ValidFront, valid_front, valid_snoc, data_opcode}

-- ---- what fits is valid under the limit

valid_prefix : (limits : LimitsValue) (fs gs : List Frame) → AreValidFrames limits (fs ++ gs) → AreValidFrames limits fs
valid_prefix limits fs [] v = subst (λ (l : List Frame). AreValidFrames limits l) (append-nil fs) v
valid_prefix limits fs (g ∷ gs) v = (valid_front limits fs g (valid_prefix limits (fs ++ g ∷ []) gs (subst (λ (l : List Frame). AreValidFrames limits l) (sym (append_assoc fs (g ∷ []) gs)) v))).before

-- each frame is valid behind those before it
pub valid_at : (limits : LimitsValue) (fs : List Frame) (g : Frame) (gs : List Frame) → AreValidFrames limits (fs ++ g ∷ gs) → ValidFront limits fs g
valid_at limits fs g gs v = valid_front limits fs g (valid_prefix limits (fs ++ g ∷ []) gs (subst (λ (l : List Frame). AreValidFrames limits l) (sym (append_assoc fs (g ∷ []) gs)) v))

not_and : (c d : Bool) → c ≡ false → not c && d ≡ d
not_and c d e = ap (λ b. not b && d) e

none_of_two : (c d : Bool) → c || d ≡ false → (c ≡ false) × (d ≡ false)
none_of_two true d h = absurd cc
none_of_two false d h = (refl, h)

fits_limit : (limit size : ℕ) → nat_lt limit size ≡ false → size ≤ limit
fits_limit limit size e = elim (cases_lt limit size) [ inl big ↦ let no : true ≡ false = sym (lt-ltb limit size big) ∙ e in absurd cc | inr fits ↦ fits ]

-- a frame that passes no limit
fits_next : (limits most : LimitsValue) (before : List Frame) (f : Frame) → passes_limit limits before f ≡ false → IsValidNext most (open_message_of before) f → IsValidNext limits (open_message_of before) f
fits_next limits most before f e v =
    let big = is_message_too_big limits before f || nat_lt limits.max_frame (length f.payload) in
    let none : f.opcode ≤ 2 → (is_message_too_big limits before f ≡ false) × (nat_lt limits.max_frame (length f.payload) ≡ false) =
    λ le. none_of_two (is_message_too_big limits before f) (nat_lt limits.max_frame (length f.payload)) (sym (not_and (is_control f) big (lt-leb 8 f.opcode (omega arith))) ∙ e) in
    record {
      alone = v.alone;
      close = v.close;
      goes_on = v.goes_on;
      begins = v.begins;
      size = λ le. fits_limit limits.max_message (length (open_payload (open_message_of before)) + length f.payload) (none le).0;
      frame = λ le. fits_limit limits.max_frame (length f.payload) (none le).1;
      text = v.text;
      whole = v.whole;
    }

-- and one that does: it is a data frame, and what is told of it is so
abbrev pub PassesBy : Bool → LimitsValue → Option Message → Frame → Type 0
PassesBy true limits opened f = limits.max_message < length (open_payload opened) + length f.payload
PassesBy false limits opened f = (length (open_payload opened) + length f.payload ≤ limits.max_message) × (limits.max_frame < length f.payload)

passes_which : (c d : Bool) (limits : LimitsValue) (before : List Frame) (f : Frame) → is_message_too_big limits before f ≡ c → nat_lt limits.max_frame (length f.payload) ≡ d → c || d ≡ true → PassesBy c limits (open_message_of before) f
passes_which true d limits before f e g h = ltb-true limits.max_message (length (open_payload (open_message_of before)) + length f.payload) e
passes_which false true limits before f e g h = (fits_limit limits.max_message (length (open_payload (open_message_of before)) + length f.payload) e, ltb-true limits.max_frame (length f.payload) g)
passes_which false false limits before f e g h = absurd cc

pub passes_by : (c : Bool) (limits : LimitsValue) (before : List Frame) (f : Frame) → is_control f ≡ c → passes_limit limits before f ≡ true → IsValidAlone f
    → (f.opcode ≤ 2) × PassesBy (is_message_too_big limits before f) limits (open_message_of before) f
passes_by true limits before f is e alone =
    let big = is_message_too_big limits before f || nat_lt limits.max_frame (length f.payload) in
    let no : false ≡ true = sym (ap (λ b. not b && big) is) ∙ e in absurd cc
passes_by false limits before f is e alone =
    let big = is_message_too_big limits before f || nat_lt limits.max_frame (length f.payload) in
    (data_opcode f is alone, passes_which (is_message_too_big limits before f) (nat_lt limits.max_frame (length f.payload)) limits before f refl refl (sym (not_and (is_control f) big is) ∙ e))

fitting_step : (b : Bool) (limits most : LimitsValue) (before : List Frame) (x : KeyedFrame) (ys : List KeyedFrame) → passes_limit limits before x.frame ≡ b → ValidFront most before x.frame → AreValidFrames limits before
    → (AreValidFrames limits (before ++ x.frame ∷ []) → AreValidFrames limits ((before ++ x.frame ∷ []) ++ frames_of ys)) → AreValidFrames limits (before ++ frames_of (cond b [] (x ∷ ys)))
fitting_step true limits most before x ys e at v h = subst (λ (l : List Frame). AreValidFrames limits l) (sym (append-nil before)) v
fitting_step false limits most before x ys e at v h =
    subst (λ (l : List Frame). AreValidFrames limits l) (append_assoc before (x.frame ∷ []) (frames_of ys)) (h (valid_snoc limits before x.frame v at.none (fits_next limits most before x.frame e at.next)))

pub fitting_valid : (limits most : LimitsValue) (before : List Frame) (xs : List KeyedFrame) → AreValidFrames most (before ++ frames_of xs) → AreValidFrames limits before → AreValidFrames limits (before ++ frames_of (fitting_after limits before xs))
fitting_valid limits most before [] all v = subst (λ (l : List Frame). AreValidFrames limits l) (sym (append-nil before)) v
fitting_valid limits most before (x ∷ xs) all v =
    let after = before ++ x.frame ∷ [] in
    fitting_step (passes_limit limits before x.frame) limits most before x (fitting_after limits after xs) refl (valid_at most before x.frame (frames_of xs) all) v
    (λ next. fitting_valid limits most after xs (subst (λ (l : List Frame). AreValidFrames most l) (sym (append_assoc before (x.frame ∷ []) (frames_of xs))) all) next)

-- ---- the first frame that passes the limit

abbrev pub passing_frame : KeyedFrame → Reason → PassingFrame
passing_frame frame reason = record { frame = frame; reason = reason }

pub record IsPassing (limits : LimitsValue) (before : List Frame) (xs fits : List KeyedFrame) (first : Option PassingFrame) : Type 0 where
  pub frame : KeyedFrame
  pub more : List KeyedFrame
  pub parts : xs ≡ fits ++ frame ∷ more
  pub is_first : first ≡ Some (passing_frame frame (size_reason limits (before ++ frames_of fits) frame.frame))
  pub passes : passes_limit limits (before ++ frames_of fits) frame.frame ≡ true

abbrev pub AllFit : List KeyedFrame → List KeyedFrame → Option PassingFrame → Type 0
AllFit xs fits first = (fits ≡ xs) × (first ≡ None)

passing_step : (b : Bool) (limits : LimitsValue) (before : List Frame) (x : KeyedFrame) (xs fits : List KeyedFrame) (first : Option PassingFrame) → passes_limit limits before x.frame ≡ b
    → AllFit xs fits first ⊎ IsPassing limits (before ++ x.frame ∷ []) xs fits first → AllFit (x ∷ xs) (cond b [] (x ∷ fits)) (cond b (Some (passing_frame x (size_reason limits before x.frame))) first) ⊎ IsPassing limits before (x ∷ xs) (cond b [] (x ∷ fits)) (cond b (Some (passing_frame x (size_reason limits before x.frame))) first)
passing_step true limits before x xs fits first e h = inr (record { frame = x; more = xs; parts = refl; is_first = ap (λ (l : List Frame). Some (passing_frame x (size_reason limits l x.frame))) (sym (append-nil before)); passes = ap (λ (l : List Frame). passes_limit limits l x.frame) (append-nil before) ∙ e })
passing_step false limits before x xs fits first e (inl t) = inl (ap (λ (l : List KeyedFrame). x ∷ l) t.0, t.1)
passing_step false limits before x xs fits first e (inr p) = inr (record {
  frame = p.frame;
  more = p.more;
  parts = ap (λ (l : List KeyedFrame). x ∷ l) p.parts;
  is_first = p.is_first ∙ ap (λ (l : List Frame). Some (passing_frame p.frame (size_reason limits l p.frame.frame))) (append_assoc before (x.frame ∷ []) (frames_of fits));
  passes = ap (λ (l : List Frame). passes_limit limits l p.frame.frame) (sym (append_assoc before (x.frame ∷ []) (frames_of fits))) ∙ p.passes;
})

pub all_fit_or_not : (limits : LimitsValue) (before : List Frame) (xs : List KeyedFrame) → AllFit xs (fitting_after limits before xs) (first_passing_after limits before xs) ⊎ IsPassing limits before xs (fitting_after limits before xs) (first_passing_after limits before xs)
all_fit_or_not limits before [] = inl (refl, refl)
all_fit_or_not limits before (x ∷ xs) =
    let after = before ++ x.frame ∷ [] in
    passing_step (passes_limit limits before x.frame) limits before x xs (fitting_after limits after xs) (first_passing_after limits after xs) refl (all_fit_or_not limits after xs)

-- the frame that passes it is valid behind those before
pub passing_valid : (most : LimitsValue) (xs fits : List KeyedFrame) (x : KeyedFrame) (more : List KeyedFrame) → xs ≡ fits ++ x ∷ more → AreValidFrames most (frames_of xs) → ValidFront most (frames_of fits) x.frame
passing_valid most xs fits x more parts valid =
    valid_at most (frames_of fits) x.frame (frames_of more) (subst (λ (l : List Frame). AreValidFrames most l) (ap (λ (l : List KeyedFrame). frames_of l) parts ∙ map-append (λ (y : KeyedFrame). y.frame) fits (x ∷ more)) valid)

-- none of frames that keep to limits passes greater ones
passes_no_greater : (b : Bool) (limits most : LimitsValue) (opened : Option Message) (f : Frame) → PassesBy b limits opened f → length (open_payload opened) + length f.payload ≤ most.max_message → length f.payload ≤ most.max_frame
    → most.max_message ≤ limits.max_message → most.max_frame ≤ limits.max_frame → ⊥
passes_no_greater true limits most opened f passes size frame message_limit frame_limit = omega (arith, passes, size, message_limit)
passes_no_greater false limits most opened f passes size frame message_limit frame_limit = omega (arith, passes.1, frame, frame_limit)

pub none_passes : (limits most : LimitsValue) (xs : List KeyedFrame) → AreValidFrames most (frames_of xs) → most.max_message ≤ limits.max_message → most.max_frame ≤ limits.max_frame → AllFit xs (fitting limits xs) (first_passing limits xs)
none_passes limits most xs valid message_limit frame_limit =
    elim (all_fit_or_not limits [] xs) [
      | inl all ↦ all
      | inr p ↦
          let before = frames_of (fitting limits xs) in
          let next = (passing_valid most xs (fitting limits xs) p.frame p.more p.parts valid).next in
          let passes = passes_by (is_control p.frame.frame) limits before p.frame.frame refl p.passes next.alone in
          absurd (passes_no_greater (is_message_too_big limits before p.frame.frame) limits most (open_message_of before) p.frame.frame passes.1 (next.size passes.0) (next.frame passes.0) message_limit frame_limit)
    ]
