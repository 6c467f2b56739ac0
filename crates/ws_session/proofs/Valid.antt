-- Valid frames, one after the other: each is valid behind those before it.
use Rattle.std.proofs.Common.{◌≡◌, ◌≢◌, ℕ, ◌+◌, ◌<◌, ◌≤◌, ◌⊎◌, Bool, true, false, List, [], ◌∷◌, ◌++◌, length, Option, None, refl, sym, ap, ◌∙◌, arith, inl, inr, subst}
use Rattle.std.specs.List.{AllByRecursion}
use Rattle.std.proofs.lemmas.Bool.{cases_lt}
use Rattle.std.proofs.lemmas.List.{length-append, append-nil}
use Rattle.std.proofs.lemmas.Grind.{flat_map-append}
use Rattle.ws_wire.specs.Frame.{Frame}
use Rattle.ws_text.specs.Text.{IsText, BeginsText}
use Rattle.ws_session.specs.declared.message.Kind.TheVariants.{Text}
use Rattle.ws_session.specs.declared.message.Message.{Message}
use Rattle.ws_session.specs.Limits.{LimitsValue}
use Rattle.ws_session.specs.Messages.{is_control, is_close, data_frames, Groups, groups_of, kind_of, first_opcode, joined_payload, message_if_any, open_message_of}
use Rattle.ws_session.specs.Faults.{open_payload}
use Rattle.std.proofs.lemmas.Bool.{leb-false, leb-true}
use Rattle.ws_text.specs.Close.{CloseValue, IsClosePayload}
use Rattle.ws_session.specs.Messages.{Groups, kind_of, first_opcode, joined_payload, message_if_any}
use Rattle.ws_session.specs.Validity.{IsValidAlone, CloseIsLast, IsContinuation, IsGroup, IsValidGroup, AreValidFrames, FitsTheFrameLimit}
use Rattle.ws_session.specs.Faults.{IsOpenText}
use Rattle.ws_wire.proofs.Splits.{all-append}
use Rattle.ws_session.proofs.OpenMessage.{groups_control, groups_end, groups_more}
use Rattle.ws_session.proofs.Frames.{one_or_two}
use Rattle.ws_session.proofs.Payloads.{begins_front, text_of, text_if, kind_is_text}

pub no_both : (b : Bool) → b ≡ true → b ≡ false → ⊥
no_both b e f = let both : true ≡ false = sym e ∙ f in absurd cc

pub false_of : (b : Bool) → (b ≡ true → ⊥) → b ≡ false
false_of true h = absurd (h refl)
false_of false h = refl

-- the frame belongs to a text message
abbrev pub FrameOfText : Option Message → Frame → Type 0
FrameOfText opened f = (f.opcode ≡ 1) ⊎ ((f.opcode ≡ 0) × IsOpenText opened)

-- what keeps frames valid that leave this message open
pub record IsValidNext (limits : LimitsValue) (opened : Option Message) (f : Frame) : Type 0 where
  pub alone : IsValidAlone f
  pub close : is_close f ≡ true → (c : Option CloseValue) × IsClosePayload f.payload c
  pub goes_on : f.opcode ≡ 0 → opened ≢ None
  pub begins : 1 ≤ f.opcode → f.opcode ≤ 2 → opened ≡ None
  pub size : f.opcode ≤ 2 → length (open_payload opened) + length f.payload ≤ limits.max_message
  pub frame : FitsTheFrameLimit limits f
  pub text : FrameOfText opened f → BeginsText (open_payload opened ++ f.payload)
  pub whole : FrameOfText opened f → f.fin ≡ true → IsText (open_payload opened ++ f.payload)

-- ---- a group with one more frame

open_of : (u : List Frame) → open_payload (message_if_any u) ≡ joined_payload u
open_of [] = refl
open_of (g ∷ gs) = refl

joined_snoc : (u : List Frame) (f : Frame) → joined_payload (u ++ f ∷ []) ≡ open_payload (message_if_any u) ++ f.payload
joined_snoc u f = flat_map-append (λ (x : Frame). x.payload) u (f ∷ []) ∙ ap (λ (l : List ℕ). joined_payload u ++ l) (append-nil f.payload) ∙ ap (λ (l : List ℕ). l ++ f.payload) (sym (open_of u))

size_snoc : (u : List Frame) (f : Frame) → length (joined_payload (u ++ f ∷ [])) ≡ length (open_payload (message_if_any u)) + length f.payload
size_snoc u f = ap (λ (l : List ℕ). length l) (joined_snoc u f) ∙ length-append (open_payload (message_if_any u)) f.payload

group_snoc : (limits : LimitsValue) (u : List Frame) (f : Frame) → IsGroup u → IsValidNext limits (message_if_any u) f → f.opcode ≤ 2 → IsGroup (u ++ f ∷ [])
group_snoc limits [] f g n le = elim (cases_lt f.opcode 1) [ inl zero_only ↦ absurd (n.goes_on (omega arith) refl) | inr one ↦ (one_or_two f.opcode le one, tt) ]
group_snoc limits (x ∷ u) f g n le =
    elim (cases_lt f.opcode 1) [
      | inl zero_only ↦ let e : f.opcode ≡ 0 = omega arith in (g.0, all-append IsContinuation u (f ∷ []) g.1 (e, tt))
      | inr one ↦ let e = n.begins one le in absurd cc
    ]

last_continues : (u : List Frame) (f : Frame) → AllByRecursion IsContinuation (u ++ f ∷ []) → f.opcode ≡ 0
last_continues [] f h = h.0
last_continues (x ∷ u) f h = last_continues u f h.1

front_continues : (u : List Frame) (f : Frame) → AllByRecursion IsContinuation (u ++ f ∷ []) → AllByRecursion IsContinuation u
front_continues [] f h = tt
front_continues (x ∷ u) f h = (h.0, front_continues u f h.1)

kind_snoc : (u : List Frame) (f : Frame) → IsGroup (u ++ f ∷ []) → kind_of (first_opcode (u ++ f ∷ [])) ≡ Text → FrameOfText (message_if_any u) f
kind_snoc [] f g e = inl (kind_is_text f.opcode e)
kind_snoc (x ∷ u) f g e = inr (last_continues u f g.1, e)

of_text_kind : (u : List Frame) (f : Frame) → IsGroup (u ++ f ∷ []) → FrameOfText (message_if_any u) f → kind_of (first_opcode (u ++ f ∷ [])) ≡ Text
of_text_kind [] f g (inl one) = ap (λ n. kind_of n) one
of_text_kind [] f g (inr zero_open) = absurd zero_open.1
of_text_kind (x ∷ u) f g (inl one) = let e = last_continues u f g.1 in absurd (omega (arith, e, one))
of_text_kind (x ∷ u) f g (inr zero_open) = zero_open.1

valid_group_snoc : (R : List ℕ → Type 0) (limits : LimitsValue) (u : List Frame) (f : Frame) → IsValidGroup BeginsText limits u → IsValidNext limits (message_if_any u) f → f.opcode ≤ 2 → (FrameOfText (message_if_any u) f → R (open_payload (message_if_any u) ++ f.payload)) → IsValidGroup R limits (u ++ f ∷ [])
valid_group_snoc R limits u f v n le r =
    let group = group_snoc limits u f v.frames n le in
    record {
      frames = group;
      size = omega (arith, size_snoc u f, n.size le);
      text = text_if (kind_of (first_opcode (u ++ f ∷ []))) (R (joined_payload (u ++ f ∷ []))) (λ e. subst R (sym (joined_snoc u f)) (r (kind_snoc u f group e)));
    }

-- and back
record GroupFront (R : List ℕ → Type 0) (limits : LimitsValue) (u : List Frame) (f : Frame) : Type 0 where
  pub front : IsValidGroup BeginsText limits u
  pub goes_on : f.opcode ≡ 0 → message_if_any u ≢ None
  pub begins : 1 ≤ f.opcode → message_if_any u ≡ None
  pub size : length (open_payload (message_if_any u)) + length f.payload ≤ limits.max_message
  pub text : FrameOfText (message_if_any u) f → R (open_payload (message_if_any u) ++ f.payload)

text_snoc : (R : List ℕ → Type 0) (limits : LimitsValue) (u : List Frame) (f : Frame) → IsValidGroup R limits (u ++ f ∷ []) → FrameOfText (message_if_any u) f → R (open_payload (message_if_any u) ++ f.payload)
text_snoc R limits u f v is = subst R (joined_snoc u f) (text_of (kind_of (first_opcode (u ++ f ∷ []))) (R (joined_payload (u ++ f ∷ []))) (of_text_kind u f v.frames is) v.text)

group_front : (R : List ℕ → Type 0) → ((l : List ℕ) → R l → BeginsText l) → (limits : LimitsValue) (u : List Frame) (f : Frame) → IsValidGroup R limits (u ++ f ∷ []) → GroupFront R limits u f
group_front R to limits [] f v = record {
  front = record { frames = tt; size = omega arith; text = tt };
  goes_on = λ zero_is. elim v.frames.0 [ inl one ↦ absurd (omega (arith, one, zero_is)) | inr two ↦ absurd (omega (arith, two, zero_is)) ];
  begins = λ one. refl;
  size = omega (arith, size_snoc [] f, v.size);
  text = text_snoc R limits [] f v;
}
group_front R to limits (x ∷ u) f v =
    let zero_is = last_continues u f v.frames.1 in
    let same = joined_snoc (x ∷ u) f in
    record {
      front = record {
        frames = (v.frames.0, front_continues u f v.frames.1);
        size = omega (arith, size_snoc (x ∷ u) f, v.size);
        text = text_if (kind_of x.opcode) (BeginsText (joined_payload (x ∷ u))) (λ e. begins_front (joined_payload (x ∷ u)) f.payload (subst (λ (l : List ℕ). BeginsText l) same (to (joined_payload (x ∷ u ++ f ∷ [])) (text_of (kind_of x.opcode) (R (joined_payload (x ∷ u ++ f ∷ []))) e v.text))));
      };
      goes_on = λ e none. absurd cc;
      begins = λ one. absurd (omega (arith, one, zero_is));
      size = omega (arith, size_snoc (x ∷ u) f, v.size);
      text = text_snoc R limits (x ∷ u) f v;
    }

-- ---- the groups of all frames

abbrev GoodGroups : LimitsValue → Groups → Type 0
GoodGroups limits g = AllByRecursion (IsValidGroup IsText limits) g.finished × IsValidGroup BeginsText limits g.unfinished

abbrev pub NoneCloses : List Frame → Type 0
NoneCloses fs = AllByRecursion (λ (f : Frame). is_close f ≡ false) fs

no_group : (limits : LimitsValue) → IsValidGroup BeginsText limits []
no_group limits = record { frames = tt; size = omega arith; text = tt }

data_by : (f : Frame) → f.opcode < 8 → (f.opcode ≤ 2) ⊎ ((8 ≤ f.opcode) × (f.opcode ≤ 10)) → f.opcode ≤ 2
data_by f lt (inl le) = le
data_by f lt (inr big) = absurd (omega (arith, big.0))

pub data_opcode : (f : Frame) → is_control f ≡ false → IsValidAlone f → f.opcode ≤ 2
data_opcode f e a = data_by f (leb-false 8 f.opcode e) a.opcode

good_snoc : (limits : LimitsValue) (fs : List Frame) (f : Frame) (b c : Bool) → is_control f ≡ b → f.fin ≡ c → GoodGroups limits (groups_of (data_frames fs)) → IsValidNext limits (open_message_of fs) f → GoodGroups limits (groups_of (data_frames (fs ++ f ∷ [])))
good_snoc limits fs f true c e fin g n = subst (λ (x : Groups). GoodGroups limits x) (sym (groups_control fs f e)) g
good_snoc limits fs f false true e fin g n =
    let u = (groups_of (data_frames fs)).unfinished in
    let group : IsValidGroup IsText limits (u ++ f ∷ []) = valid_group_snoc IsText limits u f g.1 n (data_opcode f e n.alone) (λ is. n.whole is fin) in
    subst (λ (x : Groups). GoodGroups limits x) (sym (groups_end fs f e fin)) (all-append (IsValidGroup IsText limits) (groups_of (data_frames fs)).finished ((u ++ f ∷ []) ∷ []) g.0 (group, tt), no_group limits)
good_snoc limits fs f false false e fin g n =
    let u = (groups_of (data_frames fs)).unfinished in
    subst (λ (x : Groups). GoodGroups limits x) (sym (groups_more fs f e fin)) (g.0, valid_group_snoc BeginsText limits u f g.1 n (data_opcode f e n.alone) (λ is. n.text is))

close_snoc : (fs : List Frame) (f : Frame) → NoneCloses fs → (is_close f ≡ true → (c : Option CloseValue) × IsClosePayload f.payload c) → CloseIsLast (fs ++ f ∷ [])
close_snoc [] f none h = (λ e. (refl, h e), tt)
close_snoc (x ∷ fs) f none h = (λ e. absurd (no_both (is_close x) e none.0), close_snoc fs f none.1 h)

-- one more frame
pub valid_snoc : (limits : LimitsValue) (fs : List Frame) (f : Frame) → AreValidFrames limits fs → NoneCloses fs → IsValidNext limits (open_message_of fs) f → AreValidFrames limits (fs ++ f ∷ [])
valid_snoc limits fs f v none n =
    let g = good_snoc limits fs f (is_control f) f.fin refl refl (v.finished, v.unfinished) n in
    record { each = all-append IsValidAlone fs (f ∷ []) v.each (n.alone, tt); sizes = all-append (FitsTheFrameLimit limits) fs (f ∷ []) v.sizes (n.frame, tt); close = close_snoc fs f none n.close; finished = g.0; unfinished = g.1 }

-- ---- and back

pub all_before : {X : Type 0} (P : X → Type 0) (xs : List X) (x : X) → AllByRecursion P (xs ++ x ∷ []) → AllByRecursion P xs × P x
all_before P [] x h = (tt, h.0)
all_before P (y ∷ xs) x h = let t = all_before P xs x h.1 in ((h.0, t.0), t.1)

record CloseFront (fs : List Frame) (f : Frame) : Type 0 where
  pub none : NoneCloses fs
  pub before : CloseIsLast fs
  pub last : is_close f ≡ true → (c : Option CloseValue) × IsClosePayload f.payload c

pub not_empty : (fs : List Frame) (f : Frame) → fs ++ f ∷ [] ≡ [] → ⊥
not_empty [] f e = absurd cc
not_empty (x ∷ fs) f e = absurd cc

close_front : (fs : List Frame) (f : Frame) → CloseIsLast (fs ++ f ∷ []) → CloseFront fs f
close_front [] f h = record { none = tt; before = tt; last = λ e. (h.0 e).1 }
close_front (x ∷ fs) f h =
    let t = close_front fs f h.1 in
    let never : is_close x ≡ false = false_of (is_close x) (λ e. not_empty fs f (h.0 e).0) in
    record { none = (never, t.none); before = (λ e. absurd (no_both (is_close x) e never), t.before); last = t.last }

record GoodFront (limits : LimitsValue) (fs : List Frame) (f : Frame) : Type 0 where
  pub before : GoodGroups limits (groups_of (data_frames fs))
  pub goes_on : f.opcode ≡ 0 → open_message_of fs ≢ None
  pub begins : 1 ≤ f.opcode → f.opcode ≤ 2 → open_message_of fs ≡ None
  pub size : f.opcode ≤ 2 → length (open_payload (open_message_of fs)) + length f.payload ≤ limits.max_message
  pub text : FrameOfText (open_message_of fs) f → BeginsText (open_payload (open_message_of fs) ++ f.payload)
  pub whole : FrameOfText (open_message_of fs) f → f.fin ≡ true → IsText (open_payload (open_message_of fs) ++ f.payload)

control_of_text : (opened : Option Message) (f : Frame) → 8 ≤ f.opcode → FrameOfText opened f → ⊥
control_of_text opened f le (inl one) = omega (arith, one, le)
control_of_text opened f le (inr zero_open) = omega (arith, zero_open.0, le)

text_begins : (l : List ℕ) → IsText l → BeginsText l
text_begins l t = record { more = []; is_text = subst (λ (x : List ℕ). IsText x) (sym (append-nil l)) t }

good_front : (limits : LimitsValue) (fs : List Frame) (f : Frame) (b c : Bool) → is_control f ≡ b → f.fin ≡ c → GoodGroups limits (groups_of (data_frames (fs ++ f ∷ []))) → GoodFront limits fs f
good_front limits fs f true c e fin g =
    let big : 8 ≤ f.opcode = leb-true 8 f.opcode e in
    record {
      before = subst (λ (x : Groups). GoodGroups limits x) (groups_control fs f e) g;
      goes_on = λ zero_is. absurd (omega (arith, zero_is, big));
      begins = λ one two. absurd (omega (arith, two, big));
      size = λ two. absurd (omega (arith, two, big));
      text = λ is. absurd (control_of_text (open_message_of fs) f big is);
      whole = λ is end. absurd (control_of_text (open_message_of fs) f big is);
    }
good_front limits fs f false true e fin g =
    let u = (groups_of (data_frames fs)).unfinished in
    let h = subst (λ (x : Groups). GoodGroups limits x) (groups_end fs f e fin) g in
    let parts = all_before (IsValidGroup IsText limits) (groups_of (data_frames fs)).finished (u ++ f ∷ []) h.0 in
    let t = group_front IsText text_begins limits u f parts.1 in
    record { before = (parts.0, t.front); goes_on = t.goes_on; begins = λ one two. t.begins one; size = λ two. t.size; text = λ is. text_begins (open_payload (message_if_any u) ++ f.payload) (t.text is); whole = λ is end. t.text is }
good_front limits fs f false false e fin g =
    let u = (groups_of (data_frames fs)).unfinished in
    let h = subst (λ (x : Groups). GoodGroups limits x) (groups_more fs f e fin) g in
    let t = group_front BeginsText (λ l b. b) limits u f h.1 in
    record { before = (h.0, t.front); goes_on = t.goes_on; begins = λ one two. t.begins one; size = λ two. t.size; text = t.text; whole = λ is end. absurd (no_both f.fin end fin) }

pub record ValidFront (limits : LimitsValue) (fs : List Frame) (f : Frame) : Type 0 where
  pub before : AreValidFrames limits fs
  pub none : NoneCloses fs
  pub next : IsValidNext limits (open_message_of fs) f

pub valid_front : (limits : LimitsValue) (fs : List Frame) (f : Frame) → AreValidFrames limits (fs ++ f ∷ []) → ValidFront limits fs f
valid_front limits fs f v =
    let each = all_before IsValidAlone fs f v.each in
    let sizes = all_before (FitsTheFrameLimit limits) fs f v.sizes in
    let close = close_front fs f v.close in
    let good = good_front limits fs f (is_control f) f.fin refl refl (v.finished, v.unfinished) in
    record {
      before = record { each = each.0; sizes = sizes.0; close = close.before; finished = good.before.0; unfinished = good.before.1 };
      none = close.none;
      next = record { alone = each.1; close = close.last; goes_on = good.goes_on; begins = good.begins; size = good.size; frame = sizes.1; text = good.text; whole = good.whole };
    }

pub valid_nothing : (limits : LimitsValue) → AreValidFrames limits []
valid_nothing limits = record { each = tt; sizes = tt; close = tt; finished = tt; unfinished = no_group limits }
