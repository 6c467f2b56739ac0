-- What is wrong with a payload, as far as it has come, and where first.
use Rattle.std.proofs.Common.{◌≡◌, ℕ, ◌+◌, ◌≤◌, Bool, true, false, cond, List, ◌++◌, length, take, drop, Option, Some, None, refl, sym, ap, ◌∙◌, append_assoc, arith, inl, inr, subst}
use Rattle.std.specs.Prelude.{◌==◌}
use Rattle.std.proofs.lemmas.Bool.{cases_lt}
use Rattle.std.proofs.lemmas.List.{take-append-drop, length-take-le}
use Rattle.ws_wire.specs.Header.{HeaderFields}
use Rattle.ws_text.specs.Text.{IsText, BeginsText}
use Rattle.ws_session.specs.declared.message.Kind.{Kind}
use Rattle.ws_session.specs.declared.message.Kind.TheVariants.{Text, Binary}
use Rattle.ws_session.specs.declared.message.Message.{Message}
use Rattle.ws_session.specs.declared.reason.Reason.{Reason}
use Rattle.ws_session.specs.declared.reason.Reason.TheVariants.{ReservedBits, Opcode, MaskWrong, NotShortest, BadLength, ControlCut, ControlLong, NothingToContinue, MessageOpen, TooBig, FrameBig, NotText, TextCut, CloseOneByte, CloseCode, CloseReason}
use Rattle.ws_session.specs.Messages.{kind_of}
use Rattle.ws_session.specs.Faults.{open_payload, IsOfText, AppliesInPayload, IsNoLater}
use Rattle.std.proofs.Common.{eqb-true}
use Rattle.std.proofs.lemmas.List.{take_all, take-take}
use Rattle.ws_text.specs.Stream.{BreaksTextAt, HasReadText}
use Rattle.ws_session.specs.Messages.{kind_of}
use Rattle.ws_session.specs.Validity.{OfText}
use Rattle.ws_session.specs.InnerAssembly.{HasReadOpen}
use Rattle.ws_session.specs.InnerChecking.{NoneInPayload, IsFirstInPayload}

-- a front that is as long as the header says is the whole
pub front_is_all : (p : List ℕ) (n len : ℕ) → n ≤ length p → length p ≤ len → length (take n p) ≡ len → (n ≡ length p) × (length p ≡ len)
front_is_all p n len le within e = let is = length-take-le n p le in (omega arith, omega arith)

pub begins_front : (a b : List ℕ) → BeginsText (a ++ b) → BeginsText a
begins_front a b h = record { more = b ++ h.more; is_text = subst (λ (l : List ℕ). IsText l) (append_assoc a b h.more) h.is_text }

-- a front of a payload with which the text goes on goes on too
pub begins_take : (before p : List ℕ) (n : ℕ) → BeginsText (before ++ p) → BeginsText (before ++ take n p)
begins_take before p n h = begins_front (before ++ take n p) (drop n p) (subst (λ (l : List ℕ). BeginsText l) (ap (λ (l : List ℕ). before ++ l) (sym (take-append-drop n p)) ∙ sym (append_assoc before (take n p) (drop n p))) h)

-- ---- the payload of a data frame

module _ (opened : Option Message) (h : HeaderFields) (p : List ℕ) (opcode : h.opcode ≤ 2) (within : length p ≤ h.len) where
  -- it belongs to no text
  pub none_of_binary : (IsOfText opened h → ⊥) → NoneInPayload opened h p
  none_of_binary never n NotText le a = never a.0
  none_of_binary never n TextCut le a = never a.0
  none_of_binary never n CloseOneByte le a = omega (arith, a.0)
  none_of_binary never n CloseCode le a = omega (arith, a.0)
  none_of_binary never n CloseReason le a = omega (arith, a.0)
  none_of_binary never n ReservedBits le a = a
  none_of_binary never n Opcode le a = a
  none_of_binary never n MaskWrong le a = a
  none_of_binary never n NotShortest le a = a
  none_of_binary never n BadLength le a = a
  none_of_binary never n ControlCut le a = a
  none_of_binary never n ControlLong le a = a
  none_of_binary never n NothingToContinue le a = a
  none_of_binary never n MessageOpen le a = a
  none_of_binary never n TooBig le a = a
  none_of_binary never n FrameBig le a = a

  -- the text goes on, and is whole where the message ends
  pub none_of_text : BeginsText (open_payload opened ++ p) → (h.fin ≡ true → length p ≡ h.len → (IsText (open_payload opened ++ p) → ⊥) → ⊥) → NoneInPayload opened h p
  none_of_text begins whole n NotText le a = a.2 (begins_take (open_payload opened) p n begins)
  none_of_text begins whole n TextCut le a =
      let all = front_is_all p n h.len le within a.2 in
      let same : take n p ≡ p = take_all n p (omega (arith, all.0)) in
      whole a.1 all.1 (subst (λ (l : List ℕ). IsText (open_payload opened ++ l) → ⊥) same a.4)
  none_of_text begins whole n CloseOneByte le a = omega (arith, a.0)
  none_of_text begins whole n CloseCode le a = omega (arith, a.0)
  none_of_text begins whole n CloseReason le a = omega (arith, a.0)
  none_of_text begins whole n ReservedBits le a = a
  none_of_text begins whole n Opcode le a = a
  none_of_text begins whole n MaskWrong le a = a
  none_of_text begins whole n NotShortest le a = a
  none_of_text begins whole n BadLength le a = a
  none_of_text begins whole n ControlCut le a = a
  none_of_text begins whole n ControlLong le a = a
  none_of_text begins whole n NothingToContinue le a = a
  none_of_text begins whole n MessageOpen le a = a
  none_of_text begins whole n TooBig le a = a
  none_of_text begins whole n FrameBig le a = a

  -- the text ends inside a character
  cut_first : BeginsText (open_payload opened ++ p) → (n : ℕ) (q : Reason) → n ≤ length p → AppliesInPayload opened h (take n p) q → IsNoLater (length p) TextCut n q
  cut_first begins n NotText le a = absurd (a.2 (begins_take (open_payload opened) p n begins))
  cut_first begins n TextCut le a = inr (sym (front_is_all p n h.len le within a.2).0, omega arith)
  cut_first begins n CloseOneByte le a = absurd (omega (arith, a.0))
  cut_first begins n CloseCode le a = absurd (omega (arith, a.0))
  cut_first begins n CloseReason le a = absurd (omega (arith, a.0))
  cut_first begins n ReservedBits le a = absurd a
  cut_first begins n Opcode le a = absurd a
  cut_first begins n MaskWrong le a = absurd a
  cut_first begins n NotShortest le a = absurd a
  cut_first begins n BadLength le a = absurd a
  cut_first begins n ControlCut le a = absurd a
  cut_first begins n ControlLong le a = absurd a
  cut_first begins n NothingToContinue le a = absurd a
  cut_first begins n MessageOpen le a = absurd a
  cut_first begins n TooBig le a = absurd a
  cut_first begins n FrameBig le a = absurd a

  pub text_is_cut : IsOfText opened h → h.fin ≡ true → length p ≡ h.len → BeginsText (open_payload opened ++ p) → (IsText (open_payload opened ++ p) → ⊥) → IsFirstInPayload opened h p (length p) TextCut
  text_is_cut of_text fin whole begins never =
      let all : take (length p) p ≡ p = take_all (length p) p (omega arith) in
      record {
        fault = (omega arith, subst (λ (l : List ℕ). AppliesInPayload opened h l TextCut) (sym all) (of_text, fin, whole, begins, never));
        first = λ n q a. cut_first begins n q a.0 a.1;
      }

  -- the text breaks
  break_first : (k : ℕ) → BreaksTextAt (open_payload opened) p k → (n : ℕ) (q : Reason) → n ≤ length p → AppliesInPayload opened h (take n p) q → IsNoLater (k + 1) NotText n q
  break_first k b n NotText le a =
      elim (cases_lt k n) [
        | inl late ↦ elim (cases_lt (k + 1) n) [ inl later ↦ inl later | inr here ↦ inr (omega arith, omega arith) ]
        | inr early ↦ absurd (a.2 (subst (λ (l : List ℕ). BeginsText (open_payload opened ++ l)) (take-take n k p early) (begins_take (open_payload opened) (take k p) n b.before)))
      ]
  break_first k b n TextCut le a =
      let all = front_is_all p n h.len le within a.2 in
      let lt = b.within in
      elim (cases_lt (k + 1) n) [ inl later ↦ inl later | inr here ↦ inr (omega (arith, all.0), omega arith) ]
  break_first k b n CloseOneByte le a = absurd (omega (arith, a.0))
  break_first k b n CloseCode le a = absurd (omega (arith, a.0))
  break_first k b n CloseReason le a = absurd (omega (arith, a.0))
  break_first k b n ReservedBits le a = absurd a
  break_first k b n Opcode le a = absurd a
  break_first k b n MaskWrong le a = absurd a
  break_first k b n NotShortest le a = absurd a
  break_first k b n BadLength le a = absurd a
  break_first k b n ControlCut le a = absurd a
  break_first k b n ControlLong le a = absurd a
  break_first k b n NothingToContinue le a = absurd a
  break_first k b n MessageOpen le a = absurd a
  break_first k b n TooBig le a = absurd a
  break_first k b n FrameBig le a = absurd a

  pub text_breaks : (k : ℕ) → IsOfText opened h → BreaksTextAt (open_payload opened) p k → IsFirstInPayload opened h p (k + 1) NotText
  text_breaks k of_text b =
      let lt = b.within in
      let size : length (take (k + 1) p) ≡ k + 1 = length-take-le (k + 1) p (omega arith) in
      record { fault = (omega arith, (of_text, omega (arith, size), b.after)); first = λ n q a. break_first k b n q a.0 a.1 }

-- ---- the judge of a text

pub text_of : (k : Kind) (A : Type 0) → k ≡ Text → OfText k A → A
text_of Text A e h = h
text_of Binary A e h = absurd cc

-- the judge that goes on with the open text has read it
pub read_open : (opened : Option Message) (h : HeaderFields) (text : Option (List ℕ)) → (1 ≤ h.opcode → opened ≡ None) → HasReadOpen opened text → IsOfText opened h → HasReadText text (open_payload opened)
read_open None h text begins is of_text = is
read_open (Some m) h text begins is (inl one) = let e = begins (omega arith) in absurd cc
read_open (Some m) h text begins is (inr goes_on) = text_of m.kind (HasReadText text m.payload) goes_on.1 is

pub text_if : (k : Kind) (A : Type 0) → (k ≡ Text → A) → OfText k A
text_if Text A h = h refl
text_if Binary A h = tt

kind_by : (b : Bool) → cond b Text Binary ≡ Text → b ≡ true
kind_by true e = refl
kind_by false e = absurd cc

pub kind_is_text : (opcode : ℕ) → kind_of opcode ≡ Text → opcode ≡ 1
kind_is_text opcode e = eqb-true opcode 1 (kind_by (opcode == 1) e)
