-- What is wrong with the payload of a control frame, as far as it has come, and with a whole close payload.
use Rattle.std.proofs.Common.{◌≡◌, ℕ, ◌+◌, ◌*◌, ◌/◌, ◌%◌, ◌<◌, ◌≤◌, List, [], length, take, drop, Option, Some, None, sym, ap, ◌∙◌, arith, inl, inr, subst}
use Rattle.std.proofs.lemmas.List.{length-take-le}
use Rattle.ws_wire.specs.Header.{HeaderFields}
use Rattle.ws_text.specs.Text.{IsText}
use Rattle.ws_session.specs.declared.message.Message.{Message}
use Rattle.ws_session.specs.declared.reason.Reason.{Reason}
use Rattle.ws_session.specs.declared.reason.Reason.TheVariants.{ReservedBits, Opcode, MaskWrong, NotShortest, BadLength, ControlCut, ControlLong, NothingToContinue, MessageOpen, TooBig, FrameBig, NotText, TextCut, CloseOneByte, CloseCode, CloseReason}
use Rattle.ws_session.specs.Faults.{number_of, IsOfText, AppliesInPayload}
use Rattle.ws_session.specs.Events.{close_in}
use Rattle.std.proofs.Common.{Result, Ok, Err}
use Rattle.std.proofs.lemmas.List.{take_all}
use Rattle.ws_text.specs.Close.{CloseValue, IsClosePayload, close_payload, HasBadCode, HasBadReason}
use Rattle.ws_text.specs.declared.closing.CloseFault.{CloseFault}
use Rattle.ws_text.specs.declared.closing.CloseFault.TheVariants.{OneByte, BadCode, ReasonNotText}
use Rattle.ws_session.specs.InnerChecking.{NoneInPayload, IsFirstInPayload, reason_of_close}

-- ---- the payload of a control frame

module _ (opened : Option Message) (h : HeaderFields) (p : List ℕ) (opcode : 8 ≤ h.opcode) where
  not_of_text : IsOfText opened h → ⊥
  not_of_text (inl a) = omega arith
  not_of_text (inr a) = omega (arith, a.0)

  -- it isn't whole
  pub none_of_part : length p < h.len → NoneInPayload opened h p
  none_of_part short n NotText le a = not_of_text a.0
  none_of_part short n TextCut le a = not_of_text a.0
  none_of_part short n CloseOneByte le a = omega (arith, a.1, length-take-le n p le)
  none_of_part short n CloseCode le a = omega (arith, a.1, length-take-le n p le)
  none_of_part short n CloseReason le a = omega (arith, a.1, length-take-le n p le)
  none_of_part short n ReservedBits le a = a
  none_of_part short n Opcode le a = a
  none_of_part short n MaskWrong le a = a
  none_of_part short n NotShortest le a = a
  none_of_part short n BadLength le a = a
  none_of_part short n ControlCut le a = a
  none_of_part short n ControlLong le a = a
  none_of_part short n NothingToContinue le a = a
  none_of_part short n MessageOpen le a = a
  none_of_part short n TooBig le a = a
  none_of_part short n FrameBig le a = a

  -- it is a ping or a pong
  pub none_of_ping : (h.opcode ≡ 8 → ⊥) → NoneInPayload opened h p
  none_of_ping never n NotText le a = not_of_text a.0
  none_of_ping never n TextCut le a = not_of_text a.0
  none_of_ping never n CloseOneByte le a = never a.0
  none_of_ping never n CloseCode le a = never a.0
  none_of_ping never n CloseReason le a = never a.0
  none_of_ping never n ReservedBits le a = a
  none_of_ping never n Opcode le a = a
  none_of_ping never n MaskWrong le a = a
  none_of_ping never n NotShortest le a = a
  none_of_ping never n BadLength le a = a
  none_of_ping never n ControlCut le a = a
  none_of_ping never n ControlLong le a = a
  none_of_ping never n NothingToContinue le a = a
  none_of_ping never n MessageOpen le a = a
  none_of_ping never n TooBig le a = a
  none_of_ping never n FrameBig le a = a

-- what a close payload holds is what stands in it
make_close : ℕ → List ℕ → Option CloseValue
make_close code reason = Some (record { code = code; reason = reason })

pub close_in_is : (p : List ℕ) (close : Option CloseValue) → IsClosePayload p close → close ≡ close_in p
unfolding make_close
close_in_is p None e = ap (λ (l : List ℕ). close_in l) (sym e)
close_in_is p (Some c) h =
    let code : 256 * (c.code / 256) + c.code % 256 ≡ c.code = omega arith in
    ap (λ n. make_close n c.reason) (sym code) ∙ ap (λ (l : List ℕ). close_in l) (sym h.1)

-- ---- a whole close payload, as `ClosePayload::read` answers it

module _ (opened : Option Message) (h : HeaderFields) (p : List ℕ) (opcode : h.opcode ≡ 8) (whole : length p ≡ h.len) (r : Result (Option CloseValue) CloseFault)
    (read : (close : Option CloseValue) → (r ≡ Ok close → IsClosePayload p close) × (IsClosePayload p close → r ≡ Ok close))
    (one : (r ≡ Err OneByte → length p ≡ 1) × (length p ≡ 1 → r ≡ Err OneByte))
    (bad : (r ≡ Err BadCode → HasBadCode p) × (HasBadCode p → r ≡ Err BadCode))
    (text : (r ≡ Err ReasonNotText → HasBadReason p) × (HasBadReason p → r ≡ Err ReasonNotText)) where
  all_of : (n : ℕ) → n ≤ length p → length (take n p) ≡ h.len → (n ≡ length p) × (take n p ≡ p)
  all_of n le e = let is = length-take-le n p le in (omega arith, take_all n p (omega arith))

  here : take (length p) p ≡ p
  here = take_all (length p) p (omega arith)

  applies_here : (q : Reason) → AppliesInPayload opened h p q → AppliesInPayload opened h (take (length p) p) q
  applies_here q a = subst (λ (l : List ℕ). AppliesInPayload opened h l q) (sym here) a

  fault_applies : (f : CloseFault) → r ≡ Err f → AppliesInPayload opened h p (reason_of_close f)
  fault_applies OneByte e = (opcode, whole, one.0 e)
  fault_applies BadCode e = (opcode, whole, bad.0 e)
  fault_applies ReasonNotText e = let b = text.0 e in (opcode, whole, (b.0, b.1, b.3))

  -- of those that apply to the whole payload the lowest is read
  lowest : (f : CloseFault) → r ≡ Err f → (q : Reason) → AppliesInPayload opened h p q → number_of (reason_of_close f) ≤ number_of q
  lowest f e NotText a = absurd (not_of_text opened h p (omega arith) a.0)
  lowest f e TextCut a = absurd (not_of_text opened h p (omega arith) a.0)
  lowest OneByte e CloseOneByte a = omega arith
  lowest BadCode e CloseOneByte a = let f = one.1 a.2 in absurd cc
  lowest ReasonNotText e CloseOneByte a = let f = one.1 a.2 in absurd cc
  lowest OneByte e CloseCode a = omega arith
  lowest BadCode e CloseCode a = omega arith
  lowest ReasonNotText e CloseCode a = let f = bad.1 a.2 in absurd cc
  lowest OneByte e CloseReason a = omega arith
  lowest BadCode e CloseReason a = omega arith
  lowest ReasonNotText e CloseReason a = omega arith
  lowest f e ReservedBits a = absurd a
  lowest f e Opcode a = absurd a
  lowest f e MaskWrong a = absurd a
  lowest f e NotShortest a = absurd a
  lowest f e BadLength a = absurd a
  lowest f e ControlCut a = absurd a
  lowest f e ControlLong a = absurd a
  lowest f e NothingToContinue a = absurd a
  lowest f e MessageOpen a = absurd a
  lowest f e TooBig a = absurd a
  lowest f e FrameBig a = absurd a

  -- nothing applies to less of it
  only_here : (n : ℕ) (q : Reason) → n ≤ length p → AppliesInPayload opened h (take n p) q → (n ≡ length p) × AppliesInPayload opened h p q
  only_here n NotText le a = absurd (not_of_text opened h p (omega arith) a.0)
  only_here n TextCut le a = absurd (not_of_text opened h p (omega arith) a.0)
  only_here n CloseOneByte le a = let all = all_of n le a.1 in (all.0, subst (λ (l : List ℕ). AppliesInPayload opened h l CloseOneByte) all.1 a)
  only_here n CloseCode le a = let all = all_of n le a.1 in (all.0, subst (λ (l : List ℕ). AppliesInPayload opened h l CloseCode) all.1 a)
  only_here n CloseReason le a = let all = all_of n le a.1 in (all.0, subst (λ (l : List ℕ). AppliesInPayload opened h l CloseReason) all.1 a)
  only_here n ReservedBits le a = absurd a
  only_here n Opcode le a = absurd a
  only_here n MaskWrong le a = absurd a
  only_here n NotShortest le a = absurd a
  only_here n BadLength le a = absurd a
  only_here n ControlCut le a = absurd a
  only_here n ControlLong le a = absurd a
  only_here n NothingToContinue le a = absurd a
  only_here n MessageOpen le a = absurd a
  only_here n TooBig le a = absurd a
  only_here n FrameBig le a = absurd a

  pub close_fault : (f : CloseFault) → r ≡ Err f → IsFirstInPayload opened h p (length p) (reason_of_close f)
  close_fault f e = record {
    fault = (omega arith, applies_here (reason_of_close f) (fault_applies f e));
    first = λ n q a. let at = only_here n q a.0 a.1 in inr (sym at.0, lowest f e q at.1);
  }

  same_reason_bytes : (c : CloseValue) (close : Option CloseValue) → p ≡ close_payload (Some c) → IsClosePayload p close → IsText c.reason
  same_reason_bytes c None e is = let no : close_payload (Some c) ≡ [] = sym e ∙ is in absurd cc
  same_reason_bytes c (Some d) e is = subst (λ (l : List ℕ). IsText l) (ap (λ (l : List ℕ). drop 2 l) (sym is.1 ∙ e)) is.0.reason

  fine : (close : Option CloseValue) → r ≡ Ok close → (q : Reason) → AppliesInPayload opened h p q → ⊥
  fine close e NotText a = not_of_text opened h p (omega arith) a.0
  fine close e TextCut a = not_of_text opened h p (omega arith) a.0
  fine close e CloseOneByte a = let f = one.1 a.2 in absurd cc
  fine close e CloseCode a = let f = bad.1 a.2 in absurd cc
  fine close e CloseReason a = a.2.2 (same_reason_bytes a.2.0 close a.2.1.bytes ((read close).0 e))
  fine close e ReservedBits a = a
  fine close e Opcode a = a
  fine close e MaskWrong a = a
  fine close e NotShortest a = a
  fine close e BadLength a = a
  fine close e ControlCut a = a
  fine close e ControlLong a = a
  fine close e NothingToContinue a = a
  fine close e MessageOpen a = a
  fine close e TooBig a = a
  fine close e FrameBig a = a

  pub close_fine : (close : Option CloseValue) → r ≡ Ok close → (close ≡ close_in p) × NoneInPayload opened h p
  close_fine close e = (close_in_is p close ((read close).0 e), λ n q le a. fine close e q (only_here n q le a).1)
