-- A valid frame that passes a limit: its first fault, and that it is one of its size.
use Rattle.std.proofs.Common.{lit≤}
use Rattle.std.proofs.Common.{◌≡◌, ℕ, ◌≤◌, ◌⊎◌, Bool, true, false, cond, List, [], ◌++◌, length, Option, refl, sym, ap, ◌∙◌, append_assoc, arith, inl, inr, subst}
use Rattle.ws_wire.specs.declared.role.Role.{Role}
use Rattle.ws_wire.specs.Header.{HeaderFields, header_bytes, is_masked}
use Rattle.ws_wire.specs.Masking.{masked_payload}
use Rattle.ws_wire.specs.Frame.{KeyedFrame, FitsTheLayout, frame_bytes}
use Rattle.ws_wire.proofs.Frames.{sent_is_wire}
use Rattle.ws_session.specs.declared.message.Message.{Message}
use Rattle.ws_session.specs.declared.reason.Reason.{Reason}
use Rattle.ws_session.specs.declared.reason.Reason.TheVariants.{ReservedBits, Opcode, MaskWrong, NotShortest, BadLength, ControlCut, ControlLong, NothingToContinue, MessageOpen, TooBig, FrameBig, NotText, TextCut, CloseOneByte, CloseCode, CloseReason}
use Rattle.ws_session.specs.Limits.{LimitsValue}
use Rattle.ws_session.specs.Faults.{number_of, expects_key, AppliesAtHeader, Applies, IsNoLater}
use Rattle.ws_session.specs.InnerNextFrame.{header_of, IsFaultOfNext, IsFirstFaultOfNext}
use Rattle.ws_session.proofs.Places.{part_of}
use Rattle.ws_session.proofs.Next.{within_front, next_earlier}
use Rattle.ws_session.proofs.Valid.{IsValidNext}
use Rattle.ws_session.proofs.FineFrames.{valid_is_fine}
use Rattle.ws_session.proofs.FaultlessFrames.{nothing_masked}
use Rattle.ws_session.proofs.Fitting.{PassesBy}

-- where a reason applies goes by the limits only with the two of a size
size_or_other : (role : Role) (limits most : LimitsValue) (opened : Option Message) (q : Reason) → (q ≡ TooBig) ⊎ ((q ≡ FrameBig) ⊎ ((h : HeaderFields) (p : List ℕ) → Applies role limits opened h p q → Applies role most opened h p q))
size_or_other role limits most opened ReservedBits = inr (inr (λ h p a. a))
size_or_other role limits most opened Opcode = inr (inr (λ h p a. a))
size_or_other role limits most opened MaskWrong = inr (inr (λ h p a. a))
size_or_other role limits most opened NotShortest = inr (inr (λ h p a. a))
size_or_other role limits most opened BadLength = inr (inr (λ h p a. a))
size_or_other role limits most opened ControlCut = inr (inr (λ h p a. a))
size_or_other role limits most opened ControlLong = inr (inr (λ h p a. a))
size_or_other role limits most opened NothingToContinue = inr (inr (λ h p a. a))
size_or_other role limits most opened MessageOpen = inr (inr (λ h p a. a))
size_or_other role limits most opened TooBig = inl refl
size_or_other role limits most opened FrameBig = inr (inl refl)
size_or_other role limits most opened NotText = inr (inr (λ h p a. a))
size_or_other role limits most opened TextCut = inr (inr (λ h p a. a))
size_or_other role limits most opened CloseOneByte = inr (inr (λ h p a. a))
size_or_other role limits most opened CloseCode = inr (inr (λ h p a. a))
size_or_other role limits most opened CloseReason = inr (inr (λ h p a. a))

-- what is told of a frame that passes a limit
abbrev told_by_size : Bool → Reason
told_by_size c = cond c TooBig FrameBig

-- x is valid but passes a limit, and u follows it
module _ (role : Role) (limits most : LimitsValue) (opened : Option Message) (x : KeyedFrame) (u : List ℕ) (can : FitsTheLayout x) (key : is_masked x.key ≡ expects_key role) (v : IsValidNext most opened x.frame)
    (small : x.frame.opcode ≤ 2) where
  applies_by : (c : Bool) → PassesBy c limits opened x.frame → AppliesAtHeader role limits opened (header_of x) (told_by_size c)
  applies_by true passes = (small, passes)
  applies_by false passes = (small, passes.1)

  too_big_here : (c : Bool) → PassesBy c limits opened x.frame → IsFaultOfNext role limits opened (frame_bytes x ++ u) (length (header_bytes (header_of x))) (told_by_size c)
  too_big_here c passes = record {
    header = header_of x;
    is_header = (sent_is_wire x can).header;
    payload = [];
    are_bytes = λ i. omega arith;
    within = omega arith;
    rest = masked_payload x.key x.frame.payload ++ u;
    parts = append_assoc (header_bytes (header_of x)) (masked_payload x.key x.frame.payload) u ∙ ap (λ (l : List ℕ). header_bytes (header_of x) ++ l) (nothing_masked x.key (masked_payload x.key x.frame.payload ++ u));
    is_place = omega arith;
    applies = inl (refl, applies_by c passes);
  }

  no_other : (m : ℕ) (q : Reason) → IsFaultOfNext role limits opened (frame_bytes x ++ u) m q → ((h : HeaderFields) (p : List ℕ) → Applies role limits opened h p q → Applies role most opened h p q) → ⊥
  no_other m q f change =
      let g : IsFaultOfNext role most opened (frame_bytes x ++ u) m q = record { header = f.header; is_header = f.is_header; payload = f.payload; are_bytes = f.are_bytes; within = f.within; rest = f.rest; parts = f.parts; is_place = f.is_place; applies = change f.header f.payload f.applies } in
      valid_is_fine role most opened x can key v m q (next_earlier role most opened (frame_bytes x) u m q (within_front role most opened (frame_bytes x ++ u) m q g x u can refl) g)

  -- a reason of the header is told at its last byte, of this header
  only_there : (m : ℕ) (q : Reason) → ((h : HeaderFields) (p : List ℕ) → Applies role limits opened h p q → (p ≡ []) × AppliesAtHeader role limits opened h q) → IsFaultOfNext role limits opened (frame_bytes x ++ u) m q
      → (m ≡ length (header_bytes (header_of x))) × AppliesAtHeader role limits opened (header_of x) q
  only_there m q at f =
      let part = part_of f.header f.payload f.rest x u f.is_header can f.within (sym f.parts) in
      let applies = at f.header f.payload f.applies in
      let none : length f.payload ≡ 0 = ap (λ (l : List ℕ). length l) applies.0 in
      let head : length (header_bytes f.header) ≡ length (header_bytes (header_of x)) = ap (λ (h : HeaderFields). length (header_bytes h)) part.header in
      (omega (arith, f.is_place, none, head), subst (λ (h : HeaderFields). AppliesAtHeader role limits opened h q) part.header applies.1)

  at_header_big : (h : HeaderFields) (p : List ℕ) → Applies role limits opened h p TooBig → (p ≡ []) × AppliesAtHeader role limits opened h TooBig
  at_header_big h p (inl a) = a
  at_header_big h p (inr a) = absurd a

  at_header_frame : (h : HeaderFields) (p : List ℕ) → Applies role limits opened h p FrameBig → (p ≡ []) × AppliesAtHeader role limits opened h FrameBig
  at_header_frame h p (inl a) = a
  at_header_frame h p (inr a) = absurd a

  -- the message's reason goes before the frame's
  before_big : (c : Bool) → PassesBy c limits opened x.frame → AppliesAtHeader role limits opened (header_of x) TooBig → number_of (told_by_size c) ≤ 10
  before_big true passes a = lit≤ tt
  before_big false passes a = absurd (omega (arith, passes.0, a.1))

  before_frame : (c : Bool) → number_of (told_by_size c) ≤ 16
  before_frame true = lit≤ tt
  before_frame false = lit≤ tt

  pub first_too_big : (c : Bool) → PassesBy c limits opened x.frame → IsFirstFaultOfNext role limits opened (frame_bytes x ++ u) (length (header_bytes (header_of x))) (told_by_size c)
  first_too_big c passes = record {
    fault = too_big_here c passes;
    first = λ m q f.
        elim (size_or_other role limits most opened q) as (λ _. IsNoLater (length (header_bytes (header_of x))) (told_by_size c) m q) [
          | inl is ↦
              let at = only_there m TooBig at_header_big (subst (λ (r : Reason). IsFaultOfNext role limits opened (frame_bytes x ++ u) m r) is f) in
              inr (sym at.0, omega (arith, before_big c passes at.1, ap (λ (r : Reason). number_of r) is))
          | inr more ↦ elim more as (λ _. IsNoLater (length (header_bytes (header_of x))) (told_by_size c) m q) [
            | inl is ↦
                let at = only_there m FrameBig at_header_frame (subst (λ (r : Reason). IsFaultOfNext role limits opened (frame_bytes x ++ u) m r) is f) in
                inr (sym at.0, omega (arith, before_frame c, ap (λ (r : Reason). number_of r) is))
            | inr other ↦ absurd (no_other m q f other)
          ]
        ];
  }
