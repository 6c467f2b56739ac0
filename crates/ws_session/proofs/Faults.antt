-- The first fault of a stream, and of more of it.
use Rattle.std.proofs.Common.{◌≡◌, ℕ, ◌≤◌, cond, List, ◌++◌, length, refl, sym, ap, ◌∙◌, arith, inl, inr}
use Rattle.std.specs.Prelude.{◌==◌}
use Rattle.std.proofs.lemmas.Bool.{cases_lt}
use Rattle.std.proofs.lemmas.List.{length-append, take-append-le}
use Rattle.ws_wire.specs.declared.role.Role.{Role}
use Rattle.ws_session.specs.declared.reason.Reason.{Reason}
use Rattle.ws_session.specs.declared.reason.Reason.TheVariants.{ReservedBits, Opcode, MaskWrong, NotShortest, BadLength, ControlCut, ControlLong, NothingToContinue, MessageOpen, TooBig, FrameBig, NotText, TextCut, CloseOneByte, CloseCode, CloseReason}
use Rattle.ws_session.specs.Limits.{LimitsValue}
use Rattle.ws_session.specs.Faults.{number_of, IsFaultAt, IsNoLater, IsFirstFault, HasNoFault}

-- the reason with this number
pub reason_at : ℕ → Reason
reason_at n = cond (n == 1) ReservedBits (cond (n == 2) Opcode (cond (n == 3) MaskWrong (cond (n == 4) NotShortest (cond (n == 5) BadLength (cond (n == 6) ControlCut (cond (n == 7) ControlLong (cond (n == 8) NothingToContinue (cond (n == 9) MessageOpen (cond (n == 10) TooBig (cond (n == 11) NotText (cond (n == 12) TextCut (cond (n == 13) CloseOneByte (cond (n == 14) CloseCode (cond (n == 15) CloseReason FrameBig))))))))))))))

pub reason_again : (r : Reason) → reason_at (number_of r) ≡ r
unfolding reason_at
reason_again ReservedBits = refl
reason_again Opcode = refl
reason_again MaskWrong = refl
reason_again NotShortest = refl
reason_again BadLength = refl
reason_again ControlCut = refl
reason_again ControlLong = refl
reason_again NothingToContinue = refl
reason_again MessageOpen = refl
reason_again TooBig = refl
reason_again FrameBig = refl
reason_again NotText = refl
reason_again TextCut = refl
reason_again CloseOneByte = refl
reason_again CloseCode = refl
reason_again CloseReason = refl

pub same_reason : (r q : Reason) → number_of r ≡ number_of q → r ≡ q
same_reason r q e = sym (reason_again r) ∙ ap reason_at e ∙ reason_again q

-- two places that are no later than each other are one
pub same_place : (n m : ℕ) (r q : Reason) → IsNoLater n r m q → IsNoLater m q n r → (n ≡ m) × (r ≡ q)
same_place n m r q (inl a) (inl b) = absurd (omega arith)
same_place n m r q (inl a) (inr b) = absurd (omega (arith, b.0))
same_place n m r q (inr a) (inl b) = absurd (omega (arith, a.0))
same_place n m r q (inr a) (inr b) = (a.0, same_reason r q (omega (arith, a.1, b.1)))

-- a stream has one first fault
pub one_fault : (role : Role) (limits : LimitsValue) (s : List ℕ) (n m : ℕ) (r q : Reason) → IsFirstFault role limits s n r → IsFirstFault role limits s m q → (n ≡ m) × (r ≡ q)
one_fault role limits s n m r q f g = same_place n m r q (f.first m q g.fault) (g.first n r f.fault)

module _ (role : Role) (limits : LimitsValue) (s u : List ℕ) where
  pub fault_later : (n : ℕ) (r : Reason) → IsFaultAt role limits s n r → IsFaultAt role limits (s ++ u) n r
  fault_later n r f = record { before = f.before; sent = f.sent; no_close = f.no_close; header = f.header; is_header = f.is_header; payload = f.payload; are_bytes = f.are_bytes; within = f.within; long = omega (arith, f.long, length-append s u); parts = take-append-le n s u f.long ∙ f.parts; applies = f.applies }

  pub fault_before : (n : ℕ) (r : Reason) → n ≤ length s → IsFaultAt role limits (s ++ u) n r → IsFaultAt role limits s n r
  fault_before n r le f = record { before = f.before; sent = f.sent; no_close = f.no_close; header = f.header; is_header = f.is_header; payload = f.payload; are_bytes = f.are_bytes; within = f.within; long = le; parts = sym (take-append-le n s u le) ∙ f.parts; applies = f.applies }

  pub first_stays : (n : ℕ) (r : Reason) → IsFirstFault role limits s n r → IsFirstFault role limits (s ++ u) n r
  first_stays n r f = record {
    fault = fault_later n r f.fault;
    first = λ m q g. elim (cases_lt (length s) m) as (λ _. IsNoLater n r m q) [
      | inl late ↦ inl (omega (arith, f.fault.long))
      | inr early ↦ f.first m q (fault_before m q early g)
    ];
  }

  pub faultless_before : HasNoFault role limits (s ++ u) → HasNoFault role limits s
  faultless_before h n r f = h n r (fault_later n r f)
