-- The reasons of a header, one after the other.
use Rattle.std.proofs.Common.{◌≡◌, ℕ, zero, suc, ◌+◌, ◌<◌, ◌≤◌, Bool, true, false, [], ◌∷◌, get_or, Option, refl, sym, ap, ◌∙◌, ◌⊎◌, ◌==◌, cond, arith, inl, inr, subst}
use Rattle.std.proofs.lemmas.Bool.{cases_lt}
use Rattle.ws_wire.specs.declared.role.Role.{Role}
use Rattle.ws_wire.specs.Header.{HeaderFields}
use Rattle.ws_session.specs.declared.message.Message.{Message}
use Rattle.ws_session.specs.declared.reason.Reason.{Reason}
use Rattle.ws_session.specs.declared.reason.Reason.TheVariants.{ReservedBits, Opcode, MaskWrong, NotShortest, BadLength, ControlCut, ControlLong, NothingToContinue, MessageOpen, TooBig, FrameBig, NotText, TextCut, CloseOneByte, CloseCode, CloseReason}
use Rattle.ws_session.specs.Limits.{LimitsValue}
use Rattle.ws_session.specs.Faults.{number_of, AppliesAtHeader}
use Rattle.std.proofs.Common.{lit≤}

-- the place of a reason among those of a header, from 1; those of a payload come behind
pub rank_of : Reason → ℕ
rank_of ReservedBits = 1
rank_of Opcode = 2
rank_of MaskWrong = 3
rank_of NotShortest = 4
rank_of BadLength = 5
rank_of ControlCut = 6
rank_of ControlLong = 7
rank_of NothingToContinue = 8
rank_of MessageOpen = 9
rank_of TooBig = 10
rank_of FrameBig = 11
rank_of NotText = 12
rank_of TextCut = 13
rank_of CloseOneByte = 14
rank_of CloseCode = 15
rank_of CloseReason = 16

reason_ranked : ℕ → Reason
reason_ranked n = cond (n == 1) ReservedBits (cond (n == 2) Opcode (cond (n == 3) MaskWrong (cond (n == 4) NotShortest (cond (n == 5) BadLength (cond (n == 6) ControlCut (cond (n == 7) ControlLong (cond (n == 8) NothingToContinue (cond (n == 9) MessageOpen (cond (n == 10) TooBig (cond (n == 11) FrameBig (cond (n == 12) NotText (cond (n == 13) TextCut (cond (n == 14) CloseOneByte (cond (n == 15) CloseCode CloseReason))))))))))))))

ranked_again : (r : Reason) → reason_ranked (rank_of r) ≡ r
unfolding reason_ranked rank_of
ranked_again ReservedBits = refl
ranked_again Opcode = refl
ranked_again MaskWrong = refl
ranked_again NotShortest = refl
ranked_again BadLength = refl
ranked_again ControlCut = refl
ranked_again ControlLong = refl
ranked_again NothingToContinue = refl
ranked_again MessageOpen = refl
ranked_again TooBig = refl
ranked_again FrameBig = refl
ranked_again NotText = refl
ranked_again TextCut = refl
ranked_again CloseOneByte = refl
ranked_again CloseCode = refl
ranked_again CloseReason = refl

same_rank : (q r : Reason) → rank_of q ≡ rank_of r → q ≡ r
same_rank q r e = sym (ranked_again q) ∙ ap reason_ranked e ∙ ranked_again r

abbrev pub reason_in_order : ℕ → Reason
reason_in_order i = get_or (ReservedBits ∷ Opcode ∷ MaskWrong ∷ NotShortest ∷ BadLength ∷ ControlCut ∷ ControlLong ∷ NothingToContinue ∷ MessageOpen ∷ TooBig ∷ FrameBig ∷ []) i ReservedBits

rank_in_order : (i : ℕ) → i < 11 → rank_of (reason_in_order i) ≡ suc i
unfolding rank_of
rank_in_order zero lt = refl
rank_in_order (suc zero) lt = refl
rank_in_order (suc (suc zero)) lt = refl
rank_in_order (suc (suc (suc zero))) lt = refl
rank_in_order (suc (suc (suc (suc zero)))) lt = refl
rank_in_order (suc (suc (suc (suc (suc zero))))) lt = refl
rank_in_order (suc (suc (suc (suc (suc (suc zero)))))) lt = refl
rank_in_order (suc (suc (suc (suc (suc (suc (suc zero))))))) lt = refl
rank_in_order (suc (suc (suc (suc (suc (suc (suc (suc zero)))))))) lt = refl
rank_in_order (suc (suc (suc (suc (suc (suc (suc (suc (suc zero))))))))) lt = refl
rank_in_order (suc (suc (suc (suc (suc (suc (suc (suc (suc (suc zero)))))))))) lt = refl
rank_in_order (suc (suc (suc (suc (suc (suc (suc (suc (suc (suc (suc i))))))))))) lt = absurd (omega arith)

one_or_more : (r : Reason) → 1 ≤ rank_of r
unfolding rank_of
one_or_more ReservedBits = lit≤ tt
one_or_more Opcode = lit≤ tt
one_or_more MaskWrong = lit≤ tt
one_or_more NotShortest = lit≤ tt
one_or_more BadLength = lit≤ tt
one_or_more ControlCut = lit≤ tt
one_or_more ControlLong = lit≤ tt
one_or_more NothingToContinue = lit≤ tt
one_or_more MessageOpen = lit≤ tt
one_or_more TooBig = lit≤ tt
one_or_more FrameBig = lit≤ tt
one_or_more NotText = lit≤ tt
one_or_more TextCut = lit≤ tt
one_or_more CloseOneByte = lit≤ tt
one_or_more CloseCode = lit≤ tt
one_or_more CloseReason = lit≤ tt

abbrev NumberBy : ℕ → ℕ → Type 0
NumberBy rank number = ((rank ≤ 10) × (number ≡ rank)) ⊎ (((rank ≡ 11) × (number ≡ 16)) ⊎ (12 ≤ rank))

number_by_rank : (r : Reason) → NumberBy (rank_of r) (number_of r)
unfolding rank_of
number_by_rank ReservedBits = inl (lit≤ tt, refl)
number_by_rank Opcode = inl (lit≤ tt, refl)
number_by_rank MaskWrong = inl (lit≤ tt, refl)
number_by_rank NotShortest = inl (lit≤ tt, refl)
number_by_rank BadLength = inl (lit≤ tt, refl)
number_by_rank ControlCut = inl (lit≤ tt, refl)
number_by_rank ControlLong = inl (lit≤ tt, refl)
number_by_rank NothingToContinue = inl (lit≤ tt, refl)
number_by_rank MessageOpen = inl (lit≤ tt, refl)
number_by_rank TooBig = inl (lit≤ tt, refl)
number_by_rank FrameBig = inr (inl (refl, refl))
number_by_rank NotText = inr (inr (lit≤ tt))
number_by_rank TextCut = inr (inr (lit≤ tt))
number_by_rank CloseOneByte = inr (inr (lit≤ tt))
number_by_rank CloseCode = inr (inr (lit≤ tt))
number_by_rank CloseReason = inr (inr (lit≤ tt))

-- of two reasons of a header the one with the lower rank has the lower number
number_goes_by_rank : (a b m n : ℕ) → NumberBy a m → NumberBy b n → b ≤ 11 → a ≤ b → m ≤ n
number_goes_by_rank a b m n (inl x) (inl y) le ab = omega (arith, x.1, y.1, ab)
number_goes_by_rank a b m n (inl x) (inr (inl y)) le ab = omega (arith, x.0, x.1, y.1)
number_goes_by_rank a b m n (inr (inl x)) (inl y) le ab = absurd (omega (arith, x.0, y.0, ab))
number_goes_by_rank a b m n (inr (inl x)) (inr (inl y)) le ab = omega (arith, x.1, y.1)
number_goes_by_rank a b m n (inr (inr x)) y le ab = absurd (omega (arith, x, ab, le))
number_goes_by_rank a b m n x (inr (inr y)) le ab = absurd (omega (arith, y, le))

-- a reason of the header is one of the first eleven
pub at_most_eleven : (role : Role) (limits : LimitsValue) (opened : Option Message) (header : HeaderFields) (r : Reason) → AppliesAtHeader role limits opened header r → rank_of r ≤ 11
unfolding rank_of
at_most_eleven role limits opened header ReservedBits h = lit≤ tt
at_most_eleven role limits opened header Opcode h = lit≤ tt
at_most_eleven role limits opened header MaskWrong h = lit≤ tt
at_most_eleven role limits opened header NotShortest h = lit≤ tt
at_most_eleven role limits opened header BadLength h = lit≤ tt
at_most_eleven role limits opened header ControlCut h = lit≤ tt
at_most_eleven role limits opened header ControlLong h = lit≤ tt
at_most_eleven role limits opened header NothingToContinue h = lit≤ tt
at_most_eleven role limits opened header MessageOpen h = lit≤ tt
at_most_eleven role limits opened header TooBig h = lit≤ tt
at_most_eleven role limits opened header FrameBig h = lit≤ tt
at_most_eleven role limits opened header NotText h = absurd h
at_most_eleven role limits opened header TextCut h = absurd h
at_most_eleven role limits opened header CloseOneByte h = absurd h
at_most_eleven role limits opened header CloseCode h = absurd h
at_most_eleven role limits opened header CloseReason h = absurd h

-- a reason of the header has one of the first ten numbers, or tells of a frame that is not empty
pub early_or_big : (role : Role) (limits : LimitsValue) (opened : Option Message) (header : HeaderFields) (r : Reason) → AppliesAtHeader role limits opened header r → (number_of r ≤ 10) ⊎ ((header.opcode ≤ 2) × (limits.max_frame < header.len))
early_or_big role limits opened header ReservedBits h = inl (lit≤ tt)
early_or_big role limits opened header Opcode h = inl (lit≤ tt)
early_or_big role limits opened header MaskWrong h = inl (lit≤ tt)
early_or_big role limits opened header NotShortest h = inl (lit≤ tt)
early_or_big role limits opened header BadLength h = inl (lit≤ tt)
early_or_big role limits opened header ControlCut h = inl (lit≤ tt)
early_or_big role limits opened header ControlLong h = inl (lit≤ tt)
early_or_big role limits opened header NothingToContinue h = inl (lit≤ tt)
early_or_big role limits opened header MessageOpen h = inl (lit≤ tt)
early_or_big role limits opened header TooBig h = inl (lit≤ tt)
early_or_big role limits opened header FrameBig h = inr h
early_or_big role limits opened header NotText h = absurd h
early_or_big role limits opened header TextCut h = absurd h
early_or_big role limits opened header CloseOneByte h = absurd h
early_or_big role limits opened header CloseCode h = absurd h
early_or_big role limits opened header CloseReason h = absurd h

-- none of the first i has this property
abbrev pub NoneBefore : (Reason → Type 0) → ℕ → Type 0
NoneBefore P i = (q : Reason) → rank_of q ≤ i → P q → ⊥

pub none_before_first : (P : Reason → Type 0) → NoneBefore P 0
none_before_first P q le p = omega (arith, le, one_or_more q)

pub none_before_next : (P : Reason → Type 0) (i : ℕ) → i < 11 → (P (reason_in_order i) → ⊥) → NoneBefore P i → NoneBefore P (i + 1)
none_before_next P i lt never before q le p =
    elim (cases_lt i (rank_of q)) [
      | inr early ↦ before q early p
      | inl late ↦
          let here : rank_of q ≡ rank_of (reason_in_order i) = omega (arith, rank_in_order i lt) in
          never (subst P (same_rank q (reason_in_order i) here) p)
    ]

pub none_is_lower : (P : Reason → Type 0) (i : ℕ) → i < 11 → ((q : Reason) → P q → rank_of q ≤ 11) → NoneBefore P i → (q : Reason) → P q → number_of (reason_in_order i) ≤ number_of q
none_is_lower P i lt at before q p =
    elim (cases_lt i (rank_of q)) [
      | inr early ↦ absurd (before q early p)
      | inl late ↦
          let first = reason_in_order i in
          number_goes_by_rank (rank_of first) (rank_of q) (number_of first) (number_of q) (number_by_rank first) (number_by_rank q) (at q p) (omega (arith, rank_in_order i lt))
    ]

pub not_both : (b : Bool) (A : Type 0) → (b ≡ true → A) × (A → b ≡ true) → b ≡ false → A → ⊥
not_both b A iff is a = let yes : b ≡ true = iff.1 a in absurd cc
