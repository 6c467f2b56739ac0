-- A payload that has begun well is completed to that of a right frame, and what a right frame's text and close are.
use Rattle.std.proofs.Common.{◌≡◌, ℕ, zero, suc, ◌+◌, ◌-◌, ◌<◌, ◌≤◌, Bool, true, false, List, [], ◌∷◌, ◌++◌, length}
use Rattle.std.proofs.Common.{take, replicate, Option, refl, sym, ap, ◌∙◌, append_assoc, arith, inl, inr, subst, lit≤}
use Rattle.std.proofs.lemmas.Bool.{cases_lt}
use Rattle.std.proofs.lemmas.List.{length-append, length-replicate, length-take-le, take_all, append-nil}
use Rattle.ws_wire.specs.declared.role.Role.{Role}
use Rattle.ws_wire.specs.Header.{HeaderFields, IsHeader, AreBytes, header_bytes}
use Rattle.ws_wire.specs.Masking.{masked_payload}
use Rattle.ws_wire.proofs.Numbers.{front_bytes}
use Rattle.ws_text.specs.Text.{IsText, BeginsText}
use Rattle.ws_text.specs.Stream.{IsWanted}
use Rattle.ws_text.proofs.Characters.{character_1}
use Rattle.ws_text.proofs.Texts.{no_text, text_append, text_of_character}
use Rattle.ws_text.proofs.Wanted.{text_bytes}
use Rattle.ws_session.specs.declared.message.Message.{Message}
use Rattle.ws_session.specs.declared.reason.Reason.TheVariants.{NotText, TextCut}
use Rattle.ws_session.specs.Limits.{LimitsValue}
use Rattle.ws_session.specs.Faults.{open_payload, IsOfText, AppliesInPayload}
use Rattle.ws_session.specs.Doomed.{IsRightFrame, CanBeRight}
use Rattle.ws_session.specs.InnerChecking.{NoneAtHeader, NoneInPayload}
use Rattle.ws_session.specs.InnerDoomed.{EndsText, CanEndText}
use Rattle.ws_session.specs.InnerMasked.{masked_from}
use Rattle.ws_session.proofs.ByteLists.{bytes_append, back_are_bytes}
use Rattle.ws_session.proofs.Decided.{text_told, begins_told}
use Rattle.ws_session.proofs.FineFrames.{text_frame_or_not}
use Rattle.ws_session.proofs.MaskedParts.{masked_after}
use Rattle.ws_session.proofs.Payloads.{begins_take, none_of_binary, none_of_text}

-- ---- zeros

pub zero_bytes : (n : ℕ) → AreBytes (replicate n 0)
zero_bytes zero i = omega arith
zero_bytes (suc n) zero = omega arith
zero_bytes (suc n) (suc i) = zero_bytes n i

pub zero_text : (n : ℕ) → IsText (replicate n 0)
zero_text zero = no_text
zero_text (suc n) = text_append (0 ∷ []) (replicate n 0) (text_of_character 0 (0 ∷ []) (character_1 0 (lit≤ tt)))
    (zero_text n)

-- some bytes, and zeros up to a number of them
pub filled : List ℕ → ℕ → List ℕ
filled bytes left = bytes ++ replicate (left - length bytes) 0

pub length-filled : (bytes : List ℕ) (left : ℕ) → length bytes ≤ left → length (filled bytes left) ≡ left
unfolding filled
length-filled bytes left le = length-append bytes (replicate (left - length bytes) 0)
    ∙ ap (λ n. length bytes + n) (length-replicate (left - length bytes) 0) ∙ omega arith

pub filled_bytes : (bytes : List ℕ) (left : ℕ) → AreBytes bytes → AreBytes (filled bytes left)
unfolding filled
filled_bytes bytes left are = bytes_append bytes (replicate (left - length bytes) 0) are
    (zero_bytes (left - length bytes))

-- zeros behind a text leave a text
pub filled_text : (front bytes : List ℕ) (left : ℕ) → IsText (front ++ bytes) → IsText (front ++ filled bytes left)
unfolding filled
filled_text front bytes left t = subst (λ (l : List ℕ). IsText l) (append_assoc front bytes
    (replicate (left - length bytes) 0)) (text_append (front ++ bytes) (replicate (left - length bytes) 0) t
    (zero_text (left - length bytes)))

pub text_begins : (bytes : List ℕ) → IsText bytes → BeginsText bytes
text_begins bytes t = record { more = []; is_text = subst (λ (l : List ℕ). IsText l) (sym (append-nil bytes)) t }

-- so many bytes complete a text as it wants at least
pub can_end_text : (bytes : List ℕ) (n left : ℕ) → IsWanted bytes n → n ≤ left → CanEndText bytes left
can_end_text bytes n left wanted le =
    let w = wanted.enough.0 in
    (filled w left, length-filled w left (omega (arith, wanted.enough.1, le)), filled_text bytes w left wanted.enough.2)

-- ---- a right frame

module _ (role : Role) (limits : LimitsValue) (opened : Option Message) (h : HeaderFields) (is : IsHeader h)
    (fine : NoneAtHeader role limits opened h) where
  -- no reason at the header, and none in the payload
  pub right_of : (p : List ℕ) → AreBytes p → length p ≡ h.len → NoneInPayload opened h p
      → IsRightFrame role limits opened h p
  right_of p are whole clean = record {
    is_header = is;
    are_bytes = are;
    whole = whole;
    right = λ n r le a. elim a [ inl x ↦ fine r x.1 | inr x ↦ clean n r le x ];
  }

  -- what came, and what completes it
  pub can_from : (came rest : List ℕ) → IsRightFrame role limits opened h (came ++ rest)
      → CanBeRight role limits opened (header_bytes h ++ masked_payload h.key came)
  can_from came rest right = record {
    header = h;
    payload = came ++ rest;
    later = masked_from h.key (length came) rest;
    parts = ap (λ (l : List ℕ). header_bytes h ++ l) (masked_after h.key came rest)
        ∙ sym (append_assoc (header_bytes h) (masked_payload h.key came) (masked_from h.key (length came) rest));
    right = right;
  }

  -- ---- of a message

  module _ (came : List ℕ) (are : AreBytes came) (fits : length came ≤ h.len) (opcode : h.opcode ≤ 2) where
    all_of : (more : List ℕ) → length more ≡ h.len - length came → length (came ++ more) ≡ h.len
    all_of more e = length-append came more ∙ omega (arith, e)

    right_binary : (IsOfText opened h → ⊥) → (rest : List ℕ) × IsRightFrame role limits opened h (came ++ rest)
    right_binary never =
        let rest = replicate (h.len - length came) 0 in
        let size : length (came ++ rest) ≡ h.len = all_of rest (length-replicate (h.len - length came) 0) in
        let within : length (came ++ rest) ≤ h.len = omega arith in (
          rest,
          right_of (came ++ rest) (bytes_append came rest are (zero_bytes (h.len - length came))) size
              (none_of_binary opened h (came ++ rest) opcode within never),
        )

    right_text : (more : List ℕ) → length more ≡ h.len - length came → AreBytes more
        → BeginsText ((open_payload opened ++ came) ++ more) → (h.fin ≡ true
        → IsText ((open_payload opened ++ came) ++ more))
        → (rest : List ℕ) × IsRightFrame role limits opened h (came ++ rest)
    right_text more left more_are begins whole =
        let size : length (came ++ more) ≡ h.len = all_of more left in
        let within : length (came ++ more) ≤ h.len = omega arith in
        let parts = append_assoc (open_payload opened) came more in (
          more,
          right_of (came ++ more) (bytes_append came more are more_are) size
              (none_of_text opened h (came ++ more) opcode within (subst (λ (l : List ℕ). BeginsText l) parts begins)
              (λ fin all never. never (subst (λ (l : List ℕ). IsText l) parts (whole fin)))),
        )

    -- the text goes on with some bytes: they, or a front of them, or zeros behind them
    right_going_on : (more : List ℕ) → IsText ((open_payload opened ++ came) ++ more)
        → (h.fin ≡ true → length more ≤ h.len - length came) → (rest : List ℕ)
        × IsRightFrame role limits opened h (came ++ rest)
    right_going_on more text ends =
        let front = open_payload opened ++ came in
        let left = h.len - length came in
        let more_are : AreBytes more = back_are_bytes front more (text_bytes (front ++ more) text) in
        elim (cases_lt left (length more)) [
          | inl short ↦ right_text (take left more) (length-take-le left more (omega arith))
              (front_bytes left more more_are) (begins_take front more left (text_begins (front ++ more) text))
              (λ fin. absurd (omega (arith, ends fin)))
          | inr enough ↦
              let full : IsText (front ++ filled more left) = filled_text front more left text in
              right_text (filled more left) (length-filled more left enough) (filled_bytes more left more_are)
              (text_begins (front ++ filled more left) full) (λ fin. full)
        ]

    right_of_text : (b : Bool) → h.fin ≡ b → BeginsText (open_payload opened ++ came)
        → (h.fin ≡ true → (n : ℕ) × IsWanted (open_payload opened ++ came) n × (n ≤ h.len - length came))
        → (rest : List ℕ) × IsRightFrame role limits opened h (came ++ rest)
    right_of_text true fin begins wants =
        let w = wants fin in
        right_going_on w.1.enough.0 w.1.enough.2 (λ _. omega (arith, w.1.enough.1, w.2))
    right_of_text false fin begins wants = right_going_on begins.more begins.is_text
        (λ e. let no : true ≡ false = sym e ∙ fin in absurd cc)

    -- where a text ends with the frame, the frame has room for what the text wants
    pub right_data : (IsOfText opened h → BeginsText (open_payload opened ++ came))
        → (EndsText opened h → (n : ℕ) × IsWanted (open_payload opened ++ came) n × (n ≤ h.len - length came))
        → (rest : List ℕ) × IsRightFrame role limits opened h (came ++ rest)
    right_data begins wants =
        elim (text_frame_or_not opened h.opcode) [
          | inl of_text ↦ right_of_text h.fin refl (begins of_text) (λ fin. wants (fin, of_text))
          | inr never ↦ right_binary never
        ]

-- ---- what a right frame ends

-- the message that a right frame ends is a text, if it is of one
pub right_is_text : (role : Role) (limits : LimitsValue) (opened : Option Message) (h : HeaderFields) (p : List ℕ)
    → IsRightFrame role limits opened h p → h.fin ≡ true → IsOfText opened h → BeginsText (open_payload opened)
    → IsText (open_payload opened ++ p)
right_is_text role limits opened h p right fin of_text begins =
    let all : take (length p) p ≡ p = take_all (length p) p (omega arith) in
    let none : (r : _) → AppliesInPayload opened h p r → ⊥ = λ r a. right.right (length p) r (omega arith)
    (inr (subst (λ (l : List ℕ). AppliesInPayload opened h l r) (sym all) a)) in
    elim (text_told (open_payload opened ++ p)) [
      | inl text ↦ text
      | inr never ↦ elim (begins_told (open_payload opened ++ p)) [
        | inl goes_on ↦ absurd (none TextCut (of_text, fin, right.whole, goes_on, never))
        | inr stops ↦ absurd (stops (still_begins p (λ some stopped. none NotText (of_text, some, stopped)) stops))
      ]
    ]
  where
    still_begins : (q : List ℕ) → (0 < length q → (BeginsText (open_payload opened ++ q) → ⊥) → ⊥)
        → (BeginsText (open_payload opened ++ q) → ⊥) → BeginsText (open_payload opened ++ q)
    still_begins [] none stops = subst (λ (l : List ℕ). BeginsText l) (sym (append-nil (open_payload opened))) begins
    still_begins (b ∷ q) none stops = absurd (none (omega arith) stops)
