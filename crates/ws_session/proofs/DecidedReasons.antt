-- Whether a reason applies to a part of a frame can be told.
use Rattle.std.proofs.Common.{◌≡◌, ℕ, ◌+◌, ◌*◌, ◌^◌, ◌<◌, ◌≤◌, ◌⊎◌, ◌/◌, ◌%◌, Bool, true, false, List, [], ◌∷◌, ◌++◌, length, drop, get_or, Option, Some, None, refl, sym, ap, ◌∙◌, arith, inl, inr, subst}
use Rattle.std.proofs.lemmas.Bool.{cases_eq}
use Rattle.ws_wire.specs.declared.role.Role.{Role}
use Rattle.ws_wire.specs.declared.header.Form.{Form}
use Rattle.ws_wire.specs.declared.header.Form.TheVariants.{Short, Two, Eight}
use Rattle.ws_wire.specs.Header.{HeaderFields, AreBytes, is_masked}
use Rattle.ws_text.specs.Text.{IsText, BeginsText}
use Rattle.ws_text.specs.Close.{CloseValue, CodeAllowed, HoldsCode, HasBadCode}
use Rattle.ws_text.proofs.Closes.{holds_code, behind_code}
use Rattle.ws_session.specs.declared.message.Kind.{Kind}
use Rattle.ws_session.specs.declared.message.Kind.TheVariants.{Text, Binary}
use Rattle.ws_session.specs.declared.message.Message.{Message}
use Rattle.ws_session.specs.declared.reason.Reason.{Reason}
use Rattle.ws_session.specs.declared.reason.Reason.TheVariants.{ReservedBits, Opcode, MaskWrong, NotShortest, BadLength, ControlCut, ControlLong, NothingToContinue, MessageOpen, TooBig, FrameBig, NotText, TextCut, CloseOneByte, CloseCode, CloseReason}
use Rattle.ws_session.specs.Limits.{LimitsValue}
use Rattle.ws_session.specs.Faults.{number_of, expects_key, open_payload, IsOpenText, IsOfText, IsControl, AppliesAtHeader, AppliesInPayload, Applies}
use Rattle.ws_session.proofs.Faults.{reason_at, reason_again}
use Rattle.ws_session.proofs.Decided.{Told, both_told, either_told, not_told, told_by, less_told, most_told, least_told, text_told, begins_told, code_told}

three_told : (P Q R : Type 0) → Told P → Told Q → Told R → Told (P × Q × R)
three_told P Q R p q r = told_by (P × (Q × R)) (P × Q × R) (λ h. (h.0, h.1.0, h.1.1)) (λ h. (h.0, (h.1, h.2))) (both_told P (Q × R) p (both_told Q R q r))

pub bool_told : (a b : Bool) → Told (a ≡ b)
bool_told true true = inl refl
bool_told true false = inr (λ e. absurd cc)
bool_told false true = inr (λ e. absurd cc)
bool_told false false = inl refl

two_told : (f : Form) → Told (f ≡ Two)
two_told Short = inr (λ e. absurd cc)
two_told Two = inl refl
two_told Eight = inr (λ e. absurd cc)

eight_told : (f : Form) → Told (f ≡ Eight)
eight_told Short = inr (λ e. absurd cc)
eight_told Two = inr (λ e. absurd cc)
eight_told Eight = inl refl

none_told : (opened : Option Message) → Told (opened ≡ None)
none_told None = inl refl
none_told (Some message) = inr (λ e. absurd cc)

kind_told : (kind : Kind) → Told (kind ≡ Text)
kind_told Text = inl refl
kind_told Binary = inr (λ e. absurd cc)

-- ---- the header

open_text_told : (opened : Option Message) → Told (IsOpenText opened)
open_text_told None = inr (λ h. h)
open_text_told (Some message) = kind_told message.kind

of_text_told : (opened : Option Message) (header : HeaderFields) → Told (IsOfText opened header)
of_text_told opened header = either_told (header.opcode ≡ 1) ((header.opcode ≡ 0) × IsOpenText opened) (cases_eq header.opcode 1) (both_told (header.opcode ≡ 0) (IsOpenText opened) (cases_eq header.opcode 0) (open_text_told opened))

control_told : (header : HeaderFields) → Told (IsControl header)
control_told header = both_told (8 ≤ header.opcode) (header.opcode ≤ 10) (most_told 8 header.opcode) (most_told header.opcode 10)

at_header_told : (role : Role) (limits : LimitsValue) (opened : Option Message) (header : HeaderFields) (reason : Reason) → Told (AppliesAtHeader role limits opened header reason)
at_header_told role limits opened header ReservedBits = not_told (header.rsv ≡ 0) (cases_eq header.rsv 0)
at_header_told role limits opened header Opcode = either_told ((3 ≤ header.opcode) × (header.opcode ≤ 7)) (11 ≤ header.opcode) (both_told (3 ≤ header.opcode) (header.opcode ≤ 7) (most_told 3 header.opcode) (most_told header.opcode 7)) (most_told 11 header.opcode)
at_header_told role limits opened header MaskWrong = not_told (is_masked header.key ≡ expects_key role) (bool_told (is_masked header.key) (expects_key role))
at_header_told role limits opened header NotShortest = either_told ((header.form ≡ Two) × (header.len < 126)) ((header.form ≡ Eight) × (header.len < 65536))
    (both_told (header.form ≡ Two) (header.len < 126) (two_told header.form) (less_told header.len 126)) (both_told (header.form ≡ Eight) (header.len < 65536) (eight_told header.form) (less_told header.len 65536))
at_header_told role limits opened header BadLength = most_told (2 ^ 63) header.len
at_header_told role limits opened header ControlCut = both_told (IsControl header) (header.fin ≡ false) (control_told header) (bool_told header.fin false)
at_header_told role limits opened header ControlLong = both_told (IsControl header) (125 < header.len) (control_told header) (less_told 125 header.len)
at_header_told role limits opened header NothingToContinue = both_told (header.opcode ≡ 0) (opened ≡ None) (cases_eq header.opcode 0) (none_told opened)
at_header_told role limits opened header MessageOpen = both_told ((header.opcode ≡ 1) ⊎ (header.opcode ≡ 2)) (opened ≡ None → ⊥) (either_told (header.opcode ≡ 1) (header.opcode ≡ 2) (cases_eq header.opcode 1) (cases_eq header.opcode 2)) (not_told (opened ≡ None) (none_told opened))
at_header_told role limits opened header TooBig = both_told (header.opcode ≤ 2) (limits.max_message < length (open_payload opened) + header.len) (most_told header.opcode 2) (less_told limits.max_message (length (open_payload opened) + header.len))
at_header_told role limits opened header FrameBig = both_told (header.opcode ≤ 2) (limits.max_frame < header.len) (most_told header.opcode 2) (less_told limits.max_frame header.len)
at_header_told role limits opened header NotText = inr (λ h. h)
at_header_told role limits opened header TextCut = inr (λ h. h)
at_header_told role limits opened header CloseOneByte = inr (λ h. h)
at_header_told role limits opened header CloseCode = inr (λ h. h)
at_header_told role limits opened header CloseReason = inr (λ h. h)

-- ---- what a close payload says

make_close : ℕ → List ℕ → CloseValue
make_close code reason = record { code = code; reason = reason }

same_close : (payload : List ℕ) (c d : CloseValue) → HoldsCode payload c → HoldsCode payload d → c ≡ d
unfolding make_close
same_close payload c d hc hd =
    let e : (c.code / 256) ∷ (c.code % 256) ∷ c.reason ≡ (d.code / 256) ∷ (d.code % 256) ∷ d.reason = sym hc.bytes ∙ hd.bytes in
    let high : c.code / 256 ≡ d.code / 256 = ap (λ (l : List ℕ). get_or l 0 0) e in
    let low : c.code % 256 ≡ d.code % 256 = ap (λ (l : List ℕ). get_or l 1 0) e in
    let code : c.code ≡ d.code = omega (arith, high, low) in
    let reason : c.reason ≡ d.reason = ap (λ (l : List ℕ). drop 2 l) e in
    let same : make_close c.code c.reason ≡ make_close d.code d.reason = cc in
    same

held_or_none : (payload : List ℕ) → AreBytes payload → ((close : CloseValue) × HoldsCode payload close) ⊎ ((close : CloseValue) → HoldsCode payload close → ⊥)
held_or_none [] are = inr (λ close h. let e = ap (λ (l : List ℕ). length l) h.bytes in absurd (omega arith))
held_or_none (a ∷ []) are = inr (λ close h. let e = ap (λ (l : List ℕ). length l) h.bytes in absurd (omega arith))
held_or_none (a ∷ b ∷ reason) are = inl (record { code = a * 256 + b; reason = behind_code (a ∷ b ∷ reason) }, holds_code (a ∷ b ∷ reason) (a * 256 + b) (omega arith) (are 0) (are 1) refl)

held_told : (payload : List ℕ) (P : CloseValue → Type 0) → AreBytes payload → ((close : CloseValue) → Told (P close)) → Told ((close : CloseValue) × HoldsCode payload close × P close)
held_told payload P are tell =
    elim (held_or_none payload are) [
      | inr none ↦ inr (λ h. none h.0 h.1)
      | inl held ↦ told_by (P held.0) ((close : CloseValue) × HoldsCode payload close × P close) (λ p. (held.0, held.1, p)) (λ h. subst P (same_close payload h.0 held.0 h.1 held.1) h.2) (tell held.0)
    ]

-- ---- the payload

cut_told : (opened : Option Message) (header : HeaderFields) (payload : List ℕ) → Told (AppliesInPayload opened header payload TextCut)
cut_told opened header payload =
    let text = open_payload opened ++ payload in
    told_by ((IsOfText opened header × (header.fin ≡ true) × (length payload ≡ header.len)) × (BeginsText text × (IsText text → ⊥))) (IsOfText opened header × (header.fin ≡ true) × (length payload ≡ header.len) × BeginsText text × (IsText text → ⊥))
    (λ h. (h.0.0, h.0.1, h.0.2, h.1.0, h.1.1)) (λ h. ((h.0, h.1, h.2), (h.3, h.4)))
    (both_told (IsOfText opened header × (header.fin ≡ true) × (length payload ≡ header.len)) (BeginsText text × (IsText text → ⊥))
    (three_told (IsOfText opened header) (header.fin ≡ true) (length payload ≡ header.len) (of_text_told opened header) (bool_told header.fin true) (cases_eq (length payload) header.len))
    (both_told (BeginsText text) (IsText text → ⊥) (begins_told text) (not_told (IsText text) (text_told text))))

in_payload_told : (opened : Option Message) (header : HeaderFields) (payload : List ℕ) → AreBytes payload → (reason : Reason) → Told (AppliesInPayload opened header payload reason)
in_payload_told opened header payload are ReservedBits = inr (λ h. h)
in_payload_told opened header payload are Opcode = inr (λ h. h)
in_payload_told opened header payload are MaskWrong = inr (λ h. h)
in_payload_told opened header payload are NotShortest = inr (λ h. h)
in_payload_told opened header payload are BadLength = inr (λ h. h)
in_payload_told opened header payload are ControlCut = inr (λ h. h)
in_payload_told opened header payload are ControlLong = inr (λ h. h)
in_payload_told opened header payload are NothingToContinue = inr (λ h. h)
in_payload_told opened header payload are MessageOpen = inr (λ h. h)
in_payload_told opened header payload are TooBig = inr (λ h. h)
in_payload_told opened header payload are FrameBig = inr (λ h. h)
in_payload_told opened header payload are NotText =
    three_told (IsOfText opened header) (0 < length payload) (BeginsText (open_payload opened ++ payload) → ⊥) (of_text_told opened header) (less_told 0 (length payload)) (not_told (BeginsText (open_payload opened ++ payload)) (begins_told (open_payload opened ++ payload)))
in_payload_told opened header payload are TextCut = cut_told opened header payload
in_payload_told opened header payload are CloseOneByte = three_told (header.opcode ≡ 8) (length payload ≡ header.len) (length payload ≡ 1) (cases_eq header.opcode 8) (cases_eq (length payload) header.len) (cases_eq (length payload) 1)
in_payload_told opened header payload are CloseCode =
    three_told (header.opcode ≡ 8) (length payload ≡ header.len) (HasBadCode payload) (cases_eq header.opcode 8) (cases_eq (length payload) header.len)
    (held_told payload (λ close. CodeAllowed close.code → ⊥) are (λ close. not_told (CodeAllowed close.code) (code_told close.code)))
in_payload_told opened header payload are CloseReason =
    three_told (header.opcode ≡ 8) (length payload ≡ header.len) ((close : CloseValue) × HoldsCode payload close × (IsText close.reason → ⊥)) (cases_eq header.opcode 8) (cases_eq (length payload) header.len)
    (held_told payload (λ close. IsText close.reason → ⊥) are (λ close. not_told (IsText close.reason) (text_told close.reason)))

empty_told : (payload : List ℕ) → Told (payload ≡ [])
empty_told [] = inl refl
empty_told (b ∷ payload) = inr (λ e. absurd cc)

pub applies_told : (role : Role) (limits : LimitsValue) (opened : Option Message) (header : HeaderFields) (payload : List ℕ) → AreBytes payload → (reason : Reason) → Told (Applies role limits opened header payload reason)
applies_told role limits opened header payload are reason =
    either_told ((payload ≡ []) × AppliesAtHeader role limits opened header reason) (AppliesInPayload opened header payload reason)
    (both_told (payload ≡ []) (AppliesAtHeader role limits opened header reason) (empty_told payload) (at_header_told role limits opened header reason)) (in_payload_told opened header payload are reason)

-- ---- the reason with the lowest number

numbered_told : (P : Reason → Type 0) → ((reason : Reason) → Told (P reason)) → (i : ℕ) → Told ((reason : Reason) × (number_of reason ≡ i) × P reason)
numbered_told P tell i =
    elim (cases_eq (number_of (reason_at i)) i) [
      | inr other ↦ inr (λ h. other (ap number_of (ap reason_at (sym h.1) ∙ reason_again h.0) ∙ h.1))
      | inl same ↦ told_by (P (reason_at i)) ((reason : Reason) × (number_of reason ≡ i) × P reason) (λ p. (reason_at i, same, p)) (λ h. subst P (sym (reason_again h.0) ∙ ap reason_at h.1) h.2) (tell (reason_at i))
    ]

at_most_sixteen : (reason : Reason) → number_of reason < 17
at_most_sixteen ReservedBits = omega arith
at_most_sixteen Opcode = omega arith
at_most_sixteen MaskWrong = omega arith
at_most_sixteen NotShortest = omega arith
at_most_sixteen BadLength = omega arith
at_most_sixteen ControlCut = omega arith
at_most_sixteen ControlLong = omega arith
at_most_sixteen NothingToContinue = omega arith
at_most_sixteen MessageOpen = omega arith
at_most_sixteen TooBig = omega arith
at_most_sixteen FrameBig = omega arith
at_most_sixteen NotText = omega arith
at_most_sixteen TextCut = omega arith
at_most_sixteen CloseOneByte = omega arith
at_most_sixteen CloseCode = omega arith
at_most_sixteen CloseReason = omega arith

-- of the reasons of which something holds the first, or none, where it can be told of each
pub lowest_told : (P : Reason → Type 0) → ((reason : Reason) → Told (P reason)) → ((reason : Reason) × P reason × ((other : Reason) → P other → number_of reason ≤ number_of other)) ⊎ ((reason : Reason) → P reason → ⊥)
lowest_told P tell =
    elim (least_told (λ (i : ℕ). (reason : Reason) × (number_of reason ≡ i) × P reason) (numbered_told P tell) 17) [
      | inl found ↦ inl (found.1.0, found.1.2, λ other p. omega (arith, found.1.1, found.2 (number_of other) (other, refl, p)))
      | inr none ↦ inr (λ reason p. none (number_of reason) (at_most_sixteen reason) (reason, refl, p))
    ]
