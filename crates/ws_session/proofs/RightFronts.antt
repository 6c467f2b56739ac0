-- The front of a right frame: which right frames begin with the bytes that are kept of the frame under way.
use Rattle.std.proofs.Common.{◌≡◌, ◌≢◌, ℕ, ◌-◌, ◌≤◌, Bool, true, false, not, List, [], ◌++◌, length, take, drop}
use Rattle.std.proofs.Common.{replicate, Option, Some, None, refl, sym, ap, ◌∙◌, append_assoc, arith, inl, inr, subst}
use Rattle.std.specs.Prelude.{IsTrue, ◌↔◌}
use Rattle.std.proofs.lemmas.Bool.{cases_lt}
use Rattle.std.proofs.lemmas.List.{length-append, length-replicate, length-take-le, length-drop, append-nil}
use Rattle.ws_wire.specs.declared.role.Role.{Role}
use Rattle.ws_wire.specs.Header.{HeaderFields, IsHeader, AreBytes, header_bytes}
use Rattle.ws_wire.specs.Masking.{masked_payload}
use Rattle.ws_wire.proofs.Headers.{same_header}
use Rattle.ws_wire.proofs.Masks.{masked_payload_bytes, masked_payload_twice}
use Rattle.ws_text.specs.Text.{IsText, BeginsText}
use Rattle.ws_text.specs.Stream.{HasReadText, IsWanted}
use Rattle.ws_text.proofs.Texts.{begins_of_unfinished}
use Rattle.ws_session.specs.declared.message.Message.{Message}
use Rattle.ws_session.specs.declared.reason.Reason.TheVariants.{ControlLong}
use Rattle.ws_session.specs.declared.receiver.under_way.UnderWay.TheVariants as under_way
use Rattle.ws_session.specs.Limits.{LimitsValue}
use Rattle.ws_session.specs.Faults.{open_payload, IsOfText, IsControl}
use Rattle.ws_session.specs.Doomed.{IsRightFrame, CanBeRight, IsDoomed}
use Rattle.ws_session.specs.InnerChecking.{NoneAtHeader}
use Rattle.ws_session.specs.InnerReceiving.{AssemblyValue, frame_payload, IsUnderWay, partial_of}
use Rattle.ws_session.specs.InnerReceiver.{ReceiverValue}
use Rattle.ws_session.specs.InnerDoomed.{EndsText, CanEndClose}
use Rattle.ws_session.proofs.ByteLists.{bytes_append, back_are_bytes}
use Rattle.ws_session.proofs.Assembled.{first_is}
use Rattle.ws_session.proofs.ControlPayloads.{none_of_ping}
use Rattle.ws_session.proofs.Payloads.{begins_front}
use Rattle.ws_session.proofs.Places.{masked_front}
use Rattle.ws_session.proofs.RightPayloads.{zero_bytes, right_of, right_data, right_is_text, can_from}
use Rattle.ws_session.proofs.RightCloses.{none_of_close, close_of_right}

-- ---- whole headers

-- a right frame that begins with a header and some of its payload
pub record FrameGoesOn (role : Role) (limits : LimitsValue) (opened : Option Message) (h : HeaderFields) (came : List ℕ) :
    Type 0 where
  pub rest : List ℕ
  pub right : IsRightFrame role limits opened h (came ++ rest)

pub right_front : (role : Role) (limits : LimitsValue) (opened : Option Message) (h : HeaderFields) (came : List ℕ)
    → IsHeader h → length came ≤ h.len → CanBeRight role limits opened (header_bytes h ++ masked_payload h.key came)
    → FrameGoesOn role limits opened h came
right_front role limits opened h came is le can =
    let s = same_header can.header h (masked_payload can.header.key can.payload)
    (masked_payload h.key came ++ can.later) can.right.is_header is
    (can.parts ∙ append_assoc (header_bytes h) (masked_payload h.key came) can.later) in
    let right : IsRightFrame role limits opened h can.payload = subst
    (λ (g : HeaderFields). IsRightFrame role limits opened g can.payload) s.0 can.right in
    let key : can.header.key ≡ h.key = ap (λ (g : HeaderFields). g.key) s.0 in
    let same : masked_payload h.key came ++ can.later ≡ masked_payload h.key can.payload ++ [] = sym s.1
    ∙ ap (λ (k : Option (List ℕ)). masked_payload k can.payload) key
    ∙ sym (append-nil (masked_payload h.key can.payload)) in
    let parts : can.payload ≡ came ++ drop (length came) can.payload = masked_front h.key came can.payload can.later []
    (omega (arith, right.whole)) same in
    record {
      rest = drop (length came) can.payload;
      right = subst (λ (l : List ℕ). IsRightFrame role limits opened h l)
          parts right;
    }

-- the payload so far, from the bytes as they came
payload_bytes : (h : HeaderFields) (came : List ℕ) → IsHeader h → AreBytes (header_bytes h ++ masked_payload h.key came)
    → AreBytes came
payload_bytes h came is are = subst (λ (l : List ℕ). AreBytes l) (masked_payload_twice h.key came)
    (masked_payload_bytes h.key (masked_payload h.key came) is.key (back_are_bytes (header_bytes h)
    (masked_payload h.key came) are))

rest_is : (h : HeaderFields) (came rest : List ℕ) → length (came ++ rest) ≡ h.len → length rest ≡ h.len - length came
rest_is h came rest e = omega (arith, e, length-append came rest)

-- what a stream has read begins a text
pub read_begins : (text : Option (List ℕ)) (bytes : List ℕ) → HasReadText text bytes → BeginsText bytes
read_begins None bytes h = absurd h
read_begins (Some tail) bytes h = begins_of_unfinished bytes tail h

-- ---- a data frame

module _ (role : Role) (limits : LimitsValue) (a : AssemblyValue) (h : HeaderFields) (came : ℕ)
    (u : IsUnderWay role limits a (under_way.Data h came)) (wanted : ℕ)
    (wants : EndsText a.opened h → (text : List ℕ) → HasReadText a.text text → IsWanted text wanted)
    (other : ¬ EndsText a.opened h → wanted ≡ 0) where
  so_far : List ℕ
  so_far = take came (frame_payload a)

  so_far_len : length so_far ≡ came
  unfolding so_far
  so_far_len = length-take-le came (frame_payload a) (omega (
    arith,
    u.kept.4,
    length-drop
        (length (open_payload a.opened)) a.payload,
  ))

  read_so_far : IsOfText a.opened h → HasReadText a.text (open_payload a.opened ++ so_far)
  unfolding so_far
  read_so_far of_text = subst (λ (l : List ℕ). HasReadText a.text l) (sym (first_is a came u.joined)) (u.kept.5 of_text)

  pub data_can : wanted ≤ h.len - came → CanBeRight role limits a.opened (partial_of a (under_way.Data h came))
  unfolding so_far
  data_can le =
      let right = right_data role limits a.opened h u.kept.0 u.kept.1 so_far (payload_bytes h so_far u.kept.0 u.bytes)
      (omega (arith, so_far_len, u.kept.3)) u.kept.2 (λ of_text. read_begins a.text
      (open_payload a.opened ++ so_far) (read_so_far of_text)) (λ ends.
      (wanted, wants ends (open_payload a.opened ++ so_far) (read_so_far ends.1), omega (arith, le, so_far_len))) in
      can_from role limits a.opened h u.kept.0 u.kept.1 so_far right.0 right.1

  ends_or_not : (b : Bool) → h.fin ≡ b → (EndsText a.opened h → wanted ≤ h.len - came)
      → (¬ EndsText a.opened h → wanted ≡ 0) → wanted ≤ h.len - came
  ends_or_not b e some none = elim (cases_lt (h.len - came) wanted) [
    | inl short ↦ absurd (let never : ¬ EndsText a.opened h = λ ends. let le = some ends in omega arith in let zero =
        none never in omega arith)
    | inr le ↦ le
  ]

  pub data_ends : CanBeRight role limits a.opened (partial_of a (under_way.Data h came)) → wanted ≤ h.len - came
  unfolding so_far
  data_ends can =
      let le : length so_far ≤ h.len = omega (arith, so_far_len, u.kept.3) in
      let f = right_front role limits a.opened h so_far u.kept.0 le can in
      ends_or_not h.fin refl (λ ends.
      let begun : BeginsText (open_payload a.opened ++ so_far) = read_begins a.text (open_payload a.opened ++ so_far)
      (read_so_far ends.1) in
      let text : IsText (open_payload a.opened ++ (so_far ++ f.rest)) = right_is_text role limits a.opened h
      (so_far ++ f.rest) f.right ends.0 ends.1 (begins_front (open_payload a.opened) so_far begun) in
      let least : wanted ≤ length f.rest = (wants ends (open_payload a.opened ++ so_far) (read_so_far ends.1)).least
      f.rest (subst (λ (l : List ℕ). IsText l) (sym (append_assoc (open_payload a.opened) so_far f.rest)) text) in
      omega (arith, least, rest_is h so_far f.rest f.right.whole, so_far_len)) other

-- ---- a control frame

module _ (role : Role) (limits : LimitsValue) (a : AssemblyValue) (h : HeaderFields) (came : List ℕ)
    (u : IsUnderWay role limits a (under_way.Control h came)) where
  control_le : length came ≤ h.len
  control_le = omega (arith, u.kept.3)

  completed : (rest : List ℕ) → length rest ≡ h.len - length came → length (came ++ rest) ≡ h.len
  completed rest e = length-append came rest ∙ omega (arith, e, u.kept.3)

  -- a ping or a pong
  pub ping_can : (h.opcode ≡ 8 → ⊥) → CanBeRight role limits a.opened (partial_of a (under_way.Control h came))
  ping_can never =
      let rest = replicate (h.len - length came) 0 in
      can_from role limits a.opened h u.kept.0 u.kept.1 came rest (right_of role limits a.opened h u.kept.0 u.kept.1
      (came ++ rest) (bytes_append came rest (payload_bytes h came u.kept.0 u.bytes)
      (zero_bytes (h.len - length came))) (completed rest (length-replicate (h.len - length came) 0))
      (none_of_ping a.opened h (came ++ rest) u.kept.2.0 never))

  pub close_can : h.opcode ≡ 8 → CanEndClose came (h.len - length came)
      → CanBeRight role limits a.opened (partial_of a (under_way.Control h came))
  close_can opcode ends =
      let whole : length (came ++ ends.0) ≡ h.len = completed ends.0 ends.1 in
      can_from role limits a.opened h u.kept.0 u.kept.1 came ends.0
      (right_of role limits a.opened h u.kept.0 u.kept.1 (came ++ ends.0)
      (bytes_append came ends.0 (payload_bytes h came u.kept.0 u.bytes) ends.2) whole
      (none_of_close a.opened h (came ++ ends.0) opcode whole ends.3.0 ends.3.1))

  pub close_ends : h.opcode ≡ 8 → h.len ≤ 125 → CanBeRight role limits a.opened
      (partial_of a (under_way.Control h came)) → CanEndClose came (h.len - length came)
  close_ends opcode short can =
      let f = right_front role limits a.opened h came u.kept.0 control_le can in
      let said = close_of_right role limits a.opened h (came ++ f.rest) opcode short f.right in
      (f.rest, rest_is h came f.rest f.right.whole, back_are_bytes came f.rest f.right.are_bytes, said)

-- ---- the frame under way

-- a header that breaks no rule is that of a frame of 125 bytes at most, if it is a control frame's
pub control_short : (role : Role) (limits : LimitsValue) (opened : Option Message) (h : HeaderFields)
    → NoneAtHeader role limits opened h → IsControl h → h.len ≤ 125
control_short role limits opened h fine control = elim (cases_lt 125 h.len)
    [ inl long ↦ absurd (fine ControlLong (control, long)) | inr short ↦ short ]

-- the bytes of a header are some
pub some_header : (h : HeaderFields) (rest : List ℕ) → header_bytes h ++ rest ≢ []
some_header h rest e = cc

-- it is doomed where it can't be right
pub doomed_unless : (role : Role) (limits : LimitsValue) (opened : Option Message) (bytes : List ℕ) (b : Bool)
    → bytes ≢ [] → (IsTrue b → CanBeRight role limits opened bytes) × (CanBeRight role limits opened bytes → IsTrue b)
    → IsTrue (not b) ↔ IsDoomed role limits opened bytes
doomed_unless role limits opened bytes true some can = (λ e. absurd cc, λ d. absurd (d.never (can.0 refl)))
doomed_unless role limits opened bytes false some can = (
  λ _. record
      { begun = some; never = λ c. let e = can.1 c in cc },
  λ _. refl,
)

-- as the receiver shows it
pub doomed_shown : (v w : ReceiverValue) (b : Bool) → v ≡ w → IsTrue b ↔ IsDoomed v.role v.limits v.opened
    v.partial_frame → IsTrue b ↔ IsDoomed w.role w.limits w.opened w.partial_frame
doomed_shown v w b e h = subst (λ (x : ReceiverValue). IsTrue b ↔ IsDoomed x.role x.limits x.opened x.partial_frame) e h
