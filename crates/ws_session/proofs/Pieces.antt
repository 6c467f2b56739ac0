-- A piece after the frame that is under way.
use Rattle.std.proofs.Common.{◌≡◌, ℕ, ◌+◌, ◌-◌, ◌<◌, ◌≤◌, List, [], ◌++◌, length, take, drop, Option, Some, None, refl, sym, ap, ◌∙◌, arith, inl, inr, subst}
use Rattle.std.proofs.lemmas.Bool.{cases_lt}
use Rattle.std.proofs.lemmas.List.{length-append, length-take-le, length-drop, drop-take, append-nil, take_all}
use Rattle.ws_wire.specs.declared.role.Role.{Role}
use Rattle.ws_wire.specs.Header.{HeaderFields, AreBytes, header_bytes}
use Rattle.ws_wire.specs.Masking.{masked_payload}
use Rattle.ws_wire.specs.Reading.{Begins, BeginsNoHeader}
use Rattle.ws_text.specs.Stream.{HasReadText}
use Rattle.ws_session.specs.declared.message.Message.{Message}
use Rattle.ws_session.specs.declared.reason.Reason.{Reason}
use Rattle.ws_session.specs.declared.reason.Reason.TheVariants.{Opcode, ControlLong, MessageOpen}
use Rattle.ws_session.specs.declared.receiver.under_way.UnderWay.{UnderWay}
use Rattle.ws_session.specs.declared.receiver.under_way.UnderWay.TheVariants as under_way
use Rattle.ws_session.specs.InnerContent as content
use Rattle.ws_session.specs.declared.receiver.piece_check.PieceCheck.{PieceCheck}
use Rattle.ws_session.specs.declared.receiver.piece_check.PieceCheck.TheVariants as piece_check
use Rattle.ws_session.specs.InnerFrameCheck.{FrameCheck}
use Rattle.ws_session.specs.InnerFrameCheck as check
use Rattle.ws_session.specs.Limits.{LimitsValue}
use Rattle.ws_session.specs.Faults.{IsControl, IsOfText, open_payload}
use Rattle.ws_session.specs.InnerAssembly.{HasReadOpen}
use Rattle.ws_session.specs.InnerChecking.{NoneAtHeader, IsFirstAtHeader}
use Rattle.ws_session.specs.InnerReceiving.{AssemblyValue, with_text, frame_payload, first_bytes, HasKept, IsJoined, arrived_payload, control_payload_of, partial_of, IsUnderWay, HasNewData, IsPayloadCheck, IsDataCheck, IsFrameCheck, IsControlAt, IsPieceCheck, ShowsTheSame}
use Rattle.ws_session.proofs.Frames.{none_or_some, one_or_two, at_header, part_of_header, room_for_header}
use Rattle.ws_session.proofs.Payloads.{read_open}
use Rattle.ws_session.proofs.Assembled.{first_is}
use Rattle.ws_wire.proofs.Masks.{length-masked_payload}
use Rattle.ws_session.proofs.Received.{begins_kept, kept_checked, first_checked}

-- ---- a header that breaks no rule

module _ (role : Role) (limits : LimitsValue) (opened : Option Message) (h : HeaderFields) (none : NoneAtHeader role limits opened h) where
  from_3 : 3 ≤ h.opcode → IsControl h
  from_3 low = elim (cases_lt h.opcode 8) [ inl reserved ↦ absurd (none Opcode (inl (low, omega arith))) | inr eight ↦ elim (cases_lt h.opcode 11) [ inl small ↦ (eight, omega arith) | inr big ↦ absurd (none Opcode (inr big)) ] ]

  pub opcode_of_control : (h.opcode ≤ 2 → ⊥) → IsControl h
  opcode_of_control more = elim (cases_lt h.opcode 3) [ inl small ↦ absurd (more (omega arith)) | inr low ↦ from_3 low ]

  pub short_control : IsControl h → h.len ≤ 125
  short_control control = elim (cases_lt 125 h.len) [ inl long ↦ absurd (none ControlLong (control, long)) | inr short ↦ short ]

  pub none_open : h.opcode ≤ 2 → 1 ≤ h.opcode → opened ≡ None
  none_open le one = none_or_some opened (λ some. none MessageOpen (one_or_two h.opcode le one, some))

-- ---- before the payload

pub kept_first : (a : AssemblyValue) → IsJoined a → HasKept a 0
kept_first a joined = omega (arith, ap (λ (l : List ℕ). length l) joined, length-append (open_payload a.opened) (frame_payload a))

pub read_first : (a : AssemblyValue) (h : HeaderFields) → IsJoined a → (1 ≤ h.opcode → a.opened ≡ None) → HasReadOpen a.opened a.text → IsOfText a.opened h → HasReadText a.text (first_bytes a 0)
read_first a h joined begins reads of = subst (λ (l : List ℕ). HasReadText a.text l) (sym (append-nil (open_payload a.opened)) ∙ first_is a 0 joined) (read_open a.opened h a.text begins reads of)

-- the header isn't whole
pub header_part : (role : Role) (limits : LimitsValue) (a : AssemblyValue) (k : ℕ) (bytes next : List ℕ) (text : Option (List ℕ)) → BeginsNoHeader bytes → AreBytes bytes → length bytes < 14 → IsJoined a → HasReadOpen a.opened a.text → next ≡ bytes → text ≡ a.text → IsFrameCheck role limits a k bytes (check.Need (under_way.Header next) text)
header_part role limits a k bytes next text none are short joined reads same same_text =
    let kept : IsUnderWay role limits (with_text a text) (under_way.Header next) = record {
      bytes = subst (λ (l : List ℕ). AreBytes l) (sym same) are;
      joined = joined;
      kept = (subst (λ (l : List ℕ). BeginsNoHeader l) (sym same) none, subst (λ (t : Option (List ℕ)). HasReadOpen a.opened t) (sym same_text) reads);
    } in
    (part_of_header role limits a.opened bytes none, room_for_header limits a.opened bytes short, same, kept)

-- the header breaks a rule
pub header_fault : (role : Role) (limits : LimitsValue) (a : AssemblyValue) (kept piece : List ℕ) (h : HeaderFields) (used : ℕ) (r : Reason) → Begins h (length kept + used) (kept ++ piece) → AreBytes (kept ++ piece) → IsFirstAtHeader role limits a.opened h r → IsFrameCheck role limits a (length kept) (kept ++ piece) (check.Fault r used)
header_fault role limits a kept piece h used r b are first =
    at_header role limits a.opened (kept ++ piece) h (length kept + used) b (masked_payload h.key (take h.len (drop (length kept + used) (kept ++ piece)))) refl are r first

-- ---- the frame that is under way

module _ (role : Role) (limits : LimitsValue) (a : AssemblyValue) (h : HeaderFields) (came : ℕ) (u : IsUnderWay role limits a (under_way.Data h came)) where
  came_size : length (take came (frame_payload a)) ≡ came
  came_size = let k = u.kept in length-take-le came (frame_payload a) (omega (arith, k.4, length-drop (length (open_payload a.opened)) a.payload))

  -- a piece of its payload
  pub piece_of_data : (b : AssemblyValue) (piece : List ℕ) (j : FrameCheck) → AreBytes (partial_of a (under_way.Data h came) ++ piece) → b.opened ≡ a.opened → IsJoined b → frame_payload b ≡ arrived_payload h (take came (frame_payload a)) piece → IsPayloadCheck h came 0 b (frame_payload b) j
      → IsFrameCheck role limits b (length (partial_of a (under_way.Data h came))) (partial_of a (under_way.Data h came) ++ piece) j
  piece_of_data b piece j are opened joined arrived c =
      let k = u.kept in
      let none : NoneAtHeader role limits b.opened h = subst (λ (o : Option Message). NoneAtHeader role limits o h) (sym opened) k.1 in
      kept_checked role limits b h (take came (frame_payload a)) piece (frame_payload b) k.0 are none joined (omega (arith, came_size, k.3)) arrived (λ control. absurd (omega (arith, control.0, k.2))) j
      (subst (λ n. IsPayloadCheck h n 0 b (frame_payload b) j) (sym came_size) c)

  -- it is still under way
  pub same_partial : (b : AssemblyValue) → b.opened ≡ a.opened → first_bytes b came ≡ first_bytes a came → partial_of b (under_way.Data h came) ≡ partial_of a (under_way.Data h came)
  same_partial b opened first =
      let before : length (open_payload b.opened) ≡ length (open_payload a.opened) = ap (λ (o : Option Message). length (open_payload o)) opened in
      ap (λ (l : List ℕ). header_bytes h ++ masked_payload h.key l)
      (sym (drop-take (length (open_payload b.opened)) came b.payload) ∙ ap (λ (l : List ℕ). drop (length (open_payload b.opened)) l) first ∙ ap (λ n. drop n (first_bytes a came)) before ∙ drop-take (length (open_payload a.opened)) came a.payload)

  pub still_data : (b : AssemblyValue) → b.opened ≡ a.opened → b.text ≡ a.text → first_bytes b came ≡ first_bytes a came → HasKept b came → IsJoined b → IsUnderWay role limits b (under_way.Data h came)
  still_data b opened text first has joined =
      let k = u.kept in
      let none : NoneAtHeader role limits b.opened h = subst (λ (o : Option Message). NoneAtHeader role limits o h) (sym opened) k.1 in
      record {
        bytes = subst (λ (l : List ℕ). AreBytes l) (sym (same_partial b opened first)) u.bytes;
        joined = joined;
        kept = (k.0, none, k.2, k.3, has, λ of. subst (λ (l : List ℕ). HasReadText b.text l) (sym first) (subst (λ (t : Option (List ℕ)). HasReadText t (first_bytes a came)) (sym text) (k.5 (subst (λ (o : Option Message). IsOfText o h) opened of))));
      }

-- a piece of a control frame's payload
pub piece_of_control : (role : Role) (limits : LimitsValue) (a : AssemblyValue) (h : HeaderFields) (payload piece : List ℕ) (j : FrameCheck) → IsUnderWay role limits a (under_way.Control h payload) → AreBytes (partial_of a (under_way.Control h payload) ++ piece) → IsPayloadCheck h (length payload) 0 a (arrived_payload h payload piece) j
    → IsFrameCheck role limits a (length (partial_of a (under_way.Control h payload))) (partial_of a (under_way.Control h payload) ++ piece) j
piece_of_control role limits a h payload piece j u are c =
    let k = u.kept in
    kept_checked role limits a h payload piece (arrived_payload h payload piece) k.0 are k.1 u.joined (omega (arith, k.3)) refl (λ control. k.4) j c

-- a part of a header is still under way
pub still_header : (role : Role) (limits : LimitsValue) (a b : AssemblyValue) (kept : List ℕ) → IsUnderWay role limits a (under_way.Header kept) → b.opened ≡ a.opened → b.text ≡ a.text → IsJoined b → IsUnderWay role limits b (under_way.Header kept)
still_header role limits a b kept u opened text joined =
    let k = u.kept in
    record {
      bytes = u.bytes;
      joined = joined;
      kept = (k.0, subst (λ (o : Option Message). HasReadOpen o b.text) (sym opened) (subst (λ (t : Option (List ℕ)). HasReadOpen a.opened t) (sym text) k.1));
    }

-- what is left of a piece, as `piece[used..]`
pub left_of : (piece : List ℕ) (used : ℕ) → take (length piece - used) (drop used piece) ≡ drop used piece
left_of piece used = take_all (length piece - used) (drop used piece) (omega (arith, length-drop used piece))

-- the payload behind a header that the piece completes
module _ (role : Role) (limits : LimitsValue) (a b : AssemblyValue) (h : HeaderFields) (kept piece rest : List ℕ) (used : ℕ) (begins : Begins h (length kept + used) (kept ++ piece)) (are : AreBytes (kept ++ piece)) (none : NoneAtHeader role limits a.opened h) (opened : b.opened ≡ a.opened) (joined : IsJoined b) (behind : rest ≡ drop used piece) where
  none_b : NoneAtHeader role limits b.opened h
  none_b = subst (λ (o : Option Message). NoneAtHeader role limits o h) (sym opened) none

  pub first_of_data : (j : FrameCheck) → h.opcode ≤ 2 → frame_payload b ≡ arrived_payload h (take 0 (frame_payload a)) rest → IsPayloadCheck h 0 used b (frame_payload b) j → IsFrameCheck role limits b (length kept) (kept ++ piece) j
  first_of_data j opcode arrived c = first_checked role limits b h kept piece rest (frame_payload b) used begins are none_b joined behind arrived (λ control. absurd (omega (arith, control.0, opcode))) j c

  pub first_of_control : (j : FrameCheck) → HasReadOpen b.opened b.text → IsPayloadCheck h 0 used b (arrived_payload h [] rest) j → IsFrameCheck role limits b (length kept) (kept ++ piece) j
  first_of_control j reads c = first_checked role limits b h kept piece rest (arrived_payload h [] rest) used begins are none_b joined behind refl (λ control. reads) j c

-- the payload of a control frame, from where the piece has it
pub control_checked : (role : Role) (limits : LimitsValue) (a : AssemblyValue) (f : UnderWay) (piece rest : List ℕ)
    (h : HeaderFields) (start : ℕ) (j : FrameCheck) → IsUnderWay role limits a f → AreBytes (partial_of a f ++ piece)
    → IsControlAt role limits a f piece h start → rest ≡ drop start piece
    → IsPayloadCheck h (length (control_payload_of f)) start a (arrived_payload h (control_payload_of f) rest) j
    → IsFrameCheck role limits a (length (partial_of a f)) (partial_of a f ++ piece) j
control_checked role limits a (under_way.Header kept) piece rest h start j u are at behind c =
    let k = u.kept in
    first_of_control role limits a a h kept piece rest start at.behind are at.none refl u.joined behind j k.1 c
control_checked role limits a (under_way.Data same came) piece rest h start j u are at behind c = absurd at.behind
control_checked role limits a (under_way.Control same payload) piece rest h start j u are at behind c =
    let is = at.behind in
    let all : rest ≡ piece = behind ∙ ap (λ n. drop n piece) is.1 in
    let first = subst (λ n. IsPayloadCheck h (length payload) n a (arrived_payload h payload rest) j) is.1 c in
    let second =
    subst (λ (l : List ℕ). IsPayloadCheck h (length payload) 0 a (arrived_payload h payload l) j) all first in
    piece_of_control role limits a same payload piece j u are
    (subst (λ (x : HeaderFields). IsPayloadCheck x (length payload) 0 a (arrived_payload x payload piece) j) (sym is.0)
    second)

-- where something is told nothing that shows has changed
pub told_shows : (role : Role) (limits : LimitsValue) (a b : AssemblyValue) (f g : UnderWay) (piece : List ℕ)
    (control : Option HeaderFields) (y : PieceCheck) → IsPieceCheck role limits a f b g piece control (Some y)
    → ShowsTheSame a f b g
told_shows role limits a b f g piece control (piece_check.Whole used fin kind text) is = is.0
told_shows role limits a b f g piece control (piece_check.Control start) is =
    (is.1, ap (λ (x : AssemblyValue). partial_of x g) is.0 ∙ ap (λ (x : UnderWay). partial_of a x) is.1)
told_shows role limits a b f g piece control (piece_check.Fault reason used) is = is.0

-- what is told of a data frame, behind a part of its payload and behind a header that the piece completes
module _ (role : Role) (limits : LimitsValue) (a b : AssemblyValue) (h : HeaderFields) where
  pub told_inside : (came : ℕ) (piece : List ℕ) (control : Option HeaderFields) (y : PieceCheck) → IsUnderWay role limits a (under_way.Data h came)
      → AreBytes (partial_of a (under_way.Data h came) ++ piece) → b.opened ≡ a.opened → IsJoined b
      → first_bytes b came ≡ first_bytes a came
      → frame_payload b ≡ arrived_payload h (take came (frame_payload a)) piece
      → IsDataCheck h came 0 (length piece) a b (Some y)
      → IsPieceCheck role limits a (under_way.Data h came) b (under_way.Data h came) piece control (Some y)
  told_inside came piece control (piece_check.Whole used fin kind text) u are opened joined first arrived c = (
    (refl, same_partial role limits a h came u b opened first),
    piece_of_data role limits a h came u b piece (check.Whole used (content.Data fin kind text)) are opened joined
        arrived c.1,
  )
  told_inside came piece control (piece_check.Control place) u are opened joined first arrived c = absurd c
  told_inside came piece control (piece_check.Fault reason used) u are opened joined first arrived c = (
    (refl, same_partial role limits a h came u b opened first),
    piece_of_data role limits a h came u b piece (check.Fault reason used) are opened joined arrived c.1,
  )

  pub told_first : (kept piece rest : List ℕ) (used : ℕ) (control : Option HeaderFields) (y : PieceCheck)
      → Begins h (length kept + used) (kept ++ piece) → AreBytes (kept ++ piece)
      → NoneAtHeader role limits a.opened h → b.opened ≡ a.opened → IsJoined b → rest ≡ drop used piece → h.opcode ≤ 2
      → frame_payload b ≡ arrived_payload h (take 0 (frame_payload a)) rest
      → IsDataCheck h 0 used (length rest) a b (Some y)
      → IsPieceCheck role limits a (under_way.Header kept) b (under_way.Header kept) piece control (Some y)
  told_first kept piece rest used control (piece_check.Whole end fin kind text) begins are none opened joined behind opcode
      arrived c = (
        (refl, refl),
        first_of_data role limits a b h kept piece rest used begins are none opened joined behind
            (check.Whole end (content.Data fin kind text)) opcode arrived c.1,
      )
  told_first kept piece rest used control (piece_check.Control place) begins are none opened joined behind opcode arrived
      c = absurd c
  told_first kept piece rest used control (piece_check.Fault reason end) begins are none opened joined behind opcode arrived
      c = (
        (refl, refl),
        first_of_data role limits a b h kept piece rest used begins are none opened joined behind (check.Fault reason end)
            opcode arrived c.1,
      )

-- the stream stays where it is
pub told_text : (a b : AssemblyValue) (h : HeaderFields) (came start more : ℕ) (y : PieceCheck)
    → IsDataCheck h came start more a b (Some y) → b.text ≡ a.text
told_text a b h came start more (piece_check.Whole used fin kind text) c = c.0
told_text a b h came start more (piece_check.Control place) c = absurd c
told_text a b h came start more (piece_check.Fault reason used) c = c.0

-- ---- new bytes of a data frame's payload

-- behind a header that the piece completes
pub first_data : (role : Role) (limits : LimitsValue) (opened : Option Message) (h : HeaderFields) (kept piece rest : List ℕ) (used : ℕ) → Begins h (length kept + used) (kept ++ piece) → NoneAtHeader role limits opened h → h.opcode ≤ 2 → 0 < h.len → rest ≡ drop used piece → 0 < length rest → HasNewData role limits opened (length kept) (kept ++ piece)
first_data role limits opened h kept piece rest used b none opcode some behind more =
    let size : length (kept ++ piece) ≡ length kept + length piece = length-append kept piece in
    let left : length rest ≡ length piece - used = ap (λ (l : List ℕ). length l) behind ∙ length-drop used piece in
    record { header = h; used = length kept + used; begins = b; none = none; is_data = opcode; some = some; past = omega (arith, size, left, more); new = omega (arith, size, left, more); left = omega (arith, some) }

-- behind a part of it
pub more_data : (role : Role) (limits : LimitsValue) (a : AssemblyValue) (h : HeaderFields) (came : ℕ) (piece : List ℕ) → IsUnderWay role limits a (under_way.Data h came) → 0 < length piece → HasNewData role limits a.opened (length (partial_of a (under_way.Data h came))) (partial_of a (under_way.Data h came) ++ piece)
more_data role limits a h came piece u more =
    let k = u.kept in
    let payload = masked_payload h.key (take came (frame_payload a)) in
    let size : length (header_bytes h ++ payload) ≡ length (header_bytes h) + came = length-append (header_bytes h) payload ∙ ap (λ n. length (header_bytes h) + n) (length-masked_payload h.key (take came (frame_payload a)) ∙ came_size role limits a h came u) in
    let all : length ((header_bytes h ++ payload) ++ piece) ≡ length (header_bytes h ++ payload) + length piece = length-append (header_bytes h ++ payload) piece in
    record { header = h; used = length (header_bytes h); begins = begins_kept h payload piece k.0; none = k.1; is_data = k.2; some = omega (arith, k.3); past = omega (arith, all, size, more); new = omega (arith, all, more); left = omega (arith, size, k.3) }
