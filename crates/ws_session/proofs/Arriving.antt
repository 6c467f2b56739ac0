-- More bytes of a payload, after those that came before.
use Rattle.std.proofs.Common.{◌≡◌, ℕ, ◌+◌, ◌-◌, ◌<◌, ◌≤◌, true, Bool, List, ◌++◌, length, take, drop, Option, Some, None, refl, sym, ap, ◌∙◌, arith, inl, inr, subst}
use Rattle.std.specs.Prelude.{min}
use Rattle.std.proofs.lemmas.Bool.{cases_lt, lt-leb}
use Rattle.std.proofs.lemmas.List.{length-append, take-append-drop, length-take-le, length-drop, drop-take, drop-drop, drop-append-le, take_all}
use Rattle.std.proofs.Math.Seq.{take-append_seam, take-append-add}
use Rattle.ws_wire.specs.Header.{HeaderFields}
use Rattle.ws_text.specs.Text.{IsText, BeginsText}
use Rattle.ws_text.specs.Stream.{HasReadText, BreaksTextAt}
use Rattle.ws_session.specs.declared.message.Kind.{Kind}
use Rattle.ws_session.specs.declared.message.Message.{Message}
use Rattle.ws_session.specs.declared.reason.Reason.TheVariants.{NotText, TextCut}
use Rattle.ws_session.specs.declared.receiver.under_way.UnderWay.TheVariants as under_way
use Rattle.ws_session.specs.InnerFrameCheck.{FrameCheck}
use Rattle.ws_session.specs.InnerFrameCheck as check
use Rattle.ws_session.specs.InnerContent.{Content}
use Rattle.ws_session.specs.InnerContent as content
use Rattle.ws_session.specs.Messages.{kind_of}
use Rattle.ws_session.specs.Validity.{OfText}
use Rattle.ws_session.specs.Faults.{open_payload, IsOfText, IsControl}
use Rattle.ws_session.specs.InnerChecking.{IsFirstInPayload, frame_with}
use Rattle.ws_session.specs.InnerNextFrame.{message_with}
use Rattle.ws_session.specs.InnerMasked.{masked_from}
use Rattle.ws_session.specs.InnerReceiving.{AssemblyValue, HasKept, IsJoined, frame_payload, first_bytes, arrived_payload, kind_with, IsContentOf, IsPayloadCheck, IsTextFault, IsTextRead, IsWholeControl}
use Rattle.ws_session.proofs.MaskedParts.{length-masked_from}
use Rattle.ws_session.proofs.Assembled.{first_is}
use Rattle.ws_session.proofs.Payloads.{none_of_text, none_of_binary, text_is_cut, text_breaks, text_if, kind_is_text}
use Rattle.ws_session.proofs.ControlPayloads.{none_of_part}

-- no more than what is there
pub take_min : (n here : ℕ) (l : List ℕ) → here ≡ min n (length l) → take here l ≡ take n l
take_min n here l e =
    elim (cases_lt n (length l)) [
      | inl lt ↦ let same : here ≡ n = omega (arith, e, lt) in ap (λ k. take k l) same
      | inr le ↦ let same : here ≡ length l = omega (arith, e, le) in ap (λ k. take k l) same ∙ take_all (length l) l (omega arith) ∙ sym (take_all n l le)
    ]

-- ---- what is put into the assembly

module _ (a b : AssemblyValue) (h : HeaderFields) (came here : ℕ) (rest : List ℕ) (kept : HasKept a came) (le : came ≤ h.len) (is_here : here ≡ min (h.len - came) (length rest)) (opened : b.opened ≡ a.opened) (put : b.payload ≡ first_bytes a came ++ masked_from h.key came (take here rest)) where
  before : ℕ
  before = length (open_payload a.opened)

  same_before : length (open_payload b.opened) ≡ length (open_payload a.opened)
  same_before = ap (λ (m : Option Message). length (open_payload m)) opened

  first_size : length (first_bytes a came) ≡ length (open_payload a.opened) + came
  first_size = length-take-le (length (open_payload a.opened) + came) a.payload kept

  kept_size : length (take came (frame_payload a)) ≡ came
  kept_size = length-take-le came (frame_payload a) (omega (arith, kept, length-drop (length (open_payload a.opened)) a.payload))

  pub put_frame : frame_payload b ≡ take came (frame_payload a) ++ masked_from h.key came (take here rest)
  put_frame =
      ap (λ n. drop n b.payload) same_before ∙ ap (λ (l : List ℕ). drop (length (open_payload a.opened)) l) put
      ∙ drop-append-le (length (open_payload a.opened)) (first_bytes a came) (masked_from h.key came (take here rest)) (omega (arith, first_size))
      ∙ ap (λ (l : List ℕ). l ++ masked_from h.key came (take here rest)) (drop-take (length (open_payload a.opened)) came a.payload)

  -- what is there of the payload now
  pub put_arrived : frame_payload b ≡ arrived_payload h (take came (frame_payload a)) rest
  put_arrived =
      put_frame ∙ ap (λ (l : List ℕ). take came (frame_payload a) ++ masked_from h.key came l) (take_min (h.len - came) here rest is_here)
      ∙ ap (λ n. take came (frame_payload a) ++ masked_from h.key n (take (h.len - n) rest)) (sym kept_size)

  pub put_len : length (frame_payload b) ≡ came + here
  put_len =
      ap (λ (l : List ℕ). length l) put_frame ∙ length-append (take came (frame_payload a)) (masked_from h.key came (take here rest)) ∙ ap (λ n. n + length (masked_from h.key came (take here rest))) kept_size
      ∙ ap (λ n. came + n) (length-masked_from h.key came (take here rest) ∙ length-take-le here rest (omega (arith, is_here)))

  pub put_within : length (frame_payload b) ≤ h.len
  put_within = omega (arith, put_len, is_here, le)

  -- what came before is as it was
  pub put_first : first_bytes b came ≡ first_bytes a came
  put_first =
      ap (λ n. take (n + came) b.payload) same_before ∙ ap (λ (l : List ℕ). take (length (open_payload a.opened) + came) l) put ∙ ap (λ n. take n (first_bytes a came ++ masked_from h.key came (take here rest))) (sym first_size)
      ∙ take-append_seam (first_bytes a came) (masked_from h.key came (take here rest))

  pub put_kept : HasKept b came
  put_kept = omega (arith, ap (λ (l : List ℕ). length l) put, length-append (first_bytes a came) (masked_from h.key came (take here rest)), first_size, same_before)

-- ---- the check of the text

module _ (a : AssemblyValue) (h : HeaderFields) (came : ℕ) (opcode : h.opcode ≤ 2) (within : length (frame_payload a) ≤ h.len) (kept : HasKept a came) (joined : IsJoined a) where
  new_is : first_bytes a came ++ drop came (frame_payload a) ≡ a.payload
  new_is = ap (λ (l : List ℕ). first_bytes a came ++ l) (drop-drop came (length (open_payload a.opened)) a.payload) ∙ take-append-drop (length (open_payload a.opened) + came) a.payload

  new_front : (n : ℕ) → first_bytes a came ++ take n (drop came (frame_payload a)) ≡ open_payload a.opened ++ take (came + n) (frame_payload a)
  new_front n =
      let size : length (first_bytes a came) ≡ length (open_payload a.opened) + came = length-take-le (length (open_payload a.opened) + came) a.payload kept in
      let count : length (first_bytes a came) + n ≡ length (open_payload a.opened) + (came + n) = omega (arith, size) in
      sym (take-append-add (first_bytes a came) (drop came (frame_payload a)) n) ∙ ap (λ (l : List ℕ). take (length (first_bytes a came) + n) l) new_is
      ∙ ap (λ k. take k a.payload) count ∙ sym (first_is a (came + n) joined)

  -- the stream goes on with what is new
  pub read_all : (text : Option (List ℕ)) → HasReadText text (first_bytes a came ++ drop came (frame_payload a)) → HasReadText text a.payload
  read_all text r = subst (λ (l : List ℕ). HasReadText text l) new_is r

  pub text_read : (text : Option (List ℕ)) → HasReadText text a.payload → BeginsText (first_bytes a came ++ drop came (frame_payload a)) → (h.fin ≡ true → length (frame_payload a) ≡ h.len → (IsText a.payload → ⊥) → ⊥) → IsTextRead h a text
  text_read text r begins whole = (
    λ of. r,
    none_of_text a.opened h (frame_payload a) opcode within (subst (λ (l : List ℕ). BeginsText l) (new_is ∙ sym joined) begins) (λ fin all never. whole fin all (λ t. never (subst (λ (l : List ℕ). IsText l) (sym joined) t))),
  )

  pub text_cut : (count : ℕ) → IsOfText a.opened h → h.fin ≡ true → came + count ≡ h.len → came + count ≡ length (frame_payload a) → BeginsText (first_bytes a came ++ drop came (frame_payload a)) → (IsText a.payload → ⊥) → IsTextFault h came a TextCut count
  text_cut count of fin whole all begins never =
      subst (λ n. IsFirstInPayload a.opened h (frame_payload a) n TextCut) (sym all)
      (text_is_cut a.opened h (frame_payload a) opcode within of fin (sym all ∙ whole) (subst (λ (l : List ℕ). BeginsText l) (new_is ∙ sym joined) begins) (λ t. never (subst (λ (l : List ℕ). IsText l) joined t)))

  pub text_broken : (k : ℕ) → IsOfText a.opened h → BreaksTextAt (first_bytes a came) (drop came (frame_payload a)) k → IsTextFault h came a NotText (k + 1)
  text_broken k of b =
      let next : came + (k + 1) ≡ (came + k) + 1 = omega arith in
      let lt : came + k < length (frame_payload a) = omega (arith, b.within, length-drop came (frame_payload a)) in
      subst (λ n. IsFirstInPayload a.opened h (frame_payload a) n NotText) (sym next)
      (text_breaks a.opened h (frame_payload a) opcode within (came + k) of (record {
        within = lt;
        before = subst (λ (l : List ℕ). BeginsText l) (new_front k) b.before;
        after = λ t. b.after (subst (λ (l : List ℕ). BeginsText l) (sym (new_front (k + 1) ∙ ap (λ n. open_payload a.opened ++ take n (frame_payload a)) next)) t);
      }))

-- it belongs to no text
pub text_of_binary : (a : AssemblyValue) (h : HeaderFields) (text : Option (List ℕ)) → h.opcode ≤ 2 → length (frame_payload a) ≤ h.len → (IsOfText a.opened h → ⊥) → IsTextRead h a text
text_of_binary a h text opcode within never = (λ of. absurd (never of), none_of_binary a.opened h (frame_payload a) opcode within never)

-- ---- the check of the payload

make_message : Kind → List ℕ → Message
make_message kind payload = record { kind = kind; payload = payload }

kept_with : (o : Option Message) (h : HeaderFields) (p payload : List ℕ) → open_payload o ++ p ≡ payload → make_message (kind_with o (kind_of h.opcode)) payload ≡ message_with o (frame_with h p)
unfolding make_message
kept_with None h p payload e = ap (λ (l : List ℕ). make_message (kind_of h.opcode) l) (sym e)
kept_with (Some m) h p payload e = ap (λ (l : List ℕ). make_message m.kind l) (sym e)

kept_text : (o : Option Message) (h : HeaderFields) (text : Option (List ℕ)) (payload : List ℕ) → h.opcode ≤ 2 → (1 ≤ h.opcode → o ≡ None) → (IsOfText o h → HasReadText text payload) → OfText (kind_with o (kind_of h.opcode)) (HasReadText text payload)
kept_text None h text payload opcode begins read = text_if (kind_of h.opcode) (HasReadText text payload) (λ e. read (inl (kind_is_text h.opcode e)))
kept_text (Some m) h text payload opcode begins read = text_if m.kind (HasReadText text payload) (λ e. read (inr (elim (cases_lt h.opcode 1) [ inl zero_only ↦ omega arith | inr one ↦ let no_open = begins one in absurd cc ], e)))

-- the payload so far, in which nothing is wrong
module _ (a : AssemblyValue) (h : HeaderFields) (came start here : ℕ) (text : Option (List ℕ)) (opcode : h.opcode ≤ 2)
    (begins : 1 ≤ h.opcode → a.opened ≡ None) (len : length (frame_payload a) ≡ came + here) (joined : IsJoined a)
    (read : IsTextRead h a text) where
  pub data_goes_on : came + here < h.len
      → IsPayloadCheck h came start a (frame_payload a) (check.Need (under_way.Data h (came + here)) text)
  data_goes_on short =
      let total : length (open_payload a.opened) + length (frame_payload a) ≡ length a.payload =
      sym (length-append (open_payload a.opened) (frame_payload a)) ∙ ap (λ (l : List ℕ). length l) joined in
      let has : HasKept a (came + here) = omega (arith, total, len) in
      (omega (arith, short, len), read.1, (refl, sym len, refl, opcode, has, read.0))

  pub data_is_whole : (fin : Bool) (kind : Kind) → fin ≡ h.fin → kind ≡ kind_with a.opened (kind_of h.opcode)
      → came + here ≡ h.len
      → IsPayloadCheck h came start a (frame_payload a) (check.Whole (start + here) (content.Data fin kind text))
  unfolding make_message
  data_is_whole fin kind fins kinds whole =
      let is : content.Data fin kind text ≡ content.Data h.fin (kind_with a.opened (kind_of h.opcode)) text =
      ap (λ (f : Bool). content.Data f kind text) fins ∙ ap (λ (k : Kind). content.Data h.fin k text) kinds in (
        omega (arith, whole, len),
        omega (arith, len),
        read.1,
        subst (λ (y : Content). IsContentOf a (frame_with h (frame_payload a)) y) (sym is) (
          lt-leb 8 h.opcode (omega arith),
          refl,
          kept_with a.opened h (frame_payload a) a.payload joined,
          kept_text a.opened h text a.payload opcode begins read.0,
        ),
      )

-- ---- the payload of a control frame

module _ (h : HeaderFields) (came rest payload : List ℕ) (here : ℕ) (le : length came ≤ h.len) (is_here : here ≡ min (h.len - length came) (length rest)) (put : payload ≡ came ++ masked_from h.key (length came) (take here rest)) where
  pub control_arrived : payload ≡ arrived_payload h came rest
  control_arrived = put ∙ ap (λ (l : List ℕ). came ++ masked_from h.key (length came) l) (take_min (h.len - length came) here rest is_here)

  pub control_len : length payload ≡ length came + here
  control_len = ap (λ (l : List ℕ). length l) put ∙ length-append came (masked_from h.key (length came) (take here rest)) ∙ ap (λ n. length came + n) (length-masked_from h.key (length came) (take here rest) ∙ length-take-le here rest (omega (arith, is_here)))

  pub control_part : (a : AssemblyValue) (start : ℕ) (text : Option (List ℕ)) → IsControl h → length came + here < h.len → text ≡ a.text → IsPayloadCheck h (length came) start a (arrived_payload h came rest) (check.Need (under_way.Control h payload) text)
  control_part a start text control short same =
      let len : length (arrived_payload h came rest) ≡ length came + here = ap (λ (l : List ℕ). length l) (sym control_arrived) ∙ control_len in
      (omega (arith, len, short), none_of_part a.opened h (arrived_payload h came rest) control.0 (omega (arith, len, short)), (refl, control_arrived, control, same))

  whole_by : (a : AssemblyValue) (start : ℕ) (j : FrameCheck) → length came + here ≡ h.len → IsWholeControl h (start + here) payload a j → IsPayloadCheck h (length came) start a payload j
  whole_by a start (check.Need next text) whole w = absurd w
  whole_by a start (check.Whole used x) whole w = (omega (arith, control_len, whole), omega (arith, w.0, control_len), w.1, w.2)
  whole_by a start (check.Fault reason used) whole w = (length payload, omega (arith, w.0, control_len), w.1)

  pub control_whole : (a : AssemblyValue) (start : ℕ) (j : FrameCheck) → length came + here ≡ h.len → IsWholeControl h (start + here) payload a j → IsPayloadCheck h (length came) start a (arrived_payload h came rest) j
  control_whole a start j whole w = subst (λ (l : List ℕ). IsPayloadCheck h (length came) start a l j) control_arrived (whole_by a start j whole w)
