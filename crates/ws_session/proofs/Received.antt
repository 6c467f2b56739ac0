-- From the check of a payload to the check of the frame that is under way.
use Rattle.std.proofs.Common.{◌≡◌, ℕ, ◌+◌, ◌-◌, ◌<◌, ◌≤◌, List, [], ◌++◌, length, take, drop, Option, Some, None, refl, sym, ap, ◌∙◌, append_assoc, arith, subst}
use Rattle.std.proofs.lemmas.Bool.{leb-false, leb-true}
use Rattle.std.proofs.lemmas.List.{length-append, take_all, length-drop}
use Rattle.ws_wire.specs.declared.role.Role.{Role}
use Rattle.std.proofs.Math.Seq.{take-append_seam, drop-append_seam, drop-append-add}
use Rattle.ws_wire.specs.Header.{HeaderFields, IsHeader, AreBytes, header_bytes}
use Rattle.ws_wire.proofs.Masks.{length-masked_payload}
use Rattle.ws_wire.specs.Masking.{masked_payload}
use Rattle.ws_wire.specs.Reading.{Begins}
use Rattle.ws_text.specs.Stream.{HasReadText}
use Rattle.ws_session.specs.declared.message.Kind.{Kind}
use Rattle.ws_session.specs.declared.message.Message.{Message}
use Rattle.ws_session.specs.declared.receiver.under_way.UnderWay.{UnderWay}
use Rattle.ws_session.specs.declared.receiver.under_way.UnderWay.TheVariants as under_way
use Rattle.ws_session.specs.InnerContent.{Content}
use Rattle.ws_session.specs.InnerContent as content
use Rattle.ws_session.specs.InnerFrameCheck.{FrameCheck}
use Rattle.ws_session.specs.InnerFrameCheck as check
use Rattle.ws_session.specs.Limits.{LimitsValue}
use Rattle.ws_session.specs.Faults.{IsControl, IsOfText, open_payload}
use Rattle.ws_session.specs.InnerAssembly.{HasReadOpen}
use Rattle.ws_session.specs.InnerChecking.{NoneAtHeader, frame_with}
use Rattle.ws_session.specs.InnerNextFrame.{IsFirstFaultOfNext, message_with}
use Rattle.ws_session.specs.InnerReceiving.{AssemblyValue, with_text, frame_payload, first_bytes, HasKept, IsJoined, partial_of, IsUnderWay, message_kept, IsContentOf, FitsIn, IsNextOf, arrived_payload, IsPayloadCheck, IsFrameCheck}
use Rattle.ws_session.proofs.MaskedParts.{arrived_is}
use Rattle.ws_session.proofs.Frames.{part_checked, part_room, payload_checked, whole_can, whole_front, whole_size, clean_by, data_fits, is_data, is_control_frame, parts, masked_back, length_p}

-- the header h stands at the front of some bytes, nothing is wrong in it, and p is the payload behind it as far as it has
-- come
module _ (role : Role) (limits : LimitsValue) (a : AssemblyValue) (bytes : List ℕ) (h : HeaderFields) (u : ℕ) (b : Begins h u bytes) (p : List ℕ) (is : p ≡ masked_payload h.key (take h.len (drop u bytes))) (are : AreBytes bytes) (none : NoneAtHeader role limits a.opened h) (joined : IsJoined a) where
  -- a payload that isn't whole is all that follows
  all_of_part : length p < h.len → header_bytes h ++ masked_payload h.key p ≡ bytes
  all_of_part short =
      let count = length_p role limits a.opened bytes h u b p is are in
      let full : take (length p) p ≡ p = take_all (length p) p (omega arith) in
      let back : masked_payload h.key p ≡ take (length p) (drop u bytes) = ap (λ (l : List ℕ). masked_payload h.key l) (sym full) ∙ masked_back role limits a.opened bytes h u b p is are (length p) (omega (arith, short)) in
      let all : take (length p) (drop u bytes) ≡ drop u bytes = take_all (length p) (drop u bytes) (omega (arith, count, short)) in
      ap (λ (l : List ℕ). header_bytes h ++ l) (back ∙ all) ∙ sym (parts role limits a.opened bytes h u b p is are)

  -- what is under way next
  abbrev IsNext : UnderWay → Option (List ℕ) → Type 0
  IsNext next text = (partial_of a next ≡ bytes) × IsUnderWay role limits (with_text a text) next

  next_data : (text : Option (List ℕ)) → length p < h.len → p ≡ frame_payload a → h.opcode ≤ 2 → HasKept a (length p) → (IsOfText a.opened h → HasReadText text a.payload) → IsNext (under_way.Data h (length p)) text
  next_data text short kept opcode has read =
      let payload : take (length p) (frame_payload a) ≡ p = ap (λ (l : List ℕ). take (length p) l) (sym kept) ∙ take_all (length p) p (omega arith) in
      let same : partial_of a (under_way.Data h (length p)) ≡ bytes = ap (λ (l : List ℕ). header_bytes h ++ masked_payload h.key l) payload ∙ all_of_part short in
      let rest : length (frame_payload a) ≡ length a.payload - length (open_payload a.opened) = length-drop (length (open_payload a.opened)) a.payload in
      let count : length p ≡ length (frame_payload a) = ap (λ (l : List ℕ). length l) kept in
      let all : first_bytes a (length p) ≡ a.payload = take_all (length (open_payload a.opened) + length p) a.payload (omega (arith, rest, count)) in (
        same,
        record {
          bytes = subst (λ (l : List ℕ). AreBytes l) (sym same) are;
          joined = joined;
          kept = (b.front.fields, none, opcode, short, has, λ of. subst (λ (l : List ℕ). HasReadText text l) (sym all) (read of));
        },
      )

  next_control : length p < h.len → IsControl h → HasReadOpen a.opened a.text → IsNext (under_way.Control h p) a.text
  next_control short control read =
      let same : partial_of a (under_way.Control h p) ≡ bytes = all_of_part short in (
        same,
        record {
          bytes = subst (λ (l : List ℕ). AreBytes l) (sym same) are;
          joined = joined;
          kept = (b.front.fields, none, control, short, read);
        },
      )

  next_is : (next : UnderWay) (text : Option (List ℕ)) → length p < h.len → (IsControl h → HasReadOpen a.opened a.text) → IsNextOf a h p next text → IsNext next text
  next_is (under_way.Header bytes_so_far) text short reads n = absurd n
  next_is (under_way.Data g came) text short reads n =
      subst (λ (x : HeaderFields). IsNext (under_way.Data x came) text) (sym n.0) (subst (λ k. IsNext (under_way.Data h k) text) (sym n.1) (next_data text short n.2 n.3 (subst (λ k. HasKept a k) n.1 n.4) n.5))
  next_is (under_way.Control g payload) text short reads n =
      subst (λ (x : HeaderFields). IsNext (under_way.Control x payload) text) (sym n.0) (subst (λ (l : List ℕ). IsNext (under_way.Control h l) text) (sym n.1) (subst (λ (t : Option (List ℕ)). IsNext (under_way.Control h p) t) (sym n.3) (next_control short n.2 (reads n.2))))

  -- the message that is kept with a frame is as long as the limit allows
  message_len : (o : Option Message) (kind : Kind) → message_kept a kind ≡ message_with o (frame_with h p) → length a.payload ≡ length (open_payload o) + length p
  message_len None kind e =
      let all : length a.payload ≡ length p = ap (λ (m : Message). length m.payload) e in
      omega (arith, all)
  message_len (Some m) kind e = ap (λ (x : Message). length x.payload) e ∙ length-append m.payload p

  fits : (x : Content) → length p ≡ h.len → IsContentOf a (frame_with h p) x → FitsIn limits a x
  fits (content.Data fin kind text) whole c =
      let small : h.opcode < 8 = leb-false 8 h.opcode c.0 in
      let len = message_len a.opened kind c.2 in
      let room = data_fits role limits a.opened bytes h u b p is are none (is_data role limits a.opened bytes h u b p is are none small) in
      omega (arith, len, room, whole)
  fits (content.Ping payload) whole c = tt
  fits (content.Pong payload) whole c = tt
  fits (content.Close close) whole c = tt

  -- the check of the payload is one of the frame
  pub frame_checked : (kept came start : ℕ) → kept + start ≡ u + came → (IsControl h → HasReadOpen a.opened a.text) → (j : FrameCheck) → IsPayloadCheck h came start a p j → IsFrameCheck role limits a kept bytes j
  frame_checked kept came start at reads (check.Need next text) c =
      let n = next_is next text c.0 reads c.2 in
      (part_checked role limits a.opened bytes h u b p is are none c.0 c.1, part_room role limits a.opened bytes h u b p is are none c.0, n.0, n.1)
  frame_checked kept came start at reads (check.Whole used x) c =
      let end : kept + used ≡ u + length p = omega (arith, at, c.1) in
      record {
        frame = record { frame = frame_with h p; key = h.key };
        can = whole_can role limits a.opened bytes h u b p is are none c.0;
        more = drop h.len (drop u bytes);
        front = whole_front role limits a.opened bytes h u b p is are none c.0;
        size = whole_size role limits a.opened bytes h u b p is are none (kept + used) c.0 end;
        clean = clean_by role limits a.opened bytes h u b p is are none c.2;
        is_content = c.3;
        reads = λ control. reads (is_control_frame role limits a.opened bytes h u b p is are none (leb-true 8 h.opcode control));
        fits = fits x c.0 c.3;
      }
  frame_checked kept came start at reads (check.Fault reason used) c =
      let place : kept + used ≡ u + c.0 = omega (arith, at, c.1) in
      subst (λ n. IsFirstFaultOfNext role limits a.opened bytes n reason) (sym place) (payload_checked role limits a.opened bytes h u b p is are none c.0 reason c.2)

-- ---- where the payload begins

-- a header that was kept begins the bytes
pub begins_kept : (h : HeaderFields) (payload more : List ℕ) → IsHeader h → Begins h (length (header_bytes h)) ((header_bytes h ++ payload) ++ more)
begins_kept h payload more is =
    let all = append_assoc (header_bytes h) payload more in
    let front : take (length (header_bytes h)) ((header_bytes h ++ payload) ++ more) ≡ header_bytes h = ap (λ (l : List ℕ). take (length (header_bytes h)) l) all ∙ take-append_seam (header_bytes h) (payload ++ more) in
    record {
      within = omega (arith, length-append (header_bytes h ++ payload) more, length-append (header_bytes h) payload);
      front = record { fields = is; layout = front };
    }

pub behind_kept : (h : HeaderFields) (payload more : List ℕ) → drop (length (header_bytes h)) ((header_bytes h ++ payload) ++ more) ≡ payload ++ more
behind_kept h payload more = ap (λ (l : List ℕ). drop (length (header_bytes h)) l) (append_assoc (header_bytes h) payload more) ∙ drop-append_seam (header_bytes h) (payload ++ more)

-- a check of more of the payload is one of the frame that is under way
pub kept_checked : (role : Role) (limits : LimitsValue) (a : AssemblyValue) (h : HeaderFields) (came piece p : List ℕ) → IsHeader h → AreBytes ((header_bytes h ++ masked_payload h.key came) ++ piece) → NoneAtHeader role limits a.opened h → IsJoined a → length came ≤ h.len → p ≡ arrived_payload h came piece → (IsControl h → HasReadOpen a.opened a.text)
    → (j : FrameCheck) → IsPayloadCheck h (length came) 0 a p j → IsFrameCheck role limits a (length (header_bytes h ++ masked_payload h.key came)) ((header_bytes h ++ masked_payload h.key came) ++ piece) j
kept_checked role limits a h came piece p is are none joined le arrived reads j c =
    let payload : p ≡ masked_payload h.key (take h.len (drop (length (header_bytes h)) ((header_bytes h ++ masked_payload h.key came) ++ piece))) =
    arrived ∙ sym (arrived_is h came piece le) ∙ ap (λ (l : List ℕ). masked_payload h.key (take h.len l)) (sym (behind_kept h (masked_payload h.key came) piece)) in
    let at : length (header_bytes h ++ masked_payload h.key came) + 0 ≡ length (header_bytes h) + length came = omega (arith, length-append (header_bytes h) (masked_payload h.key came), length-masked_payload h.key came) in
    frame_checked role limits a ((header_bytes h ++ masked_payload h.key came) ++ piece) h (length (header_bytes h)) (begins_kept h (masked_payload h.key came) piece is) p payload are none joined
    (length (header_bytes h ++ masked_payload h.key came)) (length came) 0 at reads j c

-- nothing of the payload came before
masked_nothing : (k : Option (List ℕ)) → masked_payload k [] ≡ []
masked_nothing None = refl
masked_nothing (Some key) = refl

-- a check of the payload behind a header that the piece completes is one of the frame
pub first_checked : (role : Role) (limits : LimitsValue) (a : AssemblyValue) (h : HeaderFields) (kept piece rest p : List ℕ) (used : ℕ) → Begins h (length kept + used) (kept ++ piece) → AreBytes (kept ++ piece) → NoneAtHeader role limits a.opened h → IsJoined a → rest ≡ drop used piece → p ≡ arrived_payload h [] rest → (IsControl h → HasReadOpen a.opened a.text)
    → (j : FrameCheck) → IsPayloadCheck h 0 used a p j → IsFrameCheck role limits a (length kept) (kept ++ piece) j
first_checked role limits a h kept piece rest p used b are none joined behind arrived reads j c =
    let bytes : rest ≡ drop (length kept + used) (kept ++ piece) = behind ∙ sym (drop-append-add kept piece used) in
    let payload : p ≡ masked_payload h.key (take h.len (drop (length kept + used) (kept ++ piece))) =
    arrived ∙ sym (arrived_is h [] rest (omega arith)) ∙ ap (λ (l : List ℕ). masked_payload h.key (take h.len (l ++ rest))) (masked_nothing h.key) ∙ ap (λ (l : List ℕ). masked_payload h.key (take h.len l)) bytes in
    frame_checked role limits a (kept ++ piece) h (length kept + used) b p payload are none joined (length kept) 0 used (omega arith) reads j c
