-- A frame that lies whole at the front of a piece, where no other is under way: what it tells, and that it tells it.
use Rattle.std.proofs.Common.{◌≡◌, ℕ, ◌+◌, ◌-◌, ◌<◌, ◌≤◌, true, List, [], ◌++◌, length, take, drop, Option, Some, None, refl, sym, ap, ◌∙◌, append-nil, arith, subst, inl, inr}
use Rattle.std.proofs.lemmas.Bool.{cases_lt}
use Rattle.std.proofs.lemmas.List.{length-drop}
use Rattle.ws_wire.specs.declared.role.Role.{Role}
use Rattle.ws_wire.specs.Header.{HeaderFields, AreBytes}
use Rattle.ws_wire.specs.Reading.{Begins}
use Rattle.ws_text.specs.Text.{IsText}
use Rattle.ws_text.specs.Stream.{HasReadText}
use Rattle.ws_session.specs.declared.message.Message.{Message}
use Rattle.ws_session.specs.declared.event.Event.{Event}
use Rattle.ws_session.specs.declared.event.Event.TheVariants as event
use Rattle.ws_session.specs.declared.replying.Replying.{Replying}
use Rattle.ws_session.specs.declared.session.Answering.{Answering}
use Rattle.ws_session.specs.declared.session.Answering.TheVariants.{Plain}
use Rattle.ws_session.specs.Limits.{LimitsValue, most_beside}
use Rattle.ws_session.specs.Messages.{kind_of}
use Rattle.ws_session.specs.Faults.{IsControl, open_payload}
use Rattle.ws_session.specs.InnerContent as content
use Rattle.ws_session.specs.InnerFrameCheck as check
use Rattle.ws_session.specs.InnerMasked.{masked_from}
use Rattle.ws_session.specs.InnerReplying.{bytes_put}
use Rattle.ws_session.specs.InnerInvariant.{reply_by}
use Rattle.ws_session.specs.InnerReceiving.{AssemblyValue, IsUnderWay, IsControlAt, IsPayloadCheck, IsTextRead, arrived_payload, frame_payload}
use Rattle.ws_session.specs.InnerReceiver.{ReceiverValue, NotBegun, IsSoundReceiver, IsOwed, receiver_of, assembly_of}
use Rattle.ws_session.specs.InnerTaking.{HoldsEvent, Receives, WantsRoom}
use Rattle.ws_session.specs.InnerWhole.{StandsWhole, TellsWhole}
use Rattle.ws_session.proofs.Arriving.{text_of_binary, data_is_whole}
use Rattle.ws_session.proofs.ControlTaken.{holds_ping, holds_pong, so_receives, none_put}
use Rattle.ws_session.proofs.Exact.{data_fits}
use Rattle.ws_session.proofs.MaskedParts.{length-masked_from}
use Rattle.ws_session.proofs.Payloads.{none_of_text}
use Rattle.ws_session.proofs.Pieces.{none_open, short_control, first_of_data}
use Rattle.ws_session.proofs.ReceivedCalls.{holds_frame, data_wants}
use Rattle.ws_session.proofs.RightPayloads.{text_begins}

module _ (role : Role) (limits : LimitsValue) (a : AssemblyValue) (v : ReceiverValue)
    (view : receiver_of role limits a NotBegun ≡ v) (piece payload : List ℕ) (h : HeaderFields) (used : ℕ)
    (u : IsUnderWay role limits a NotBegun) (are : AreBytes piece)
    (s : StandsWhole role limits a.opened piece h payload used) where
  enough : h.len ≤ length (drop s.start piece)
  enough = omega (arith, s.used_is, s.within, length-drop s.start piece)

  begins_here : Begins h (length {A = ℕ} [] + s.start) ([] ++ piece)
  begins_here = let zero_is : s.start ≡ length {A = ℕ} [] + s.start = omega arith in
      subst (λ n. Begins h n piece) zero_is s.begins

  -- ---- a ping or a pong

  at_of_control : IsControl h → IsControlAt v.role v.limits (assembly_of v) v.frame piece h s.start
  at_of_control control =
      let first : IsControlAt role limits a NotBegun piece h s.start = record {
        within = omega (arith, s.used_is, s.within);
        behind = begins_here;
        none = s.none;
        control = control;
        came = omega arith;
      } in
      subst (λ (x : ReceiverValue). IsControlAt x.role x.limits (assembly_of x) x.frame piece h s.start) view first

  are_of_v : AreBytes (v.partial_frame ++ piece)
  are_of_v = subst (λ (x : ReceiverValue). AreBytes (x.partial_frame ++ piece)) view are

  put_is : masked_from h.key 0 payload ≡ [] ++ masked_from h.key (length {A = ℕ} []) (take h.len (drop s.start piece))
  put_is = ap (λ (l : List ℕ). masked_from h.key 0 l) s.payload_is

  pub whole_ping : h.opcode ≡ 9 → HoldsEvent v piece used (event.Ping (masked_from h.key 0 payload)) v.opened
  whole_ping ping = subst (λ n. HoldsEvent v piece n (event.Ping (masked_from h.key 0 payload)) v.opened) (sym s.used_is)
      (holds_ping role limits a NotBegun v view piece (drop s.start piece) [] h s.start u are_of_v
      (at_of_control (omega (arith, ping), omega (arith, ping))) refl refl h.len (masked_from h.key 0 payload)
      (omega arith) enough put_is ping)

  pub whole_pong : h.opcode ≡ 10 → HoldsEvent v piece used (event.Pong (masked_from h.key 0 payload)) v.opened
  whole_pong pong = subst (λ n. HoldsEvent v piece n (event.Pong (masked_from h.key 0 payload)) v.opened) (sym s.used_is)
      (holds_pong role limits a NotBegun v view piece (drop s.start piece) [] h s.start u are_of_v
      (at_of_control (omega (arith, pong), omega (arith, pong))) refl refl h.len (masked_from h.key 0 payload)
      (omega arith) enough put_is pong)

  partial_is : v.partial_frame ≡ []
  partial_is = ap (λ (x : ReceiverValue). x.partial_frame) (sym view)

  pub ping_received : (r : Replying) (before after : List ℕ) (told : Option Event) → h.opcode ≡ 9
      → told ≡ Some (event.Ping (masked_from h.key 0 payload))
      → after ≡ before ++ bytes_put r (reply_by r.answering (event.Ping (masked_from h.key 0 payload)))
      → Receives r v v piece before after (record { used = used; event = told })
  ping_received r before after told ping is put =
      so_receives r v v piece before after used (event.Ping (masked_from h.key 0 payload)) v.opened told is (whole_ping ping)
      (record { role = refl; limits = refl; opened_is = refl; partial = partial_is; put = put })

  pub ping_wants : (r : Replying) → h.opcode ≡ 9 → IsOwed r (event.Ping (masked_from h.key 0 payload))
      → WantsRoom (IsOwed r) v piece
  ping_wants r ping owed = inr (used, event.Ping (masked_from h.key 0 payload), v.opened, whole_ping ping, owed)

  pub pong_received : (r : Replying) (before : List ℕ) (told : Option Event) → h.opcode ≡ 10
      → told ≡ Some (event.Pong (masked_from h.key 0 payload))
      → Receives r v v piece before before (record { used = used; event = told })
  pong_received r before told pong is =
      so_receives r v v piece before before used (event.Pong (masked_from h.key 0 payload)) v.opened told is (whole_pong pong)
      (record { role = refl; limits = refl; opened_is = refl; partial = partial_is; put = none_put r before })

  -- what is lent of it and what is kept are no more than a message, a header and a control frame's payload
  pub control_held : IsControl h → IsSoundReceiver v → (lent : List ℕ) → lent ≡ masked_from h.key 0 payload
      → length lent + (length (open_payload v.opened) + length v.partial_frame) ≤ v.limits.max_message + most_beside
  control_held control sound lent is =
      let size : length lent ≡ h.len = ap (λ (l : List ℕ). length l) is ∙ length-masked_from h.key 0 payload ∙ s.size in
      let none_kept : length v.partial_frame ≡ 0 = ap (λ (l : List ℕ). length l) partial_is in
      omega (arith, size, none_kept, short_control role limits a.opened h s.none control, sound.size)

  -- ---- a message

  module _ (low : 1 ≤ h.opcode) (high : h.opcode ≤ 2) where
    pub not_open : a.opened ≡ None
    not_open = none_open role limits a.opened h s.none high low

    -- as if it had gone through the assembly
    message_of : Option (List ℕ) → AssemblyValue
    message_of text = record { opened = None; payload = masked_from h.key 0 payload; text = text }

    size_is : length (masked_from h.key 0 payload) ≡ h.len
    size_is = length-masked_from h.key 0 payload ∙ s.size

    read_whole : IsText (masked_from h.key 0 payload) → HasReadText (Some []) (masked_from h.key 0 payload)
    read_whole text = record {
      front = masked_from h.key 0 payload;
      is_text = text;
      parts = sym (append-nil (masked_from h.key 0 payload));
      unfinished = inl refl;
    }

    reads : (h.opcode ≡ 1 → IsText (masked_from h.key 0 payload)) → IsTextRead h (message_of (Some [])) (Some [])
    unfolding message_of
    reads text = elim (cases_lt h.opcode 2) [
      | inl one ↦ let is : IsText (masked_from h.key 0 payload) = text (omega (arith, one, low)) in (
        λ of. read_whole is,
        none_of_text None h (masked_from h.key 0 payload) high (omega (arith, size_is))
            (text_begins (masked_from h.key 0 payload) is)
            (λ fin all never. never is),
      )
      | inr two ↦ text_of_binary (message_of (Some [])) h (Some []) high (omega (arith, size_is))
          (λ of. elim of [ inl one ↦ omega (arith, one, two) | inr more ↦ more.1 ])
    ]

    pub whole_message : h.fin ≡ true → (h.opcode ≡ 1 → IsText (masked_from h.key 0 payload)) → HoldsEvent v piece used
        (event.Message (record { kind = kind_of h.opcode; payload = masked_from h.key 0 payload })) None
    unfolding message_of
    whole_message fin text =
        let b = message_of (Some []) in
        let x = content.Data true (kind_of h.opcode) (Some []) in
        let no_less : h.len ≡ h.len - 0 = omega arith in
        let arrived : frame_payload b ≡ arrived_payload h (take 0 (frame_payload a)) (drop s.start piece) = put_is ∙ ap (λ n. masked_from h.key 0 (take n (drop s.start piece))) no_less in
        let checked : IsPayloadCheck h 0 s.start b (frame_payload b) (check.Whole (s.start + h.len) x) =
        data_is_whole b h 0 s.start h.len (Some []) high (λ one. refl) (size_is ∙ omega arith) refl (reads text) true (kind_of h.opcode) (sym fin) refl (omega arith) in
        let whole = first_of_data role limits a b h [] piece (drop s.start piece) s.start begins_here are s.none (sym not_open) refl refl (check.Whole (s.start + h.len) x) high arrived checked in
        subst (λ n. HoldsEvent v piece n (event.Message (record { kind = kind_of h.opcode; payload = masked_from h.key 0 payload })) None) (sym s.used_is)
        (holds_frame (receiver_of role limits a NotBegun) v view piece b NotBegun (sym not_open) (s.start + h.len) x
        (event.Message (record { kind = kind_of h.opcode; payload = masked_from h.key 0 payload })) whole refl)

    -- its payload wants memory
    pub whole_wants : (wants : Event → Type 0) → 0 < length payload → WantsRoom wants v piece
    whole_wants wants some = data_wants (receiver_of role limits a NotBegun) v view piece wants are (record {
      header = h;
      used = s.start;
      begins = s.begins;
      none = s.none;
      is_data = high;
      some = omega (arith, some, s.size);
      past = omega (arith, some, s.size, s.used_is, s.within);
      new = omega (arith, some, s.size, s.used_is, s.within);
      left = omega (arith, some, s.size);
    })

    opened_is : v.opened ≡ None
    opened_is = ap (λ (x : ReceiverValue). x.opened) (sym view) ∙ not_open

    pub message_received : (r : Replying) (before : List ℕ) (told : Option Event) → r.answering ≡ Plain
        → TellsWhole h payload told → Receives r v v piece before before (record { used = used; event = told })
    message_received r before told plain is =
        let m : Message = record { kind = kind_of h.opcode; payload = masked_from h.key 0 payload } in
        let put : before ≡ before ++ bytes_put r (reply_by r.answering (event.Message m)) =
        subst (λ (w : Answering). before ≡ before ++ bytes_put r (reply_by w (event.Message m))) (sym plain) (none_put r before) in
        so_receives r v v piece before before used (event.Message m) None told is.is (whole_message is.fin is.text)
        (record { role = refl; limits = refl; opened_is = opened_is; partial = partial_is; put = put })

    pub message_held : (lent : List ℕ) → lent ≡ masked_from h.key 0 payload
        → length lent + (length (open_payload v.opened) + length v.partial_frame) ≤ v.limits.max_message + most_beside
    message_held lent is =
        let size : length lent ≡ h.len = ap (λ (l : List ℕ). length l) is ∙ size_is in
        let none_kept : length v.partial_frame ≡ 0 = ap (λ (l : List ℕ). length l) partial_is in
        let nothing_open : length (open_payload v.opened) ≡ 0 = ap (λ (m : Option Message). length (open_payload m)) opened_is in
        let limit_is : limits.max_message ≡ v.limits.max_message = ap (λ (x : ReceiverValue). x.limits.max_message) view in
        omega (arith, size, none_kept, nothing_open, limit_is, data_fits role limits a.opened h s.none high)
