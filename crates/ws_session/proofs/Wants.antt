-- When a call that takes bytes may want memory.
use Rattle.std.proofs.Common.{◌≡◌, ℕ, ◌+◌, ◌-◌, ◌<◌, ◌≤◌, false, List, [], ◌∷◌, ◌++◌, length, take, drop, Option, Some, None, refl, sym, ap, ◌∙◌, append_assoc, arith, inl, inr, subst}
use Rattle.std.specs.Prelude.{option_to_list, Result, Ok, Err, IfOk, OnOk, OnErr}
use Rattle.std.proofs.lemmas.Bool.{cases_lt}
use Rattle.std.proofs.lemmas.List.{length-append, append-nil, take-append-drop, length-take, length-take-le, length-drop, take-take, take_all, drop_all}
use Rattle.std.proofs.Math.Seq.{take-append-add}
use Rattle.ws_wire.specs.declared.role.Role.{Role}
use Rattle.ws_wire.specs.Header.{HeaderFields, AreBytes, header_bytes}
use Rattle.ws_wire.specs.Masking.{masked_payload}
use Rattle.ws_wire.specs.Frame.{stream_bytes}
use Rattle.ws_wire.specs.Reading.{Begins}
use Rattle.ws_wire.proofs.Masks.{masked_payload_twice, length-masked_payload}
use Rattle.ws_wire.proofs.Numbers.{front_bytes}
use Rattle.ws_session.specs.declared.message.Message.{Message}
use Rattle.ws_session.specs.declared.reason.Reason.TheVariants.{ReservedBits, Opcode, MaskWrong, NotShortest, BadLength, ControlCut, ControlLong, NothingToContinue, MessageOpen, TooBig, FrameBig, NotText, TextCut, CloseOneByte, CloseCode, CloseReason}
use Rattle.ws_session.specs.declared.event.Event.{Event}
use Rattle.ws_session.specs.declared.event.Taken.{Taken}
use Rattle.ws_session.specs.Limits.{LimitsValue}
use Rattle.ws_session.specs.Exchange.{SessionValue, Exchange, HasExchanged, is_over}
use Rattle.ws_session.specs.Memory.{WouldTake, HoldsData}
use Rattle.ws_session.specs.InnerChecking.{NoneAtHeader, NoneInPayload}
use Rattle.ws_session.specs.InnerNextFrame.{IsPartOfFrame}
use Rattle.ws_session.specs.InnerReceiving.{HasNewData}
use Rattle.ws_session.proofs.EventsGoOn.{one_events}
use Rattle.ws_session.proofs.Frames.{part_checked}
use Rattle.ws_session.proofs.OneMoreFrame.{quiet_events}
use Rattle.ws_session.proofs.OneTake.{part_of_part}
use Rattle.ws_session.proofs.Statuses.{IsGoingOn, is_going_on}

-- what is so is so of an error
pub on_err : {T E : Type 0} (r : Result T E) (P : Type 0) → P → OnErr r P
on_err (Ok x) P p = tt
on_err (Err e) P p = p

-- what follows for each answer follows for the call
pub ok_so : {T E : Type 0} (r : Result T E) (P Q R : T → Type 0) → ((x : T) → P x → Q x → R x) → IfOk r P → IfOk r Q
    → IfOk r R
ok_so (Ok x) P Q R follows p q = follows x p q
ok_so (Err e) P Q R follows p q = tt

-- the same where one of them doesn't speak of the answer
pub ok_so_of_ok : {T E : Type 0} (r : Result T E) (P : T → Type 0) (Q : Type 0) (R : T → Type 0) → ((x : T) → P x → Q → R x)
    → IfOk r P → OnOk r Q → IfOk r R
ok_so_of_ok (Ok x) P Q R follows p q = follows x p q
ok_so_of_ok (Err e) P Q R follows p q = tt

-- ---- a data frame of whose payload nothing has come

none_of_nothing : (k : Option (List ℕ)) → [] ≡ masked_payload k []
none_of_nothing None = refl
none_of_nothing (Some key) = refl

no_front : (n : ℕ) (len : ℕ) → 0 < len → length {A = ℕ} (take n []) ≡ len → ⊥
no_front n len some e = omega (arith, e, some, length-take {A = ℕ} n [])

nothing_yet : (opened : Option Message) (h : HeaderFields) → h.opcode ≤ 2 → 0 < h.len → NoneInPayload opened h []
nothing_yet opened h opcode some n NotText le a = omega (arith, a.1, length-take {A = ℕ} n [])
nothing_yet opened h opcode some n TextCut le a = no_front n h.len some a.2
nothing_yet opened h opcode some n CloseOneByte le a = omega (arith, a.0)
nothing_yet opened h opcode some n CloseCode le a = omega (arith, a.0)
nothing_yet opened h opcode some n CloseReason le a = omega (arith, a.0)
nothing_yet opened h opcode some n ReservedBits le a = a
nothing_yet opened h opcode some n Opcode le a = a
nothing_yet opened h opcode some n MaskWrong le a = a
nothing_yet opened h opcode some n NotShortest le a = a
nothing_yet opened h opcode some n BadLength le a = a
nothing_yet opened h opcode some n ControlCut le a = a
nothing_yet opened h opcode some n ControlLong le a = a
nothing_yet opened h opcode some n NothingToContinue le a = a
nothing_yet opened h opcode some n MessageOpen le a = a
nothing_yet opened h opcode some n TooBig le a = a
nothing_yet opened h opcode some n FrameBig le a = a

-- its header is a part of one frame, and so is each front of it
module _ (role : Role) (limits : LimitsValue) (opened : Option Message) (bytes : List ℕ) (h : HeaderFields) (u : ℕ) (b : Begins h u bytes) (are : AreBytes bytes) (none : NoneAtHeader role limits opened h) (is_data : h.opcode ≤ 2) (some : 0 < h.len) where
  front_len : length (take u bytes) ≡ u
  front_len = length-take-le u bytes b.within

  header_alone : Begins h u (take u bytes)
  header_alone = record {
    within = omega (arith, front_len);
    front = record { fields = b.front.fields; layout = take-take u u bytes (omega arith) ∙ b.front.layout };
  }

  no_payload : [] ≡ masked_payload h.key (take h.len (drop u (take u bytes)))
  no_payload =
      let rest : drop u (take u bytes) ≡ [] = drop_all u (take u bytes) (omega (arith, front_len)) in
      let cut : take h.len (drop u (take u bytes)) ≡ [] = ap (λ (l : List ℕ). take h.len l) rest ∙ take_all h.len [] (omega arith) in
      none_of_nothing h.key ∙ ap (λ (l : List ℕ). masked_payload h.key l) (sym cut)

  header_is_part : IsPartOfFrame role limits opened (take u bytes)
  header_is_part = part_checked role limits opened (take u bytes) h u header_alone [] no_payload (front_bytes u bytes are) none some (nothing_yet opened h is_data some)

  pub front_is_part : (m : ℕ) → m ≤ u → IsPartOfFrame role limits opened (take m bytes)
  front_is_part m le =
      part_of_part role limits opened (take m bytes) (drop m (take u bytes))
      (subst (λ (l : List ℕ). IsPartOfFrame role limits opened l) (sym (take-append-drop m (take u bytes)) ∙ ap (λ (l : List ℕ). l ++ drop m (take u bytes)) (take-take m u bytes le)) header_is_part)

-- ---- what would be taken

nothing_added : (es : List Event) (o : Option Event) → es ++ option_to_list o ≡ es → o ≡ None
nothing_added es None e = refl
nothing_added es (Some x) e = absurd (omega (arith, ap (λ (l : List Event). length l) e, length-append es (x ∷ [])))

module _ (v : SessionValue) (exchange : Exchange) (piece : List ℕ) (h : HasExchanged v exchange.sent exchange.taken exchange.ended) (going : is_over v.status ≡ false) (bytes : AreBytes piece) where
  g : IsGoingOn v exchange.sent exchange.taken exchange.ended
  g = is_going_on v exchange.sent exchange.taken exchange.ended h going

  -- bytes that are a part of one frame are taken only where the piece ends with them
  quiet_is_whole : (t : Taken) → WouldTake v exchange piece t → IsPartOfFrame v.role v.limits v.opened (v.partial_frame ++ take t.used piece) → t.used ≡ length piece
  quiet_is_whole t w part =
      let same = one_events v.role v.limits (exchange.taken ++ take t.used piece) (h.events ++ option_to_list t.event) h.events (w.event h.events h.has_events) (quiet_events v exchange.sent exchange.taken exchange.ended g (take t.used piece) part h.events h.has_events) in
      w.whole (nothing_added h.events t.event same)

  -- a byte of the payload of a data frame is taken
  pub takes_data : (hd : HeaderFields) (u n : ℕ) → Begins hd u (v.partial_frame ++ piece) → AreBytes (v.partial_frame ++ piece) → NoneAtHeader v.role v.limits v.opened hd → hd.opcode ≤ 2 → 0 < n → n ≤ length piece → u < length v.partial_frame + n → length v.partial_frame + n ≤ u + hd.len
      → ((k : ℕ) → k < n → IsPartOfFrame v.role v.limits v.opened (v.partial_frame ++ take k piece)) → (t : Taken) → WouldTake v exchange piece t → HoldsData exchange.taken piece t.used
  takes_data hd u n b are none is_data some le past within quiet t w =
      let all = v.partial_frame ++ piece in
      let front : v.partial_frame ++ take n piece ≡ take (length v.partial_frame + n) all = sym (take-append-add v.partial_frame piece n) in
      let rest = take (length v.partial_frame + n - u) (drop u all) in
      let count : u + (length v.partial_frame + n - u) ≡ length v.partial_frame + n = omega (arith, past) in
      let size : length all ≡ length v.partial_frame + length piece = length-append v.partial_frame piece in
      let head_len : length (take u all) ≡ u = length-take-le u all b.within in
      let cut : take (length v.partial_frame + n) all ≡ header_bytes hd ++ rest =
      ap (λ k. take k all) (sym count ∙ ap (λ k. k + (length v.partial_frame + n - u)) (sym head_len)) ∙ ap (λ (l : List ℕ). take (length (take u all) + (length v.partial_frame + n - u)) l) (sym (take-append-drop u all))
      ∙ take-append-add (take u all) (drop u all) (length v.partial_frame + n - u) ∙ ap (λ (l : List ℕ). l ++ rest) b.front.layout in
      let rest_len : length rest ≡ length v.partial_frame + n - u = length-take-le (length v.partial_frame + n - u) (drop u all) (omega (arith, length-drop u all, size, le)) in
      let payload = masked_payload hd.key rest in
      let payload_len : length payload ≡ length v.partial_frame + n - u = length-masked_payload hd.key rest ∙ rest_len in
      let used : n ≤ t.used = elim (cases_lt t.used n) [
        | inr ge ↦ ge
        | inl lt ↦ omega (arith, quiet_is_whole t w (quiet t.used lt), le)
      ] in (
        n,
        some,
        used,
        record {
          before = g.frames;
          sent = g.each;
          header = hd;
          is_header = b.front.fields;
          is_data = is_data;
          payload = payload;
          some = omega (arith, payload_len, past);
          within = omega (arith, payload_len, within);
          parts = ap (λ (l : List ℕ). l ++ take n piece) g.whole ∙ append_assoc (stream_bytes g.frames) v.partial_frame (take n piece)
              ∙ ap (λ (l : List ℕ). stream_bytes g.frames ++ l) (front ∙ cut ∙ ap (λ (l : List ℕ). header_bytes hd ++ l) (sym (masked_payload_twice hd.key rest)));
        },
      )

  -- so it is where a new byte is of such a payload
  pub wants_data : AreBytes (v.partial_frame ++ piece) → IsPartOfFrame v.role v.limits v.opened v.partial_frame → HasNewData v.role v.limits v.opened (length v.partial_frame) (v.partial_frame ++ piece) → (t : Taken) → WouldTake v exchange piece t → HoldsData exchange.taken piece t.used
  wants_data are part d t w =
      let size : length (v.partial_frame ++ piece) ≡ length v.partial_frame + length piece = length-append v.partial_frame piece in
      elim (cases_lt (length v.partial_frame) d.used) [
        | inl before ↦
            let count : length v.partial_frame + (d.used + 1 - length v.partial_frame) ≡ d.used + 1 = omega (arith, before) in
            takes_data d.header d.used (d.used + 1 - length v.partial_frame) d.begins are d.none d.is_data (omega (arith, before)) (omega (arith, d.past, size, before)) (omega (arith, count)) (omega (arith, count, d.some))
            (λ k lt. subst (λ (l : List ℕ). IsPartOfFrame v.role v.limits v.opened l) (take-append-add v.partial_frame piece k)
            (front_is_part v.role v.limits v.opened (v.partial_frame ++ piece) d.header d.used d.begins are d.none d.is_data d.some (length v.partial_frame + k) (omega (arith, lt, count)))) t w
        | inr after ↦
            takes_data d.header d.used 1 d.begins are d.none d.is_data (omega arith) (omega (arith, d.new, size)) (omega (arith, after)) (omega (arith, d.left))
            (λ k lt.
            let none : 0 ≡ k = omega (arith, lt) in
            subst (λ (n : ℕ). IsPartOfFrame v.role v.limits v.opened (v.partial_frame ++ take n piece)) none (subst (λ (l : List ℕ). IsPartOfFrame v.role v.limits v.opened l) (sym (append-nil v.partial_frame)) part)) t w
      ]
