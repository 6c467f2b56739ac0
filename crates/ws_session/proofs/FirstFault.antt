-- Whether a stream has a fault at a place can be told, so that it has a first one or none, and events.
use Rattle.std.proofs.Common.{◌≡◌, ℕ, zero, suc, ◌<◌, ◌≤◌, ◌⊎◌, List, [], ◌∷◌, ◌++◌, length, take, drop, Option, Some, None, refl, sym, ap, ◌∙◌, append_assoc, arith, inl, inr, subst, false}
use Rattle.std.specs.List.{AllByRecursion}
use Rattle.std.proofs.lemmas.Bool.{cases_lt}
use Rattle.std.proofs.lemmas.List.{length-append, append-nil}
use Rattle.ws_wire.specs.declared.role.Role.{Role}
use Rattle.ws_wire.specs.Header.{HeaderFields, IsHeader, AreBytes, header_bytes}
use Rattle.ws_wire.specs.Masking.{masked_payload}
use Rattle.ws_wire.specs.Frame.{KeyedFrame, FitsTheLayout, frame_bytes, stream_bytes}
use Rattle.ws_wire.proofs.Numbers.{front_bytes}
use Rattle.ws_wire.proofs.Headers.{same_header, header_or_none, header_parts, SomeHeader}
use Rattle.ws_wire.proofs.Masks.{length-masked_payload, masked_payload_twice, masked_payload_bytes}
use Rattle.ws_wire.proofs.Splits.{rest_bytes, some_split}
use Rattle.ws_wire.proofs.Frames.{no_frame_begins, frame_told}
use Rattle.ws_session.specs.declared.reason.Reason.{Reason}
use Rattle.ws_session.specs.declared.event.Event.{Event}
use Rattle.ws_session.specs.Limits.{LimitsValue}
use Rattle.ws_session.specs.Messages.{open_message_of, is_close}
use Rattle.ws_session.specs.Faults.{number_of, frames_of, Applies, IsNoClose, IsFaultAt, IsNoLater, IsFirstFault}
use Rattle.ws_session.specs.Events.{events_of, IsFaultOf, HasEvents}
use Rattle.ws_session.specs.InnerNextFrame.{AreSent}
use Rattle.ws_session.proofs.Decided.{Told, either_told, told_by, least_told}
use Rattle.ws_session.proofs.DecidedReasons.{bool_told, applies_told, lowest_told}

module _ (role : Role) (limits : LimitsValue) (r : Reason) where
  -- ---- a fault at the end of some bytes, behind frames that came before them

  record FaultBehind (came : List KeyedFrame) (t : List ℕ) : Type 0 where
    before : List KeyedFrame
    sent : AreSent before
    no_close : AllByRecursion IsNoClose before
    header : HeaderFields
    is_header : IsHeader header
    payload : List ℕ
    are_bytes : AreBytes payload
    within : length payload ≤ header.len
    parts : t ≡ stream_bytes before ++ (header_bytes header ++ masked_payload header.key payload)
    applies : Applies role limits (open_message_of (frames_of (came ++ before))) header payload r

  -- in the first frame of the bytes
  record FaultHere (came : List KeyedFrame) (t : List ℕ) : Type 0 where
    header : HeaderFields
    is_header : IsHeader header
    payload : List ℕ
    are_bytes : AreBytes payload
    within : length payload ≤ header.len
    parts : t ≡ header_bytes header ++ masked_payload header.key payload
    applies : Applies role limits (open_message_of (frames_of came)) header payload r

  -- behind it
  record FaultLater (came : List KeyedFrame) (t : List ℕ) : Type 0 where
    first : KeyedFrame
    can : FitsTheLayout first
    unclosed : IsNoClose first
    more : List ℕ
    parts : t ≡ frame_bytes first ++ more
    fault : FaultBehind (came ++ first ∷ []) more

  module _ (came : List KeyedFrame) (t : List ℕ) where
    here_or_later : FaultHere came t ⊎ FaultLater came t → FaultBehind came t
    here_or_later (inl f) = record {
      before = [];
      sent = tt;
      no_close = tt;
      header = f.header;
      is_header = f.is_header;
      payload = f.payload;
      are_bytes = f.are_bytes;
      within = f.within;
      parts = f.parts;
      applies = subst (λ (l : List KeyedFrame). Applies role limits (open_message_of (frames_of l)) f.header f.payload r) (sym (append-nil came)) f.applies;
    }
    here_or_later (inr l) =
        let f = l.fault in
        let tail = header_bytes f.header ++ masked_payload f.header.key f.payload in
        record {
          before = l.first ∷ f.before;
          sent = (l.can, f.sent);
          no_close = (l.unclosed, f.no_close);
          header = f.header;
          is_header = f.is_header;
          payload = f.payload;
          are_bytes = f.are_bytes;
          within = f.within;
          parts = l.parts ∙ ap (λ (b : List ℕ). frame_bytes l.first ++ b) f.parts ∙ sym (append_assoc (frame_bytes l.first) (stream_bytes f.before) tail);
          applies = subst (λ (b : List KeyedFrame). Applies role limits (open_message_of (frames_of b)) f.header f.payload r) (append_assoc came (l.first ∷ []) f.before) f.applies;
        }

    which_by : (before : List KeyedFrame) (h : HeaderFields) (p : List ℕ) → AreSent before → AllByRecursion IsNoClose before → IsHeader h → AreBytes p → length p ≤ h.len → t ≡ stream_bytes before ++ (header_bytes h ++ masked_payload h.key p)
        → Applies role limits (open_message_of (frames_of (came ++ before))) h p r → FaultHere came t ⊎ FaultLater came t
    which_by [] h p sent no_close is are within e a = inl (record {
      header = h;
      is_header = is;
      payload = p;
      are_bytes = are;
      within = within;
      parts = e;
      applies = subst (λ (l : List KeyedFrame). Applies role limits (open_message_of (frames_of l)) h p r) (append-nil came) a;
    })
    which_by (x ∷ xs) h p sent no_close is are within e a =
        let tail = header_bytes h ++ masked_payload h.key p in
        inr (record {
          first = x;
          can = sent.0;
          unclosed = no_close.0;
          more = stream_bytes xs ++ tail;
          parts = e ∙ append_assoc (frame_bytes x) (stream_bytes xs) tail;
          fault = record {
            before = xs;
            sent = sent.1;
            no_close = no_close.1;
            header = h;
            is_header = is;
            payload = p;
            are_bytes = are;
            within = within;
            parts = refl;
            applies = subst (λ (b : List KeyedFrame). Applies role limits (open_message_of (frames_of b)) h p r) (sym (append_assoc came (x ∷ []) xs)) a;
          };
        })

    which : FaultBehind came t → FaultHere came t ⊎ FaultLater came t
    which f = which_by f.before f.header f.payload f.sent f.no_close f.is_header f.are_bytes f.within f.parts f.applies

    -- ---- in the first frame

    here_is : (h : HeaderFields) (rest : List ℕ) → IsHeader h → t ≡ header_bytes h ++ rest → (f : FaultHere came t) → (f.header ≡ h) × (masked_payload f.header.key f.payload ≡ rest)
    here_is h rest is e f = same_header f.header h (masked_payload f.header.key f.payload) rest f.is_header is (sym f.parts ∙ e)

    here_fits : (h : HeaderFields) (rest : List ℕ) → IsHeader h → t ≡ header_bytes h ++ rest → FaultHere came t → length rest ≤ h.len
    here_fits h rest is e f =
        let s = here_is h rest is e f in
        omega (arith, f.within, ap (λ (g : HeaderFields). g.len) s.0, ap (λ (l : List ℕ). length l) s.1, length-masked_payload f.header.key f.payload)

    here_applies : (h : HeaderFields) (rest : List ℕ) → IsHeader h → t ≡ header_bytes h ++ rest → FaultHere came t → Applies role limits (open_message_of (frames_of came)) h (masked_payload h.key rest) r
    here_applies h rest is e f =
        let s = here_is h rest is e f in
        let payload : f.payload ≡ masked_payload f.header.key rest = sym (masked_payload_twice f.header.key f.payload) ∙ ap (λ (l : List ℕ). masked_payload f.header.key l) s.1 in
        subst (λ (g : HeaderFields). Applies role limits (open_message_of (frames_of came)) g (masked_payload g.key rest) r) s.0
        (subst (λ (l : List ℕ). Applies role limits (open_message_of (frames_of came)) f.header l r) payload f.applies)

    here_by : (s : SomeHeader t) → AreBytes t → Told (FaultHere came t)
    here_by s are =
        let h = s.fields in
        let rest = drop s.used t in
        let is = s.begins.front.fields in
        let e : t ≡ header_bytes h ++ rest = header_parts h s.used t s.begins in
        let bytes : AreBytes (masked_payload h.key rest) = masked_payload_bytes h.key rest is.key (rest_bytes t (header_bytes h) rest e are) in
        elim (cases_lt h.len (length rest)) [
          | inl long ↦ inr (λ f. omega (arith, long, here_fits h rest is e f))
          | inr fits ↦ told_by (Applies role limits (open_message_of (frames_of came)) h (masked_payload h.key rest) r) (FaultHere came t)
              (λ a. record {
                header = h;
                is_header = is;
                payload = masked_payload h.key rest;
                are_bytes = bytes;
                within = omega (arith, fits, length-masked_payload h.key rest);
                parts = e ∙ ap (λ (l : List ℕ). header_bytes h ++ l) (sym (masked_payload_twice h.key rest));
                applies = a;
              })
              (here_applies h rest is e) (applies_told role limits (open_message_of (frames_of came)) h (masked_payload h.key rest) bytes r)
        ]

    here_told : AreBytes t → Told (FaultHere came t)
    here_told are =
        elim (header_or_none t are) [
          | inr none ↦ inr (λ f. none f.header (header_bytes f.header) (masked_payload f.header.key f.payload) (record { fields = f.is_header; layout = refl }) f.parts)
          | inl s ↦ here_by s are
        ]

    -- ---- behind it

    later_is : (x : KeyedFrame) (more : List ℕ) → FitsTheLayout x → t ≡ frame_bytes x ++ more → (f : FaultLater came t) → (f.first ≡ x) × (f.more ≡ more)
    later_is x more can e f = no_frame_begins f.first x f.more more f.can can (sym f.parts ∙ e)

    later_by : (x : KeyedFrame) (more : List ℕ) → FitsTheLayout x → t ≡ frame_bytes x ++ more → Told (FaultBehind (came ++ x ∷ []) more) → Told (FaultLater came t)
    later_by x more can e told =
        elim (bool_told (is_close x.frame) false) [
          | inr close ↦ inr (λ f. close (subst IsNoClose (later_is x more can e f).0 f.unclosed))
          | inl unclosed ↦ told_by (FaultBehind (came ++ x ∷ []) more) (FaultLater came t) (λ f. record { first = x; can = can; unclosed = unclosed; more = more; parts = e; fault = f })
              (λ f.
              let s = later_is x more can e f in
              subst (λ (l : List ℕ). FaultBehind (came ++ x ∷ []) l) s.1 (subst (λ (y : KeyedFrame). FaultBehind (came ++ y ∷ []) f.more) s.0 f.fault)) told
        ]

  behind_told : (n : ℕ) (came : List KeyedFrame) (t : List ℕ) → length t < n → AreBytes t → Told (FaultBehind came t)
  behind_told zero came t lt are = absurd (omega arith)
  behind_told (suc n) came t lt are =
      told_by (FaultHere came t ⊎ FaultLater came t) (FaultBehind came t) (here_or_later came t) (which came t)
      (either_told (FaultHere came t) (FaultLater came t) (here_told came t are)
      (elim (frame_told.tell t are) [
        | inr none ↦ inr (λ f. none f.first f.more f.can f.parts)
        | inl x ↦
            let shorter : length x.more < n = omega (arith, ap (λ (l : List ℕ). length l) x.parts, length-append (frame_bytes x.first) x.more, frame_told.some x.first) in
            later_by came t x.first x.more x.is_one x.parts (behind_told n (came ++ x.first ∷ []) x.more shorter (rest_bytes t (frame_bytes x.first) x.more x.parts are))
      ]))

  -- ---- a fault at a place

  pub fault_told : (bytes : List ℕ) → AreBytes bytes → (place : ℕ) → Told (IsFaultAt role limits bytes place r)
  fault_told bytes are place =
      elim (cases_lt (length bytes) place) [
        | inl beyond ↦ inr (λ f. omega (arith, beyond, f.long))
        | inr long ↦ told_by (FaultBehind [] (take place bytes)) (IsFaultAt role limits bytes place r)
            (λ f. record { before = f.before; sent = f.sent; no_close = f.no_close; header = f.header; is_header = f.is_header; payload = f.payload; are_bytes = f.are_bytes; within = f.within; long = long; parts = f.parts; applies = f.applies })
            (λ f. record { before = f.before; sent = f.sent; no_close = f.no_close; header = f.header; is_header = f.is_header; payload = f.payload; are_bytes = f.are_bytes; within = f.within; parts = f.parts; applies = f.applies })
            (behind_told (suc (length (take place bytes))) [] (take place bytes) (omega arith) (front_bytes place bytes are))
      ]

-- ---- the first fault

module _ (role : Role) (limits : LimitsValue) (bytes : List ℕ) (are : AreBytes bytes) where
  abbrev IsFault : ℕ → Reason → Type 0
  IsFault = IsFaultAt role limits bytes

  at_place : (place : ℕ) → ((r : Reason) × IsFault place r × ((other : Reason) → IsFault place other → number_of r ≤ number_of other)) ⊎ ((r : Reason) → IsFault place r → ⊥)
  at_place place = lowest_told (IsFault place) (λ r. fault_told role limits r bytes are place)

  place_told : (place : ℕ) → Told ((r : Reason) × IsFault place r)
  place_told place = elim (at_place place) [ inl found ↦ inl (found.0, found.1) | inr none ↦ inr (λ h. none h.0 h.1) ]

  first_at : (place : ℕ) → ((r : Reason) × IsFault place r) → ((other : ℕ) → ((r : Reason) × IsFault other r) → place ≤ other) → (r : Reason) × IsFirstFault role limits bytes place r
  first_at place some least =
      elim (at_place place) [
        | inr none ↦ absurd (none some.0 some.1)
        | inl found ↦ (
          found.0,
          record {
            fault = found.1;
            first = λ other q f. elim (cases_lt place other) as (λ _. IsNoLater place found.0 other q) [
              | inl lt ↦ inl lt
              | inr ge ↦
                  let same : place ≡ other = omega (arith, ge, least other (q, f)) in
                  inr (same, found.2 q (subst (λ n. IsFault n q) (sym same) f))
            ];
          },
        )
      ]

  pub some_first_fault : (fault : Option (ℕ × Reason)) × IsFaultOf role limits bytes fault
  some_first_fault =
      elim (least_told (λ (place : ℕ). (r : Reason) × IsFault place r) place_told (suc (length bytes))) [
        | inl found ↦ let f = first_at found.0 found.1 found.2 in (Some (found.0, f.0), f.1)
        | inr none ↦ (None, λ place r f. none place (omega (arith, f.long)) (r, f))
      ]

  pub some_events : (events : List Event) × HasEvents role limits bytes events
  some_events =
      let s = some_split FitsTheLayout frame_bytes frame_told bytes are in
      let f = some_first_fault in
      (events_of s.frames f.0, record { frames = s.frames; rest = s.rest; split = s.split; fault = f.0; is_fault = f.1; are = refl })
