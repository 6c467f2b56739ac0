-- A fault behind the frames that have come is one of the next frame, or lies behind a whole one.
use Rattle.std.proofs.Common.{◌≡◌, ℕ, ◌+◌, ◌<◌, ◌≤◌, ◌⊎◌, List, [], ◌∷◌, ◌++◌, length, take, drop, Option, refl, sym, ap, ◌∙◌, append_assoc, arith, inl, inr, subst}
use Rattle.std.specs.List.{AllByRecursion}
use Rattle.std.proofs.lemmas.Bool.{cases_lt}
use Rattle.std.proofs.lemmas.List.{length-append, append-nil, take_at, take-append-le, take-append-drop, length-take-le}
use Rattle.std.proofs.lemmas.Grind.{flat_map-append}
use Rattle.ws_wire.specs.declared.role.Role.{Role}
use Rattle.ws_wire.specs.Header.{HeaderFields, header_bytes}
use Rattle.ws_wire.specs.Masking.{masked, masked_payload}
use Rattle.ws_wire.specs.Frame.{KeyedFrame, FitsTheLayout, frame_bytes, stream_bytes}
use Rattle.ws_wire.proofs.Frames.{length-frame_bytes}
use Rattle.ws_wire.proofs.Masks.{length-masked_payload}
use Rattle.ws_session.specs.declared.message.Message.{Message}
use Rattle.ws_session.specs.declared.reason.Reason.{Reason}
use Rattle.ws_session.specs.Limits.{LimitsValue}
use Rattle.ws_session.specs.Messages.{open_message_of}
use Rattle.ws_session.specs.Faults.{frames_of, Applies, IsNoClose, IsFaultAt, IsNoLater, IsFirstFault, HasNoFault}
use Rattle.ws_session.specs.InnerNextFrame.{AreSent, header_of, IsFaultOfNext, HasNoFaultOfNext, IsFirstFaultOfNext}
use Rattle.ws_session.proofs.Places.{compare_frames, Within, fault_parts, PartOf, part_of}

plain_sum : (n taken before head payload frame masked : ℕ) → taken ≡ n → taken ≡ before + frame → frame ≡ head + masked → masked ≡ payload → n ≡ before + (head + payload)
plain_sum n taken before head payload frame masked a b c d = omega arith

-- where a fault's place is
pub place_is : (role : Role) (limits : LimitsValue) (s : List ℕ) (n : ℕ) (r : Reason) (f : IsFaultAt role limits s n r) → n ≡ length (stream_bytes f.before) + (length (header_bytes f.header) + length f.payload)
place_is role limits s n r f =
    let taken : length (take n s) ≡ n = length-take-le n s f.long in
    let parts = ap (λ (l : List ℕ). length l) f.parts ∙ length-append (stream_bytes f.before) (header_bytes f.header ++ masked_payload f.header.key f.payload) in
    let frame = length-append (header_bytes f.header) (masked_payload f.header.key f.payload) in
    let bytes = length-masked_payload f.header.key f.payload in
    plain_sum n (length (take n s)) (length (stream_bytes f.before)) (length (header_bytes f.header)) (length f.payload) (length (header_bytes f.header ++ masked_payload f.header.key f.payload)) (length (masked_payload f.header.key f.payload)) taken parts frame bytes

-- a header has two bytes or more
pub two_bytes : (h : HeaderFields) → 1 < length (header_bytes h)
two_bytes h = omega arith

-- a part of a frame is no longer than it
pub part_within : (h : HeaderFields) (p : List ℕ) (x : KeyedFrame) → PartOf h p x → length (header_bytes h) + length p ≤ length (frame_bytes x)
part_within h p x part =
    let heads : length (header_bytes h) ≡ length (header_bytes (header_of x)) = ap (λ (g : HeaderFields). length (header_bytes g)) part.header in
    let whole : length x.frame.payload ≡ length p + length part.back = ap (λ (l : List ℕ). length l) part.payload ∙ length-append p part.back in
    let size = length-frame_bytes x in
    omega arith

-- a fault of the next frame lies within it
pub within_front : (role : Role) (limits : LimitsValue) (opened : Option Message) (t : List ℕ) (n : ℕ) (r : Reason) → IsFaultOfNext role limits opened t n r
    → (x : KeyedFrame) (more : List ℕ) → FitsTheLayout x → t ≡ frame_bytes x ++ more → n ≤ length (frame_bytes x)
within_front role limits opened t n r f x more can e =
    let le = part_within f.header f.payload x (part_of f.header f.payload f.rest x more f.is_header can f.within (sym f.parts ∙ e)) in
    let at = f.is_place in
    omega arith

-- more bytes leave it
pub next_later : (role : Role) (limits : LimitsValue) (opened : Option Message) (t u : List ℕ) (n : ℕ) (r : Reason) → IsFaultOfNext role limits opened t n r → IsFaultOfNext role limits opened (t ++ u) n r
next_later role limits opened t u n r f = record {
  header = f.header;
  is_header = f.is_header;
  payload = f.payload;
  are_bytes = f.are_bytes;
  within = f.within;
  rest = f.rest ++ u;
  parts = ap (λ (l : List ℕ). l ++ u) f.parts ∙ append_assoc (header_bytes f.header) (masked_payload f.header.key f.payload ++ f.rest) u ∙ ap (λ (l : List ℕ). header_bytes f.header ++ l) (append_assoc (masked_payload f.header.key f.payload) f.rest u);
  is_place = f.is_place;
  applies = f.applies;
}

-- a front and what follows, cut within what follows
pub drop_front : (a b t u : List ℕ) → t ++ u ≡ a ++ b → length a ≤ length t → t ≡ a ++ drop (length a) t
drop_front a b t u e le =
    let front : take (length a) t ≡ a = sym (take-append-le (length a) t u le) ∙ ap (λ (l : List ℕ). take (length a) l) e ∙ take_at a b (length a) refl in
    sym (take-append-drop (length a) t) ∙ ap (λ (l : List ℕ). l ++ drop (length a) t) front

-- it is one of the bytes before its place, with none behind
pub next_earlier : (role : Role) (limits : LimitsValue) (opened : Option Message) (t u : List ℕ) (n : ℕ) (r : Reason) → n ≤ length t → IsFaultOfNext role limits opened (t ++ u) n r → IsFaultOfNext role limits opened t n r
next_earlier role limits opened t u n r le f =
    let seen = header_bytes f.header ++ masked_payload f.header.key f.payload in
    let size : length seen ≡ n = length-append (header_bytes f.header) (masked_payload f.header.key f.payload) ∙ ap (λ k. length (header_bytes f.header) + k) (length-masked_payload f.header.key f.payload) ∙ sym f.is_place in
    let short : length seen ≤ length t = omega arith in
    let parts : t ++ u ≡ seen ++ f.rest = f.parts ∙ sym (append_assoc (header_bytes f.header) (masked_payload f.header.key f.payload) f.rest) in
    record {
      header = f.header;
      is_header = f.is_header;
      payload = f.payload;
      are_bytes = f.are_bytes;
      within = f.within;
      rest = drop (length seen) t;
      parts = drop_front seen f.rest t u parts short ∙ append_assoc (header_bytes f.header) (masked_payload f.header.key f.payload) (drop (length seen) t);
      is_place = f.is_place;
      applies = f.applies;
    }

-- ---- behind the frames that have come

-- a whole frame stands at the front of what follows the frames, and the fault lies behind it
pub record LiesBehindNext (xs : List KeyedFrame) (t : List ℕ) (n : ℕ) : Type 0 where
  pub next : KeyedFrame
  pub can : FitsTheLayout next
  pub rest : List ℕ
  pub parts : t ≡ frame_bytes next ++ rest
  pub beyond : length (stream_bytes xs) + length (frame_bytes next) < n

-- the fault is one of the next frame
pub record LiesInNext (role : Role) (limits : LimitsValue) (xs : List KeyedFrame) (t : List ℕ) (n : ℕ) (r : Reason) : Type 0 where
  pub place : ℕ
  pub fault : IsFaultOfNext role limits (open_message_of (frames_of xs)) t place r
  pub is_place : n ≡ length (stream_bytes xs) + place

pub length-stream_bytes : (xs : List KeyedFrame) (x : KeyedFrame) (more : List KeyedFrame) → length (stream_bytes (xs ++ x ∷ more)) ≡ length (stream_bytes xs) + (length (frame_bytes x) + length (stream_bytes more))
length-stream_bytes xs x more =
    ap (λ (l : List ℕ). length l) (flat_map-append frame_bytes xs (x ∷ more)) ∙ length-append (stream_bytes xs) (stream_bytes (x ∷ more)) ∙ ap (λ k. length (stream_bytes xs) + k) (length-append (frame_bytes x) (stream_bytes more))

module _ (role : Role) (limits : LimitsValue) (xs : List KeyedFrame) (t : List ℕ) (each : AreSent xs) (n : ℕ) (r : Reason) (f : IsFaultAt role limits (stream_bytes xs ++ t) n r) (late : length (stream_bytes xs) < n) where
  pub in_frames : Within xs f.before t (header_bytes f.header ++ (masked_payload f.header.key f.payload ++ drop n (stream_bytes xs ++ t))) → ⊥
  in_frames w =
      let part = part_of f.header f.payload (drop n (stream_bytes xs ++ t)) w.next (stream_bytes w.more ++ t) f.is_header w.is_sent f.within w.bytes in
      let le = part_within f.header f.payload w.next part in
      let all : length (stream_bytes xs) ≡ length (stream_bytes f.before) + (length (frame_bytes w.next) + length (stream_bytes w.more)) = ap (λ (l : List KeyedFrame). length (stream_bytes l)) w.frames ∙ length-stream_bytes f.before w.next w.more in
      let at = place_is role limits (stream_bytes xs ++ t) n r f in
      omega (arith, le, all, at, late)

  behind_frames : (more : List KeyedFrame) → AreSent more → f.before ≡ xs ++ more → t ≡ stream_bytes more ++ (header_bytes f.header ++ (masked_payload f.header.key f.payload ++ drop n (stream_bytes xs ++ t)))
      → LiesInNext role limits xs t n r ⊎ LiesBehindNext xs t n
  behind_frames [] sent e parts =
      let same : f.before ≡ xs = e ∙ append-nil xs in
      inl (record {
        place = length (header_bytes f.header) + length f.payload;
        fault = record { header = f.header; is_header = f.is_header; payload = f.payload; are_bytes = f.are_bytes; within = f.within; rest = drop n (stream_bytes xs ++ t); parts = parts; is_place = refl; applies = subst (λ (l : List KeyedFrame). Applies role limits (open_message_of (frames_of l)) f.header f.payload r) same f.applies };
        is_place = place_is role limits (stream_bytes xs ++ t) n r f ∙ ap (λ (l : List KeyedFrame). length (stream_bytes l) + (length (header_bytes f.header) + length f.payload)) same;
      })
  behind_frames (x ∷ more) sent e parts =
      let tail = masked_payload f.header.key f.payload ++ drop n (stream_bytes xs ++ t) in
      let at = place_is role limits (stream_bytes xs ++ t) n r f in
      let all : length (stream_bytes f.before) ≡ length (stream_bytes xs) + (length (frame_bytes x) + length (stream_bytes more)) = ap (λ (l : List KeyedFrame). length (stream_bytes l)) e ∙ length-stream_bytes xs x more in
      inr (record {
        next = x;
        can = sent.0;
        rest = stream_bytes more ++ (header_bytes f.header ++ tail);
        parts = parts ∙ append_assoc (frame_bytes x) (stream_bytes more) (header_bytes f.header ++ tail);
        beyond = omega (arith, at, all, two_bytes f.header);
      })

  -- a fault behind the frames is one of the next frame, or lies behind a whole one
  pub lies_in_next : LiesInNext role limits xs t n r ⊎ LiesBehindNext xs t n
  lies_in_next = elim (compare_frames xs f.before t (header_bytes f.header ++ (masked_payload f.header.key f.payload ++ drop n (stream_bytes xs ++ t))) each f.sent (fault_parts role limits (stream_bytes xs ++ t) n r f)) [
    | inl b ↦ behind_frames b.more b.sent b.frames b.bytes
    | inr w ↦ absurd (in_frames w)
  ]

-- ---- the stream with the next frame

shift : (n m k j : ℕ) (r q : Reason) → IsNoLater k r j q → n ≡ j → IsNoLater (m + k) r (m + n) q
shift n m k j r q (inl lt) e = inl (omega arith)
shift n m k j r q (inr same) e = inr (omega (arith, same.0), same.1)

-- the frames that have come have no fault, and t follows them
module _ (role : Role) (limits : LimitsValue) (xs : List KeyedFrame) (t : List ℕ) (each : AreSent xs) (no_close : AllByRecursion IsNoClose xs)
    (clean : (n : ℕ) (r : Reason) → n ≤ length (stream_bytes xs) → IsFaultAt role limits (stream_bytes xs ++ t) n r → ⊥) where
  pub fault_of_next : (k : ℕ) (r : Reason) → IsFaultOfNext role limits (open_message_of (frames_of xs)) t k r → IsFaultAt role limits (stream_bytes xs ++ t) (length (stream_bytes xs) + k) r
  fault_of_next k r found =
      let seen = header_bytes found.header ++ masked_payload found.header.key found.payload in
      let regroup : stream_bytes xs ++ t ≡ (stream_bytes xs ++ seen) ++ found.rest = ap (λ (l : List ℕ). stream_bytes xs ++ l) (found.parts ∙ sym (append_assoc (header_bytes found.header) (masked_payload found.header.key found.payload) found.rest)) ∙ sym (append_assoc (stream_bytes xs) seen found.rest) in
      let size : length seen ≡ k = length-append (header_bytes found.header) (masked_payload found.header.key found.payload) ∙ ap (λ n. length (header_bytes found.header) + n) (length-masked_payload found.header.key found.payload) ∙ sym found.is_place in
      let all : length (stream_bytes xs ++ seen) ≡ length (stream_bytes xs) + k = length-append (stream_bytes xs) seen ∙ ap (λ n. length (stream_bytes xs) + n) size in
      let within : length (stream_bytes xs) + k ≤ length (stream_bytes xs ++ t) = subst (λ n. length (stream_bytes xs) + k ≤ n) (sym (ap (λ (l : List ℕ). length l) regroup ∙ length-append (stream_bytes xs ++ seen) found.rest ∙ ap (λ n. n + length found.rest) all)) (omega arith) in
      record {
        before = xs;
        sent = each;
        no_close = no_close;
        header = found.header;
        is_header = found.is_header;
        payload = found.payload;
        are_bytes = found.are_bytes;
        within = found.within;
        long = within;
        parts = ap (λ (l : List ℕ). take (length (stream_bytes xs) + k) l) regroup ∙ take_at (stream_bytes xs ++ seen) found.rest (length (stream_bytes xs) + k) all;
        applies = found.applies;
      }

  -- no fault in what follows, where each lies in the next frame
  pub still_clean : HasNoFaultOfNext role limits (open_message_of (frames_of xs)) t → ((x : KeyedFrame) (more : List ℕ) → FitsTheLayout x → t ≡ frame_bytes x ++ more → length more ≡ 0) → HasNoFault role limits (stream_bytes xs ++ t)
  still_clean none alone n r f =
      elim (cases_lt (length (stream_bytes xs)) n) [
        | inr early ↦ clean n r early f
        | inl after ↦ elim (lies_in_next role limits xs t each n r f after) [
          | inl h ↦ none h.place r h.fault
          | inr p ↦
              let last = alone p.next p.rest p.can p.parts in
              let size : length t ≡ length (frame_bytes p.next) + length p.rest = ap (λ (l : List ℕ). length l) p.parts ∙ length-append (frame_bytes p.next) p.rest in
              let long : n ≤ length (stream_bytes xs ++ t) = f.long in
              omega (arith, p.beyond, last, size, long, length-append (stream_bytes xs) t)
        ]
      ]

  -- the first fault of the next frame is the stream's
  pub first_of_next : (k : ℕ) (r : Reason) → IsFirstFaultOfNext role limits (open_message_of (frames_of xs)) t k r → IsFirstFault role limits (stream_bytes xs ++ t) (length (stream_bytes xs) + k) r
  first_of_next k r found = record {
    fault = fault_of_next k r found.fault;
    first = λ m q f.
        elim (cases_lt (length (stream_bytes xs)) m) as (λ _. IsNoLater (length (stream_bytes xs) + k) r m q) [
          | inr early ↦ absurd (clean m q early f)
          | inl after ↦ elim (lies_in_next role limits xs t each m q f after) as (λ _. IsNoLater (length (stream_bytes xs) + k) r m q) [
            | inl h ↦ subst (λ n. IsNoLater (length (stream_bytes xs) + k) r n q) (sym h.is_place) (shift h.place (length (stream_bytes xs)) k h.place r q (found.first h.place q h.fault) refl)
            | inr p ↦ inl (omega (arith, p.beyond, within_front role limits (open_message_of (frames_of xs)) t k r found.fault p.next p.rest p.can p.parts))
          ]
        ];
  }
