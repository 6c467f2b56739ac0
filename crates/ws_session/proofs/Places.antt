-- Where a fault can be: in one of the frames, or in what follows them.
use Rattle.std.proofs.Common.{◌≡◌, ℕ, zero, suc, ◌+◌, ◌%◌, ◌≤◌, ◌⊎◌, List, [], ◌∷◌, ◌++◌, length, take, drop, Option, Some, None, refl, sym, ap, ◌∙◌, append_assoc, arith, inl, inr}
use Rattle.std.specs.Prelude.{slice_index, bit_xor}
use Rattle.std.proofs.lemmas.List.{take-append-drop, length-take}
use Rattle.ws_wire.specs.declared.role.Role.{Role}
use Rattle.ws_wire.specs.Header.{HeaderFields, IsHeader, header_bytes}
use Rattle.ws_wire.specs.Masking.{masked, masked_payload}
use Rattle.ws_wire.specs.Frame.{KeyedFrame, FitsTheLayout, frame_bytes, stream_bytes}
use Rattle.ws_wire.proofs.Frames.{no_frame_begins, sent_is_wire}
use Rattle.ws_wire.proofs.Headers.{same_header, same_parts}
use Rattle.ws_wire.proofs.Masks.{length-masked_payload, same_masked_payload}
use Rattle.ws_session.specs.declared.reason.Reason.{Reason}
use Rattle.ws_session.specs.Limits.{LimitsValue}
use Rattle.ws_session.specs.Faults.{IsFaultAt}
use Rattle.ws_session.specs.InnerNextFrame.{AreSent, header_of}

pub record Before (xs ys : List KeyedFrame) (a b : List ℕ) : Type 0 where
  pub more : List KeyedFrame
  pub sent : AreSent more
  pub frames : ys ≡ xs ++ more
  pub bytes : a ≡ stream_bytes more ++ b

pub record Within (xs ys : List KeyedFrame) (a b : List ℕ) : Type 0 where
  pub next : KeyedFrame
  pub is_sent : FitsTheLayout next
  pub more : List KeyedFrame
  pub frames : xs ≡ ys ++ next ∷ more
  pub bytes : b ≡ frame_bytes next ++ (stream_bytes more ++ a)

-- of two lists of frames at the front of a stream one begins the other
pub compare_frames : (xs ys : List KeyedFrame) (a b : List ℕ) → AreSent xs → AreSent ys → stream_bytes xs ++ a ≡ stream_bytes ys ++ b → Before xs ys a b ⊎ Within xs ys a b
compare_frames [] ys a b cx cy e = inl (record { more = ys; sent = cy; frames = refl; bytes = e })
compare_frames (x ∷ xs) [] a b cx cy e = inr (record { next = x; is_sent = cx.0; more = xs; frames = refl; bytes = sym e ∙ append_assoc (frame_bytes x) (stream_bytes xs) a })
compare_frames (x ∷ xs) (y ∷ ys) a b cx cy e =
    let s = no_frame_begins x y (stream_bytes xs ++ a) (stream_bytes ys ++ b) cx.0 cy.0 (sym (append_assoc (frame_bytes x) (stream_bytes xs) a) ∙ e ∙ append_assoc (frame_bytes y) (stream_bytes ys) b) in
    elim (compare_frames xs ys a b cx.1 cy.1 s.1) [
      | inl h ↦ inl (record { more = h.more; sent = h.sent; frames = ap (λ (f : KeyedFrame). f ∷ ys) (sym s.0) ∙ ap (λ (l : List KeyedFrame). x ∷ l) h.frames; bytes = h.bytes })
      | inr h ↦ inr (record { next = h.next; is_sent = h.is_sent; more = h.more; frames = ap (λ (f : KeyedFrame). f ∷ xs) s.0 ∙ ap (λ (l : List KeyedFrame). y ∷ l) h.frames; bytes = h.bytes })
    ]

-- the bytes round a fault
pub fault_parts : (role : Role) (limits : LimitsValue) (s : List ℕ) (n : ℕ) (r : Reason) (f : IsFaultAt role limits s n r) → s ≡ stream_bytes f.before ++ (header_bytes f.header ++ (masked_payload f.header.key f.payload ++ drop n s))
fault_parts role limits s n r f =
    sym (take-append-drop n s) ∙ ap (λ (l : List ℕ). l ++ drop n s) f.parts ∙ append_assoc (stream_bytes f.before) (header_bytes f.header ++ masked_payload f.header.key f.payload) (drop n s)
    ∙ ap (λ (l : List ℕ). stream_bytes f.before ++ l) (append_assoc (header_bytes f.header) (masked_payload f.header.key f.payload) (drop n s))

masked_take : (key : List ℕ) (phase n : ℕ) (q : List ℕ) → masked key phase q ≡ masked key phase (take n q) ++ drop n (masked key phase q)
masked_take key phase zero q = refl
masked_take key phase (suc n) [] = refl
masked_take key phase (suc n) (b ∷ q) = ap (λ (l : List ℕ). bit_xor b (slice_index key (phase % 4)) ∷ l) (masked_take key (phase + 1) n q)

pub masked_split : (k : Option (List ℕ)) (n : ℕ) (q : List ℕ) → masked_payload k q ≡ masked_payload k (take n q) ++ drop n (masked_payload k q)
masked_split None n q = sym (take-append-drop n q)
masked_split (Some key) n q = masked_take key 0 n q

-- a shorter payload masked the same begins a longer one
pub masked_front : (k : Option (List ℕ)) (p q x y : List ℕ) → length p ≤ length q → masked_payload k p ++ x ≡ masked_payload k q ++ y → q ≡ p ++ drop (length p) q
masked_front k p q x y le e =
    let parts : masked_payload k q ≡ masked_payload k (take (length p) q) ++ drop (length p) (masked_payload k q) = masked_split k (length p) q in
    let len : length (masked_payload k p) ≡ length (masked_payload k (take (length p) q)) = length-masked_payload k p ∙ sym (length-masked_payload k (take (length p) q) ∙ omega (arith, length-take (length p) q)) in
    let whole : masked_payload k p ++ x ≡ masked_payload k (take (length p) q) ++ (drop (length p) (masked_payload k q) ++ y) = e ∙ ap (λ (l : List ℕ). l ++ y) parts ∙ append_assoc (masked_payload k (take (length p) q)) (drop (length p) (masked_payload k q)) y in
    let s = same_parts (masked_payload k p) (masked_payload k (take (length p) q)) x (drop (length p) (masked_payload k q) ++ y) len whole in
    let same : p ≡ take (length p) q = same_masked_payload k p (take (length p) q) s.0 in
    sym (take-append-drop (length p) q) ∙ ap (λ (l : List ℕ). l ++ drop (length p) q) (sym same)

-- the frame that a part of a frame at the same place belongs to
pub record PartOf (h : HeaderFields) (p : List ℕ) (x : KeyedFrame) : Type 0 where
  pub header : h ≡ header_of x
  pub back : List ℕ
  pub payload : x.frame.payload ≡ p ++ back

pub part_of : (h : HeaderFields) (p t : List ℕ) (x : KeyedFrame) (u : List ℕ) → IsHeader h → FitsTheLayout x → length p ≤ h.len → header_bytes h ++ (masked_payload h.key p ++ t) ≡ frame_bytes x ++ u → PartOf h p x
part_of h p t x u is sent le e =
    let s = same_header h (header_of x) (masked_payload h.key p ++ t) (masked_payload x.key x.frame.payload ++ u) is (sent_is_wire x sent).header (e ∙ append_assoc (header_bytes (header_of x)) (masked_payload x.key x.frame.payload) u) in
    let len : h.len ≡ length x.frame.payload = ap (λ (g : HeaderFields). g.len) s.0 in
    let key : h.key ≡ x.key = ap (λ (g : HeaderFields). g.key) s.0 in
    let same : masked_payload x.key p ++ t ≡ masked_payload x.key x.frame.payload ++ u = ap (λ (k : Option (List ℕ)). masked_payload k p ++ t) (sym key) ∙ s.1 in
    record { header = s.0; back = drop (length p) x.frame.payload; payload = masked_front x.key p x.frame.payload t u (omega arith) same }
