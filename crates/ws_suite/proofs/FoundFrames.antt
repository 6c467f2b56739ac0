-- A frame that was found: it is the one that stands there, and what its payload is without the mask.
use Rattle.std.proofs.Common.{◌≡◌, ◌∙◌, ℕ, ◌≤◌, List, ◌++◌, length, min, take, Option, ap, arith, inl}
use Rattle.std.proofs.Common.{inr, refl, subst, sym}
use Rattle.std.proofs.lemmas.Bool.{cases_lt}
use Rattle.std.proofs.lemmas.List.{take_all}
use Rattle.ws_wire.specs.Frame.{IsWireFrame, WireFrame, wire_bytes}
use Rattle.ws_wire.specs.Masking.{masked_payload}
use Rattle.ws_wire.proofs.Frames.{no_wire_begins}
use Rattle.ws_wire.proofs.Masks.{length-masked_payload, masked_payload_twice, take-masked_payload}
use Rattle.ws_suite.specs.declared.evidence.wire_frames.WholeFrame.{WholeFrame}
use Rattle.ws_suite.specs.InnerMarks.{IsFrameFound, IsFrontFrame}
use Rattle.ws_suite.proofs.FrontFrames.{made}

-- it is the frame that stands there
pub found_here : (bytes more : List ℕ) (x : WireFrame) (found : WholeFrame) → IsFrontFrame bytes found → IsWireFrame x
    → bytes ≡ wire_bytes x ++ more → IsFrameFound x found
found_here bytes more x found front is parts =
    let same = no_wire_begins (made found.header front.payload) x found.after.now more front.is_frame is
    (sym front.parts ∙ parts) in
    subst (λ (y : WireFrame). IsFrameFound y found) same.0 (refl, front.masked)

-- as many bytes of the payload as are kept
take_least : (p : List ℕ) → take (min (length p) 125) p ≡ take 125 p
take_least p =
    elim (cases_lt 125 (length p)) [
      | inl long ↦ let is : min (length p) 125 ≡ 125 = omega arith in ap (λ n. take n p) is
      | inr short ↦ let is : min (length p) 125 ≡ length p = omega arith in
          ap (λ n. take n p) is ∙ (take_all (length p) p (omega arith) ∙ sym (take_all 125 p short))
    ]

-- the front of what stands there, unmasked, is the front of the payload
pub front_unmasked : (x : WireFrame) (payload part : List ℕ) (key : Option (List ℕ)) (len : ℕ)
    → payload ≡ masked_payload x.header.key x.payload → part ≡ take len payload → len ≡ min (length payload) 125
    → key ≡ x.header.key → masked_payload key part ≡ take 125 x.payload
front_unmasked x payload part key len masked is_part is_len is_key =
    let size : length payload ≡ length x.payload =
    ap (λ (l : List ℕ). length l) masked ∙ length-masked_payload x.header.key x.payload in
    let front : take len payload ≡ masked_payload x.header.key (take len x.payload) =
    ap (λ (l : List ℕ). take len l) masked ∙ take-masked_payload x.header.key len x.payload in
    let count : len ≡ min (length x.payload) 125 = is_len ∙ ap (λ n. min n 125) size in
    ap (λ (k : Option (List ℕ)). masked_payload k part) is_key
    ∙ (ap (λ (l : List ℕ). masked_payload x.header.key l) (is_part ∙ front)
    ∙ (masked_payload_twice x.header.key (take len x.payload)
    ∙ (ap (λ n. take n x.payload) count ∙ take_least x.payload)))

-- of a control frame that is all
pub front_is_all : (x : WireFrame) (payload kept : List ℕ) → payload ≡ masked_payload x.header.key x.payload
    → length payload ≤ 125 → kept ≡ take 125 x.payload → kept ≡ x.payload
front_is_all x payload kept masked short is =
    let size : length payload ≡ length x.payload =
    ap (λ (l : List ℕ). length l) masked ∙ length-masked_payload x.header.key x.payload in
    is ∙ take_all 125 x.payload (omega arith)
