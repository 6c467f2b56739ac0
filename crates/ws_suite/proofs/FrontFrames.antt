-- A frame at the front of some bytes, in any form: whether one stands there, and how a stream splits before and behind.
use Rattle.std.proofs.Common.{◌≡◌, ◌∙◌, ℕ, ◌^◌, ◌<◌, ◌≤◌, List, [], ◌∷◌, ◌++◌, length, take, drop, ap, append_assoc}
use Rattle.std.proofs.Common.{arith, refl, subst, sym}
use Rattle.std.proofs.lemmas.List.{length-append}
use Rattle.std.specs.List.{flat_map}
use Rattle.ws_wire.specs.Frame.{IsWireFrame, WireFrame, wire_bytes}
use Rattle.ws_wire.specs.Header.{AreBytes, HeaderFields}
use Rattle.ws_wire.specs.Masking.{masked_payload}
use Rattle.ws_wire.specs.Reading.{Begins, IsHeaderRead}
use Rattle.ws_wire.specs.Stream.{BeginsNone, SplitsIntoAnyForm}
use Rattle.ws_wire.specs.declared.reading.HeaderRead.{HeaderRead}
use Rattle.ws_wire.specs.declared.reading.HeaderRead.TheVariants.{Need, Got, BadLength}
use Rattle.ws_wire.proofs.Frames.{no_wire_begins, no_wire_of_bad_length, no_wire_without_header, some_wire_bytes}
use Rattle.ws_wire.proofs.Frames.{wire_here}
use Rattle.ws_wire.proofs.Masks.{masked_payload_twice}

-- ---- whether one stands there

-- no frame stands where no header does, or one whose length has the top bit set
pub none_unread : (bytes : List ℕ) (read : HeaderRead) → IsHeaderRead bytes read
    → ((header : HeaderFields) (used : ℕ) → read ≡ Got header used → ⊥) → BeginsNone IsWireFrame wire_bytes bytes
none_unread bytes Need is other = no_wire_without_header bytes is
none_unread bytes (Got header used) is other = absurd (other header used refl)
none_unread bytes (BadLength header used) is other = no_wire_of_bad_length bytes header used is.0 is.1

-- the frame with this header and payload
abbrev pub made : HeaderFields → List ℕ → WireFrame
made header payload = record { header = header; payload = payload }

-- behind the header stands all of the payload, and then what is after it
pub front_frame : (bytes : List ℕ) (header : HeaderFields) (used : ℕ) (payload after : List ℕ)
    → Begins header used bytes → AreBytes bytes → header.len < 2 ^ 63 → header.len ≤ length (drop used bytes)
    → payload ≡ take header.len (drop used bytes) → after ≡ drop header.len (drop used bytes)
    → (plain : List ℕ) × IsWireFrame (made header plain) × (payload ≡ masked_payload header.key plain)
    × (bytes ≡ wire_bytes (made header plain) ++ after)
front_frame bytes header used payload after begins are small long is behind =
    let body = take header.len (drop used bytes) in
    let (x, is_frame, same, plain, parts) = wire_here bytes header used begins are small long in (
      x.payload,
      subst (λ (h : HeaderFields). IsWireFrame (made h x.payload)) same is_frame,
      is ∙ (sym (masked_payload_twice header.key body)
          ∙ ap (λ (l : List ℕ). masked_payload header.key l) (sym plain)),
      subst (λ (h : HeaderFields). bytes ≡ wire_bytes (made h x.payload) ++ after) same
          (parts ∙ ap (λ (l : List ℕ). wire_bytes x ++ l) (sym behind)),
    )

-- what is behind a frame is shorter
pub shorter_behind : (bytes after : List ℕ) (x : WireFrame) → bytes ≡ wire_bytes x ++ after
    → length after < length bytes
shorter_behind bytes after x parts =
    omega (
      arith,
      ap (λ (l : List ℕ). length l) parts,
      length-append (wire_bytes x) after,
      some_wire_bytes x,
    )

-- ---- how a stream splits

-- where no frame stands at the front the stream has none
pub none_split : (bytes rest : List ℕ) (frames : List WireFrame) → BeginsNone IsWireFrame wire_bytes bytes
    → SplitsIntoAnyForm bytes frames rest → (frames ≡ []) × (rest ≡ bytes)
none_split bytes rest [] none s = (refl, sym s.whole)
none_split bytes rest (x ∷ frames) none s =
    absurd (none x (flat_map wire_bytes frames ++ rest) s.each.0
    (s.whole ∙ append_assoc (wire_bytes x) (flat_map wire_bytes frames) rest))

pub split_none : (bytes : List ℕ) → BeginsNone IsWireFrame wire_bytes bytes → SplitsIntoAnyForm bytes [] bytes
split_none bytes none = record { each = tt; whole = refl; left = none }

-- where one stands there it is the first, and the others are those of what is behind
pub split_first : (bytes after rest : List ℕ) (x : WireFrame) (frames : List WireFrame) → IsWireFrame x
    → bytes ≡ wire_bytes x ++ after → SplitsIntoAnyForm bytes frames rest
    → (later : List WireFrame) × (frames ≡ x ∷ later) × SplitsIntoAnyForm after later rest
split_first bytes after rest x [] is parts s = absurd (s.left x after is (sym s.whole ∙ parts))
split_first bytes after rest x (y ∷ frames) is parts s =
    let same = no_wire_begins y x (flat_map wire_bytes frames ++ rest) after s.each.0 is
    (sym (append_assoc (wire_bytes y) (flat_map wire_bytes frames) rest) ∙ (sym s.whole ∙ parts)) in (
      frames,
      ap (λ (z : WireFrame). z ∷ frames) same.0,
      record { each = s.each.1; whole = sym same.1; left = s.left },
    )

pub split_before : (bytes after rest : List ℕ) (x : WireFrame) (frames : List WireFrame) → IsWireFrame x
    → bytes ≡ wire_bytes x ++ after → SplitsIntoAnyForm after frames rest → SplitsIntoAnyForm bytes (x ∷ frames) rest
split_before bytes after rest x frames is parts s = record {
  each = (is, s.each);
  whole = parts ∙ (ap (λ (l : List ℕ). wire_bytes x ++ l) s.whole
      ∙ sym (append_assoc (wire_bytes x) (flat_map wire_bytes frames) rest));
  left = s.left;
}
