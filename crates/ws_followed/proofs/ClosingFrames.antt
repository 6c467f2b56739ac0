-- Close frames among the frames of a stream: frame after frame.
use Rattle.std.proofs.Common.{◌≡◌, ◌∙◌, ◌<◌, ◌≤◌, ◌^◌, ℕ, List, [], ◌∷◌, ◌++◌, ap, append_assoc, arith, drop, length}
use Rattle.std.proofs.Common.{refl, subst, sym}
use Rattle.std.specs.Prelude.{◌↔◌}
use Rattle.std.proofs.lemmas.List.{length-append}
use Rattle.std.specs.List.{AllByRecursion, flat_map}
use Rattle.ws_wire.specs.Frame.{IsWireFrame, WireFrame, wire_bytes}
use Rattle.ws_wire.specs.Header.{AreBytes, HeaderFields}
use Rattle.ws_wire.specs.Reading.{Begins, IsHeaderRead}
use Rattle.ws_wire.specs.declared.reading.HeaderRead.{HeaderRead}
use Rattle.ws_wire.specs.declared.reading.HeaderRead.TheVariants.{Need, Got, BadLength}
use Rattle.ws_wire.specs.Stream.{BeginsNone}
use Rattle.ws_wire.proofs.Frames.{no_wire_begins, no_wire_of_bad_length, no_wire_without_header, some_wire_bytes}
use Rattle.ws_wire.proofs.Frames.{wire_here}
use Rattle.ws_followed.specs.Closes.{BeginsWithFrame, HoldsClose}

-- ---- whether a frame stands at the front

-- none stands where no header does, or one whose length has the top bit set
pub none_unread : (bytes : List ℕ) (read : HeaderRead) → IsHeaderRead bytes read
    → ((header : HeaderFields) (used : ℕ) → read ≡ Got header used → ⊥) → BeginsNone IsWireFrame wire_bytes bytes
none_unread bytes Need is other = no_wire_without_header bytes is
none_unread bytes (Got header used) is other = absurd (other header used refl)
none_unread bytes (BadLength header used) is other = no_wire_of_bad_length bytes header used is.0 is.1

-- behind the header stands all of the payload, and then what is after it
pub frame_here : (bytes : List ℕ) (header : HeaderFields) (used : ℕ) (after : List ℕ) → Begins header used bytes
    → AreBytes bytes → header.len < 2 ^ 63 → header.len ≤ length (drop used bytes)
    → after ≡ drop header.len (drop used bytes) → BeginsWithFrame bytes header after
frame_here bytes header used after begins are small long behind =
    let (x, is_frame, same, plain, parts) = wire_here bytes header used begins are small long in
    record {
      frame = x;
      is_frame = is_frame;
      same = same;
      parts = parts ∙ ap (λ (l : List ℕ). wire_bytes x ++ l) (sym behind);
    }

-- ---- closes

pub shorter_behind : (bytes after : List ℕ) (header : HeaderFields) → BeginsWithFrame bytes header after
    → length after < length bytes
shorter_behind bytes after header f =
    omega (
      arith,
      ap (λ (l : List ℕ). length l) f.parts,
      length-append (wire_bytes f.frame) after,
      some_wire_bytes f.frame,
    )

-- the frame at the front is a close
pub close_here : (bytes after : List ℕ) (header : HeaderFields) → BeginsWithFrame bytes header after
    → header.opcode ≡ 8 → HoldsClose bytes
close_here bytes after header f e = record {
  before = [];
  are_frames = tt;
  close = f.frame;
  is_frame = f.is_frame;
  is_close = ap (λ (h : HeaderFields). h.opcode) f.same ∙ e;
  more = after;
  parts = f.parts;
}

-- it is none, and those behind it decide
close_behind : (bytes after : List ℕ) (header : HeaderFields) → BeginsWithFrame bytes header after
    → HoldsClose after → HoldsClose bytes
close_behind bytes after header f h = record {
  before = f.frame ∷ h.before;
  are_frames = (f.is_frame, h.are_frames);
  close = h.close;
  is_frame = h.is_frame;
  is_close = h.is_close;
  more = h.more;
  parts = f.parts ∙ (ap (λ (l : List ℕ). wire_bytes f.frame ++ l) h.parts
      ∙ sym (append_assoc (wire_bytes f.frame) (flat_map wire_bytes h.before) (wire_bytes h.close ++ h.more)));
}

left_of : (x : WireFrame) (bytes after : List ℕ) → IsWireFrame x → bytes ≡ wire_bytes x ++ after
    → (x.header.opcode ≡ 8 → ⊥) → (before : List WireFrame) → AllByRecursion IsWireFrame before
    → (close : WireFrame) → IsWireFrame close → close.header.opcode ≡ 8 → (more : List ℕ)
    → bytes ≡ flat_map wire_bytes before ++ (wire_bytes close ++ more) → HoldsClose after
left_of x bytes after is parts other [] are close is_close eight more same =
    let both = no_wire_begins close x more after is_close is (sym same ∙ parts) in
    absurd (other (ap (λ (y : WireFrame). y.header.opcode) (sym both.0) ∙ eight))
left_of x bytes after is parts other (y ∷ before) are close is_close eight more same =
    let tail = wire_bytes close ++ more in
    let both = no_wire_begins y x (flat_map wire_bytes before ++ tail) after are.0 is
    (sym (append_assoc (wire_bytes y) (flat_map wire_bytes before) tail) ∙ (sym same ∙ parts)) in
    record {
      before = before;
      are_frames = are.1;
      close = close;
      is_frame = is_close;
      is_close = eight;
      more = more;
      parts = sym both.1;
    }

close_left : (bytes after : List ℕ) (header : HeaderFields) → BeginsWithFrame bytes header after
    → (header.opcode ≡ 8 → ⊥) → HoldsClose bytes → HoldsClose after
close_left bytes after header f other h =
    left_of f.frame bytes after f.is_frame f.parts
    (λ e. other (ap (λ (x : HeaderFields). x.opcode) (sym f.same) ∙ e)) h.before h.are_frames h.close h.is_frame
    h.is_close h.more h.parts

-- whether one is left is told by what is behind the frame at the front
pub close_step : (bytes after later all : List ℕ) (header : HeaderFields) → BeginsWithFrame bytes header after
    → (header.opcode ≡ 8 → ⊥) → HoldsClose bytes ↔ HoldsClose all → after ≡ later
    → HoldsClose later ↔ HoldsClose all
close_step bytes after later all header f other left e =
    subst (λ (l : List ℕ). HoldsClose l ↔ HoldsClose all) e (
      λ h. left.0 (close_behind bytes after header f h),
      λ h. close_left bytes after header f other (left.1 h),
    )

-- where no frame stands at the front there is none
none_of : (bytes : List ℕ) → BeginsNone IsWireFrame wire_bytes bytes → (before : List WireFrame)
    → AllByRecursion IsWireFrame before → (close : WireFrame) → IsWireFrame close → (more : List ℕ)
    → bytes ≡ flat_map wire_bytes before ++ (wire_bytes close ++ more) → ⊥
none_of bytes none [] are close is more same = none close more is same
none_of bytes none (y ∷ before) are close is more same =
    let tail = wire_bytes close ++ more in
    none y (flat_map wire_bytes before ++ tail) are.0
    (same ∙ append_assoc (wire_bytes y) (flat_map wire_bytes before) tail)

pub no_close : (bytes : List ℕ) → BeginsNone IsWireFrame wire_bytes bytes → HoldsClose bytes → ⊥
no_close bytes none h = none_of bytes none h.before h.are_frames h.close h.is_frame h.more h.parts
