-- The frames at the front of what is kept of a stream, and the lines that are put for them.
use Rattle.std.proofs.Common.{◌≡◌, ℕ, ◌+◌, ◌-◌, ◌^◌, ◌<◌, ◌≤◌, Bool, true, false, List, [], ◌∷◌, ◌++◌, length, take}
use Rattle.std.proofs.Common.{drop, refl, sym, ap}
use Rattle.std.proofs.Common.{◌∙◌, append_assoc, append-nil, zero-add, arith, inl, inr, subst}
use Rattle.std.specs.List.{flat_map, AllByRecursion}
use Rattle.std.proofs.lemmas.List.{length-append, length-take-le, length-drop, take-append-drop, take_at}
use Rattle.std.proofs.lemmas.List.{drop-drop}
use Rattle.std.proofs.lemmas.Grind.{flat_map-append}
use Rattle.std.proofs.Math.Seq.{take-add}
use Rattle.ws_wire.specs.Header.{HeaderFields, AreBytes, header_bytes}
use Rattle.ws_wire.specs.Masking.{masked_payload}
use Rattle.ws_wire.specs.Frame.{WireFrame, IsWireFrame, wire_bytes}
use Rattle.ws_wire.specs.Reading.{Begins, BeginsNoHeader, BeginsBadLength}
use Rattle.ws_wire.specs.Stream.{BeginsNone}
use Rattle.ws_wire.proofs.Frames.{wire_here, no_wire_without_header, no_wire_of_cut_payload, no_wire_of_bad_length}
use Rattle.ws_wire.proofs.Frames.{some_wire_bytes}
use Rattle.ws_wire.proofs.Splits.{all-append}
use Rattle.ws_frame.specs.declared.source.Source.{Source}
use Rattle.ws_frame.specs.declared.showing.StreamEnd.TheVariants.{BadLengthAt}
use Rattle.ws_frame.specs.declared.payload_lines.PayloadLines.{PayloadLines}
use Rattle.ws_frame.specs.Lines.{frame_lines, last_line, line_of, AreFrameLinesOf, AreLinesOf}
use Rattle.ws_frame.specs.InnerShowing.{IsLeft}
use Rattle.ws_frame.specs.PayloadStreaming.{AreFramesPut, HasPutLines, StandsPut, kept_end}
use Rattle.ws_frame.specs.InnerPayloads.{IsFrameAt, IsLeftOver, AreFramesTo, PutsFrames}
use Rattle.ws_frame.proofs.Partials.{AreBytes-append}
use Rattle.ws_frame.proofs.Streams.{bad_length_stays}
use Rattle.ws_frame.proofs.Fronts.{frame_lines-append, no_bad_without_header, no_bad_beside, nothing_bad}

abbrev of_parts : HeaderFields → List ℕ → WireFrame
of_parts header payload = record { header = header; payload = payload }

-- a front of this length that is known
pub front_part : (n : ℕ) (bytes front : List ℕ) → n ≤ length bytes → bytes ≡ front ++ drop n bytes
    → take n bytes ≡ front
front_part n bytes front within parts =
    let len : length front ≡ n = omega (
      arith,
      within,
      ap (λ (t : List ℕ). length t) parts,
      length-append front (drop n bytes),
      length-drop n bytes,
    ) in
    ap (λ (t : List ℕ). take n t) parts ∙ take_at front (drop n bytes) n len

-- ---- what stands at the front

pub part_without_header : (bytes : List ℕ) → BeginsNoHeader bytes
    → BeginsNone IsWireFrame wire_bytes bytes × (BeginsBadLength bytes → ⊥)
part_without_header bytes none = (no_wire_without_header bytes none, no_bad_without_header bytes none)

pub part_of_payload : (bytes : List ℕ) (h : HeaderFields) (used : ℕ) → Begins h used bytes → h.len < 2 ^ 63
    → length bytes - used < h.len → BeginsNone IsWireFrame wire_bytes bytes × (BeginsBadLength bytes → ⊥)
part_of_payload bytes h used b small short = (
  no_wire_of_cut_payload bytes h used b (omega (arith, length-drop used bytes, short)),
  no_bad_beside bytes h used b small,
)

pub nothing_at_front : (bytes : List ℕ) → bytes ≡ []
    → BeginsNone IsWireFrame wire_bytes bytes × (BeginsBadLength bytes → ⊥)
nothing_at_front bytes none = (
  λ x more is e. omega (
    arith,
    some_wire_bytes x,
    ap (λ (t : List ℕ). length t) (sym none ∙ e),
    length-append (wire_bytes x) more,
  ),
  nothing_bad bytes none,
)

pub frame_at_front : (bytes : List ℕ) (h : HeaderFields) (used : ℕ) → Begins h used bytes → AreBytes bytes
    → h.len < 2 ^ 63 → h.len ≤ length bytes - used → IsFrameAt bytes h used (used + h.len)
frame_at_front bytes h used b are small long =
    let within : used ≤ length bytes = b.within in
    let (x, is, same, payload, parts) =
    wire_here bytes h used b are small (omega (arith, length-drop used bytes, long)) in
    let size : (used + h.len) - used ≡ h.len = omega arith in
    let head : take used bytes ≡ header_bytes h = b.front.layout in
    let left : drop h.len (drop used bytes) ≡ drop (used + h.len) bytes = drop-drop h.len used bytes in
    let all : bytes ≡ wire_bytes x ++ drop (used + h.len) bytes = parts ∙ ap (λ (t : List ℕ). wire_bytes x ++ t) left in
    let inside : used + h.len ≤ length bytes = omega (arith, within, long) in
    record {
      frame = x;
      is_wire = is;
      header_is = same;
      payload_is = payload ∙ ap (λ n. masked_payload h.key (take n (drop used bytes))) (sym size);
      whole = front_part (used + h.len) bytes (wire_bytes x) inside all;
      before = omega arith;
      within = inside;
    }

-- ---- frames behind frames

pub no_frames_yet : (stream : PayloadLines) (lines : List ℕ) → AreFramesTo stream 0 stream.offset lines lines
no_frames_yet stream lines = record {
  frames = [];
  each = tt;
  front = refl;
  within = omega arith;
  place = omega arith;
  lines = sym (append-nil lines);
}

pub frame_behind : (stream : PayloadLines) (at end start offset : ℕ) (before lines after rest : List ℕ)
    (h : HeaderFields) → AreFramesTo stream at offset before lines → drop at rest ≡ drop at stream.rest.items
    → (f : IsFrameAt (drop at rest) h start end) → after ≡ lines ++ line_of stream.source offset f.frame
    → AreFramesTo stream (at + end) (offset + end) before after
frame_behind stream at end start offset before lines after rest h a same f due =
    let all = stream.rest.items in
    let x = f.frame in
    let frames = a.frames ++ x ∷ [] in
    let joined : flat_map wire_bytes frames ≡ flat_map wire_bytes a.frames ++ wire_bytes x =
    flat_map-append wire_bytes a.frames (x ∷ [])
    ∙ ap (λ (t : List ℕ). flat_map wire_bytes a.frames ++ t) (append-nil (wire_bytes x)) in
    let size : length (flat_map wire_bytes a.frames) ≡ at =
    ap (λ (t : List ℕ). length t) (sym a.front) ∙ length-take-le at all a.within in
    let place : stream.offset + length (flat_map wire_bytes a.frames) ≡ offset = omega (arith, size, a.place) in
    let source = stream.source in
    record {
      frames = frames;
      each = all-append IsWireFrame a.frames (x ∷ []) a.each (f.is_wire, tt);
      front = take-add at end all ∙ ap (λ (t : List ℕ). t ++ take end (drop at all)) a.front
          ∙ ap (λ (t : List ℕ). flat_map wire_bytes a.frames ++ take end t) (sym same)
          ∙ ap (λ (t : List ℕ). flat_map wire_bytes a.frames ++ t) f.whole ∙ sym joined;
      within = omega (arith, a.within, f.within, ap (λ (t : List ℕ). length t) same, length-drop at all);
      place = omega (arith, a.place);
      lines = due ∙ ap (λ (t : List ℕ). t ++ line_of source offset x) a.lines
          ∙ append_assoc before (frame_lines source stream.offset a.frames) (line_of source offset x)
          ∙ ap (λ (t : List ℕ). before ++ (frame_lines source stream.offset a.frames ++ t))
          (sym (append-nil (line_of source offset x)))
          ∙ ap (λ n. before ++ (frame_lines source stream.offset a.frames ++ (line_of source n x ++ []))) (sym place)
          ∙ ap (λ (t : List ℕ). before ++ t) (sym (frame_lines-append source stream.offset a.frames (x ∷ [])));
    }

-- the frame that is put is the one that stands there
pub frame_put : (rest payload : List ℕ) (at start end : ℕ) (h : HeaderFields)
    → (f : IsFrameAt (drop at rest) h start end)
    → payload ≡ take ((at + end) - (at + start)) (drop (at + start) rest)
    → (record { header = h; payload = masked_payload h.key payload }) ≡ f.frame
frame_put rest payload at start end h f is =
    let size : (at + end) - (at + start) ≡ end - start = omega arith in
    let part : payload ≡ take (end - start) (drop start (drop at rest)) =
    is ∙ ap (λ n. take n (drop (at + start) rest)) size
    ∙ ap (λ (t : List ℕ). take (end - start) t) (sym (drop-drop start at rest)) in
    let whole : masked_payload h.key payload ≡ f.frame.payload =
    ap (λ (t : List ℕ). masked_payload h.key t) part ∙ sym f.payload_is in
    ap (λ (t : List ℕ). of_parts h t) whole ∙ ap (λ (g : HeaderFields). of_parts g f.frame.payload) (sym f.header_is)

-- ---- what is left over

split_on : (taken put piece : List ℕ) (source : Source) (offset at next : ℕ) (rest left more : List ℕ)
    → (p : AreFramesPut source taken offset rest put) → (xs : List WireFrame) → AllByRecursion IsWireFrame xs
    → take at (rest ++ piece) ≡ flat_map wire_bytes xs → at ≤ length (rest ++ piece) → left ≡ drop at (rest ++ piece)
    → next ≡ offset + at → more ≡ frame_lines source offset xs
    → (taken ++ piece ≡ flat_map wire_bytes (p.frames ++ xs) ++ left)
    × ((next ≡ length (flat_map wire_bytes (p.frames ++ xs)))
    × (put ++ more ≡ frame_lines source 0 (p.frames ++ xs)))
split_on taken put piece source offset at next rest left more p xs each front within is place lines =
    let bytes = flat_map wire_bytes p.frames in
    let joined : flat_map wire_bytes (p.frames ++ xs) ≡ bytes ++ flat_map wire_bytes xs =
    flat_map-append wire_bytes p.frames xs in
    let size : length (flat_map wire_bytes xs) ≡ at =
    ap (λ (t : List ℕ). length t) (sym front) ∙ length-take-le at (rest ++ piece) within in (
      ap (λ (t : List ℕ). t ++ piece) p.split.whole ∙ append_assoc bytes rest piece
          ∙ ap (λ (t : List ℕ). bytes ++ t) (sym (take-append-drop at (rest ++ piece)))
          ∙ ap (λ (t : List ℕ). bytes ++ (t ++ drop at (rest ++ piece))) front
          ∙ ap (λ (t : List ℕ). bytes ++ (flat_map wire_bytes xs ++ t)) (sym is)
          ∙ sym (append_assoc bytes (flat_map wire_bytes xs) left) ∙ ap (λ (t : List ℕ). t ++ left) (sym joined),
      (
        omega (
          arith,
          place,
          p.place,
          size,
          ap (λ (t : List ℕ). length t) joined,
          length-append bytes (flat_map wire_bytes xs),
        ),
        ap (λ (t : List ℕ). t ++ more) p.all ∙ ap (λ (t : List ℕ). frame_lines source 0 p.frames ++ t) lines
            ∙ ap (λ n. frame_lines source 0 p.frames ++ frame_lines source n xs)
            (p.place ∙ sym (zero-add (length bytes)))
            ∙ sym (frame_lines-append source 0 p.frames xs),
      ),
    )

-- ---- where a stream stands

pub going_put : (stream : PayloadLines) (stopped : Bool) (taken put : List ℕ) → stopped ≡ false
    → StandsPut stream stopped taken put → AreFramesPut stream.source taken stream.offset stream.rest.items put
going_put stream false taken put e stands = stands
going_put stream true taken put e stands = absurd cc

pub stopped_put : (stream : PayloadLines) (stopped : Bool) (taken put : List ℕ) → stopped ≡ true
    → StandsPut stream stopped taken put → AreLinesOf stream.source taken (BadLengthAt stream.offset) put
stopped_put stream false taken put e stands = absurd cc
stopped_put stream true taken put e stands = stands

-- more can be put
pub put_inside : (stream : PayloadLines) (taken put : List ℕ) → stream.stopped ≡ false → AreBytes taken
    → AreFramesPut stream.source taken stream.offset stream.rest.items put → HasPutLines stream taken put
put_inside stream taken put e are p = record {
  certain = inl (record {
    frames = p.frames;
    rest = stream.rest.items;
    split = p.split;
    goes_on = p.goes_on;
    all = p.all;
  });
  are_bytes = are;
  stands = subst (λ (b : Bool). StandsPut stream b taken put) (sym e) p;
}

-- a bad length stands there
pub put_stopped : (stream : PayloadLines) (taken put : List ℕ) → stream.stopped ≡ true → AreBytes taken
    → AreLinesOf stream.source taken (BadLengthAt stream.offset) put → HasPutLines stream taken put
put_stopped stream taken put e are lines = record {
  certain = inr (stream.offset, lines);
  are_bytes = are;
  stands = subst (λ (b : Bool). StandsPut stream b taken put) (sym e) lines;
}

-- ---- more bytes

-- what is left of them decides where the stream stands
left_put : (new last : PayloadLines) (stopped : Bool) (taken put piece rest before after more : List ℕ) (at : ℕ)
    → last.stopped ≡ stopped → AreBytes (taken ++ piece) → last.source ≡ new.source → last.offset ≡ new.offset
    → last.rest.items ≡ rest
    → (frames : List WireFrame) → AllByRecursion IsWireFrame frames
    → taken ++ piece ≡ flat_map wire_bytes frames ++ rest → last.offset ≡ length (flat_map wire_bytes frames)
    → put ++ more ≡ frame_lines last.source 0 frames → IsLeftOver new stopped rest (before ++ more) after
    → (all : List ℕ) × (after ≡ before ++ all) × HasPutLines last (taken ++ piece) (put ++ all)
left_put new last false taken put piece rest before after more at stopped are source offset kept frames each whole place
    lines ((none, good), same) = (
      more,
      same,
      put_inside last (taken ++ piece) (put ++ more) stopped are (record {
        frames = frames;
        split = record {
          each = each;
          whole = whole ∙ ap (λ (t : List ℕ). flat_map wire_bytes frames ++ t) (sym kept);
          left = subst (λ (t : List ℕ). BeginsNone IsWireFrame wire_bytes t) (sym kept) none;
        };
        goes_on = subst (λ (t : List ℕ). BeginsBadLength t → ⊥) (sym kept) good;
        place = place;
        all = lines;
      }),
    )
left_put new last true taken put piece rest before after more at stopped are source offset kept frames each whole place
    lines ((h, used, b, big), same) =
    let end = last_line last.source (BadLengthAt last.offset) in
    let is : last_line new.source (BadLengthAt new.offset) ≡ end =
    ap (λ (s : Source). last_line s (BadLengthAt new.offset)) (sym source)
    ∙ ap (λ n. last_line last.source (BadLengthAt n)) (sym offset) in (
      more ++ end,
      same ∙ ap (λ (t : List ℕ). (before ++ more) ++ t) is ∙ append_assoc before more end,
      put_stopped last (taken ++ piece) (put ++ (more ++ end)) stopped are (record {
        frames = frames;
        rest = rest;
        split = record { each = each; whole = whole; left = no_wire_of_bad_length rest h used b big };
        leaves = (place, (h, used, b, big));
        all = sym (append_assoc put more end) ∙ ap (λ (t : List ℕ). t ++ end) lines;
      }),
    )

pub more_put : (old mid new last : PayloadLines) (taken put piece before after : List ℕ) (at : ℕ)
    → HasPutLines old taken put → old.stopped ≡ false → AreBytes piece → mid.source ≡ old.source → mid.offset ≡ old.offset
    → mid.rest.items ≡ old.rest.items ++ piece → PutsFrames mid new at before after → new.source ≡ mid.source
    → last.rest.items ≡ drop at new.rest.items → last.source ≡ new.source → last.offset ≡ new.offset
    → last.stopped ≡ new.stopped
    → (more : List ℕ) × (after ≡ before ++ more) × HasPutLines last (taken ++ piece) (put ++ more)
more_put old mid new last taken put piece before after at t going are source offset kept (behind, (lines, a, left))
    source' rest source'' offset' stopped =
    let p = going_put old old.stopped taken put going t.stands in
    let all = old.rest.items ++ piece in
    let xs = a.frames in
    let front : take at all ≡ flat_map wire_bytes xs = ap (λ (t : List ℕ). take at t) (sym kept) ∙ a.front in
    let within : at ≤ length all = omega (arith, a.within, ap (λ (t : List ℕ). length t) kept) in
    let next : last.offset ≡ old.offset + at = omega (arith, offset', a.place, offset) in
    let more = frame_lines old.source old.offset xs in
    let joined = split_on taken put piece old.source old.offset at last.offset old.rest.items (drop at all) more p xs
    a.each front within refl next refl in
    let back : drop at mid.rest.items ≡ drop at all = ap (λ (t : List ℕ). drop at t) kept in
    let same : lines ≡ before ++ more = a.lines
    ∙ ap (λ (s : Source). before ++ frame_lines s mid.offset xs) source
    ∙ ap (λ n. before ++ frame_lines old.source n xs) offset in
    let from : old.source ≡ last.source = sym (source'' ∙ source' ∙ source) in
    let over : IsLeftOver new new.stopped (drop at all) (before ++ more) after =
    subst (λ (t : List ℕ). IsLeftOver new new.stopped t (before ++ more) after) back
    (subst (λ (t : List ℕ). IsLeftOver new new.stopped (drop at mid.rest.items) t after) same left) in
    left_put new last new.stopped taken put piece (drop at all) before after more at stopped
    (AreBytes-append taken piece t.are_bytes are) source'' offset' (rest ∙ behind ∙ back) (p.frames ++ xs)
    (all-append IsWireFrame p.frames xs p.split.each a.each) joined.0 joined.1.0
    (joined.1.1 ∙ ap (λ (s : Source). frame_lines s 0 (p.frames ++ xs)) from) over

-- behind a bad length nothing is put
pub stays_put : (stream : PayloadLines) (taken put piece : List ℕ) → HasPutLines stream taken put → stream.stopped ≡ true
    → AreBytes piece → HasPutLines stream (taken ++ piece) (put ++ [])
stays_put stream taken put piece t stopped are =
    let lines = stopped_put stream stream.stopped taken put stopped t.stands in
    put_stopped stream (taken ++ piece) (put ++ []) stopped (AreBytes-append taken piece t.are_bytes are)
    (subst (λ (t : List ℕ). AreLinesOf stream.source (taken ++ piece) (BadLengthAt stream.offset) t)
    (sym (append-nil put)) (bad_length_stays stream.source taken piece put stream.offset lines))

-- ---- the end

-- the lines of the whole frames were put, and this is left
frames_put : (source : Source) (taken rest put : List ℕ) (offset : ℕ) → AreFramesPut source taken offset rest put
    → AreFrameLinesOf source taken put
frames_put source taken rest put offset p =
    record { frames = p.frames; rest = rest; split = p.split; goes_on = p.goes_on; all = p.all }

pub frames_written : (stream : PayloadLines) (source : Source) (taken put : List ℕ) → stream.source ≡ source
    → stream.stopped ≡ false → HasPutLines stream taken put → AreFrameLinesOf source taken put
frames_written stream source taken put e going t =
    subst (λ (s : Source). AreFrameLinesOf s taken put) e
    (frames_put stream.source taken stream.rest.items put stream.offset
    (going_put stream stream.stopped taken put going t.stands))

left_at_end : (source : Source) (taken rest end put : List ℕ) (offset : ℕ) → AreFramesPut source taken offset rest put
    → end ≡ rest → IsLeft source taken (kept_end false offset end) put
left_at_end source taken rest [] put offset p e =
    record { frames = p.frames; rest = rest; split = p.split; leaves = sym e; all = p.all }
left_at_end source taken rest (byte ∷ more) put offset p e = record {
  frames = p.frames;
  rest = rest;
  split = p.split;
  leaves = (p.place, omega (arith, ap (λ (t : List ℕ). length t) e), p.goes_on);
  all = p.all;
}

pub left_put_at_end : (stream : PayloadLines) (stopped : Bool) (taken put : List ℕ) → stopped ≡ false
    → StandsPut stream stopped taken put
    → IsLeft stream.source taken (kept_end stopped stream.offset stream.rest.items) put
left_put_at_end stream false taken put e p =
    left_at_end stream.source taken stream.rest.items stream.rest.items put stream.offset p refl
left_put_at_end stream true taken put e p = absurd cc
