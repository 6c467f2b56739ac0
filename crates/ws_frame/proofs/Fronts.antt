-- What stands at the front of a stream, and the lines of its frames.
use Rattle.std.proofs.Common.{◌≡◌, ℕ, ◌+◌, ◌^◌, ◌<◌, List, [], ◌∷◌, ◌++◌, length, take, drop, refl, sym, ap, ◌∙◌, append_assoc, add-zero, arith, inl, inr, subst}
use Rattle.std.specs.List.{flat_map, AllByRecursion}
use Rattle.std.proofs.lemmas.Bool.{cases_lt}
use Rattle.std.proofs.lemmas.List.{length-append, take-append-drop}
use Rattle.std.proofs.lemmas.Grind.{flat_map-append}
use Rattle.ws_frame.specs.declared.source.Source.{Source}
use Rattle.ws_frame.specs.declared.showing.StreamEnd.{StreamEnd}
use Rattle.ws_frame.specs.declared.showing.StreamEnd.TheVariants.{Whole, CutAt, BadLengthAt}
use Rattle.ws_wire.specs.Header.{HeaderFields, AreBytes}
use Rattle.ws_wire.specs.Masking.{masked_payload}
use Rattle.ws_wire.specs.Frame.{WireFrame, IsWireFrame, wire_bytes}
use Rattle.ws_wire.specs.Reading.{Begins, BeginsNoHeader, BeginsBadLength}
use Rattle.ws_wire.specs.Stream.{SplitsIntoAnyForm}
use Rattle.ws_frame.specs.declared.source.DataStyle.{DataStyle}
use Rattle.ws_frame.specs.declared.source.DataStyle.TheVariants.{Hex}
use Rattle.ws_frame.specs.Lines.{data_word, payload_word}
use Rattle.ws_frame.specs.Lines.{line_with, line_of, frame_lines, last_line, Leaves, AreLinesOf}
use Rattle.ws_frame.specs.InnerShowing.{IsLeft, BeginsLines}
use Rattle.ws_wire.proofs.Headers.{same_header, header_parts, header_or_none}
use Rattle.ws_wire.proofs.Masks.{masked_payload_twice, take-masked_payload}
use Rattle.ws_wire.proofs.Splits.{some_split, split_is_one, rest_bytes, all-append}
use Rattle.ws_wire.proofs.Frames.{wire_told, wire_none_begins}

-- ---- the front

pub no_bad_without_header : (bytes : List ℕ) → BeginsNoHeader bytes → BeginsBadLength bytes → ⊥
no_bad_without_header bytes none (h, used, b, big) = none h (take used bytes) (drop used bytes) b.front (sym (take-append-drop used bytes))

one_at_front : (bytes : List ℕ) (h g : HeaderFields) (m n : ℕ) → Begins h m bytes → Begins g n bytes → h ≡ g
one_at_front bytes h g m n b d = (same_header h g (drop m bytes) (drop n bytes) b.front.fields d.front.fields (sym (header_parts h m bytes b) ∙ header_parts g n bytes d)).0

pub no_bad_beside : (bytes : List ℕ) (h : HeaderFields) (used : ℕ) → Begins h used bytes → h.len < 2 ^ 63 → BeginsBadLength bytes → ⊥
no_bad_beside bytes h used b small (g, n, d, big) = omega (arith, ap (λ (f : HeaderFields). f.len) (one_at_front bytes h g used n b d))

-- ---- a line

pub line_shown : (source : Source) (offset : ℕ) (x : WireFrame) (h : HeaderFields) (payload first : List ℕ)
    → source.style ≡ Hex → x.header ≡ h → length x.payload ≡ x.header.len → payload ≡ masked_payload h.key x.payload
    → first ≡ masked_payload h.key (take 16 payload)
    → line_with source offset h (data_word h.len first) ≡ line_of source offset x
line_shown source offset x h payload first digits header len masks unmasked =
    let shown : first ≡ take 16 x.payload =
    unmasked ∙ ap (λ (t : List ℕ). masked_payload h.key (take 16 t)) masks ∙ ap (λ (t : List ℕ). masked_payload h.key t) (take-masked_payload h.key 16 x.payload) ∙ masked_payload_twice h.key (take 16 x.payload) in
    ap (λ (t : List ℕ). line_with source offset h (data_word h.len t)) shown
    ∙ ap (λ (g : HeaderFields). line_with source offset g (data_word g.len (take 16 x.payload))) (sym header)
    ∙ ap (λ n. line_with source offset x.header (data_word n (take 16 x.payload))) (sym len)
    ∙ ap (λ (d : DataStyle). line_with source offset x.header (payload_word d x.header.opcode x.payload)) (sym digits)

-- ---- the lines so far

pub frame_lines-append : (source : Source) (n : ℕ) (xs ys : List WireFrame) → frame_lines source n (xs ++ ys) ≡ frame_lines source n xs ++ frame_lines source (n + length (flat_map wire_bytes xs)) ys
frame_lines-append source n [] ys = ap (λ k. frame_lines source k ys) (sym (add-zero n))
frame_lines-append source n (x ∷ xs) ys =
    let place : (n + length (wire_bytes x)) + length (flat_map wire_bytes xs) ≡ n + length (wire_bytes x ++ flat_map wire_bytes xs) = omega (arith, length-append (wire_bytes x) (flat_map wire_bytes xs)) in
    ap (λ (t : List ℕ). line_of source n x ++ t) (frame_lines-append source (n + length (wire_bytes x)) xs ys ∙ ap (λ k. frame_lines source (n + length (wire_bytes x)) xs ++ frame_lines source k ys) place)
    ∙ sym (append_assoc (line_of source n x) (frame_lines source (n + length (wire_bytes x)) xs) (frame_lines source (n + length (wire_bytes x ++ flat_map wire_bytes xs)) ys))

-- ---- all lines

-- nothing begins with no bad length
pub nothing_bad : (rest : List ℕ) → rest ≡ [] → BeginsBadLength rest → ⊥
nothing_bad rest e (h, used, b, big) = omega (arith, ap (λ (t : List ℕ). length t) (sym e ∙ header_parts h used rest b))

-- what is left of any stream
some_left : (at : ℕ) (rest : List ℕ) → AreBytes rest → (left : StreamEnd) × Leaves left at rest
some_left at [] are = (Whole, refl)
some_left at (b ∷ rest) are =
    elim (header_or_none (b ∷ rest) are) [
      | inr none ↦ (CutAt at, (refl, omega arith, no_bad_without_header (b ∷ rest) none))
      | inl s ↦ elim (cases_lt s.fields.len (2 ^ 63)) [
        | inl small ↦ (CutAt at, (refl, omega arith, no_bad_beside (b ∷ rest) s.fields s.used s.begins small))
        | inr big ↦ (BadLengthAt at, (refl, (s.fields, s.used, s.begins, big)))
      ]
    ]

pub some_lines : (source : Source) (bytes : List ℕ) → AreBytes bytes → (left : StreamEnd) × (lines : List ℕ) × AreLinesOf source bytes left lines
some_lines source bytes are =
    let s = some_split IsWireFrame wire_bytes wire_told bytes are in
    let place = length (flat_map wire_bytes s.frames) in
    let (left, leaves) = some_left place s.rest (rest_bytes bytes (flat_map wire_bytes s.frames) s.rest s.split.whole are) in
    (left, frame_lines source 0 s.frames ++ last_line source left, record { frames = s.frames; rest = s.rest; split = s.split; leaves = leaves; all = refl })

same_left : (left other : StreamEnd) (at : ℕ) (rest : List ℕ) → Leaves left at rest → Leaves other at rest → left ≡ other
same_left Whole Whole at rest p q = refl
same_left Whole (CutAt m) at rest p q = absurd (omega (arith, ap (λ (t : List ℕ). length t) p, q.1))
same_left Whole (BadLengthAt m) at rest p (e, (h, used, b, big)) = absurd (omega (arith, ap (λ (t : List ℕ). length t) (sym p ∙ header_parts h used rest b)))
same_left (CutAt n) Whole at rest p q = absurd (omega (arith, ap (λ (t : List ℕ). length t) q, p.1))
same_left (CutAt n) (CutAt m) at rest p q = ap (λ k. CutAt k) (p.0 ∙ sym q.0)
same_left (CutAt n) (BadLengthAt m) at rest p q = absurd (p.2 q.1)
same_left (BadLengthAt n) Whole at rest (e, (h, used, b, big)) q = absurd (omega (arith, ap (λ (t : List ℕ). length t) (sym q ∙ header_parts h used rest b)))
same_left (BadLengthAt n) (CutAt m) at rest p q = absurd (q.2 p.1)
same_left (BadLengthAt n) (BadLengthAt m) at rest p q = ap (λ k. BadLengthAt k) (p.0 ∙ sym q.0)

-- a stream has one list of lines
pub lines_are_one : (source : Source) (bytes : List ℕ) (left other : StreamEnd) (lines others : List ℕ) → AreLinesOf source bytes left lines → AreLinesOf source bytes other others → (left ≡ other) × (lines ≡ others)
lines_are_one source bytes left other lines others p q =
    let s = split_is_one IsWireFrame wire_bytes wire_none_begins bytes p.frames q.frames p.rest q.rest p.split q.split in
    let place : length (flat_map wire_bytes p.frames) ≡ length (flat_map wire_bytes q.frames) = ap (λ (t : List WireFrame). length (flat_map wire_bytes t)) s.0 in
    let other_leaves : Leaves other (length (flat_map wire_bytes p.frames)) p.rest = subst (λ k. Leaves other k p.rest) (sym place) (subst (λ (t : List ℕ). Leaves other (length (flat_map wire_bytes q.frames)) t) (sym s.1) q.leaves) in
    let same : left ≡ other = same_left left other (length (flat_map wire_bytes p.frames)) p.rest p.leaves other_leaves in
    (same, p.all ∙ ap (λ (t : List WireFrame). frame_lines source 0 t ++ last_line source left) s.0 ∙ ap (λ (e : StreamEnd). frame_lines source 0 q.frames ++ last_line source e) same ∙ sym q.all)

-- the lines so far begin the lines of the whole: those of all frames, and that of a bad length
by_left : (source : Source) (bytes : List ℕ) (frames : List WireFrame) (rest : List ℕ) (left : StreamEnd) (front more : List ℕ) → SplitsIntoAnyForm bytes frames rest
    → Leaves left (length (flat_map wire_bytes frames)) rest → frame_lines source 0 frames ≡ front ++ more → BeginsLines source bytes front
by_left source bytes frames rest Whole front more split leaves e =
    record { lines = frame_lines source 0 frames; more = more; are = inl (record { frames = frames; rest = rest; split = split; goes_on = nothing_bad rest leaves; all = refl }); begins = e }
by_left source bytes frames rest (CutAt n) front more split leaves e =
    record { lines = frame_lines source 0 frames; more = more; are = inl (record { frames = frames; rest = rest; split = split; goes_on = leaves.2; all = refl }); begins = e }
by_left source bytes frames rest (BadLengthAt n) front more split leaves e =
    record {
      lines = frame_lines source 0 frames ++ last_line source (BadLengthAt n);
      more = more ++ last_line source (BadLengthAt n);
      are = inr (n, record { frames = frames; rest = rest; split = split; leaves = leaves; all = refl });
      begins = ap (λ (t : List ℕ). t ++ last_line source (BadLengthAt n)) e ∙ append_assoc front more (last_line source (BadLengthAt n));
    }

-- the lines of the frames up to a rest begin the lines of the whole
pub begins_so_far : (source : Source) (bytes rest : List ℕ) (before : List WireFrame) (front more : List ℕ) → AreBytes rest → AllByRecursion IsWireFrame before → bytes ≡ flat_map wire_bytes before ++ rest
    → frame_lines source 0 before ≡ front ++ more → BeginsLines source bytes front
begins_so_far source bytes rest before front more are each parts front_of =
    let s = some_split IsWireFrame wire_bytes wire_told rest are in
    let frames = before ++ s.frames in
    let joined : flat_map wire_bytes frames ≡ flat_map wire_bytes before ++ flat_map wire_bytes s.frames = flat_map-append wire_bytes before s.frames in
    let whole : bytes ≡ flat_map wire_bytes frames ++ s.rest =
    parts ∙ ap (λ (t : List ℕ). flat_map wire_bytes before ++ t) s.split.whole ∙ sym (append_assoc (flat_map wire_bytes before) (flat_map wire_bytes s.frames) s.rest) ∙ ap (λ (t : List ℕ). t ++ s.rest) (sym joined) in
    let (left, leaves) = some_left (length (flat_map wire_bytes frames)) s.rest (rest_bytes rest (flat_map wire_bytes s.frames) s.rest s.split.whole are) in
    let behind = frame_lines source (0 + length (flat_map wire_bytes before)) s.frames in
    let lines : frame_lines source 0 frames ≡ front ++ (more ++ behind) =
    frame_lines-append source 0 before s.frames ∙ ap (λ (t : List ℕ). t ++ behind) front_of ∙ append_assoc front more behind in
    by_left source bytes frames s.rest left front (more ++ behind) (record { each = all-append IsWireFrame before s.frames each s.split.each; whole = whole; left = s.split.left }) leaves lines

-- ---- how a run ends

pub all_lines : (source : Source) (bytes : List ℕ) (left : StreamEnd) (written : List ℕ) → IsLeft source bytes left written → AreLinesOf source bytes left (written ++ last_line source left)
all_lines source bytes left written is = record { frames = is.frames; rest = is.rest; split = is.split; leaves = is.leaves; all = ap (λ (t : List ℕ). t ++ last_line source left) is.all }
