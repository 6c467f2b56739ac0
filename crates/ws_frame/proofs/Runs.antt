-- Where a run of `show` stands, and what a piece makes of it.
use Rattle.std.proofs.Common.{◌≡◌, ℕ, ◌+◌, ◌-◌, ◌<◌, ◌≤◌, Bool, true, false, List, [], ◌∷◌, ◌++◌, length, take, drop, Option, Ok, refl, sym, ap, ◌∙◌, append_assoc, append-nil, zero-add, arith, inr, subst}
use Rattle.std.specs.List.{flat_map}
use Rattle.std.specs.Prelude.{IsTrue, ◌↔◌}
use Rattle.std.proofs.lemmas.List.{length-append, length-take-le, take-append-drop, take_rest, take_all}
use Rattle.std.proofs.lemmas.Grind.{flat_map-append}
use Rattle.ws_frame.specs.declared.source.Source.{Source}
use Rattle.ws_frame.specs.declared.showing.StreamEnd.{StreamEnd}
use Rattle.ws_frame.specs.declared.showing.StreamEnd.TheVariants.{BadLengthAt}
use Rattle.ws_frame.specs.declared.partial.Partial.{Partial}
use Rattle.ws_wire.specs.Header.{HeaderFields, AreBytes}
use Rattle.ws_wire.specs.Masking.{masked_payload}
use Rattle.ws_wire.specs.Frame.{IsWireFrame, wire_bytes}
use Rattle.ws_wire.specs.Stream.{SplitsIntoAnyForm}
use Rattle.ws_wire.specs.Reading.{BeginsBadLength}
use Rattle.ws_frame.specs.Devices.{Device}
use Rattle.ws_frame.specs.declared.source.DataStyle.TheVariants.{Hex}
use Rattle.ws_frame.specs.Lines.{data_word, line_with, line_of, frame_lines, last_line, Leaves, AreFrameLinesOf}
use Rattle.ws_frame.specs.declared.showing.Run.{Run}
use Rattle.ws_frame.specs.InnerShowing.{IsPartialFrame, IsWhole, AreLinesSoFar, HasTold, IsLeft, BeginsLines, ShowsNext, ShowsPiece}
use Rattle.ws_frame.specs.declared.showing.PieceEnd.{PieceEnd}
use Rattle.ws_wire.proofs.Numbers.{front_bytes, AreBytes-drop}
use Rattle.ws_frame.proofs.Written.{front_grows}
use Rattle.ws_wire.proofs.Splits.{rest_bytes, all-append}
use Rattle.ws_wire.proofs.Frames.{no_wire_of_bad_length}
use Rattle.ws_frame.proofs.Fronts.{line_shown, frame_lines-append, begins_so_far, all_lines}
use Rattle.ws_frame.proofs.Partials.{AreBytes-append, kept_is_no_frame, kept_is_no_bad_length}

-- ---- where a run stands

pub nothing_taken : (source : Source) (partial : Partial) → source.style ≡ Hex → IsPartialFrame [] partial
    → AreLinesSoFar source [] 0 partial []
nothing_taken source partial digits k = record { digits = digits; are_bytes = λ i. omega arith; frames = []; rest = []; each = tt; parts = refl; place = refl; are_lines = refl; is_kept = k }

pub rest_are_bytes : (source : Source) (taken : List ℕ) (offset : ℕ) (partial : Partial) (lines : List ℕ) → (s : AreLinesSoFar source taken offset partial lines) → AreBytes s.rest
rest_are_bytes source taken offset partial lines s = rest_bytes taken (flat_map wire_bytes s.frames) s.rest s.parts s.are_bytes

-- more of the frame under way
pub part_taken : (source : Source) (taken : List ℕ) (offset : ℕ) (partial new : Partial) (lines more : List ℕ) → (s : AreLinesSoFar source taken offset partial lines) → AreBytes more → IsPartialFrame (s.rest ++ more) new
    → AreLinesSoFar source (taken ++ more) offset new lines
part_taken source taken offset partial new lines more s are k = record {
  digits = s.digits;
  are_bytes = AreBytes-append taken more s.are_bytes are;
  frames = s.frames;
  rest = s.rest ++ more;
  each = s.each;
  parts = ap (λ (t : List ℕ). t ++ more) s.parts ∙ append_assoc (flat_map wire_bytes s.frames) s.rest more;
  place = s.place;
  are_lines = s.are_lines;
  is_kept = k;
}

-- the frame under way is whole
pub frame_taken : (source : Source) (taken : List ℕ) (offset place : ℕ) (partial new : Partial) (lines more : List ℕ) (header : HeaderFields) (first : List ℕ) → (s : AreLinesSoFar source taken offset partial lines)
    → AreBytes more → IsWhole (s.rest ++ more) header first → IsPartialFrame [] new → place ≡ length (taken ++ more)
    → AreLinesSoFar source (taken ++ more) place new (lines ++ line_with source offset header (data_word header.len (masked_payload header.key first)))
frame_taken source taken offset place partial new lines more header first s are w k e =
    let x = w.frame in
    let frames = s.frames ++ x ∷ [] in
    let joined : flat_map wire_bytes frames ≡ flat_map wire_bytes s.frames ++ wire_bytes x = flat_map-append wire_bytes s.frames (x ∷ []) ∙ ap (λ (t : List ℕ). flat_map wire_bytes s.frames ++ t) (append-nil (wire_bytes x)) in
    let whole : taken ++ more ≡ flat_map wire_bytes frames =
    ap (λ (t : List ℕ). t ++ more) s.parts ∙ append_assoc (flat_map wire_bytes s.frames) s.rest more ∙ ap (λ (t : List ℕ). flat_map wire_bytes s.frames ++ t) w.bytes_are ∙ sym joined in
    let unmasked : masked_payload header.key first ≡ masked_payload header.key (take 16 (masked_payload header.key x.payload)) = ap (λ (t : List ℕ). masked_payload header.key t) w.first_are in
    let line : line_with source offset header (data_word header.len (masked_payload header.key first)) ≡ line_of source offset x = line_shown source offset x header (masked_payload header.key x.payload) (masked_payload header.key first) s.digits w.header_is w.is_wire.len refl unmasked in
    let at : offset ≡ 0 + length (flat_map wire_bytes s.frames) = s.place ∙ sym (zero-add (length (flat_map wire_bytes s.frames))) in
    record {
      digits = s.digits;
      are_bytes = AreBytes-append taken more s.are_bytes are;
      frames = frames;
      rest = [];
      each = all-append IsWireFrame s.frames (x ∷ []) s.each (w.is_wire, tt);
      parts = whole ∙ sym (append-nil (flat_map wire_bytes frames));
      place = e ∙ ap (λ (t : List ℕ). length t) whole;
      are_lines = ap (λ (t : List ℕ). lines ++ t) line ∙ ap (λ (t : List ℕ). t ++ line_of source offset x) s.are_lines
          ∙ ap (λ (t : List ℕ). frame_lines source 0 s.frames ++ t) (sym (append-nil (line_of source offset x)) ∙ ap (λ n. line_of source n x ++ []) at)
          ∙ sym (frame_lines-append source 0 s.frames (x ∷ []));
      is_kept = k;
    }

-- ---- what its lines are

split_of : (source : Source) (taken : List ℕ) (offset : ℕ) (partial : Partial) (lines : List ℕ) → (s : AreLinesSoFar source taken offset partial lines) → SplitsIntoAnyForm taken s.frames s.rest
split_of source taken offset partial lines s = record { each = s.each; whole = s.parts; left = kept_is_no_frame s.rest partial.header partial.first partial.to_come s.is_kept }

pub left_at_end : (source : Source) (taken : List ℕ) (offset : ℕ) (partial : Partial) (lines : List ℕ) (left : StreamEnd) → (s : AreLinesSoFar source taken offset partial lines) → Leaves left offset s.rest → IsLeft source taken left lines
left_at_end source taken offset partial lines left s leaves =
    record { frames = s.frames; rest = s.rest; split = split_of source taken offset partial lines s; leaves = subst (λ n. Leaves left n s.rest) s.place leaves; all = s.are_lines }

pub lines_of_frames : (source : Source) (taken : List ℕ) (offset : ℕ) (partial : Partial) (lines : List ℕ) → AreLinesSoFar source taken offset partial lines → AreFrameLinesOf source taken lines
lines_of_frames source taken offset partial lines s = record {
  frames = s.frames;
  rest = s.rest;
  split = split_of source taken offset partial lines s;
  goes_on = kept_is_no_bad_length s.rest partial.header partial.first partial.to_come s.is_kept;
  all = s.are_lines;
}

pub left_at_bad_length : (source : Source) (taken : List ℕ) (offset : ℕ) (partial : Partial) (lines more : List ℕ) → (s : AreLinesSoFar source taken offset partial lines) → BeginsBadLength (s.rest ++ more)
    → IsLeft source (taken ++ more) (BadLengthAt offset) lines
left_at_bad_length source taken offset partial lines more s (h, used, b, big) = record {
  frames = s.frames;
  rest = s.rest ++ more;
  split = record {
    each = s.each;
    whole = ap (λ (t : List ℕ). t ++ more) s.parts ∙ append_assoc (flat_map wire_bytes s.frames) s.rest more;
    left = no_wire_of_bad_length (s.rest ++ more) h used b big;
  };
  leaves = (s.place, (h, used, b, big));
  all = s.are_lines;
}

-- what begins the lines so far begins those of more bytes
pub begins_more : (source : Source) (taken : List ℕ) (offset : ℕ) (partial : Partial) (lines more front behind : List ℕ) → AreLinesSoFar source taken offset partial lines → AreBytes more → lines ≡ front ++ behind
    → BeginsLines source (taken ++ more) front
begins_more source taken offset partial lines more front behind s are e =
    begins_so_far source (taken ++ more) (s.rest ++ more) s.frames front behind (AreBytes-append s.rest more (rest_are_bytes source taken offset partial lines s) are) s.each
    (ap (λ (t : List ℕ). t ++ more) s.parts ∙ append_assoc (flat_map wire_bytes s.frames) s.rest more) (sym s.are_lines ∙ e)

-- what is left at a bad length begins the lines
pub begins_left : (source : Source) (bytes written front behind : List ℕ) (place : ℕ) → IsLeft source bytes (BadLengthAt place) written → written ≡ front ++ behind → BeginsLines source bytes front
begins_left source bytes written front behind place is e = record {
  lines = written ++ last_line source (BadLengthAt place);
  more = behind ++ last_line source (BadLengthAt place);
  are = inr (place, all_lines source bytes (BadLengthAt place) written is);
  begins = ap (λ (t : List ℕ). t ++ last_line source (BadLengthAt place)) e ∙ append_assoc front behind (last_line source (BadLengthAt place));
}

not_true : (b : Bool) → b ≡ false → IsTrue b → ⊥
not_true true e t = absurd cc
not_true false e t = absurd cc

pub some_left_over : (rest : List ℕ) (b : Bool) → (IsTrue b ↔ (rest ≡ [])) → b ≡ false → 0 < length rest
some_left_over [] b iff e = absurd (not_true b e (iff.1 refl))
some_left_over (x ∷ rest) b iff e = omega arith

-- ---- a part of a piece

front_and_rest : (taken piece : List ℕ) (used : ℕ) → (taken ++ take used piece) ++ drop used piece ≡ taken ++ piece
front_and_rest taken piece used = append_assoc taken (take used piece) (drop used piece) ∙ ap (λ (t : List ℕ). taken ++ t) (take-append-drop used piece)

counted : (count used : ℕ) (taken piece : List ℕ) → count ≡ length taken → used ≤ length piece → count + used ≡ length (taken ++ take used piece)
counted count used taken piece e le = omega (arith, e, length-append taken (take used piece), length-take-le used piece le)

pub part_told : (source : Source) (taken written piece lines : List ℕ) (count offset used : ℕ) (partial new : Partial) → count ≡ length taken → (s : AreLinesSoFar source taken offset partial (written ++ lines)) → AreBytes piece → used ≤ length piece
    → IsPartialFrame (s.rest ++ take used piece) new → (count + used ≡ length (taken ++ take used piece)) × AreLinesSoFar source (taken ++ take used piece) offset new ((written ++ []) ++ lines)
part_told source taken written piece lines count offset used partial new e s are le k = (
  counted count used taken piece e le,
  subst (λ (t : List ℕ). AreLinesSoFar source (taken ++ take used piece) offset new (t ++ lines)) (sym (append-nil written))
      (part_taken source taken offset partial new (written ++ lines) (take used piece) s (front_bytes used piece are) k),
)

-- a frame is whole, and its line put behind those that wait, of which some may be written
due_again : (written lines line w waiting : List ℕ) → lines ++ line ≡ w ++ waiting → (written ++ lines) ++ line ≡ (written ++ w) ++ waiting
due_again written lines line w waiting due = append_assoc written lines line ∙ ap (λ (t : List ℕ). written ++ t) due ∙ sym (append_assoc written w waiting)

pub frame_told : (source : Source) (taken written piece lines w waiting : List ℕ) (count offset used : ℕ) (partial new : Partial) (header : HeaderFields) (first : List ℕ) → count ≡ length taken
    → (s : AreLinesSoFar source taken offset partial (written ++ lines)) → AreBytes piece → used ≤ length piece → IsWhole (s.rest ++ take used piece) header first → IsPartialFrame [] new
    → lines ++ line_with source offset header (data_word header.len (masked_payload header.key first)) ≡ w ++ waiting
    → (count + used ≡ length (taken ++ take used piece)) × AreLinesSoFar source (taken ++ take used piece) (count + used) new ((written ++ w) ++ waiting)
frame_told source taken written piece lines w waiting count offset used partial new header first e s are le whole k due =
    let place = counted count used taken piece e le in (
      place,
      subst (λ (t : List ℕ). AreLinesSoFar source (taken ++ take used piece) (count + used) new t) (due_again written lines (line_with source offset header (data_word header.len (masked_payload header.key first))) w waiting due)
          (frame_taken source taken offset (count + used) partial new (written ++ lines) (take used piece) header first s (front_bytes used piece are) whole k place),
    )

pub frame_begun : (source : Source) (taken written piece lines front behind : List ℕ) (count offset used : ℕ) (partial new : Partial) (header : HeaderFields) (first : List ℕ) → count ≡ length taken
    → (s : AreLinesSoFar source taken offset partial (written ++ lines)) → AreBytes piece → used ≤ length piece → IsWhole (s.rest ++ take used piece) header first → IsPartialFrame [] new
    → lines ++ line_with source offset header (data_word header.len (masked_payload header.key first)) ≡ front ++ behind → BeginsLines source (taken ++ piece) (written ++ front)
frame_begun source taken written piece lines front behind count offset used partial new header first e s are le whole k due =
    let next = frame_told source taken written piece lines front behind count offset used partial new header first e s are le whole k due in
    subst (λ (t : List ℕ). BeginsLines source t (written ++ front)) (front_and_rest taken piece used)
    (begins_more source (taken ++ take used piece) (count + used) new ((written ++ front) ++ behind) (drop used piece) (written ++ front) behind next.1 (AreBytes-drop used piece are) refl)

pub bad_told : (source : Source) (taken written piece lines : List ℕ) (offset : ℕ) (partial : Partial) → (s : AreLinesSoFar source taken offset partial (written ++ lines)) → BeginsBadLength (s.rest ++ piece)
    → IsLeft source (taken ++ piece) (BadLengthAt offset) ((written ++ []) ++ lines)
bad_told source taken written piece lines offset partial s bad =
    subst (λ (t : List ℕ). IsLeft source (taken ++ piece) (BadLengthAt offset) (t ++ lines)) (sym (append-nil written)) (left_at_bad_length source taken offset partial (written ++ lines) piece s bad)

-- ---- a piece

pub told_so : (run : Run) (taken taken' written written' : List ℕ) → HasTold run taken written → taken ≡ taken' → written ≡ written' → HasTold run taken' written'
told_so run taken taken' written written' h et ew = subst (λ (t : List ℕ). HasTold run t written') et (subst (λ (t : List ℕ). HasTold run taken t) ew h)

pub begins_so : (source : Source) (bytes bytes' front front' : List ℕ) → BeginsLines source bytes front → bytes ≡ bytes' → front ≡ front' → BeginsLines source bytes' front'
begins_so source bytes bytes' front front' b eb ef = subst (λ (t : List ℕ). BeginsLines source t front') eb (subst (λ (t : List ℕ). BeginsLines source bytes t) ef b)

pub left_so : (source : Source) (left : StreamEnd) (bytes bytes' lines lines' : List ℕ) → IsLeft source bytes left lines → bytes ≡ bytes' → lines ≡ lines' → IsLeft source bytes' left lines'
left_so source left bytes bytes' lines lines' is eb el = subst (λ (t : List ℕ). IsLeft source t left lines') eb (subst (λ (t : List ℕ). IsLeft source bytes left t) el is)

pub whole_piece : (taken piece : List ℕ) (at : ℕ) → (taken ++ take at piece) ++ take (length piece - at) (drop at piece) ≡ taken ++ piece
whole_piece taken piece at = ap (λ (t : List ℕ). (taken ++ take at piece) ++ t) (take_rest piece at) ∙ front_and_rest taken piece at

pub more_of_piece : (taken piece : List ℕ) (at used : ℕ) → (taken ++ take at piece) ++ take used (take (length piece - at) (drop at piece)) ≡ taken ++ take (at + used) piece
more_of_piece taken piece at used = append_assoc taken (take at piece) (take used (take (length piece - at) (drop at piece))) ∙ ap (λ (t : List ℕ). taken ++ t) (front_grows at used piece)

-- the lines that wait were written, or some of them
pub out_behind : (written more lines w waiting : List ℕ) → lines ≡ w ++ waiting → (written ++ more) ++ lines ≡ (written ++ (more ++ w)) ++ waiting
out_behind written more lines w waiting due = ap (λ (t : List ℕ). (written ++ more) ++ t) due ∙ (simp append_assoc refl)

pub out_behind_two : (written more next lines w waiting : List ℕ) → lines ≡ w ++ waiting → ((written ++ more) ++ next) ++ lines ≡ (written ++ (more ++ (next ++ w))) ++ waiting
out_behind_two written more next lines w waiting due = ap (λ (t : List ℕ). ((written ++ more) ++ next) ++ t) due ∙ (simp append_assoc refl)

pub all_out : (written more next lines w waiting : List ℕ) → lines ≡ w ++ waiting → waiting ≡ [] → ((written ++ more) ++ next) ++ lines ≡ written ++ (more ++ (next ++ w))
all_out written more next lines w waiting due none =
    out_behind_two written more next lines w waiting due ∙ ap (λ (t : List ℕ). (written ++ (more ++ (next ++ w))) ++ t) none ∙ append-nil (written ++ (more ++ (next ++ w)))

pub end_begun : (source : Source) (taken piece written more lines front behind : List ℕ) (offset at : ℕ) (partial : Partial) → AreLinesSoFar source (taken ++ take at piece) offset partial ((written ++ more) ++ lines) → length piece ≤ at
    → lines ≡ front ++ behind → BeginsLines source (taken ++ piece) (written ++ (more ++ front))
end_begun source taken piece written more lines front behind offset at partial s end due =
    begins_so source ((taken ++ take at piece) ++ []) (taken ++ piece) (written ++ (more ++ front)) (written ++ (more ++ front))
    (begins_more source (taken ++ take at piece) offset partial ((written ++ more) ++ lines) [] (written ++ (more ++ front)) behind s (λ i. omega arith) (out_behind written more lines front behind due))
    (append-nil (taken ++ take at piece) ∙ ap (λ (t : List ℕ). taken ++ t) (take_all at piece end)) refl

pub end_told : (source : Source) (taken piece written more lines w waiting : List ℕ) (offset at : ℕ) (partial : Partial) → AreLinesSoFar source (taken ++ take at piece) offset partial ((written ++ more) ++ lines) → length piece ≤ at
    → lines ≡ w ++ waiting → AreLinesSoFar source (taken ++ piece) offset partial ((written ++ (more ++ w)) ++ waiting)
end_told source taken piece written more lines w waiting offset at partial s end due =
    subst (λ (t : List ℕ). AreLinesSoFar source t offset partial ((written ++ (more ++ w)) ++ waiting)) (ap (λ (t : List ℕ). taken ++ t) (take_all at piece end))
    (subst (λ (t : List ℕ). AreLinesSoFar source (taken ++ take at piece) offset partial t) (out_behind written more lines w waiting due) s)

pub next_is : (old new : Run) (piece : List ℕ) (output : Device) (next other : Option ℕ) → next ≡ other → ShowsNext old new piece output (Ok next) → ShowsNext old new piece output (Ok other)
next_is old new piece output next other e shown = subst (λ (o : Option ℕ). ShowsNext old new piece output (Ok o)) e shown

pub piece_is : (old new : Run) (piece : List ℕ) (output : Device) (end other : PieceEnd) → end ≡ other → ShowsPiece old new piece output (Ok end) → ShowsPiece old new piece output (Ok other)
piece_is old new piece output end other e shown = subst (λ (o : PieceEnd). ShowsPiece old new piece output (Ok o)) e shown

-- all lines of what was read are written
pub all_written : (source source' : Source) (read : List ℕ) (offset : ℕ) (partial : Partial) (written lines : List ℕ) → AreLinesSoFar source read offset partial (written ++ lines) → lines ≡ [] → source ≡ source' → AreLinesSoFar source' read offset partial written
all_written source source' read offset partial written lines s none e =
    subst (λ (r : Source). AreLinesSoFar r read offset partial written) e (subst (λ (t : List ℕ). AreLinesSoFar source read offset partial t) (ap (λ (t : List ℕ). written ++ t) none ∙ append-nil written) s)
