-- A mark ahead of the lines that were written leaves them, and where the stream stands, as they are.
use Rattle.std.proofs.Common.{◌≡◌, ◌<◌, ◌≤◌, ◌+◌, ◌++◌, ◌∙◌, ℕ, Bool, true, false, List, [], ◌∷◌, length, None, Some}
use Rattle.std.proofs.Common.{refl, ap, sym, arith, inl, inr}
use Rattle.std.specs.Prelude.{◌==◌, if◌then◌else◌, codes}
use Rattle.std.specs.List.{concat, flat_map}
use Rattle.std.specs.Fmt.{decimal}
use Rattle.std.proofs.lemmas.Bool.{ne_eqb}
use Rattle.std.proofs.lemmas.List.{length-append}
use Rattle.ws_wire.specs.Frame.{WireFrame, wire_bytes}
use Rattle.ws_wire.specs.Header.{form_word}
use Rattle.ws_wire.proofs.Frames.{some_wire_bytes}
use Rattle.ws_formats.specs.Words.{bit_word, opcode_word}
use Rattle.ws_frame.specs.declared.source.Source.{Source}
use Rattle.ws_frame.specs.declared.showing.StreamEnd.TheVariants.{BadLengthAt}
use Rattle.ws_frame.specs.declared.showing.Run.{Run}
use Rattle.ws_frame.specs.declared.stream_lines.StreamLines.{StreamLines}
use Rattle.ws_frame.specs.declared.payload_lines.PayloadLines.{PayloadLines}
use Rattle.ws_frame.specs.declared.frame_lines.FrameLines.TheVariants.{Digits, Whole}
use Rattle.ws_frame.specs.Lines.{AreCertainLines, AreLinesOf, fault_mark, form_mark, frame_lines, key_word, last_line}
use Rattle.ws_frame.specs.Lines.{line_of, mark_word, marked_at, mask_mark, payload_word}
use Rattle.ws_frame.specs.InnerShowing.{HasTold}
use Rattle.ws_frame.specs.Streaming.{StandsAt}
use Rattle.ws_frame.specs.PayloadStreaming.{StandsPut}
use Rattle.ws_frame.specs.FrameStreaming.{EndBy, MarksAhead}
use Rattle.ws_frame.proofs.Partials.{kept_is_no_frame}

-- ---- lines

no_mark : (place at opcode : ℕ) → at < place → fault_mark (Some place) at opcode ≡ []
no_mark place at opcode ahead =
    ap (λ (same : Bool). if same then (if opcode == 8 then codes " !close" else codes " !text") else [])
    (ne_eqb place at (λ same. omega (arith, same, ahead)))

-- the line with these remarks
abbrev line_by : Source → ℕ → WireFrame → List ℕ → List ℕ
line_by source at x mark = concat (
    mark_word source.mark ∷ decimal at ∷ codes " " ∷ opcode_word x.header.opcode
    ∷ codes " fin=" ∷ bit_word x.header.fin ∷ codes " rsv=" ∷ decimal x.header.rsv
    ∷ codes " key=" ∷ key_word x.header.key ∷ codes " len=" ∷ decimal x.header.len
    ∷ codes " " ∷ form_word x.header.form ∷ codes " " ∷ payload_word source.style x.header.opcode x.payload
    ∷ mask_mark source.from x.header.key ∷ form_mark x.header.form x.header.len ∷ mark ∷ codes "\n" ∷ [])

line_stays : (source : Source) (at place : ℕ) (x : WireFrame) → source.fault ≡ None → at < place
    → line_of source at x ≡ line_of (marked_at source place) at x
line_stays source at place x unmarked ahead =
    ap (λ (mark : List ℕ). line_by source at x mark)
    (ap (λ fault. fault_mark fault at x.header.opcode) unmarked ∙ sym (no_mark place at x.header.opcode ahead))

lines_stay : (source : Source) (at place : ℕ) (frames : List WireFrame) → source.fault ≡ None
    → at + length (flat_map wire_bytes frames) ≤ place
    → frame_lines source at frames ≡ frame_lines (marked_at source place) at frames
lines_stay source at place [] unmarked ends = refl
lines_stay source at place (x ∷ frames) unmarked ends =
    let some = some_wire_bytes x in
    let len = length-append (wire_bytes x) (flat_map wire_bytes frames) in
    let next = at + length (wire_bytes x) in
    ap (λ (t : List ℕ). t ++ frame_lines source next frames)
    (line_stays source at place x unmarked (omega (arith, some, len, ends)))
    ∙ ap (λ (t : List ℕ). line_of (marked_at source place) at x ++ t)
    (lines_stay source next place frames unmarked (omega (arith, len, ends)))

bad_length_stays : (source : Source) (place : ℕ) (taken lines : List ℕ) (bad : ℕ) → source.fault ≡ None
    → EndBy taken place → AreLinesOf source taken (BadLengthAt bad) lines
    → AreLinesOf (marked_at source place) taken (BadLengthAt bad) lines
bad_length_stays source place taken lines bad unmarked ends a = record {
  frames = a.frames;
  rest = a.rest;
  split = a.split;
  leaves = a.leaves;
  all = a.all ∙ ap (λ (t : List ℕ). t ++ last_line source (BadLengthAt bad))
      (lines_stay source 0 place a.frames unmarked (omega (arith, ends a.frames a.rest a.split)));
}

pub certain_stay : (source : Source) (place : ℕ) (taken lines : List ℕ) → source.fault ≡ None → EndBy taken place
    → AreCertainLines source taken lines → AreCertainLines (marked_at source place) taken lines
certain_stay source place taken lines unmarked ends (inl f) = inl (record {
  frames = f.frames;
  rest = f.rest;
  split = f.split;
  goes_on = f.goes_on;
  all = f.all ∙ lines_stay source 0 place f.frames unmarked (omega (arith, ends f.frames f.rest f.split));
})
certain_stay source place taken lines unmarked ends (inr (bad, a)) =
    inr (bad, bad_length_stays source place taken lines bad unmarked ends a)

-- ---- by the first bytes of payloads

abbrev marked_run : Run → ℕ → Run
marked_run run place = record run { source = marked_at run.source place }

told_stays : (run : Run) (place : ℕ) (taken written : List ℕ) → run.source.fault ≡ None → EndBy taken place
    → HasTold run taken written → HasTold (marked_run run place) taken written
told_stays run place taken written unmarked ends t =
    let s = t.so_far in
    let left = kept_is_no_frame s.rest run.partial.header run.partial.first run.partial.to_come s.is_kept in
    let within = ends s.frames s.rest (record { each = s.each; whole = s.parts; left = left }) in
    record {
      count = t.count;
      so_far = record {
        digits = s.digits;
        are_bytes = s.are_bytes;
        frames = s.frames;
        rest = s.rest;
        each = s.each;
        parts = s.parts;
        place = s.place;
        are_lines = s.are_lines ∙ lines_stay run.source 0 place s.frames unmarked (omega (arith, within));
        is_kept = s.is_kept;
      };
    }

stands_still : (run : Run) (stopped : Bool) (place : ℕ) (taken written : List ℕ) → run.source.fault ≡ None
    → EndBy taken place → StandsAt run stopped taken written → StandsAt (marked_run run place) stopped taken written
stands_still run false place taken written unmarked ends (none, told) =
    (none, told_stays run place taken written unmarked ends told)
stands_still run true place taken written unmarked ends (bad, a) =
    (bad, bad_length_stays run.source place taken written bad unmarked ends a)

pub digits_marked : (lines : StreamLines) (place : ℕ)
    → MarksAhead (Digits lines) (Digits (record lines { run = marked_run lines.run place })) place
digits_marked lines place = λ unmarked taken written t ends.
    let source = lines.run.source in
    let certain = certain_stay source place taken written unmarked ends t.certain in
    let stands = stands_still lines.run lines.stopped place taken written unmarked ends t.stands.stands in
    record {
      certain = certain;
      are_bytes = t.are_bytes;
      stands = record { certain = certain; are_bytes = t.are_bytes; stands = stands };
    }

-- ---- by whole payloads

abbrev marked_lines : PayloadLines → ℕ → PayloadLines
marked_lines lines place = record lines { source = marked_at lines.source place }

put_stays : (lines : PayloadLines) (stopped : Bool) (place : ℕ) (taken put : List ℕ) → lines.source.fault ≡ None
    → EndBy taken place → StandsPut lines stopped taken put → StandsPut (marked_lines lines place) stopped taken put
put_stays lines false place taken put unmarked ends p = record {
  frames = p.frames;
  split = p.split;
  goes_on = p.goes_on;
  place = p.place;
  all = p.all ∙ lines_stay lines.source 0 place p.frames unmarked
      (omega (arith, ends p.frames lines.rest.items p.split));
}
put_stays lines true place taken put unmarked ends a =
    bad_length_stays lines.source place taken put lines.offset unmarked ends a

pub payloads_marked : (lines : PayloadLines) (place : ℕ)
    → MarksAhead (Whole lines) (Whole (marked_lines lines place)) place
payloads_marked lines place = λ unmarked taken written t ends.
    let certain = certain_stay lines.source place taken written unmarked ends t.certain in
    let stands = put_stays lines lines.stopped place taken written unmarked ends t.stands.stands in
    record {
      certain = certain;
      are_bytes = t.are_bytes;
      stands = record { certain = certain; are_bytes = t.are_bytes; stands = stands };
    }
