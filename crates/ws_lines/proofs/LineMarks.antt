-- A mark ahead of the lines of a direction leaves them as they are, and what was told of its turns.
use Rattle.std.proofs.Common.{◌≡◌, ◌+◌, ◌++◌, ◌∙◌, ℕ, List, length, None, drop, take}
use Rattle.std.proofs.Common.{append_assoc, ap, sym, subst, arith}
use Rattle.std.specs.List.{flat_map}
use Rattle.std.proofs.lemmas.Grind.{flat_map-append}
use Rattle.std.proofs.lemmas.List.{length-append, take-append-drop}
use Rattle.ws_wire.specs.Frame.{IsWireFrame, wire_bytes}
use Rattle.ws_wire.specs.Header.{AreBytes}
use Rattle.ws_wire.proofs.Frames.{wire_told}
use Rattle.ws_wire.proofs.Splits.{rest_bytes, some_split, split_goes_on}
use Rattle.ws_frame.specs.declared.source.Source.{Source}
use Rattle.ws_frame.specs.declared.frame_lines.FrameLines.{FrameLines}
use Rattle.ws_frame.specs.Lines.{marked_at}
use Rattle.ws_frame.proofs.MarksAhead.{certain_stay}
use Rattle.ws_frame.specs.FrameStreaming.{EndBy, MarksAhead, frames_source, keeps_frames}
use Rattle.ws_scripts.specs.declared.transcript.Turn.{Turn}
use Rattle.ws_lines.specs.declared.transcript_lines.Showing.{Showing}
use Rattle.ws_lines.specs.declared.transcript_lines.TranscriptLines.{TranscriptLines}
use Rattle.ws_lines.specs.TurnLines.{Direction, StandInTheirTurns, TurnLines, bytes_in, got_by_tester, lines_in}
use Rattle.ws_lines.specs.TurnLines.{sent_by_tester}
use Rattle.ws_lines.specs.Telling.{HasToldTurns, IsToldIn, with_got_fault, with_sent_fault}

-- ---- turns

-- the whole frames of the first bytes end by there, too
end_in_front : (front more : List ℕ) (place : ℕ) → AreBytes (front ++ more) → EndBy (front ++ more) place
    → EndBy front place
end_in_front front more place are ends = λ frames rest split.
    let left : front ++ more ≡ flat_map wire_bytes frames ++ (rest ++ more) =
    ap (λ (l : List ℕ). l ++ more) split.whole ∙ append_assoc (flat_map wire_bytes frames) rest more in
    let behind = some_split IsWireFrame wire_bytes wire_told (rest ++ more)
    (rest_bytes (front ++ more) (flat_map wire_bytes frames) (rest ++ more) left are) in
    let all = ends (frames ++ behind.frames) behind.rest
    (split_goes_on IsWireFrame wire_bytes front more frames behind.frames rest behind.rest split behind.split) in
    let sum = ap (λ (l : List ℕ). length l) (flat_map-append wire_bytes frames behind.frames) in
    omega (arith, all, sum, length-append (flat_map wire_bytes frames) (flat_map wire_bytes behind.frames))

-- a direction with the frame at this place marked
abbrev marked_direction : Direction → ℕ → Direction
marked_direction d place = record { source = marked_at d.source place; bytes = d.bytes; lines = d.lines }

stand_marked : (d : Direction) (place : ℕ) (turns : List Turn) (lines : List TurnLines) → d.source.fault ≡ None
    → AreBytes (bytes_in d turns) → EndBy (bytes_in d turns) place → StandInTheirTurns d turns lines
    → StandInTheirTurns (marked_direction d place) turns lines
stand_marked d place turns lines unmarked are ends stand = λ n le.
    let front = bytes_in d (take n turns) in
    let more = bytes_in d (drop n turns) in
    let parts : bytes_in d turns ≡ front ++ more =
    ap (λ (l : List Turn). bytes_in d l) (sym (take-append-drop n turns))
    ∙ flat_map-append d.bytes (take n turns) (drop n turns) in
    let early = end_in_front front more place (subst (λ (l : List ℕ). AreBytes l) parts are)
    (subst (λ (l : List ℕ). EndBy l place) parts ends) in
    certain_stay d.source place front (lines_in d (take n lines)) unmarked early (stand n le)

-- what was told of it stays
told_marked : (d : Direction) (old new : FrameLines) (place : ℕ) (turns : List Turn) (lines : List TurnLines)
    → d.source.fault ≡ None → EndBy (bytes_in d turns) place
    → frames_source new ≡ marked_at (frames_source old) place → keeps_frames new ≡ keeps_frames old
    → MarksAhead old new place → IsToldIn d old turns lines → IsToldIn (marked_direction d place) new turns lines
told_marked d old new place turns lines unmarked ends source kept marks told = record {
  source = source ∙ ap (λ (s : Source). marked_at s place) told.source;
  kept = kept ∙ told.kept;
  stand = stand_marked d place turns lines unmarked told.shown.are_bytes ends told.stand;
  shown = marks (ap (λ (s : Source). s.fault) told.source ∙ unmarked) (bytes_in d turns) (lines_in d lines) told.shown
      ends;
}

-- ---- both directions

pub sent_marked : (showing : Showing) (old : TranscriptLines) (new : FrameLines) (place : ℕ) (turns : List Turn)
    (written : List ℕ) → showing.sent_fault ≡ None → EndBy (bytes_in (sent_by_tester showing) turns) place
    → frames_source new ≡ marked_at (frames_source old.sent) place → keeps_frames new ≡ keeps_frames old.sent
    → MarksAhead old.sent new place → HasToldTurns showing old turns written
    → HasToldTurns (with_sent_fault showing place) (record old { sent = new }) turns written
sent_marked showing old new place turns written unmarked ends source kept marks h = record {
  lines = h.lines;
  one_each = h.one_each;
  all = h.all;
  count = h.count;
  sent = told_marked (sent_by_tester showing) old.sent new place turns h.lines unmarked ends source kept marks h.sent;
  got = h.got;
}

pub got_marked : (showing : Showing) (old : TranscriptLines) (new : FrameLines) (place : ℕ) (turns : List Turn)
    (written : List ℕ) → showing.got_fault ≡ None → EndBy (bytes_in (got_by_tester showing) turns) place
    → frames_source new ≡ marked_at (frames_source old.got) place → keeps_frames new ≡ keeps_frames old.got
    → MarksAhead old.got new place → HasToldTurns showing old turns written
    → HasToldTurns (with_got_fault showing place) (record old { got = new }) turns written
got_marked showing old new place turns written unmarked ends source kept marks h = record {
  lines = h.lines;
  one_each = h.one_each;
  all = h.all;
  count = h.count;
  sent = h.sent;
  got = told_marked (got_by_tester showing) old.got new place turns h.lines unmarked ends source kept marks h.got;
}
