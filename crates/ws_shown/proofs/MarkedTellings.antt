-- What each call makes of the lines of a transcript with marks.
use Rattle.std.proofs.Common.{◌≡◌, ◌∙◌, ◌++◌, ℕ, List, [], ◌∷◌, Option, None, Some, ap, append-nil, arith}
use Rattle.std.proofs.Common.{append_assoc, refl, subst, sym}
use Rattle.std.proofs.lemmas.Grind.{flat_map-append}
use Rattle.std.specs.List.{flat_map}
use Rattle.std.specs.Prelude.{Ok, Result}
use Rattle.ws_wire.specs.declared.role.Role.{Role}
use Rattle.ws_frame.specs.Devices.{Device}
use Rattle.ws_frame.specs.declared.writing_whole.WriteFault.{WriteFault}
use Rattle.ws_scripts.specs.declared.transcript.Ended.{Ended}
use Rattle.ws_scripts.specs.declared.transcript.Turn.{Turn}
use Rattle.ws_session.specs.Sends.{most_limits}
use Rattle.ws_session.proofs.Next.{place_is, two_bytes}
use Rattle.ws_suite.specs.Evidence.{other_role}
use Rattle.ws_faults.specs.declared.finding.FaultFinder.{FaultFinder}
use Rattle.ws_faults.specs.declared.marking.MarkedFrames.{MarkedFrames}
use Rattle.ws_faults.specs.Finding.{HasSearched}
use Rattle.ws_faults.specs.PayloadFaults.{IsMarkOf}
use Rattle.ws_faults.proofs.MarkedFronts.{mark_ahead, mark_with_more}
use Rattle.ws_lines.specs.declared.transcript_lines.Showing.{Showing}
use Rattle.ws_lines.specs.declared.transcript_lines.TranscriptLines.{TranscriptLines}
use Rattle.ws_lines.specs.Telling.{HasToldTurns, MarksGot, MarksSent, TellsEnd, TellsGot, TellsTurn, begun_turn}
use Rattle.ws_lines.specs.Telling.{with_got}
use Rattle.ws_shown.specs.declared.marked_lines.MarkedLines.{MarkedLines}
use Rattle.ws_shown.specs.MarkedLines.{EndsWithMarks, HasGotAhead, HasSearchedTo, HasSentAhead, HasToldMarked}
use Rattle.ws_shown.specs.MarkedLines.{HasToldMore, got_over, sent_over, showing_with}

-- ---- no bytes

pub nothing_is_marked : (role : Role) → IsMarkOf role [] None
nothing_is_marked role = λ place reason f.
    absurd (omega (arith, place_is role most_limits [] place reason f.fault, f.fault.long, two_bytes f.fault.header))

-- ---- what is found is marked

pub mark_so : (role : Role) (bytes : List ℕ) (o other : Option ℕ) → o ≡ other → IsMarkOf role bytes o
    → IsMarkOf role bytes other
mark_so role bytes o other e h = subst (λ (m : Option ℕ). IsMarkOf role bytes m) e h

pub found_sent : (showing : Showing) (old : MarkedLines) (new : TranscriptLines) (turns : List Turn)
    (written piece : List ℕ) (place : ℕ) → MarksSent old.lines new place
    → IsMarkOf showing.tested (sent_over turns ++ piece) (Some place) → HasSentAhead showing old turns written piece
    → HasSearchedTo showing (record {
      lines = new;
      sent = old.sent;
      got = old.got;
      marked = record { sent = Some place; got = old.marked.got };
    }) (sent_over turns ++ piece) (got_over turns) turns written
found_sent showing old new turns written piece place marks found h = record {
  sent_searched = h.sent_searched;
  got_searched = h.got_searched;
  sent_mark = found;
  got_mark = h.got_mark;
  lines = marks (showing_with showing old.marked) turns written h.unmarked h.lines
      (mark_ahead showing.tested (sent_over turns) piece place h.none found);
}

pub found_got : (showing : Showing) (old : MarkedLines) (new : TranscriptLines) (turns : List Turn)
    (written piece : List ℕ) (place : ℕ) → MarksGot old.lines new place
    → IsMarkOf (other_role showing.tested) (got_over turns ++ piece) (Some place)
    → HasGotAhead showing old turns written piece
    → HasSearchedTo showing (record {
      lines = new;
      sent = old.sent;
      got = old.got;
      marked = record { sent = old.marked.sent; got = Some place };
    }) (sent_over turns) (got_over turns ++ piece) turns written
found_got showing old new turns written piece place marks found h = record {
  sent_searched = h.sent_searched;
  got_searched = h.got_searched;
  sent_mark = h.sent_mark;
  got_mark = found;
  lines = marks (showing_with showing old.marked) turns written h.unmarked h.lines
      (mark_ahead (other_role showing.tested) (got_over turns) piece place h.none found);
}

-- ---- turns

over_more : (bytes : Turn → List ℕ) (turns : List Turn) (turn : Turn)
    → flat_map bytes turns ++ bytes turn ≡ flat_map bytes (turns ++ turn ∷ [])
over_more bytes turns turn =
    sym (flat_map-append bytes turns (turn ∷ [])
    ∙ ap (λ (l : List ℕ). flat_map bytes turns ++ l) (append-nil (bytes turn)))

-- the last turn with more bytes of it
over_last : (bytes : Turn → List ℕ) (turns : List Turn) (turn next : Turn) (piece : List ℕ)
    → bytes next ≡ bytes turn ++ piece
    → flat_map bytes (turns ++ turn ∷ []) ++ piece ≡ flat_map bytes (turns ++ next ∷ [])
over_last bytes turns turn next piece e =
    ap (λ (l : List ℕ). l ++ piece) (sym (over_more bytes turns turn))
    ∙ append_assoc (flat_map bytes turns) (bytes turn) piece
    ∙ ap (λ (l : List ℕ). flat_map bytes turns ++ l) (sym e) ∙ over_more bytes turns next

abbrev sent_of : Turn → List ℕ
sent_of turn = turn.sent

abbrev got_of : Turn → List ℕ
got_of turn = turn.got

-- what was searched, by bytes that are the same
searched_so : (showing : Showing) (told : MarkedLines) (sent sent_too got got_too : List ℕ) (turns : List Turn)
    (written : List ℕ) → sent ≡ sent_too → got ≡ got_too → HasSearchedTo showing told sent got turns written
    → HasSearchedTo showing told sent_too got_too turns written
searched_so showing told sent sent_too got got_too turns written es eg h =
    subst (λ (l : List ℕ). HasSearchedTo showing told l got_too turns written) es
    (subst (λ (l : List ℕ). HasSearchedTo showing told sent l turns written) eg h)

-- with other lines, of these turns
with_lines : (showing : Showing) (mid new : MarkedLines) (sent got : List ℕ) (turns now : List Turn)
    (written all : List ℕ) → new.sent ≡ mid.sent → new.got ≡ mid.got → new.marked ≡ mid.marked
    → HasToldTurns (showing_with showing mid.marked) new.lines now all
    → HasSearchedTo showing mid sent got turns written → HasSearchedTo showing new sent got now all
with_lines showing mid new sent got turns now written all es eg em told h = record {
  sent_searched = subst (λ (f : FaultFinder). HasSearched showing.tested f sent) (sym es) h.sent_searched;
  got_searched = subst (λ (f : FaultFinder). HasSearched (other_role showing.tested) f got) (sym eg) h.got_searched;
  sent_mark = subst (λ (m : MarkedFrames). IsMarkOf showing.tested sent m.sent) (sym em) h.sent_mark;
  got_mark = subst (λ (m : MarkedFrames). IsMarkOf (other_role showing.tested) got m.got) (sym em) h.got_mark;
  lines = subst (λ (m : MarkedFrames). HasToldTurns (showing_with showing m) new.lines now all) (sym em) told;
}

pub turn_marked : (showing : Showing) (mid : MarkedLines) (new : TranscriptLines) (turns : List Turn)
    (written sent : List ℕ) (output : Device) → TellsTurn mid.lines new sent output (Ok tt)
    → HasSearchedTo showing mid (sent_over turns ++ sent) (got_over turns) turns written
    → HasToldMore showing (record mid { lines = new }) (turns ++ begun_turn sent ∷ []) written output
turn_marked showing mid new turns written sent output tells h =
    let turn : Turn = begun_turn sent in
    let (more, wrote, (fine, told)) = tells (showing_with showing mid.marked) turns written h.lines in
    let now : MarkedLines = record mid { lines = new } in
    let all = with_lines showing mid now (sent_over turns ++ sent) (got_over turns) turns (turns ++ turn ∷ []) written
    (written ++ more) refl refl refl told h in (
      more,
      wrote,
      fine,
      searched_so showing now (sent_over turns ++ sent) (sent_over (turns ++ turn ∷ [])) (got_over turns)
          (got_over (turns ++ turn ∷ [])) (turns ++ turn ∷ []) (written ++ more) (over_more sent_of turns turn)
          (sym (append-nil (got_over turns)) ∙ over_more got_of turns turn) all,
    )

pub got_is_marked : (showing : Showing) (mid : MarkedLines) (new : TranscriptLines) (turns : List Turn) (turn : Turn)
    (written piece : List ℕ) (output : Device) → TellsGot mid.lines new piece output (Ok tt)
    → HasSearchedTo showing mid (sent_over (turns ++ turn ∷ [])) (got_over (turns ++ turn ∷ []) ++ piece)
    (turns ++ turn ∷ []) written
    → HasToldMore showing (record mid { lines = new }) (turns ++ with_got turn piece ∷ []) written output
got_is_marked showing mid new turns turn written piece output tells h =
    let next : Turn = with_got turn piece in
    let was = turns ++ turn ∷ [] in
    let is = turns ++ next ∷ [] in
    let (more, wrote, (fine, told)) = tells (showing_with showing mid.marked) turns turn written h.lines in
    let now : MarkedLines = record mid { lines = new } in
    let all = with_lines showing mid now (sent_over was) (got_over was ++ piece) was is written (written ++ more) refl
    refl refl told h in (
      more,
      wrote,
      fine,
      searched_so showing now (sent_over was) (sent_over is) (got_over was ++ piece) (got_over is) is (written ++ more)
          (sym (append-nil (sent_over was)) ∙ over_last sent_of turns turn next [] (sym (append-nil turn.sent)))
          (over_last got_of turns turn next piece refl) all,
    )

-- ---- the end

pub ends_marked : (showing : Showing) (told : MarkedLines) (turns : List Turn) (written : List ℕ) (ended : Ended)
    (output : Device) (result : Result (Unit {0}) WriteFault) → TellsEnd told.lines ended output result
    → HasToldMarked showing told turns written
    → EndsWithMarks showing (record { turns = turns; ended = ended }) written output result
ends_marked showing told turns written ended output result tells h = record {
  marked = told.marked;
  are_marked = record { sent = h.sent_mark; got = h.got_mark };
  rest = tells (showing_with showing told.marked) turns written h.lines;
}

-- ---- a piece

-- a direction whose frame is marked already
pub sent_marked_already : (showing : Showing) (old : MarkedLines) (new : FaultFinder) (turns : List Turn)
    (written piece : List ℕ) (place : ℕ) → old.marked.sent ≡ Some place
    → HasSearched showing.tested new (sent_over turns ++ piece) → HasToldMarked showing old turns written
    → HasSearchedTo showing (record old { sent = new }) (sent_over turns ++ piece) (got_over turns) turns written
sent_marked_already showing old new turns written piece place is searched h = record {
  sent_searched = searched;
  got_searched = h.got_searched;
  sent_mark = mark_so showing.tested (sent_over turns ++ piece) (Some place) old.marked.sent (sym is)
      (mark_with_more showing.tested (sent_over turns) piece place
      (mark_so showing.tested (sent_over turns) old.marked.sent (Some place) is h.sent_mark));
  got_mark = h.got_mark;
  lines = h.lines;
}

pub got_marked_already : (showing : Showing) (old : MarkedLines) (new : FaultFinder) (turns : List Turn)
    (written piece : List ℕ) (place : ℕ) → old.marked.got ≡ Some place
    → HasSearched (other_role showing.tested) new (got_over turns ++ piece) → HasToldMarked showing old turns written
    → HasSearchedTo showing (record old { got = new }) (sent_over turns) (got_over turns ++ piece) turns written
got_marked_already showing old new turns written piece place is searched h = record {
  sent_searched = h.sent_searched;
  got_searched = searched;
  sent_mark = h.sent_mark;
  got_mark = mark_so (other_role showing.tested) (got_over turns ++ piece) (Some place) old.marked.got (sym is)
      (mark_with_more (other_role showing.tested) (got_over turns) piece place
      (mark_so (other_role showing.tested) (got_over turns) old.marked.got (Some place) is h.got_mark));
  lines = h.lines;
}

-- one without a mark
pub sent_ahead : (showing : Showing) (old : MarkedLines) (new : FaultFinder) (turns : List Turn)
    (written piece : List ℕ) → old.marked.sent ≡ None → HasSearched showing.tested new (sent_over turns ++ piece)
    → HasToldMarked showing old turns written → HasSentAhead showing (record old { sent = new }) turns written piece
sent_ahead showing old new turns written piece is searched h = record {
  unmarked = is;
  none = mark_so showing.tested (sent_over turns) old.marked.sent None is h.sent_mark;
  sent_searched = searched;
  got_searched = h.got_searched;
  got_mark = h.got_mark;
  lines = h.lines;
}

pub got_ahead : (showing : Showing) (old : MarkedLines) (new : FaultFinder) (turns : List Turn)
    (written piece : List ℕ) → old.marked.got ≡ None
    → HasSearched (other_role showing.tested) new (got_over turns ++ piece) → HasToldMarked showing old turns written
    → HasGotAhead showing (record old { got = new }) turns written piece
got_ahead showing old new turns written piece is searched h = record {
  unmarked = is;
  none = mark_so (other_role showing.tested) (got_over turns) old.marked.got None is h.got_mark;
  sent_searched = h.sent_searched;
  got_searched = searched;
  sent_mark = h.sent_mark;
  lines = h.lines;
}
