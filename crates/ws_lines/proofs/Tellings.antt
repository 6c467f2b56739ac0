-- What each call makes of the turns that were told.
use Rattle.std.proofs.Common.{◌≡◌, Bool, true, IsErrOf, Err, ℕ, zero, suc, ◌+◌, ◌^◌, ◌<◌, List, [], ◌∷◌, ◌++◌, length, Option, refl, sym, ap, ◌∙◌, append_assoc, append-nil, arith, subst}
use Rattle.std.specs.Io.KnownBytes.{Appends}
use Rattle.std.proofs.KnownBytes.{Appends-trans}
use Rattle.ws_lines.specs.declared.transcript_lines.Showing.{Showing}
use Rattle.ws_frame.specs.declared.source.Source.{Source}
use Rattle.ws_frame.specs.declared.showing.StreamEnd.{StreamEnd}
use Rattle.ws_frame.specs.declared.frame_lines.FrameLines.{FrameLines}
use Rattle.ws_frame.specs.Watching.{AppendsFront}
use Rattle.ws_frame.specs.Lines.{AreCertainLines, AreLinesOf, takes_memory}
use Rattle.ws_frame.specs.InnerShowing.{BeginsLines}
use Rattle.ws_frame.specs.FrameStreaming.{HasTakenFrames, MayEndBy, frames_source, keeps_frames}
use Rattle.ws_frame.specs.declared.show_fault.ShowFault.{ShowFault}
use Rattle.ws_frame.specs.declared.show_fault.ShowFault.TheVariants.{NoMemory, Write}
use Rattle.ws_frame.specs.declared.source.DataStyle.{DataStyle}
use Rattle.ws_scripts.specs.declared.transcript.Turn.{Turn}
use Rattle.ws_scripts.specs.declared.transcript.Ended.{Ended}
use Rattle.ws_lines.specs.declared.transcript_lines.TranscriptLines.{TranscriptLines}
use Rattle.ws_lines.specs.TurnLines.{TurnLines, Direction, StandInTheirTurns, AreTurnLines, HasTurnLines, IsCutLine, bytes_in, lines_in, sent_by_tester, got_by_tester, turn_line, turns_text, end_line}
use Rattle.ws_lines.specs.Telling.{IsToldIn, HasRoomForGot, HasToldTurns, BeginsTurns, begun_turn, with_got}
use Rattle.ws_lines.proofs.Directions.{some_last, length-one-more, stand_more, stand_front, certain_of, turn_told, shown_nothing, certain_again, more_told, certain_turn}
use Rattle.ws_lines.proofs.Texts.{text_of_begun, text_of_got}

-- ---- a turn begins

pub turn_is_told : (showing : Showing) (old : TranscriptLines) (new : FrameLines) (turns : List Turn) (written sent more : List ℕ) (h : HasToldTurns showing old turns written) → frames_source new ≡ frames_source old.sent
    → keeps_frames new ≡ keeps_frames old.sent → HasTakenFrames new (bytes_in (sent_by_tester showing) turns ++ sent) (lines_in (sent_by_tester showing) h.lines ++ more)
    → HasToldTurns showing (record { turns = old.turns + 1; sent = new; got = old.got }) (turns ++ begun_turn sent ∷ []) (written ++ (turn_line (old.turns + 1) ++ more))
turn_is_told showing old new turns written sent more h e kept shown =
    let line : TurnLines = record { sent = more; got = [] } in
    let nothing = shown_nothing old.got (bytes_in (got_by_tester showing) turns) (lines_in (got_by_tester showing) h.lines) h.got.shown in
    record {
      lines = h.lines ++ line ∷ [];
      one_each = omega (arith, h.one_each, length-one-more h.lines line, length-one-more turns (begun_turn sent));
      all = ap (λ (t : List ℕ). t ++ (turn_line (old.turns + 1) ++ more)) h.all ∙ sym (text_of_begun h.lines more (old.turns + 1) (omega (arith, h.count, h.one_each)));
      count = omega (arith, h.count, length-one-more turns (begun_turn sent));
      sent = turn_told (sent_by_tester showing) old.sent new turns (begun_turn sent) h.lines line h.one_each h.sent e kept shown;
      got = turn_told (got_by_tester showing) old.got old.got turns (begun_turn sent) h.lines line h.one_each h.got refl refl nothing;
    }

pub begins_turn : (showing : Showing) (old : TranscriptLines) (turns : List Turn) (written sent next front behind : List ℕ) (h : HasToldTurns showing old turns written)
    → AreCertainLines (sent_by_tester showing).source (bytes_in (sent_by_tester showing) turns ++ sent) (lines_in (sent_by_tester showing) h.lines ++ next)
    → written ++ (turn_line (old.turns + 1) ++ next) ≡ front ++ behind → BeginsTurns showing (turns ++ begun_turn sent ∷ []) front
begins_turn showing old turns written sent next front behind h certain e =
    let line : TurnLines = record { sent = next; got = [] } in
    let d = got_by_tester showing in
    let nothing = certain_of d.source old.got (bytes_in d turns ++ []) (lines_in d h.lines ++ []) h.got.source (shown_nothing old.got (bytes_in d turns) (lines_in d h.lines) h.got.shown) in
    record {
      lines = h.lines ++ line ∷ [];
      are_lines = record {
        one_each = omega (arith, h.one_each, length-one-more h.lines line, length-one-more turns (begun_turn sent));
        sent = stand_more (sent_by_tester showing) turns (begun_turn sent) h.lines line h.one_each h.sent.stand (certain_turn (sent_by_tester showing) turns (begun_turn sent) h.lines line certain);
        got = stand_more d turns (begun_turn sent) h.lines line h.one_each h.got.stand (certain_turn d turns (begun_turn sent) h.lines line nothing);
      };
      more = behind;
      begins = text_of_begun h.lines next (old.turns + 1) (omega (arith, h.count, h.one_each)) ∙ ap (λ (t : List ℕ). t ++ (turn_line (old.turns + 1) ++ next)) (sym h.all) ∙ e;
    }

-- what begins the lines of a stream: its own source, and the lines that are left
pub certain_of_begun : (source other : Source) (bytes lines more : List ℕ) → other ≡ source → (b : BeginsLines other bytes (lines ++ more)) → AreCertainLines source bytes (lines ++ (more ++ b.more))
certain_of_begun source other bytes lines more e b =
    subst (λ (r : Source). AreCertainLines r bytes (lines ++ (more ++ b.more))) e
    (subst (λ (t : List ℕ). AreCertainLines other bytes t) (b.begins ∙ append_assoc lines more b.more) b.are)

-- ---- more is got

pub got_is_told : (showing : Showing) (old : TranscriptLines) (new : FrameLines) (turns : List Turn) (turn : Turn) (written piece more : List ℕ) (h : HasToldTurns showing old (turns ++ turn ∷ []) written) → frames_source new ≡ frames_source old.got
    → keeps_frames new ≡ keeps_frames old.got → HasTakenFrames new (bytes_in (got_by_tester showing) (turns ++ turn ∷ []) ++ piece) (lines_in (got_by_tester showing) h.lines ++ more)
    → HasToldTurns showing (record { turns = old.turns; sent = old.sent; got = new }) (turns ++ with_got turn piece ∷ []) (written ++ more)
got_is_told showing old new turns turn written piece more h e kept shown =
    let s = some_last h.lines (length turns) (h.one_each ∙ length-one-more turns turn) in
    let other : TurnLines = record { sent = s.last.sent; got = s.last.got ++ more } in
    let from = sent_by_tester showing in
    let to = got_by_tester showing in
    let sent = subst (λ (l : List TurnLines). IsToldIn from old.sent (turns ++ turn ∷ []) l) s.parts h.sent in
    let got = subst (λ (l : List TurnLines). IsToldIn to old.got (turns ++ turn ∷ []) l) s.parts h.got in
    let next = subst (λ (l : List TurnLines). HasTakenFrames new (bytes_in to (turns ++ turn ∷ []) ++ piece) (lines_in to l ++ more)) s.parts shown in
    record {
      lines = s.front ++ other ∷ [];
      one_each = omega (arith, s.count, length-one-more s.front other, length-one-more turns (with_got turn piece));
      all = ap (λ (t : List ℕ). t ++ more) (h.all ∙ ap (λ (l : List TurnLines). turns_text 1 l) s.parts) ∙ sym (text_of_got s.front s.last.sent s.last.got more);
      count = omega (arith, h.count, length-one-more turns turn, length-one-more turns (with_got turn piece));
      sent = more_told from old.sent old.sent turns turn (with_got turn piece) s.front s.last other [] [] s.count sent refl refl (sym (append-nil turn.sent)) (sym (append-nil s.last.sent))
          (shown_nothing old.sent (bytes_in from (turns ++ turn ∷ [])) (lines_in from (s.front ++ s.last ∷ [])) sent.shown);
      got = more_told to old.got new turns turn (with_got turn piece) s.front s.last other piece more s.count got e kept refl refl next;
    }

pub begins_got : (showing : Showing) (old : TranscriptLines) (turns : List Turn) (turn : Turn) (written piece next front behind : List ℕ) (h : HasToldTurns showing old (turns ++ turn ∷ []) written)
    → AreCertainLines (got_by_tester showing).source (bytes_in (got_by_tester showing) (turns ++ turn ∷ []) ++ piece) (lines_in (got_by_tester showing) h.lines ++ next)
    → written ++ next ≡ front ++ behind → BeginsTurns showing (turns ++ with_got turn piece ∷ []) front
begins_got showing old turns turn written piece next front behind h certain e =
    let s = some_last h.lines (length turns) (h.one_each ∙ length-one-more turns turn) in
    let other : TurnLines = record { sent = s.last.sent; got = s.last.got ++ next } in
    let from = sent_by_tester showing in
    let to = got_by_tester showing in
    let then = with_got turn piece in
    let sent = subst (λ (l : List TurnLines). IsToldIn from old.sent (turns ++ turn ∷ []) l) s.parts h.sent in
    let got = subst (λ (l : List TurnLines). IsToldIn to old.got (turns ++ turn ∷ []) l) s.parts h.got in
    let certain_got = subst (λ (l : List TurnLines). AreCertainLines to.source (bytes_in to (turns ++ turn ∷ []) ++ piece) (lines_in to l ++ next)) s.parts certain in
    let nothing = more_told from old.sent old.sent turns turn then s.front s.last other [] [] s.count sent refl refl (sym (append-nil turn.sent)) (sym (append-nil s.last.sent))
    (shown_nothing old.sent (bytes_in from (turns ++ turn ∷ [])) (lines_in from (s.front ++ s.last ∷ [])) sent.shown) in
    record {
      lines = s.front ++ other ∷ [];
      are_lines = record {
        one_each = omega (arith, s.count, length-one-more s.front other, length-one-more turns then);
        sent = nothing.stand;
        got = stand_more to turns then s.front other s.count (stand_front to turns (turn ∷ []) s.front (s.last ∷ []) s.count got.stand) (certain_again to turns turn then s.front s.last other piece next refl refl certain_got);
      };
      more = behind;
      begins = text_of_got s.front s.last.sent s.last.got next ∙ ap (λ (t : List ℕ). t ++ next) (sym (h.all ∙ ap (λ (l : List TurnLines). turns_text 1 l) s.parts)) ∙ e;
    }

-- where no turn has begun, none was told, and as many bytes can be got as there is room for
pub first_room : (count : ℕ) (old : TranscriptLines) → old.turns ≡ 0 → HasRoomForGot count old
    → (showing : Showing) × (written : List ℕ) × HasToldTurns showing old [] written × (count < 2 ^ 64)
first_room count old none (showing, [], written, h, room) =
    let fits : 0 + count < 2 ^ 64 = room in (showing, written, h, omega (arith, fits))
first_room count old none (showing, turn ∷ turns, written, h, room) = absurd (omega (arith, none, h.count))

-- ---- the end

pub are_turn_lines : (showing : Showing) (old : TranscriptLines) (turns : List Turn) (written : List ℕ) (h : HasToldTurns showing old turns written) → AreTurnLines showing turns h.lines
are_turn_lines showing old turns written h = record { one_each = h.one_each; sent = h.sent.stand; got = h.got.stand }

pub all_is_told : (showing : Showing) (old : TranscriptLines) (turns : List Turn) (ended : Ended) (written sent_cut got_cut : List ℕ) (h : HasToldTurns showing old turns written) → IsCutLine (sent_by_tester showing) turns h.lines sent_cut
    → IsCutLine (got_by_tester showing) turns h.lines got_cut → HasTurnLines showing (record { turns = turns; ended = ended }) (written ++ (sent_cut ++ (got_cut ++ end_line ended)))
all_is_told showing old turns ended written sent_cut got_cut h sent got = record {
  lines = h.lines;
  are_lines = are_turn_lines showing old turns written h;
  sent_cut = sent_cut;
  is_sent_cut = sent;
  got_cut = got_cut;
  is_got_cut = got;
  all = ap (λ (t : List ℕ). t ++ (sent_cut ++ (got_cut ++ end_line ended))) h.all;
}

pub cut_of : (d : Direction) (source : Source) (turns : List Turn) (lines : List TurnLines) (end : StreamEnd) (last : List ℕ) → source ≡ d.source → AreLinesOf source (bytes_in d turns) end (lines_in d lines ++ last) → IsCutLine d turns lines last
cut_of d source turns lines end last e are = (end, subst (λ (r : Source). AreLinesOf r (bytes_in d turns) end (lines_in d lines ++ last)) e are)

-- ---- writing

pub begun_more : (old new : Option (List ℕ)) (a b : List ℕ) → AppendsFront old new a → AppendsFront old new (a ++ b)
begun_more old new a b (front, more, e, appends) = (front, more ++ b, ap (λ (t : List ℕ). t ++ b) e ∙ append_assoc front more b, appends)

pub begun_behind : (old mid new : Option (List ℕ)) (a b : List ℕ) → Appends old mid a → AppendsFront mid new b → AppendsFront old new (a ++ b)
begun_behind old mid new a b wrote (front, more, e, appends) =
    (a ++ front, more, ap (λ (t : List ℕ). a ++ t) e ∙ sym (append_assoc a front more), Appends-trans _ _ _ _ _ wrote appends)

-- ---- the beginning

no_turn : (d : Direction) (stream : FrameLines) → frames_source stream ≡ d.source → HasTakenFrames stream [] [] → StandInTheirTurns d [] []
no_turn d stream e shown zero le = certain_of d.source stream [] [] e shown
no_turn d stream e shown (suc n) le = absurd (omega (arith, le))

pub nothing_told : (showing : Showing) (sent got : FrameLines) → frames_source sent ≡ (sent_by_tester showing).source
    → keeps_frames sent ≡ takes_memory showing.style → HasTakenFrames sent [] []
    → frames_source got ≡ (got_by_tester showing).source → keeps_frames got ≡ takes_memory showing.style
    → HasTakenFrames got [] []
    → HasToldTurns showing (record { turns = 0; sent = sent; got = got }) [] []
nothing_told showing sent got es ks shown_sent eg kg shown_got = record {
  lines = [];
  one_each = refl;
  all = refl;
  count = refl;
  sent = record { source = es; kept = ks; stand = no_turn (sent_by_tester showing) sent es shown_sent; shown = shown_sent };
  got = record { source = eg; kept = kg; stand = no_turn (got_by_tester showing) got eg shown_got; shown = shown_got };
}

-- ---- what a call may end by

pub may_end : (style : DataStyle) (fault : ShowFault) (keeps : Bool) → keeps ≡ takes_memory style
    → (IsErrOf {T = Unit {0}} (Err fault) NoMemory → keeps ≡ true) → MayEndBy style fault
may_end style Write keeps same memory = tt
may_end style NoMemory keeps same memory = sym same ∙ memory refl

pub may_end_so : (style : DataStyle) (fault told : ShowFault) → told ≡ fault → MayEndBy style fault → MayEndBy style told
may_end_so style fault told e may = subst (λ (f : ShowFault). MayEndBy style f) (sym e) may

pub write_may_end : (style : DataStyle) (told : ShowFault) → told ≡ Write → MayEndBy style told
write_may_end style told e = may_end_so style Write told e tt

pub takes_where_it_lacks : (style : DataStyle) (told : ShowFault) → MayEndBy style told
    → IsErrOf {T = Unit {0}} (Err told) NoMemory → takes_memory style ≡ true
takes_where_it_lacks style Write may e = absurd cc
takes_where_it_lacks style NoMemory may e = may
