-- What the lines of a tap have told, behind each event.
use Rattle.std.proofs.Common.{◌≡◌, ℕ, ◌+◌, ◌^◌, ◌<◌, ◌≤◌, true, false, List, [], ◌∷◌, ◌++◌, length, take}
use Rattle.std.proofs.Common.{drop}
use Rattle.std.proofs.Common.{refl, sym, ap, ◌∙◌, append-nil, append_assoc, inl, inr, arith, subst, Ok, Err, Result}
use Rattle.std.proofs.Common.{Option}
use Rattle.std.proofs.lemmas.List.{length-append, length-drop, length-take-le, take-append-drop}
use Rattle.std.proofs.Math.Seq.{take-length}
use Rattle.std.proofs.KnownBytes.{Appends-trans}
use Rattle.std.specs.Io.KnownBytes.{Appends}
use Rattle.ws_wire.specs.declared.role.Role.{Role}
use Rattle.ws_wire.specs.declared.role.Role.TheVariants.{Client, Server}
use Rattle.ws_frame.specs.declared.writing_whole.WriteFault.{WriteFault}
use Rattle.ws_frame.specs.declared.frame_lines.FrameLines.{FrameLines}
use Rattle.ws_frame.specs.declared.show_fault.ShowFault.{ShowFault}
use Rattle.ws_frame.specs.Devices.{Device, HasBegun, HasWritten}
use Rattle.ws_tap.specs.declared.tapped.Tapped.{Tapped}
use Rattle.ws_tap.specs.declared.release.Release.{Release}
use Rattle.ws_tap.specs.declared.release.Release.TheVariants.{Awaited, Told, Never}
use Rattle.ws_tap.specs.declared.telling.SideStage.{SideStage}
use Rattle.ws_tap.specs.declared.telling.SideStage.TheVariants as side
use Rattle.ws_tap.specs.declared.tap_lines.TapLines.{TapLines}
use Rattle.ws_tap.specs.Told.{TapTold, CameFrom, EndedBy, TakenBy, EndedTo, Passage, other_end, passage}
use Rattle.ws_tap.specs.Told.{passage_after}
use Rattle.ws_tap.specs.Heads.{HasNoHead}
use Rattle.ws_tap.specs.Texts.{source_at, Sent, BothSent, both_sent, sent_of, Answered, NotYet, After, IsAnsweredIn}
use Rattle.ws_tap.specs.Texts.{BeginsDue, Part, OfEnd, TellsOfBoth, all_text, text_of}
use Rattle.ws_frame.specs.FrameStreaming.{frames_source}
use Rattle.ws_tap.specs.Telling.{CanEndSide, CanTell, EndsBy, EndsSide, kept_after}
use Rattle.ws_tap.specs.Standing.{AnswersNext, CanTellMore, HasToldLines, Knows, LinesStand, SideStands}
use Rattle.ws_tap.specs.Standing.{StandsBehindHead, TellsEnded}
use Rattle.ws_tap.specs.Standing.{stage_at, with_bytes, with_its_end, with_sides_sent, with_stage}
use Rattle.ws_tap.proofs.Passages.{came_of, passage_with}
use Rattle.ws_tap.proofs.EndLemmas.{behind_end, ends_in_head, ends_told, ends_waiting, frames_never, server_keeps}
use Rattle.ws_tap.proofs.EndLemmas.{can_end_side, can_tell_side}
use Rattle.ws_tap.proofs.TapLemmas.{IsSentInPart, IsSentOn, TextsStand, all_text_more, due_behind, lines_with, other_of}
use Rattle.ws_tap.proofs.TapLemmas.{own_of, texts_of}

-- ---- what both have sent

abbrev sent_at : Passage → Sent
sent_at p = record { bytes = p.came; ended = p.ended }

abbrev both_at : Passage → Passage → BothSent
both_at client server = record { client = sent_at client; server = sent_at server }

both_with : (told : List TapTold) (event : TapTold) → both_sent (told ++ event ∷ []) ≡ both_at
    (passage_after Client (passage Client told) event) (passage_after Server (passage Server told) event)
both_with told event =
    ap (λ (p : Passage). both_at p (passage Server (told ++ event ∷ []))) (passage_with Client told event)
    ∙ ap (λ (p : Passage). both_at (passage_after Client (passage Client told) event) p)
    (passage_with Server told event)

pub both_came : (role : Role) (told : List TapTold) (piece : List ℕ) → both_sent (told ++ CameFrom role piece ∷ [])
    ≡ with_sides_sent role (both_sent told) (with_bytes (sent_of role (both_sent told)) piece)
both_came Client told piece = both_with told (CameFrom Client piece)
both_came Server told piece = both_with told (CameFrom Server piece)

pub both_ended : (role : Role) (told : List TapTold) → both_sent (told ++ EndedBy role ∷ [])
    ≡ with_sides_sent role (both_sent told) (with_its_end (sent_of role (both_sent told)))
both_ended Client told = both_with told (EndedBy Client)
both_ended Server told = both_with told (EndedBy Server)

pub both_taken : (role : Role) (told : List TapTold) (bytes : List ℕ)
    → both_sent (told ++ TakenBy role bytes ∷ []) ≡ both_sent told
both_taken Client told bytes = both_with told (TakenBy Client bytes)
both_taken Server told bytes = both_with told (TakenBy Server bytes)

pub both_passed : (role : Role) (told : List TapTold) → both_sent (told ++ EndedTo role ∷ []) ≡ both_sent told
both_passed Client told = both_with told (EndedTo Client)
both_passed Server told = both_with told (EndedTo Server)

-- an end that hasn't ended its direction
pub is_going : (role : Role) (told : List TapTold) → (passage role told).ended ≡ false
    → (sent_of role (both_sent told)).ended ≡ false
is_going Client told going = going
is_going Server told going = going

-- ---- what the server has answered

answered_behind : (told : List TapTold) (event : TapTold) (answered : Answered)
    → (answered ≡ NotYet → HasNoHead Server (passage Server (told ++ event ∷ [])).came)
    → IsAnsweredIn told answered → IsAnsweredIn (told ++ event ∷ []) answered
answered_behind told event NotYet none h = none refl
answered_behind told event (After early switches) none w = record {
  before = w.before;
  piece = w.piece;
  after = w.after ++ event ∷ [];
  head = w.head;
  rest = w.rest;
  all = ap (λ (t : List TapTold). t ++ event ∷ []) w.all
      ∙ append_assoc w.before (CameFrom Server w.piece ∷ w.after) (event ∷ []);
  none_before = w.none_before;
  has = w.has;
  whole = w.whole;
  begins = w.begins;
  still_open = w.still_open;
  client = w.client;
  answers = w.answers;
}

answered_next : (role : Role) (told : List TapTold) (answered next : Answered) (bytes later : List ℕ)
    → IsAnsweredIn told answered → AnswersNext role answered next (both_sent told) bytes
    → (next ≡ NotYet → HasNoHead Server (passage Server (told ++ CameFrom role (bytes ++ later) ∷ [])).came)
    → IsAnsweredIn (told ++ CameFrom role (bytes ++ later) ∷ []) next
answered_next role told answered next bytes later h (inl is) none =
    subst (λ (a : Answered). IsAnsweredIn (told ++ CameFrom role (bytes ++ later) ∷ []) a) (sym is)
    (answered_behind told (CameFrom role (bytes ++ later)) answered (λ e. none (is ∙ e)) h)
answered_next role told answered next bytes later h (inr n) none =
    subst (λ (a : Answered). IsAnsweredIn (told ++ CameFrom role (bytes ++ later) ∷ []) a) (sym n.now) (record {
      before = told;
      piece = bytes ++ later;
      after = [];
      head = n.head;
      rest = later;
      all = ap (λ (r : Role). told ++ CameFrom r (bytes ++ later) ∷ []) n.is_server;
      none_before = subst (λ (a : Answered). IsAnsweredIn told a) n.before h;
      has = n.has;
      whole = n.whole;
      begins = sym (append_assoc (passage Server told).came bytes later);
      still_open = n.still_open;
      client = refl;
      answers = n.answers;
    })

knows_none : (answered : Answered) (bytes : List ℕ) → Knows answered bytes → answered ≡ NotYet → HasNoHead Server bytes
knows_none NotYet bytes k e = k
knows_none (After early switches) bytes k e = absurd cc

-- ---- a piece came

-- all lines stand behind it
pub told_on : (role : Role) (tapped : Tapped) (told : List TapTold) (answered next : Answered) (new : TapLines)
    (parts : List Part) (bytes later piece : List ℕ) → IsAnsweredIn told answered
    → AnswersNext role answered next (both_sent told) bytes → bytes ++ later ≡ piece
    → LinesStand tapped next new
    (with_sides_sent role (both_sent told) (with_bytes (sent_of role (both_sent told)) piece)) parts
    → HasToldLines tapped (told ++ CameFrom role piece ∷ []) new parts
told_on role tapped told answered next new parts bytes later piece h answers cut stands =
    let now = subst (λ (b : BothSent). LinesStand tapped next new b parts) (sym (both_came role told piece)) stands in
    record {
      answered = next;
      has_answered = subst (λ (p : List ℕ). IsAnsweredIn (told ++ CameFrom role p ∷ []) next) cut
          (answered_next role told answered next bytes later h answers
          (subst (λ (p : List ℕ). next ≡ NotYet → HasNoHead Server (passage Server (told ++ CameFrom role p ∷ [])).came)
          (sym cut) (knows_none next (both_sent (told ++ CameFrom role piece ∷ [])).server.bytes now.knows)));
      stands = now;
    }

-- what is due behind a front of it has been begun
pub due_on : (role : Role) (tapped : Tapped) (told : List TapTold) (answered next : Answered) (due : List Part)
    (bytes more front later piece text rest : List ℕ) → IsAnsweredIn told answered
    → AnswersNext role answered next (both_sent told) bytes → bytes ++ more ≡ front → piece ≡ front ++ later
    → TextsStand tapped next
    (with_sides_sent role (both_sent told) (with_bytes (sent_of role (both_sent told)) front)) due
    → all_text due ≡ text ++ rest → BeginsDue tapped (told ++ CameFrom role piece ∷ []) text
due_on role tapped told answered next due bytes more front later piece text rest h answers cut parts stands begins =
    let now = subst (λ (b : BothSent). TextsStand tapped next b due) (sym (both_came role told front)) stands in
    record {
      front = told ++ CameFrom role front ∷ [];
      due = all_text due;
      more = rest;
      is_front = inr (record {
        before = told;
        from = role;
        first = front;
        later = later;
        is_front = refl;
        all = ap (λ (t : List ℕ). told ++ CameFrom role t ∷ []) parts;
      });
      tells = record {
        answered = next;
        parts = due;
        has_answered = subst (λ (p : List ℕ). IsAnsweredIn (told ++ CameFrom role p ∷ []) next) cut
            (answered_next role told answered next bytes more h answers
            (subst (λ (p : List ℕ). next ≡ NotYet → HasNoHead Server
            (passage Server (told ++ CameFrom role p ∷ [])).came) (sym cut)
            (knows_none next (both_sent (told ++ CameFrom role front ∷ [])).server.bytes now.knows)));
        of_client = now.of_client;
        of_server = now.of_server;
        in_order = now.in_order;
        all = refl;
      };
      begins = begins;
    }

-- it was used whole
pub came_whole : (role : Role) (tapped : Tapped) (told : List TapTold) (old new : TapLines) (parts : List Part)
    (piece : List ℕ) (output : Device) (used : ℕ) (h : HasToldLines tapped told old parts)
    (f : IsSentOn role tapped h.answered old new (both_sent told) parts piece output used) → used ≡ length piece
    → HasToldLines tapped (told ++ CameFrom role piece ∷ []) new (parts ++ f.more)
came_whole role tapped told old new parts piece output used h f whole =
    let all : take used piece ≡ piece = ap (λ n. take n piece) whole ∙ take-length piece in
    told_on role tapped told h.answered f.next new (parts ++ f.more) (take used piece) [] piece h.has_answered f.answers
    (append-nil (take used piece) ∙ all)
    (subst (λ (b : List ℕ). LinesStand tapped f.next new
    (with_sides_sent role (both_sent told) (with_bytes (sent_of role (both_sent told)) b))
    (parts ++ f.more)) all f.stands)

-- or up to a head
pub came_first : (role : Role) (tapped : Tapped) (told : List TapTold) (old new : TapLines) (parts : List Part)
    (piece : List ℕ) (output : Device) (used : ℕ) (h : HasToldLines tapped told old parts)
    (f : IsSentOn role tapped h.answered old new (both_sent told) parts piece output used)
    → HasToldLines tapped (told ++ CameFrom role (take used piece) ∷ []) new (parts ++ f.more)
came_first role tapped told old new parts piece output used h f =
    told_on role tapped told h.answered f.next new (parts ++ f.more) (take used piece) [] (take used piece)
    h.has_answered f.answers (append-nil (take used piece)) f.stands

-- then a second call tells the rest
both_twice : (role : Role) (both : BothSent) (first second all : List ℕ) → first ++ second ≡ all
    → with_sides_sent role (with_sides_sent role both (with_bytes (sent_of role both) first))
    (with_bytes (sent_of role (with_sides_sent role both (with_bytes (sent_of role both) first))) second)
    ≡ with_sides_sent role both (with_bytes (sent_of role both) all)
both_twice Client both first second all e =
    ap (λ (t : List ℕ). with_sides_sent Client both (record { bytes = t; ended = both.client.ended }))
    (append_assoc both.client.bytes first second ∙ ap (λ (t : List ℕ). both.client.bytes ++ t) e)
both_twice Server both first second all e =
    ap (λ (t : List ℕ). with_sides_sent Server both (record { bytes = t; ended = both.server.ended }))
    (append_assoc both.server.bytes first second ∙ ap (λ (t : List ℕ). both.server.bytes ++ t) e)

pub going_on : (role : Role) (both : BothSent) (bytes : List ℕ) → (sent_of role both).ended ≡ false
    → (sent_of role (with_sides_sent role both (with_bytes (sent_of role both) bytes))).ended ≡ false
going_on Client both bytes going = going
going_on Server both bytes going = going

pub came_twice : (role : Role) (tapped : Tapped) (told : List TapTold) (old mid new : TapLines) (parts : List Part)
    (piece rest : List ℕ) (first second : Device) (used later : ℕ) (h : HasToldLines tapped told old parts)
    (f : IsSentOn role tapped h.answered old mid (both_sent told) parts piece first used)
    (g : IsSentOn role tapped f.next mid new
    (with_sides_sent role (both_sent told) (with_bytes (sent_of role (both_sent told)) (take used piece)))
    (parts ++ f.more) rest second later) → rest ≡ drop used piece → used < length piece
    → HasToldLines tapped (told ++ CameFrom role piece ∷ []) new (parts ++ (f.more ++ g.more))
came_twice role tapped told old mid new parts piece rest first second used later h f g is short =
    let behind = f.behind short in
    let whole : take later rest ≡ rest = ap (λ n. take n rest) (g.whole behind) ∙ take-length rest in
    let cut : take used piece ++ rest ≡ piece = ap (λ (t : List ℕ). take used piece ++ t) is
    ∙ take-append-drop used piece in
    let now = both_twice role (both_sent told) (take used piece) (take later rest) piece
    (ap (λ (t : List ℕ). take used piece ++ t) whole ∙ cut) in
    told_on role tapped told h.answered f.next new (parts ++ (f.more ++ g.more)) (take used piece) rest piece
    h.has_answered f.answers cut
    (subst (λ (p : List Part). LinesStand tapped f.next new
    (with_sides_sent role (both_sent told) (with_bytes (sent_of role (both_sent told)) piece)) p)
    (append_assoc parts f.more g.more)
    (subst (λ (b : BothSent). LinesStand tapped f.next new b ((parts ++ f.more) ++ g.more)) now
    (subst (λ (a : Answered). LinesStand tapped a new
    (with_sides_sent role (with_sides_sent role (both_sent told) (with_bytes (sent_of role (both_sent told))
    (take used piece)))
    (with_bytes (sent_of role (with_sides_sent role (both_sent told)
    (with_bytes (sent_of role (both_sent told)) (take used piece)))) (take later rest)))
    ((parts ++ f.more) ++ g.more)) (g.same behind) g.stands)))

-- the first call has failed
pub came_in_part : (role : Role) (tapped : Tapped) (told : List TapTold) (old : TapLines) (parts : List Part)
    (piece : List ℕ) (output : Device) (fault : ShowFault) (h : HasToldLines tapped told old parts)
    (f : IsSentInPart role tapped h.answered old (both_sent told) parts piece output fault)
    → BeginsDue tapped (told ++ CameFrom role piece ∷ []) (all_text (parts ++ f.more))
came_in_part role tapped told old parts piece output fault h f =
    due_on role tapped told h.answered f.next f.due f.front [] f.front f.later piece (all_text (parts ++ f.more)) f.rest
    h.has_answered f.answers (append-nil f.front) f.cut f.texts f.begins

-- or the second
pub came_in_part_twice : (role : Role) (tapped : Tapped) (told : List TapTold) (old mid : TapLines) (parts : List Part)
    (piece rest : List ℕ) (first second : Device) (used : ℕ) (fault : ShowFault)
    (h : HasToldLines tapped told old parts)
    (f : IsSentOn role tapped h.answered old mid (both_sent told) parts piece first used)
    (g : IsSentInPart role tapped f.next mid
    (with_sides_sent role (both_sent told) (with_bytes (sent_of role (both_sent told)) (take used piece)))
    (parts ++ f.more) rest second fault) → rest ≡ drop used piece → used < length piece
    → BeginsDue tapped (told ++ CameFrom role piece ∷ []) (all_text (parts ++ (f.more ++ g.more)))
came_in_part_twice role tapped told old mid parts piece rest first second used fault h f g is short =
    let behind = f.behind short in
    let front = take used piece ++ g.front in
    let cut : piece ≡ front ++ g.later = sym (take-append-drop used piece)
    ∙ ap (λ (t : List ℕ). take used piece ++ t) (sym is ∙ g.cut)
    ∙ sym (append_assoc (take used piece) g.front g.later) in
    let now = both_twice role (both_sent told) (take used piece) g.front front refl in
    due_on role tapped told h.answered f.next g.due (take used piece) g.front front g.later piece
    (all_text (parts ++ (f.more ++ g.more))) g.rest h.has_answered f.answers refl cut
    (subst (λ (b : BothSent). TextsStand tapped f.next b g.due) now
    (subst (λ (a : Answered). TextsStand tapped a
    (with_sides_sent role (with_sides_sent role (both_sent told) (with_bytes (sent_of role (both_sent told))
    (take used piece)))
    (with_bytes (sent_of role (with_sides_sent role (both_sent told)
    (with_bytes (sent_of role (both_sent told)) (take used piece)))) g.front)) g.due) (g.same behind) g.texts))
    (g.begins ∙ ap (λ (p : List Part). all_text p ++ g.rest) (append_assoc parts f.more g.more))

-- there is room for the rest
pub rest_fits : (role : Role) (told : List TapTold) (piece rest : List ℕ) (used : ℕ) → rest ≡ drop used piece
    → used ≤ length piece → length (passage role told).came + length piece < 2 ^ 64
    → length (passage role (told ++ CameFrom role (take used piece) ∷ [])).came + length rest < 2 ^ 64
rest_fits role told piece rest used is few small =
    omega (
      arith,
      small,
      few,
      ap (λ (t : List ℕ). length t) (came_of role told (take used piece)),
      length-append (passage role told).came (take used piece),
      length-take-le used piece few,
      ap (λ (t : List ℕ). length t) is,
      length-drop used piece,
    )

-- what two calls have written
pub written_twice : (a b d : Option (List ℕ)) (first second : List Part) → Appends a b (all_text first)
    → Appends b d (all_text second) → Appends a d (all_text (first ++ second))
written_twice a b d first second p q = subst (λ (t : List ℕ). Appends a d t) (sym (all_text_more first second))
    (Appends-trans a b d (all_text first) (all_text second) p q)

-- ---- an end of a direction

knows_end : (role : Role) (answered : Answered) (both : BothSent) → Knows answered both.server.bytes
    → Knows answered (with_sides_sent role both (with_its_end (sent_of role both))).server.bytes
knows_end Client answered both k = k
knows_end Server answered both k = k

-- all lines stand behind it
ended_on : (role : Role) (tapped : Tapped) (told : List TapTold) (answered : Answered) (new : TapLines)
    (parts : List Part) → IsAnsweredIn told answered
    → LinesStand tapped answered new (with_sides_sent role (both_sent told) (with_its_end (sent_of role
    (both_sent told)))) parts
    → HasToldLines tapped (told ++ EndedBy role ∷ []) new parts
ended_on role tapped told answered new parts h stands =
    let now = subst (λ (b : BothSent). LinesStand tapped answered new b parts) (sym (both_ended role told)) stands in
    record {
      answered = answered;
      has_answered = answered_behind told (EndedBy role) answered
          (knows_none answered (both_sent (told ++ EndedBy role ∷ [])).server.bytes now.knows) h;
      stands = now;
    }

-- the lines of the end that has ended
end_stands : (role : Role) (tapped : Tapped) (answered : Answered) (old : TapLines) (stage : SideStage)
    (release : Release) (both : BothSent) (parts : List Part) (more : List ℕ)
    → LinesStand tapped answered old both parts
    → SideStands role tapped answered stage release (with_its_end (sent_of role both)) (text_of role parts ++ more)
    → SideStands (other_end role) tapped answered (stage_at (other_end role) old) release
    (sent_of (other_end role) both) (text_of (other_end role) parts)
    → LinesStand tapped answered (with_stage role old stage release)
    (with_sides_sent role both (with_its_end (sent_of role both))) (parts ++ OfEnd role more ∷ [])
end_stands role tapped answered old stage release both parts more s own other =
    lines_with role tapped answered old stage release both (with_its_end (sent_of role both)) parts more s.tapped_is
    (knows_end role answered both s.knows) s.in_order own other

-- what is told of it
abbrev IsEndTold : Role → Tapped → Answered → TapLines → SideStage → Release → BothSent → List Part → Device → Type 0
IsEndTold role tapped answered old stage release both parts output = (more : List ℕ) × HasWritten more output
    × (output.failed ≡ false) × LinesStand tapped answered (with_stage role old stage release)
    (with_sides_sent role both (with_its_end (sent_of role both))) (parts ++ OfEnd role more ∷ [])

frames_end : (role : Role) (tapped : Tapped) (answered : Answered) (old : TapLines) (lines after : FrameLines)
    (release new : Release) (both : BothSent) (parts : List Part) (output : Device)
    → LinesStand tapped answered old both parts → (sent_of role both).ended ≡ false
    → frames_source after ≡ frames_source lines
    → StandsBehindHead role tapped answered lines release (sent_of role both) (text_of role parts)
    → SideStands (other_end role) tapped answered (stage_at (other_end role) old) release
    (sent_of (other_end role) both) (text_of (other_end role) parts)
    → EndsBy lines release new output (Ok tt)
    → IsEndTold role tapped answered old (side.Frames after) new both parts output
frames_end Client tapped answered old lines after (Awaited kept) new both parts output s going alike own other
    (works, wrote, (line, ends, is)) = (
      [],
      wrote,
      works,
      subst (λ (r : Release). LinesStand tapped answered (with_stage Client old (side.Frames after) r)
          (with_sides_sent Client both (with_its_end both.client)) (parts ++ OfEnd Client [] ∷ [])) (sym is)
          (end_stands Client tapped answered old (side.Frames after) (Awaited (kept_after kept line)) both parts [] s
          (behind_end Client tapped answered lines after (Awaited kept) (Awaited (kept_after kept line)) both.client
          (text_of Client parts) [] own.shown own alike (append-nil own.shown)
          (ends_waiting Client lines after kept answered (source_at Client tapped) own.head.len both.client own.shown
          line own.source alike going ends own.stands))
          (server_keeps tapped answered old.server kept (kept_after kept line) both.server (text_of Server parts)
          other)),
    )
frames_end Server tapped NotYet old lines after (Awaited kept) new both parts output s going alike own other t =
    absurd own.stands.1.2
frames_end Server tapped (After early switches) old lines after (Awaited kept) new both parts output s going alike own
    other t = absurd own.stands
frames_end role tapped answered old lines after Told new both parts output s going alike own other (is, ends) =
    let (last, (wrote, works), stands) = ends_told role lines after answered (source_at role tapped) own.head.len
    (sent_of role both) own.shown (λ (last : List ℕ). HasWritten last output × (output.failed ≡ false)) alike going
    (λ bytes told t. let l = ends bytes told t in (l.last, l.writes, (l.end, l.all))) own.stands in (
      last,
      wrote,
      works,
      subst (λ (r : Release). LinesStand tapped answered (with_stage role old (side.Frames after) r)
          (with_sides_sent role both (with_its_end (sent_of role both))) (parts ++ OfEnd role last ∷ [])) (sym is)
          (end_stands role tapped answered old (side.Frames after) Told both parts last s
          (behind_end role tapped answered lines after Told Told (sent_of role both) (text_of role parts) last
          (own.shown ++ last) own alike refl stands) other),
    )
frames_end role tapped answered old lines after Never new both parts output s going alike own other
    (works, wrote, is) = (
      [],
      wrote,
      works,
      subst (λ (r : Release). LinesStand tapped answered (with_stage role old (side.Frames after) r)
          (with_sides_sent role both (with_its_end (sent_of role both))) (parts ++ OfEnd role [] ∷ [])) (sym is)
          (end_stands role tapped answered old (side.Frames after) Never both parts [] s
          (behind_end role tapped answered lines after Never Never (sent_of role both) (text_of role parts) [] own.shown
          own alike (append-nil own.shown)
          (frames_never role lines after answered (source_at role tapped) own.head.len (sent_of role both)
          (with_its_end (sent_of role both)) own.shown own.stands)) other),
    )

-- a beginning of its line was written
abbrev IsEndBegun : Role → Tapped → Answered → BothSent → List Part → Device → Type 0
IsEndBegun role tapped answered both parts output = (begun : List ℕ) × (rest : List ℕ) × HasWritten begun output
    × (output.failed ≡ true) × TextsStand tapped answered (with_sides_sent role both (with_its_end (sent_of role both)))
    (parts ++ OfEnd role (begun ++ rest) ∷ [])

frames_end_begun : (role : Role) (tapped : Tapped) (answered : Answered) (old : TapLines) (lines after : FrameLines)
    (release new : Release) (both : BothSent) (parts : List Part) (output : Device) (fault : WriteFault)
    → LinesStand tapped answered old both parts → (sent_of role both).ended ≡ false
    → frames_source after ≡ frames_source lines
    → StandsBehindHead role tapped answered lines release (sent_of role both) (text_of role parts)
    → SideStands (other_end role) tapped answered (stage_at (other_end role) old) release
    (sent_of (other_end role) both) (text_of (other_end role) parts)
    → EndsBy lines release new output (Err fault) → IsEndBegun role tapped answered both parts output
frames_end_begun role tapped answered old lines after (Awaited kept) new both parts output fault s going alike own
    other t =
    absurd t
frames_end_begun role tapped answered old lines after Never new both parts output fault s going alike own other t =
    absurd t
frames_end_begun role tapped answered old lines after Told new both parts output fault s going alike own other
    (is, ends) =
    let (last, ((begun, rest, all, wrote), failed), stands) = ends_told role lines after answered
    (source_at role tapped) own.head.len (sent_of role both) own.shown
    (λ (last : List ℕ). HasBegun last output × (output.failed ≡ true)) alike going
    (λ bytes told t. let l = ends bytes told t in (l.last, l.writes, (l.end, l.all))) own.stands in (
      begun,
      rest,
      wrote,
      failed,
      subst (λ (t : List ℕ). TextsStand tapped answered (with_sides_sent role both (with_its_end (sent_of role both)))
          (parts ++ OfEnd role t ∷ [])) all
          (texts_of tapped answered (with_stage role old (side.Frames after) Told)
          (with_sides_sent role both (with_its_end (sent_of role both))) (parts ++ OfEnd role last ∷ [])
          (end_stands role tapped answered old (side.Frames after) Told both parts last s
          (behind_end role tapped answered lines after Told Told (sent_of role both) (text_of role parts) last
          (own.shown ++ last) own alike refl stands) other)),
    )

some_end : (role : Role) (tapped : Tapped) (answered : Answered) (old : TapLines) (was stage : SideStage)
    (release : Release) (both : BothSent) (parts : List Part) (output : Device)
    → LinesStand tapped answered old both parts → (sent_of role both).ended ≡ false
    → SideStands role tapped answered was old.release (sent_of role both) (text_of role parts)
    → EndsSide was stage (record { old = old.release; new = release }) output (Ok tt)
    → IsEndTold role tapped answered old stage release both parts output
some_end role tapped answered old (side.Head room) stage release both parts output s going own
    (works, wrote, is, same) = (
      [],
      wrote,
      works,
      subst (λ (r : Release). LinesStand tapped answered (with_stage role old stage r)
          (with_sides_sent role both (with_its_end (sent_of role both))) (parts ++ OfEnd role [] ∷ [])) (sym same)
          (subst (λ (x : SideStage). LinesStand tapped answered (with_stage role old x old.release)
          (with_sides_sent role both (with_its_end (sent_of role both))) (parts ++ OfEnd role [] ∷ [])) (sym is)
          (end_stands role tapped answered old (side.Head room) old.release both parts [] s
          (subst (λ (t : List ℕ). SideStands role tapped answered (side.Head room) old.release
          (with_its_end (sent_of role both)) t) (sym (append-nil (text_of role parts)))
          (ends_in_head role tapped answered room old.release (sent_of role both) (text_of role parts) own))
          (other_of role tapped answered old both parts s))),
    )
some_end role tapped answered old (side.Frames lines) stage release both parts output s going own
    (after, is, alike, t) =
    subst (λ (x : SideStage). IsEndTold role tapped answered old x release both parts output) (sym is)
    (frames_end role tapped answered old lines after old.release release both parts output s going alike own
    (other_of role tapped answered old both parts s) t)

some_end_begun : (role : Role) (tapped : Tapped) (answered : Answered) (old : TapLines) (was stage : SideStage)
    (release : Release) (both : BothSent) (parts : List Part) (output : Device) (fault : WriteFault)
    → LinesStand tapped answered old both parts → (sent_of role both).ended ≡ false
    → SideStands role tapped answered was old.release (sent_of role both) (text_of role parts)
    → EndsSide was stage (record { old = old.release; new = release }) output (Err fault)
    → IsEndBegun role tapped answered both parts output
some_end_begun role tapped answered old (side.Head room) stage release both parts output fault s going own t = absurd t
some_end_begun role tapped answered old (side.Frames lines) stage release both parts output fault s going own
    (after, is, alike, t) =
    frames_end_begun role tapped answered old lines after old.release release both parts output fault s going alike own
    (other_of role tapped answered old both parts s) t

pub ended_tells : (role : Role) (old : TapLines) (stage : SideStage) (release : Release) (output : Device)
    (result : Result (Unit {0}) WriteFault)
    → EndsSide (stage_at role old) stage (record { old = old.release; new = release }) output result
    → TellsEnded role old (with_stage role old stage release) output result
ended_tells role old stage release output (Ok tt) t = λ tapped told parts h going.
    let (more, wrote, works, stands) = some_end role tapped h.answered old (stage_at role old) stage release
    (both_sent told) parts output h.stands (is_going role told going)
    (own_of role tapped h.answered old (both_sent told) parts h.stands) t in (
      OfEnd role more ∷ [],
      subst (λ (x : List ℕ). HasWritten x output) (sym (append-nil more)) wrote,
      (
        works,
        ended_on role tapped told h.answered (with_stage role old stage release) (parts ++ OfEnd role more ∷ [])
            h.has_answered stands,
      ),
    )
ended_tells role old stage release output (Err fault) t = λ tapped told parts h going.
    let (begun, rest, wrote, failed, texts) = some_end_begun role tapped h.answered old (stage_at role old) stage
    release (both_sent told) parts output fault h.stands (is_going role told going)
    (own_of role tapped h.answered old (both_sent told) parts h.stands) t in
    let now = subst (λ (b : BothSent). TextsStand tapped h.answered b (parts ++ OfEnd role (begun ++ rest) ∷ []))
    (sym (both_ended role told)) texts in (
      OfEnd role begun ∷ [],
      subst (λ (x : List ℕ). HasWritten x output) (sym (append-nil begun)) wrote,
      (
        failed,
        record {
          front = told ++ EndedBy role ∷ [];
          due = all_text (parts ++ OfEnd role (begun ++ rest) ∷ []);
          more = rest;
          is_front = inl refl;
          tells = record {
            answered = h.answered;
            parts = parts ++ OfEnd role (begun ++ rest) ∷ [];
            has_answered = answered_behind told (EndedBy role) h.answered
                (knows_none h.answered (both_sent (told ++ EndedBy role ∷ [])).server.bytes now.knows) h.has_answered;
            of_client = now.of_client;
            of_server = now.of_server;
            in_order = now.in_order;
            all = refl;
          };
          begins = due_behind parts (OfEnd role (begun ++ rest) ∷ []) (OfEnd role begun ∷ []) rest
              (append-nil (begun ++ rest) ∙ ap (λ (t : List ℕ). t ++ rest) (sym (append-nil begun)));
        },
      ),
    )

-- ---- other events

-- what was taken, and what was ended, makes nothing certain
pub told_same : (tapped : Tapped) (told : List TapTold) (event : TapTold) (lines : TapLines) (parts : List Part)
    → both_sent (told ++ event ∷ []) ≡ both_sent told → HasToldLines tapped told lines parts
    → HasToldLines tapped (told ++ event ∷ []) lines parts
told_same tapped told event lines parts same h =
    let now = subst (λ (b : BothSent). LinesStand tapped h.answered lines b parts) (sym same) h.stands in record {
      answered = h.answered;
      has_answered = answered_behind told event h.answered
          (knows_none h.answered (both_sent (told ++ event ∷ [])).server.bytes now.knows) h.has_answered;
      stands = now;
    }

-- the text of all that was told
pub lines_tell : (tapped : Tapped) (told : List TapTold) (lines : TapLines) (parts : List Part)
    → HasToldLines tapped told lines parts → TellsOfBoth tapped told (all_text parts)
lines_tell tapped told lines parts h =
    let texts = texts_of tapped h.answered lines (both_sent told) parts h.stands in record {
      answered = h.answered;
      parts = parts;
      has_answered = h.has_answered;
      of_client = texts.of_client;
      of_server = texts.of_server;
      in_order = texts.in_order;
      all = refl;
    }

-- what can be told of an end
pub can_tell_more : (role : Role) (count : ℕ) (lines : TapLines) → CanTellMore role count lines
    → CanTell role count (stage_at role lines) lines.release
can_tell_more Client count lines m = can_tell_side Client m.tapped m.stands.answered lines.client lines.release
    (both_sent m.told).client (text_of Client m.parts) count m.stands.stands.of_client m.going m.fits
can_tell_more Server count lines m = can_tell_side Server m.tapped m.stands.answered lines.server lines.release
    (both_sent m.told).server (text_of Server m.parts) count m.stands.stands.of_server m.going m.fits

pub can_end_more : (role : Role) (lines : TapLines) → CanTellMore role 0 lines
    → CanEndSide (stage_at role lines) lines.release
can_end_more Client lines m = can_end_side Client m.tapped m.stands.answered lines.client lines.release
    (both_sent m.told).client (text_of Client m.parts) m.stands.stands.of_client m.going m.fits
can_end_more Server lines m = can_end_side Server m.tapped m.stands.answered lines.server lines.release
    (both_sent m.told).server (text_of Server m.parts) m.stands.stands.of_server m.going m.fits
