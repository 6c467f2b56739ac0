-- Where the lines of both ends stand, behind a piece of one of them.
use Rattle.std.proofs.Common.{◌≡◌, ℕ, ◌<◌, ◌≤◌, Bool, true, false, List, [], ◌∷◌, ◌++◌, length, take}
use Rattle.std.proofs.Common.{drop}
use Rattle.std.proofs.Common.{refl, sym, ap, ◌∙◌, append-nil, append_assoc, inl, inr, arith, subst, Ok, Err, Some, None}
use Rattle.std.proofs.lemmas.List.{length-append, take-append-drop}
use Rattle.std.proofs.Math.Seq.{take-length}
use Rattle.ws_wire.specs.declared.role.Role.{Role}
use Rattle.ws_wire.specs.declared.role.Role.TheVariants.{Client, Server}
use Rattle.ws_frame.specs.Lines.{takes_memory}
use Rattle.ws_frame.specs.declared.frame_lines.FrameLines.{FrameLines}
use Rattle.ws_frame.specs.declared.show_fault.ShowFault.{ShowFault}
use Rattle.ws_frame.specs.declared.show_fault.ShowFault.TheVariants as show_fault
use Rattle.ws_frame.specs.Devices.{Device, HasWritten}
use Rattle.ws_frame.specs.FrameStreaming.{MayEndBy, is_of_a_write, keeps_frames}
use Rattle.ws_tap.specs.declared.tapped.Tapped.{Tapped}
use Rattle.ws_tap.specs.declared.heads.Head.{Head}
use Rattle.ws_tap.specs.declared.head_room.HeadFound.{HeadFound}
use Rattle.ws_tap.specs.declared.release.Release.{Release}
use Rattle.ws_tap.specs.declared.release.Release.TheVariants.{Awaited, Told, Never}
use Rattle.ws_tap.specs.declared.release.Answer.{Answer}
use Rattle.ws_tap.specs.declared.release.Answer.TheVariants as reply
use Rattle.ws_tap.specs.declared.telling.SideStage.{SideStage}
use Rattle.ws_tap.specs.declared.telling.SideStage.TheVariants as side
use Rattle.ws_tap.specs.declared.tap_lines.TapLines.{TapLines}
use Rattle.ws_tap.specs.KeptValues.{KeptValue}
use Rattle.ws_tap.specs.Told.{other_end}
use Rattle.ws_tap.specs.Heads.{HasHead, HasNoHead}
use Rattle.ws_tap.specs.Texts.{source_at, Sent, BothSent, sent_of, Answered, NotYet, After, IsEndText}
use Rattle.ws_tap.specs.Texts.{AnswersSo, AreInOrder, AreToldLines, Part, OfEnd, all_text, text_of}
use Rattle.ws_tap.specs.Telling.{LacksFairly}
use Rattle.ws_tap.specs.Telling.{FindsHead, IsAnswerOfStatus, IsFoundWith, IsHeadTold, IsNewStream, LooksIn}
use Rattle.ws_tap.specs.Telling.{ShowsAsBefore, TellsFramesBy, TellsSome, released}
use Rattle.ws_tap.specs.Telling.{released_text}
use Rattle.ws_tap.specs.Standing.{AnswersNext, AwaitsHead, Knows, LinesStand, SendsTo, SideStands, StandsBehindHead}
use Rattle.ws_tap.specs.Standing.{stage_at, with_bytes, with_sides_sent, with_stage}
use Rattle.ws_tap.proofs.HeadLemmas.{head_stays}
use Rattle.ws_tap.proofs.Sides.{found_line}
use Rattle.ws_tap.proofs.EndLemmas.{behind_head, behind_more, client_refused, client_switches, end_text, frames_begun}
use Rattle.ws_tap.proofs.EndLemmas.{frames_never, frames_told, frames_wait, line_behind, server_keeps}
use Rattle.ws_tap.proofs.EndLemmas.{still_in_head}

-- ---- parts

pub all_text_more : (parts more : List Part) → all_text (parts ++ more) ≡ all_text parts ++ all_text more
all_text_more [] more = refl
all_text_more (OfEnd role text ∷ parts) more = ap (λ (t : List ℕ). text ++ t) (all_text_more parts more)
    ∙ sym (append_assoc text (all_text parts) (all_text more))

text_more : (role : Role) (parts more : List Part) → text_of role (parts ++ more) ≡ text_of role parts ++ text_of role
    more
text_more Client [] more = refl
text_more Server [] more = refl
text_more Client (OfEnd Client text ∷ parts) more = ap (λ (t : List ℕ). text ++ t) (text_more Client parts more)
    ∙ sym (append_assoc text (text_of Client parts) (text_of Client more))
text_more Client (OfEnd Server text ∷ parts) more = text_more Client parts more
text_more Server (OfEnd Client text ∷ parts) more = text_more Server parts more
text_more Server (OfEnd Server text ∷ parts) more = ap (λ (t : List ℕ). text ++ t) (text_more Server parts more)
    ∙ sym (append_assoc text (text_of Server parts) (text_of Server more))

-- one part more of an end, and what it leaves of the other
pub own_part : (role : Role) (text : List ℕ) (parts : List Part)
    → text_of role (parts ++ OfEnd role text ∷ []) ≡ text_of role parts ++ text
own_part Client text parts = text_more Client parts (OfEnd Client text ∷ [])
    ∙ ap (λ (t : List ℕ). text_of Client parts ++ t) (append-nil text)
own_part Server text parts = text_more Server parts (OfEnd Server text ∷ [])
    ∙ ap (λ (t : List ℕ). text_of Server parts ++ t) (append-nil text)

pub other_part : (role : Role) (text : List ℕ) (parts : List Part)
    → text_of (other_end role) (parts ++ OfEnd role text ∷ []) ≡ text_of (other_end role) parts
other_part Client text parts = text_more Server parts (OfEnd Client text ∷ []) ∙ append-nil (text_of Server parts)
other_part Server text parts = text_more Client parts (OfEnd Server text ∷ []) ∙ append-nil (text_of Client parts)

-- what is due is written behind what was
pub due_behind : (parts due begun : List Part) (rest : List ℕ) → all_text due ≡ all_text begun ++ rest
    → all_text (parts ++ due) ≡ all_text (parts ++ begun) ++ rest
due_behind parts due begun rest e =
    all_text_more parts due ∙ ap (λ (t : List ℕ). all_text parts ++ t) e
    ∙ sym (append_assoc (all_text parts) (all_text begun) rest)
    ∙ ap (λ (t : List ℕ). t ++ rest) (sym (all_text_more parts begun))

-- more parts keep the order
pub order_more : (tapped : Tapped) (answered : Answered) (parts next : List Part) → AreInOrder tapped answered parts
    → AreInOrder tapped answered (parts ++ next)
order_more tapped NotYet parts next o = tt
order_more tapped (After early true) parts next o = record {
  before = o.before;
  first = o.first;
  waited = o.waited;
  later = o.later ++ next;
  all = ap (λ (p : List Part). p ++ next) o.all
      ∙ append_assoc o.before (OfEnd Server o.first ∷ OfEnd Client o.waited ∷ o.later) next;
  none_of_server = o.none_of_server;
  of_client = o.of_client;
  is_first = o.is_first;
  has_waited = o.has_waited;
}
order_more tapped (After early false) parts next o = tt

-- ---- texts

-- the texts of both ends, which have sent this
pub record TextsStand (tapped : Tapped) (answered : Answered) (both : BothSent) (parts : List Part) : Type 0 where
  pub knows : Knows answered both.server.bytes
  pub of_client : IsEndText Client tapped answered both.client (text_of Client parts)
  pub of_server : IsEndText Server tapped answered both.server (text_of Server parts)
  pub in_order : AreInOrder tapped answered parts

pub texts_of : (tapped : Tapped) (answered : Answered) (lines : TapLines) (both : BothSent) (parts : List Part)
    → LinesStand tapped answered lines both parts → TextsStand tapped answered both parts
texts_of tapped answered lines both parts s = record {
  knows = s.knows;
  of_client = end_text Client tapped answered lines.client lines.release both.client (text_of Client parts) s.of_client;
  of_server = end_text Server tapped answered lines.server lines.release both.server (text_of Server parts) s.of_server;
  in_order = s.in_order;
}

-- ---- one end has sent more

-- it stands behind its head
abbrev pub is_behind : SideStage → Bool
is_behind (side.Head room) = false
is_behind (side.Frames lines) = true

-- so many bytes of a piece of an end were used, and these parts told
pub record IsSentOn (role : Role) (tapped : Tapped) (answered : Answered) (old new : TapLines) (both : BothSent)
    (parts : List Part) (piece : List ℕ) (output : Device) (used : ℕ) : Type 0 where
  pub more : List Part
  pub wrote : HasWritten (all_text more) output
  pub works : output.failed ≡ false
  pub few : used ≤ length piece
  pub next : Answered
  pub answers : AnswersNext role answered next both (take used piece)
  pub same : is_behind (stage_at role old) ≡ true → next ≡ answered
  pub whole : is_behind (stage_at role old) ≡ true → used ≡ length piece
  pub behind : used < length piece → is_behind (stage_at role new) ≡ true
  pub stands : LinesStand tapped next new (with_sides_sent role both (with_bytes (sent_of role both) (take used piece)))
      (parts ++ more)

-- or a beginning of what is due was, for a beginning of the piece
pub record IsSentInPart (role : Role) (tapped : Tapped) (answered : Answered) (old : TapLines) (both : BothSent)
    (parts : List Part) (piece : List ℕ) (output : Device) (fault : ShowFault) : Type 0 where
  pub more : List Part
  pub wrote : HasWritten (all_text more) output
  pub failed : output.failed ≡ is_of_a_write fault
  pub fair : MayEndBy tapped.style fault
  pub front : List ℕ
  pub later : List ℕ
  pub cut : piece ≡ front ++ later
  pub next : Answered
  pub answers : AnswersNext role answered next both front
  pub same : is_behind (stage_at role old) ≡ true → next ≡ answered
  pub due : List Part
  pub rest : List ℕ
  pub texts : TextsStand tapped next (with_sides_sent role both (with_bytes (sent_of role both) front)) due
  pub begins : all_text due ≡ all_text (parts ++ more) ++ rest

knows_on : (answered : Answered) (bytes more : List ℕ) → (answered ≡ NotYet → HasNoHead Server (bytes ++ more))
    → Knows answered bytes → Knows answered (bytes ++ more)
knows_on NotYet bytes more none k = none refl
knows_on (After early switches) bytes more none (head, has) = (head, head_stays Server bytes more head has)

knows_for : (role : Role) (answered : Answered) (both : BothSent) (more : List ℕ)
    → (role ≡ Server → answered ≡ NotYet → HasNoHead Server (both.server.bytes ++ more))
    → Knows answered both.server.bytes
    → Knows answered (with_sides_sent role both (with_bytes (sent_of role both) more)).server.bytes
knows_for Client answered both more none k = k
knows_for Server answered both more none k = knows_on answered both.server.bytes more (none refl) k

-- a server that stands behind its head has answered
not_headless : (role : Role) (answered : Answered) (both : BothSent) (head : Head) (bytes : List ℕ)
    → Knows answered both.server.bytes → HasHead role (sent_of role both).bytes head
    → role ≡ Server → answered ≡ NotYet → HasNoHead Server (both.server.bytes ++ bytes)
not_headless Client answered both head bytes k has server open_yet = absurd cc
not_headless Server NotYet both head bytes k has server open_yet = absurd (k head has)
not_headless Server (After early switches) both head bytes k has server open_yet = absurd cc

stage_set : (role : Role) (old : TapLines) (stage : SideStage) (release : Release)
    → stage_at role (with_stage role old stage release) ≡ stage
stage_set Client old stage release = refl
stage_set Server old stage release = refl

-- the lines of an end stand anew, and those of the other as before
pub lines_with : (role : Role) (tapped : Tapped) (answered : Answered) (old : TapLines) (stage : SideStage)
    (release : Release) (both : BothSent) (sent : Sent) (parts : List Part) (more : List ℕ) → old.tapped ≡ tapped
    → Knows answered (with_sides_sent role both sent).server.bytes → AreInOrder tapped answered parts
    → SideStands role tapped answered stage release sent (text_of role parts ++ more)
    → SideStands (other_end role) tapped answered (stage_at (other_end role) old) release
    (sent_of (other_end role) both) (text_of (other_end role) parts)
    → LinesStand tapped answered (with_stage role old stage release) (with_sides_sent role both sent)
    (parts ++ OfEnd role more ∷ [])
lines_with Client tapped answered old stage release both sent parts more e k o own other = record {
  tapped_is = e;
  knows = k;
  of_client = subst (λ (t : List ℕ). SideStands Client tapped answered stage release sent t)
      (sym (own_part Client more parts)) own;
  of_server = subst (λ (t : List ℕ). SideStands Server tapped answered old.server release both.server t)
      (sym (other_part Client more parts)) other;
  in_order = order_more tapped answered parts (OfEnd Client more ∷ []) o;
}
lines_with Server tapped answered old stage release both sent parts more e k o own other = record {
  tapped_is = e;
  knows = k;
  of_client = subst (λ (t : List ℕ). SideStands Client tapped answered old.client release both.client t)
      (sym (other_part Server more parts)) other;
  of_server = subst (λ (t : List ℕ). SideStands Server tapped answered stage release sent t)
      (sym (own_part Server more parts)) own;
  in_order = order_more tapped answered parts (OfEnd Server more ∷ []) o;
}

-- and so their texts
texts_with : (role : Role) (tapped : Tapped) (answered : Answered) (both : BothSent) (sent : Sent) (parts : List Part)
    (more : List ℕ) → Knows answered (with_sides_sent role both sent).server.bytes → AreInOrder tapped answered parts
    → IsEndText role tapped answered sent (text_of role parts ++ more)
    → IsEndText (other_end role) tapped answered (sent_of (other_end role) both) (text_of (other_end role) parts)
    → TextsStand tapped answered (with_sides_sent role both sent) (parts ++ OfEnd role more ∷ [])
texts_with Client tapped answered both sent parts more k o own other = record {
  knows = k;
  of_client = subst (λ (t : List ℕ). IsEndText Client tapped answered sent t) (sym (own_part Client more parts)) own;
  of_server = subst (λ (t : List ℕ). IsEndText Server tapped answered both.server t)
      (sym (other_part Client more parts)) other;
  in_order = order_more tapped answered parts (OfEnd Client more ∷ []) o;
}
texts_with Server tapped answered both sent parts more k o own other = record {
  knows = k;
  of_client = subst (λ (t : List ℕ). IsEndText Client tapped answered both.client t)
      (sym (other_part Server more parts)) other;
  of_server = subst (λ (t : List ℕ). IsEndText Server tapped answered sent t) (sym (own_part Server more parts)) own;
  in_order = order_more tapped answered parts (OfEnd Server more ∷ []) o;
}

-- the answer is as before
sent_so : (role : Role) (tapped : Tapped) (answered : Answered) (old : TapLines) (stage : SideStage)
    (release : Release) (both : BothSent) (parts : List Part) (piece bytes more : List ℕ) (output : Device) (used : ℕ)
    → LinesStand tapped answered old both parts → bytes ≡ take used piece → used ≤ length piece
    → (is_behind (stage_at role old) ≡ true → used ≡ length piece)
    → (used < length piece → is_behind stage ≡ true)
    → output.failed ≡ false → HasWritten more output
    → (role ≡ Server → answered ≡ NotYet → HasNoHead Server (both.server.bytes ++ bytes))
    → SideStands role tapped answered stage release (with_bytes (sent_of role both) bytes) (text_of role parts ++ more)
    → SideStands (other_end role) tapped answered (stage_at (other_end role) old) release
    (sent_of (other_end role) both) (text_of (other_end role) parts)
    → IsSentOn role tapped answered old (with_stage role old stage release) both parts piece output used
sent_so role tapped answered old stage release both parts piece bytes more output used s is few whole behind works
    wrote none own other = record {
      more = OfEnd role more ∷ [];
      wrote = subst (λ (t : List ℕ). HasWritten t output) (sym (append-nil more)) wrote;
      works = works;
      few = few;
      next = answered;
      answers = inl refl;
      same = λ stood. refl;
      whole = whole;
      behind = λ short. ap (λ (x : SideStage). is_behind x) (stage_set role old stage release) ∙ behind short;
      stands = subst (λ (b : List ℕ). LinesStand tapped answered (with_stage role old stage release)
          (with_sides_sent role both (with_bytes (sent_of role both) b)) (parts ++ OfEnd role more ∷ [])) is
          (lines_with role tapped answered old stage release both (with_bytes (sent_of role both) bytes) parts more
          s.tapped_is (knows_for role answered both bytes none s.knows) s.in_order own other);
    }

whole_is : (used : ℕ) (piece : List ℕ) → used ≡ length piece → piece ≡ take used piece
whole_is used piece e = sym (take-length piece) ∙ ap (λ n. take n piece) (sym e)

-- ---- still in a head

no_head_in : (role : Role) (both : BothSent) (room piece : List ℕ)
    → LooksIn role room ((sent_of role both).bytes ++ piece)
    → {answered : Answered} → role ≡ Server → answered ≡ NotYet → HasNoHead Server (both.server.bytes ++ piece)
no_head_in Client both room piece looks server open_yet = absurd cc
no_head_in Server both room piece looks server open_yet = looks.1

looks_ok : (role : Role) (tapped : Tapped) (answered : Answered) (old : TapLines) (was room : List ℕ)
    (both : BothSent) (parts : List Part) (piece : List ℕ) (output : Device) (used : ℕ)
    → LinesStand tapped answered old both parts → stage_at role old ≡ side.Head was
    → SideStands role tapped answered (side.Head was) old.release (sent_of role both) (text_of role parts)
    → SideStands (other_end role) tapped answered (stage_at (other_end role) old) old.release
    (sent_of (other_end role) both) (text_of (other_end role) parts)
    → used ≡ length piece → output.failed ≡ false → HasWritten [] output
    → LooksIn role room ((sent_of role both).bytes ++ piece)
    → IsSentOn role tapped answered old (with_stage role old (side.Head room) old.release) both parts piece output used
looks_ok role tapped answered old was room both parts piece output used s at own other whole works wrote looks =
    sent_so role tapped answered old (side.Head room) old.release both parts piece piece [] output used s
    (whole_is used piece whole) (omega (arith, whole)) (λ stood. whole)
    (λ short. absurd (omega (arith, short, whole))) works wrote (no_head_in role both room piece looks)
    (subst (λ (t : List ℕ). SideStands role tapped answered (side.Head room) old.release
    (with_bytes (sent_of role both) piece) t) (sym (append-nil (text_of role parts)))
    (still_in_head role tapped answered was room old.release (sent_of role both) (text_of role parts) piece own looks))
    other

-- ---- frames

behind_is : (role : Role) (old : TapLines) (lines : FrameLines) → stage_at role old ≡ side.Frames lines
    → is_behind (stage_at role old) ≡ true
behind_is role old lines at = ap (λ (x : SideStage). is_behind x) at

frames_ok : (role : Role) (tapped : Tapped) (answered : Answered) (old : TapLines) (lines after : FrameLines)
    (release new : Release) (both : BothSent) (parts : List Part) (piece : List ℕ) (output : Device) (used : ℕ)
    → LinesStand tapped answered old both parts → (sent_of role both).ended ≡ false → used ≡ length piece
    → ShowsAsBefore lines after
    → StandsBehindHead role tapped answered lines release (sent_of role both) (text_of role parts)
    → SideStands (other_end role) tapped answered (stage_at (other_end role) old) release
    (sent_of (other_end role) both) (text_of (other_end role) parts)
    → TellsFramesBy lines after release new piece output (Ok tt)
    → IsSentOn role tapped answered old (with_stage role old (side.Frames after) new) both parts piece output used
frames_ok Client tapped answered old lines after (Awaited kept) new both parts piece output used s going whole alike own
    other (works, wrote, (now, is, keeps)) =
    subst (λ (r : Release). IsSentOn Client tapped answered old (with_stage Client old (side.Frames after) r) both parts
    piece output used) (sym is)
    (sent_so Client tapped answered old (side.Frames after) (Awaited now) both parts piece piece [] output used s
    (whole_is used piece whole) (omega (arith, whole)) (λ stood. whole) (λ short. refl) works wrote
    (not_headless Client answered both own.head piece s.knows own.has)
    (behind_more Client tapped answered lines after (Awaited kept) (Awaited now) both.client (text_of Client parts)
    piece [] own.shown own alike (append-nil own.shown)
    (frames_wait Client lines after kept now answered (source_at Client tapped) both.client own.shown piece own.head
    own.has own.source going keeps own.stands))
    (server_keeps tapped answered old.server kept now both.server (text_of Server parts) other))
frames_ok Server tapped NotYet old lines after (Awaited kept) new both parts piece output used s going whole alike own
    other t = absurd own.stands.1.2
frames_ok Server tapped (After early switches) old lines after (Awaited kept) new both parts piece output used s going
    whole alike own other t = absurd own.stands
frames_ok role tapped answered old lines after Told new both parts piece output used s going whole alike own other
    (is, takes, fair) =
    let (more, wrote, works, stands) = frames_told role lines after answered (source_at role tapped)
    (sent_of role both) own.shown piece own.head output own.has going takes own.stands in
    subst (λ (r : Release). IsSentOn role tapped answered old (with_stage role old (side.Frames after) r) both parts
    piece output used) (sym is)
    (sent_so role tapped answered old (side.Frames after) Told both parts piece piece more output used s
    (whole_is used piece whole) (omega (arith, whole)) (λ stood. whole) (λ short. refl) works wrote
    (not_headless role answered both own.head piece s.knows own.has)
    (behind_more role tapped answered lines after Told Told (sent_of role both) (text_of role parts) piece more
    (own.shown ++ more) own alike refl stands) other)
frames_ok role tapped answered old lines after Never new both parts piece output used s going whole alike own other
    (works, wrote, is) =
    subst (λ (r : Release). IsSentOn role tapped answered old (with_stage role old (side.Frames after) r) both parts
    piece output used) (sym is)
    (sent_so role tapped answered old (side.Frames after) Never both parts piece piece [] output used s
    (whole_is used piece whole) (omega (arith, whole)) (λ stood. whole) (λ short. refl) works wrote
    (not_headless role answered both own.head piece s.knows own.has)
    (behind_more role tapped answered lines after Never Never (sent_of role both) (text_of role parts) piece []
    own.shown own alike (append-nil own.shown)
    (frames_never role lines after answered (source_at role tapped) own.head.len (sent_of role both)
    (with_bytes (sent_of role both) piece) own.shown own.stands)) other)

-- lines that are due behind a head
text_behind : (role : Role) (tapped : Tapped) (answered : Answered) (lines : FrameLines) (release : Release)
    (sent : Sent) (text piece more : List ℕ) (s : StandsBehindHead role tapped answered lines release sent text)
    → AreToldLines role (source_at role tapped) s.head.len answered (with_bytes sent piece) (s.shown ++ more)
    → IsEndText role tapped answered (with_bytes sent piece) (text ++ more)
text_behind role tapped answered lines release sent text piece more s are = inr (record {
  head = s.head;
  lines = s.shown ++ more;
  has = head_stays role sent.bytes piece s.head s.has;
  is = line_behind role tapped sent.bytes text piece more s.shown (s.shown ++ more) s.head s.has s.is refl;
  are = are;
})

fair_by : (tapped : Tapped) (lines : FrameLines) (fault : ShowFault) → keeps_frames lines ≡ takes_memory tapped.style
    → LacksFairly lines (Err fault) → MayEndBy tapped.style fault
fair_by tapped lines show_fault.Write keeps fair = tt
fair_by tapped lines show_fault.NoMemory keeps fair = sym keeps ∙ fair

-- what was written of frames, and what is due behind it
frames_in_part : (role : Role) (tapped : Tapped) (answered : Answered) (lines after : FrameLines)
    (release new : Release) (sent : Sent) (text piece : List ℕ) (output : Device) (fault : ShowFault)
    → sent.ended ≡ false → ShowsAsBefore lines after
    → (s : StandsBehindHead role tapped answered lines release sent text)
    → TellsFramesBy lines after release new piece output (Err fault)
    → (more : List ℕ) × (rest : List ℕ) × HasWritten more output × (output.failed ≡ is_of_a_write fault)
    × MayEndBy tapped.style fault
    × AreToldLines role (source_at role tapped) s.head.len answered (with_bytes sent piece)
    ((s.shown ++ more) ++ rest)
frames_in_part role tapped NotYet lines after (Awaited kept) new sent text piece output fault going alike s
    (works, wrote, is, keeps) = (
      [],
      [],
      wrote,
      works ∙ sym (ap is_of_a_write is),
      subst (λ (f : ShowFault). MayEndBy tapped.style f) (sym is) (sym (s.keeps going) ∙ keeps),
      append-nil (s.shown ++ []) ∙ append-nil s.shown ∙ s.stands.0,
    )
frames_in_part role tapped (After early switches) lines after
    (Awaited kept) new sent text piece output fault going alike s
    t = absurd s.stands
frames_in_part role tapped answered lines after Told new sent text piece output fault going alike s (is, takes, fair) =
    let (more, rest, wrote, failed, are) = frames_begun role lines after answered (source_at role tapped) sent s.shown
    piece s.head output fault s.has going (alike.source ∙ s.source) takes s.stands in
    (more, rest, wrote, failed, fair_by tapped lines fault (s.keeps going) fair, are)
frames_in_part role tapped answered lines after Never new sent text piece output fault going alike s t = absurd t

frames_err : (role : Role) (tapped : Tapped) (answered : Answered) (old : TapLines) (lines after : FrameLines)
    (release new : Release) (both : BothSent) (parts : List Part) (piece : List ℕ) (output : Device)
    (fault : ShowFault)
    → LinesStand tapped answered old both parts → (sent_of role both).ended ≡ false → ShowsAsBefore lines after
    → StandsBehindHead role tapped answered lines release (sent_of role both) (text_of role parts)
    → IsEndText (other_end role) tapped answered (sent_of (other_end role) both) (text_of (other_end role) parts)
    → TellsFramesBy lines after release new piece output (Err fault)
    → IsSentInPart role tapped answered old both parts piece output fault
frames_err role tapped answered old lines after release new both parts piece output fault s going alike own other t =
    let (more, rest, wrote, failed, fair, are) = frames_in_part role tapped answered lines after release new
    (sent_of role both) (text_of role parts) piece output fault going alike own t in record {
      more = OfEnd role more ∷ [];
      wrote = subst (λ (t : List ℕ). HasWritten t output) (sym (append-nil more)) wrote;
      failed = failed;
      fair = fair;
      front = piece;
      later = [];
      cut = sym (append-nil piece);
      next = answered;
      answers = inl refl;
      same = λ stood. refl;
      due = parts ++ OfEnd role (more ++ rest) ∷ [];
      rest = rest;
      texts = texts_with role tapped answered both (with_bytes (sent_of role both) piece) parts (more ++ rest)
          (knows_for role answered both piece (not_headless role answered both own.head piece s.knows own.has) s.knows)
          s.in_order
          (text_behind role tapped answered lines release (sent_of role both) (text_of role parts) piece (more ++ rest)
          own (subst (λ (t : List ℕ). AreToldLines role (source_at role tapped) own.head.len answered
          (with_bytes (sent_of role both) piece) t) (append_assoc own.shown more rest) are))
          other;
      begins = due_behind parts (OfEnd role (more ++ rest) ∷ []) (OfEnd role more ∷ []) rest
          (append-nil (more ++ rest) ∙ ap (λ (t : List ℕ). t ++ rest) (sym (append-nil more)));
    }

-- ---- a head that is whole

-- so many bytes of a piece belong to it
found_behind : (role : Role) (tapped : Tapped) (bytes piece : List ℕ) (found : HeadFound)
    → IsFoundWith role tapped bytes piece found → length bytes ≤ found.head.len
found_behind role tapped bytes piece found f =
    omega (arith, f.whole, length-append bytes (take found.used piece))

-- a request answers nothing
request_answers : (found : HeadFound) (answer : Answer) (bytes : List ℕ) → HasHead Client bytes found.head
    → IsAnswerOfStatus found.head.status answer → answer ≡ reply.NotYet
request_answers found reply.NotYet bytes has is = refl
request_answers found reply.Switches bytes (has, none) is = absurd (let e : None ≡ Some 101 = sym none ∙ is in cc)
request_answers found reply.Refuses bytes (has, none) is = absurd (is.1 none)

releases_none : (release : Release) → (released release reply.NotYet ≡ release)
    × (released_text release reply.NotYet ≡ [])
releases_none (Awaited kept) = (refl, refl)
releases_none Told = (refl, refl)
releases_none Never = (refl, refl)

-- the lines behind a request
request_stands : (tapped : Tapped) (answered : Answered) (old : TapLines) (room : List ℕ) (lines : FrameLines)
    (both : BothSent) (parts : List Part) (piece : List ℕ) (found : HeadFound)
    → LinesStand tapped answered old both parts → both.client.ended ≡ false
    → SideStands Client tapped answered (side.Head room) old.release both.client (text_of Client parts)
    → IsFoundWith Client tapped both.client.bytes piece found → IsNewStream Client tapped lines
    → LinesStand tapped answered (with_stage Client old (side.Frames lines) old.release)
    (with_sides_sent Client both (with_bytes both.client (take found.used piece)))
    (parts ++ OfEnd Client found.line ∷ [])
request_stands tapped answered old room lines both parts piece found s going (l, none, a) f new =
    lines_with Client tapped answered old (side.Frames lines) old.release both
    (with_bytes both.client (take found.used piece)) parts found.line s.tapped_is s.knows s.in_order
    (behind_head Client tapped answered old.release both.client both.client (text_of Client parts) piece found lines f
    new none going a going (found_behind Client tapped both.client.bytes piece found f) (λ e. absurd cc))
    s.of_server

request_ok : (tapped : Tapped) (answered : Answered) (old : TapLines) (room : List ℕ) (lines : FrameLines)
    (release : Release) (both : BothSent) (parts : List Part) (piece : List ℕ) (found : HeadFound) (answer : Answer)
    (output : Device) (used : ℕ)
    → LinesStand tapped answered old both parts → both.client.ended ≡ false → old.client ≡ side.Head room
    → SideStands Client tapped answered (side.Head room) old.release both.client (text_of Client parts)
    → IsFoundWith Client tapped both.client.bytes piece found → IsNewStream Client tapped lines
    → IsAnswerOfStatus found.head.status answer
    → IsHeadTold found answer (record { old = old.release; new = release }) output (Ok used)
    → IsSentOn Client tapped answered old (with_stage Client old (side.Frames lines) release) both parts piece output
    used
request_ok tapped answered old room lines release both parts piece found answer output used s going at own f new is
    (works, same, now, wrote) =
    let none = request_answers found answer (both.client.bytes ++ take found.used piece) f.has is in
    let (stays, nothing) = releases_none old.release in
    let release_is : old.release ≡ release = sym (now ∙ ap (λ (a : Answer). released old.release a) none ∙ stays) in
    let text_is : found.line ++ released_text old.release answer ≡ found.line ++ [] =
    ap (λ (t : List ℕ). found.line ++ t) (ap (λ (a : Answer). released_text old.release a) none ∙ nothing) in record {
      more = OfEnd Client found.line ∷ [];
      wrote = subst (λ (t : List ℕ). HasWritten t output) text_is wrote;
      works = works;
      few = omega (arith, same, f.used);
      next = answered;
      answers = inl refl;
      same = λ stood. refl;
      whole = λ stood. absurd (let e : true ≡ false = sym stood ∙ ap (λ (x : SideStage). is_behind x) at in cc);
      behind = λ short. refl;
      stands = subst (λ (r : Release). LinesStand tapped answered (with_stage Client old (side.Frames lines) r)
          (with_sides_sent Client both (with_bytes both.client (take used piece)))
          (parts ++ OfEnd Client found.line ∷ []))
          release_is
          (subst (λ n. LinesStand tapped answered (with_stage Client old (side.Frames lines) old.release)
          (with_sides_sent Client both (with_bytes both.client (take n piece))) (parts ++ OfEnd Client found.line ∷ []))
          (sym same) (request_stands tapped answered old room lines both parts piece found s going own f new));
    }

-- a front of a piece, and what is behind it
front_of_piece : (used : ℕ) (piece : List ℕ) → piece ≡ take used piece ++ drop used piece
front_of_piece used piece = sym (take-append-drop used piece)

request_err : (tapped : Tapped) (answered : Answered) (old : TapLines) (room : List ℕ) (lines : FrameLines)
    (release : Release) (both : BothSent) (parts : List Part) (piece : List ℕ) (found : HeadFound) (answer : Answer)
    (output : Device) (fault : ShowFault)
    → LinesStand tapped answered old both parts → both.client.ended ≡ false
    → SideStands Client tapped answered (side.Head room) old.release both.client (text_of Client parts)
    → IsFoundWith Client tapped both.client.bytes piece found → IsNewStream Client tapped lines
    → IsAnswerOfStatus found.head.status answer
    → IsHeadTold found answer (record { old = old.release; new = release }) output (Err fault)
    → IsSentInPart Client tapped answered old both parts piece output fault
request_err tapped answered old room lines release both parts piece found answer output fault s going own f new is
    (failed, write, (front, rest, all, wrote)) =
    let none = request_answers found answer (both.client.bytes ++ take found.used piece) f.has is in
    let nothing = (releases_none old.release).1 in
    let text_is : found.line ++ [] ≡ found.line ++ released_text old.release answer =
    ap (λ (t : List ℕ). found.line ++ t) (sym (ap (λ (a : Answer). released_text old.release a) none ∙ nothing)) in
    record {
      more = OfEnd Client front ∷ [];
      wrote = subst (λ (t : List ℕ). HasWritten t output) (sym (append-nil front)) wrote;
      failed = failed ∙ sym (ap is_of_a_write write);
      fair = subst (λ (f : ShowFault). MayEndBy tapped.style f) (sym write) tt;
      front = take found.used piece;
      later = drop found.used piece;
      cut = front_of_piece found.used piece;
      next = answered;
      answers = inl refl;
      same = λ stood. refl;
      due = parts ++ OfEnd Client found.line ∷ [];
      rest = rest;
      texts = texts_of tapped answered (with_stage Client old (side.Frames lines) old.release)
          (with_sides_sent Client both (with_bytes both.client (take found.used piece)))
          (parts ++ OfEnd Client found.line ∷ [])
          (request_stands tapped answered old room lines both parts piece found s going own f new);
      begins = due_behind parts (OfEnd Client found.line ∷ []) (OfEnd Client front ∷ []) rest
          (text_is ∙ all ∙ ap (λ (t : List ℕ). t ++ rest) (sym (append-nil front)));
    }

-- ---- a response

-- both of these parts are behind the others
abbrev pub response_parts : List ℕ → List ℕ → List Part
response_parts first waited = OfEnd Server first ∷ OfEnd Client waited ∷ []

client_of_response : (parts : List Part) (first waited : List ℕ)
    → text_of Client (parts ++ response_parts first waited) ≡ text_of Client parts ++ waited
client_of_response parts first waited = text_more Client parts (response_parts first waited)
    ∙ ap (λ (t : List ℕ). text_of Client parts ++ t) (append-nil waited)

server_of_response : (parts : List Part) (first waited : List ℕ)
    → text_of Server (parts ++ response_parts first waited) ≡ text_of Server parts ++ first
server_of_response parts first waited = text_more Server parts (response_parts first waited)
    ∙ ap (λ (t : List ℕ). text_of Server parts ++ t) (append-nil first)

-- what both have sent with the response
abbrev pub with_response : BothSent → List ℕ → BothSent
with_response both bytes = with_sides_sent Server both (with_bytes both.server bytes)

-- the lines behind a response
response_stands : (tapped : Tapped) (old : TapLines) (room : List ℕ) (lines : FrameLines) (release : Release)
    (switches : Bool) (both : BothSent) (parts : List Part) (piece : List ℕ) (found : HeadFound) (waited : List ℕ)
    → LinesStand tapped NotYet old both parts → both.server.ended ≡ false → text_of Server parts ≡ []
    → IsFoundWith Server tapped both.server.bytes piece found → IsNewStream Server tapped lines
    → AwaitsHead Server release (After (with_response both (take found.used piece)) switches)
    (with_bytes both.server (take found.used piece))
    → SideStands Client tapped (After (with_response both (take found.used piece)) switches) old.client release
    both.client (text_of Client parts ++ waited)
    → AreInOrder tapped (After (with_response both (take found.used piece)) switches)
    (parts ++ response_parts found.line waited)
    → LinesStand tapped (After (with_response both (take found.used piece)) switches)
    (with_stage Server old (side.Frames lines) release) (with_response both (take found.used piece))
    (parts ++ response_parts found.line waited)
response_stands tapped old room lines release switches both parts piece found waited s going none f new a client o =
    let early = with_response both (take found.used piece) in record {
      tapped_is = s.tapped_is;
      knows = (found.head, f.has);
      of_client = subst (λ (t : List ℕ). SideStands Client tapped (After early switches) old.client release both.client
          t) (sym (client_of_response parts found.line waited)) client;
      of_server = subst (λ (t : List ℕ). SideStands Server tapped (After early switches) (side.Frames lines) release
          early.server t) (sym (server_of_response parts found.line waited))
          (behind_head Server tapped (After early switches) release early.server both.server (text_of Server parts)
          piece found lines f new none going a going (omega (arith, f.whole)) (λ e open_yet. absurd cc));
      in_order = o;
    }

-- the line of a response is the first that is told of its server, and those that waited stand behind it
in_order_now : (tapped : Tapped) (old : TapLines) (kept : KeptValue) (both : BothSent) (parts : List Part)
    (piece : List ℕ) (found : HeadFound) → text_of Server parts ≡ []
    → IsFoundWith Server tapped both.server.bytes piece found
    → SideStands Client tapped NotYet old.client (Awaited kept) both.client (text_of Client parts)
    → AreInOrder tapped (After (with_response both (take found.used piece)) true)
    (parts ++ response_parts found.line kept.text)
in_order_now tapped old kept both parts piece found none f client =
    let early = with_response both (take found.used piece) in record {
      before = parts;
      first = found.line;
      waited = kept.text;
      later = [];
      all = refl;
      none_of_server = none;
      of_client = end_text Client tapped NotYet old.client (Awaited kept) both.client (text_of Client parts) client;
      is_first = (
        found.head,
        f.has,
        found_line Server tapped both.server.bytes piece found f ∙ append-nil _,
      );
      has_waited = end_text Client tapped (After early true) old.client Told both.client
          (text_of Client parts ++ kept.text)
          (client_switches tapped old.client kept early (text_of Client parts) client);
    }

-- the answer is heard
response_heard : (tapped : Tapped) (old : TapLines) (room : List ℕ) (lines : FrameLines) (kept : KeptValue)
    (both : BothSent) (parts : List Part) (piece : List ℕ) (found : HeadFound) (answer : Answer)
    → LinesStand tapped NotYet old both parts → both.server.ended ≡ false → text_of Server parts ≡ []
    → SideStands Client tapped NotYet old.client (Awaited kept) both.client (text_of Client parts)
    → IsFoundWith Server tapped both.server.bytes piece found → IsNewStream Server tapped lines
    → IsAnswerOfStatus found.head.status answer → (switches : Bool) × AnswersSo switches found.head
    × LinesStand tapped (After (with_response both (take found.used piece)) switches)
    (with_stage Server old (side.Frames lines) (released (Awaited kept) answer))
    (with_response both (take found.used piece))
    (parts ++ response_parts found.line (released_text (Awaited kept) answer))
response_heard tapped old room lines kept both parts piece found reply.NotYet s going none client f new is =
    let (status, response, some) = f.has in absurd (let e : None ≡ Some status = sym is ∙ some in cc)
response_heard tapped old room lines kept both parts piece found reply.Switches s going none client f new is = (
  true,
  is,
  response_stands tapped old room lines Told true both parts piece found kept.text s going none f new
      (omega arith, (λ e. e))
      (client_switches tapped old.client kept (with_response both (take found.used piece)) (text_of Client parts)
      client)
      (in_order_now tapped old kept both parts piece found none f client),
)
response_heard tapped old room lines kept both parts piece found reply.Refuses s going none client f new is =
    let early = with_response both (take found.used piece) in (
      false,
      is.0,
      response_stands tapped old room lines Never false both parts piece found [] s going none f new tt
          (subst (λ (t : List ℕ). SideStands Client tapped (After early false) old.client Never both.client t)
          (sym (append-nil (text_of Client parts)))
          (client_refused tapped old.client kept early both.client (text_of Client parts) client)) tt,
    )

-- a server in its head waits, and has not answered
only_awaited : (tapped : Tapped) (release : Release) (room : List ℕ) (sent : Sent) (text : List ℕ)
    → SideStands Server tapped NotYet (side.Head room) release sent text
    → (kept : KeptValue) × (release ≡ Awaited kept)
only_awaited tapped (Awaited kept) room sent text s = (kept, refl)
only_awaited tapped Told room sent text (l, none, a) = absurd a
only_awaited tapped Never room sent text (l, none, a) = absurd a

response_ok : (tapped : Tapped) (answered : Answered) (old : TapLines) (room : List ℕ) (lines : FrameLines)
    (release : Release) (both : BothSent) (parts : List Part) (piece : List ℕ) (found : HeadFound) (answer : Answer)
    (output : Device) (used : ℕ)
    → LinesStand tapped answered old both parts → both.server.ended ≡ false → old.server ≡ side.Head room
    → SideStands Server tapped answered (side.Head room) old.release both.server (text_of Server parts)
    → IsFoundWith Server tapped both.server.bytes piece found → IsNewStream Server tapped lines
    → IsAnswerOfStatus found.head.status answer
    → IsHeadTold found answer (record { old = old.release; new = release }) output (Ok used)
    → IsSentOn Server tapped answered old (with_stage Server old (side.Frames lines) release) both parts piece output
    used
response_ok tapped (After early switches) old room lines release both parts piece found answer output used s going at
    (l, none, a) f new is t = absurd (l.1 s.knows.0 s.knows.1)
response_ok tapped NotYet old room lines release both parts piece found answer output used s going at own f new is
    (works, same, now, wrote) =
    let (kept, awaited) = only_awaited tapped old.release room both.server (text_of Server parts) own in
    let client = subst (λ (r : Release). SideStands Client tapped NotYet old.client r both.client
    (text_of Client parts))
    awaited s.of_client in
    let (switches, answers, stands) = response_heard tapped old room lines kept both parts piece found answer s going
    own.1 client f new is in
    let waited = released_text (Awaited kept) answer in
    let early = with_response both (take found.used piece) in
    let text_is : found.line ++ released_text old.release answer ≡ found.line ++ (waited ++ []) =
    ap (λ (t : List ℕ). found.line ++ t) (ap (λ (r : Release). released_text r answer) awaited
    ∙ sym (append-nil waited)) in
    subst (λ n. IsSentOn Server tapped NotYet old (with_stage Server old (side.Frames lines) release) both parts piece
    output n) (sym same) (record {
      more = response_parts found.line waited;
      wrote = subst (λ (t : List ℕ). HasWritten t output) text_is wrote;
      works = works;
      few = f.used;
      next = After early switches;
      answers = inr (record {
        head = found.head;
        switches = switches;
        is_server = refl;
        before = refl;
        now = refl;
        still_open = going;
        has = f.has;
        whole = f.whole;
        answers = answers;
      });
      same = λ stood. absurd (let e : true ≡ false = sym stood ∙ ap (λ (x : SideStage). is_behind x) at in cc);
      whole = λ stood. absurd (let e : true ≡ false = sym stood ∙ ap (λ (x : SideStage). is_behind x) at in cc);
      behind = λ short. refl;
      stands = subst (λ (r : Release). LinesStand tapped (After early switches)
          (with_stage Server old (side.Frames lines) r) early (parts ++ response_parts found.line waited))
          (sym (now ∙ ap (λ (r : Release). released r answer) awaited)) stands;
    })

response_err : (tapped : Tapped) (answered : Answered) (old : TapLines) (room : List ℕ) (lines : FrameLines)
    (release : Release) (both : BothSent) (parts : List Part) (piece : List ℕ) (found : HeadFound) (answer : Answer)
    (output : Device) (fault : ShowFault)
    → LinesStand tapped answered old both parts → both.server.ended ≡ false → old.server ≡ side.Head room
    → SideStands Server tapped answered (side.Head room) old.release both.server (text_of Server parts)
    → IsFoundWith Server tapped both.server.bytes piece found → IsNewStream Server tapped lines
    → IsAnswerOfStatus found.head.status answer
    → IsHeadTold found answer (record { old = old.release; new = release }) output (Err fault)
    → IsSentInPart Server tapped answered old both parts piece output fault
response_err tapped (After early switches) old room lines release both parts piece found answer output fault s going at
    (l, none, a) f new is t = absurd (l.1 s.knows.0 s.knows.1)
response_err tapped NotYet old room lines release both parts piece found answer output fault s going at own f new is
    (failed, write, (front, rest, all, wrote)) =
    let (kept, awaited) = only_awaited tapped old.release room both.server (text_of Server parts) own in
    let client = subst (λ (r : Release). SideStands Client tapped NotYet old.client r both.client
    (text_of Client parts))
    awaited s.of_client in
    let (switches, answers, stands) = response_heard tapped old room lines kept both parts piece found answer s going
    own.1 client f new is in
    let waited = released_text (Awaited kept) answer in
    let early = with_response both (take found.used piece) in
    let text_is : found.line ++ (waited ++ []) ≡ found.line ++ released_text old.release answer =
    ap (λ (t : List ℕ). found.line ++ t) (append-nil waited
    ∙ sym (ap (λ (r : Release). released_text r answer) awaited)) in record {
      more = OfEnd Server front ∷ [];
      wrote = subst (λ (t : List ℕ). HasWritten t output) (sym (append-nil front)) wrote;
      failed = failed ∙ sym (ap is_of_a_write write);
      fair = subst (λ (x : ShowFault). MayEndBy tapped.style x) (sym write) tt;
      front = take found.used piece;
      later = drop found.used piece;
      cut = front_of_piece found.used piece;
      next = After early switches;
      answers = inr (record {
        head = found.head;
        switches = switches;
        is_server = refl;
        before = refl;
        now = refl;
        still_open = going;
        has = f.has;
        whole = f.whole;
        answers = answers;
      });
      same = λ stood. absurd (let e : true ≡ false = sym stood ∙ ap (λ (x : SideStage). is_behind x) at in cc);
      due = parts ++ response_parts found.line waited;
      rest = rest;
      texts = texts_of tapped (After early switches)
          (with_stage Server old (side.Frames lines) (released (Awaited kept) answer)) early
          (parts ++ response_parts found.line waited) stands;
      begins = due_behind parts (response_parts found.line waited) (OfEnd Server front ∷ []) rest
          (text_is ∙ all ∙ ap (λ (t : List ℕ). t ++ rest) (sym (append-nil front)));
    }

-- ---- a piece of any end

pub own_of : (role : Role) (tapped : Tapped) (answered : Answered) (lines : TapLines) (both : BothSent)
    (parts : List Part) → LinesStand tapped answered lines both parts
    → SideStands role tapped answered (stage_at role lines) lines.release (sent_of role both) (text_of role parts)
own_of Client tapped answered lines both parts s = s.of_client
own_of Server tapped answered lines both parts s = s.of_server

pub other_of : (role : Role) (tapped : Tapped) (answered : Answered) (lines : TapLines) (both : BothSent)
    (parts : List Part) → LinesStand tapped answered lines both parts
    → SideStands (other_end role) tapped answered (stage_at (other_end role) lines) lines.release
    (sent_of (other_end role) both) (text_of (other_end role) parts)
other_of Client tapped answered lines both parts s = s.of_server
other_of Server tapped answered lines both parts s = s.of_client

head_ok : (role : Role) (tapped : Tapped) (answered : Answered) (old : TapLines) (room : List ℕ) (stage : SideStage)
    (release : Release) (both : BothSent) (parts : List Part) (piece : List ℕ) (output : Device) (used : ℕ)
    → LinesStand tapped answered old both parts → (sent_of role both).ended ≡ false
    → stage_at role old ≡ side.Head room
    → SideStands role tapped answered (side.Head room) old.release (sent_of role both) (text_of role parts)
    → FindsHead role tapped (sent_of role both).bytes stage (record { old = old.release; new = release }) piece output
    (Ok used)
    → IsSentOn role tapped answered old (with_stage role old stage release) both parts piece output used
head_ok Client tapped answered old room stage release both parts piece output used s going at own f =
    subst (λ (x : SideStage). IsSentOn Client tapped answered old (with_stage Client old x release) both parts piece
    output used) (sym f.stage)
    (request_ok tapped answered old room f.lines release both parts piece f.found f.answer output used s going at own
    f.is_found f.begun f.answers f.told)
head_ok Server tapped answered old room stage release both parts piece output used s going at own f =
    subst (λ (x : SideStage). IsSentOn Server tapped answered old (with_stage Server old x release) both parts piece
    output used) (sym f.stage)
    (response_ok tapped answered old room f.lines release both parts piece f.found f.answer output used s going at own
    f.is_found f.begun f.answers f.told)

head_err : (role : Role) (tapped : Tapped) (answered : Answered) (old : TapLines) (room : List ℕ) (stage : SideStage)
    (release : Release) (both : BothSent) (parts : List Part) (piece : List ℕ) (output : Device) (fault : ShowFault)
    → LinesStand tapped answered old both parts → (sent_of role both).ended ≡ false
    → stage_at role old ≡ side.Head room
    → SideStands role tapped answered (side.Head room) old.release (sent_of role both) (text_of role parts)
    → FindsHead role tapped (sent_of role both).bytes stage (record { old = old.release; new = release }) piece output
    (Err fault)
    → IsSentInPart role tapped answered old both parts piece output fault
head_err Client tapped answered old room stage release both parts piece output fault s going at own f =
    request_err tapped answered old room f.lines release both parts piece f.found f.answer output fault s going own
    f.is_found f.begun f.answers f.told
head_err Server tapped answered old room stage release both parts piece output fault s going at own f =
    response_err tapped answered old room f.lines release both parts piece f.found f.answer output fault s going at own
    f.is_found f.begun f.answers f.told

some_ok : (role : Role) (tapped : Tapped) (answered : Answered) (old : TapLines) (was stage : SideStage)
    (release : Release) (both : BothSent) (parts : List Part) (piece : List ℕ) (output : Device) (used : ℕ)
    → LinesStand tapped answered old both parts → (sent_of role both).ended ≡ false → stage_at role old ≡ was
    → SideStands role tapped answered was old.release (sent_of role both) (text_of role parts)
    → TellsSome role tapped was stage (record { old = old.release; new = release }) piece output (Ok used)
    → IsSentOn role tapped answered old (with_stage role old stage release) both parts piece output used
some_ok role tapped answered old (side.Head room) stage release both parts piece output used s going at own t =
    elim (t (sent_of role both).bytes own.0) [
      | inl looks ↦ let (works, whole, wrote, same, (now, is, looks_on)) = looks in
          subst (λ (r : Release). IsSentOn role tapped answered old
          (with_stage role old stage r) both parts piece output
          used) (sym same)
          (subst (λ (x : SideStage). IsSentOn role tapped answered old (with_stage role old x old.release) both parts
          piece output used) (sym is)
          (looks_ok role tapped answered old room now both parts piece output used s at own
          (other_of role tapped answered old both parts s) whole works wrote looks_on))
      | inr found ↦ head_ok role tapped answered old room stage release both parts piece output used s going at own
          found
    ]
some_ok role tapped answered old (side.Frames lines) stage release both parts piece output used s going at own
    (after, is, (whole, (alike, t))) =
    subst (λ (x : SideStage). IsSentOn role tapped answered old (with_stage role old x release) both parts piece output
    used) (sym is)
    (frames_ok role tapped answered old lines after old.release release both parts piece output used s going whole alike
    own (other_of role tapped answered old both parts s) t)

some_err : (role : Role) (tapped : Tapped) (answered : Answered) (old : TapLines) (was stage : SideStage)
    (release : Release) (both : BothSent) (parts : List Part) (piece : List ℕ) (output : Device) (fault : ShowFault)
    → LinesStand tapped answered old both parts → (sent_of role both).ended ≡ false → stage_at role old ≡ was
    → SideStands role tapped answered was old.release (sent_of role both) (text_of role parts)
    → TellsSome role tapped was stage (record { old = old.release; new = release }) piece output (Err fault)
    → IsSentInPart role tapped answered old both parts piece output fault
some_err role tapped answered old (side.Head room) stage release both parts piece output fault s going at own t =
    elim (t (sent_of role both).bytes own.0) [
      | inl looks ↦ absurd looks
      | inr found ↦ head_err role tapped answered old room stage release both parts piece output fault s going at own
          found
    ]
some_err role tapped answered old (side.Frames lines) stage release both parts piece output fault s going at own
    (after, is, (alike, t)) =
    frames_err role tapped answered old lines after old.release release both parts piece output fault s going alike own
    (end_text (other_end role) tapped answered (stage_at (other_end role) old) old.release
    (sent_of (other_end role) both) (text_of (other_end role) parts) (other_of role tapped answered old both parts s)) t

-- what one call tells
pub sent_ok : (role : Role) (tapped : Tapped) (answered : Answered) (old new : TapLines) (both : BothSent)
    (parts : List Part) (piece : List ℕ) (output : Device) (used : ℕ)
    → LinesStand tapped answered old both parts → (sent_of role both).ended ≡ false
    → SendsTo role old new piece output (Ok used)
    → IsSentOn role tapped answered old new both parts piece output used
sent_ok role tapped answered old new both parts piece output used s going (stage, release, is, t) =
    subst (λ (x : TapLines). IsSentOn role tapped answered old x both parts piece output used) (sym is)
    (some_ok role tapped answered old (stage_at role old) stage release both parts piece output used s going refl
    (own_of role tapped answered old both parts s)
    (subst (λ (x : Tapped). TellsSome role x (stage_at role old) stage
    (record { old = old.release; new = release }) piece output (Ok used)) s.tapped_is t))

pub sent_err : (role : Role) (tapped : Tapped) (answered : Answered) (old new : TapLines) (both : BothSent)
    (parts : List Part) (piece : List ℕ) (output : Device) (fault : ShowFault)
    → LinesStand tapped answered old both parts → (sent_of role both).ended ≡ false
    → SendsTo role old new piece output (Err fault)
    → IsSentInPart role tapped answered old both parts piece output fault
sent_err role tapped answered old new both parts piece output fault s going (stage, release, is, t) =
    some_err role tapped answered old (stage_at role old) stage release both parts piece output fault s going refl
    (own_of role tapped answered old both parts s)
    (subst (λ (x : Tapped). TellsSome role x (stage_at role old) stage
    (record { old = old.release; new = release }) piece output (Err fault)) s.tapped_is t)
