-- Where the lines of one end stand, behind each thing that is told of it.
use Rattle.std.proofs.Common.{◌≡◌, ℕ, ◌+◌, ◌^◌, ◌<◌, ◌≤◌, Bool, true, false, List, [], ◌++◌, length, take, drop}
use Rattle.std.proofs.Common.{refl}
use Rattle.std.proofs.Common.{sym, ap, ◌∙◌, append-nil, append_assoc, inl, inr, arith, subst, Ok, Err}
use Rattle.std.proofs.lemmas.List.{length-append, length-drop, drop_all}
use Rattle.ws_wire.specs.declared.role.Role.{Role}
use Rattle.ws_wire.specs.declared.role.Role.TheVariants.{Client, Server}
use Rattle.ws_frame.specs.declared.source.Source.{Source}
use Rattle.ws_frame.specs.declared.showing.StreamEnd.{StreamEnd}
use Rattle.ws_frame.specs.declared.frame_lines.FrameLines.{FrameLines}
use Rattle.ws_frame.specs.declared.show_fault.ShowFault.{ShowFault}
use Rattle.ws_frame.specs.Devices.{Device, HasWritten}
use Rattle.ws_frame.specs.Lines.{AreLinesOf, AreCertainLines}
use Rattle.ws_frame.specs.FrameStreaming.{HasTakenFrames, TakesMore, frames_source}
use Rattle.ws_frame.specs.FrameStreaming.{is_of_a_write}
use Rattle.ws_tap.specs.declared.tapped.Tapped.{Tapped}
use Rattle.ws_tap.specs.declared.heads.Head.{Head}
use Rattle.ws_tap.specs.declared.head_room.HeadFound.{HeadFound}
use Rattle.ws_tap.specs.declared.release.Release.{Release}
use Rattle.ws_tap.specs.declared.release.Release.TheVariants.{Awaited, Told, Never}
use Rattle.ws_tap.specs.declared.telling.SideStage.{SideStage}
use Rattle.ws_tap.specs.declared.telling.SideStage.TheVariants as side
use Rattle.ws_tap.specs.KeptValues.{KeptValue}
use Rattle.ws_tap.specs.Heads.{HasHead}
use Rattle.ws_tap.specs.Texts.{source_at, head_line, Sent, BothSent, sent_of, Answered, NotYet, After, IsEndText}
use Rattle.ws_tap.specs.Texts.{AreToldLines, AreLinesTo}
use Rattle.ws_tap.specs.Telling.{CanEndSide, CanTell}
use Rattle.ws_tap.specs.Telling.{CanTellFrames, EndsKept, IsFoundWith, IsNewStream, KeepsLines, LooksIn, ShowsAsBefore}
use Rattle.ws_tap.specs.Telling.{IsKeeping, kept_after}
use Rattle.ws_tap.specs.Standing.{AwaitsHead, HasShownTo, SideStands, StandsBehindHead, StandsReleased, with_bytes}
use Rattle.ws_tap.specs.Standing.{with_its_end}
use Rattle.ws_tap.proofs.HeadLemmas.{head_stays}
use Rattle.ws_tap.proofs.KeepingLemmas.{keeping_end, is_kept}
use Rattle.ws_tap.proofs.Sides.{front_stays, behind_grows, behind_found, found_line, shown_open, open_shown, lines_to}

-- ---- in a head

awaits_on : (role : Role) (release : Release) (answered : Answered) (sent : Sent) (more : List ℕ)
    → AwaitsHead role release answered sent → AwaitsHead role release answered (with_bytes sent more)
awaits_on role (Awaited kept) NotYet sent more a = a
awaits_on role (Awaited kept) (After early switches) sent more a = absurd a
awaits_on role Told NotYet sent more a = absurd a
awaits_on role Told (After early true) sent more (le, ends) = (omega (arith, le, length-append sent.bytes more), ends)
awaits_on role Told (After early false) sent more a = absurd a
awaits_on role Never NotYet sent more a = absurd a
awaits_on role Never (After early true) sent more a = absurd a
awaits_on role Never (After early false) sent more a = a

-- no head yet
pub still_in_head : (role : Role) (tapped : Tapped) (answered : Answered) (old room : List ℕ) (release : Release)
    (sent : Sent) (text piece : List ℕ) → SideStands role tapped answered (side.Head old) release sent text
    → LooksIn role room (sent.bytes ++ piece)
    → SideStands role tapped answered (side.Head room) release (with_bytes sent piece) text
still_in_head role tapped answered old room release sent text piece (l, none, a) looks =
    (looks, none, awaits_on role release answered sent piece a)

not_ended : (early sent : Bool) → (early ≡ true → sent ≡ true) → sent ≡ false → early ≡ false
not_ended true sent ends going = absurd (let e : true ≡ false = sym (ends refl) ∙ going in cc)
not_ended false sent ends going = refl

-- behind a head that is just whole no frame is told
none_told : (role : Role) (release : Release) (answered : Answered) (source : Source) (len : ℕ) (lines : FrameLines)
    (at now : Sent) → AwaitsHead role release answered at → at.ended ≡ false → now.ended ≡ false
    → (role ≡ Server → answered ≡ NotYet → ⊥)
    → length at.bytes ≤ len → drop len now.bytes ≡ [] → frames_source lines ≡ source → HasTakenFrames lines [] []
    → StandsReleased role release answered source len lines now []
none_told Client (Awaited kept) NotYet source len lines at now a going still heard le none es shown = (
  refl,
  (
    [],
    open_shown now.ended lines [] (drop len now.bytes) [] [] still (sym none) refl shown,
    rw a (inl (refl, refl, omega arith)),
  ),
)
none_told Server (Awaited kept) NotYet source len lines at now a going still heard le none es shown =
    absurd (heard refl refl)
none_told role (Awaited kept) (After early switches) source len lines at now a going still heard le none es shown =
    absurd a
none_told role Told NotYet source len lines at now a going still heard le none es shown = absurd a
none_told role Told (After early true) source len lines at now (few, ends) going still heard le none es shown =
    let was = sent_of role early in
    let nothing : drop len was.bytes ≡ [] = drop_all len was.bytes (omega (arith, few, le)) in (
      [],
      [],
      [],
      lines_to was.ended source lines (drop len was.bytes) [] es
          (open_shown was.ended lines [] (drop len was.bytes) [] [] (not_ended was.ended at.ended ends going)
          (sym nothing) refl shown),
      inl (omega arith, refl),
      open_shown now.ended lines [] (drop len now.bytes) [] [] still (sym none) refl shown,
      refl,
    )
none_told role Told (After early false) source len lines at now a going still heard le none es shown = absurd a
none_told role Never NotYet source len lines at now a going still heard le none es shown = absurd a
none_told role Never (After early true) source len lines at now a going still heard le none es shown = absurd a
none_told role Never (After early false) source len lines at now a going still heard le none es shown = refl

-- the head is whole: its line is the text
pub behind_head : (role : Role) (tapped : Tapped) (answered : Answered) (release : Release) (at sent : Sent)
    (text piece : List ℕ) (found : HeadFound) (lines : FrameLines) → IsFoundWith role tapped sent.bytes piece found
    → IsNewStream role tapped lines → text ≡ [] → sent.ended ≡ false → AwaitsHead role release answered at
    → at.ended ≡ false → length at.bytes ≤ found.head.len → (role ≡ Server → answered ≡ NotYet → ⊥)
    → StandsBehindHead role tapped answered lines release (with_bytes sent (take found.used piece)) (text ++ found.line)
behind_head role tapped answered release at sent text piece found lines f new none going a open_at le heard = record {
  head = found.head;
  shown = [];
  has = f.has;
  is = ap (λ (t : List ℕ). t ++ found.line) none ∙ found_line role tapped sent.bytes piece found f;
  source = new.source;
  keeps = λ e. new.keeps;
  stands = none_told role release answered (source_at role tapped) found.head.len lines at
      (with_bytes sent (take found.used piece)) a open_at going heard le
      (behind_found role tapped sent.bytes piece found f) new.source new.shown;
}

-- ---- behind it

-- there is room in a stream whose lines wait, or are told
pub frames_room : (role : Role) (release : Release) (answered : Answered) (source : Source) (len count : ℕ)
    (lines : FrameLines) (sent : Sent) (shown : List ℕ) → sent.ended ≡ false → length sent.bytes + count < 2 ^ 64
    → StandsReleased role release answered source len lines sent shown → CanTellFrames count lines release
frames_room role (Awaited kept) NotYet source len count lines sent shown going small (none, (waited, s, k)) = (
  drop len sent.bytes,
  waited,
  shown_open sent.ended lines (drop len sent.bytes) waited going s,
  omega (arith, small, length-drop len sent.bytes),
)
frames_room role (Awaited kept) (After early switches) source len count lines sent shown going small t = absurd t
frames_room role Told NotYet source len count lines sent shown going small t = absurd t
frames_room role Told (After early true) source len count lines sent shown going small
    (waited, kept, later, aw, ik, s, is) = (
      drop len sent.bytes,
      waited ++ later,
      shown_open sent.ended lines (drop len sent.bytes) (waited ++ later) going s,
      omega (arith, small, length-drop len sent.bytes),
    )
frames_room role Told (After early false) source len count lines sent shown going small t = absurd t
frames_room role Never answered source len count lines sent shown going small t = tt

-- the line of a head stays, whatever comes behind it
pub line_behind : (role : Role) (tapped : Tapped) (bytes text piece more shown next : List ℕ) (head : Head)
    → HasHead role bytes head → text ≡ head_line (source_at role tapped) (take head.len bytes) ++ shown
    → shown ++ more ≡ next
    → text ++ more ≡ head_line (source_at role tapped) (take head.len (bytes ++ piece)) ++ next
line_behind role tapped bytes text piece more shown next head has is e =
    ap (λ (t : List ℕ). t ++ more) is ∙ append_assoc _ shown more
    ∙ ap (λ (t : List ℕ). head_line (source_at role tapped) (take head.len bytes) ++ t) e
    ∙ ap (λ (t : List ℕ). head_line (source_at role tapped) t ++ next) (sym (front_stays role bytes piece head has))

-- the head and its line stay
pub behind_more : (role : Role) (tapped : Tapped) (answered : Answered) (lines after : FrameLines)
    (release new : Release) (sent : Sent) (text piece more next : List ℕ)
    (s : StandsBehindHead role tapped answered lines release sent text) → ShowsAsBefore lines after
    → s.shown ++ more ≡ next
    → StandsReleased role new answered (source_at role tapped) s.head.len after (with_bytes sent piece) next
    → StandsBehindHead role tapped answered after new (with_bytes sent piece) (text ++ more)
behind_more role tapped answered lines after release new sent text piece more next s same e stands = record {
  head = s.head;
  shown = next;
  has = head_stays role sent.bytes piece s.head s.has;
  is = line_behind role tapped sent.bytes text piece more s.shown next s.head s.has s.is e;
  source = same.source ∙ s.source;
  keeps = λ e. same.keeps ∙ s.keeps e;
  stands = stands;
}

behind_is : (role : Role) (bytes piece : List ℕ) (head : Head) → HasHead role bytes head
    → drop head.len bytes ++ piece ≡ drop head.len (bytes ++ piece)
behind_is role bytes piece head has = sym (behind_grows role bytes piece head has)

-- lines that wait
pub frames_wait : (role : Role) (lines new : FrameLines) (kept after : KeptValue) (answered : Answered)
    (source : Source) (sent : Sent) (shown piece : List ℕ) (head : Head) → HasHead role sent.bytes head
    → frames_source lines ≡ source → sent.ended ≡ false
    → KeepsLines kept after (record { old = lines; new = new }) piece
    → StandsReleased role (Awaited kept) answered source head.len lines sent shown
    → StandsReleased role (Awaited after) answered source head.len new (with_bytes sent piece) shown
frames_wait Client lines new kept after NotYet source sent shown piece head has es going keeps
    (none, (waited, s, k)) =
    let (more, on, still) = keeps (drop head.len sent.bytes) waited
    (shown_open sent.ended lines (drop head.len sent.bytes) waited going s)
    (subst (λ (r : Source). IsKeeping r (drop head.len sent.bytes) waited kept) (sym es) k) in (
      none,
      (
        waited ++ more,
        open_shown sent.ended new (drop head.len sent.bytes ++ piece) (drop head.len (sent.bytes ++ piece))
            (waited ++ more) (waited ++ more) going (behind_is Client sent.bytes piece head has) refl on,
        subst (λ (t : List ℕ). IsKeeping source t (waited ++ more) after)
            (behind_is Client sent.bytes piece head has)
            (subst (λ (r : Source). IsKeeping r (drop head.len sent.bytes ++ piece) (waited ++ more) after) es still),
      ),
    )
frames_wait Server lines new kept after NotYet source sent shown piece head has es going keeps
    (none, (waited, s, k)) = absurd k
frames_wait role lines new kept after (After early switches) source sent shown piece head has es going keeps t =
    absurd t

-- lines that are told
pub frames_told : (role : Role) (lines new : FrameLines) (answered : Answered) (source : Source) (sent : Sent)
    (shown piece : List ℕ) (head : Head) (output : Device) → HasHead role sent.bytes head → sent.ended ≡ false
    → TakesMore lines new piece output (Ok tt)
    → StandsReleased role Told answered source head.len lines sent shown
    → (more : List ℕ) × HasWritten more output × (output.failed ≡ false)
    × StandsReleased role Told answered source head.len new (with_bytes sent piece) (shown ++ more)
frames_told role lines new NotYet source sent shown piece head output has going takes t = absurd t
frames_told role lines new (After early false) source sent shown piece head output has going takes t = absurd t
frames_told role lines new (After early true) source sent shown piece head output has going takes
    (waited, kept, later, aw, ik, s, is) =
    let (more, wrote, (works, on)) = takes (drop head.len sent.bytes) (waited ++ later)
    (shown_open sent.ended lines (drop head.len sent.bytes) (waited ++ later) going s) in (
      more,
      wrote,
      works,
      (
        waited,
        kept,
        later ++ more,
        aw,
        ik,
        open_shown sent.ended new (drop head.len sent.bytes ++ piece) (drop head.len (sent.bytes ++ piece))
            ((waited ++ later) ++ more) (waited ++ (later ++ more)) going (behind_is role sent.bytes piece head has)
            (append_assoc waited later more) on,
        ap (λ (t : List ℕ). t ++ more) is ∙ append_assoc kept later more,
      ),
    )

-- and where that failed, a beginning of those that are due
pub frames_begun : (role : Role) (lines new : FrameLines) (answered : Answered) (source : Source) (sent : Sent)
    (shown piece : List ℕ) (head : Head) (output : Device) (fault : ShowFault) → HasHead role sent.bytes head
    → sent.ended ≡ false → frames_source new ≡ source → TakesMore lines new piece output (Err fault)
    → StandsReleased role Told answered source head.len lines sent shown
    → (more : List ℕ) × (rest : List ℕ) × HasWritten more output × (output.failed ≡ is_of_a_write fault)
    × AreToldLines role source head.len answered (with_bytes sent piece) ((shown ++ more) ++ rest)
frames_begun role lines new NotYet source sent shown piece head output fault has going es takes t = absurd t
frames_begun role lines new (After early false) source sent shown piece head output fault has going es takes t =
    absurd t
frames_begun role lines new (After early true) source sent shown piece head output fault has going es takes
    (waited, kept, later, aw, ik, s, is) =
    let (more, wrote, (failed, begun)) = takes (drop head.len sent.bytes) (waited ++ later)
    (shown_open sent.ended lines (drop head.len sent.bytes) (waited ++ later) going s) in
    let all : begun.lines ≡ waited ++ ((later ++ more) ++ begun.more) =
    begun.begins ∙ ap (λ (t : List ℕ). t ++ begun.more) (append_assoc waited later more)
    ∙ append_assoc waited (later ++ more) begun.more in
    let certain : AreCertainLines source (drop head.len (sent.bytes ++ piece))
    (waited ++ ((later ++ more) ++ begun.more)) =
    subst (λ (l : List ℕ). AreCertainLines source (drop head.len (sent.bytes ++ piece)) l) all
    (subst (λ (b : List ℕ). AreCertainLines source b begun.lines) (behind_is role sent.bytes piece head has)
    (subst (λ (r : Source). AreCertainLines r (drop head.len sent.bytes ++ piece) begun.lines) es begun.are)) in (
      more,
      begun.more,
      wrote,
      failed,
      record {
        waited = waited;
        kept = kept;
        later = (later ++ more) ++ begun.more;
        are_waited = aw;
        is_kept = ik;
        all = subst (λ (b : Bool). AreLinesTo b source (drop head.len (sent.bytes ++ piece))
            (waited ++ ((later ++ more) ++ begun.more))) (sym going) certain;
        told = ap (λ (t : List ℕ). (t ++ more) ++ begun.more) is
            ∙ ap (λ (t : List ℕ). t ++ begun.more) (append_assoc kept later more)
            ∙ append_assoc kept (later ++ more) begun.more;
      },
    )

-- frames of which none is told
pub frames_never : (role : Role) (lines new : FrameLines) (answered : Answered) (source : Source) (len : ℕ)
    (sent now : Sent) (shown : List ℕ) → StandsReleased role Never answered source len lines sent shown
    → StandsReleased role Never answered source len new now shown
frames_never role lines new NotYet source len sent now shown t = absurd t
frames_never role lines new (After early true) source len sent now shown t = absurd t
frames_never role lines new (After early false) source len sent now shown t = t

-- ---- its end

pub ends_waiting : (role : Role) (lines new : FrameLines) (kept : KeptValue) (answered : Answered) (source : Source)
    (len : ℕ) (sent : Sent) (shown line : List ℕ) → frames_source lines ≡ source
    → frames_source new ≡ frames_source lines → sent.ended ≡ false → EndsKept lines line
    → StandsReleased role (Awaited kept) answered source len lines sent shown
    → StandsReleased role (Awaited (kept_after kept line)) answered source len new (with_its_end sent) shown
ends_waiting Client lines new kept NotYet source len sent shown line es same going ends (none, (waited, s, k)) =
    let stream = shown_open sent.ended lines (drop len sent.bytes) waited going s in
    let (end, all) = ends (drop len sent.bytes) waited stream in
    let certain = lines_to false source lines (drop len sent.bytes) waited es stream in (
      none,
      (
        waited ++ line,
        (end, rw same all),
        keeping_end source (drop len sent.bytes) waited line kept stream.are_bytes certain k,
      ),
    )
ends_waiting Server lines new kept NotYet source len sent shown line es same going ends (none, (waited, s, k)) =
    absurd k
ends_waiting role lines new kept (After early switches) source len sent shown line es same going ends t = absurd t

pub ends_told : (role : Role) (lines new : FrameLines) (answered : Answered) (source : Source) (len : ℕ) (sent : Sent)
    (shown : List ℕ) (P : List ℕ → Type 0) → frames_source new ≡ frames_source lines → sent.ended ≡ false
    → ((bytes : List ℕ) (told : List ℕ) → HasTakenFrames lines bytes told → (last : List ℕ) × P last
    × ((end : StreamEnd) × AreLinesOf (frames_source lines) bytes end (told ++ last)))
    → StandsReleased role Told answered source len lines sent shown → (last : List ℕ) × P last
    × StandsReleased role Told answered source len new (with_its_end sent) (shown ++ last)
ends_told role lines new NotYet source len sent shown P same going ends t = absurd t
ends_told role lines new (After early false) source len sent shown P same going ends t = absurd t
ends_told role lines new (After early true) source len sent shown P same going ends
    (waited, kept, later, aw, ik, s, is) =
    let (last, p, (end, all)) = ends (drop len sent.bytes) (waited ++ later)
    (shown_open sent.ended lines (drop len sent.bytes) (waited ++ later) going s) in (
      last,
      p,
      (
        waited,
        kept,
        later ++ last,
        aw,
        ik,
        (
          end,
          rw same (subst (λ (t : List ℕ). AreLinesOf (frames_source lines) (drop len sent.bytes) end t)
              (append_assoc waited later last) all),
        ),
        ap (λ (t : List ℕ). t ++ last) is ∙ append_assoc kept later last,
      ),
    )

-- behind the end its head and its line stay
pub behind_end : (role : Role) (tapped : Tapped) (answered : Answered) (lines after : FrameLines)
    (release new : Release) (sent : Sent) (text last next : List ℕ)
    (s : StandsBehindHead role tapped answered lines release sent text) → frames_source after ≡ frames_source lines
    → s.shown ++ last ≡ next
    → StandsReleased role new answered (source_at role tapped) s.head.len after (with_its_end sent) next
    → StandsBehindHead role tapped answered after new (with_its_end sent) (text ++ last)
behind_end role tapped answered lines after release new sent text last next s same e stands = record {
  head = s.head;
  shown = next;
  has = s.has;
  is = ap (λ (t : List ℕ). t ++ last) s.is ∙ append_assoc _ s.shown last
      ∙ ap (λ (t : List ℕ). head_line (source_at role tapped) (take s.head.len sent.bytes) ++ t) e;
  source = same ∙ s.source;
  keeps = λ e. absurd cc;
  stands = stands;
}

awaits_end : (role : Role) (release : Release) (answered : Answered) (sent : Sent)
    → AwaitsHead role release answered sent → AwaitsHead role release answered (with_its_end sent)
awaits_end role (Awaited kept) NotYet sent a = a
awaits_end role (Awaited kept) (After early switches) sent a = absurd a
awaits_end role Told NotYet sent a = absurd a
awaits_end role Told (After early true) sent (le, ends) = (le, λ e. refl)
awaits_end role Told (After early false) sent a = absurd a
awaits_end role Never NotYet sent a = absurd a
awaits_end role Never (After early true) sent a = absurd a
awaits_end role Never (After early false) sent a = a

pub ends_in_head : (role : Role) (tapped : Tapped) (answered : Answered) (room : List ℕ) (release : Release)
    (sent : Sent) (text : List ℕ) → SideStands role tapped answered (side.Head room) release sent text
    → SideStands role tapped answered (side.Head room) release (with_its_end sent) text
ends_in_head role tapped answered room release sent text (l, none, a) =
    (l, none, awaits_end role release answered sent a)

-- ---- the answer, at the client

-- the server switches: the lines that wait are told
pub client_switches : (tapped : Tapped) (stage : SideStage) (kept : KeptValue) (both : BothSent) (text : List ℕ)
    → SideStands Client tapped NotYet stage (Awaited kept) both.client text
    → SideStands Client tapped (After both true) stage Told both.client (text ++ kept.text)
client_switches tapped (side.Head room) kept both text (l, none, a) = (
  l,
  ap (λ (t : List ℕ). t ++ kept.text) none ∙ ap (λ (k : KeptValue). k.text) a,
  (omega arith, (λ e. e)),
)
client_switches tapped (side.Frames lines) kept both text s =
    let (none, (waited, on, k)) = s.stands in record {
      head = s.head;
      shown = kept.text;
      has = s.has;
      is = ap (λ (t : List ℕ). t ++ kept.text) s.is ∙ append_assoc _ s.shown kept.text
          ∙ ap (λ (t : List ℕ). head_line (source_at Client tapped) (take s.head.len both.client.bytes)
          ++ (t ++ kept.text)) none;
      source = s.source;
      keeps = s.keeps;
      stands = (
        waited,
        kept.text,
        [],
        lines_to both.client.ended (source_at Client tapped) lines (drop s.head.len both.client.bytes) waited s.source
            on,
        is_kept (source_at Client tapped) (drop s.head.len both.client.bytes) waited kept k,
        subst (λ (t : List ℕ). HasShownTo both.client.ended lines (drop s.head.len both.client.bytes) t)
            (sym (append-nil waited)) on,
        sym (append-nil kept.text),
      );
    }

-- it doesn't: none of them is
pub client_refused : (tapped : Tapped) (stage : SideStage) (kept : KeptValue) (both : BothSent) (sent : Sent)
    (text : List ℕ) → SideStands Client tapped NotYet stage (Awaited kept) sent text
    → SideStands Client tapped (After both false) stage Never sent text
client_refused tapped (side.Head room) kept both sent text (l, none, a) = (l, none, tt)
client_refused tapped (side.Frames lines) kept both sent text s = record {
  head = s.head;
  shown = s.shown;
  has = s.has;
  is = s.is;
  source = s.source;
  keeps = s.keeps;
  stands = s.stands.0;
}

-- other lines that wait are none of a server
pub server_keeps : (tapped : Tapped) (answered : Answered) (stage : SideStage) (kept after : KeptValue) (sent : Sent)
    (text : List ℕ) → SideStands Server tapped answered stage (Awaited kept) sent text
    → SideStands Server tapped answered stage (Awaited after) sent text
server_keeps tapped NotYet (side.Head room) kept after sent text s = s
server_keeps tapped (After early switches) (side.Head room) kept after sent text (l, none, a) = absurd a
server_keeps tapped NotYet (side.Frames lines) kept after sent text s = absurd s.stands.1.2
server_keeps tapped (After early switches) (side.Frames lines) kept after sent text s = absurd s.stands

-- ---- its text

lines_of_frames : (role : Role) (release : Release) (answered : Answered) (source : Source) (len : ℕ)
    (lines : FrameLines) (sent : Sent) (shown : List ℕ) → frames_source lines ≡ source
    → StandsReleased role release answered source len lines sent shown
    → AreToldLines role source len answered sent shown
lines_of_frames role (Awaited kept) NotYet source len lines sent shown es (none, waits) = none
lines_of_frames role (Awaited kept) (After early switches) source len lines sent shown es t = absurd t
lines_of_frames role Told NotYet source len lines sent shown es t = absurd t
lines_of_frames role Told (After early true) source len lines sent shown es (waited, kept, later, aw, ik, s, is) =
    record {
      waited = waited;
      kept = kept;
      later = later;
      are_waited = aw;
      is_kept = ik;
      all = lines_to sent.ended source lines (drop len sent.bytes) (waited ++ later) es s;
      told = is;
    }
lines_of_frames role Told (After early false) source len lines sent shown es t = absurd t
lines_of_frames role Never NotYet source len lines sent shown es t = absurd t
lines_of_frames role Never (After early true) source len lines sent shown es t = absurd t
lines_of_frames role Never (After early false) source len lines sent shown es t = t

pub end_text : (role : Role) (tapped : Tapped) (answered : Answered) (stage : SideStage) (release : Release)
    (sent : Sent) (text : List ℕ) → SideStands role tapped answered stage release sent text
    → IsEndText role tapped answered sent text
end_text role tapped answered (side.Head room) release sent text (l, none, a) = inl (l.1, none)
end_text role tapped answered (side.Frames lines) release sent text s = inr (record {
  head = s.head;
  lines = s.shown;
  has = s.has;
  is = s.is;
  are = lines_of_frames role release answered (source_at role tapped) s.head.len lines sent s.shown s.source s.stands;
})

-- ---- what can be told of it

pub can_tell_side : (role : Role) (tapped : Tapped) (answered : Answered) (stage : SideStage) (release : Release)
    (sent : Sent) (text : List ℕ) (count : ℕ) → SideStands role tapped answered stage release sent text
    → sent.ended ≡ false → length sent.bytes + count < 2 ^ 64 → CanTell role count stage release
can_tell_side role tapped answered (side.Head room) release sent text count (l, none, a) going fits = (sent.bytes, l)
can_tell_side role tapped answered (side.Frames lines) release sent text count s going fits =
    frames_room role release answered (source_at role tapped) s.head.len count lines sent s.shown going fits s.stands

pub can_end_side : (role : Role) (tapped : Tapped) (answered : Answered) (stage : SideStage) (release : Release)
    (sent : Sent) (text : List ℕ) → SideStands role tapped answered stage release sent text
    → sent.ended ≡ false → length sent.bytes + 0 < 2 ^ 64 → CanEndSide stage release
can_end_side role tapped answered (side.Head room) release sent text s going fits = tt
can_end_side role tapped answered (side.Frames lines) release sent text s going fits =
    frames_room role release answered (source_at role tapped) s.head.len 0 lines sent s.shown going fits s.stands
