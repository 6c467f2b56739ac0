-- A run of `drive`, read by read.
use Rattle.std.proofs.Common.{◌≡◌, ℕ, ◌+◌, ◌-◌, ◌<◌, ◌≤◌, true, false, List, [], ◌++◌, length, Option, Err, refl, sym, ap, ◌∙◌, subst, arith, append_assoc, append-nil, length-append, take}
use Rattle.std.proofs.lemmas.List.{length-take, length-take-le}
use Rattle.std.specs.Io.KnownBytes.{Appends, Consumes, Keeps, IsAtEnd}
use Rattle.std.proofs.KnownBytes.{Appends-trans, Consumes-nil, Consumes-trans, Consumes-kept}
use Rattle.ws_frame.specs.declared.reading_input.TheConstants.{READ_SIZE}
use Rattle.ws_wire.specs.declared.role.Role.{Role}
use Rattle.ws_session.specs.Limits.{LimitsValue}
use Rattle.ws_frame.specs.Devices.{Device, HasRead, HasWritten}
use Rattle.ws_session.specs.Exchange.{SessionValue, is_over}
use Rattle.ws_echo.specs.Echoes.{BeginsAnswers, DriveCall, Echoes, HasAnsweredAll, IsEchoAfter}
use Rattle.ws_echo.specs.EchoLaws.{EchoLaws}
use Rattle.ws_peer.specs.Driving.{ReadsInTurn, Drives, IsFairDriveEnd}
use Rattle.ws_peer.specs.InnerSteps.{IsEchoOfCall, AnswersPiece, end_of_stop}
use Rattle.ws_peer.specs.declared.driving.DriveEnd.{DriveEnd}
use Rattle.ws_peer.specs.declared.driving.DriveEnd.TheVariants as end
use Rattle.ws_peer.specs.declared.driving.Stop.{Stop}
use Rattle.ws_peer.specs.declared.driving.Stop.TheVariants as stop
use Rattle.ws_echo.proofs.Echoing.{has_echoed, front_begins}

abbrev pub call_of_drive : Role → LimitsValue → List ℕ → List ℕ → ℕ → DriveCall
call_of_drive role limits key first budget = record { role = role; limits = limits; key = key; first = first; budget = budget }

-- so much of the budget is left: what was read so far was answered
pub record HasDriven (call : DriveCall) (left : ℕ) (session : SessionValue) (i0 i1 o0 o1 : Option (List ℕ)) : Type 0 where
  pub read : List ℕ
  pub written : List ℕ
  pub has_read : Consumes i0 i1 read
  pub has_written : Appends o0 o1 written
  pub spent : length read + left ≡ call.budget
  pub in_turn : ReadsInTurn call read written
  pub stands : IsEchoOfCall call (call.first ++ read) written session

-- nothing was read
nothing_read : (call : DriveCall) (written : List ℕ) → ReadsInTurn call [] written
nothing_read call written = record {
  before = [];
  last = [];
  parts = refl;
  bound = omega arith;
  put = [];
  later = written;
  begins = refl;
  answered = λ some. absurd (omega (arith, some));
}

-- all of it
first_parts : (call : DriveCall) (read : List ℕ) → call.first ++ read ≡ (call.first ++ read) ++ []
first_parts call read = sym (append-nil (call.first ++ read))

first_alone : (call : DriveCall) → call.first ≡ call.first ++ []
first_alone call = sym (append-nil call.first)

-- ---- steps

-- `first` was answered
pub has_begun : (call : DriveCall) (session : SessionValue) (i0 o0 o1 : Option (List ℕ)) (more : List ℕ) → Appends o0 o1 more → IsEchoOfCall call call.first more session
    → HasDriven call call.budget session i0 i0 o0 o1
has_begun call session i0 o0 o1 more wrote stands = record {
  read = [];
  written = more;
  has_read = Consumes-nil i0;
  has_written = wrote;
  spent = omega arith;
  in_turn = nothing_read call more;
  stands = subst (λ (l : List ℕ). IsEchoOfCall call l more session) (first_alone call) stands;
}

module _ (laws : EchoLaws) (call : DriveCall) (rest : ℕ) (old : SessionValue) (i0 i1 o0 o1 : Option (List ℕ)) (h : HasDriven call rest old i0 i1 o0 o1) where
  -- all that is due was written
  answered : is_over old.status ≡ false → HasAnsweredAll call h.read h.written
  answered going = (old.status, has_echoed laws call.role call.limits call.key old (call.first ++ h.read) h.written false h.stands, going)

  read_more : is_over old.status ≡ false → (piece more : List ℕ) → length piece ≤ READ_SIZE → ReadsInTurn call (h.read ++ piece) (h.written ++ more)
  read_more going piece more bound = record {
    before = h.read;
    last = piece;
    parts = refl;
    bound = bound;
    put = h.written;
    later = more;
    begins = refl;
    answered = λ some. answered going;
  }

  -- one more read was answered
  pub has_driven_more : is_over old.status ≡ false → (new : SessionValue) (i2 o2 : Option (List ℕ)) (piece more : List ℕ) (after : ℕ) → Consumes i1 i2 piece → length piece ≤ READ_SIZE → length piece + after ≡ rest
      → Appends o1 o2 more → IsEchoOfCall call ((call.first ++ h.read) ++ piece) (h.written ++ more) new → HasDriven call after new i0 i2 o0 o2
  has_driven_more going new i2 o2 piece more after consumed bound spent wrote stands = record {
    read = h.read ++ piece;
    written = h.written ++ more;
    has_read = Consumes-trans i0 i1 i2 h.read piece h.has_read consumed;
    has_written = Appends-trans o0 o1 o2 h.written more h.has_written wrote;
    spent = omega (arith, length-append h.read piece, h.spent, spent);
    in_turn = read_more going piece more bound;
    stands = subst (λ (l : List ℕ). IsEchoOfCall call l (h.written ++ more) new) (append_assoc call.first h.read piece) stands;
  }

-- ---- how a run ends

-- a beginning of the replies to a front of what it was fed was written
begins_answers : EchoLaws → (call : DriveCall) (session : SessionValue) (read written front later more : List ℕ) → call.first ++ read ≡ front ++ later → IsEchoOfCall call front (written ++ more) session
    → BeginsAnswers call read written
begins_answers laws call session read written front later more parts stands =
    let echoed : Echoes call front false (written ++ more) session.status = has_echoed laws call.role call.limits call.key session front (written ++ more) false stands in
    record {
      front = front;
      later = later;
      parts = parts;
      status = session.status;
      more = more;
      echoed = echoed;
      begins = λ put ended then is.
          let at : Echoes call (front ++ later) ended put then = subst (λ (l : List ℕ). Echoes call l ended put then) parts is in
          let (rest, all) = front_begins laws call.role call.limits call.key front later (written ++ more) put echoed.events echoed.has_events echoed.is_put at.events at.has_events at.is_put in
          (more ++ rest, all ∙ append_assoc written more rest);
    }

module _ (laws : EchoLaws) (call : DriveCall) (rest : ℕ) (old : SessionValue) (input output : Device) (i1 : Option (List ℕ)) (h : HasDriven call rest old input.old i1 output.old output.new) where
  -- the session is over
  pub done_when_over : i1 ≡ input.new → is_over old.status ≡ true → Drives call (end.Done old.status) old input output
  done_when_over same over = record {
    read = h.read;
    written = h.written;
    has_read = subst (λ (i : Option (List ℕ)). Consumes input.old i h.read) same h.has_read;
    has_written = h.has_written;
    within = omega (arith, h.spent);
    in_turn = h.in_turn;
    driven = (false, has_echoed laws call.role call.limits call.key old (call.first ++ h.read) h.written false h.stands, over);
    left = (refl, false, h.stands);
  }

  -- the budget is used up
  pub ends_at_budget : i1 ≡ input.new → rest ≡ 0 → is_over old.status ≡ false → Drives call end.Budget old input output
  ends_at_budget same none going = record {
    read = h.read;
    written = h.written;
    has_read = subst (λ (i : Option (List ℕ)). Consumes input.old i h.read) same h.has_read;
    has_written = h.has_written;
    within = omega (arith, h.spent);
    in_turn = h.in_turn;
    driven = (answered laws call rest old input.old i1 output.old output.new h going, omega (arith, h.spent, none));
    left = h.stands;
  }

  -- a read failed
  pub ends_at_read_fault : Keeps i1 input.new → 0 < rest → is_over old.status ≡ false → Drives call end.ReadFault old input output
  ends_at_read_fault kept some going = record {
    read = h.read;
    written = h.written;
    has_read = Consumes-kept input.old i1 input.new h.read h.has_read kept;
    has_written = h.has_written;
    within = omega (arith, h.spent);
    in_turn = h.in_turn;
    driven = (answered laws call rest old input.old i1 output.old output.new h going, omega (arith, h.spent, some));
    left = h.stands;
  }

  -- the reader is at its end
  pub done_at_end : (new : SessionValue) → Consumes i1 input.new [] → IsAtEnd input.new → 0 < rest → IsEchoAfter call.role call.limits call.key (call.first ++ h.read) true h.written new
      → Drives call (end.Done new.status) new input output
  done_at_end new consumed at_end some stands = record {
    read = h.read;
    written = h.written;
    has_read = subst (λ (l : List ℕ). Consumes input.old input.new l) (append-nil h.read) (Consumes-trans input.old i1 input.new h.read [] h.has_read consumed);
    has_written = h.has_written;
    within = omega (arith, h.spent);
    in_turn = h.in_turn;
    driven = (true, (has_echoed laws call.role call.limits call.key new (call.first ++ h.read) h.written true stands), (at_end, omega (arith, h.spent, some)));
    left = (refl, true, stands);
  }

-- a run that stops, once it is known what was taken and what was written of the replies to that
stops_so : EchoLaws → (call : DriveCall) (why : Stop) (session : SessionValue) (input output : Device) (read written front later more : List ℕ) → HasRead read input → HasWritten written output
    → length read ≤ call.budget → ReadsInTurn call read written → call.first ++ read ≡ front ++ later → (why ≡ stop.WriteFault → later ≡ []) → IsEchoOfCall call front (written ++ more) session
    → Drives call (end_of_stop why) session input output
stops_so laws call stop.WriteFault session input output read written front later more reads writes within in_turn parts whole stands = record {
  read = read;
  written = written;
  has_read = reads;
  has_written = writes;
  within = within;
  in_turn = in_turn;
  driven = begins_answers laws call session read written front later more parts stands;
  left = (more, subst (λ (l : List ℕ). IsEchoOfCall call l (written ++ more) session) (sym (parts ∙ ap (λ (l : List ℕ). front ++ l) (whole refl) ∙ append-nil front)) stands);
}
stops_so laws call stop.NoMemory session input output read written front later more reads writes within in_turn parts whole stands = record {
  read = read;
  written = written;
  has_read = reads;
  has_written = writes;
  within = within;
  in_turn = in_turn;
  driven = begins_answers laws call session read written front later more parts stands;
  left = (front, more, later, parts, stands);
}

-- at `first`
pub stops_at_first : EchoLaws → (call : DriveCall) (why : Stop) (session : SessionValue) (input output : Device) → input.new ≡ input.old → AnswersPiece call [] [] call.first session output (Err why)
    → Drives call (end_of_stop why) session input output
stops_at_first laws call stop.WriteFault session input output same (failed, front, more, wrote, stands) =
    stops_so laws call stop.WriteFault session input output [] front call.first [] more (subst (λ (i : Option (List ℕ)). Consumes input.old i []) (sym same) (Consumes-nil input.old)) wrote (omega arith) (nothing_read call front) refl (λ e. refl) stands
stops_at_first laws call stop.NoMemory session input output same (failed, wrote, front, later, more, parts, stands) =
    stops_so laws call stop.NoMemory session input output [] [] front later more (subst (λ (i : Option (List ℕ)). Consumes input.old i []) (sym same) (Consumes-nil input.old)) wrote (omega arith) (nothing_read call [])
    (append-nil call.first ∙ parts) (λ e. absurd cc) stands

moved : (a b c d : Option (List ℕ)) (bytes : List ℕ) → a ≡ c → b ≡ d → Appends a b bytes → Appends c d bytes
moved a b c d bytes e f h = subst (λ (x : Option (List ℕ)). Appends c x bytes) f (subst (λ (x : Option (List ℕ)). Appends x b bytes) e h)

regrouped : (call : DriveCall) (session : SessionValue) (a b c d e f : List ℕ) → IsEchoOfCall call ((a ++ b) ++ c) (d ++ (e ++ f)) session → IsEchoOfCall call (a ++ (b ++ c)) ((d ++ e) ++ f) session
regrouped call session a b c d e f h =
    subst (λ (l : List ℕ). IsEchoOfCall call l ((d ++ e) ++ f) session) (append_assoc a b c)
    (subst (λ (l : List ℕ). IsEchoOfCall call ((a ++ b) ++ c) l session) (sym (append_assoc d e f)) h)

-- at a read
pub stops_at_read : EchoLaws → (call : DriveCall) (rest : ℕ) (old new : SessionValue) (input output last : Device) (i1 o1 : Option (List ℕ)) (piece : List ℕ) (why : Stop)
    → HasDriven call rest old input.old i1 output.old o1 → is_over old.status ≡ false → Consumes i1 input.new piece → length piece ≤ READ_SIZE → length piece ≤ rest
    → last.old ≡ o1 → last.new ≡ output.new
    → ((bytes put : List ℕ) → IsEchoOfCall call bytes put old → AnswersPiece call bytes put piece new last (Err why)) → Drives call (end_of_stop why) new input output
stops_at_read laws call rest old new input output last i1 o1 piece stop.WriteFault h going consumed bound fits before after answers =
    let (failed, front, more, wrote, stands) = answers (call.first ++ h.read) h.written h.stands in
    let wrote_all : Appends output.old output.new (h.written ++ front) = Appends-trans output.old o1 output.new h.written front h.has_written (moved last.old last.new o1 output.new front before after wrote) in
    stops_so laws call stop.WriteFault new input output (h.read ++ piece) (h.written ++ front) (call.first ++ (h.read ++ piece)) [] more (Consumes-trans input.old i1 input.new h.read piece h.has_read consumed)
    wrote_all (omega (arith, length-append h.read piece, h.spent)) (read_more laws call rest old input.old i1 output.old o1 h going piece front bound)
    (first_parts call (h.read ++ piece)) (λ e. refl) (regrouped call new call.first h.read piece h.written front more stands)
stops_at_read laws call rest old new input output last i1 o1 piece stop.NoMemory h going consumed bound fits before after answers =
    let (failed, wrote, front, later, more, parts, stands) = answers (call.first ++ h.read) h.written h.stands in
    let wrote_all : Appends output.old output.new (h.written ++ []) = Appends-trans output.old o1 output.new h.written [] h.has_written (moved last.old last.new o1 output.new [] before after wrote) in
    stops_so laws call stop.NoMemory new input output (h.read ++ piece) (h.written ++ []) ((call.first ++ h.read) ++ front) later more (Consumes-trans input.old i1 input.new h.read piece h.has_read consumed)
    wrote_all (omega (arith, length-append h.read piece, h.spent)) (read_more laws call rest old input.old i1 output.old o1 h going piece [] bound)
    (sym (append_assoc call.first h.read piece) ∙ ap (λ (l : List ℕ). (call.first ++ h.read) ++ l) parts ∙ sym (append_assoc (call.first ++ h.read) front later)) (λ e. absurd cc)
    (subst (λ (l : List ℕ). IsEchoOfCall call ((call.first ++ h.read) ++ front) (l ++ more) new) (sym (append-nil h.written)) stands)

-- which device has failed then
pub fair_stop : (call : DriveCall) (bytes put piece : List ℕ) (session : SessionValue) (why : Stop) (ended : DriveEnd) (input output last : Device) → ended ≡ end_of_stop why → AnswersPiece call bytes put piece session last (Err why)
    → last.failed ≡ output.failed → input.failed ≡ false → IsFairDriveEnd ended input output
fair_stop call bytes put piece session stop.WriteFault ended input output last e answers same works =
    subst (λ (d : DriveEnd). IsFairDriveEnd d input output) (sym e) (works, sym same ∙ answers.0)
fair_stop call bytes put piece session stop.NoMemory ended input output last e answers same works =
    subst (λ (d : DriveEnd). IsFairDriveEnd d input output) (sym e) (works, sym same ∙ answers.0)

-- nothing was given by a read that gave no byte
pub gave_nothing : (a b : Option (List ℕ)) (count : ℕ) (bytes : List ℕ) → count ≡ 0 → Consumes a b (take count bytes) → Consumes a b []
gave_nothing a b count bytes none h = subst (λ (n : ℕ). Consumes a b (take n bytes)) none h

-- a read gives no more bytes than it was asked for
pub gave_at_most : (count bound : ℕ) (bytes : List ℕ) → length bytes ≤ bound → length (take count bytes) ≤ bound
gave_at_most count bound bytes le = omega (arith, length-take count bytes)

pub gave_all : (count left : ℕ) (bytes : List ℕ) → count ≤ length bytes → length bytes ≤ left → length (take count bytes) + (left - count) ≡ left
gave_all count left bytes le fits = omega (arith, length-take-le count bytes le)
