-- A connection that is served, from the head on.
use Rattle.std.proofs.Common.{◌≡◌, ℕ, inl, inr, List, [], ◌∷◌, ◌++◌, drop, Option, sym, ◌∙◌, subst}
use Rattle.std.specs.Io.KnownBytes.{Appends, Consumes, Keeps}
use Rattle.std.proofs.KnownBytes.{Appends-trans, Consumes-trans, Consumes-kept}
use Rattle.ws_wire.specs.declared.role.Role.{Role}
use Rattle.ws_wire.specs.declared.role.Role.TheVariants.{Server}
use Rattle.ws_frame.specs.Devices.{Device, HasRead, IsUntouched}
use Rattle.ws_session.specs.Limits.{LimitsValue}
use Rattle.ws_session.specs.Exchange.{SessionValue}
use Rattle.ws_upgrade.specs.declared.faults.HeadFault.{HeadFault}
use Rattle.ws_peer.specs.Driving.{Drives, IsDrivenTo, IsFairDriveEnd}
use Rattle.ws_peer.specs.declared.driving.DriveEnd.{DriveEnd}
use Rattle.ws_peer.specs.declared.driving.DriveEnd.TheVariants as end
use Rattle.ws_connection.specs.ReadingHeads.{ReadsHead}
use Rattle.ws_handshake.specs.Requests.{DecidesRequest, NeedsRequest}
use Rattle.ws_connection.specs.declared.reading_head.HeadEnd.TheVariants.{Decided}
use Rattle.ws_handshake.specs.declared.request_head.RequestDecision.{RequestDecision}
use Rattle.ws_handshake.specs.declared.request_head.RequestDecision.TheVariants.{Accepted, Refused as RefusedHead}
use Rattle.ws_connection.specs.declared.serving.Served.{Served}
use Rattle.ws_connection.specs.declared.serving.Served.TheVariants.{Ended, Refused, Stopped}
use Rattle.ws_connection.specs.Serving.{connection, ReadsRequest, ServesAccepted, Serves, DrivesAfter, AnswersAccepted, ServesDecision, served_by}
use Rattle.ws_handshake.specs.Admissions.{response_of}

-- ---- the response and the echo

fair_after : (ended : DriveEnd) (input last output : Device) → last.failed ≡ output.failed → IsFairDriveEnd ended input last → IsFairDriveEnd ended input output
fair_after (end.Done status) input last output e (a, b) = (a, sym e ∙ b)
fair_after end.ReadFault input last output e (a, b) = (a, sym e ∙ b)
fair_after end.WriteFault input last output e (a, b) = (a, sym e ∙ b)
fair_after end.Budget input last output e (a, b) = (a, sym e ∙ b)
fair_after end.NoMemory input last output e (a, b) = (a, sym e ∙ b)

-- what was driven after the response: `last` is the writer since then
pub after_response : (limits : LimitsValue) (budget : ℕ) (response first : List ℕ) (session : SessionValue) (input last output : Device) (ended : DriveEnd) → Appends output.old last.old response
    → last.new ≡ output.new → last.failed ≡ output.failed → Drives (connection limits budget first) ended session input last → IsFairDriveEnd ended input last → DrivesAfter limits budget response first ended input output
after_response limits budget response first session input last output ended wrote same failed d fair = record {
  read = d.read;
  has_read = d.has_read;
  within = d.within;
  written = d.written;
  has_written = Appends-trans output.old last.old output.new response d.written wrote (subst (λ (o : Option (List ℕ)). Appends last.old o d.written) same d.has_written);
  in_turn = d.in_turn;
  driven = d.driven;
  fair = fair_after ended input last output failed fair;
}

-- the echo of the connection is a server's, under these limits
pub at_connection : (limits : LimitsValue) (budget : ℕ) (first : List ℕ) (role : Role) (own : LimitsValue) (ended : DriveEnd) (session : SessionValue) (input output : Device) → role ≡ Server → own ≡ limits
    → Drives (record { role = role; limits = own; key = 0 ∷ 0 ∷ 0 ∷ 0 ∷ []; first = first; budget = budget }) ended session input output → Drives (connection limits budget first) ended session input output
at_connection limits budget first role own ended session input output r l d =
    subst (λ (x : LimitsValue). Drives (connection x budget first) ended session input output) l
    (subst (λ (x : Role). Drives (record { role = x; limits = own; key = 0 ∷ 0 ∷ 0 ∷ 0 ∷ []; first = first; budget = budget }) ended session input output) r d)

pub answered_by : (limits : LimitsValue) (budget : ℕ) (response first : List ℕ) (input output : Device) (ended : DriveEnd) (served : Served) → served ≡ served_by ended → DrivesAfter limits budget response first ended input output
    → AnswersAccepted limits budget response first served input output
answered_by limits budget response first input output ended served e d = subst (λ (s : Served). AnswersAccepted limits budget response first s input output) (sym e) (by ended d)
  where
    by : (ended : DriveEnd) → DrivesAfter limits budget response first ended input output → AnswersAccepted limits budget response first (served_by ended) input output
    by (end.Done status) d = d
    by end.ReadFault d = inr (end.ReadFault, (λ status bad. absurd (cc)), d)
    by end.WriteFault d = inr (end.WriteFault, (λ status bad. absurd (cc)), d)
    by end.Budget d = inr (end.Budget, (λ status bad. absurd (cc)), d)
    by end.NoMemory d = inr (end.NoMemory, (λ status bad. absurd (cc)), d)

-- ---- after the head

-- a head was read, and then a reader goes on from i1
module _ (limits : LimitsValue) (budget : ℕ) (known : List (List ℕ)) (head : List ℕ) (before input output : Device) where
  request : (decision : RequestDecision) → ReadsHead (NeedsRequest known) (DecidesRequest known) (Decided decision) head before → ReadsRequest known head decision
  request decision (read, bound, no_further, (decides, works)) = record { decides = decides; bound = bound; no_further = no_further }

  -- all that was read
  both : (decision : RequestDecision) (read : List ℕ) → ReadsHead (NeedsRequest known) (DecidesRequest known) (Decided decision) head before → Consumes before.new input.new read → input.old ≡ before.old → HasRead (head ++ read) input
  both decision read h more same = subst (λ (o : Option (List ℕ)). Consumes o input.new (head ++ read)) (sym same) (Consumes-trans before.old before.new input.new head read h.0 more)

  head_alone : (decision : RequestDecision) → ReadsHead (NeedsRequest known) (DecidesRequest known) (Decided decision) head before → Keeps before.new input.new → input.old ≡ before.old → HasRead head input
  head_alone decision h kept same = subst (λ (o : Option (List ℕ)). Consumes o input.new head) (sym same) (Consumes-kept before.old before.new input.new head h.0 kept)

fair_since : (ended : DriveEnd) (after input output : Device) → after.failed ≡ input.failed → IsFairDriveEnd ended after output → IsFairDriveEnd ended input output
fair_since (end.Done status) after input output e (a, b) = (sym e ∙ a, b)
fair_since end.ReadFault after input output e (a, b) = (sym e ∙ a, b)
fair_since end.WriteFault after input output e (a, b) = (sym e ∙ a, b)
fair_since end.Budget after input output e (a, b) = (sym e ∙ a, b)
fair_since end.NoMemory after input output e (a, b) = (sym e ∙ a, b)

-- the whole of a connection: `before` is the reader up to the head's end, `after` from there, and `input` from the first
module _ (limits : LimitsValue) (budget : ℕ) (known : List (List ℕ)) (head : List ℕ) (before after input output : Device) (begins : input.old ≡ before.old) (goes_on : after.old ≡ before.new) (ends : after.new ≡ input.new) (failed : after.failed ≡ input.failed) where
  since : (read : List ℕ) → HasRead read after → Consumes before.new input.new read
  since read h = subst (λ (o : Option (List ℕ)). Consumes o input.new read) goes_on (subst (λ (o : Option (List ℕ)). Consumes after.old o read) ends h)

  kept_since : IsUntouched after → Keeps before.new input.new
  kept_since h = subst (λ (o : Option (List ℕ)). Keeps o input.new) goes_on (subst (λ (o : Option (List ℕ)). Keeps after.old o) ends h)

  serves_accepted : (accept : List ℕ) (protocol : Option ℕ) (used : ℕ) (ended : DriveEnd) → ReadsHead (NeedsRequest known) (DecidesRequest known) (Decided (Accepted accept protocol used)) head before → DrivesAfter limits budget (response_of known accept protocol) (drop used head) ended after output
      → ServesAccepted limits budget known ended input output
  serves_accepted accept protocol used ended h d = record {
    head = head;
    accept = accept;
    protocol = protocol;
    used = used;
    is_head = request limits budget known head before input output (Accepted accept protocol used) h;
    read = d.read;
    has_read = both limits budget known head before input output (Accepted accept protocol used) d.read h (since d.read d.has_read) begins;
    within = d.within;
    written = d.written;
    has_written = d.has_written;
    in_turn = d.in_turn;
    driven = subst (λ (o : Option (List ℕ)). IsDrivenTo (connection limits budget (drop used head)) ended o d.read d.written) ends d.driven;
    fair = fair_since ended after input output failed d.fair;
  }

  pub serves : (decision : RequestDecision) (served : Served) → ReadsHead (NeedsRequest known) (DecidesRequest known) (Decided decision) head before → ServesDecision limits budget known decision head served after output → Serves limits budget known served input output
  serves (Accepted accept protocol used) (Ended status) h a = serves_accepted accept protocol used (end.Done status) h a
  serves (Accepted accept protocol used) (Refused fault) h a = absurd a
  serves (Accepted accept protocol used) Stopped h (inl (kept, works, begins_answer)) = inr (inl (
    head,
    Accepted accept protocol used,
    request limits budget known head before input output (Accepted accept protocol used) h,
    head_alone limits budget known head before input output (Accepted accept protocol used) h (kept_since kept) begins,
    sym failed ∙ works,
    begins_answer,
  ))
  serves (Accepted accept protocol used) Stopped h (inr (ended, stop, d)) = inr (inr (ended, stop, serves_accepted accept protocol used ended h d))
  serves (RefusedHead fault) (Ended status) h (a, kept, works) = absurd a
  serves (RefusedHead fault) (Refused other) h ((same, written, wrote), kept, works) = subst (λ (f : HeadFault). Serves limits budget known (Refused f) input output) (sym same) (record {
    head = head;
    is_head = request limits budget known head before input output (RefusedHead fault) h;
    has_read = head_alone limits budget known head before input output (RefusedHead fault) h (kept_since kept) begins;
    has_written = wrote;
    fair = (sym failed ∙ works, written);
  })
  serves (RefusedHead fault) Stopped h (a, kept, works) = inr (inl (
    head,
    RefusedHead fault,
    request limits budget known head before input output (RefusedHead fault) h,
    head_alone limits budget known head before input output (RefusedHead fault) h (kept_since kept) begins,
    sym failed ∙ works,
    a,
  ))
