-- What a finder has found after an event more, and that it is the frame whose payload is the first fault.
use Rattle.std.proofs.Common.{◌≡◌, ◌∙◌, ℕ, ◌+◌, Bool, true, false, List, ◌++◌, take, Option, None, Some, ap, sym, refl}
use Rattle.std.proofs.Common.{inl, inr, subst}
use Rattle.std.specs.Prelude.{if◌then◌else◌}
use Rattle.ws_wire.specs.declared.role.Role.{Role}
use Rattle.ws_session.specs.declared.event.Event.{Event}
use Rattle.ws_session.specs.declared.payload_room.EventKind.{EventKind}
use Rattle.ws_session.specs.declared.payload_room.EventKind.TheVariants as lent
use Rattle.ws_session.specs.declared.reason.Reason.{Reason}
use Rattle.ws_session.specs.Events.{HasEvents}
use Rattle.ws_session.specs.Exchange.{is_over}
use Rattle.ws_session.specs.Lent.{event_if_any, event_in}
use Rattle.ws_session.specs.Replies.{reply_to}
use Rattle.ws_session.specs.Sends.{most_limits}
use Rattle.ws_session.specs.Taking.{HasTaken, TakesNothing}
use Rattle.ws_session.proofs.Faults.{one_fault}
use Rattle.ws_suite.specs.declared.evidence.streams.Seen.{Seen}
use Rattle.ws_suite.specs.declared.evidence.streams.StreamEnd.{StreamEnd}
use Rattle.ws_suite.specs.declared.evidence.streams.StreamEnd.TheVariants as stream
use Rattle.ws_suite.specs.Found.{is_of_payload}
use Rattle.ws_suite.specs.InnerMarks.{EndsSo, HasSeenBytes, seen_if_any, seen_more, seen_with}
use Rattle.ws_suite.proofs.SeenStreams.{is_seen, seen_step}
use Rattle.ws_suite.proofs.StreamEndLemmas.{fault_is_told}
use Rattle.ws_faults.specs.declared.finding.FaultFinder.{FaultFinder}
use Rattle.ws_faults.specs.Finding.{HasSearched, fault_after, fault_of_end, finder_after}
use Rattle.ws_faults.specs.PayloadFaults.{IsMarkOf}

-- ---- one event more

seen_place : (s : Seen) (e : EventKind) → (seen_with s e).place ≡ s.place
seen_place s lent.Part = refl
seen_place s (lent.Message kind) = refl
seen_place s lent.Ping = refl
seen_place s lent.Pong = refl
seen_place s (lent.Close code) = refl
seen_place s (lent.Failed reason) = refl

seen_after : (s : Seen) (e : EventKind) → (seen_with s e).after ≡ s.place
seen_after s lent.Part = refl
seen_after s (lent.Message kind) = refl
seen_after s lent.Ping = refl
seen_after s lent.Pong = refl
seen_after s (lent.Close code) = refl
seen_after s (lent.Failed reason) = refl

-- of a stream that has not ended
seen_fault : (s : Seen) (e : EventKind) → s.end ≡ None
    → fault_after e s.after (fault_of_end s.end s.last) ≡ fault_of_end (seen_with s e).end (seen_with s e).last
seen_fault s lent.Part going = refl
seen_fault s (lent.Message kind) going = refl
seen_fault s lent.Ping going = refl
seen_fault s lent.Pong going = refl
seen_fault s (lent.Close code) going = ap (λ (o : Option StreamEnd). fault_of_end o s.last) going
seen_fault s (lent.Failed reason) going = refl

-- a finder takes the front of a piece, behind the bytes that it took before; so its session tells this
module _ (role : Role) (old mid : FaultFinder) (bytes piece key x y payload : List ℕ) (used : ℕ)
    (told : Option EventKind)
    (took : HasTaken reply_to old.session mid.session (record { piece = piece; key = key; before = x; after = y })
    (record { used = used; event = event_if_any told payload }))
    (nothing : is_over old.session.status ≡ true → TakesNothing old.session mid.session
    (record { piece = piece; key = key; before = x; after = y })
    (record { used = used; event = event_if_any told payload }))
    (place : mid.place ≡ old.place + used) (after : mid.after ≡ old.after) (fault : mid.fault ≡ old.fault)
    (h : HasSearched role old bytes) where
  abbrev more : Seen
  more = seen_more h.seen used

  here : mid.place ≡ more.place
  here = place ∙ ap (λ (n : ℕ). n + used) h.place

  searched_so : (o : Option EventKind) → told ≡ o → HasSeenBytes role mid.session (bytes ++ take used piece)
      (seen_if_any more o) → HasSearched role (finder_after mid o) (bytes ++ take used piece)
  searched_so None none step =
      record { seen = more; is_seen = step; place = here; after = after ∙ h.after; fault = fault ∙ h.fault }
  searched_so (Some e) some step =
      let told_it : event_if_any told payload ≡ Some (event_in e payload) =
      ap (λ (o : Option EventKind). event_if_any o payload) some in
      let going : h.seen.end ≡ None = elim h.is_seen.over [
        | inl going_on ↦ going_on
        | inr over ↦
            absurd (let wrong : Some (event_in e payload) ≡ None = sym told_it ∙ (nothing over).event in cc)
      ] in record {
        seen = seen_with more e;
        is_seen = step;
        place = here ∙ sym (seen_place more e);
        after = here ∙ sym (seen_after more e);
        fault = ap (λ (n : ℕ). fault_after e n mid.fault) (after ∙ h.after)
            ∙ ap (λ (o : Option ℕ). fault_after e h.seen.after o) (fault ∙ h.fault) ∙ seen_fault more e going;
      }

  pub searched : HasSearched role (finder_after mid told) (bytes ++ take used piece)
  searched = searched_so told refl
      (seen_step role old.session mid.session bytes piece key x y h.seen h.is_seen
      (record { used = used; event = event_if_any told payload }) took nothing told payload refl)

-- ---- what is found

found_by : (role : Role) (bytes : List ℕ) (events : List Event) (last : ℕ) (reason : Reason) (b : Bool)
    → is_of_payload reason ≡ b → EndsSo role bytes events (Some (stream.Failed reason)) last
    → IsMarkOf role bytes (if b then Some last else None)
found_by role bytes events last reason true is (at, first, begins) =
    record { told_at = at; reason = reason; is_first = first; of_payload = is; begins = sym begins }
found_by role bytes events last reason false is (at, first, begins) = λ other_place other f.
    ap (λ (r : Reason). is_of_payload r) (sym (one_fault role most_limits bytes at other_place reason other first f).1)
    ∙ is

found_in_end : (role : Role) (bytes : List ℕ) (events : List Event) (o : Option StreamEnd) (last : ℕ)
    → HasEvents role most_limits bytes events → EndsSo role bytes events o last
    → IsMarkOf role bytes (fault_of_end o last)
found_in_end role bytes events None last has ends = λ place reason f.
    absurd (let wrong : None ≡ Some (stream.Failed reason) =
    fault_is_told role bytes events None last has ends place reason f in cc)
found_in_end role bytes events (Some stream.Closed) last has ends = λ place reason f. absurd (ends.1 reason place f)
found_in_end role bytes events (Some (stream.Failed reason)) last has ends =
    found_by role bytes events last reason (is_of_payload reason) refl ends

pub found_so : (role : Role) (finder : FaultFinder) (bytes : List ℕ) → HasSearched role finder bytes
    → IsMarkOf role bytes finder.fault
found_so role finder bytes h =
    let seen = is_seen role finder.session bytes h.seen h.is_seen in
    subst (λ (o : Option ℕ). IsMarkOf role bytes o) (sym h.fault)
    (found_in_end role bytes seen.events h.seen.end h.seen.last seen.are_events seen.ends)
