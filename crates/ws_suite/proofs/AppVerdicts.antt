-- By the protocol no Fail is the verdict on an application that keeps it: each is refuted by name.
use Rattle.std.proofs.Common.{◌≡◌, ◌≢◌, ◌∙◌, ℕ, Bool, true, false, if◌then◌else◌, List, ◌++◌}
use Rattle.std.proofs.Common.{length, Option, Some, None, MatchBool, ap, sym, refl, subst, arith, inl, inr}
use Rattle.std.proofs.lemmas.Bool.{both_ways}
use Rattle.ws_wire.specs.declared.role.Role.{Role}
use Rattle.ws_wire.specs.declared.role.Role.TheVariants.{Client, Server}
use Rattle.ws_session.specs.declared.event.Event.{Event}
use Rattle.ws_session.specs.Faults.{frames_of}
use Rattle.ws_session.specs.Replies.{has_close}
use Rattle.ws_scripts.specs.declared.transcript.Ended.{Ended}
use Rattle.ws_scripts.specs.declared.transcript.Ended.TheVariants.{Tester, Peer}
use Rattle.ws_scripts.specs.declared.transcript.Transcript.{Transcript}
use Rattle.ws_suite.specs.declared.verdict.FailWhy.{FailWhy}
use Rattle.ws_suite.specs.declared.verdict.FailWhy.TheVariants as fail
use Rattle.ws_suite.specs.declared.evidence.InTurn.{InTurn}
use Rattle.ws_suite.specs.declared.evidence.Reply.{Reply}
use Rattle.ws_suite.specs.declared.evidence.Ending.{Ending}
use Rattle.ws_suite.specs.declared.evidence.Evidence.{Evidence}
use Rattle.ws_suite.specs.declared.evidence.marks.Marks.{Marks}
use Rattle.ws_suite.specs.Evidence.{AreEventsByTurn, by_turn, due_for, got_in, joined_events, sent_turns}
use Rattle.ws_suite.specs.AppFairness.{IsAppTranscript, go_on}
use Rattle.ws_suite.specs.Doom.{CountsAs, IsDoomOf, counts_doom}
use Rattle.ws_suite.specs.Matching.{ends_with_close, ends_with_fault, is_close_ending}
use Rattle.ws_suite.specs.Protocol.{FailsProtocol, IsItsEnd, LacksClose}
use Rattle.ws_suite.specs.InnerEchoReplyLaws.{EchoReplyLaws}
use Rattle.ws_suite.proofs.AnsweredEvents.{has_end}
use Rattle.ws_suite.proofs.AppDirections.{all_goes_on, due_ends, got_close, got_no_fault, told}
use Rattle.ws_suite.proofs.AppPongs.{last_is_answered}
use Rattle.ws_suite.proofs.TurnEnds.{last_ending}

-- ---- how doom counts

-- what is doomed counts at the tester's end for a client alone, whose close was got
doom_its_end_by : (b : Bool) (tested : Role) (turns : List (List ℕ)) (due : Option (InTurn Ending)) → MatchBool b (IsDoomOf tested turns due) (due ≡ None) → due ≢ None → b ≡ true
doom_its_end_by true tested turns due counts some = refl
doom_its_end_by false tested turns due counts some = absurd (some counts)

-- ---- the evidence of an application's transcript

-- as it counts: what was sent and what was got have these events, turn by turn; some pongs may count behind these
pub record IsCountedOf (tested : Role) (transcript : Transcript) (due got : List (List Event)) (x : Evidence) : Type 0 where
  pub dues : x.due.replies ≡ by_turn due_for 0 due
  pub pongs : List (InTurn Reply)
  pub gots : x.got.replies ≡ by_turn got_in 0 got ++ pongs
  pub ending : x.got.ending ≡ last_ending got
  pub no_rest : x.got.has_rest ≡ false
  pub counts : CountsAs tested transcript x.got.ending (last_ending due) x.due.ending
  pub turns : x.turns ≡ length transcript.turns
  pub ended : x.ended ≡ transcript.ended

module _ (laws : EchoReplyLaws) (tested : Role) (transcript : Transcript) (app : IsAppTranscript tested transcript) (due : List (List Event)) (are : AreEventsByTurn tested (sent_turns transcript.turns) due)
    (x : Evidence) (is : IsCountedOf tested transcript due (told tested transcript app) x) (marks : Marks) where
  -- ---- the end

  got_close_is : ends_with_close x.got.ending ≡ has_close (frames_of (app.sent (length transcript.turns)))
  got_close_is = ap (λ (o : Option (InTurn Ending)). ends_with_close o) is.ending ∙ got_close tested transcript app laws

  no_fault : ends_with_fault x.got.ending ≡ false
  no_fault = ap (λ (o : Option (InTurn Ending)). ends_with_fault o) is.ending ∙ got_no_fault tested transcript app laws

  -- where the tester ended the connection, neither close nor fault was sent
  goes_on_at_tester : (b : Bool) → go_on (app.events (length transcript.turns)) ≡ b → transcript.ended ≡ Tester → b ≡ true
  goes_on_at_tester true e tester = refl
  goes_on_at_tester false e tester = absurd (let wrong : Peer ≡ Tester = sym (app.ended ∙ ap (λ c. if c then Tester else Peer) e) ∙ tester in cc)

  tester_goes_on : x.ended ≡ Tester → go_on (app.events (length transcript.turns)) ≡ true
  tester_goes_on tester = goes_on_at_tester (go_on (app.events (length transcript.turns))) refl (sym is.ended ∙ tester)

  no_end_by : (b : Bool) → has_end (joined_events due) ≡ b → go_on (app.events (length transcript.turns)) ≡ true → b ≡ false
  no_end_by false e on = refl
  no_end_by true e on = absurd (let wrong : false ≡ true = sym (all_goes_on tested transcript app laws due are true e) ∙ on in cc)

  -- and then nothing but doom ends what was sent
  none_sent : go_on (app.events (length transcript.turns)) ≡ true → last_ending due ≡ None
  none_sent on = elim (due_ends tested transcript app laws due are) [
    | inl nowhere ↦ nowhere.is
    | inr at ↦ absurd (both_ways (has_end (joined_events due)) (no_end_by (has_end (joined_events due)) refl on) at.some)
  ]

  counts_none : go_on (app.events (length transcript.turns)) ≡ true → CountsAs tested transcript x.got.ending None x.due.ending
  counts_none on = subst (λ (o : Option (InTurn Ending)). CountsAs tested transcript x.got.ending o x.due.ending) (none_sent on) is.counts

  its_end_by : (role : Role) → counts_doom role Tester x.got.ending ≡ true → IsItsEnd role x → ⊥
  its_end_by Server e its = absurd (let wrong : false ≡ true = e in cc)
  its_end_by Client e open_yet = both_ways (ends_with_close x.got.ending) open_yet e

  -- so at the tester's end it was a client, of which no end is asked
  not_its_end : x.ended ≡ Tester → x.due.ending ≢ None → IsItsEnd tested x → ⊥
  not_its_end tester some =
      let counts = doom_its_end_by (counts_doom tested transcript.ended x.got.ending) tested (sent_turns transcript.turns) x.due.ending (counts_none (tester_goes_on tester)) some in
      its_end_by tested (ap (λ (e : Ended). counts_doom tested e x.got.ending) (sym (sym is.ended ∙ tester)) ∙ counts)

  some_close : ends_with_close x.due.ending ≡ true → x.due.ending ≢ None
  some_close e none = both_ways false refl (sym (ap (λ (o : Option (InTurn Ending)). ends_with_close o) none) ∙ e)

  some_fault : ends_with_fault x.due.ending ≡ true → x.due.ending ≢ None
  some_fault e none = both_ways false refl (sym (ap (λ (o : Option (InTurn Ending)). ends_with_fault o) none) ∙ e)

  -- ---- a close that was sent

  no_doomed_close : (b : Bool) (role : Role) (turns : List (List ℕ)) (o : Option (InTurn Ending)) → MatchBool b (IsDoomOf role turns o) (o ≡ None) → ends_with_close o ≡ false
  no_doomed_close false role turns o none = ap (λ (p : Option (InTurn Ending)). ends_with_close p) none
  no_doomed_close true role turns None doom = refl
  no_doomed_close true role turns (Some end) doom = ap (λ (e : Ending). is_close_ending e) doom.0

  -- what counts as a close was sent as one, so the session doesn't go on
  close_ends : ends_with_close x.due.ending ≡ true → go_on (app.events (length transcript.turns)) ≡ false
  close_ends e = pick (go_on (app.events (length transcript.turns))) refl
    where
      pick : (b : Bool) → go_on (app.events (length transcript.turns)) ≡ b → b ≡ false
      pick false on = refl
      pick true on = absurd (both_ways (ends_with_close x.due.ending) (no_doomed_close (counts_doom tested transcript.ended x.got.ending) tested (sent_turns transcript.turns) x.due.ending (counts_none on)) e)

  -- and is answered
  pub lacks_none : LacksClose x → ⊥
  lacks_none lacks =
      let over : go_on (app.events (length transcript.turns)) ≡ false = close_ends lacks.0 in
      both_ways (ends_with_close x.got.ending) lacks.1 (got_close_is ∙ app.closes (length transcript.turns) (omega arith) over)

  -- ---- no Fail

  pub fails_nowhere : (why : FailWhy) → FailsProtocol tested x marks why → ⊥
  fails_nowhere fail.NotFrames (inl h) = both_ways (ends_with_fault x.got.ending) no_fault h.0
  fails_nowhere fail.NotFrames (inr (inl h)) = both_ways x.got.has_rest is.no_rest h.1
  fails_nowhere fail.NotFrames (inr (inr h)) = both_ways x.got.has_rest is.no_rest h.3
  fails_nowhere fail.Early h = h
  fails_nowhere fail.Messages h = h
  fails_nowhere fail.Pongs h = h.0.1 (last_is_answered laws tested transcript app due are x is.dues is.pongs is.gots is.ending h.0.0)
  fails_nowhere fail.Close h = lacks_none h.0
  fails_nowhere fail.End (inl closed, tester, size, free, its) = not_its_end tester (some_close closed) its
  fails_nowhere fail.End (inr faulty, tester, size, free, its) = not_its_end tester (some_fault faulty.0) its
