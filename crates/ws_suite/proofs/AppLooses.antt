-- No Loose applies to an application that sends no close of its own: each is refuted by name.
use Rattle.std.proofs.Common.{◌≡◌, ◌∙◌, ℕ, ◌+◌, ◌<◌, ◌⊎◌, ◌||◌, Bool, true, false, if◌then◌else◌, List, [], ◌∷◌}
use Rattle.std.proofs.Common.{length, flat_map, Option, Some, None, MatchBool, ap, sym, refl, subst, arith, inl, inr}
use Rattle.std.proofs.lemmas.Bool.{both_ways, or_right}
use Rattle.std.specs.List.{concat}
use Rattle.ws_wire.specs.declared.role.Role.{Role}
use Rattle.ws_wire.specs.declared.role.Role.TheVariants.{Client, Server}
use Rattle.ws_wire.specs.Frame.{Frame}
use Rattle.ws_session.specs.declared.event.Event.{Event}
use Rattle.ws_session.specs.declared.event.Event.TheVariants as event
use Rattle.ws_session.specs.Events.{events_after}
use Rattle.ws_session.specs.Faults.{frames_of}
use Rattle.ws_session.specs.Replies.{has_close}
use Rattle.ws_session.specs.Sends.{most_limits}
use Rattle.ws_scripts.specs.declared.transcript.Ended.{Ended}
use Rattle.ws_scripts.specs.declared.transcript.Ended.TheVariants.{Tester, Peer, Broken}
use Rattle.ws_scripts.specs.declared.transcript.Transcript.{Transcript}
use Rattle.ws_suite.specs.declared.verdict.LooseWhy.{LooseWhy}
use Rattle.ws_suite.specs.declared.verdict.LooseWhy.TheVariants as loose
use Rattle.ws_suite.specs.declared.evidence.InTurn.{InTurn}
use Rattle.ws_suite.specs.declared.evidence.Ending.{Ending}
use Rattle.ws_suite.specs.declared.evidence.Ending.TheVariants.{Closed, Failed, Doomed}
use Rattle.ws_suite.specs.declared.evidence.Evidence.{Evidence}
use Rattle.ws_suite.specs.declared.evidence.marks.Marks.{Marks}
use Rattle.ws_suite.specs.Evidence.{AreEventsByTurn, ending_in, joined_events, sent_turns}
use Rattle.ws_suite.specs.AppFairness.{IsAppTranscript, SendsNoClose, go_on}
use Rattle.ws_suite.specs.Doom.{IsDoomOf, counts_doom}
use Rattle.ws_suite.specs.Marks.{IsLate}
use Rattle.ws_suite.specs.Matching.{IsCodeFor, ends_with_close, ends_with_fault, is_close_ending}
use Rattle.ws_suite.specs.Protocol.{HasOwnClose, HasToEnd, IsLooseByProtocol, is_size, is_tolerable, is_too_big}
use Rattle.ws_suite.specs.Verdicts.{EndsLate, HasOtherCode, IsEarlyClose}
use Rattle.ws_suite.specs.InnerEchoReplyLaws.{EchoReplyLaws}
use Rattle.ws_suite.proofs.AnsweredEvents.{has_end, is_end, over_by_end}
use Rattle.ws_suite.proofs.AnsweredTurns.{end_of_both}
use Rattle.ws_suite.proofs.AppDirections.{all_due, all_goes_on, all_told, closed_so_far, due_at_last, due_ends, due_goes_on, got_close, got_ends, told, told_close}
use Rattle.ws_suite.proofs.AppPongs.{skips_none, still_ends}
use Rattle.ws_suite.proofs.OneFault.{fault_is_told}
use Rattle.ws_suite.proofs.TurnEnds.{EndsInTurn, all_by_turn, last_ending, only_last_ends}
use Rattle.ws_suite.proofs.AppVerdicts.{IsCountedOf, lacks_none}
use Rattle.ws_suite.proofs.CloseReplies.{answered_rightly, ends_last}

-- ---- an application that sends no close of its own

abbrev what_of : Ending → Option (InTurn Ending) → Ending
what_of other None = other
what_of other (Some end) = end.what

abbrev turn_of : ℕ → Option (InTurn Ending) → ℕ
turn_of other None = other
turn_of other (Some end) = end.turn

not_broken : (b : Bool) → Broken ≡ (if b then Tester else Peer) → ⊥
not_broken true e = absurd cc
not_broken false e = absurd cc

ends_alone : (last : Event) → is_end last ≡ true → has_end (last ∷ []) ≡ true
ends_alone last e = ap (λ b. b || false) e

no_size : (what : Ending) → is_close_ending what ≡ true → is_size what ≡ false
no_size (Closed code) e = refl
no_size (Failed reason) e = absurd cc
no_size Doomed e = absurd cc

none_counts : (role : Role) (ended : Ended) (got : Option (InTurn Ending)) → ended ≡ Tester → ends_with_close got ≡ false → counts_doom role ended got ≡ false
none_counts Server ended got tester none = ap (λ (e : Ended). counts_doom Server e got) tester
none_counts Client ended got tester none = ap (λ (e : Ended). counts_doom Client e got) tester ∙ none

uncounted : (b : Bool) (role : Role) (turns : List (List ℕ)) (o : Option (InTurn Ending)) → b ≡ false → MatchBool b (IsDoomOf role turns o) (o ≡ None) → o ≡ None
uncounted true role turns o e counts = absurd (let wrong : true ≡ false = e in cc)
uncounted false role turns o e counts = counts

module _ (laws : EchoReplyLaws) (tested : Role) (transcript : Transcript) (app : IsAppTranscript tested transcript) (none : SendsNoClose tested transcript app) (due : List (List Event))
    (are : AreEventsByTurn tested (sent_turns transcript.turns) due) where
  abbrev all : ℕ
  all = length transcript.turns

  abbrev got : List (List Event)
  got = told tested transcript app

  -- where nothing ended what was sent, the tester ended the connection, and no close was got
  pub tester_ended : has_end (joined_events due) ≡ false → transcript.ended ≡ Tester
  tester_ended e = app.ended ∙ ap (λ b. if b then Tester else Peer) (all_goes_on tested transcript app laws due are false e)

  pub no_close_got : has_end (joined_events due) ≡ false → ends_with_close (last_ending got) ≡ false
  no_close_got e = got_close tested transcript app laws ∙ none.none (all_goes_on tested transcript app laws due are false e)

  pub no_doom : has_end (joined_events due) ≡ false → counts_doom tested transcript.ended (last_ending got) ≡ false
  no_doom e = none_counts tested transcript.ended (last_ending got) (tester_ended e) (no_close_got e)

  -- a close doesn't stand in an earlier turn than what it answers
  pub none_earlier : (at : EndsInTurn due (last_ending due)) (reply : EndsInTurn got (last_ending got)) → reply.turn < at.turn → ⊥
  none_earlier at reply earlier =
      let last = due_at_last tested transcript app laws due are at in
      let less : at.turn < all = omega (arith, last) in
      let over : go_on (app.events (at.turn + 1)) ≡ false = due_goes_on tested transcript app laws due are (at.turn + 1) (omega (arith, last)) true at.by_then in
      let there = still_ends (reply.turn + 1) at.turn got (omega (arith, earlier)) reply.by_then in
      both_ways (has_close (frames_of (app.sent at.turn))) (none.answers at.turn less over) (sym (closed_so_far tested transcript app at.turn (omega (arith, less))) ∙ there)

  pub no_early_close : IsEarlyClose (last_ending got) (last_ending due) → ⊥
  no_early_close early = elim (got_ends tested transcript app laws) [
    | inl nowhere ↦ subst (λ (o : Option (InTurn Ending)). IsEarlyClose o (last_ending due)) nowhere.is early
    | inr reply ↦
        let some = subst (λ (o : Option (InTurn Ending)). IsEarlyClose o (last_ending due)) reply.is early in
        elim (due_ends tested transcript app laws due are) [
          | inl nowhere ↦ subst (λ (o : Option (InTurn Ending)). IsEarlyClose (Some (record { turn = reply.turn; what = reply.what })) o) nowhere.is some
          | inr at ↦
              let both = subst (λ (o : Option (InTurn Ending)). IsEarlyClose (Some (record { turn = reply.turn; what = reply.what })) o) at.is some in
              none_earlier at reply both.1
        ]
  ]

  module _ (x : Evidence) (gots : x.got.ending ≡ last_ending got) (dues : x.due.ending ≡ last_ending due) where
    -- its code is right
    right_code : HasOtherCode x → ⊥
    right_code (reply, end, code, is_got, is_due, is, other) = elim (got_ends tested transcript app laws) [
      | inl nowhere ↦ absurd (let wrong : None ≡ Some reply = sym nowhere.is ∙ (sym gots ∙ is_got) in cc)
      | inr there ↦ elim (due_ends tested transcript app laws due are) [
        | inl nowhere ↦ absurd (let wrong : None ≡ Some end = sym nowhere.is ∙ (sym dues ∙ is_due) in cc)
        | inr at ↦
            let last = ends_last (joined_events due) (only_last_ends laws tested (sent_turns transcript.turns) due are) at.some in
            let over : go_on (last.1 ∷ []) ≡ false = ap (λ b. if b then false else true) (over_by_end [] (last.1 ∷ []) ((λ e. refl), tt) ∙ ends_alone last.1 last.3) in
            let answer = none.reply last.0 last.1 (sym (all_due tested transcript app laws due are) ∙ last.2) over in
            let due_what : at.what ≡ end.what = ap (λ (o : Option (InTurn Ending)). what_of at.what o) (sym at.is ∙ (sym dues ∙ is_due)) in
            let got_what : there.what ≡ reply.what = ap (λ (o : Option (InTurn Ending)). what_of there.what o) (sym there.is ∙ (sym gots ∙ is_got)) in
            let dues_are = ap (λ (l : List Event). flat_map ending_in l) (sym last.2) ∙ at.alone in
            let gots_are = ap (λ (l : List Frame). flat_map ending_in (events_after [] l)) (sym answer.1) ∙ (ap (λ (l : List Event). flat_map ending_in l) (sym (all_told tested transcript app)) ∙ there.alone) in
            other (subst (λ (w : Ending). IsCodeFor w code) due_what (answered_rightly last.0 last.1 answer.0 at.what there.what code last.3 dues_are gots_are (got_what ∙ is)))
      ]
    ]

    -- where nothing ended what was sent, nothing ends it as it counts
    none_due : x.due.ending ≡ None → has_end (joined_events due) ≡ false
    none_due e = elim (due_ends tested transcript app laws due are) [
      | inl nowhere ↦ nowhere.none
      | inr at ↦ absurd (let wrong : Some (record { turn = at.turn; what = at.what }) ≡ None = sym at.is ∙ (sym dues ∙ e) in cc)
    ]

    no_own_close : HasOwnClose x → ⊥
    no_own_close (inl h) = both_ways (ends_with_close x.got.ending) (ap (λ (o : Option (InTurn Ending)). ends_with_close o) gots ∙ no_close_got (none_due h.0)) h.1
    no_own_close (inr h) =
        no_early_close (subst (λ (o : Option (InTurn Ending)). IsEarlyClose (last_ending got) o) dues (subst (λ (o : Option (InTurn Ending)). IsEarlyClose o x.due.ending) gots h.0))

    -- what ended what was sent stands in the last turn
    no_late_end : x.turns ≡ all → EndsLate tested x → ⊥
    no_late_end turns (end, is, less, other) = elim (due_ends tested transcript app laws due are) [
      | inl nowhere ↦ absurd (let wrong : None ≡ Some end = sym nowhere.is ∙ (sym dues ∙ is) in cc)
      | inr at ↦
          let same : at.turn ≡ end.turn = ap (λ (o : Option (InTurn Ending)). turn_of at.turn o) (sym at.is ∙ (sym dues ∙ is)) in
          omega (arith, less, turns, same, due_at_last tested transcript app laws due are at)
    ]

    -- the tester ended the connection where nothing ended what was sent, and only there
    peer_ends : transcript.ended ≡ Tester → has_end (joined_events due) ≡ false
    peer_ends tester = pick (has_end (joined_events due)) refl
      where
        pick : (b : Bool) → has_end (joined_events due) ≡ b → b ≡ false
        pick false e = refl
        pick true e = absurd (let wrong : Peer ≡ Tester = sym (app.ended ∙ ap (λ c. if c then Tester else Peer) (all_goes_on tested transcript app laws due are true e)) ∙ tester in cc)

    nothing_due : has_end (joined_events due) ≡ false → x.due.ending ≡ None
    nothing_due e = dues ∙ elim (due_ends tested transcript app laws due are) as (λ _. last_ending due ≡ None) [
      | inl nowhere ↦ nowhere.is
      | inr at ↦ absurd (both_ways (has_end (joined_events due)) e at.some)
    ]

    not_too_big : is_too_big x.got.ending ≡ false
    not_too_big = ap (λ (o : Option (InTurn Ending)). is_too_big o) gots ∙ elim (got_ends tested transcript app laws) as (λ _. is_too_big (last_ending got) ≡ false) [
      | inl nowhere ↦ ap (λ (o : Option (InTurn Ending)). is_too_big o) nowhere.is
      | inr at ↦ ap (λ (o : Option (InTurn Ending)). is_too_big o) at.is ∙ no_size at.what (told_close tested transcript app at.what at.alone)
    ]

    no_fault_sent : has_end (joined_events due) ≡ false → IsLate tested (concat (sent_turns transcript.turns)) → ⊥
    no_fault_sent e late =
        let told = fault_is_told tested most_limits (concat (sent_turns transcript.turns)) (joined_events due) late.place late.reason (all_by_turn tested (sent_turns transcript.turns) due are) late.is_first in
        let ends : has_end (joined_events due) ≡ true =
        ap (λ (l : List Event). has_end l) told.1 ∙ (end_of_both told.0 (event.Failed late.reason ∷ []) ∙ or_right (has_end told.0) true refl) in
        both_ways (has_end (joined_events due)) e ends

    module _ (is : IsCountedOf tested transcript due got x) (marks : Marks) (late : marks.is_late ≡ true → IsLate tested (concat (sent_turns transcript.turns))) where
      ended_by : x.ended ≡ Tester → has_end (joined_events due) ≡ false
      ended_by tester = peer_ends (sym is.ended ∙ tester)

      -- where the tester ended the connection, nothing that was sent asks for an end
      nothing_asks : x.ended ≡ Tester → HasToEnd x marks → ⊥
      nothing_asks tester (inl closed) = both_ways false refl (sym (ap (λ (o : Option (InTurn Ending)). ends_with_close o) (nothing_due (ended_by tester))) ∙ closed)
      nothing_asks tester (inr faulty) = both_ways false refl (sym (ap (λ (o : Option (InTurn Ending)). ends_with_fault o) (nothing_due (ended_by tester))) ∙ faulty.0)

      closed_where_owed : ends_with_close x.got.ending ≡ false → (ends_with_close x.due.ending ≡ true) ⊎ (x.ended ≡ Tester) → HasToEnd x marks → ⊥
      closed_where_owed open_yet (inl closed) asks = lacks_none laws tested transcript app due are x is marks (closed, open_yet)
      closed_where_owed open_yet (inr tester) asks = nothing_asks tester asks

      pub nowhere_loose : (why : LooseWhy) → IsLooseByProtocol tested x marks why → ⊥
      nowhere_loose loose.PongsSkipped h = skips_none laws tested transcript app due are x is.dues is.pongs is.gots is.ending h
      nowhere_loose loose.PongElsewhere h = h
      nowhere_loose loose.OtherCode h = right_code h.0
      nowhere_loose loose.LateEnd h = no_late_end is.turns h.0
      nowhere_loose loose.EchoShort h = h
      nowhere_loose loose.BrokenEnd h = not_broken (go_on (app.events all)) (sym h ∙ (is.ended ∙ app.ended))
      nowhere_loose loose.OwnFault h = no_own_close h.0
      nowhere_loose loose.OwnClose h = no_own_close h.0
      nowhere_loose loose.OwnEnd h = absurd (let wrong : Tester ≡ Peer = sym (tester_ended (none_due h.0)) ∙ (sym is.ended ∙ h.2) in cc)
      nowhere_loose loose.LateFault h = no_fault_sent (ended_by h.2) (late h.0)
      nowhere_loose loose.Tolerated h = both_ways false refl (sym (ap (λ (o : Option (InTurn Ending)). is_tolerable o) (nothing_due (ended_by h.1))) ∙ h.0)
      nowhere_loose loose.NoClose h = closed_where_owed h.0 h.2 h.1
      nowhere_loose loose.BehindClose h = both_ways x.got.has_rest is.no_rest h.1
      nowhere_loose loose.TooBig h = both_ways (is_too_big x.got.ending) not_too_big h
