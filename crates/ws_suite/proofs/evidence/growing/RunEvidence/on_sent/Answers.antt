-- One piece more of the last turn, and its pings.
use Rattle.std.proofs.Common.{◌∙◌, ◌++◌, ◌∷◌, [], List, ℕ, sym}
use Rattle.std.proofs.lemmas.List.{length-map}
use Rattle.ws_scripts.specs.declared.transcript.Turn.{Turn}
use Rattle.ws_suite.specs.Evidence.{due_for, sent_turns}
use Rattle.ws_suite.specs.Progress.{with_pings}
use Rattle.ws_suite.proofs.GrowingLemmas.{due_so_far, last_number, more_sent, so_far}
use Rattle.ws_suite.proofs.ProgressLemmas.{adds_told, grown_so, same_pings}
use Rattle.ws_suite.proofs.evidence.growing.RunEvidence.on_sent.Goals as goal

pub returns-clause-grown : goal.returns-clause-grown
returns-clause-grown c = λ tested before turn h.
    let number = last_number tested _ _ c.self.view_is before turn h c.saturating_sub-number.result
    c.saturating_sub-number.ensures ∙ sym (length-map before (λ (t : Turn). t.sent)) in
    let old = so_far tested _ _ c.self.view_is before turn h in
    let taken = c.in_ok-take_watched.ensures.taken old.dues tested (sent_turns before) turn.sent number
    (due_so_far tested _ _ c.self.view_is before turn h) in
    more_sent tested _ _ c.self.view_is before turn h c.session_laws.ensures c.args.bytes.now _ _ _ _ _ _ taken
    c.hand_on.ensures.tally c.hand_on.ensures.fresh c.in_ok-take_due.ensures c.in_ok-note_due.ensures

pub returns-clause-noted : goal.returns-clause-noted
returns-clause-noted c = λ tested before turn h.
    let turns = before ++ turn ∷ [] in
    let grown = grown_so tested turns _ _ c.self.view_is h in
    let (later, tells, pings, told) = c.in_ok-take_watched.ensures.noted in
    record {
      later = later;
      adds = adds_told due_for tested (sent_turns turns) c.self.inside.sent.session c.self.inside.sent.collected
          grown.due c.take_watched.new.taken.session c.args.bytes.now later tells;
      pings = pings ∙ same_pings (λ (l : List (List ℕ)). with_pings l later) _ _ c.self.view_is;
    }
