-- One piece more of the last turn, and what it is of progress.
use Rattle.std.proofs.Common.{◌∙◌, ◌++◌, ◌∷◌, [], List, ℕ, sym}
use Rattle.std.proofs.lemmas.List.{length-map}
use Rattle.std.specs.List.{concat}
use Rattle.ws_scripts.specs.declared.transcript.Turn.{Turn}
use Rattle.ws_suite.specs.Evidence.{got_in, got_turns, other_role}
use Rattle.ws_suite.specs.Progress.{after_pongs, has_progress}
use Rattle.ws_suite.specs.declared.evidence.collecting.Way.TheVariants.{Got}
use Rattle.ws_suite.proofs.GrowingLemmas.{all_handed, got_so_far, last_number, more_got, so_far}
use Rattle.ws_suite.proofs.ProgressLemmas.{adds_told, grown_so, progress_inside, progress_told, same_pings}
use Rattle.ws_suite.proofs.evidence.growing.RunEvidence.on_got.Goals as goal

pub returns-then-has_progress-clause-grown : goal.returns-then-has_progress-clause-grown
returns-then-has_progress-clause-grown c = λ tested before turn h.
    let number = last_number tested _ _ c.self.view_is before turn h c.saturating_sub-turn.result
    c.saturating_sub-turn.ensures ∙ sym (length-map before (λ (t : Turn). t.got)) in
    let old = so_far tested _ _ c.self.view_is before turn h in
    let taken = c.in_ok-has_progress.ensures.taken old.gots (other_role tested) (got_turns before) turn.got number
    (got_so_far tested _ _ c.self.view_is before turn h) in
    more_got tested _ _ c.self.view_is before turn h c.session_laws.ensures c.args.bytes.now _ _ _ _ _ _ taken
    c.hand_on.ensures.tally c.hand_on.ensures.fresh c.in_ok-take_got.ensures c.in_ok-note_got.ensures

pub returns-clause-grown : goal.returns-clause-grown
returns-clause-grown c = λ tested before turn h.
    let number = last_number tested _ _ c.self.view_is before turn h c.saturating_sub-turn.result
    c.saturating_sub-turn.ensures ∙ sym (length-map before (λ (t : Turn). t.got)) in
    let old = so_far tested _ _ c.self.view_is before turn h in
    let taken = c.in_ok-has_progress.ensures.taken old.gots (other_role tested) (got_turns before) turn.got number
    (got_so_far tested _ _ c.self.view_is before turn h) in
    more_got tested _ _ c.self.view_is before turn h c.session_laws.ensures c.args.bytes.now _ _ _ _ _ _ taken
    c.hand_on.ensures.tally c.hand_on.ensures.fresh c.in_ok-take_got.ensures c.in_ok-note_got.ensures

pub returns-then-has_progress-clause-noted : goal.returns-then-has_progress-clause-noted
returns-then-has_progress-clause-noted c = λ tested before turn h.
    let turns = before ++ turn ∷ [] in
    let grown = grown_so tested turns _ _ c.self.view_is h in
    let (later, tells, pings, told) = c.in_ok-has_progress.ensures.noted in
    record {
      later = later;
      adds = adds_told got_in (other_role tested) (got_turns turns) c.self.inside.got.session
          c.self.inside.got.collected grown.got c.take_watched.new.taken.session c.args.bytes.now later tells;
      pings = pings ∙ same_pings (λ (l : List (List ℕ)). after_pongs l later) _ _ c.self.view_is;
      progress = progress_told (other_role tested) c.args.self.now.pings (concat (got_turns turns)) c.args.bytes.now
          later c.in_ok-has_progress.has_progress
          (told ∙ same_pings (λ (l : List (List ℕ)). has_progress l later) _ _ c.self.view_is)
          c.if-has_progress.true;
    }

pub returns-clause-noted : goal.returns-clause-noted
returns-clause-noted c = λ tested before turn h.
    let number = last_number tested _ _ c.self.view_is before turn h c.saturating_sub-turn.result
    c.saturating_sub-turn.ensures ∙ sym (length-map before (λ (t : Turn). t.got)) in
    let old = so_far tested _ _ c.self.view_is before turn h in
    let taken = c.in_ok-has_progress.ensures.taken old.gots (other_role tested) (got_turns before) turn.got number
    (got_so_far tested _ _ c.self.view_is before turn h) in
    let now = all_handed got_in
    (other_role tested) _ _ _ old.gots _ c.hand_on.ensures.tally c.hand_on.ensures.fresh taken in
    let turns = before ++ turn ∷ [] in
    let grown = grown_so tested turns _ _ c.self.view_is h in
    let (later, tells, pings, told) = c.in_ok-has_progress.ensures.noted in
    record {
      later = later;
      adds = adds_told got_in (other_role tested) (got_turns turns) c.self.inside.got.session
          c.self.inside.got.collected grown.got c.take_watched.new.taken.session c.args.bytes.now later tells;
      pings = pings ∙ same_pings (λ (l : List (List ℕ)). after_pongs l later) _ _ c.self.view_is;
      progress = progress_inside (other_role tested) before turn c.args.bytes.now c.args.self.now.pings later
          c.in_ok-has_progress.has_progress c.is_in_other_frame.result
          (told ∙ same_pings (λ (l : List (List ℕ)). has_progress l later) _ _ c.self.view_is)
          c.if-has_progress.false (c.is_in_other_frame.ensures _ Got (other_role tested) _ now);
    }
