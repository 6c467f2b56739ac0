-- The marks, and the close that counts, are of what is told of both directions.
use Rattle.std.proofs.Common.{◌≡◌, ◌∙◌, ◌↔◌, ℕ, Bool, true, false, drop, List, [], MatchBool, Option, sym, refl, subst}
use Rattle.std.proofs.Common.{inl}
use Rattle.std.specs.List.{concat}
use Rattle.ws_wire.specs.declared.role.Role.{Role}
use Rattle.ws_scripts.specs.declared.transcript.Turn.{Turn}
use Rattle.ws_suite.specs.Evidence.{got_turns, other_role, sent_turns}
use Rattle.ws_suite.specs.Explanation.{IsBeyondClose}
use Rattle.ws_suite.specs.InnerMarks.{IsTurnOfPlace}
use Rattle.ws_suite.specs.Marks.{AreControls, ArePongsBehind}
use Rattle.ws_suite.specs.Matching.{ends_with_close}
use Rattle.ws_suite.proofs.MarkedStreams.{beyond_close, evidence_counted, marks_are}
use Rattle.ws_suite.proofs.ToldLemmas.{all_asked, behind_told, got_told, sent_told}
use Rattle.ws_suite.proofs.evidence.marks.marked.Goals as goal
use Rattle.ws_suite.proofs.evidence.marks.marked.Goals.{then-is_closed, else-is_closed}

pub answers_behind-requires : goal.answers_behind-requires
answers_behind-requires c =
    got_told c.args.tested c.args.transcript.now c.args.streams c.args.transcript.now.turns c.in_ok-got.got
    c.requires.streams refl c.in_ok-got.ensures

pub returns-clause-behind : goal.returns-clause-behind
returns-clause-behind c =
    subst (λ (b : Bool). MatchBool b
    (ArePongsBehind (other_role c.args.tested) (got_turns c.args.transcript.now.turns) c.in_ok-behind.behind)
    (c.in_ok-behind.behind ≡ [])) c.ends_with_close-is_closed.ensures c.in_ok-behind.ensures

pub is_late-requires : goal.is_late-requires
is_late-requires c =
    all_asked c.args.tested (concat (sent_turns c.args.transcript.now.turns)) c.in_ok-sent.sent
    (sent_told c.args.tested c.args.transcript.now c.args.streams c.args.transcript.now.turns c.in_ok-sent.sent
    c.requires.streams refl c.in_ok-sent.ensures)

pub is_open-requires : goal.is_open-requires
is_open-requires c =
    all_asked (other_role c.args.tested) (concat (got_turns c.args.transcript.now.turns)) c.in_ok-got.got
    (got_told c.args.tested c.args.transcript.now c.args.streams c.args.transcript.now.turns c.in_ok-got.got
    c.requires.streams refl c.in_ok-got.ensures)

pub ends_in_data-requires : goal.ends_in_data-requires
ends_in_data-requires c =
    all_asked (other_role c.args.tested) (concat (got_turns c.args.transcript.now.turns)) c.in_ok-got.got
    (got_told c.args.tested c.args.transcript.now c.args.streams c.args.transcript.now.turns c.in_ok-got.got
    c.requires.streams refl c.in_ok-got.ensures)

pub behind-requires : goal.behind-requires
behind-requires c =
    all_asked (other_role c.args.tested) (concat (got_turns c.args.transcript.now.turns)) c.in_ok-got.got
    (got_told c.args.tested c.args.transcript.now c.args.streams c.args.transcript.now.turns c.in_ok-got.got
    c.requires.streams refl c.in_ok-got.ensures)

pub undefined_code-requires : goal.undefined_code-requires
undefined_code-requires c =
    all_asked (other_role c.args.tested) (concat (got_turns c.args.transcript.now.turns)) c.in_ok-got.got
    (got_told c.args.tested c.args.transcript.now c.args.streams c.args.transcript.now.turns c.in_ok-got.got
    c.requires.streams refl c.in_ok-got.ensures)

pub returns-clause-closed : goal.returns-clause-closed
returns-clause-closed c =
    let tested = c.args.tested in
    let told = got_told tested c.args.transcript.now c.args.streams c.args.transcript.now.turns c.in_ok-got.got
    c.requires.streams refl c.in_ok-got.ensures in
    evidence_counted tested c.args.transcript.now c.args.shown c.undefined_code.result c.requires.ending
    (c.undefined_code.ensures (other_role tested) (concat (got_turns c.args.transcript.now.turns)) told)
    c.with_close-evidence.result c.with_close-evidence.ensures

pub returns-clause-marks : goal.returns-clause-marks
returns-clause-marks c =
    let tested = c.args.tested in
    let role = other_role tested in
    let transcript = c.args.transcript.now in
    let sends = concat (sent_turns transcript.turns) in
    let gets = concat (got_turns transcript.turns) in
    let sent = c.in_ok-sent.sent in
    let got = c.in_ok-got.got in
    let told_sent = sent_told tested transcript c.args.streams c.args.transcript.now.turns sent c.requires.streams
    refl c.in_ok-sent.ensures in
    let told = got_told tested transcript c.args.streams c.args.transcript.now.turns got c.requires.streams
    refl c.in_ok-got.ensures in
    let right = c.are_controls.result in
    let at = c.behind.ensures ∙ behind_told role gets got told in
    let controls = subst (λ (r : Role). (right ≡ true) ↔ AreControls r (drop got.seen.after gets)) c.other.ensures
    (subst (λ (l : List ℕ). (right ≡ true) ↔ AreControls c.other.result l) at c.are_controls.ensures) in
    marks_are tested transcript sent.seen got.seen told_sent.is_seen told.is_seen _ c.came.ensures
    (c.is_late.ensures tested sends told_sent) (c.is_open.ensures role gets told)
    (c.ends_in_data.ensures role gets told) controls

pub returns-clause-beyond : goal.returns-clause-beyond
returns-clause-beyond c =
    let role = other_role c.args.tested in
    let turns = got_turns c.args.transcript.now.turns in
    let ending = c.with_close-evidence.result.got.ending in
    let got = c.in_ok-got.got in
    let told = got_told c.args.tested c.args.transcript.now c.args.streams c.args.transcript.now.turns got
    c.requires.streams refl c.in_ok-got.ensures in
    elim c.if-is_closed.branch [
      | then-is_closed w ↦
          let closes : ends_with_close ending ≡ true = sym c.ends_with_close-is_closed.ensures ∙ w.if-is_closed.true in
          let found = w.got_turn-beyond.ensures in
          subst (λ (o : Option ℕ). IsBeyondClose role turns ending o) (sym w.beyond-is)
          (beyond_close role (concat turns) got.seen told.is_seen turns refl ending closes w.got_turn-beyond.result
          found)
      | else-is_closed w ↦
          let open_end : ends_with_close ending ≡ false = sym c.ends_with_close-is_closed.ensures ∙ w.if-is_closed.false in
          subst (λ (o : Option ℕ). IsBeyondClose role turns ending o) (sym w.beyond-is) (inl open_end)
    ]
