-- One turn more was taken both ways, and at the end all.
use Rattle.std.proofs.Common.{◌≡◌, ◌∙◌, [], ◌+◌, ◌<◌, ◌≤◌, ◌↔◌, ◌&&◌, ℕ, Bool, List, Option, ap, ap₂, length, map}
use Rattle.std.proofs.Common.{false, take, take_all, sym, subst, refl, arith}
use Rattle.std.proofs.lemmas.List.{length-map}
use Rattle.std.specs.Prelude.{IsTrue}
use Rattle.std.specs.List.{concat}
use Rattle.ws_wire.specs.declared.role.Role.{Role}
use Rattle.ws_scripts.specs.declared.transcript.Turn.{Turn}
use Rattle.ws_scripts.specs.Pieces.{lent_turn}
use Rattle.ws_scripts.proofs.WalkLemmas.{is_there, others_left, within}
use Rattle.ws_suite.specs.declared.evidence.InTurn.{InTurn}
use Rattle.ws_suite.specs.declared.evidence.Ending.{Ending}
use Rattle.ws_suite.specs.declared.evidence.collecting.Way.TheVariants.{Sent}
use Rattle.ws_suite.specs.Evidence.{IsDirectionOf, other_role, sent_turns}
use Rattle.ws_suite.specs.Explanation.{IsBeyondBy}
use Rattle.ws_suite.specs.Growing.{AreAll}
use Rattle.ws_suite.specs.InnerCollecting.{HasTakenWay, found_by, way_bytes}
use Rattle.ws_suite.specs.InnerDoom.{AreDoomed, IsDoomedAtEnd, IsKnownAtClose}
use Rattle.ws_suite.specs.InnerMarks.{HasSeenBytes, IsSeen}
use Rattle.ws_suite.specs.Matching.{ends_with_close}
use Rattle.ws_suite.proofs.SeenStreams.{seen_of_all, seen_turn}
use Rattle.ws_suite.proofs.TellingLemmas.{beyond_step, direction_taken, known_at_start, known_step, nothing_beyond}
use Rattle.ws_suite.proofs.TellingLemmas.{turn_taken}
use Rattle.ws_suite.proofs.TurnBytes.{bytes_before}
use Rattle.ws_suite.proofs.evidence.telling.shown_by.Goals as goal

-- as many are to come as there are
whole_len : {walk turns : List Turn} → walk ≡ turns → length walk ≡ length turns
whole_len e = ap (λ (l : List Turn). length l) e

pub loop-number-init : goal.loop-number-init
loop-number-init c =
    let turns = c.args.transcript.now.turns in
    let way = c.args.way in
    let got = c.nothing_taken-got in
    let is_got = subst (λ (r : Role). HasTakenWay AreAll way r [] got.result.session got.result.collected)
    c.other.ensures got.ensures.taken in
    record {
      sent = c.nothing_taken-sent.ensures.taken;
      got = is_got;
      sent_seen = c.nothing_taken-sent.ensures.seen;
      got_seen = subst (λ (r : Role). HasSeenBytes r got.result.session [] got.result.seen) c.other.ensures
          got.ensures.seen;
      left = c.turns-walk.ensures;
      beyond = nothing_beyond (other_role c.args.tested) (found_by way) (map (way_bytes way) turns);
      known = known_at_start way (other_role c.args.tested) got.result.session got.result.collected is_got
          c.args.tested (sent_turns turns) false;
    }

pub loop-number-preserved : goal.loop-number-preserved
loop-number-preserved c =
    let turns = c.args.transcript.now.turns in
    let way = c.args.way in
    let tested = c.args.tested in
    let tester = other_role tested in
    let i = c.loop-number.number in
    let turn = lent_turn c.take_first-turn.result in
    let others = c.take_first-turn.new.self in
    let at = sym c.take_first-turn.ensures ∙ c.loop-number.invariant.left in
    let is = is_there turns i turn others at in
    let loop = c.loop-number in
    let old = c.loop-number.invariant in
    let put = c.take_piece.new.taken in
    let new = c.take_piece-in-loop-number.new.taken in
    let less = within turns i turn others at in
    let sent = turn_taken Sent tested turns i turn turn.sent loop.sent.session put.session
    loop.sent.collected put.collected less is refl
    (λ before last count h. c.in_ok-take_piece.ensures.taken [] tested before last count h) old.sent in
    let got = turn_taken way tester turns i turn c.bytes_of.result.now loop.got.session new.session
    loop.got.collected new.collected less is c.bytes_of.ensures
    (λ before last count h. c.in_ok-take_piece-2.ensures.taken [] tester before last count h) old.got in
    let tells : c.goes_on.result ≡ (ends_with_close got.shown.ending && got.shown.has_rest) = c.goes_on.ensures
    ∙ ap₂ (λ (o : Option (InTurn Ending)) (b : Bool). ends_with_close o && b) got.ending got.has_rest in
    let all = map (way_bytes way) turns in
    let ends = c.ends_in_turn-ends in
    let asked = c.doom_at_close-at_close in
    record {
      sent = sent;
      got = got;
      sent_seen = seen_turn Sent tested turns i turn turn.sent put.session put.seen less is
          refl
          (c.in_ok-take_piece.ensures.seen tested (bytes_before (way_bytes Sent) turns i) old.sent_seen);
      got_seen = seen_turn way tester turns i turn c.bytes_of.result.now new.session new.seen less is
          c.bytes_of.ensures
          (c.in_ok-take_piece-2.ensures.seen tester (bytes_before (way_bytes way) turns i) old.got_seen);
      beyond = subst (λ (o : Option ℕ). IsBeyondBy tester (found_by way) all (i + 1) o)
          (sym c.first_beyond-beyond.ensures)
          (beyond_step c.session_laws.ensures tester (found_by way) all i got.shown got.is_shown loop.beyond
          c.goes_on.result tells old.beyond);
      left = others_left turns i turn others at;
      known = known_step c.session_laws.ensures way tester turns i turn loop.got.session new.session
          loop.got.collected new.collected less is old.got got tested (sent_turns turns) ends.result loop.at_close
          asked.result ends.ensures
          (λ yes. asked.ensures.asked yes tested (take (i + 1) (sent_turns turns)) sent) asked.ensures.kept old.known;
    }

-- at the end: all turns were taken
all_taken : (tested : Role) (turns : List Turn) (i : ℕ) (r : Bool) → length turns ≤ i
    → (IsTrue r ↔ AreDoomed tested (concat (take i (sent_turns turns))))
    → (IsTrue r ↔ IsDoomedAtEnd tested (sent_turns turns))
all_taken tested turns i r all tells =
    let sent = sent_turns turns in
    let count : length sent ≡ length turns = length-map turns (λ (turn : Turn). turn.sent) in
    let whole : take i sent ≡ take (length sent) sent =
    take_all i sent (omega (arith, all, count)) ∙ sym (take_all (length sent) sent (omega arith)) in
    subst (λ (l : List (List ℕ)). IsTrue r ↔ AreDoomed tested (concat l)) whole tells

pub returns-clause-evidence : goal.returns-clause-evidence
returns-clause-evidence c =
    let turns = c.args.transcript.now.turns in
    let way = c.args.way in
    let tested = c.args.tested in
    let tester = other_role tested in
    let i = c.loop-number.number in
    let loop = c.loop-number in
    let old = c.loop-number.invariant in
    let all : length turns ≤ i = omega
    (arith, c.loop-number-test.false, c.loop-number.auto.number-end, c.len-count.ensures, whole_len c.turns-walk.ensures) in
    let due = c.direction_of in
    let got = c.direction_of-2 in
    record {
      due = direction_taken Sent tested turns i loop.sent.session loop.sent.collected due.result all
          due.ensures.replies due.ensures.ending due.ensures.has_rest old.sent;
      got = direction_taken way tester turns i loop.got.session loop.got.collected got.result all got.ensures.replies
          got.ensures.ending got.ensures.has_rest old.got;
      turns = c.len-count.ensures ∙ ap (λ (l : List Turn). length l) c.turns-walk.ensures;
      ended = c.ended.ensures;
      uncounted = refl;
    }

pub returns-clause-dooms : goal.returns-clause-dooms
returns-clause-dooms c =
    let turns = c.args.transcript.now.turns in
    let tested = c.args.tested in
    let i = c.loop-number.number in
    let loop = c.loop-number in
    let old = c.loop-number.invariant in
    let ends = c.is_doomed-at_end in
    let all : length turns ≤ i = omega
    (arith, c.loop-number-test.false, c.loop-number.auto.number-end, c.len-count.ensures, whole_len c.turns-walk.ensures) in
    let at_end = all_taken tested turns i ends.result all (ends.ensures tested (take i (sent_turns turns)) old.sent) in
    record {
      at_end = at_end;
      at_close = subst (λ (o : Option (InTurn Ending)). IsKnownAtClose tested (sent_turns turns) o loop.at_close)
          (sym c.direction_of-2.ensures.ending) old.known;
    }

pub returns-clause-beyond : goal.returns-clause-beyond
returns-clause-beyond c =
    let turns = c.args.transcript.now.turns in
    let way = c.args.way in
    let tester = other_role c.args.tested in
    let loop = c.loop-number in
    let end : c.loop-number.number ≡ length turns = omega
    (arith, c.loop-number-test.false, c.loop-number.auto.number-end, c.len-count.ensures, whole_len c.turns-walk.ensures) in
    subst (λ (n : ℕ). IsBeyondBy tester (found_by way) (map (way_bytes way) turns) n loop.beyond) end
    c.loop-number.invariant.beyond

pub returns-clause-streams : goal.returns-clause-streams
returns-clause-streams c =
    let turns = c.args.transcript.now.turns in
    let way = c.args.way in
    let tested = c.args.tested in
    let i = c.loop-number.number in
    let loop = c.loop-number in
    let old = c.loop-number.invariant in
    let all : length turns ≤ i = omega
    (arith, c.loop-number-test.false, c.loop-number.auto.number-end, c.len-count.ensures, whole_len c.turns-walk.ensures) in
    record {
      sent = seen_of_all Sent tested turns i loop.sent.session loop.sent.seen all old.sent_seen;
      got = seen_of_all way (other_role tested) turns i loop.got.session loop.got.seen all old.got_seen;
    }
