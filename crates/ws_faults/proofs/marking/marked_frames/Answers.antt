-- Turn after turn both directions are taken; in the end the marks are those of all their bytes.
use Rattle.std.proofs.Common.{arith, ◌∙◌, ◌≡◌, ◌+◌, ◌++◌, ◌∷◌, [], ℕ, List, append-nil, ap, drop, length, subst, sym, take}
use Rattle.std.proofs.Common.{take_all}
use Rattle.std.proofs.lemmas.List.Concat.{flat_map-append}
use Rattle.std.specs.List.{flat_map}
use Rattle.ws_wire.specs.declared.role.Role.{Role}
use Rattle.ws_scripts.specs.declared.transcript.Transcript.{Transcript}
use Rattle.ws_scripts.specs.declared.transcript.Turn.{Turn}
use Rattle.ws_scripts.specs.Pieces.{lent_turn}
use Rattle.ws_scripts.proofs.WalkLemmas.{one_more_done, others_left}
use Rattle.ws_suite.specs.Evidence.{other_role}
use Rattle.ws_faults.specs.Finding.{HasSearched}
use Rattle.ws_faults.specs.PayloadFaults.{IsMarkOf}
use Rattle.ws_faults.proofs.marking.marked_frames.Goals as goal

-- the bytes of one turn more
one_more : (f : Turn → List ℕ) (turns others : List Turn) (i : ℕ) (turn : Turn) → turn ∷ others ≡ drop i turns
    → flat_map f (take i turns) ++ f turn ≡ flat_map f (take (i + 1) turns)
one_more f turns others i turn at =
    sym (ap (λ (l : List Turn). flat_map f l) (one_more_done turns i turn others at)
    ∙ flat_map-append f (take i turns) (turn ∷ [])
    ∙ ap (λ (l : List ℕ). flat_map f (take i turns) ++ l) (append-nil (f turn)))

pub loop-number-init : goal.loop-number-init
loop-number-init g c =
    let left = c.turns-walk.ensures ∙ ap (λ (t : Transcript). t.turns) c.as_transcript.ensures in
    record {
      sent = c.new-sent.ensures.begun;
      got = subst (λ (r : Role). HasSearched r c.new-got.result []) c.other.ensures c.new-got.ensures.begun;
      walk = left;
      count = c.len-number-end.ensures ∙ ap (λ (l : List Turn). length l) left;
    }

pub loop-number-preserved : goal.loop-number-preserved
loop-number-preserved g c =
    let turns = (g.T.AsTranscript.transcript c.args.transcript.now).turns in
    let i = c.loop-number._number in
    let turn = lent_turn c.take_first-turn.result in
    let others = c.take_first-turn.new.self in
    let old = c.loop-number.invariant in
    let at = sym c.take_first-turn.ensures ∙ old.walk in
    let tester = other_role c.args.tested in
    record {
      sent = subst (λ (l : List ℕ). HasSearched c.args.tested c.take.new.self l)
          (one_more (λ (t : Turn). t.sent) turns others i turn at) (c.in_ok-take.ensures.taken c.args.tested _ old.sent);
      got = subst (λ (l : List ℕ). HasSearched tester c.take-in-loop-number.new.self l)
          (one_more (λ (t : Turn). t.got) turns others i turn at) (c.in_ok-take-2.ensures.taken tester _ old.got);
      walk = others_left turns i turn others at;
      count = old.count;
    }

pub returns : goal.returns
returns g c =
    let turns = (g.T.AsTranscript.transcript c.args.transcript.now).turns in
    let i = c.loop-number._number in
    let old = c.loop-number.invariant in
    let tester = other_role c.args.tested in
    let all : take i turns ≡ turns = take_all i turns (omega (arith, c.loop-number-test.false, old.count)) in
    record {
      sent = subst (λ (l : List Turn). IsMarkOf c.args.tested (flat_map (λ (t : Turn). t.sent) l) c.fault.result) all
          (c.fault.ensures.found c.args.tested _ old.sent);
      got = subst (λ (l : List Turn). IsMarkOf tester (flat_map (λ (t : Turn). t.got) l) c.fault-2.result) all
          (c.fault-2.ensures.found tester _ old.got);
    }
