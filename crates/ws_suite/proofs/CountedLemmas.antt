-- A close whose code is undefined counts as one: what is known of doom then, and of the evidence without pings.
use Rattle.std.proofs.Common.{◌≡◌, ◌∙◌, ℕ, Bool, List, Option, ap, sym, subst, inl, inr}
use Rattle.ws_wire.specs.declared.role.Role.{Role}
use Rattle.ws_scripts.specs.declared.transcript.Transcript.{Transcript}
use Rattle.ws_suite.specs.declared.evidence.InTurn.{InTurn}
use Rattle.ws_suite.specs.declared.evidence.Reply.{Reply}
use Rattle.ws_suite.specs.declared.evidence.Ending.{Ending}
use Rattle.ws_suite.specs.declared.evidence.Direction.{Direction}
use Rattle.ws_suite.specs.declared.evidence.Evidence.{Evidence}
use Rattle.ws_suite.specs.declared.evidence.doom.Dooms.{Dooms}
use Rattle.ws_suite.specs.Evidence.{IsEvidenceOf, by_turn, got_in}
use Rattle.ws_suite.specs.Doom.{HasDoomCounted}
use Rattle.ws_suite.specs.InnerDoom.{AreDooms, IsKnownAtClose}
use Rattle.ws_suite.specs.InnerJudging.{answers_among, without_pings}
use Rattle.ws_suite.specs.Marks.{CountsUndefinedCode, HasUndefinedCodeCounted}
use Rattle.ws_suite.proofs.TellingLemmas.{all_answers}

-- it stands in the turn of the fault for which it counts
known_of_counted : (role : Role) (bytes : List ℕ) (shown counted : Option (InTurn Ending)) (tested : Role)
    (sent : List (List ℕ)) (at_close : Bool) → CountsUndefinedCode role bytes shown counted
    → IsKnownAtClose tested sent shown at_close → IsKnownAtClose tested sent counted at_close
known_of_counted role bytes shown counted tested sent at_close (inl (turn, code, is, fails, counts)) known =
    subst (λ (end : Option (InTurn Ending)). IsKnownAtClose tested sent end at_close) (sym counts)
    (subst (λ (end : Option (InTurn Ending)). IsKnownAtClose tested sent end at_close) is known)
known_of_counted role bytes shown counted tested sent at_close (inr (none, same)) known =
    subst (λ (end : Option (InTurn Ending)). IsKnownAtClose tested sent end at_close) (sym same) known

pub dooms_of_counted : (role : Role) (bytes : List ℕ) (shown counted : Option (InTurn Ending)) (tested : Role)
    (sent : List (List ℕ)) (dooms : Dooms) → CountsUndefinedCode role bytes shown counted
    → AreDooms tested sent shown dooms → AreDooms tested sent counted dooms
dooms_of_counted role bytes shown counted tested sent dooms counts are = record {
  at_end = are.at_end;
  at_close = known_of_counted role bytes shown counted tested sent dooms.at_close counts are.at_close;
}

-- the pings that were got are no part of it
pub closed_without : (tested : Role) (transcript : Transcript) (shown closed : Evidence)
    → HasUndefinedCodeCounted tested transcript shown closed
    → HasUndefinedCodeCounted tested transcript (without_pings shown) (without_pings closed)
closed_without tested transcript shown closed h = record {
  due = h.due;
  replies = ap (λ (l : List (InTurn Reply)). answers_among l) h.replies;
  ending = h.ending;
  has_rest = h.has_rest;
  turns = h.turns;
  ended = h.ended;
  answers_doom = h.answers_doom;
}

-- the evidence of a transcript has none
pub none_counted : (tested : Role) (transcript : Transcript) (shown closed counted : Evidence)
    → IsEvidenceOf tested transcript shown → HasUndefinedCodeCounted tested transcript shown closed
    → HasDoomCounted tested transcript closed counted → without_pings counted ≡ counted
none_counted tested transcript shown closed counted h k c =
    let same : counted.got.replies ≡ by_turn got_in 0 h.got.events =
    ap (λ (d : Direction). d.replies) c.got ∙ (k.replies ∙ h.got.replies) in
    let all : answers_among counted.got.replies ≡ counted.got.replies =
    ap (λ (l : List (InTurn Reply)). answers_among l) same ∙ (all_answers 0 h.got.events ∙ sym same) in
    ap (λ (l : List (InTurn Reply)). record {
      due = counted.due;
      got = record { replies = l; ending = counted.got.ending; has_rest = counted.got.has_rest };
      turns = counted.turns;
      ended = counted.ended;
      answers_doom = counted.answers_doom;
    }) all
