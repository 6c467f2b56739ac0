-- The pongs that count: those before the close that was got, and the right ones behind it.
use Rattle.std.proofs.Common.{◌≡◌, ◌∙◌, ◌&&◌, List, ◌++◌, ap, ap₂, nat_le, subst, sym, true}
use Rattle.std.proofs.lemmas.List.Elements.{filter-append}
use Rattle.ws_suite.specs.declared.evidence.InTurn.{InTurn}
use Rattle.ws_suite.specs.declared.evidence.Reply.{Reply}
use Rattle.ws_suite.specs.declared.evidence.marks.MarkedEvidence.{MarkedEvidence}
use Rattle.ws_suite.specs.declared.judging.noted.Noted.{Noted}
use Rattle.ws_suite.specs.InnerJudging.{answers_among}
use Rattle.ws_suite.specs.InnerMarks.{AreLastTurns, AreMet, counted_of, is_answered_by}
use Rattle.ws_suite.specs.Matching.{due_pongs, got_pongs, has_payload_of, is_pong, pong_replies}
use Rattle.ws_suite.proofs.TellingLemmas.{same_pongs}
use Rattle.ws_suite.proofs.TestLemmas.{all_so, any_in_front}

pub counted_pongs : (m : MarkedEvidence) → pong_replies m.evidence.got.replies ++ pong_replies m.behind
    ≡ got_pongs (counted_of m)
counted_pongs m =
    ap (λ (l : List (InTurn Reply)). l ++ pong_replies m.behind) (same_pongs m.evidence.got.replies)
    ∙ sym (filter-append (λ x. is_pong x.what) (answers_among m.evidence.got.replies) m.behind)

-- the last turns of both are those of all
pub counted_turns : (m : MarkedEvidence) (before behind : List (InTurn Reply)) (turns : Noted)
    → before ≡ pong_replies m.evidence.got.replies → behind ≡ pong_replies m.behind
    → AreLastTurns (before ++ behind) turns → AreLastTurns (got_pongs (counted_of m)) turns
counted_turns m before behind turns is are last =
    subst (λ (l : List (InTurn Reply)). AreLastTurns l turns)
    (ap₂ (λ (a b : List (InTurn Reply)). a ++ b) is are ∙ counted_pongs m) last

-- what is answered by some of them is answered
met_more : (dues gots more : List (InTurn Reply)) → AreMet dues gots → AreMet dues (gots ++ more)
met_more dues gots more met =
    all_so (λ due. is_answered_by gots due ≡ true) (λ due. is_answered_by (gots ++ more) due ≡ true)
    (λ due e. any_in_front (λ got. has_payload_of got due && nat_le due.turn got.turn) gots more e) dues met

pub met_counted : (m : MarkedEvidence) → AreMet (due_pongs m.evidence) (got_pongs m.evidence)
    → AreMet (due_pongs (counted_of m)) (got_pongs (counted_of m))
met_counted m met =
    subst (λ (l : List (InTurn Reply)). AreMet (due_pongs m.evidence) l) (counted_pongs m)
    (met_more (due_pongs m.evidence) (got_pongs m.evidence) (pong_replies m.behind) met)
