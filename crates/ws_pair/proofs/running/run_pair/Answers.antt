-- The moves are played one after the other, and so all that is claimed of the two ends of a run holds of its report.
use Rattle.std.proofs.Common.{◌≡◌, ◌+◌, ◌++◌, List, [], ◌∷◌, ap, sym, ◌∙◌, subst, arith, take}
use Rattle.std.proofs.lemmas.List.{take_all, take_more}
use Rattle.ws_pair.specs.declared.moves.Move.{Move}
use Rattle.ws_pair.specs.declared.report.Answer.{Answer}
use Rattle.ws_pair.specs.Link.{BothLimits, new_link}
use Rattle.ws_pair.specs.Moves.{Plays}
use Rattle.ws_pair.specs.Headline.{both_limits}
use Rattle.ws_pair.proofs.OnePlay.{plays_more}
use Rattle.ws_pair.proofs.Headlines.{IsReportOf, AreClaimed, are_claimed}
use Rattle.ws_pair.proofs.running.run_pair.Goals as goal

pub loop-next-preserved : goal.loop-next-preserved
loop-next-preserved c =
    let limits : BothLimits = both_limits c.args.client c.args.server in
    let moves = c.args.moves.now in
    let i = c.loop-next.next-index in
    let before = c.loop-next.invariant in
    let next = c.in_ok-answer.ensures limits before.0 before.2 in
    let all : take i moves ++ c.next-item.result ∷ [] ≡ take (i + 1) moves = ap (λ (m : Move). take i moves ++ m ∷ []) c.next-item.is ∙ sym (take_more moves i c.next-item.result c.loop-next-test.true) in
    let plays : Plays limits new_link (take i moves ++ c.next-item.result ∷ []) (c.loop-next.answers.items ++ c.in_ok-answer.answer ∷ []) next.0 =
    plays_more limits new_link (take i moves) c.next-item.result c.loop-next.answers.items c.in_ok-answer.answer before.0 next.0 before.1 next.1 in
    (next.0, subst (λ (l : List Answer). Plays limits new_link (take (i + 1) moves) l next.0) (sym c.in_ok-push.ensures.items) (subst (λ (l : List Move). Plays limits new_link l (c.loop-next.answers.items ++ c.in_ok-answer.answer ∷ []) next.0) all plays), next.2)

-- all moves were played
played : (c : goal.After-into_report-2) → Plays (both_limits c.args.client c.args.server) new_link c.args.moves.now c.loop-next.answers.items c.loop-next.invariant.0
played c =
    subst (λ (l : List Move). Plays (both_limits c.args.client c.args.server) new_link l c.loop-next.answers.items c.loop-next.invariant.0) (take_all c.loop-next.next-index c.args.moves.now (omega (arith, c.loop-next-test.false))) c.loop-next.invariant.1

client_report : (c : goal.After-into_report-2) → IsReportOf c.loop-next.client c.into_report.result
client_report c = record { put = c.into_report.ensures.put; reached = c.into_report.ensures.reached; delivered = c.into_report.ensures.delivered; status = c.into_report.ensures.status; session = c.into_report.ensures.session }

server_report : (c : goal.After-into_report-2) → IsReportOf c.loop-next.server c.into_report-2.result
server_report c = record { put = c.into_report-2.ensures.put; reached = c.into_report-2.ensures.reached; delivered = c.into_report-2.ensures.delivered; status = c.into_report-2.ensures.status; session = c.into_report-2.ensures.session }

claims : (c : goal.After-into_report-2) → AreClaimed (both_limits c.args.client c.args.server) c.args.moves.now (record { answers = c.loop-next.answers; client = c.into_report.result; server = c.into_report-2.result })
claims c =
    are_claimed c.session_laws.ensures (both_limits c.args.client c.args.server) c.args.moves.now c.loop-next.client c.loop-next.server (record { answers = c.loop-next.answers; client = c.into_report.result; server = c.into_report-2.result })
    (client_report c) (server_report c) c.loop-next.invariant.0 (played c) c.loop-next.invariant.2

pub returns-clause-delivered : goal.returns-clause-delivered
returns-clause-delivered c = (claims c).delivered

pub returns-clause-clean : goal.returns-clause-clean
returns-clause-clean c = (claims c).clean

pub returns-clause-nothing_after_close : goal.returns-clause-nothing_after_close
returns-clause-nothing_after_close c = (claims c).nothing_after_close

pub returns-clause-put : goal.returns-clause-put
returns-clause-put c = (claims c).put

pub returns-clause-reached : goal.returns-clause-reached
returns-clause-reached c = (claims c).reached

pub returns-clause-status : goal.returns-clause-status
returns-clause-status c = (claims c).status

pub returns-clause-session : goal.returns-clause-session
returns-clause-session c = (claims c).session
