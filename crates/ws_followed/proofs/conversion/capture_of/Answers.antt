-- The heads, the turns and the end of what both sent are those of the segments.
use Rattle.std.proofs.Common.{◌∙◌, refl}
use Rattle.ws_followed.specs.Conversion.{IsFollowedCapture, LacksHeads}
use Rattle.ws_followed.proofs.HeadsOfEnds.{AreSent, ended_so, lacks_heads, opens_as, passed_on}
use Rattle.ws_followed.proofs.conversion.capture_of.Goals as goal

pub returns-in_err-heads : goal.returns-in_err-heads
returns-in_err-heads c =
    let segments = c.args.segments.now in
    let zero = c.as_slice.result.now in
    let one = c.as_slice-2.result.now in
    let sent : AreSent segments zero one =
    (c.as_slice.ensures ∙ c.in_ok-zero.ensures, c.as_slice-2.ensures ∙ c.in_ok-one.ensures) in
    let cause = c.in_err-heads.field-0.0 in
    passed_on (IsFollowedCapture c.args.judged segments) (LacksHeads segments) c.from_residual-in_err-heads.result cause
    c.from_residual-in_err-heads.ensures.1 (lacks_heads cause segments zero one sent c.in_err-heads.ensures)

pub returns : goal.returns
returns c =
    let segments = c.args.segments.now in
    let heads = c.in_ok-heads.heads in
    let zero = c.as_slice.result.now in
    let one = c.as_slice-2.result.now in
    let sent : AreSent segments zero one =
    (c.as_slice.ensures ∙ c.in_ok-zero.ensures, c.as_slice-2.ensures ∙ c.in_ok-one.ensures) in
    let zero_again = c.as_slice-3.result.now in
    let one_again = c.as_slice-4.result.now in
    let again : AreSent segments zero_again one_again =
    (c.as_slice-3.ensures ∙ c.in_ok-zero.ensures, c.as_slice-4.ensures ∙ c.in_ok-one.ensures) in
    let found = c.in_ok-heads.ensures in
    record {
      client = heads.client;
      to_server = heads.to_server;
      from_server = heads.from_server;
      heads = opens_as heads.client heads.to_server heads.from_server segments zero one sent found.request found.answer;
      key = refl;
      turns = c.in_ok-turns.ensures;
      ended = ended_so segments zero_again one_again heads c.ended_by-ended.result again c.ended_by-ended.ensures;
    }
