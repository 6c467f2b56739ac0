-- The heads of what both ends sent are those of the segments.
use Rattle.std.proofs.Common.{◌≡◌, ℕ, List, subst, sym}
use Rattle.std.specs.Prelude.{IsErrAnd, MatchResult, Result, Ok, Err}
use Rattle.ws_wire.specs.declared.role.Role.{Role}
use Rattle.ws_upgrade.specs.Openings.{IsResponseTo}
use Rattle.ws_upgrade.specs.declared.responses.ResponseRead.{ResponseRead}
use Rattle.ws_upgrade.specs.declared.responses.ResponseRead.TheVariants.{Need, Refused}
use Rattle.ws_scripts.specs.declared.capture.Capture.{Capture}
use Rattle.ws_followed.specs.declared.conversion.FollowedFault.{FollowedFault}
use Rattle.ws_followed.specs.declared.conversion.FollowedFault.TheVariants.{CutResponse, Damaged, Missing, NoMemory}
use Rattle.ws_followed.specs.declared.conversion.FollowedFault.TheVariants.{NoRequest, Response}
use Rattle.ws_scripts.specs.declared.transcript.Ended.{Ended}
use Rattle.ws_followed.specs.declared.conversion.Heads.{Heads}
use Rattle.ws_followed.specs.declared.segment.Node.{Node}
use Rattle.ws_followed.specs.declared.segment.Node.TheVariants.{Zero, One}
use Rattle.ws_followed.specs.declared.segment.Segment.{Segment}
use Rattle.ws_followed.specs.Conversion.{BeginsWithOpening, BothHoldClose, EndsFollowed, HasFollowedFault}
use Rattle.ws_followed.specs.Conversion.{HasResponseRead, IsFollowedCapture, IsWholeText, LacksHeads, OpensAs, other_node}
use Rattle.ws_followed.specs.InnerConversion.{AcceptsOpening, HoldCloses, IsOpening, IsOpeningOf, LackHeads, bytes_beside}
use Rattle.ws_followed.specs.InnerConversion.{IsUnanswered, bytes_by}
use Rattle.ws_followed.specs.Turns.{bytes_from}

-- what an end and the other sent
abbrev pub AreSent : List Segment → List ℕ → List ℕ → Type 0
AreSent segments zero one = (zero ≡ bytes_from Zero segments) × (one ≡ bytes_from One segments)

sent_by : (node : Node) (segments : List Segment) (zero one : List ℕ) → AreSent segments zero one
    → (bytes_by node zero one ≡ bytes_from node segments)
    × (bytes_beside node zero one ≡ bytes_from (other_node node) segments)
sent_by Zero segments zero one sent = (sent.0, sent.1)
sent_by One segments zero one sent = (sent.1, sent.0)

pub opens_as : (client : Node) (to_server from_server : ℕ) (segments : List Segment) (zero one : List ℕ)
    → AreSent segments zero one → IsOpeningOf (bytes_by client zero one) to_server
    → AcceptsOpening (bytes_by client zero one) (bytes_beside client zero one) from_server
    → OpensAs segments client to_server from_server
opens_as client to_server from_server segments zero one sent opening answer =
    let (here, beside) = sent_by client segments zero one sent in
    record {
      request = subst (λ (l : List ℕ). IsOpeningOf l to_server) here opening;
      answer = subst (λ (l : List ℕ). AcceptsOpening (bytes_from client segments) l from_server) beside
          (subst (λ (l : List ℕ). AcceptsOpening l (bytes_beside client zero one) from_server) here answer);
    }

answered_so : (client : Node) (read : ResponseRead) (segments : List Segment) (zero one : List ℕ)
    → AreSent segments zero one → IsResponseTo (bytes_by client zero one) (bytes_beside client zero one) read
    → HasResponseRead client segments read
answered_so client read segments zero one sent told =
    let (here, beside) = sent_by client segments zero one sent in
    subst (λ (l : List ℕ). IsResponseTo (bytes_from client segments) l read) beside
    (subst (λ (l : List ℕ). IsResponseTo l (bytes_beside client zero one) read) here told)

opened_so : (client : Node) (len : ℕ) (segments : List Segment) (zero one : List ℕ) → AreSent segments zero one
    → IsOpeningOf (bytes_by client zero one) len → BeginsWithOpening client segments len
opened_so client len segments zero one sent opening =
    subst (λ (l : List ℕ). IsOpeningOf l len) (sent_by client segments zero one sent).0 opening

-- what is wrong with a response is wrong with the heads
pub unanswered : (client : Node) (zero one : List ℕ) (fault : FollowedFault) → IsOpening (bytes_by client zero one)
    → IsUnanswered (bytes_by client zero one) (bytes_beside client zero one) fault → LackHeads zero one fault
unanswered client zero one (Damaged number) opening is = is
unanswered client zero one (Missing number) opening is = is
unanswered client zero one NoRequest opening is = absurd is
unanswered client zero one CutResponse opening is = (client, opening, is)
unanswered client zero one (Response fault) opening is = (client, opening, is)
unanswered client zero one NoMemory opening is = tt

-- what is wrong with the heads of both is wrong with those of the segments
pub lacks_heads : (fault : FollowedFault) (segments : List Segment) (zero one : List ℕ) → AreSent segments zero one
    → LackHeads zero one fault → LacksHeads segments fault
lacks_heads (Damaged number) segments zero one sent lack = lack
lacks_heads (Missing number) segments zero one sent lack = lack
lacks_heads NoRequest segments zero one sent lack = λ node len opening.
    lack node len (subst (λ (l : List ℕ). IsOpeningOf l len) (sym (sent_by node segments zero one sent).0) opening)
lacks_heads CutResponse segments zero one sent (client, (len, opening), cut) = (
  client,
  len,
  opened_so client len segments zero one sent opening,
  answered_so client Need segments zero one sent cut,
)
lacks_heads (Response fault) segments zero one sent (client, (len, opening), refused) = (
  client,
  len,
  opened_so client len segments zero one sent opening,
  answered_so client (Refused fault) segments zero one sent refused,
)
lacks_heads NoMemory segments zero one sent lack = tt

-- what is wrong with the heads is wrong with the text
pub text_lacks : (fault : FollowedFault) (segments : List Segment) (text : List ℕ) → IsWholeText segments text
    → LacksHeads segments fault → HasFollowedFault text fault
text_lacks (Damaged number) segments text is lack = absurd lack
text_lacks (Missing number) segments text is lack = absurd lack
text_lacks NoRequest segments text is lack = (segments, is, lack)
text_lacks CutResponse segments text is lack = (segments, is, lack)
text_lacks (Response fault) segments text is lack = (segments, is, lack)
text_lacks NoMemory segments text is lack = tt

pub told_whole : (judged : Role) (segments : List Segment) (text : List ℕ) → IsWholeText segments text
    → (result : Result Capture FollowedFault) → MatchResult result (IsFollowedCapture judged segments) (LacksHeads segments)
    → MatchResult result (λ capture. (all : List Segment) × IsWholeText all text × IsFollowedCapture judged all capture)
    (HasFollowedFault text)
told_whole judged segments text is (Ok capture) told = (segments, is, told)
told_whole judged segments text is (Err fault) told = text_lacks fault segments text is told

-- what a cause says is said of the fault that is handed on
pub passed_on : {T : Type 0} (Is : T → Type 0) (Says : FollowedFault → Type 0) (result : Result T FollowedFault)
    (cause : FollowedFault) → IsErrAnd result (λ fault. fault ≡ cause) → Says cause → MatchResult result Is Says
passed_on Is Says (Ok value) cause is says = absurd is
passed_on Is Says (Err fault) cause is says = subst Says (sym is) says

-- how the connection ended
pub ended_so : (segments : List Segment) (zero one : List ℕ) (heads : Heads) (ended : Ended)
    → AreSent segments zero one → EndsFollowed (HoldCloses zero one heads) ended
    → EndsFollowed (BothHoldClose segments heads.client heads.to_server heads.from_server) ended
ended_so segments zero one heads ended sent ends =
    let (here, beside) = sent_by heads.client segments zero one sent in
    rw (← here, ← beside) ends
