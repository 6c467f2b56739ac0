-- One move at an end of a link.
use Rattle.std.proofs.Common.{◌≡◌, ℕ, ◌+◌, ◌-◌, List, [], ◌∷◌, length, take, min, cond, Result, Ok, Err, refl, sym, ap, ◌∙◌, subst}
use Rattle.std.specs.Prelude.{map, OnOk, OnErr, IfOk, IfErr}
use Rattle.std.specs.declared.alloc.Global.{Global}
use Rattle.std.specs.declared.vec.Vec.{Vec}
use Rattle.ws_session.specs.declared.session.Session.{Session}
use Rattle.std.proofs.lemmas.List.{append-nil}
use Rattle.ws_wire.specs.Frame.{KeyedFrame, stream_bytes}
use Rattle.ws_session.specs.declared.status.Status.{Status}
use Rattle.ws_session.specs.declared.send_fault.SendFault.{SendFault}
use Rattle.ws_session.specs.declared.send_fault.SendFault.TheVariants as fault
use Rattle.ws_session.specs.Faults.{frames_of}
use Rattle.ws_session.specs.Replies.{replies_of, under_key}
use Rattle.ws_session.specs.Sends.{Send, frame_of, HasTextReason, MaySend, IsFirstWrong, HasSent, IsRefusedBy}
use Rattle.ws_session.specs.Exchange.{Exchange}
use Rattle.ws_pair.specs.declared.moves.End.{End}
use Rattle.ws_pair.specs.declared.moves.End.TheVariants.{Client, Server}
use Rattle.ws_pair.specs.declared.moves.Move.{Move}
use Rattle.ws_pair.specs.declared.moves.Move.TheVariants.{Arrive, Cut}
use Rattle.ws_pair.specs.declared.report.Answer.{Answer}
use Rattle.ws_pair.specs.declared.report.Answer.TheVariants as outcome
use Rattle.ws_pair.specs.declared.endpoint.Endpoint.{Endpoint}
use Rattle.ws_pair.specs.Link.{LinkEnd, Link, BothLimits, other, role_at, end_of, limits_at, with_end, status_at}
use Rattle.ws_pair.specs.Moves.{side_of, with_sent, IsSendMoveAnswered, newly_told, count_arriving, with_cut, IsMoveAnswered}
use Rattle.ws_pair.specs.InnerPlaying.{IsToldOf, peer, AreSentBy, IsEnd, grown, IsEndAt, HasSentMove, HasMoved, LawsOfEachSession}
use Rattle.ws_pair.proofs.Ends.{status_is, sent_by, unchanged}

same_link : (link : Link) (side : End) → with_end link side (end_of link side) ≡ link
same_link link Client = refl
same_link link Server = refl

-- the endpoint stands as the end of the link after the move
pub stands_at : (limits : BothLimits) (link : Link) (side : End) (x : LinkEnd) (w : Endpoint) → IsEnd (role_at side) (limits_at limits side) x (end_of link (other side)).sent w → IsEndAt limits (with_end link side x) side w
stands_at limits link Client x w h = h
stands_at limits link Server x w h = h

-- what a move at an end promises
abbrev pub Acts : Endpoint → Endpoint → List ℕ → Answer → Move → Type 0
Acts v w others answer move = (limits : BothLimits) (link : Link) → IsEndAt limits link (side_of move) v → AreSentBy (peer (role_at (side_of move))) (end_of link (other (side_of move))).sent
    → others ≡ stream_bytes (end_of link (other (side_of move))).sent → HasMoved limits link move answer w

-- the same, where the run goes on
abbrev pub ActsIfOk : {E : Type 0} → Endpoint → Endpoint → List ℕ → Result Answer E → Move → Type 0
ActsIfOk v w others result move = (limits : BothLimits) (link : Link) → IsEndAt limits link (side_of move) v → AreSentBy (peer (role_at (side_of move))) (end_of link (other (side_of move))).sent
    → others ≡ stream_bytes (end_of link (other (side_of move))).sent → IfOk result (λ answer. HasMoved limits link move answer w)

-- ---- a send

-- the endpoint with its session and what it has put as a call left them
abbrev pub after_call : Endpoint → Session → Vec ℕ Global → Endpoint
after_call v session put = record { session = session; put = put; reached = v.reached; delivered = v.delivered; told = v.told; is_cut = v.is_cut }

-- what the calls of a session say of a send, by which the endpoint changed
pub record HasCalled {X : Type 0} (v w : Endpoint) (what : Send) (key : List ℕ) (sent : Result X SendFault) : Type 0 where
  pub done : OnOk sent (HasSent v.session w.session what key v.put.items w.put.items)
  pub refused : IfErr sent (IsRefusedBy v.session what)
  pub kept : OnErr sent ((w.session ≡ v.session) × (w.put.items ≡ v.put.items))
  pub text : OnOk sent (HasTextReason what)
  pub reached : w.reached ≡ v.reached
  pub delivered : w.delivered ≡ v.delivered
  pub is_cut : w.is_cut ≡ v.is_cut

module _ (laws : LawsOfEachSession) (limits : BothLimits) (link : Link) (side : End) (what : Send) (key : List ℕ) (v w : Endpoint) (is : IsEndAt limits link side v) (peers : AreSentBy (peer (role_at side)) (end_of link (other side)).sent) where
  abbrev here : Exchange
  here = record {
    sent = frames_of (end_of link side).sent;
    taken = take (end_of link side).reached (stream_bytes (end_of link (other side)).sent);
    ended = (end_of link side).is_cut;
  }

  status_here : v.session.status ≡ status_at limits link side
  status_here = status_is laws (role_at side) (limits_at limits side) (end_of link (other side)).sent peers (end_of link side) v is

  is_done : {X : Type 0} (done : X) → HasCalled {X = X} v w what key (Ok done) → HasSentMove limits link side what key outcome.Did w
  is_done done h =
      let x : LinkEnd = end_of link side in
      let one : List KeyedFrame = under_key (role_at side) key (frame_of what) ∷ [] in
      let t = h.done here is.exchanged in
      record {
        end = with_sent x one;
        answered = (subst (λ (s : Status). MaySend (frames_of x.sent) s what) status_here t.may, refl);
        stands = stands_at limits link side (with_sent x one) w (sent_by laws (role_at side) (limits_at limits side) (end_of link (other side)).sent peers x v is what key w t h.text h.reached (ap (λ d. d.items) h.delivered) h.is_cut);
        more = one;
        sent = refl;
      }

  is_refused : {X : Type 0} (why : SendFault) → HasCalled {X = X} v w what key (Err why) → IsFirstWrong (frames_of (end_of link side).sent) v.session.status what why → HasSentMove limits link side what key (outcome.Refused why) w
  is_refused why h first =
      let x : LinkEnd = end_of link side in
      record {
        end = x;
        answered = (subst (λ (s : Status). IsFirstWrong (frames_of x.sent) s what why) status_here first, same_link link side);
        stands = stands_at limits link side x w (unchanged (role_at side) (limits_at limits side) x (end_of link (other side)).sent v w is h.kept.0 h.kept.1 h.reached (ap (λ d. d.items) h.delivered) h.is_cut);
        more = [];
        sent = sym (append-nil x.sent);
      }

  at_answer : (a b : Answer) → b ≡ a → HasSentMove limits link side what key a w → HasSentMove limits link side what key b w
  at_answer a b e h = subst (λ (c : Answer). HasSentMove limits link side what key c w) (sym e) h

  -- whichever it is
  pub send_moved : {X : Type 0} (sent : Result X SendFault) (answer : Answer) → HasCalled v w what key sent → IsToldOf sent answer → HasSentMove limits link side what key answer w
  send_moved (Ok done) answer h e = at_answer outcome.Did answer e (is_done done h)
  send_moved (Err fault.NoMemory) answer h e = absurd e
  send_moved (Err fault.Over) answer h e = at_answer (outcome.Refused fault.Over) answer e (is_refused fault.Over h (h.refused here is.exchanged))
  send_moved (Err fault.Busy) answer h e = at_answer (outcome.Refused fault.Busy) answer e (is_refused fault.Busy h (h.refused here is.exchanged))
  send_moved (Err fault.NothingOpen) answer h e = at_answer (outcome.Refused fault.NothingOpen) answer e (is_refused fault.NothingOpen h (h.refused here is.exchanged))
  send_moved (Err fault.NotText) answer h e = at_answer (outcome.Refused fault.NotText) answer e (is_refused fault.NotText h (h.refused here is.exchanged))
  send_moved (Err fault.TooLong) answer h e = at_answer (outcome.Refused fault.TooLong) answer e (is_refused fault.TooLong h (h.refused here is.exchanged))
  send_moved (Err fault.BadCode) answer h e = at_answer (outcome.Refused fault.BadCode) answer e (is_refused fault.BadCode h (h.refused here is.exchanged))

-- a send is a move, where the move is answered as the send is
send_acts : (v w : Endpoint) (others : List ℕ) (answer : Answer) (move : Move) (what given : Send) (key : List ℕ) → given ≡ what
    → ((limits : BothLimits) (link after : Link) → IsSendMoveAnswered limits link (side_of move) what key answer after → IsMoveAnswered limits link move answer after)
    → ((limits : BothLimits) (link : Link) (side : End) → IsEndAt limits link side v → AreSentBy (peer (role_at side)) (end_of link (other side)).sent → HasSentMove limits link side given key answer w)
    → Acts v w others answer move
send_acts v w others answer move what given key e same sends limits link is peers all =
    let m = subst (λ (x : Send). HasSentMove limits link (side_of move) x key answer w) e (sends limits link (side_of move) is peers) in
    record { end = m.end; answered = same limits link (with_end link (side_of move) m.end) m.answered; stands = m.stands; more = m.more; sent = m.sent }

-- the same, whether the run goes on or memory ran out
pub sends_act : {E : Type 0} (v w : Endpoint) (others : List ℕ) (result : Result Answer E) (move : Move) (what given : Send) (key : List ℕ) → given ≡ what
    → ((limits : BothLimits) (link after : Link) (answer : Answer) → IsSendMoveAnswered limits link (side_of move) what key answer after → IsMoveAnswered limits link move answer after)
    → ((limits : BothLimits) (link : Link) (side : End) → IsEndAt limits link side v → AreSentBy (peer (role_at side)) (end_of link (other side)).sent → IfOk result (λ answer. HasSentMove limits link side given key answer w))
    → ActsIfOk v w others result move
sends_act v w others (Ok answer) move what given key e same sends = send_acts v w others answer move what given key e (λ limits link after h. same limits link after answer h) sends
sends_act v w others (Err why) move what given key e same sends = λ limits link is peers all. tt

-- ---- bytes that arrive, and a cut

pub arrive_acts : (v w : Endpoint) (others : List ℕ) (side : End) (bytes count : ℕ) (key : List ℕ) → count ≡ cond v.is_cut 0 (min bytes (length others - v.reached))
    → ((limits : BothLimits) (link : Link) → IsEndAt limits link side v → AreSentBy (peer (role_at side)) (end_of link (other side)).sent → others ≡ stream_bytes (end_of link (other side)).sent
    → IsEnd (role_at side) (limits_at limits side) (grown (role_at side) (limits_at limits side) (end_of link side) (end_of link (other side)).sent count key) (end_of link (other side)).sent w)
    → Acts v w others (outcome.Arrived count) (Arrive side bytes key)
arrive_acts v w others side bytes count key is_count came limits link is peers all =
    let x : LinkEnd = end_of link side in
    let xs : List KeyedFrame = (end_of link (other side)).sent in
    let same : count ≡ count_arriving link side bytes =
    is_count ∙ ap (λ b. cond b 0 (min bytes (length others - v.reached))) is.is_cut ∙ ap (λ k. cond x.is_cut 0 (min bytes (length others - k))) is.reached ∙ ap (λ (l : List ℕ). cond x.is_cut 0 (min bytes (length l - x.reached))) all in
    let next : LinkEnd = grown (role_at side) (limits_at limits side) x xs count key in
    record {
      end = next;
      answered = (ap (λ k. outcome.Arrived k) same, ap (λ k. with_end link side (grown (role_at side) (limits_at limits side) x xs k key)) same);
      stands = stands_at limits link side next w (came limits link is peers all);
      more = map (under_key (role_at side) key) (replies_of (frames_of x.sent) (newly_told (limits_at limits side) xs x.reached (x.reached + count)));
      sent = refl;
    }

pub cut_acts : (v w : Endpoint) (others : List ℕ) (side : End)
    → ((limits : BothLimits) (link : Link) → IsEndAt limits link side v → IsEnd (role_at side) (limits_at limits side) (with_cut (end_of link side)) (end_of link (other side)).sent w)
    → Acts v w others outcome.Cut (Cut side)
cut_acts v w others side ends limits link is peers all = record {
  end = with_cut (end_of link side);
  answered = (refl, refl);
  stands = stands_at limits link side (with_cut (end_of link side)) w (ends limits link is);
  more = [];
  sent = sym (append-nil (end_of link side).sent);
}
