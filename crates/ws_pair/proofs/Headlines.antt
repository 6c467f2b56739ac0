-- From two ends of a link to what is claimed of them.
use Rattle.std.proofs.Common.{◌≡◌, ℕ, ◌<◌, List, [], ◌∷◌, ◌++◌, length, take, sym, ap, ◌∙◌, arith, subst}
use Rattle.std.proofs.lemmas.List.{append-nil, length-append}
use Rattle.ws_wire.specs.Frame.{Frame, KeyedFrame, FitsTheLayout, frame_bytes, stream_bytes}
use Rattle.ws_session.specs.Messages.{messages_of}
use Rattle.ws_session.specs.Validity.{CloseIsLast, NothingAfterClose}
use Rattle.ws_session.specs.Faults.{frames_of}
use Rattle.ws_session.specs.Exchange.{HasExchanged}
use Rattle.ws_pair.specs.declared.moves.End.{End}
use Rattle.ws_pair.specs.declared.moves.End.TheVariants.{Client, Server}
use Rattle.ws_pair.specs.declared.moves.Move.{Move}
use Rattle.ws_pair.specs.declared.report.EndReport.{EndReport}
use Rattle.ws_pair.specs.declared.report.Report.{Report}
use Rattle.ws_pair.specs.declared.endpoint.Endpoint.{Endpoint}
use Rattle.ws_pair.specs.Link.{Link, BothLimits, new_link, other, role_at, end_of, limits_at}
use Rattle.ws_pair.specs.Moves.{Plays}
use Rattle.ws_pair.specs.Headline.{HasDelivered, IsWholeWhereClean, HasPut, HasReached, HasStatus, HasSession, AtEachEnd, HasNothingAfterClose}
use Rattle.ws_pair.specs.InnerPlaying.{peer, AreSentBy, IsEndAt, AreJoined, LawsOfEachSession}
use Rattle.ws_pair.proofs.OnePlay.{plays_are_one}
use Rattle.ws_pair.proofs.Told.{clean_is_whole}
use Rattle.ws_pair.proofs.Ends.{status_is}

-- a report of an endpoint
pub record IsReportOf (v : Endpoint) (report : EndReport) : Type 0 where
  pub put : report.put ≡ v.put
  pub reached : report.reached ≡ v.reached
  pub delivered : report.delivered ≡ v.delivered
  pub status : report.status ≡ v.session.status
  pub session : report.session ≡ v.session

-- ---- one end

module _ (laws : LawsOfEachSession) (limits : BothLimits) (link : Link) (side : End) (v : Endpoint) (is : IsEndAt limits link side v) (peers : AreSentBy (peer (role_at side)) (end_of link (other side)).sent) (report : EndReport) (of : IsReportOf v report) where
  pub has_delivered : HasDelivered limits link side report
  has_delivered = ap (λ d. d.items) of.delivered ∙ is.delivered

  pub has_put : HasPut limits link side report
  has_put = ap (λ p. p.items) of.put ∙ is.put

  pub has_reached : HasReached limits link side report
  has_reached = of.reached ∙ is.reached

  pub has_status : HasStatus limits link side report
  has_status = of.status ∙ status_is laws (role_at side) (limits_at limits side) (end_of link (other side)).sent peers (end_of link side) v is

  pub has_session : HasSession limits link side report
  has_session = record {
    role = ap (λ s. s.role) of.session ∙ is.role_kept;
    limits_kept = ap (λ s. s.limits) of.session ∙ is.limits_kept;
    exchanged = subst (λ s. HasExchanged s (frames_of (end_of link side).sent) (take (end_of link side).reached (stream_bytes (end_of link (other side)).sent)) (end_of link side).is_cut) (sym of.session) is.exchanged;
  }

  pub is_whole_where_clean : IsWholeWhereClean limits link side report
  is_whole_where_clean code clean =
      let all = clean_is_whole laws (limits_at limits side) (end_of link (other side)).sent peers.valid (end_of link side) code (sym has_status ∙ clean) in
      (has_delivered ∙ ap (λ (l : List KeyedFrame). messages_of (frames_of l)) all.0, all.1)

-- ---- what an end has put

nothing_after : (fs : List Frame) → CloseIsLast fs → NothingAfterClose fs
nothing_after [] h = tt
nothing_after (f ∷ fs) h = (λ e. (h.0 e).0, nothing_after fs h.1)

some_bytes : (x : KeyedFrame) → 0 < length (frame_bytes x)
some_bytes x = grind arith

nothing_begins : (x : KeyedFrame) (more : List ℕ) → FitsTheLayout x → [] ≡ frame_bytes x ++ more → ⊥
nothing_begins x more can e = absurd (omega (arith, some_bytes x, length-append (frame_bytes x) more, ap (λ (l : List ℕ). length l) e))

pub has_nothing_after_close : (limits : BothLimits) (link : Link) (side : End) (v : Endpoint) (report : EndReport) → IsReportOf v report → IsEndAt limits link side v → HasNothingAfterClose report.put.items
has_nothing_after_close limits link side v report of is = record {
  frames = (end_of link side).sent;
  split = record {
    each = is.sent.can;
    whole = ap (λ p. p.items) of.put ∙ is.put ∙ sym (append-nil (stream_bytes (end_of link side).sent));
    left = nothing_begins;
  };
  last = nothing_after (frames_of (end_of link side).sent) is.sent.valid.close;
}

-- ---- both ends

-- all that is claimed of a report
pub record AreClaimed (limits : BothLimits) (moves : List Move) (report : Report) : Type 0 where
  pub delivered : AtEachEnd HasDelivered limits moves report
  pub clean : AtEachEnd IsWholeWhereClean limits moves report
  pub nothing_after_close : HasNothingAfterClose report.client.put.items × HasNothingAfterClose report.server.put.items
  pub put : AtEachEnd HasPut limits moves report
  pub reached : AtEachEnd HasReached limits moves report
  pub status : AtEachEnd HasStatus limits moves report
  pub session : AtEachEnd HasSession limits moves report

module _ (laws : LawsOfEachSession) (limits : BothLimits) (moves : List Move) (client server : Endpoint) (report : Report) (of_client : IsReportOf client report.client) (of_server : IsReportOf server report.server) (link : Link) (plays : Plays limits new_link moves report.answers.items link) (j : AreJoined limits link client server) where
  -- what holds of each end in this link holds at each end, since the moves lead to this link alone
  at_both : (Holds : BothLimits → Link → End → EndReport → Type 0)
      → ((side : End) (v : Endpoint) → IsEndAt limits link side v → AreSentBy (peer (role_at side)) (end_of link (other side)).sent → (report : EndReport) → IsReportOf v report → Holds limits link side report)
      → AtEachEnd Holds limits moves report
  at_both Holds holds after p =
      subst (λ (l : Link). Holds limits l Client report.client × Holds limits l Server report.server) (plays_are_one limits new_link moves report.answers.items report.answers.items link after plays p).1
      (holds Client client j.client_stands j.server_stands.sent report.client of_client, holds Server server j.server_stands j.client_stands.sent report.server of_server)

  pub are_claimed : AreClaimed limits moves report
  are_claimed = record {
    delivered = at_both HasDelivered (has_delivered laws limits link);
    clean = at_both IsWholeWhereClean (is_whole_where_clean laws limits link);
    nothing_after_close = (has_nothing_after_close limits link Client client report.client of_client j.client_stands, has_nothing_after_close limits link Server server report.server of_server j.server_stands);
    put = at_both HasPut (has_put laws limits link);
    reached = at_both HasReached (has_reached laws limits link);
    status = at_both HasStatus (has_status laws limits link);
    session = at_both HasSession (has_session laws limits link);
  }
