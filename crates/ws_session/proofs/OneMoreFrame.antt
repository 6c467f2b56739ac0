-- What more bytes do to a session that isn't over: nothing, one more frame, or a fault.
use Rattle.std.proofs.Common.{◌≡◌, ℕ, ◌+◌, ◌-◌, ◌<◌, ◌≤◌, Bool, true, false, cond, List, [], ◌∷◌, ◌++◌, length, Option, Some, None, refl, sym, ap, ◌∙◌, append_assoc, arith, subst}
use Rattle.std.specs.List.{AllByRecursion}
use Rattle.std.proofs.lemmas.Bool.{le-ltb}
use Rattle.std.proofs.lemmas.List.{length-append, append-nil, map-append}
use Rattle.std.proofs.lemmas.Grind.{flat_map-append}
use Rattle.ws_wire.specs.declared.role.Role.{Role}
use Rattle.ws_wire.specs.Header.{AreBytes}
use Rattle.ws_wire.specs.Frame.{Frame, KeyedFrame, FitsTheLayout, frame_bytes, stream_bytes}
use Rattle.ws_wire.specs.Stream.{SplitsInto}
use Rattle.ws_wire.proofs.Frames.{no_frame_begins, frame_told}
use Rattle.ws_session.specs.declared.message.Message.{Message}
use Rattle.ws_session.specs.declared.reason.Reason.{Reason}
use Rattle.ws_session.specs.declared.event.Event.{Event}
use Rattle.ws_session.specs.declared.event.Event.TheVariants as event
use Rattle.ws_session.specs.Limits.{LimitsValue}
use Rattle.ws_session.specs.Messages.{is_close, open_message_of}
use Rattle.ws_session.specs.Faults.{frames_of, IsNoClose, IsFaultAt, IsFirstFault, HasNoFault}
use Rattle.ws_session.specs.Events.{event_of, events_after, through_close, ending_before, events_of, IsFaultOf, HasEvents}
use Rattle.ws_session.specs.InnerNextFrame.{BeginsNoFrame, HasNoFaultOfNext, IsFirstFaultOfNext, IsPartOfFrame, opened_with, event_behind, due_at, IsAfter}
use Rattle.ws_session.specs.declared.status.Status.{Status}
use Rattle.ws_session.specs.declared.status.Status.TheVariants as status
use Rattle.ws_session.specs.declared.session.Answering.{Answering}
use Rattle.ws_session.specs.InnerInvariant.{reply_by, CanAnswer}
use Rattle.ws_session.specs.Replies.{replies_by}
use Rattle.ws_session.specs.Exchange.{SessionValue, SendingValue, HasExchanged, IsSendingOf, is_over, status_after, status_of}
use Rattle.ws_session.proofs.ByteLists.{bytes_append, back_are_bytes}
use Rattle.ws_session.proofs.Faults.{fault_before}
use Rattle.ws_session.proofs.EventsGoOn.{events_after-append, one_events}
use Rattle.ws_session.proofs.OpenMessage.{open_snoc, event_snoc}
use Rattle.ws_session.proofs.Statuses.{IsGoingOn, status_snoc}
use Rattle.ws_session.proofs.StatusReplies.{replies_at, owed_keeps, status_after_event}
use Rattle.ws_session.proofs.Streams.{ending_before_past}
use Rattle.ws_session.proofs.Next.{still_clean, first_of_next, within_front, two_bytes}
use Rattle.ws_wire.proofs.Splits.{all-append, SomeSplit, some_split, split_goes_on}

pub through_close_same : (xs : List KeyedFrame) → AllByRecursion IsNoClose xs → through_close xs ≡ xs
through_close_same [] h = refl
through_close_same (y ∷ xs) h = ap (λ b. cond b (y ∷ []) (y ∷ through_close xs)) h.0 ∙ ap (λ (l : List KeyedFrame). y ∷ l) (through_close_same xs h.1)

-- one more whole frame is one more event
one_alone : (b : Bool) (x : KeyedFrame) → cond b (x ∷ []) (x ∷ []) ≡ x ∷ []
one_alone true x = refl
one_alone false x = refl

through_close_all : (xs : List KeyedFrame) (x : KeyedFrame) → AllByRecursion IsNoClose xs → through_close (xs ++ x ∷ []) ≡ xs ++ x ∷ []
through_close_all [] x h = one_alone (is_close x.frame) x
through_close_all (y ∷ xs) x h = ap (λ b. cond b (y ∷ []) (y ∷ through_close (xs ++ x ∷ []))) h.0 ∙ ap (λ (l : List KeyedFrame). y ∷ l) (through_close_all xs x h.1)

one_more : (xs : List KeyedFrame) (x : KeyedFrame) → AllByRecursion IsNoClose xs → events_of (xs ++ x ∷ []) None ≡ events_after [] (frames_of xs) ++ event_of (frames_of xs) x.frame ∷ []
one_more xs x h =
    ap (λ (l : List KeyedFrame). events_after [] (frames_of l)) (through_close_all xs x h) ∙ ap (λ (l : List Frame). events_after [] l) (map-append (λ (y : KeyedFrame). y.frame) xs (x ∷ [])) ∙ events_after-append [] (frames_of xs) (x.frame ∷ [])

pub none_in_nothing : BeginsNoFrame []
none_in_nothing x more can e = absurd cc

failed_is_over : (s : Status) (r : Reason) → s ≡ status.Failed r → is_over s ≡ false → ⊥
failed_is_over s r e going = let no : true ≡ false = ap (λ (t : Status). is_over t) (sym e) ∙ going in absurd cc

-- a session that isn't over and has taken s
module _ (v : SessionValue) (sent : List Frame) (s : List ℕ) (ended : Bool) (g : IsGoingOn v sent s ended) where
  joins : (u : List ℕ) → s ++ u ≡ stream_bytes g.frames ++ (v.partial_frame ++ u)
  joins u = ap (λ (l : List ℕ). l ++ u) g.whole ∙ append_assoc (stream_bytes g.frames) v.partial_frame u

  clean_front : (u : List ℕ) (n : ℕ) (r : Reason) → n ≤ length (stream_bytes g.frames) → IsFaultAt v.role v.limits (stream_bytes g.frames ++ (v.partial_frame ++ u)) n r → ⊥
  clean_front u n r le f =
      let size : length s ≡ length (stream_bytes g.frames) + length v.partial_frame = ap (λ (l : List ℕ). length l) g.whole ∙ length-append (stream_bytes g.frames) v.partial_frame in
      g.clean n r (fault_before v.role v.limits s u n r (omega (arith, size)) (subst (λ (l : List ℕ). IsFaultAt v.role v.limits l n r) (sym (joins u)) f))

  -- the events so far
  so_far : HasEvents v.role v.limits s (events_after [] (frames_of g.frames))
  so_far = record {
    frames = g.frames;
    rest = v.partial_frame;
    split = record { each = g.each; whole = g.whole; left = g.left };
    fault = None;
    is_fault = g.clean;
    are = ap (λ (l : List KeyedFrame). events_after [] (frames_of l)) (sym (through_close_same g.frames g.no_close));
  }

  are_so_far : (es : List Event) → HasEvents v.role v.limits s es → es ≡ events_after [] (frames_of g.frames)
  are_so_far es h = one_events v.role v.limits s es (events_after [] (frames_of g.frames)) h so_far

  -- ---- nothing

  none_alone : (t : List ℕ) → BeginsNoFrame t → (x : KeyedFrame) (more : List ℕ) → FitsTheLayout x → t ≡ frame_bytes x ++ more → length more ≡ 0
  none_alone t none x more can e = absurd (none x more can e)

  quiet_here : (u : List ℕ) → IsPartOfFrame v.role v.limits (open_message_of (frames_of g.frames)) (v.partial_frame ++ u) → HasEvents v.role v.limits (s ++ u) (events_after [] (frames_of g.frames))
  quiet_here u p = record {
    frames = g.frames;
    rest = v.partial_frame ++ u;
    split = record { each = g.each; whole = joins u; left = p.none };
    fault = None;
    is_fault = subst (λ (l : List ℕ). HasNoFault v.role v.limits l) (sym (joins u)) (still_clean v.role v.limits g.frames (v.partial_frame ++ u) g.each g.no_close (clean_front u) p.clean (none_alone (v.partial_frame ++ u) p.none));
    are = ap (λ (l : List KeyedFrame). events_after [] (frames_of l)) (sym (through_close_same g.frames g.no_close));
  }

  at_open : (u : List ℕ) → IsPartOfFrame v.role v.limits v.opened (v.partial_frame ++ u) → IsPartOfFrame v.role v.limits (open_message_of (frames_of g.frames)) (v.partial_frame ++ u)
  at_open u p = subst (λ (o : Option Message). IsPartOfFrame v.role v.limits o (v.partial_frame ++ u)) g.opened p

  -- a part of one frame adds no event
  pub quiet_events : (u : List ℕ) → IsPartOfFrame v.role v.limits v.opened (v.partial_frame ++ u) → (es : List Event) → HasEvents v.role v.limits s es → HasEvents v.role v.limits (s ++ u) es
  quiet_events u p es h = subst (λ (l : List Event). HasEvents v.role v.limits (s ++ u) l) (sym (are_so_far es h)) (quiet_here u (at_open u p))

  pub quiet_agrees : (u : List ℕ) → AreBytes u → IsPartOfFrame v.role v.limits v.opened (v.partial_frame ++ u) → v.status ≡ status_of sent ended (events_after [] (frames_of g.frames))
      → (w : SessionValue) → w.role ≡ v.role → w.limits ≡ v.limits → w.opened ≡ v.opened → w.partial_frame ≡ v.partial_frame ++ u → w.sending ≡ v.sending → w.status ≡ v.status → HasExchanged w sent (s ++ u) ended
  unfolding quiet_here
  quiet_agrees u are p was w role limits opened rest sending status = record {
    bytes = bytes_append s u g.bytes are;
    events = events_after [] (frames_of g.frames);
    has_events = let h = quiet_here u (at_open u p) in record {
      frames = g.frames;
      rest = v.partial_frame ++ u;
      split = h.split;
      fault = None;
      is_fault = subst (λ (k : LimitsValue). HasNoFault w.role k (s ++ u)) (sym limits) (subst (λ (k : Role). HasNoFault k v.limits (s ++ u)) (sym role) h.is_fault);
      are = h.are;
    };
    status = status ∙ was;
    taking = λ going. (opened ∙ g.opened, rest);
    sending = subst (λ (o : Option SendingValue). IsSendingOf (open_message_of sent) o) (sym sending) g.sending;
  }

  -- ---- an event

  pub event_agrees : (a : Answering) → CanAnswer a v.sending → (t : List ℕ) → AreBytes t → (e : Event) (opened : Option Message) (w : SessionValue) → IsAfter v w e opened
      → (h : HasEvents v.role v.limits t (events_after [] (frames_of g.frames) ++ e ∷ [])) → (is_over w.status ≡ false → (opened ≡ open_message_of (frames_of h.frames)) × (h.rest ≡ [])) → HasExchanged w (sent ++ replies_by (reply_by a) sent (e ∷ [])) t ended
  event_agrees a can t are e opened w is_after h taking =
      let es = events_after [] (frames_of g.frames) in
      let owed : replies_by (reply_by a) sent (e ∷ []) ≡ due_at v.status (reply_by a e) = replies_at a sent v.status e g.status in
      record {
        bytes = are;
        events = es ++ e ∷ [];
        has_events = record {
          frames = h.frames;
          rest = h.rest;
          split = h.split;
          fault = h.fault;
          is_fault = subst (λ (k : LimitsValue). IsFaultOf w.role k t h.fault) (sym is_after.limits) (subst (λ (k : Role). IsFaultOf k v.limits t h.fault) (sym is_after.role) h.is_fault);
          are = h.are;
        };
        status = is_after.status ∙ sym (status_after_event a sent v.status e g.status) ∙ ap (λ b. status_after (sent ++ due_at v.status (reply_by a e)) b (Some e)) (sym g.goes_on) ∙ sym (status_snoc (sent ++ due_at v.status (reply_by a e)) ended es e)
            ∙ ap (λ (l : List Frame). status_of (sent ++ l) ended (es ++ e ∷ [])) (sym owed);
        taking = λ going. let is = is_after.taking going in let now = taking going in (is.0 ∙ now.0, is.1 ∙ sym now.1);
        sending = subst (λ (o : Option SendingValue). IsSendingOf (open_message_of (sent ++ replies_by (reply_by a) sent (e ∷ []))) o) (sym is_after.sending)
            (subst (λ (fs : List Frame). IsSendingOf (open_message_of (sent ++ fs)) v.sending) (sym owed) (owed_keeps a v.status e sent v.sending can g.sending));
      }

  -- ---- one more frame

  module _ (u : List ℕ) (are : AreBytes u) (x : KeyedFrame) (can : FitsTheLayout x) (is_frame : v.partial_frame ++ u ≡ frame_bytes x) (clean : HasNoFaultOfNext v.role v.limits v.opened (v.partial_frame ++ u)) where
    alone : (y : KeyedFrame) (more : List ℕ) → FitsTheLayout y → v.partial_frame ++ u ≡ frame_bytes y ++ more → length more ≡ 0
    alone y more sends e =
        let same = no_frame_begins x y [] more can sends (append-nil (frame_bytes x) ∙ sym is_frame ∙ e) in
        ap (λ (l : List ℕ). length l) (sym same.1)

    frame_here : HasEvents v.role v.limits (s ++ u) (events_after [] (frames_of g.frames) ++ event_behind v.opened x.frame ∷ [])
    frame_here = record {
      frames = g.frames ++ x ∷ [];
      rest = [];
      split = record {
        each = all-append FitsTheLayout g.frames (x ∷ []) g.each (can, tt);
        whole = joins u ∙ ap (λ (l : List ℕ). stream_bytes g.frames ++ l) (is_frame ∙ sym (append-nil (frame_bytes x))) ∙ sym (flat_map-append frame_bytes g.frames (x ∷ [])) ∙ sym (append-nil (stream_bytes (g.frames ++ x ∷ [])));
        left = none_in_nothing;
      };
      fault = None;
      is_fault = subst (λ (l : List ℕ). HasNoFault v.role v.limits l) (sym (joins u))
          (still_clean v.role v.limits g.frames (v.partial_frame ++ u) g.each g.no_close (clean_front u) (subst (λ (o : Option Message). HasNoFaultOfNext v.role v.limits o (v.partial_frame ++ u)) g.opened clean) alone);
      are = sym (one_more g.frames x g.no_close ∙ ap (λ (e : Event). events_after [] (frames_of g.frames) ++ e ∷ []) (event_snoc (frames_of g.frames) x.frame ∙ ap (λ (o : Option Message). event_behind o x.frame) (sym g.opened)));
    }

    pub frame_events : (es : List Event) → HasEvents v.role v.limits s es → HasEvents v.role v.limits (s ++ u) (es ++ event_behind v.opened x.frame ∷ [])
    frame_events es h = subst (λ (l : List Event). HasEvents v.role v.limits (s ++ u) (l ++ event_behind v.opened x.frame ∷ [])) (sym (are_so_far es h)) frame_here

    opened_here : opened_with v.opened x.frame ≡ open_message_of (frames_of (g.frames ++ x ∷ []))
    opened_here = ap (λ (o : Option Message). opened_with o x.frame) g.opened ∙ sym (open_snoc (frames_of g.frames) x.frame) ∙ ap (λ (l : List Frame). open_message_of l) (sym (map-append (λ (y : KeyedFrame). y.frame) g.frames (x ∷ [])))

    pub frame_agrees : (a : Answering) → CanAnswer a v.sending → (w : SessionValue) → IsAfter v w (event_behind v.opened x.frame) (opened_with v.opened x.frame) → HasExchanged w (sent ++ replies_by (reply_by a) sent (event_behind v.opened x.frame ∷ [])) (s ++ u) ended
    unfolding frame_here
    frame_agrees a can w is_after = event_agrees a can (s ++ u) (bytes_append s u g.bytes are) (event_behind v.opened x.frame) (opened_with v.opened x.frame) w is_after frame_here (λ going. (opened_here, refl))

  -- ---- a fault

  module _ (u : List ℕ) (r : Reason) (bytes : AreBytes (v.partial_frame ++ u)) (first : IsFirstFaultOfNext v.role v.limits v.opened (v.partial_frame ++ u) (length (v.partial_frame ++ u)) r) where
    open_first : IsFirstFaultOfNext v.role v.limits (open_message_of (frames_of g.frames)) (v.partial_frame ++ u) (length (v.partial_frame ++ u)) r
    open_first = subst (λ (o : Option Message). IsFirstFaultOfNext v.role v.limits o (v.partial_frame ++ u) (length (v.partial_frame ++ u)) r) g.opened first

    none_before : (k : ℕ) (ys : List KeyedFrame) (b : List ℕ) → SplitsInto (v.partial_frame ++ u) ys b → ending_before (k + length (v.partial_frame ++ u) - k) ys ≡ []
    none_before k [] b p = refl
    none_before k (y ∷ ys) b p =
        let le : length (v.partial_frame ++ u) ≤ length (frame_bytes y) = within_front v.role v.limits v.opened (v.partial_frame ++ u) (length (v.partial_frame ++ u)) r first.fault y (stream_bytes ys ++ b) p.each.0 (p.whole ∙ append_assoc (frame_bytes y) (stream_bytes ys) b) in
        let stops : k + length (v.partial_frame ++ u) - k ≤ length (frame_bytes y) = omega arith in
        rw (le-ltb (length (frame_bytes y)) (k + length (v.partial_frame ++ u) - k) stops) refl

    ends_here : (ys : List KeyedFrame) (b : List ℕ) → SplitsInto (v.partial_frame ++ u) ys b → ending_before (length (stream_bytes g.frames) + length (v.partial_frame ++ u)) (g.frames ++ ys) ≡ g.frames
    ends_here ys b p =
        let some : 0 < length (v.partial_frame ++ u) = omega (arith, first.fault.is_place, two_bytes first.fault.header) in
        ending_before_past (length (stream_bytes g.frames) + length (v.partial_frame ++ u)) g.frames ys (omega arith) ∙ ap (λ (l : List KeyedFrame). g.frames ++ l) (none_before (length (stream_bytes g.frames)) ys b p) ∙ append-nil g.frames

    fault_by : (c : SomeSplit FitsTheLayout frame_bytes (v.partial_frame ++ u)) → HasEvents v.role v.limits (s ++ u) (events_after [] (frames_of g.frames) ++ event.Failed r ∷ [])
    fault_by c = record {
      frames = g.frames ++ c.frames;
      rest = c.rest;
      split = split_goes_on FitsTheLayout frame_bytes s u g.frames c.frames v.partial_frame c.rest (record { each = g.each; whole = g.whole; left = g.left }) c.split;
      fault = Some (length (stream_bytes g.frames) + length (v.partial_frame ++ u), r);
      is_fault = subst (λ (l : List ℕ). IsFirstFault v.role v.limits l (length (stream_bytes g.frames) + length (v.partial_frame ++ u)) r) (sym (joins u)) (first_of_next v.role v.limits g.frames (v.partial_frame ++ u) g.each g.no_close (clean_front u) (length (v.partial_frame ++ u)) r open_first);
      are = ap (λ (l : List KeyedFrame). events_after [] (frames_of l) ++ event.Failed r ∷ []) (sym (ap (λ (l : List KeyedFrame). through_close l) (ends_here c.frames c.rest c.split) ∙ through_close_same g.frames g.no_close));
    }

    fault_here : HasEvents v.role v.limits (s ++ u) (events_after [] (frames_of g.frames) ++ event.Failed r ∷ [])
    fault_here = fault_by (some_split FitsTheLayout frame_bytes frame_told (v.partial_frame ++ u) bytes)

    pub fault_events : (es : List Event) → HasEvents v.role v.limits s es → HasEvents v.role v.limits (s ++ u) (es ++ event.Failed r ∷ [])
    fault_events es h = subst (λ (l : List Event). HasEvents v.role v.limits (s ++ u) (l ++ event.Failed r ∷ [])) (sym (are_so_far es h)) fault_here

    pub fault_agrees : (a : Answering) → CanAnswer a v.sending → (w : SessionValue) → IsAfter v w (event.Failed r) None → HasExchanged w (sent ++ replies_by (reply_by a) sent (event.Failed r ∷ [])) (s ++ u) ended
    fault_agrees a can w is_after = event_agrees a can (s ++ u) (bytes_append s u g.bytes (back_are_bytes v.partial_frame u bytes)) (event.Failed r) None w is_after fault_here (λ going. absurd (failed_is_over w.status r is_after.status going))

-- its status by the events so far
pub status_going : (v : SessionValue) (sent : List Frame) (s : List ℕ) (ended : Bool) → HasExchanged v sent s ended → (g : IsGoingOn v sent s ended) → v.status ≡ status_of sent ended (events_after [] (frames_of g.frames))
status_going v sent s ended h g = h.status ∙ ap (λ (es : List Event). status_of sent ended es) (are_so_far v sent s ended g h.events h.has_events)
