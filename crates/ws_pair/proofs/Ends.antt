-- An endpoint that stands as an end: what it is told, and each step of it.
use Rattle.std.proofs.Common.{◌≡◌, ℕ, ◌+◌, ◌≤◌, Bool, false, List, [], ◌∷◌, ◌++◌, length, take, drop, Some, refl, sym, ap, ◌∙◌, arith, subst}
use Rattle.std.specs.Prelude.{map, option_to_list}
use Rattle.std.proofs.lemmas.List.{append-nil, length-append, drop_at}
use Rattle.ws_wire.specs.declared.role.Role.{Role}
use Rattle.ws_wire.specs.declared.role.Role.TheVariants as role
use Rattle.ws_wire.specs.Header.{IsMaskingKey, is_masked}
use Rattle.ws_wire.specs.Frame.{Frame, KeyedFrame, FitsTheLayout, frame_bytes, stream_bytes}
use Rattle.ws_session.specs.declared.message.Message.{Message}
use Rattle.ws_session.specs.declared.event.Event.{Event}
use Rattle.ws_session.specs.declared.event.Taken.{Taken}
use Rattle.ws_session.specs.Limits.{LimitsValue}
use Rattle.ws_session.specs.Messages.{messages_of}
use Rattle.ws_session.specs.Validity.{AreValidFrames}
use Rattle.ws_session.specs.Faults.{frames_of, KeysFit, expects_key}
use Rattle.ws_session.specs.Events.{HasEvents, messages_in}
use Rattle.ws_session.specs.Replies.{reply_to, has_close, replies_of, key_for, under_key}
use Rattle.ws_session.specs.Sends.{Send, frame_of, most_limits, HasTextReason, Sends}
use Rattle.ws_session.specs.Exchange.{SessionValue, Exchange, HasExchanged, status_of}
use Rattle.ws_session.specs.Taking.{HasTaken, TakeCall, Takes}
use Rattle.ws_session.specs.Reach.{events_within}
use Rattle.ws_pair.specs.declared.endpoint.Endpoint.{Endpoint}
use Rattle.ws_pair.specs.Link.{LinkEnd}
use Rattle.ws_pair.specs.Moves.{with_sent, newly_told}
use Rattle.ws_pair.specs.InnerPlaying.{peer, AreSentBy, IsEnd, grown, LawsOfEachSession, IsNextIn}
use Rattle.ws_pair.proofs.Bytes.{front_of_next, frames_append, frames_under, stream_append, all_append, front_stays}
use Rattle.ws_pair.proofs.Told.{nothing_owed, status_by, status_told, messages-append, messages_within}

back : (role : Role) → peer (peer role) ≡ role
back role.Client = refl
back role.Server = refl

pub fitting_key : (role : Role) (key : List ℕ) (f : Frame) → is_masked (under_key role key f).key ≡ expects_key (peer role)
fitting_key role.Client key f = refl
fitting_key role.Server key f = refl

sending_key : (role : Role) (key : List ℕ) → IsMaskingKey (Some key) → IsMaskingKey (key_for role key)
sending_key role.Client key h = h
sending_key role.Server key h = tt

pub fitting_keys : (role : Role) (key : List ℕ) (fs : List Frame) → KeysFit (peer role) (map (under_key role key) fs)
fitting_keys role key [] = tt
fitting_keys role key (f ∷ fs) = (fitting_key role key f, fitting_keys role key fs)

-- ---- what is told

module _ (laws : LawsOfEachSession) (role : Role) (limits : LimitsValue) (ys : List KeyedFrame) (peers : AreSentBy (peer role) ys) where
  pub told_at : (n : ℕ) → n ≤ length (stream_bytes ys) → HasEvents role limits (take n (stream_bytes ys)) (events_within limits n ys)
  told_at n le = laws.told role limits most_limits n ys peers.can (subst (λ (r : Role). KeysFit r ys) (back role) peers.keys) peers.valid

-- ---- the status

at_role : (role : Role) (limits : LimitsValue) (v : SessionValue) (bytes : List ℕ) (events : List Event) → v.role ≡ role → v.limits ≡ limits → HasEvents v.role v.limits bytes events → HasEvents role limits bytes events
at_role role limits v bytes events e f h = subst (λ (k : LimitsValue). HasEvents role k bytes events) f (subst (λ (r : Role). HasEvents r v.limits bytes events) e h)

at_own : (role : Role) (limits : LimitsValue) (v : SessionValue) (bytes : List ℕ) (events : List Event) → v.role ≡ role → v.limits ≡ limits → HasEvents role limits bytes events → HasEvents v.role v.limits bytes events
at_own role limits v bytes events e f h = subst (λ (k : LimitsValue). HasEvents v.role k bytes events) (sym f) (subst (λ (r : Role). HasEvents r limits bytes events) (sym e) h)

module _ (laws : LawsOfEachSession) (role : Role) (limits : LimitsValue) (ys : List KeyedFrame) (peers : AreSentBy (peer role) ys) (x : LinkEnd) (v : Endpoint) (is : IsEnd role limits x ys v) where
  pub status_is : v.session.status ≡ status_by limits x ys
  status_is =
      is.exchanged.status
      ∙ ap (λ (es : List Event). status_of (frames_of x.sent) x.is_cut es)
      (laws.one_list role limits (take x.reached (stream_bytes ys)) is.exchanged.events (events_within limits x.reached ys)
      (at_role role limits v.session (take x.reached (stream_bytes ys)) is.exchanged.events is.role_kept is.limits_kept is.exchanged.has_events)
      (told_at laws role limits ys peers x.reached is.within))
      ∙ status_told laws limits ys peers.valid x

  -- ---- a piece of which the front is taken

  -- what came of it, where these events were told
  record Took (key : List ℕ) (u : ℕ) (events : List Event) (w : Endpoint) : Type 0 where
    pub told : events_within limits (x.reached + u) ys ≡ events_within limits x.reached ys ++ events
    pub agrees : HasExchanged w.session (frames_of x.sent ++ replies_of (frames_of x.sent) events) (take (x.reached + u) (stream_bytes ys)) x.is_cut
    pub put : w.put.items ≡ v.put.items ++ stream_bytes (map (under_key role key) (replies_of (frames_of x.sent) events))
    pub same : (w.session.role ≡ v.session.role) × (w.session.limits ≡ v.session.limits)

  module _ (key piece : List ℕ) (next : IsNextIn (stream_bytes ys) x.reached piece) (taken : Taken) (le : taken.used ≤ length piece) (w : Endpoint) where
    fits : x.reached + taken.used ≤ length (stream_bytes ys)
    fits = omega (arith, next.fits, le)

    abbrev exchange : Exchange
    exchange = record { sent = frames_of x.sent; taken = take x.reached (stream_bytes ys); ended = x.is_cut }

    abbrev call : TakeCall
    call = record { piece = piece; key = key; before = v.put.items; after = w.put.items }

    took : Takes reply_to v.session w.session exchange call taken → Took key taken.used (option_to_list taken.event) w
    took t =
        let n = x.reached in
        let u = taken.used in
        let event : List Event = option_to_list taken.event in
        let bytes : take n (stream_bytes ys) ++ take u piece ≡ take (n + u) (stream_bytes ys) = front_of_next (stream_bytes ys) piece n u next le in
        let before : HasEvents v.session.role v.session.limits (take n (stream_bytes ys)) (events_within limits n ys) = at_own role limits v.session (take n (stream_bytes ys)) (events_within limits n ys) is.role_kept is.limits_kept (told_at laws role limits ys peers n is.within) in
        let after : HasEvents role limits (take n (stream_bytes ys) ++ take u piece) (events_within limits n ys ++ event) =
        at_role role limits v.session (take n (stream_bytes ys) ++ take u piece) (events_within limits n ys ++ event) is.role_kept is.limits_kept (t.event (events_within limits n ys) before) in
        record {
          told = laws.one_list role limits (take (n + u) (stream_bytes ys)) (events_within limits (n + u) ys) (events_within limits n ys ++ event) (told_at laws role limits ys peers (n + u) fits)
              (subst (λ (l : List ℕ). HasEvents role limits l (events_within limits n ys ++ event)) bytes after);
          agrees = subst (λ (l : List ℕ). HasExchanged w.session (frames_of x.sent ++ replies_of (frames_of x.sent) event) l x.is_cut) bytes t.agrees;
          put = t.put ∙ ap (λ (r : Role). v.put.items ++ stream_bytes (map (under_key r key) (replies_of (frames_of x.sent) event))) is.role_kept;
          same = t.same;
        }

    newly : Took key taken.used (option_to_list taken.event) w → newly_told limits ys x.reached (x.reached + taken.used) ≡ option_to_list taken.event
    newly t =
        ap (λ (l : List Event). drop (length (events_within limits x.reached ys)) l) t.told ∙ drop_at (events_within limits x.reached ys) (option_to_list taken.event) (length (events_within limits x.reached ys)) refl

    -- the endpoint stands as the end to which so many more bytes have come
    grown_by : Took key taken.used (option_to_list taken.event) w → w.reached ≡ v.reached + taken.used → w.delivered.items ≡ v.delivered.items ++ messages_in (option_to_list taken.event) → w.is_cut ≡ v.is_cut
        → IsMaskingKey (Some key) → IsEnd role limits (grown role limits x ys taken.used key) ys w
    grown_by t reached delivered cut is_key =
        let u = taken.used in
        let n = x.reached in
        let event : List Event = option_to_list taken.event in
        let sent : List Frame = frames_of x.sent in
        let owed : List KeyedFrame = map (under_key role key) (replies_of sent event) in
        let is_sent : (grown role limits x ys u key).sent ≡ x.sent ++ owed = ap (λ (l : List Event). x.sent ++ map (under_key role key) (replies_of sent l)) (newly t) in
        let frames : frames_of (x.sent ++ owed) ≡ sent ++ replies_of sent event = frames_append x.sent owed ∙ ap (λ (l : List Frame). sent ++ l) (frames_under role key (replies_of sent event)) in
        let put : w.put.items ≡ stream_bytes (x.sent ++ owed) = t.put ∙ ap (λ (l : List ℕ). l ++ stream_bytes owed) is.put ∙ sym (stream_append x.sent owed) in
        let told : HasEvents role limits (take (n + u) (stream_bytes ys)) (events_within limits n ys ++ event) = subst (λ (l : List Event). HasEvents role limits (take (n + u) (stream_bytes ys)) l) t.told (told_at laws role limits ys peers (n + u) fits) in
        record {
          role_kept = t.same.0 ∙ is.role_kept;
          limits_kept = t.same.1 ∙ is.limits_kept;
          put = put ∙ ap (λ (l : List KeyedFrame). stream_bytes l) (sym is_sent);
          reached = reached ∙ ap (λ k. k + u) is.reached;
          within = fits;
          delivered = delivered ∙ ap (λ (l : List Message). l ++ messages_in event) (is.delivered ∙ sym (messages_within laws limits n ys)) ∙ sym (messages-append (events_within limits n ys) event)
              ∙ ap (λ (l : List Event). messages_in l) (sym t.told) ∙ messages_within laws limits (n + u) ys;
          is_cut = cut ∙ is.is_cut;
          exchanged = subst (λ (l : List Frame). HasExchanged w.session l (take (n + u) (stream_bytes ys)) x.is_cut) (sym (ap (λ (l : List KeyedFrame). frames_of l) is_sent ∙ frames)) t.agrees;
          sent = subst (λ (l : List KeyedFrame). AreSentBy role l) (sym is_sent) (record {
            can = all_append FitsTheLayout x.sent owed is.sent.can (laws.replies_can role role limits (take (n + u) (stream_bytes ys)) key (events_within limits n ys) event sent told (sending_key role key is_key));
            keys = all_append (λ (y : KeyedFrame). is_masked y.key ≡ expects_key (peer role)) x.sent owed is.sent.keys (fitting_keys role key (replies_of sent event));
            valid = subst (λ (l : List Frame). AreValidFrames most_limits l) (sym frames) (laws.replies_stay role limits most_limits (take (n + u) (stream_bytes ys)) (events_within limits n ys) event sent told is.sent.valid);
          });
        }

  -- ---- a send

  module _ (what : Send) (key : List ℕ) (w : Endpoint) where
    -- the endpoint stands as the end that has sent one more frame
    pub sent_by : Sends v.session w.session (record { sent = frames_of x.sent; taken = take x.reached (stream_bytes ys); ended = x.is_cut }) what key v.put.items w.put.items → HasTextReason what
        → w.reached ≡ v.reached → w.delivered.items ≡ v.delivered.items → w.is_cut ≡ v.is_cut → IsEnd role limits (with_sent x (under_key role key (frame_of what) ∷ [])) ys w
    sent_by t text reached delivered cut =
        let one : List KeyedFrame = under_key role key (frame_of what) ∷ [] in
        let frames : frames_of (x.sent ++ one) ≡ frames_of x.sent ++ frame_of what ∷ [] = frames_append x.sent one in
        let put : w.put.items ≡ stream_bytes (x.sent ++ one) =
        t.put ∙ ap (λ (r : Role). v.put.items ++ frame_bytes (under_key r key (frame_of what))) is.role_kept ∙ ap (λ (l : List ℕ). l ++ frame_bytes (under_key role key (frame_of what))) is.put
        ∙ ap (λ (l : List ℕ). stream_bytes x.sent ++ l) (sym (append-nil (frame_bytes (under_key role key (frame_of what))))) ∙ sym (stream_append x.sent one) in
        record {
          role_kept = t.same.0 ∙ is.role_kept;
          limits_kept = t.same.1 ∙ is.limits_kept;
          put = put;
          reached = reached ∙ is.reached;
          within = is.within;
          delivered = delivered ∙ is.delivered;
          is_cut = cut ∙ is.is_cut;
          exchanged = subst (λ (l : List Frame). HasExchanged w.session l (take x.reached (stream_bytes ys)) x.is_cut) (sym frames) t.agrees;
          sent = record {
            can = all_append FitsTheLayout x.sent one is.sent.can (subst (λ (r : Role). FitsTheLayout (under_key r key (frame_of what))) is.role_kept t.can, tt);
            keys = all_append (λ (y : KeyedFrame). is_masked y.key ≡ expects_key (peer role)) x.sent one is.sent.keys (fitting_key role key (frame_of what), tt);
            valid = subst (λ (l : List Frame). AreValidFrames most_limits l) (sym frames) (laws.sends_stay (frames_of x.sent) v.session.status what is.sent.valid text t.may);
          };
        }

-- ---- the other end

-- frames that the other end sends leave this end
pub beside : (laws : LawsOfEachSession) (role : Role) (limits : LimitsValue) (x : LinkEnd) (ys more : List KeyedFrame) (v : Endpoint) → IsEnd role limits x ys v → IsEnd role limits x (ys ++ more) v
beside laws role limits x ys more v is = record {
  role_kept = is.role_kept;
  limits_kept = is.limits_kept;
  put = is.put;
  reached = is.reached;
  within = omega (arith, is.within, ap (λ (l : List ℕ). length l) (stream_append ys more), length-append (stream_bytes ys) (stream_bytes more));
  delivered = is.delivered ∙ ap (λ (l : List KeyedFrame). messages_of (frames_of l)) (sym (laws.frames_stay limits x.reached ys more is.within));
  is_cut = is.is_cut;
  exchanged = subst (λ (l : List ℕ). HasExchanged v.session (frames_of x.sent) l x.is_cut) (sym (front_stays x.reached ys more is.within)) is.exchanged;
  sent = is.sent;
}

-- ---- what is refused

-- an endpoint that has not changed stands as before
pub unchanged : (role : Role) (limits : LimitsValue) (x : LinkEnd) (ys : List KeyedFrame) (v w : Endpoint) → IsEnd role limits x ys v
    → w.session ≡ v.session → w.put.items ≡ v.put.items → w.reached ≡ v.reached → w.delivered.items ≡ v.delivered.items → w.is_cut ≡ v.is_cut → IsEnd role limits x ys w
unchanged role limits x ys v w is session put reached delivered cut = record {
  role_kept = ap (λ (s : SessionValue). s.role) session ∙ is.role_kept;
  limits_kept = ap (λ (s : SessionValue). s.limits) session ∙ is.limits_kept;
  put = put ∙ is.put;
  reached = reached ∙ is.reached;
  within = is.within;
  delivered = delivered ∙ is.delivered;
  is_cut = cut ∙ is.is_cut;
  exchanged = subst (λ (s : SessionValue). HasExchanged s (frames_of x.sent) (take x.reached (stream_bytes ys)) x.is_cut) (sym session) is.exchanged;
  sent = is.sent;
}

-- ---- nothing comes

abbrev pub make : Bool → List KeyedFrame → ℕ → LinkEnd
make cut sent reached = record { sent = sent; reached = reached; is_cut = cut }

pub same_end : (cut : Bool) (a b : List KeyedFrame) (n m : ℕ) → a ≡ b → n ≡ m → make cut a n ≡ make cut b m
same_end cut a b n m e f = ap (λ (l : List KeyedFrame). make cut l n) e ∙ ap (λ k. make cut b k) f

-- what follows in a longer list
pub rest_of : (front later all : List Event) → all ≡ front ++ later → drop (length front) all ≡ later
rest_of front later all e = ap (λ (l : List Event). drop (length front) l) e ∙ drop_at front later (length front) refl

-- nothing comes
pub grown_nothing : (role : Role) (limits : LimitsValue) (x : LinkEnd) (ys : List KeyedFrame) (key : List ℕ) → grown role limits x ys 0 key ≡ x
grown_nothing role limits x ys key =
    let n = x.reached in
    let sent : List Frame = frames_of x.sent in
    let same : n + 0 ≡ n = omega arith in
    let none : newly_told limits ys n (n + 0) ≡ [] = ap (λ k. drop (length (events_within limits n ys)) (events_within limits k ys)) same ∙ rest_of (events_within limits n ys) [] (events_within limits n ys) (sym (append-nil (events_within limits n ys))) in
    let owed : replies_of sent (newly_told limits ys n (n + 0)) ≡ [] = ap (λ (l : List Event). replies_of sent l) none ∙ nothing_owed (has_close sent) sent refl in
    same_end x.is_cut (x.sent ++ map (under_key role key) (replies_of sent (newly_told limits ys n (n + 0)))) x.sent (n + 0) n
    (ap (λ (l : List Frame). x.sent ++ map (under_key role key) l) owed ∙ append-nil x.sent) same

-- ---- the front of a piece

-- the endpoint stands as the end to which the front of a piece has come
pub delivered_by : (laws : LawsOfEachSession) (role : Role) (limits : LimitsValue) (ys : List KeyedFrame) (peers : AreSentBy (peer role) ys) (x : LinkEnd) (v : Endpoint) (is : IsEnd role limits x ys v)
    (key piece : List ℕ) (next : IsNextIn (stream_bytes ys) x.reached piece) (taken : Taken) (le : taken.used ≤ length piece) (w : Endpoint)
    → HasTaken reply_to v.session w.session (record { piece = piece; key = key; before = v.put.items; after = w.put.items }) taken
    → x.is_cut ≡ false → w.reached ≡ v.reached + taken.used → w.delivered.items ≡ v.delivered.items ++ messages_in (option_to_list taken.event) → w.is_cut ≡ v.is_cut
    → IsMaskingKey (Some key) → IsEnd role limits (grown role limits x ys taken.used key) ys w
delivered_by laws role limits ys peers x v is key piece next taken le w h going reached delivered cut is_key =
    grown_by laws role limits ys peers x v is key piece next taken le w
    (took laws role limits ys peers x v is key piece next taken le w
    (h (record { sent = frames_of x.sent; taken = take x.reached (stream_bytes ys); ended = x.is_cut }) going is.exchanged))
    reached delivered cut is_key
