-- What a call takes of a piece: nothing yet, a frame, or a fault.
use Rattle.std.proofs.Common.{◌≡◌, ℕ, ◌+◌, ◌<◌, ◌≤◌, Bool, false, List, [], ◌∷◌, ◌++◌, length, take, drop, Option, Some, None, refl, sym, ap, ◌∙◌, append_assoc, arith, inl, inr, subst}
use Rattle.std.specs.Prelude.{map}
use Rattle.std.proofs.lemmas.Bool.{cases_lt}
use Rattle.std.proofs.lemmas.List.{length-append, append-nil, take-append-drop, length-take-le}
use Rattle.ws_wire.specs.declared.role.Role.{Role}
use Rattle.ws_wire.specs.Header.{AreBytes, header_bytes}
use Rattle.ws_wire.specs.Masking.{masked_payload}
use Rattle.ws_wire.specs.Frame.{Frame, KeyedFrame, FitsTheLayout, frame_bytes, stream_bytes}
use Rattle.ws_wire.proofs.Frames.{no_frame_begins}
use Rattle.ws_wire.proofs.Headers.{same_parts}
use Rattle.ws_wire.proofs.Masks.{length-masked_payload}
use Rattle.ws_session.specs.declared.message.Message.{Message}
use Rattle.ws_session.specs.declared.reason.Reason.{Reason}
use Rattle.ws_session.specs.declared.event.Event.{Event}
use Rattle.ws_session.specs.declared.event.Event.TheVariants as event
use Rattle.ws_session.specs.Limits.{LimitsValue}
use Rattle.ws_session.specs.Faults.{IsNoLater}
use Rattle.ws_session.specs.Events.{HasEvents}
use Rattle.ws_session.specs.InnerNextFrame.{IsFaultOfNext, HasNoFaultOfNext, IsFirstFaultOfNext, IsPartOfFrame, opened_with, event_behind, due_at, IsAfter}
use Rattle.ws_session.specs.declared.session.Answering.{Answering}
use Rattle.ws_session.specs.InnerInvariant.{reply_by, CanAnswer}
use Rattle.ws_session.specs.Replies.{replies_by, under_key}
use Rattle.ws_session.specs.Exchange.{SessionValue, HasExchanged, is_over}
use Rattle.ws_session.specs.Taking.{Takes}
use Rattle.ws_session.proofs.Calls.{exchange_of, call_of}
use Rattle.std.proofs.lemmas.List.{take_all}
use Rattle.ws_session.proofs.ByteLists.{front_are_bytes}
use Rattle.ws_wire.proofs.Numbers.{front_bytes}
use Rattle.ws_session.proofs.Next.{within_front, next_later, next_earlier, drop_front}
use Rattle.ws_session.proofs.Statuses.{IsGoingOn, is_going_on}
use Rattle.ws_session.proofs.StatusReplies.{replies_at, no_replies}
use Rattle.ws_session.proofs.OneMoreFrame.{quiet_events, quiet_agrees, frame_events, frame_agrees, fault_events, fault_agrees, status_going}

-- ---- shorter fronts

-- a front of a part of a frame is one
pub part_of_part : (role : Role) (limits : LimitsValue) (opened : Option Message) (t u : List ℕ) → IsPartOfFrame role limits opened (t ++ u) → IsPartOfFrame role limits opened t
part_of_part role limits opened t u p = record {
  clean = λ n r f. p.clean n r (next_later role limits opened t u n r f);
  none = λ y more can e. p.none y (more ++ u) can (ap (λ (l : List ℕ). l ++ u) e ∙ append_assoc (frame_bytes y) more u);
}

-- so is what is shorter than the frame at the front
pub part_of_frame : (role : Role) (limits : LimitsValue) (opened : Option Message) (t u : List ℕ) (x : KeyedFrame) (more : List ℕ) → FitsTheLayout x → t ++ u ≡ frame_bytes x ++ more → length t < length (frame_bytes x)
    → HasNoFaultOfNext role limits opened (t ++ u) → IsPartOfFrame role limits opened t
part_of_frame role limits opened t u x more can e short clean = record {
  clean = λ n r f. clean n r (next_later role limits opened t u n r f);
  none = λ y after sends parts.
      let same = no_frame_begins y x (after ++ u) more sends can (sym (append_assoc (frame_bytes y) after u) ∙ ap (λ (l : List ℕ). l ++ u) (sym parts) ∙ e) in
      let size : length t ≡ length (frame_bytes y) + length after = ap (λ (l : List ℕ). length l) parts ∙ length-append (frame_bytes y) after in
      let equal : length (frame_bytes y) ≡ length (frame_bytes x) = ap (λ (z : KeyedFrame). length (frame_bytes z)) same.0 in
      omega arith;
}

fault_too_early : (n k : ℕ) (q r : Reason) → IsNoLater k r n q → n < k → ⊥
fault_too_early n k q r (inl lt) le = omega arith
fault_too_early n k q r (inr e) le = omega (arith, e.0)

pub within_bytes : (role : Role) (limits : LimitsValue) (opened : Option Message) (t : List ℕ) (n : ℕ) (r : Reason) → IsFaultOfNext role limits opened t n r → n ≤ length t
within_bytes role limits opened t n r f =
    let all : length t ≡ length (header_bytes f.header) + length (masked_payload f.header.key f.payload ++ f.rest) = ap (λ (l : List ℕ). length l) f.parts ∙ length-append (header_bytes f.header) (masked_payload f.header.key f.payload ++ f.rest) in
    let tail = length-append (masked_payload f.header.key f.payload) f.rest in
    let same = length-masked_payload f.header.key f.payload in
    let at = f.is_place in
    omega arith

-- so is what is shorter than the place of the first fault
pub part_before_fault : (role : Role) (limits : LimitsValue) (opened : Option Message) (t u : List ℕ) (k : ℕ) (r : Reason) → IsFirstFaultOfNext role limits opened (t ++ u) k r → length t < k → IsPartOfFrame role limits opened t
part_before_fault role limits opened t u k r first short = record {
  clean = λ n q f. fault_too_early n k q r (first.first n q (next_later role limits opened t u n q f)) (omega (arith, within_bytes role limits opened t n q f));
  none = λ y after can parts.
      let le = within_front role limits opened (t ++ u) k r first.fault y (after ++ u) can (ap (λ (l : List ℕ). l ++ u) parts ∙ append_assoc (frame_bytes y) after u) in
      let size : length t ≡ length (frame_bytes y) + length after = ap (λ (l : List ℕ). length l) parts ∙ length-append (frame_bytes y) after in
      omega arith;
}

-- a frame that begins in what was kept ends behind it
pub frame_behind_kept : (role : Role) (limits : LimitsValue) (opened : Option Message) (t u : List ℕ) (x : KeyedFrame) (more : List ℕ) → IsPartOfFrame role limits opened t → FitsTheLayout x → t ++ u ≡ frame_bytes x ++ more → length t < length (frame_bytes x)
frame_behind_kept role limits opened t u x more p can e =
    elim (cases_lt (length t) (length (frame_bytes x))) [
      | inl lt ↦ lt
      | inr le ↦ absurd (p.none x (drop (length (frame_bytes x)) t) can (drop_front (frame_bytes x) more t u e le))
    ]

pub fault_behind_kept : (role : Role) (limits : LimitsValue) (opened : Option Message) (t u : List ℕ) (k : ℕ) (r : Reason) → IsPartOfFrame role limits opened t → IsFaultOfNext role limits opened (t ++ u) k r → length t < k
fault_behind_kept role limits opened t u k r p f =
    elim (cases_lt (length t) k) [
      | inl lt ↦ lt
      | inr le ↦ absurd (p.clean k r (next_earlier role limits opened t u k r le f))
    ]

-- the first fault is that of the bytes up to it
pub first_at_end : (role : Role) (limits : LimitsValue) (opened : Option Message) (t u : List ℕ) (r : Reason) → IsFirstFaultOfNext role limits opened (t ++ u) (length t) r → IsFirstFaultOfNext role limits opened t (length t) r
first_at_end role limits opened t u r first = record {
  fault = next_earlier role limits opened t u (length t) r (omega arith) first.fault;
  first = λ n q f. first.first n q (next_later role limits opened t u n q f);
}

-- ---- the three cases

front_is : (a b x y : List ℕ) → length b ≡ length a → a ++ x ≡ b ++ y → a ≡ b
front_is a b x y size e = (same_parts a b x y (sym size) e).0

cut_piece : (kept piece : List ℕ) (n : ℕ) → kept ++ piece ≡ (kept ++ take n piece) ++ drop n piece
cut_piece kept piece n = ap (λ (l : List ℕ). kept ++ l) (sym (take-append-drop n piece)) ∙ sym (append_assoc kept (take n piece) (drop n piece))

long_of : (kept piece : List ℕ) (n : ℕ) → n ≤ length piece → length (kept ++ take n piece) ≡ length kept + n
long_of kept piece n le = length-append kept (take n piece) ∙ ap (λ k. length kept + k) (length-take-le n piece le)

module _ (a : Answering) (old : SessionValue) (can_answer : CanAnswer a old.sending) (sent : List Frame) (s piece : List ℕ) (ended : Bool) (key before after : List ℕ) (h : HasExchanged old sent s ended) (going : is_over old.status ≡ false) (bytes : AreBytes piece) where
  g : IsGoingOn old sent s ended
  g = is_going_on old sent s ended h going

  -- nothing is whole yet
  pub takes_part : (new : SessionValue) → IsPartOfFrame old.role old.limits old.opened (old.partial_frame ++ piece) → after ≡ before
      → new.role ≡ old.role → new.limits ≡ old.limits → new.opened ≡ old.opened → new.partial_frame ≡ old.partial_frame ++ piece → new.sending ≡ old.sending → new.status ≡ old.status
      → Takes (reply_by a) old new (exchange_of sent s ended) (call_of piece key before after) (record { used = length piece; event = None })
  takes_part new p put role limits opened rest sending status =
      let all : take (length piece) piece ≡ piece = take_all (length piece) piece (omega arith) in
      record {
        used = omega arith;
        agrees = subst (λ (l : List Frame). HasExchanged new l (s ++ take (length piece) piece) ended) (sym (ap (λ (l : List Frame). sent ++ l) (no_replies (reply_by a) sent) ∙ append-nil sent))
            (subst (λ (l : List ℕ). HasExchanged new sent (s ++ l) ended) (sym all) (quiet_agrees old sent s ended g piece bytes p (status_going old sent s ended h g) new role limits opened rest sending status));
        event = λ es has. subst (λ (l : List Event). HasEvents old.role old.limits (s ++ take (length piece) piece) l) (sym (append-nil es))
            (subst (λ (l : List ℕ). HasEvents old.role old.limits (s ++ l) es) (sym all) (quiet_events old sent s ended g piece p es has));
        least = λ n es lt has. quiet_events old sent s ended g (take n piece) (part_of_part old.role old.limits old.opened (old.partial_frame ++ take n piece) (drop n piece) (subst (λ (l : List ℕ). IsPartOfFrame old.role old.limits old.opened l) (cut_piece old.partial_frame piece n) p)) es has;
        whole = λ none. refl;
        put = put ∙ sym (append-nil before) ∙ ap (λ (l : List Frame). before ++ stream_bytes (map (under_key old.role key) l)) (sym (no_replies (reply_by a) sent));
        same = (role, limits);
      }

  owed_here : (e : Event) → replies_by (reply_by a) sent (e ∷ []) ≡ due_at old.status (reply_by a e)
  owed_here e = replies_at a sent old.status e g.status

  -- a frame is whole
  pub takes_frame : (new : SessionValue) (x : KeyedFrame) (more : List ℕ) (used : ℕ) → FitsTheLayout x → old.partial_frame ++ piece ≡ frame_bytes x ++ more → length (frame_bytes x) ≡ length old.partial_frame + used → HasNoFaultOfNext old.role old.limits old.opened (old.partial_frame ++ piece)
      → after ≡ before ++ stream_bytes (map (under_key old.role key) (due_at old.status (reply_by a (event_behind old.opened x.frame))))
      → IsAfter old new (event_behind old.opened x.frame) (opened_with old.opened x.frame)
      → Takes (reply_by a) old new (exchange_of sent s ended) (call_of piece key before after) (record { used = used; event = Some (event_behind old.opened x.frame) })
  takes_frame new x more used can e size clean put is_after =
      let total : length old.partial_frame + length piece ≡ length (frame_bytes x) + length more = sym (length-append old.partial_frame piece) ∙ ap (λ (l : List ℕ). length l) e ∙ length-append (frame_bytes x) more in
      let le : used ≤ length piece = omega arith in
      let cut = cut_piece old.partial_frame piece used in
      let front : old.partial_frame ++ take used piece ≡ frame_bytes x = front_is (old.partial_frame ++ take used piece) (frame_bytes x) (drop used piece) more (size ∙ sym (long_of old.partial_frame piece used le)) (sym cut ∙ e) in
      let none : HasNoFaultOfNext old.role old.limits old.opened (old.partial_frame ++ take used piece) = λ n r f. clean n r (subst (λ (l : List ℕ). IsFaultOfNext old.role old.limits old.opened l n r) (sym cut) (next_later old.role old.limits old.opened (old.partial_frame ++ take used piece) (drop used piece) n r f)) in
      record {
        used = le;
        agrees = frame_agrees old sent s ended g (take used piece) (front_bytes used piece bytes) x can front none a can_answer new is_after;
        event = λ es has. frame_events old sent s ended g (take used piece) (front_bytes used piece bytes) x can front none es has;
        least = λ n es lt has.
            let short : length (old.partial_frame ++ take n piece) ≡ length old.partial_frame + n = long_of old.partial_frame piece n (omega arith) in
            quiet_events old sent s ended g (take n piece) (part_of_frame old.role old.limits old.opened (old.partial_frame ++ take n piece) (drop n piece) x more can (sym (cut_piece old.partial_frame piece n) ∙ e) (omega arith) (subst (λ (l : List ℕ). HasNoFaultOfNext old.role old.limits old.opened l) (cut_piece old.partial_frame piece n) clean)) es has;
        whole = λ some. absurd cc;
        put = put ∙ ap (λ (l : List Frame). before ++ stream_bytes (map (under_key old.role key) l)) (sym (owed_here (event_behind old.opened x.frame)));
        same = (is_after.role, is_after.limits);
      }

  -- a fault
  pub takes_fault : (new : SessionValue) (place used : ℕ) (r : Reason) → AreBytes (old.partial_frame ++ piece) → IsFirstFaultOfNext old.role old.limits old.opened (old.partial_frame ++ piece) place r → place ≡ length old.partial_frame + used
      → after ≡ before ++ stream_bytes (map (under_key old.role key) (due_at old.status (reply_by a (event.Failed r))))
      → IsAfter old new (event.Failed r) None
      → Takes (reply_by a) old new (exchange_of sent s ended) (call_of piece key before after) (record { used = used; event = Some (event.Failed r) })
  takes_fault new place used r all_bytes first size put is_after =
      let total : length (old.partial_frame ++ piece) ≡ length old.partial_frame + length piece = length-append old.partial_frame piece in
      let le : used ≤ length piece = omega (arith, within_bytes old.role old.limits old.opened (old.partial_frame ++ piece) place r first.fault) in
      let cut = cut_piece old.partial_frame piece used in
      let at : place ≡ length (old.partial_frame ++ take used piece) = size ∙ sym (long_of old.partial_frame piece used le) in
      let here : IsFirstFaultOfNext old.role old.limits old.opened (old.partial_frame ++ take used piece) (length (old.partial_frame ++ take used piece)) r = first_at_end old.role old.limits old.opened (old.partial_frame ++ take used piece) (drop used piece) r
      (subst (λ (l : List ℕ). IsFirstFaultOfNext old.role old.limits old.opened l (length (old.partial_frame ++ take used piece)) r) cut (subst (λ n. IsFirstFaultOfNext old.role old.limits old.opened (old.partial_frame ++ piece) n r) at first)) in
      let are : AreBytes (old.partial_frame ++ take used piece) = front_are_bytes (old.partial_frame ++ take used piece) (drop used piece) (subst (λ (l : List ℕ). AreBytes l) cut all_bytes) in
      record {
        used = le;
        agrees = fault_agrees old sent s ended g (take used piece) r are here a can_answer new is_after;
        event = λ es has. fault_events old sent s ended g (take used piece) r are here es has;
        least = λ n es lt has.
            let short : length (old.partial_frame ++ take n piece) ≡ length old.partial_frame + n = long_of old.partial_frame piece n (omega arith) in
            quiet_events old sent s ended g (take n piece) (part_before_fault old.role old.limits old.opened (old.partial_frame ++ take n piece) (drop n piece) place r (subst (λ (l : List ℕ). IsFirstFaultOfNext old.role old.limits old.opened l place r) (cut_piece old.partial_frame piece n) first) (omega arith)) es has;
        whole = λ some. absurd cc;
        put = put ∙ ap (λ (l : List Frame). before ++ stream_bytes (map (under_key old.role key) l)) (sym (owed_here (event.Failed r)));
        same = (is_after.role, is_after.limits);
      }
