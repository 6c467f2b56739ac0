-- What the first bytes of valid frames tell: the events of the frames in them, and that the size of one is not taken.
use Rattle.std.proofs.Common.{◌≡◌, ℕ, ◌+◌, ◌-◌, ◌<◌, ◌≤◌, Bool, true, false, cond, List, [], ◌∷◌, ◌++◌, length, take, drop, Option, Some, None, refl, sym, ap, ◌∙◌, arith, inl, inr, subst}
use Rattle.std.proofs.lemmas.Bool.{cases_lt, le-ltb, lt-leb, le-leb}
use Rattle.std.proofs.lemmas.List.{append-nil, take-append-drop, length-take}
use Rattle.std.proofs.lemmas.Grind.{flat_map-append}
use Rattle.ws_wire.specs.declared.role.Role.{Role}
use Rattle.ws_wire.specs.Header.{header_bytes, is_masked}
use Rattle.ws_wire.specs.Frame.{KeyedFrame, FitsTheLayout, frame_bytes, stream_bytes}
use Rattle.ws_wire.proofs.Frames.{length-frame_bytes}
use Rattle.ws_session.specs.declared.reason.Reason.{Reason}
use Rattle.ws_session.specs.declared.event.Event.TheVariants as event
use Rattle.ws_session.specs.Limits.{LimitsValue}
use Rattle.ws_session.specs.Messages.{is_control, is_close, open_message_of}
use Rattle.ws_session.specs.Validity.{CloseIsLast, AreValidFrames}
use Rattle.ws_session.specs.Faults.{frames_of, expects_key, KeysFit, IsFaultAt, IsFirstFault, HasNoFault}
use Rattle.ws_session.specs.Events.{events_after, through_close, ending_before, HasEvents}
use Rattle.ws_session.specs.InnerNextFrame.{AreSent, header_of}
use Rattle.ws_session.specs.Reach.{is_message_too_big, passes_limit, size_reason, PassingFrame, fitting, first_passing, ending_within, frames_within, reason_within, size_fault, events_of_fault, events_within}
use Rattle.ws_session.proofs.Faults.{fault_before, fault_later, faultless_before}
use Rattle.ws_session.proofs.Streams.{ending_before_past}
use Rattle.ws_session.proofs.Next.{two_bytes, first_of_next}
use Rattle.ws_session.proofs.OneMoreFrame.{through_close_same}
use Rattle.ws_session.proofs.Valid.{ValidFront, valid_nothing}
use Rattle.ws_session.proofs.ValidStreams.{no_closes, valid_has_none}
use Rattle.ws_session.proofs.Within.{ends_within, ends_beyond, all_within, stops_within, past_within, front_split, split_all}
use Rattle.ws_session.proofs.Fitting.{fitting_valid, passes_by, passing_frame, IsPassing, AllFit, all_fit_or_not, passing_valid}
use Rattle.ws_session.proofs.SizePassed.{first_too_big}

-- ---- the frames in the first bytes

-- the first close of frames that end with it
closes_step : (c : Bool) (x : KeyedFrame) (ys : List KeyedFrame) → is_close x.frame ≡ c → (c ≡ true → ys ≡ []) → through_close ys ≡ ys → through_close (x ∷ ys) ≡ x ∷ ys
closes_step true x ys e none ih = ap (λ b. cond b (x ∷ []) (x ∷ through_close ys)) e ∙ ap (λ (l : List KeyedFrame). x ∷ l) (sym (none refl))
closes_step false x ys e none ih = ap (λ b. cond b (x ∷ []) (x ∷ through_close ys)) e ∙ ap (λ (l : List KeyedFrame). x ∷ l) ih

nothing_left : (n : ℕ) (xs : List KeyedFrame) → frames_of xs ≡ [] → ending_within n xs ≡ []
nothing_left n [] e = refl
nothing_left n (x ∷ xs) e = absurd cc

through_last : (n : ℕ) (xs : List KeyedFrame) → CloseIsLast (frames_of xs) → through_close (ending_within n xs) ≡ ending_within n xs
through_last n [] last = refl
through_last n (x ∷ xs) last =
    elim (cases_lt n (length (frame_bytes x))) [
      | inl lt ↦ ap (λ (l : List KeyedFrame). through_close l) (ends_beyond n x xs lt) ∙ sym (ends_beyond n x xs lt)
      | inr le ↦
          let k = n - length (frame_bytes x) in
          ap (λ (l : List KeyedFrame). through_close l) (ends_within n x xs le)
          ∙ closes_step (is_close x.frame) x (ending_within k xs) refl (λ is. nothing_left k xs (last.0 is).0) (through_last k xs last.1)
          ∙ sym (ends_within n x xs le)
    ]

-- none of these ends before a place in the first
none_before : (k place : ℕ) (y : KeyedFrame) (ys : List KeyedFrame) → place ≤ length (frame_bytes y) → ending_before place (ending_within k (y ∷ ys)) ≡ []
none_before k place y ys le =
    elim (cases_lt k (length (frame_bytes y))) [
      | inl lt ↦ ap (λ (l : List KeyedFrame). ending_before place l) (ends_beyond k y ys lt)
      | inr all ↦ ap (λ (l : List KeyedFrame). ending_before place l) (ends_within k y ys all) ∙ (rw (le-ltb (length (frame_bytes y)) place le) refl)
    ]

-- ---- a frame that passes a limit, and valid ones round it

module _ (role : Role) (limits most : LimitsValue) (fits : List KeyedFrame) (x : KeyedFrame) (more : List KeyedFrame) (each : AreSent (fits ++ x ∷ more)) (keys : KeysFit role (fits ++ x ∷ more))
    (valid : AreValidFrames limits (frames_of fits)) (next : ValidFront most (frames_of fits) x.frame) (passes : passes_limit limits (frames_of fits) x.frame ≡ true) where
  first_of_stream : IsFirstFault role limits (stream_bytes (fits ++ x ∷ more)) (length (stream_bytes fits) + length (header_bytes (header_of x))) (size_reason limits (frames_of fits) x.frame)
  first_of_stream =
      let sent = split_all FitsTheLayout fits (x ∷ more) each in
      let fit = split_all (λ (y : KeyedFrame). is_masked y.key ≡ expects_key role) fits (x ∷ more) keys in
      let t = frame_bytes x ++ stream_bytes more in
      let passing = passes_by (is_control x.frame) limits (frames_of fits) x.frame refl passes next.next.alone in
      subst (λ (l : List ℕ). IsFirstFault role limits l (length (stream_bytes fits) + length (header_bytes (header_of x))) (size_reason limits (frames_of fits) x.frame)) (sym (flat_map-append frame_bytes fits (x ∷ more)))
      (first_of_next role limits fits t sent.0 (no_closes fits next.none) (λ n r le f. valid_has_none role limits fits sent.0 fit.0 valid n r (fault_before role limits (stream_bytes fits) t n r le f))
      (length (header_bytes (header_of x))) (size_reason limits (frames_of fits) x.frame)
      (first_too_big role limits most (open_message_of (frames_of fits)) x (stream_bytes more) sent.1.0 fit.1.0 next.next passing.0 (is_message_too_big limits (frames_of fits) x.frame) passing.1))

  -- a fault of the first bytes is one of all
  of_all : (n m : ℕ) (q : Reason) → IsFaultAt role limits (take n (stream_bytes (fits ++ x ∷ more))) m q → IsFaultAt role limits (stream_bytes (fits ++ x ∷ more)) m q
  of_all n m q f =
      let s = stream_bytes (fits ++ x ∷ more) in
      subst (λ (l : List ℕ). IsFaultAt role limits l m q) (take-append-drop n s) (fault_later role limits (take n s) (drop n s) m q f)

  before_place : (n : ℕ) → n < length (stream_bytes fits) + length (header_bytes (header_of x)) → HasNoFault role limits (take n (stream_bytes (fits ++ x ∷ more)))
  before_place n lt m q f =
      let within : m ≤ length (take n (stream_bytes (fits ++ x ∷ more))) = f.long in
      let early : m ≤ n = omega (arith, within, length-take n (stream_bytes (fits ++ x ∷ more))) in
      elim (first_of_stream.first m q (of_all n m q f)) [ inl late ↦ omega (arith, late, early, lt) | inr at ↦ omega (arith, at.0, early, lt) ]

  from_place : (n : ℕ) → length (stream_bytes fits) + length (header_bytes (header_of x)) ≤ n → IsFirstFault role limits (take n (stream_bytes (fits ++ x ∷ more))) (length (stream_bytes fits) + length (header_bytes (header_of x))) (size_reason limits (frames_of fits) x.frame)
  from_place n le =
      let s = stream_bytes (fits ++ x ∷ more) in
      let place = length (stream_bytes fits) + length (header_bytes (header_of x)) in
      let long : place ≤ length s = first_of_stream.fault.long in
      record {
        fault = fault_before role limits (take n s) (drop n s) place (size_reason limits (frames_of fits) x.frame) (omega (arith, long, le, length-take n s)) (subst (λ (l : List ℕ). IsFaultAt role limits l place (size_reason limits (frames_of fits) x.frame)) (sym (take-append-drop n s)) first_of_stream.fault);
        first = λ m q f. first_of_stream.first m q (of_all n m q f);
      }

  frames_before : (n : ℕ) → length (stream_bytes fits) + length (header_bytes (header_of x)) ≤ n → through_close (ending_before (length (stream_bytes fits) + length (header_bytes (header_of x))) (ending_within n (fits ++ x ∷ more))) ≡ fits
  frames_before n le =
      let place = length (stream_bytes fits) + length (header_bytes (header_of x)) in
      let w = past_within n fits (x ∷ more) (omega arith) in
      let late : length (stream_bytes fits) < place = omega (arith, two_bytes (header_of x)) in
      let stops : place - length (stream_bytes fits) ≤ length (frame_bytes x) = omega (arith, length-frame_bytes x) in
      ap (λ (l : List KeyedFrame). through_close (ending_before place l)) w.1
      ∙ ap (λ (l : List KeyedFrame). through_close l) (ending_before_past place fits (ending_within w.0 (x ∷ more)) late ∙ ap (λ (l : List KeyedFrame). fits ++ l) (none_before w.0 (place - length (stream_bytes fits)) x more stops) ∙ append-nil fits)
      ∙ through_close_same fits (no_closes fits next.none)

-- ---- the events of the first bytes

module _ (role : Role) (limits most : LimitsValue) (n : ℕ) (xs : List KeyedFrame) (each : AreSent xs) (keys : KeysFit role xs) (valid : AreValidFrames most (frames_of xs)) where
  fits_valid : AreValidFrames limits (frames_of (fitting limits xs))
  fits_valid = fitting_valid limits most [] xs valid (valid_nothing limits)

  -- no size is at fault
  quiet : size_fault limits n xs ≡ None → frames_within limits n xs ≡ ending_within n xs → HasNoFault role limits (take n (stream_bytes xs)) → HasEvents role limits (take n (stream_bytes xs)) (events_within limits n xs)
  quiet small same clean =
      let s = front_split n xs each in
      let told = events_after [] (frames_of (frames_within limits n xs)) in
      record {
        frames = ending_within n xs;
        rest = s.rest;
        split = s.split;
        fault = None;
        is_fault = clean;
        are = ap (λ (o : Option Reason). told ++ events_of_fault o) small ∙ append-nil told ∙ ap (λ (l : List KeyedFrame). events_after [] (frames_of l)) (same ∙ sym (through_last n xs valid.close));
      }

  all_fit : AllFit xs (fitting limits xs) (first_passing limits xs) → HasEvents role limits (take n (stream_bytes xs)) (events_within limits n xs)
  all_fit t =
      let here : AreValidFrames limits (frames_of xs) = subst (λ (l : List KeyedFrame). AreValidFrames limits (frames_of l)) t.0 fits_valid in
      let all : take n (stream_bytes xs) ++ drop n (stream_bytes xs) ≡ stream_bytes xs = take-append-drop n (stream_bytes xs) in
      quiet (ap (λ (o : Option PassingFrame). reason_within n (length (stream_bytes (fitting limits xs))) o) t.1) (ap (λ (l : List KeyedFrame). ending_within n l) t.0)
      (faultless_before role limits (take n (stream_bytes xs)) (drop n (stream_bytes xs)) (subst (λ (l : List ℕ). HasNoFault role limits l) (sym all) (valid_has_none role limits xs each keys here)))

  passing : IsPassing limits [] xs (fitting limits xs) (first_passing limits xs) → HasEvents role limits (take n (stream_bytes xs)) (events_within limits n xs)
  passing p =
      let fits = fitting limits xs in
      let place = length (stream_bytes fits) + length (header_bytes (header_of p.frame)) in
      let sent : AreSent (fits ++ p.frame ∷ p.more) = subst (λ (l : List KeyedFrame). AreSent l) p.parts each in
      let fit : KeysFit role (fits ++ p.frame ∷ p.more) = subst (λ (l : List KeyedFrame). KeysFit role l) p.parts keys in
      let next = passing_valid most xs fits p.frame p.more p.parts valid in
      let reason = size_reason limits (frames_of fits) p.frame.frame in
      let header : size_fault limits n xs ≡ reason_within n (length (stream_bytes fits)) (Some (passing_frame p.frame reason)) = ap (λ (o : Option PassingFrame). reason_within n (length (stream_bytes fits)) o) p.is_first in
      elim (cases_lt n place) [
        | inl lt ↦
            let stops : n < length (stream_bytes fits) + length (frame_bytes p.frame) = omega (arith, lt, length-frame_bytes p.frame) in
            quiet (header ∙ ap (λ b. cond b (Some reason) None) (lt-leb place n lt)) (sym (ap (λ (l : List KeyedFrame). ending_within n l) p.parts ∙ stops_within n fits p.frame p.more stops))
            (subst (λ (l : List KeyedFrame). HasNoFault role limits (take n (stream_bytes l))) (sym p.parts) (before_place role limits most fits p.frame p.more sent fit fits_valid next p.passes n lt))
        | inr le ↦
            let s = front_split n xs each in
            let told = events_after [] (frames_of (frames_within limits n xs)) in
            let fit_within : length (stream_bytes fits) ≤ n = omega (arith, le) in
            record {
              frames = ending_within n xs;
              rest = s.rest;
              split = s.split;
              fault = Some (place, reason);
              is_fault = subst (λ (l : List KeyedFrame). IsFirstFault role limits (take n (stream_bytes l)) place reason) (sym p.parts) (from_place role limits most fits p.frame p.more sent fit fits_valid next p.passes n le);
              are = ap (λ (o : Option Reason). told ++ events_of_fault o) (header ∙ ap (λ b. cond b (Some reason) None) (le-leb place n le))
                  ∙ ap (λ (l : List KeyedFrame). events_after [] (frames_of l) ++ event.Failed reason ∷ []) (all_within n fits fit_within ∙ sym (ap (λ (l : List KeyedFrame). through_close (ending_before place (ending_within n l))) p.parts ∙ frames_before role limits most fits p.frame p.more sent fit fits_valid next p.passes n le));
            }
      ]

  pub told_events : HasEvents role limits (take n (stream_bytes xs)) (events_within limits n xs)
  told_events = elim (all_fit_or_not limits [] xs) [ inl t ↦ all_fit t | inr p ↦ passing p ]
