-- A doomed frame stays so, a doomed stream comes to nothing but a fault, and a session's stream is doomed as its frame
-- is.
use Rattle.std.proofs.Common.{◌≡◌, ℕ, ◌+◌, ◌<◌, ◌≤◌, ◌⊎◌, Bool, false, List, [], ◌∷◌, ◌++◌, length, take, drop, Option}
use Rattle.std.proofs.Common.{Some, None, refl, sym, ap, ◌∙◌, append_assoc, arith, inl, inr, subst}
use Rattle.std.specs.Prelude.{◌↔◌, IsTrue}
use Rattle.std.proofs.lemmas.Bool.{cases_lt}
use Rattle.std.proofs.lemmas.List.{length-append, append-nil, length-take-le}
use Rattle.ws_wire.specs.declared.role.Role.{Role}
use Rattle.ws_wire.specs.Header.{header_bytes}
use Rattle.ws_wire.specs.Masking.{masked_payload}
use Rattle.ws_wire.specs.Frame.{Frame, KeyedFrame, FitsTheLayout, frame_bytes, stream_bytes}
use Rattle.ws_wire.specs.Stream.{SplitsInto}
use Rattle.ws_wire.proofs.Frames.{none_begins, sent_is_wire}
use Rattle.ws_wire.proofs.Numbers.{front_bytes}
use Rattle.ws_wire.proofs.Splits.{split_is_one}
use Rattle.ws_text.proofs.Texts.{splits}
use Rattle.ws_session.specs.declared.message.Message.{Message}
use Rattle.ws_session.specs.declared.reason.Reason.{Reason}
use Rattle.ws_session.specs.declared.event.Event.{Event}
use Rattle.ws_session.specs.declared.event.Event.TheVariants as event
use Rattle.ws_session.specs.Limits.{LimitsValue}
use Rattle.ws_session.specs.Messages.{open_message_of}
use Rattle.ws_session.specs.Faults.{frames_of, IsFaultAt, IsNoLater, HasNoFault}
use Rattle.ws_session.specs.Doomed.{IsRightFrame, CanBeRight, IsDoomed, EndsDoomed}
use Rattle.ws_session.specs.Events.{events_after, through_close, ending_before, events_of, IsFaultOf, HasEvents}
use Rattle.ws_session.specs.Exchange.{SessionValue, HasExchanged, is_over}
use Rattle.ws_session.specs.InnerNextFrame.{AreSent, header_of, HasNoFaultOfNext}
use Rattle.ws_session.proofs.Faults.{fault_before}
use Rattle.ws_session.proofs.Places.{masked_split}
use Rattle.ws_session.proofs.Statuses.{is_going_on}
use Rattle.ws_session.proofs.Streams.{goes_on, ending_before_past, ending_before_stops}
use Rattle.ws_session.proofs.ToldFrames.{fine_next}

-- ---- more bytes of the frame

nothing_before : (xs ys : List ℕ) → xs ++ ys ≡ [] → xs ≡ []
nothing_before [] ys e = refl
nothing_before (x ∷ xs) ys e = absurd cc

can_shorter : (role : Role) (limits : LimitsValue) (opened : Option Message) (bytes more : List ℕ)
    → CanBeRight role limits opened (bytes ++ more) → CanBeRight role limits opened bytes
can_shorter role limits opened bytes more can = record {
  header = can.header;
  payload = can.payload;
  later = more ++ can.later;
  parts = can.parts ∙ append_assoc bytes more can.later;
  right = can.right;
}

pub still_doomed : (role : Role) (limits : LimitsValue) (opened : Option Message) (bytes more : List ℕ)
    → IsDoomed role limits opened bytes → IsDoomed role limits opened (bytes ++ more)
still_doomed role limits opened bytes more d = record {
  begun = λ e. d.begun (nothing_before bytes more e);
  never = λ
      can. d.never (can_shorter role limits opened bytes more can);
}

-- ---- a whole frame behind the frames that have come

-- one without a fault is right
faultless_is_right : (role : Role) (limits : LimitsValue) (opened : Option Message) (x : KeyedFrame) → FitsTheLayout x
    → HasNoFaultOfNext role limits opened (frame_bytes x) → IsRightFrame role limits opened (header_of x)
    x.frame.payload
faultless_is_right role limits opened x sent clean =
    let p = x.frame.payload in
    record {
      is_header = (sent_is_wire x sent).header;
      are_bytes = sent.payload;
      whole = refl;
      right = λ n r le a. clean (length (header_bytes (header_of x)) + length (take n p)) r (record {
        header = header_of x;
        is_header = (sent_is_wire x sent).header;
        payload = take n p;
        are_bytes = front_bytes n p sent.payload;
        within = omega (arith, length-take-le n p le);
        rest = drop n (masked_payload x.key p);
        parts = ap (λ (l : List ℕ). header_bytes (header_of x) ++ l) (masked_split x.key n p);
        is_place = refl;
        applies = a;
      });
    }

-- the first fault is not behind another
not_before : (n m : ℕ) (r q : Reason) → m < n → IsNoLater n r m q → ⊥
not_before n m r q lt (inl a) = omega arith
not_before n m r q lt (inr a) = omega (arith, a.0)

module _ (role : Role) (limits : LimitsValue) (bytes more : List ℕ) (frames : List KeyedFrame) (rest : List ℕ)
    (d : EndsDoomed role limits bytes frames rest) where
  goes : bytes ++ more ≡ stream_bytes frames ++ (rest ++ more)
  goes = ap (λ (l : List ℕ). l ++ more) d.split.whole ∙ append_assoc (stream_bytes frames) rest more

  -- a whole frame has a fault before its end
  whole_is_wrong : (x : KeyedFrame) (y : List ℕ) → FitsTheLayout x → rest ++ more ≡ frame_bytes x ++ y
      → ((n : ℕ) (r : Reason) → n ≤ length (stream_bytes frames) + length (frame_bytes x)
      → IsFaultAt role limits (bytes ++ more) n r → ⊥) → ⊥
  whole_is_wrong x y sent e clean =
      let opened = open_message_of (frames_of frames) in
      let fine = fine_next role limits (bytes ++ more) frames x y (goes
      ∙ ap (λ (l : List ℕ). stream_bytes frames ++ l) e) d.split.each d.no_close sent clean in
      let right = faultless_is_right role limits opened x sent fine in
      elim (splits (frame_bytes x) y rest more (sym e)) [
        | inl z ↦ d.doomed.never (record {
          header = header_of x;
          payload = x.frame.payload;
          later = z.0;
          parts = z.1;
          right = right;
        })
        | inr z ↦ d.split.left x (z.0 ∷ z.1) sent z.2
      ]

  -- as long as no fault has come the bytes are inside the same frame
  pub stays_doomed : HasNoFault role limits (bytes ++ more) → EndsDoomed role limits (bytes ++ more) frames
      (rest ++ more)
  stays_doomed clean = record {
    split = record {
      each = d.split.each;
      whole = goes;
      left = λ x y sent e. whole_is_wrong x y sent e
          (λ n r le f. clean n r f);
    };
    no_close = d.no_close;
    clean = clean;
    doomed = still_doomed role limits (open_message_of (frames_of frames)) rest more d.doomed;
  }

  -- the frames that end before the first fault are those that had come
  before_fault : (later : List KeyedFrame) (b : List ℕ) (f : ℕ × Reason) → AreSent later
      → rest ++ more ≡ stream_bytes later ++ b → IsFaultOf role limits (bytes ++ more) (Some f)
      → ending_before f.0 (frames ++ later) ≡ frames
  before_fault later b f each e is =
      let size : length bytes ≡ length (stream_bytes frames) + length rest = ap (λ (l : List ℕ). length l) d.split.whole
      ∙ length-append (stream_bytes frames) rest in
      let late : length (stream_bytes frames) < f.0 = elim (cases_lt (length bytes) f.0) [
        | inl lt ↦ omega (arith, size)
        | inr le ↦ absurd (d.clean f.0 f.1 (fault_before role limits bytes more f.0 f.1 le is.fault))
      ] in
      let all : ending_before f.0 (frames ++ []) ≡ frames ++ [] = ending_before_past f.0 frames [] late in
      let these : ending_before f.0 frames ≡ frames = ap (λ (l : List KeyedFrame). ending_before f.0 l)
      (sym (append-nil frames)) ∙ all ∙ append-nil frames in
      by_next later each e is these
    where
      by_next : (ys : List KeyedFrame) → AreSent ys → rest ++ more ≡ stream_bytes ys ++ b
          → IsFaultOf role limits (bytes ++ more) (Some f) → ending_before f.0 frames ≡ frames
          → ending_before f.0 (frames ++ ys) ≡ frames
      by_next [] sent whole first these = ap (λ (l : List KeyedFrame). ending_before f.0 l) (append-nil frames) ∙ these
      by_next (y ∷ ys) sent whole first these =
          elim (cases_lt (length (stream_bytes frames) + length (frame_bytes y)) f.0) [
            | inl past ↦ absurd (whole_is_wrong y (stream_bytes ys ++ b) sent.0
                (whole ∙ append_assoc (frame_bytes y) (stream_bytes ys) b)
                (λ n r le g. let at = first.first n r g in not_before f.0 n f.1 r (omega arith) at))
            | inr le ↦ ending_before_stops f.0 frames y ys le ∙ these
          ]

  events_with : (later : List KeyedFrame) (b : List ℕ) (g : Option (ℕ × Reason)) → AreSent later
      → rest ++ more ≡ stream_bytes later ++ b → IsFaultOf role limits (bytes ++ more) g
      → (events_of (frames ++ later) g ≡ events_of frames None) ⊎ ((reason : Reason)
      × (events_of (frames ++ later) g ≡ events_of frames None ++ event.Failed reason ∷ []))
  events_with [] b None each e is = inl (ap (λ (l : List KeyedFrame). events_of l None) (append-nil frames))
  events_with (y ∷ ys) b None each e is = absurd (whole_is_wrong y (stream_bytes ys ++ b) each.0
      (e ∙ append_assoc (frame_bytes y) (stream_bytes ys) b) (λ n r le f. is n r f))
  events_with later b (Some f) each e is = inr (
    f.1,
    ap (λ (l : List KeyedFrame). events_after []
        (frames_of (through_close l)) ++ event.Failed f.1 ∷ []) (before_fault later b f each e is),
  )

  none_so_far : (f : Option (ℕ × Reason)) → IsFaultOf role limits bytes f → events_of frames f ≡ events_of frames None
  none_so_far None is = refl
  none_so_far (Some f) is = absurd (d.clean f.0 f.1 is.fault)

  -- no event but a fault comes of more bytes
  pub only_a_fault : (events all : List Event) → HasEvents role limits bytes events
      → HasEvents role limits (bytes ++ more) all → (all ≡ events) ⊎
      ((reason : Reason) × (all ≡ events ++ event.Failed reason ∷ []))
  only_a_fault events all p q =
      let split = split_is_one FitsTheLayout frame_bytes none_begins bytes frames p.frames rest p.rest d.split p.split
      in
      let told : events_of frames None ≡ events = sym (p.are ∙ ap (λ (l : List KeyedFrame). events_of l p.fault)
      (sym split.0) ∙ none_so_far p.fault p.is_fault) in
      let g = goes_on frames q.frames (rest ++ more) q.rest d.split.each q.split.each q.split.left
      (sym goes ∙ q.split.whole) in
      let all_is : all ≡ events_of (frames ++ g.later) q.fault = q.are
      ∙ ap (λ (l : List KeyedFrame). events_of l q.fault) g.frames in
      elim (events_with g.later q.rest q.fault g.sent g.bytes q.is_fault) [
        | inl e ↦ inl (all_is ∙ e ∙ told)
        | inr e ↦ inr (e.0, all_is ∙ e.1 ∙ ap (λ (l : List Event). l ++ event.Failed e.0 ∷ []) told)
      ]

-- ---- a session's stream

pub doomed_taken : (v : SessionValue) (sent : List Frame) (taken : List ℕ) (ended : Bool)
    → HasExchanged v sent taken ended → is_over v.status ≡ false
    → IsDoomed v.role v.limits v.opened v.partial_frame ↔ ((frames : List KeyedFrame) × (rest : List ℕ)
    × EndsDoomed v.role v.limits taken frames rest)
doomed_taken v sent taken ended h going =
    let g = is_going_on v sent taken ended h going in
    let split : SplitsInto taken g.frames v.partial_frame = record { each = g.each; whole = g.whole; left = g.left } in (
      λ d. (
        g.frames,
        v.partial_frame,
        record {
          split = split;
          no_close = g.no_close;
          clean = g.clean;
          doomed = subst
              (λ (o : Option Message). IsDoomed v.role v.limits o v.partial_frame) g.opened d;
        },
      ),
      λ e.
          let same = split_is_one FitsTheLayout frame_bytes none_begins taken e.0 g.frames e.1 v.partial_frame e.2.split
          split in
          let opened : open_message_of (frames_of e.0) ≡ v.opened = ap
          (λ (l : List KeyedFrame). open_message_of (frames_of l)) same.0 ∙ sym g.opened in
          subst (λ (o : Option Message). IsDoomed v.role v.limits o v.partial_frame) opened
          (subst (λ (l : List ℕ). IsDoomed v.role v.limits (open_message_of (frames_of e.0)) l) same.1 e.2.doomed),
    )

-- so the answer for the frame is that for the stream
pub doomed_stream : (v w : SessionValue) (b : Bool) → v ≡ w → IsTrue b ↔ IsDoomed v.role v.limits v.opened
    v.partial_frame → (sent : List Frame) (taken : List ℕ) (ended : Bool) → HasExchanged w sent taken ended
    → is_over w.status ≡ false
    → IsTrue b ↔ ((frames : List KeyedFrame) × (rest : List ℕ) × EndsDoomed w.role w.limits taken frames rest)
doomed_stream v w b e now sent taken ended h going =
    let here : IsTrue b ↔ IsDoomed w.role w.limits w.opened w.partial_frame = subst
    (λ (x : SessionValue). IsTrue b ↔ IsDoomed x.role x.limits x.opened x.partial_frame) e now in
    let same = doomed_taken w sent taken ended h going in
    (λ t. same.0 (here.0 t), λ d. here.1 (same.1 d))
