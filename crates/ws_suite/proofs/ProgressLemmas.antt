-- What more bytes add to what was noted of progress, and whether they end inside a frame that is no ping and no pong.
use Rattle.std.proofs.Common.{◌≡◌, ◌∙◌, ◌||◌, ◌++◌, ◌∷◌, [], ℕ, Bool, true, false, List, ap, sym, refl, subst}
use Rattle.std.proofs.Common.{append_assoc, append-nil, flat_map, ap₂, if◌then◌else◌, not, ◌&&◌, ◌↔◌}
use Rattle.std.proofs.Common.{Option, Some, None, inl, inr}
use Rattle.std.proofs.lemmas.Grind.{flat_map-append}
use Rattle.std.proofs.lemmas.List.{map-append}
use Rattle.std.specs.List.{concat}
use Rattle.ws_wire.specs.declared.role.Role.{Role}
use Rattle.ws_wire.specs.Frame.{Frame}
use Rattle.ws_session.specs.declared.event.Event.{Event}
use Rattle.ws_session.specs.Events.{HasEvents, IsFaultOf}
use Rattle.ws_session.specs.declared.event.Event.TheVariants as event
use Rattle.ws_session.specs.declared.status.Status.{Status}
use Rattle.ws_session.specs.declared.status.Status.TheVariants.{Open, Closing}
use Rattle.ws_session.specs.Exchange.{HasExchanged, SessionValue, is_over, last_event, status_after}
use Rattle.ws_session.specs.PingsAndPongs.{begins_ping_or_pong}
use Rattle.ws_session.specs.Replies.{has_close}
use Rattle.ws_session.specs.Limits.{LimitsValue}
use Rattle.ws_session.specs.Sends.{most_limits}
use Rattle.ws_suite.specs.declared.evidence.InTurn.{InTurn}
use Rattle.ws_suite.specs.declared.evidence.Reply.{Reply}
use Rattle.ws_suite.specs.declared.evidence.collecting.Collected.{Collected}
use Rattle.ws_suite.specs.declared.evidence.collecting.Way.{Way}
use Rattle.ws_suite.specs.declared.evidence.collecting.Way.TheVariants.{Sent, Got, Told}
use Rattle.ws_scripts.specs.declared.transcript.Turn.{Turn}
use Rattle.ws_suite.specs.Evidence.{HasRest, got_turns, joined_events}
use Rattle.ws_suite.specs.Growing.{GrowingValue, HasGrown, HasTakenTurns}
use Rattle.ws_suite.specs.InnerCollecting.{FrameLaws}
use Rattle.ws_suite.specs.InnerProgress.{TellsAdded, noted_pings, notes_progress}
use Rattle.ws_suite.specs.Progress.{BringEvents, EndInOtherFrame, IsProgress, after_pong, after_pongs, ends_stream}
use Rattle.ws_suite.specs.Progress.{has_progress, is_progress, ping_in, with_pings}
use Rattle.ws_suite.proofs.EvidenceLemmas.{joined_more}
use Rattle.ws_suite.proofs.TurnsCollected.{whole_events}

-- ---- events, one after the other

with_more : (pings : List (List ℕ)) (a b : List Event)
    → with_pings pings (a ++ b) ≡ with_pings (with_pings pings a) b
with_more pings a b = ap (λ (l : List (List ℕ)). pings ++ l) (flat_map-append ping_in a b)
    ∙ sym (append_assoc pings (flat_map ping_in a) (flat_map ping_in b))

after_more : (pings : List (List ℕ)) (a b : List Event)
    → after_pongs pings (a ++ b) ≡ after_pongs (after_pongs pings a) b
after_more pings [] b = refl
after_more pings (x ∷ a) b = after_more (after_pong pings x) a b

or_assoc : (a b c : Bool) → (a || (b || c)) ≡ ((a || b) || c)
or_assoc true b c = refl
or_assoc false b c = refl

progress_more : (pings : List (List ℕ)) (a b : List Event)
    → has_progress pings (a ++ b) ≡ (has_progress pings a || has_progress (after_pongs pings a) b)
progress_more pings [] b = refl
progress_more pings (x ∷ a) b =
    ap (λ (p : Bool). is_progress pings x || p) (progress_more (after_pong pings x) a b)
    ∙ or_assoc (is_progress pings x) (has_progress (after_pong pings x) a)
    (has_progress (after_pongs (after_pong pings x) a) b)

pub noted_more : (way : Way) (pings : List (List ℕ)) (a b : List Event)
    → noted_pings way pings (a ++ b) ≡ noted_pings way (noted_pings way pings a) b
noted_more Sent pings a b = with_more pings a b
noted_more Got pings a b = after_more pings a b
noted_more Told pings a b = after_more pings a b

pub notes_more : (way : Way) (pings : List (List ℕ)) (a b : List Event)
    → notes_progress way pings (a ++ b) ≡ (notes_progress way pings a || notes_progress way (noted_pings way pings a) b)
notes_more Sent pings a b = refl
notes_more Got pings a b = progress_more pings a b
notes_more Told pings a b = progress_more pings a b

pub noted_none : (way : Way) (pings : List (List ℕ)) → noted_pings way pings [] ≡ pings
noted_none Sent pings = append-nil pings
noted_none Got pings = refl
noted_none Told pings = refl

pub notes_none : (way : Way) (pings : List (List ℕ)) → notes_progress way pings [] ≡ false
notes_none Sent pings = refl
notes_none Got pings = refl
notes_none Told pings = refl

not_over : (b : Bool) → is_over (if b then Closing else Open) ≡ false
not_over true = refl
not_over false = refl

-- ---- a session's events are those of its role

pub events_under : (r s : Role) (l m : LimitsValue) (bytes : List ℕ) (events : List Event) → r ≡ s → l ≡ m
    → HasEvents r l bytes events → HasEvents s m bytes events
events_under r s l m bytes events e f h = record {
  frames = h.frames;
  rest = h.rest;
  split = h.split;
  fault = h.fault;
  is_fault = subst (λ (x : Role). IsFaultOf x m bytes h.fault) e
      (subst (λ (x : LimitsValue). IsFaultOf r x bytes h.fault) f h.is_fault);
  are = h.are;
}

-- ---- what a session tells of more bytes

pub tells_none : (v : SessionValue) → TellsAdded v v [] []
tells_none v = record {
  role = refl;
  limits = refl;
  events = λ sent taken h events has.
      subst (λ (l : List ℕ). HasEvents v.role v.limits l (events ++ [])) (sym (append-nil taken))
      (subst (λ (l : List Event). HasEvents v.role v.limits taken l) (sym (append-nil events)) has);
  exchanged = λ sent taken h. (sent, subst (λ (l : List ℕ). HasExchanged v sent l false) (sym (append-nil taken)) h);
}

pub tells_more : (u v w : SessionValue) (a b : List ℕ) (x y : List Event) → TellsAdded u v a x → TellsAdded v w b y
    → TellsAdded u w (a ++ b) (x ++ y)
tells_more u v w a b x y first second = record {
  role = second.role ∙ first.role;
  limits = second.limits ∙ first.limits;
  events = λ sent taken h events has.
      let more = first.exchanged sent taken h in
      let own = events_under u.role v.role u.limits v.limits (taken ++ a) (events ++ x) (sym first.role)
      (sym first.limits) (first.events sent taken h events has) in
      let all = events_under v.role u.role v.limits u.limits ((taken ++ a) ++ b) ((events ++ x) ++ y) first.role
      first.limits (second.events more.0 (taken ++ a) more.1 (events ++ x) own) in
      subst (λ (l : List ℕ). HasEvents u.role u.limits l (events ++ (x ++ y))) (append_assoc taken a b)
      (subst (λ (l : List Event). HasEvents u.role u.limits ((taken ++ a) ++ b) l) (append_assoc events x y) all);
  exchanged = λ sent taken h.
      let more = first.exchanged sent taken h in
      let last = second.exchanged more.0 (taken ++ a) more.1 in
      (last.0, subst (λ (l : List ℕ). HasExchanged w last.0 l false) (append_assoc taken a b) last.1);
}

-- ---- the turns that a session has taken

-- whether a session whose stream goes on is over, its last event tells
over_by_last : (sent : List Frame) (o : Option Event) → is_over (status_after sent false o) ≡ ends_stream o
over_by_last sent None = not_over (has_close sent)
over_by_last sent (Some event.Part) = not_over (has_close sent)
over_by_last sent (Some (event.Message message)) = not_over (has_close sent)
over_by_last sent (Some (event.Ping payload)) = not_over (has_close sent)
over_by_last sent (Some (event.Pong payload)) = not_over (has_close sent)
over_by_last sent (Some (event.Close close)) = refl
over_by_last sent (Some (event.Failed reason)) = refl

module _ {K : Type 0} {keeps : K → List (InTurn Reply) → Type 0} (found : Event → List Reply) (role : Role)
    (turns : List (List ℕ)) (session : SessionValue) (c : Collected K)
    (h : HasTakenTurns keeps found role turns session c) where
  abbrev bytes : List ℕ
  bytes = concat turns

  abbrev events : List Event
  events = h.exchanged.events

  has : HasEvents role most_limits bytes events
  has = events_under session.role role session.limits most_limits bytes events h.same_role h.limits
      h.exchanged.has_events

  -- what it tells of more bytes is what they add
  pub adds_told : (new : SessionValue) (piece : List ℕ) (later : List Event) → TellsAdded session new piece later
      → BringEvents role bytes piece later
  adds_told new piece later tells = record {
    events = events;
    are_events = has;
    more = events_under session.role role session.limits most_limits (bytes ++ piece) (events ++ later) h.same_role
        h.limits (tells.events h.sent bytes h.exchanged events h.exchanged.has_events);
  }

  over_is : is_over session.status ≡ ends_stream (last_event events)
  over_is = ap (λ (s : Status). is_over s) h.exchanged.status ∙ over_by_last h.sent (last_event events)

  module _ (laws : FrameLaws) where
    same_events : events ≡ joined_events h.is_shown.events
    same_events = laws.one_list role most_limits bytes events (joined_events h.is_shown.events) has
        (whole_events role turns h.is_shown.events h.is_shown.are_events)

    to_other : c.has_rest ≡ true → is_over session.status ≡ false → begins_ping_or_pong session.partial_frame ≡ false
        → EndInOtherFrame role bytes
    unfolding has events_under
    to_other rest going other = record {
      events = events;
      are_events = has;
      going = sym over_is ∙ going;
      inside = subst (λ (l : List Event). HasRest role bytes l) (sym same_events)
          (h.is_shown.has_rest.0 (sym h.has_rest ∙ rest));
      other = ap (λ (l : List ℕ). begins_ping_or_pong l) (sym (h.exchanged.taking going).1) ∙ other;
    }

    from_other : EndInOtherFrame role bytes → (c.has_rest ≡ true) × ((is_over session.status ≡ false)
        × (begins_ping_or_pong session.partial_frame ≡ false))
    from_other e =
        let same = laws.one_list role most_limits bytes events e.events has e.are_events in
        let going : is_over session.status ≡ false =
        over_is ∙ ap (λ (l : List Event). ends_stream (last_event l)) same ∙ e.going in
        let rests = (laws.one_split bytes h.exchanged.has_events.frames e.are_events.frames
        h.exchanged.has_events.rest e.are_events.rest h.exchanged.has_events.split e.are_events.split).1 in (
          h.has_rest ∙ h.is_shown.has_rest.1 (subst (λ (l : List Event). HasRest role bytes l)
              (sym same ∙ same_events) e.inside),
          (going, ap (λ (l : List ℕ). begins_ping_or_pong l) ((h.exchanged.taking going).1 ∙ rests) ∙ e.other),
        )

    -- so it tells whether they end inside a frame that is neither a ping nor a pong
    pub tells_other : (r : Bool)
        → r ≡ (c.has_rest && (not (is_over session.status) && not (begins_ping_or_pong session.partial_frame)))
        → ((r ≡ true) ↔ EndInOtherFrame role bytes)
    tells_other r is = (
      λ e. three c.has_rest (is_over session.status) (begins_ping_or_pong session.partial_frame) refl refl refl
          (sym is ∙ e),
      λ e.
          let both = from_other e in
          is ∙ ap₂ (λ (a b : Bool). a && b) both.0 (ap₂ (λ (a b : Bool). not a && not b) both.1.0 both.1.1),
    )
      where
        three : (a b d : Bool) → c.has_rest ≡ a → is_over session.status ≡ b
            → begins_ping_or_pong session.partial_frame ≡ d → (a && (not b && not d)) ≡ true
            → EndInOtherFrame role bytes
        three true false false x y z e = to_other x y z
        three true false true x y z e = absurd cc
        three true true d x y z e = absurd cc
        three false b d x y z e = absurd cc

-- ---- the evidence as it is inside

pub grown_so : (tested : Role) (turns : List Turn) (x v : GrowingValue) → x ≡ v → HasGrown tested turns v
    → HasGrown tested turns x
grown_so tested turns x v same h = subst (λ (y : GrowingValue). HasGrown tested turns y) (sym same) h

pub same_pings : {X : Type 0} (f : List (List ℕ) → X) (x v : GrowingValue) → x ≡ v
    → f x.pings ≡ f v.pings
same_pings f x v same = ap (λ (y : GrowingValue). f y.pings) same

pub or_other : (a b : Bool) → (a || b) ≡ (b || a)
or_other true true = refl
or_other true false = refl
or_other false true = refl
or_other false false = refl

-- ---- a piece of the last turn

got_bytes : (before : List Turn) (turn : Turn) (bytes : List ℕ)
    → concat (got_turns before ++ (turn.got ++ bytes) ∷ []) ≡ concat (got_turns (before ++ turn ∷ [])) ++ bytes
got_bytes before turn bytes =
    joined_more (got_turns before) (turn.got ++ bytes) ∙ sym (append_assoc (concat (got_turns before)) turn.got bytes)
    ∙ ap (λ (l : List ℕ). l ++ bytes) (sym (joined_more (got_turns before) turn.got))
    ∙ ap (λ (l : List (List ℕ)). concat l ++ bytes)
    (sym (map-append (λ (t : Turn). t.got) before (turn ∷ [])))

-- an event of it is progress
pub progress_told : (role : Role) (pings : List (List ℕ)) (before bytes : List ℕ) (later : List Event) (told : Bool)
    → told ≡ has_progress pings later → told ≡ true → ((true ≡ true) ↔ IsProgress role pings before bytes later)
progress_told role pings before piece later told by is = (λ e. inl (sym by ∙ is), λ p. refl)

-- none is, and then it tells whether it ends inside a frame that is
pub progress_inside : (role : Role) (before : List Turn) (turn : Turn) (bytes : List ℕ) (pings : List (List ℕ))
    (later : List Event) (told inside : Bool) → told ≡ has_progress pings later → told ≡ false
    → ((inside ≡ true) ↔ EndInOtherFrame role (concat (got_turns before ++ (turn.got ++ bytes) ∷ [])))
    → ((inside ≡ true) ↔ IsProgress role pings (concat (got_turns (before ++ turn ∷ []))) bytes later)
progress_inside role before turn bytes pings later told inside by is at = (
  λ e. inr (subst (λ (l : List ℕ). EndInOtherFrame role l) (got_bytes before turn bytes) (at.0 e)),
  λ p. elim p [
    | inl e ↦ absurd (let wrong : false ≡ true = sym is ∙ by ∙ e in cc)
    | inr e ↦ at.1 (subst (λ (l : List ℕ). EndInOtherFrame role l) (sym (got_bytes before turn bytes)) e)
  ],
)
