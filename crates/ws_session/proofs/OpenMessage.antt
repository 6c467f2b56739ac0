-- The open message and the event, one frame after the other.
use Rattle.std.proofs.Common.{◌≡◌, ℕ, Bool, true, false, cond, List, [], ◌∷◌, ◌++◌, Some, None, refl, ap, ◌∙◌}
use Rattle.std.specs.Prelude.{not}
use Rattle.std.proofs.lemmas.List.{append-nil}
use Rattle.std.proofs.lemmas.Grind.{flat_map-append}
use Rattle.ws_wire.specs.Frame.{Frame}
use Rattle.ws_session.specs.declared.message.Kind.{Kind}
use Rattle.ws_session.specs.declared.message.Message.{Message}
use Rattle.ws_session.specs.declared.event.Event.TheVariants as event
use Rattle.ws_session.specs.Messages.{is_control, data_frames, Groups, before_first, with_frame, groups_of, kind_of, joined_payload, message_of, message_if_any, open_message_of}
use Rattle.ws_session.specs.Events.{event_of_control, event_of}
use Rattle.ws_session.specs.InnerNextFrame.{message_with, opened_with, event_behind}
use Rattle.std.proofs.lemmas.List.Elements.{filter-append}

-- ---- groups

with_by : Bool → Frame → List (List Frame) → List Frame → Groups
with_by b d finished unfinished = cond b (record { finished = (d ∷ []) ∷ finished; unfinished = unfinished }) (before_first d finished unfinished)

-- one more data frame behind the groups
and_by : Bool → List (List Frame) → List Frame → Frame → Groups
and_by c finished unfinished f = cond c (record { finished = finished ++ (unfinished ++ f ∷ []) ∷ []; unfinished = [] }) (record { finished = finished; unfinished = unfinished ++ f ∷ [] })

-- whether it goes behind the groups or another before them comes first makes no difference
both_ways : (b c : Bool) (d f : Frame) (finished : List (List Frame)) (unfinished : List Frame)
    → with_by b d (and_by c finished unfinished f).finished (and_by c finished unfinished f).unfinished ≡ and_by c (with_by b d finished unfinished).finished (with_by b d finished unfinished).unfinished f
unfolding with_by and_by
both_ways true true d f finished unfinished = refl
both_ways true false d f finished unfinished = refl
both_ways false true d f [] unfinished = refl
both_ways false true d f (g ∷ finished) unfinished = refl
both_ways false false d f [] unfinished = refl
both_ways false false d f (g ∷ finished) unfinished = refl

first_alone : (b : Bool) (f : Frame) → with_by b f [] [] ≡ and_by b [] [] f
unfolding with_by and_by
first_alone true f = refl
first_alone false f = refl

groups_snoc : (fs : List Frame) (f : Frame) → groups_of (fs ++ f ∷ []) ≡ and_by f.fin (groups_of fs).finished (groups_of fs).unfinished f
unfolding with_by and_by
groups_snoc [] f = first_alone f.fin f
groups_snoc (d ∷ fs) f = ap (λ (g : Groups). with_frame d g) (groups_snoc fs f) ∙ both_ways d.fin f.fin d f (groups_of fs).finished (groups_of fs).unfinished

-- ---- the open message

data_snoc : (b : Bool) (fs : List Frame) (f : Frame) → is_control f ≡ b → data_frames (fs ++ f ∷ []) ≡ cond b (data_frames fs) (data_frames fs ++ f ∷ [])
data_snoc true fs f e = filter-append (λ (x : Frame). not (is_control x)) fs (f ∷ []) ∙ ap (λ c. data_frames fs ++ cond (not c) (f ∷ []) []) e ∙ append-nil (data_frames fs)
data_snoc false fs f e = filter-append (λ (x : Frame). not (is_control x)) fs (f ∷ []) ∙ ap (λ c. data_frames fs ++ cond (not c) (f ∷ []) []) e

make_message : Kind → List ℕ → Message
make_message kind payload = record { kind = kind; payload = payload }

message_snoc : (gs : List Frame) (f : Frame) → message_of (gs ++ f ∷ []) ≡ message_with (message_if_any gs) f
unfolding make_message
message_snoc [] f = ap (λ (l : List ℕ). make_message (kind_of f.opcode) l) (append-nil f.payload)
message_snoc (g ∷ gs) f = ap (λ (l : List ℕ). make_message (kind_of g.opcode) l) (flat_map-append (λ (x : Frame). x.payload) (g ∷ gs) (f ∷ []) ∙ ap (λ (l : List ℕ). joined_payload (g ∷ gs) ++ l) (append-nil f.payload))

some_snoc : (gs : List Frame) (f : Frame) → message_if_any (gs ++ f ∷ []) ≡ Some (message_of (gs ++ f ∷ []))
some_snoc [] f = refl
some_snoc (g ∷ gs) f = refl

open_by : (b c : Bool) (fs : List Frame) (f : Frame) → is_control f ≡ b → f.fin ≡ c → open_message_of (fs ++ f ∷ []) ≡ cond b (open_message_of fs) (cond c None (Some (message_with (open_message_of fs) f)))
unfolding and_by
open_by true c fs f e fin = ap (λ (ds : List Frame). message_if_any (groups_of ds).unfinished) (data_snoc true fs f e)
open_by false true fs f e fin = ap (λ (ds : List Frame). message_if_any (groups_of ds).unfinished) (data_snoc false fs f e) ∙ ap (λ (g : Groups). message_if_any g.unfinished) (groups_snoc (data_frames fs) f)
    ∙ ap (λ d. message_if_any (and_by d (groups_of (data_frames fs)).finished (groups_of (data_frames fs)).unfinished f).unfinished) fin
open_by false false fs f e fin = ap (λ (ds : List Frame). message_if_any (groups_of ds).unfinished) (data_snoc false fs f e) ∙ ap (λ (g : Groups). message_if_any g.unfinished) (groups_snoc (data_frames fs) f)
    ∙ ap (λ d. message_if_any (and_by d (groups_of (data_frames fs)).finished (groups_of (data_frames fs)).unfinished f).unfinished) fin
    ∙ some_snoc (groups_of (data_frames fs)).unfinished f ∙ ap (λ (m : Message). Some m) (message_snoc (groups_of (data_frames fs)).unfinished f)

-- the open message after one more frame
pub open_snoc : (fs : List Frame) (f : Frame) → open_message_of (fs ++ f ∷ []) ≡ opened_with (open_message_of fs) f
open_snoc fs f = open_by (is_control f) f.fin fs f refl refl

-- the event of one more frame
pub event_snoc : (fs : List Frame) (f : Frame) → event_of fs f ≡ event_behind (open_message_of fs) f
event_snoc fs f = ap (λ (m : Message). cond (is_control f) (event_of_control f) (cond f.fin (event.Message m) event.Part)) (message_snoc (groups_of (data_frames fs)).unfinished f)

-- ---- the groups with one more frame

pub groups_control : (fs : List Frame) (f : Frame) → is_control f ≡ true → groups_of (data_frames (fs ++ f ∷ [])) ≡ groups_of (data_frames fs)
groups_control fs f e = ap (λ (ds : List Frame). groups_of ds) (data_snoc true fs f e)

pub groups_end : (fs : List Frame) (f : Frame) → is_control f ≡ false → f.fin ≡ true → groups_of (data_frames (fs ++ f ∷ [])) ≡ record { finished = (groups_of (data_frames fs)).finished ++ ((groups_of (data_frames fs)).unfinished ++ f ∷ []) ∷ []; unfinished = [] }
unfolding and_by
groups_end fs f e fin = ap (λ (ds : List Frame). groups_of ds) (data_snoc false fs f e) ∙ groups_snoc (data_frames fs) f ∙ ap (λ b. and_by b (groups_of (data_frames fs)).finished (groups_of (data_frames fs)).unfinished f) fin

pub groups_more : (fs : List Frame) (f : Frame) → is_control f ≡ false → f.fin ≡ false → groups_of (data_frames (fs ++ f ∷ [])) ≡ record { finished = (groups_of (data_frames fs)).finished; unfinished = (groups_of (data_frames fs)).unfinished ++ f ∷ [] }
unfolding and_by
groups_more fs f e fin = ap (λ (ds : List Frame). groups_of ds) (data_snoc false fs f e) ∙ groups_snoc (data_frames fs) f ∙ ap (λ b. and_by b (groups_of (data_frames fs)).finished (groups_of (data_frames fs)).unfinished f) fin
