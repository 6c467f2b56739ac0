-- A piece that comes in parts, one after the other.
use Rattle.std.proofs.Common.{◌≡◌, ℕ, ◌+◌, ◌≤◌, List, ◌++◌, length, take, drop, refl, sym, ap, ◌∙◌, arith, subst, append_assoc}
use Rattle.std.specs.Prelude.{map}
use Rattle.std.proofs.lemmas.List.{drop-drop, drop_at, length-append, map-append, take-append-drop, take-append-le, take_all}
use Rattle.ws_wire.specs.declared.role.Role.{Role}
use Rattle.ws_wire.specs.Frame.{Frame, KeyedFrame, stream_bytes}
use Rattle.ws_session.specs.declared.event.Event.{Event}
use Rattle.ws_session.specs.Limits.{LimitsValue}
use Rattle.ws_session.specs.Faults.{frames_of}
use Rattle.ws_session.specs.Events.{HasEvents}
use Rattle.ws_session.specs.Replies.{replies_of, under_key}
use Rattle.ws_session.specs.Reach.{events_within}
use Rattle.ws_pair.specs.Link.{LinkEnd}
use Rattle.ws_pair.specs.Moves.{newly_told}
use Rattle.ws_pair.specs.InnerPlaying.{peer, AreSentBy, grown, IsNextIn, LawsOfEachSession}
use Rattle.ws_pair.proofs.Bytes.{frames_append, frames_under, take_plus}
use Rattle.ws_pair.proofs.Ends.{rest_of, same_end, told_at}

-- more bytes tell more events behind those that were told
more_told : (laws : LawsOfEachSession) (role : Role) (limits : LimitsValue) (ys : List KeyedFrame) → AreSentBy (peer role) ys → (n a : ℕ) → n + a ≤ length (stream_bytes ys)
    → (later : List Event) × (events_within limits (n + a) ys ≡ events_within limits n ys ++ later)
more_told laws role limits ys peers n a le =
    let stream = stream_bytes ys in
    laws.go_on role limits (take n stream) (take a (drop n stream)) (events_within limits n ys) (events_within limits (n + a) ys)
    (told_at laws role limits ys peers n (omega (arith, le)))
    (subst (λ (l : List ℕ). HasEvents role limits l (events_within limits (n + a) ys)) (sym (take_plus n a stream)) (told_at laws role limits ys peers (n + a) le))

-- so many bytes, and then so many more, are all of them
pub grown_joined : (laws : LawsOfEachSession) (role : Role) (limits : LimitsValue) (ys : List KeyedFrame) → AreSentBy (peer role) ys → (x : LinkEnd) (key : List ℕ) (a b : ℕ) → x.reached + a + b ≤ length (stream_bytes ys)
    → grown role limits (grown role limits x ys a key) ys b key ≡ grown role limits x ys (a + b) key
grown_joined laws role limits ys peers x key a b le =
    let n = x.reached in
    let sent : List Frame = frames_of x.sent in
    let under = under_key role key in
    let first = more_told laws role limits ys peers n a (omega (arith, le)) in
    let second = more_told laws role limits ys peers (n + a) b le in
    let same : n + a + b ≡ n + (a + b) = omega arith in
    let before = events_within limits n ys in
    let told_a : newly_told limits ys n (n + a) ≡ first.0 = rest_of before first.0 (events_within limits (n + a) ys) first.1 in
    let told_b : newly_told limits ys (n + a) (n + a + b) ≡ second.0 = rest_of (events_within limits (n + a) ys) second.0 (events_within limits (n + a + b) ys) second.1 in
    let all : events_within limits (n + (a + b)) ys ≡ before ++ (first.0 ++ second.0) =
    ap (λ (k : ℕ). events_within limits k ys) (sym same) ∙ (second.1 ∙ (ap (λ (l : List Event). l ++ second.0) first.1 ∙ append_assoc before first.0 second.0)) in
    let told_all : newly_told limits ys n (n + (a + b)) ≡ first.0 ++ second.0 = rest_of before (first.0 ++ second.0) (events_within limits (n + (a + b)) ys) all in
    let owed : List Frame = replies_of sent first.0 in
    let more : List Frame = replies_of (sent ++ owed) second.0 in
    let end = grown role limits x ys a key in
    let sent_a : end.sent ≡ x.sent ++ map under owed = ap (λ (l : List Event). x.sent ++ map under (replies_of sent l)) told_a in
    let frames_a : frames_of end.sent ≡ sent ++ owed = ap (λ (l : List KeyedFrame). frames_of l) sent_a ∙ (frames_append x.sent (map under owed) ∙ ap (λ (l : List Frame). sent ++ l) (frames_under role key owed)) in
    let whole : (grown role limits end ys b key).sent ≡ (grown role limits x ys (a + b) key).sent =
    ap (λ (l : List Event). end.sent ++ map under (replies_of (frames_of end.sent) l)) told_b
    ∙ (ap (λ (l : List Frame). end.sent ++ map under (replies_of l second.0)) frames_a
    ∙ (ap (λ (l : List KeyedFrame). l ++ map under more) sent_a
    ∙ (append_assoc x.sent (map under owed) (map under more)
    ∙ (ap (λ (l : List KeyedFrame). x.sent ++ l) (sym (map-append under owed more))
    ∙ (ap (λ (l : List Frame). x.sent ++ map under l) (sym (laws.replies sent first.0 second.0))
    ∙ ap (λ (l : List Event). x.sent ++ map under (replies_of sent l)) (sym told_all)))))) in
    same_end x.is_cut (grown role limits end ys b key).sent (grown role limits x ys (a + b) key).sent (n + a + b) (n + (a + b)) whole same

-- a part of a piece stands next behind what stands before it in the piece
pub part_is_next : (stream : List ℕ) (n : ℕ) (done part after piece : List ℕ) → piece ≡ done ++ (part ++ after) → IsNextIn stream n piece → IsNextIn stream (n + length done) part
part_is_next stream n done part after piece parts next =
    let rest = drop n stream in
    let behind = drop (length piece) rest in
    let size : length piece ≡ length done + (length part + length after) =
    ap (λ (l : List ℕ). length l) parts ∙ (length-append done (part ++ after) ∙ ap (λ (k : ℕ). length done + k) (length-append part after)) in
    let split : rest ≡ done ++ (part ++ (after ++ behind)) =
    sym (take-append-drop (length piece) rest)
    ∙ (ap (λ (l : List ℕ). l ++ behind) (next.is ∙ parts)
    ∙ (append_assoc done (part ++ after) behind ∙ ap (λ (l : List ℕ). done ++ l) (append_assoc part after behind))) in
    let later : drop (n + length done) stream ≡ part ++ (after ++ behind) =
    sym (drop-drop (length done) n stream) ∙ (ap (λ (l : List ℕ). drop (length done) l) split ∙ drop_at done (part ++ (after ++ behind)) (length done) refl) in
    record {
      bytes = next.bytes;
      fits = omega (arith, next.fits, size);
      is = ap (λ (l : List ℕ). take (length part) l) later
          ∙ (take-append-le (length part) part (after ++ behind) (omega arith) ∙ take_all (length part) part (omega arith));
    }
