-- The transcript of a run over an echo: after each turn, what was got is what the echo puts for what was sent.
use Rattle.std.proofs.Common.{◌≡◌, ◌∙◌, ℕ, zero, suc, ◌<◌, ◌≤◌, Bool, true, false, cond, List, [], ◌∷◌, ◌++◌, length, map, take, drop, Option, Some, None, IfSome, ap, ap₂, sym, refl, subst, inl, inr, arith, append_assoc, append-nil}
use Rattle.std.specs.List.{AllByRecursion, concat, last_or}
use Rattle.std.proofs.lemmas.Grind.{flat_map-append}
use Rattle.std.proofs.lemmas.List.{length-append, length-map, take_all, take-append-le}
use Rattle.std.proofs.Math.Seq.{take-append_seam}
use Rattle.ws_wire.specs.Header.{AreBytes, IsMaskingKey}
use Rattle.ws_session.specs.declared.event.Event.{Event}
use Rattle.ws_session.specs.declared.status.Status.{Status}
use Rattle.ws_session.specs.Events.{HasEvents}
use Rattle.ws_session.specs.Replies.{echo_replies_of, key_for}
use Rattle.ws_session.specs.Exchange.{is_over, status_of}
use Rattle.ws_session.specs.Sends.{most_limits}
use Rattle.ws_scripts.specs.declared.transcript.Turn.{Turn}
use Rattle.ws_scripts.specs.declared.transcript.Ended.{Ended as HowEnded}
use Rattle.ws_scripts.specs.declared.transcript.Ended.TheVariants.{Tester, Peer}
use Rattle.ws_scripts.specs.declared.transcript.Transcript.{Transcript}
use Rattle.ws_suite.specs.Evidence.{got_turns, sent_turns}
use Rattle.ws_suite.specs.Fairness.{IsEchoTranscript, ends_echo}
use Rattle.ws_peer.specs.declared.peer.Going.{Going}
use Rattle.ws_peer.specs.declared.peer.Going.TheVariants.{More, Ended}
use Rattle.ws_peer.specs.Talks.{Entry, Fed, Finished, PeerEnd, appended_by, appended_in, fed_by, fed_in}
use Rattle.ws_echo.specs.EchoLaws.{EchoLaws}
use Rattle.ws_peer.specs.EchoTalks.{HasEchoedTalk, IsAnsweredBy, IsEchoTalk, last_call}
use Rattle.ws_peer.specs.Runs.{EndsByPeer, EndsByTester, PeerGoesOn, IsRunOf, joined_talk, pieces_by_turn, pieces_in, turn_of, with_finish}
use Rattle.ws_peer.proofs.Talking.{fed_in-more}
use Rattle.ws_peer.proofs.EchoTalkLemmas.{last_more}

-- ---- what was said in the first turns

pub sent_so_far : (n : ℕ) (parts : List (List Entry)) → concat (take n (sent_turns (map turn_of parts))) ≡ fed_in (joined_talk (take n parts))
sent_so_far zero parts = refl
sent_so_far (suc n) [] = refl
sent_so_far (suc n) (part ∷ parts) = ap (λ (l : List ℕ). fed_in part ++ l) (sent_so_far n parts) ∙ sym (flat_map-append fed_by part (joined_talk (take n parts)))

pub got_so_far : (n : ℕ) (parts : List (List Entry)) → concat (take n (got_turns (map turn_of parts))) ≡ appended_in (joined_talk (take n parts))
got_so_far zero parts = refl
got_so_far (suc n) [] = refl
got_so_far (suc n) (part ∷ parts) = ap (λ (l : List ℕ). appended_in part ++ l) (got_so_far n parts) ∙ sym (flat_map-append appended_by part (joined_talk (take n parts)))

pub all_sent : (parts : List (List Entry)) → concat (sent_turns (map turn_of parts)) ≡ fed_in (joined_talk parts)
all_sent [] = refl
all_sent (part ∷ parts) = ap (λ (l : List ℕ). fed_in part ++ l) (all_sent parts) ∙ sym (flat_map-append fed_by part (joined_talk parts))

-- the calls of the first turns begin those of all
pub talk_parts : (n : ℕ) (parts : List (List Entry)) → joined_talk parts ≡ joined_talk (take n parts) ++ joined_talk (drop n parts)
talk_parts zero parts = refl
talk_parts (suc n) [] = refl
talk_parts (suc n) (part ∷ parts) =
    ap (λ (l : List Entry). part ++ l) (talk_parts n parts) ∙ sym (append_assoc part (joined_talk (take n parts)) (joined_talk (drop n parts)))

-- an echo's talk after its first turns
after_turns : (end : PeerEnd) (talk rest : List Entry) (parts : List (List Entry)) → talk ≡ joined_talk parts ++ rest → IsEchoTalk end talk → (n : ℕ) → HasEchoedTalk end (joined_talk (take n parts))
after_turns end talk rest parts is echo n =
    let front = joined_talk (take n parts) in
    let later = joined_talk (drop n parts) ++ rest in
    let whole : talk ≡ front ++ later = is ∙ (ap (λ (l : List Entry). l ++ rest) (talk_parts n parts) ∙ append_assoc front (joined_talk (drop n parts)) rest) in
    subst (λ (l : List Entry). HasEchoedTalk end l) (ap (λ (l : List Entry). take (length front) l) whole ∙ take-append_seam front later)
    (echo (length front) (omega (arith, ap (λ (l : List Entry). length l) whole, length-append front later)))

-- ---- an echo that goes on

last_goes : (first : Entry) (talk : List Entry) → PeerGoesOn first → AllByRecursion PeerGoesOn talk → (piece : List ℕ) × (appended : List ℕ) × (last_or (Some first) talk ≡ Some (Fed piece appended More))
last_goes (Fed piece appended going) [] is h = (piece, appended, ap (λ (g : Going). Some (Fed piece appended g)) is)
last_goes (Finished appended) [] is h = absurd is
last_goes first (next ∷ talk) is h = last_goes next talk h.0 h.1

not_over : (status : Status) (b : Bool) → is_over status ≡ b → IsAnsweredBy status (Fed [] [] More) → b ≡ false
not_over status true e answered = absurd (let wrong : More ≡ Ended = answered.1 e in cc)
not_over status false e answered = refl

-- after calls after each of which it went on, its session isn't over
still_goes : EchoLaws → (end : PeerEnd) (talk : List Entry) (h : HasEchoedTalk end talk) → AllByRecursion PeerGoesOn talk → is_over h.status ≡ false
still_goes laws end [] h goes =
    let none : h.echoed.events ≡ [] = laws.one_list end.role most_limits [] h.echoed.events [] h.echoed.has_events (laws.nothing end.role most_limits) in
    ap (λ (s : Status). is_over s) h.echoed.is_status ∙ ap (λ (l : List Event). is_over (status_of (echo_replies_of [] l) false l)) none
still_goes laws end (first ∷ talk) h goes =
    let last = last_goes first talk goes.0 goes.1 in
    not_over h.status (is_over h.status) refl (subst (λ (o : Option Entry). IfSome o (IsAnsweredBy h.status)) last.2 h.answered)

-- ---- the transcript of turns

abbrev pub recorded : List (List Entry) → HowEnded → Transcript
recorded parts ended = record { turns = map turn_of parts; ended = ended }

of_parts : EchoLaws → (end : PeerEnd) → IsMaskingKey (key_for end.role end.key) → (parts : List (List Entry)) (ended : HowEnded) → AreBytes (fed_in (joined_talk parts)) → (echoed : (n : ℕ) → HasEchoedTalk end (joined_talk (take n parts)))
    → ((n : ℕ) → n < length parts → AllByRecursion PeerGoesOn (joined_talk (take n parts))) → ended ≡ cond (is_over (echoed (length parts)).status) Peer Tester → IsEchoTranscript end.role (recorded parts ended)
of_parts laws end is_key parts ended bytes echoed goes last =
    let count : length (map turn_of parts) ≡ length parts = length-map parts turn_of in
    let over : (n : ℕ) → ends_echo (echoed n).echoed.events ≡ is_over (echoed n).status = λ n. ap (λ (s : Status). is_over s) (sym (echoed n).echoed.is_status) in
    record {
      bytes = subst (λ (l : List ℕ). AreBytes l) (sym (all_sent parts)) bytes;
      key = end.key;
      is_key = is_key;
      events = λ n. (echoed n).echoed.events;
      has_events = λ n less. subst (λ (l : List ℕ). HasEvents end.role most_limits l (echoed n).echoed.events) (sym (sent_so_far n parts)) (echoed n).echoed.has_events;
      got = λ n less. got_so_far n parts ∙ (echoed n).echoed.is_put;
      goes_on = λ n less. over n ∙ still_goes laws end (joined_talk (take n parts)) (echoed n) (goes n (omega (arith, less, count)));
      ended = last ∙ (ap (λ b. cond b Peer Tester) (sym (over (length parts))) ∙ ap (λ n. cond (ends_echo (echoed n).echoed.events) Peer Tester) (sym count));
    }

same_transcript : (end : PeerEnd) (transcript : Transcript) (parts : List (List Entry)) (ended : HowEnded) → transcript.turns ≡ map turn_of parts → transcript.ended ≡ ended → IsEchoTranscript end.role (recorded parts ended) → IsEchoTranscript end.role transcript
same_transcript end transcript parts ended turns how is =
    subst (λ (t : Transcript). IsEchoTranscript end.role t) (sym (ap₂ (λ (l : List Turn) (e : HowEnded). record { turns = l; ended = e }) turns how)) is

-- ---- the tester ends it

pub finish_nothing : (turns : List Turn) → with_finish turns [] ≡ turns
finish_nothing [] = refl
finish_nothing (turn ∷ []) = ap (λ (l : List ℕ). record { sent = turn.sent; got = l } ∷ []) (append-nil turn.got)
finish_nothing (turn ∷ next ∷ turns) = ap (λ (l : List Turn). turn ∷ l) (finish_nothing (next ∷ turns))

all_taken : (n : ℕ) (talk : List Entry) → AllByRecursion PeerGoesOn talk → AllByRecursion PeerGoesOn (take n talk)
all_taken zero talk h = tt
all_taken (suc n) [] h = tt
all_taken (suc n) (entry ∷ talk) h = (h.0, all_taken n talk h.1)

pub front_goes : (n : ℕ) (parts : List (List Entry)) → AllByRecursion PeerGoesOn (joined_talk parts) → AllByRecursion PeerGoesOn (joined_talk (take n parts))
front_goes n parts h =
    let front = joined_talk (take n parts) in
    let later = joined_talk (drop n parts) in
    subst (λ (l : List Entry). AllByRecursion PeerGoesOn l) (ap (λ (l : List Entry). take (length front) l) (talk_parts n parts) ∙ take-append_seam front later) (all_taken (length front) (joined_talk parts) h)

by_tester : EchoLaws → (end : PeerEnd) → IsMaskingKey (key_for end.role end.key) → (turns : List (List (List ℕ))) (talk : List Entry) (transcript : Transcript) → EndsByTester turns talk transcript → IsEchoTalk end talk → AreBytes (fed_in talk) → IsEchoTranscript end.role transcript
by_tester laws end is_key turns talk transcript r echo bytes =
    let finish = Finished r.left ∷ [] in
    let whole : HasEchoedTalk end (joined_talk r.parts ++ finish) = subst (λ (l : List Entry). HasEchoedTalk end l) (take_all (length talk) talk (omega arith) ∙ r.talk_is) (echo (length talk) (omega arith)) in
    let none : r.left ≡ [] = subst (λ (o : Option Entry). IfSome o (IsAnsweredBy whole.status)) (last_more None (joined_talk r.parts) (Finished r.left)) whole.answered in
    let fed : fed_in talk ≡ fed_in (joined_talk r.parts) = ap (λ (l : List Entry). fed_in l) r.talk_is ∙ (fed_in-more (joined_talk r.parts) (Finished r.left) ∙ append-nil (fed_in (joined_talk r.parts))) in
    let echoed : (n : ℕ) → HasEchoedTalk end (joined_talk (take n r.parts)) = after_turns end talk finish r.parts r.talk_is echo in
    let count = length r.parts in
    let going = still_goes laws end (joined_talk (take count r.parts)) (echoed count) (front_goes count r.parts r.goes_on) in
    same_transcript end transcript r.parts Tester (r.recorded ∙ (ap (λ (l : List ℕ). with_finish (map turn_of r.parts) l) none ∙ finish_nothing (map turn_of r.parts))) r.ended
    (of_parts laws end is_key r.parts Tester (subst (λ (l : List ℕ). AreBytes l) fed bytes) echoed (λ n less. front_goes n r.parts r.goes_on) (ap (λ b. cond b Peer Tester) (sym going)))

-- ---- the peer ends it

none_of_none : (parts : List (List Entry)) → pieces_by_turn parts ≡ [] → length parts ≡ 0
none_of_none [] e = refl
none_of_none (part ∷ parts) e = absurd cc

some_calls : (part : List Entry) → 0 < length (pieces_in part) → 0 < length part
some_calls [] some = absurd (omega arith)
some_calls (entry ∷ part) some = omega arith

-- where the last turn has a piece, the turns before it have fewer calls
pub fewer_calls : (n : ℕ) (parts : List (List Entry)) (before : List (List (List ℕ))) (first : List (List ℕ)) → pieces_by_turn parts ≡ before ++ first ∷ [] → 0 < length first → n < length parts
    → length (joined_talk (take n parts)) < length (joined_talk parts)
fewer_calls n [] before first e some less = absurd (omega (arith, less))
fewer_calls n (part ∷ parts) [] first e some less =
    let head : pieces_in part ≡ first = cc in
    let tail : pieces_by_turn parts ≡ [] = cc in
    let only : n ≡ 0 = omega (arith, less, none_of_none parts tail) in
    let calls = some_calls part (omega (arith, some, ap (λ (l : List (List ℕ)). length l) head)) in
    omega (arith, calls, ap (λ k. length (joined_talk (take k (part ∷ parts)))) only, length-append part (joined_talk parts))
fewer_calls zero (part ∷ parts) (y ∷ before) first e some less =
    let tail : pieces_by_turn parts ≡ before ++ first ∷ [] = cc in
    let longer : 0 < length parts = omega (arith, ap (λ (l : List (List (List ℕ))). length l) tail, length-append before (first ∷ []), length-map parts pieces_in) in
    omega (arith, fewer_calls zero parts before first tail some longer, length-append part (joined_talk parts))
fewer_calls (suc n) (part ∷ parts) (y ∷ before) first e some less =
    let tail : pieces_by_turn parts ≡ before ++ first ∷ [] = cc in
    omega (arith, fewer_calls n parts before first tail some (omega (arith, less)), length-append part (joined_talk parts), length-append part (joined_talk (take n parts)))

-- in the turns before the last one it went on
pub goes_before : (n : ℕ) (parts : List (List Entry)) (before : List Entry) (last : Entry) → joined_talk parts ≡ before ++ last ∷ [] → length (joined_talk (take n parts)) < length (joined_talk parts) → AllByRecursion PeerGoesOn before
    → AllByRecursion PeerGoesOn (joined_talk (take n parts))
goes_before n parts before last is less goes =
    let front = joined_talk (take n parts) in
    let size = length front in
    let short : size ≤ length before = omega (arith, less, ap (λ (l : List Entry). length l) is, length-append before (last ∷ [])) in
    let same : take size before ≡ front =
    sym (take-append-le size before (last ∷ []) short) ∙ (ap (λ (l : List Entry). take size l) (sym is ∙ talk_parts n parts) ∙ take-append_seam front (joined_talk (drop n parts))) in
    subst (λ (l : List Entry). AllByRecursion PeerGoesOn l) same (all_taken size before goes)

by_peer : EchoLaws → (end : PeerEnd) → IsMaskingKey (key_for end.role end.key) → (turns : List (List (List ℕ))) (talk : List Entry) (transcript : Transcript) → EndsByPeer turns talk transcript → IsEchoTalk end talk → AreBytes (fed_in talk) → IsEchoTranscript end.role transcript
by_peer laws end is_key turns talk transcript r echo bytes =
    let echoed : (n : ℕ) → HasEchoedTalk end (joined_talk (take n r.parts)) = after_turns end talk [] r.parts (r.talk_is ∙ sym (append-nil (joined_talk r.parts))) echo in
    let count = length r.parts in
    let whole : joined_talk (take count r.parts) ≡ r.before ++ Fed r.piece r.appended Ended ∷ [] = ap (λ (l : List (List Entry)). joined_talk l) (take_all count r.parts (omega arith)) ∙ (sym r.talk_is ∙ r.last) in
    let last : last_call (joined_talk (take count r.parts)) ≡ Some (Fed r.piece r.appended Ended) = ap (λ (l : List Entry). last_call l) whole ∙ last_more None r.before (Fed r.piece r.appended Ended) in
    let answered : IsAnsweredBy (echoed count).status (Fed r.piece r.appended Ended) = subst (λ (o : Option Entry). IfSome o (IsAnsweredBy (echoed count).status)) last (echoed count).answered in
    let over : is_over (echoed count).status ≡ true = answered.0 refl in
    let all : joined_talk r.parts ≡ r.before ++ Fed r.piece r.appended Ended ∷ [] = sym r.talk_is ∙ r.last in
    same_transcript end transcript r.parts Peer r.recorded r.ended
    (of_parts laws end is_key r.parts Peer (subst (λ (l : List Entry). AreBytes (fed_in l)) r.talk_is bytes) echoed
    (λ n less. goes_before n r.parts r.before (Fed r.piece r.appended Ended) all (fewer_calls n r.parts r.pieces.before r.pieces.first r.pieces.are_fed r.pieces.some less) r.goes_on)
    (ap (λ b. cond b Peer Tester) (sym over)))

-- the transcript of a run in an echo's talk
pub echo_transcript : EchoLaws → (end : PeerEnd) → IsMaskingKey (key_for end.role end.key) → (turns : List (List (List ℕ))) (talk : List Entry) (transcript : Transcript) → IsRunOf turns talk transcript → IsEchoTalk end talk → AreBytes (fed_in talk) → IsEchoTranscript end.role transcript
echo_transcript laws end is_key turns talk transcript (inl r) echo bytes = by_tester laws end is_key turns talk transcript r echo bytes
echo_transcript laws end is_key turns talk transcript (inr r) echo bytes = by_peer laws end is_key turns talk transcript r echo bytes
