-- A probe that is served over a connection until the head of its answer is whole, or there is none; and what came of it.
use Rattle.std.proofs.Common.{◌≡◌, ◌∙◌, ℕ, suc, ◌≤◌, true, List, [], ◌∷◌, ◌++◌, length, drop, map}
use Rattle.std.proofs.Common.{refl, sym, ap, subst, arith, append-nil, length-append}
use Rattle.std.proofs.lemmas.Grind.{flat_map-append}
use Rattle.std.proofs.lemmas.List.Elements.{All-head, All-tail}
use Rattle.std.specs.List.{All, concat}
use Rattle.ws_upgrade.specs.Accept.{key_of}
use Rattle.ws_scripts.specs.declared.transcript.Transcript.{Transcript}
use Rattle.ws_machines.specs.Told.{Told, all_came, all_taken, came_by, taken_by}
use Rattle.ws_machines.specs.Told.Told.{Came, Ended, ReadFailed, NothingCame, Taken, WriteFailed, DirectionEnded}
use Rattle.ws_machines.specs.Told.Told.{Reported, DeadlinePassed}
use Rattle.ws_machines.specs.Machines.{HasNext, IsRunning, ServedOne}
use Rattle.ws_machines.proofs.ExchangeLemmas.{came_more, taken_more}
use Rattle.ws_tester.specs.Following.{BeginsRun, TesterValue, WasTold}
use Rattle.ws_tester.specs.Outgoings.{Pieces}
use Rattle.ws_tester.specs.RunStates.{PlanValue, RunState, wanted_in}
use Rattle.ws_handshake.specs.ReadingHeads.{AreHeadPieces, AreTaken, IsWholeHead, TellsPiece, TellsTaken, max_head_piece}
use Rattle.ws_handshake.specs.Probes.{AskedValue, GotHead, IsOpen, LosesAnswer, LosesHead, ProbeValue, RefusesHead}
use Rattle.ws_handshake.specs.Probes.{RunsBehind, StillAsks, WasAsked, WasProbed, WasProbedAt, is_opening}
use Rattle.ws_handshake.specs.Probes.{script_asked, script_behind, wanted_at, wanted_of}
use Rattle.ws_handshake.specs.Responses.{DecidesResponse, NeedsResponse}
use Rattle.ws_handshake.specs.declared.probe_end.HeadRefusal.{HeadRefusal}
use Rattle.ws_handshake.specs.declared.probe_end.Probe.TheVariants.{Ran, Refused as RefusedProbe, NoConnection}
use Rattle.ws_handshake.specs.declared.probe_machine.ProbeStage.{ProbeStage}
use Rattle.ws_handshake.specs.declared.probe_machine.ProbeStage.TheVariants.{Opening, Running, Refused, Lost}
use Rattle.ws_handshake.specs.declared.response_head.ResponseDecision.{ResponseDecision}
use Rattle.ws_handshake.specs.declared.response_head.ResponseDecision.TheVariants.{Accepted, Refused as RefusedHead}
use Rattle.ws_handshake.proofs.ProbeLemmas.{asked_came, nothing_asked}
use Rattle.ws_connection.specs.ConnectionValues.{ConnectionValue, InputValue, OutputValue}
use Rattle.ws_connection.specs.Connections.{IsNewConnection, ReadsBytes, WritesBytes, read_failed}
use Rattle.ws_connection.specs.InnerDriving.{BeginsBehind, HasOpened, IsOpened, OpensOver, RecordsFrom}
use Rattle.ws_connection.specs.Probing.{AnswersProbe, AsksServer, Records, ReadsResponse, probe_nonce}
use Rattle.ws_connection.specs.StreamCalls.{DidCalls}
use Rattle.ws_connection.specs.UpgradeRequests.{RequestValue, text_of_request}
use Rattle.ws_connection.specs.declared.incoming.Incoming.{Incoming}
use Rattle.ws_connection.specs.declared.incoming.Incoming.TheVariants as state
use Rattle.ws_connection.proofs.ProbingLemmas.{between}
use Rattle.ws_connection.proofs.StreamLaws.{did_read, did_write}

-- ---- what was told while a request was written, and a head read

-- where only bytes were taken, none came; and the other way round
pub taken_brings_none : (told : List Told) → All TellsTaken told → all_came told ≡ []
taken_brings_none [] all = refl
taken_brings_none (Taken bytes ∷ told) all = taken_brings_none told (All-tail TellsTaken (Taken bytes) told all)
taken_brings_none (Came bytes ∷ told) all = absurd (All-head TellsTaken (Came bytes) told all)
taken_brings_none (Ended ∷ told) all = absurd (All-head TellsTaken Ended told all)
taken_brings_none (ReadFailed ∷ told) all = absurd (All-head TellsTaken ReadFailed told all)
taken_brings_none (NothingCame ∷ told) all = absurd (All-head TellsTaken NothingCame told all)
taken_brings_none (WriteFailed ∷ told) all = absurd (All-head TellsTaken WriteFailed told all)
taken_brings_none (DirectionEnded ∷ told) all = absurd (All-head TellsTaken DirectionEnded told all)
taken_brings_none (Reported lines ∷ told) all = absurd (All-head TellsTaken (Reported lines) told all)
taken_brings_none (DeadlinePassed waited ∷ told) all =
    absurd (All-head TellsTaken (DeadlinePassed waited) told all)

pub pieces_take_none : (told : List Told) → All TellsPiece told → all_taken told ≡ []
pieces_take_none [] all = refl
pieces_take_none (Came bytes ∷ told) all = pieces_take_none told (All-tail TellsPiece (Came bytes) told all)
pieces_take_none (Taken bytes ∷ told) all = absurd (All-head TellsPiece (Taken bytes) told all)
pieces_take_none (Ended ∷ told) all = absurd (All-head TellsPiece Ended told all)
pieces_take_none (ReadFailed ∷ told) all = absurd (All-head TellsPiece ReadFailed told all)
pieces_take_none (NothingCame ∷ told) all = absurd (All-head TellsPiece NothingCame told all)
pieces_take_none (WriteFailed ∷ told) all = absurd (All-head TellsPiece WriteFailed told all)
pieces_take_none (DirectionEnded ∷ told) all = absurd (All-head TellsPiece DirectionEnded told all)
pieces_take_none (Reported lines ∷ told) all = absurd (All-head TellsPiece (Reported lines) told all)
pieces_take_none (DeadlinePassed waited ∷ told) all =
    absurd (All-head TellsPiece (DeadlinePassed waited) told all)

module _ (writes reads : List Told) (taken came : List ℕ) (w : AreTaken writes taken) (r : AreHeadPieces reads came) where
  pub came_in : all_came (writes ++ reads) ≡ came
  came_in = flat_map-append came_by writes reads
      ∙ (ap (λ (l : List ℕ). l ++ all_came reads) (taken_brings_none writes w.only) ∙ r.bytes_are)

  pub taken_in : all_taken (writes ++ reads) ≡ taken
  taken_in = flat_map-append taken_by writes reads
      ∙ (ap (λ (l : List ℕ). all_taken writes ++ l) (pieces_take_none reads r.only)
      ∙ (append-nil (all_taken writes) ∙ w.bytes_are))

pub asked_came_is : (request rest had read : List ℕ) (told : List Told) → WasAsked request rest had read told
    → read ≡ had ++ all_came told
asked_came_is request rest had read told h = h.adds ∙ ap (λ (l : List ℕ). had ++ l)
    (sym (ap (λ (l : List Told). all_came l) h.parts ∙ came_in h.writes h.reads h.taken h.came h.are_taken h.got))

pub asked_taken_is : (request rest had read : List ℕ) (told : List Told) → WasAsked request rest had read told
    → request ≡ all_taken told ++ rest
asked_taken_is request rest had read told h = h.put ∙ ap (λ (l : List ℕ). l ++ rest)
    (sym (ap (λ (l : List Told). all_taken l) h.parts ∙ taken_in h.writes h.reads h.taken h.came h.are_taken h.got))

-- ---- the calls of a connection

pub did_parts : (x z : ConnectionValue) (xs ys : List Told) → DidCalls x z (xs ++ ys)
    → (y : ConnectionValue) × DidCalls x y xs × DidCalls y z ys
did_parts x z [] ys h = (x, refl, h)
did_parts x z (event ∷ xs) ys (next, call, h) =
    let (y, before, after) = did_parts next z xs ys h in
    (y, (next, call, before), after)

-- while bytes are only taken no read is made
pub taken_input : (x y : ConnectionValue) (told : List Told) → All TellsTaken told → DidCalls x y told
    → y.input ≡ x.input
taken_input x y [] all same = ap (λ (v : ConnectionValue). v.input) same
taken_input x y (Taken bytes ∷ told) all (next, call, h) =
    taken_input next y told (All-tail TellsTaken (Taken bytes) told all) h ∙ call.1.input
taken_input x y (Came bytes ∷ told) all h = absurd (All-head TellsTaken (Came bytes) told all)
taken_input x y (Ended ∷ told) all h = absurd (All-head TellsTaken Ended told all)
taken_input x y (ReadFailed ∷ told) all h = absurd (All-head TellsTaken ReadFailed told all)
taken_input x y (NothingCame ∷ told) all h = absurd (All-head TellsTaken NothingCame told all)
taken_input x y (WriteFailed ∷ told) all h = absurd (All-head TellsTaken WriteFailed told all)
taken_input x y (DirectionEnded ∷ told) all h = absurd (All-head TellsTaken DirectionEnded told all)
taken_input x y (Reported lines ∷ told) all h = absurd (All-head TellsTaken (Reported lines) told all)
taken_input x y (DeadlinePassed waited ∷ told) all h =
    absurd (All-head TellsTaken (DeadlinePassed waited) told all)

-- what stays while bytes are only taken, and while they only come
pub record StaysOpen (x y : ConnectionValue) : Type 0 where
  pub failed : y.output.failed ≡ x.output.failed
  pub ended : y.output.ended ≡ x.output.ended
  pub allowance : y.input.allowance ≡ x.input.allowance

stays_same : (x y : ConnectionValue) → y ≡ x → StaysOpen x y
stays_same x y same = record {
  failed = ap (λ (v : ConnectionValue). v.output.failed) same;
  ended = ap (λ (v : ConnectionValue). v.output.ended) same;
  allowance = ap (λ (v : ConnectionValue). v.input.allowance) same;
}

pub stays_then : (x y z : ConnectionValue) → StaysOpen x y → StaysOpen y z → StaysOpen x z
stays_then x y z a b = record {
  failed = b.failed ∙ a.failed;
  ended = b.ended ∙ a.ended;
  allowance = b.allowance ∙ a.allowance;
}

pub taken_stays : (x y : ConnectionValue) (told : List Told) → All TellsTaken told → DidCalls x y told → StaysOpen x y
taken_stays x y [] all same = stays_same x y same
taken_stays x y (Taken bytes ∷ told) all (next, call, h) = stays_then x next y (record {
  failed = call.1.has_failed;
  ended = call.1.is_ended;
  allowance = ap (λ (i : InputValue). i.allowance) call.1.input;
}) (taken_stays next y told (All-tail TellsTaken (Taken bytes) told all) h)
taken_stays x y (Came bytes ∷ told) all h = absurd (All-head TellsTaken (Came bytes) told all)
taken_stays x y (Ended ∷ told) all h = absurd (All-head TellsTaken Ended told all)
taken_stays x y (ReadFailed ∷ told) all h = absurd (All-head TellsTaken ReadFailed told all)
taken_stays x y (NothingCame ∷ told) all h = absurd (All-head TellsTaken NothingCame told all)
taken_stays x y (WriteFailed ∷ told) all h = absurd (All-head TellsTaken WriteFailed told all)
taken_stays x y (DirectionEnded ∷ told) all h = absurd (All-head TellsTaken DirectionEnded told all)
taken_stays x y (Reported lines ∷ told) all h = absurd (All-head TellsTaken (Reported lines) told all)
taken_stays x y (DeadlinePassed waited ∷ told) all h =
    absurd (All-head TellsTaken (DeadlinePassed waited) told all)

pub pieces_stay : (x y : ConnectionValue) (told : List Told) → All TellsPiece told → DidCalls x y told → StaysOpen x y
pieces_stay x y [] all same = stays_same x y same
pieces_stay x y (Came bytes ∷ told) all (next, call, h) = stays_then x next y (record {
  failed = ap (λ (o : OutputValue). o.failed) call.1.output;
  ended = ap (λ (o : OutputValue). o.ended) call.1.output;
  allowance = call.1.allowance;
}) (pieces_stay next y told (All-tail TellsPiece (Came bytes) told all) h)
pieces_stay x y (Taken bytes ∷ told) all h = absurd (All-head TellsPiece (Taken bytes) told all)
pieces_stay x y (Ended ∷ told) all h = absurd (All-head TellsPiece Ended told all)
pieces_stay x y (ReadFailed ∷ told) all h = absurd (All-head TellsPiece ReadFailed told all)
pieces_stay x y (NothingCame ∷ told) all h = absurd (All-head TellsPiece NothingCame told all)
pieces_stay x y (WriteFailed ∷ told) all h = absurd (All-head TellsPiece WriteFailed told all)
pieces_stay x y (DirectionEnded ∷ told) all h = absurd (All-head TellsPiece DirectionEnded told all)
pieces_stay x y (Reported lines ∷ told) all h = absurd (All-head TellsPiece (Reported lines) told all)
pieces_stay x y (DeadlinePassed waited ∷ told) all h =
    absurd (All-head TellsPiece (DeadlinePassed waited) told all)

pub asked_stays : (request rest had read : List ℕ) (told : List Told) (x y : ConnectionValue)
    → WasAsked request rest had read told → DidCalls x y told → StaysOpen x y
asked_stays request rest had read told x y h did =
    let (mid, before, after) = did_parts x y h.writes h.reads
    (subst (λ (l : List Told). DidCalls x y l) h.parts did) in
    stays_then x mid y (taken_stays x mid h.writes h.are_taken.only before)
    (pieces_stay mid y h.reads h.got.only after)

-- behind a piece that came more can come
pub came_open : (x y : ConnectionValue) (before : List Told) (last : List ℕ)
    → DidCalls x y (before ++ Came last ∷ []) → y.input.state ≡ state.Open
came_open x y before last did = pick (did_parts x y before (Came last ∷ []) did)
  where
    pick : (mid : ConnectionValue) × DidCalls x mid before × DidCalls mid y (Came last ∷ [])
        → y.input.state ≡ state.Open
    pick (mid, first, (next, call, same)) = ap (λ (v : ConnectionValue). v.input.state) same ∙ call.1.stands

-- ---- a tester that has just begun

abbrev first_of : {X : Type 0} → X → List X → X
first_of x [] = x
first_of x (y ∷ ys) = y

abbrev rest_of : {X : Type 0} → List X → List X
rest_of [] = []
rest_of (y ∷ ys) = ys

-- a list of one item, of which one stands before others
one_before : {X : Type 0} (x y : X) (xs ys : List X) → x ∷ [] ≡ (xs ++ y ∷ []) ++ ys
    → (x ≡ y) × (xs ≡ []) × (ys ≡ [])
one_before {X} x y [] ys e = (ap (λ (l : List X). first_of x l) e, refl, sym (ap (λ (l : List X). rest_of l) e))
one_before {X} x y (z ∷ zs) ys e = absurd
    (let len : 1 ≡ suc (length ((zs ++ y ∷ []) ++ ys)) = ap (λ (l : List X). length l) e in
    omega (arith, len, length-append (zs ++ y ∷ []) ys, length-append zs (y ∷ [])))

-- one piece ends a head only where all of the request was taken
one_piece : (request head had piece : List ℕ) → WasAsked request [] had head (Came piece ∷ [])
    → (request ≡ []) × (head ≡ had ++ piece) × (length piece ≤ max_head_piece)
one_piece request head had piece h = pick h.writes h.parts h.are_taken
  where
    pick : (writes : List Told) → Came piece ∷ [] ≡ writes ++ h.reads → AreTaken writes h.taken
        → (request ≡ []) × (head ≡ had ++ piece) × (length piece ≤ max_head_piece)
    pick [] e are =
        let got : AreHeadPieces (Came piece ∷ []) h.came = subst (λ (l : List Told). AreHeadPieces l h.came) (sym e) h.got
        in (
          h.put ∙ ap (λ (l : List ℕ). l ++ []) (sym are.bytes_are),
          h.adds ∙ ap (λ (l : List ℕ). had ++ l) (sym got.bytes_are ∙ append-nil piece),
          All-head TellsPiece (Came piece) [] got.only,
        )
    pick (event ∷ writes) e are = absurd (subst (λ (v : Told). TellsTaken v)
        (sym (ap (λ (l : List Told). first_of (Came piece) l) e)) (All-head TellsTaken event writes are.only))

module _ (start old : ProbeValue) (told : List Told) (h : StillAsks start old told) where
  begins_with : (tester : TesterValue) (event : Told) → RunsBehind old tester (event ∷ [])
      → HasNext (wanted_in tester.run) → BeginsBehind start tester (told ++ event ∷ [])
  begins_with tester event r next =
      let ends = r.got.ends in
      let parts : event ∷ [] ≡ (ends.before ++ Came ends.last ∷ []) ++ r.more =
      r.parts ∙ ap (λ (l : List Told). l ++ r.more) ends.parts in
      let (is, first, none) = one_before event (Came ends.last) ends.before r.more parts in
      let opening : r.opening ≡ Came ends.last ∷ [] =
      ends.parts ∙ ap (λ (l : List Told). l ++ Came ends.last ∷ []) first in
      let (written, whole, fits) = one_piece old.rest r.head old.read ends.last
      (subst (λ (l : List Told). WasAsked old.rest [] old.read r.head l) opening r.got.was_asked) in
      let was : WasAsked start.rest old.rest start.read (old.read ++ ends.last) (told ++ Came ends.last ∷ []) =
      asked_came start.rest old.rest start.read old.read ends.last told written fits h.was_asked in
      let now : told ++ Came ends.last ∷ [] ≡ told ++ event ∷ [] =
      ap (λ (v : Told). told ++ v ∷ []) (sym is) in
      let began : WasTold r.first tester [] = subst (λ (l : List Told). WasTold r.first tester l) none r.was_told in
      let behind : List ℕ = drop r.used r.head in
      record {
        head = r.head;
        used = r.used;
        protocol = r.protocol;
        got = record {
          asking = h.asking;
          was_asked = subst (λ (l : List Told). WasAsked start.rest [] start.read r.head l) now
              (subst (λ (l : List ℕ). WasAsked start.rest [] start.read l (told ++ Came ends.last ∷ [])) (sym whole)
              (subst (λ (l : List ℕ). WasAsked start.rest l start.read (old.read ++ ends.last)
              (told ++ Came ends.last ∷ [])) written was));
          ends = record { before = told; last = ends.last; parts = sym now };
          is_head = subst (λ (a : AskedValue). IsWholeHead (NeedsResponse a.nonce a.offers)
              (DecidesResponse a.nonce a.offers) r.head (Accepted r.used r.protocol)) h.asked r.got.is_head;
        };
        begins = subst (λ (s : RunState). BeginsRun (script_behind start behind) s) (sym began.0)
            (subst (λ (s : List Pieces). BeginsRun (script_asked start.asked s behind) r.first.run) h.script
            (subst (λ (a : AskedValue). BeginsRun (script_asked a old.script behind) r.first.run) h.asked r.begins));
        was_told = (refl, began.1);
        goes_on = next;
      }

  -- as if the machine had begun there
  from_itself : old.stage ≡ Opening → WasProbed old old []
  from_itself opening = subst (λ (s : ProbeStage). WasProbedAt s old old []) (sym opening) (record {
    asking = record { stage = opening };
    asked = refl;
    script = refl;
    was_asked = nothing_asked old.rest old.read;
    is_open = subst (λ (a : AskedValue). IsOpen a old.read) (sym h.asked) h.is_open;
  })

-- ---- one thing more

pub opens_at : (stage : ProbeStage) → is_opening stage ≡ true → stage ≡ Opening
opens_at Opening e = refl
opens_at (Running tester) e = absurd cc
opens_at (Refused refusal) e = absurd cc
opens_at Lost e = absurd cc

pub nothing_opened : (start : ProbeValue) (x : ConnectionValue) → start.stage ≡ Opening → WasProbed start start []
    → OpensOver start start (between x x)
nothing_opened start x e h = record {
  told = [];
  did = refl;
  opens = subst (λ (s : ProbeStage). HasOpened s start start []) (sym e)
      (subst (λ (s : ProbeStage). WasProbedAt s start start []) e h);
}

module _ (start old : ProbeValue) (x y : ConnectionValue) (opening : is_opening old.stage ≡ true)
    (over : OpensOver start old (between x y)) where
  still : StillAsks start old over.told
  still = subst (λ (s : ProbeStage). HasOpened s start old over.told) (opens_at old.stage opening) over.opens

  was_probed : WasProbed start old over.told
  was_probed = subst (λ (s : ProbeStage). WasProbedAt s start old over.told) (sym (opens_at old.stage opening)) still

  pub opens_running : IsRunning WasProbed old
  opens_running = (start, over.told, was_probed)

  module _ (new : ProbeValue) (z : ConnectionValue) (next : HasNext (wanted_of new))
      (served : ServedOne WasProbed (λ (v : ProbeValue). wanted_of v) DidCalls old new y z) where
    abbrev now : List Told
    now = over.told ++ served.event ∷ []

    probed : WasProbed start new now
    probed = served.told start over.told was_probed

    once : WasProbed old new (served.event ∷ [])
    once = served.told old [] (from_itself start old over.told still (opens_at old.stage opening))

    by : (stage : ProbeStage) → new.stage ≡ stage → HasNext (wanted_at stage new.rest new.read)
        → HasOpened stage start new now
    by Opening e more = subst (λ (s : ProbeStage). WasProbedAt s start new now) e probed
    by (Running tester) e more = begins_with start old over.told still tester served.event
        (subst (λ (s : ProbeStage). WasProbedAt s old new (served.event ∷ [])) e once) more
    by (Refused refusal) e more = subst (λ (s : ProbeStage). WasProbedAt s start new now) e probed
    by Lost e more = subst (λ (s : ProbeStage). WasProbedAt s start new now) e probed

    pub opens_more : OpensOver start new (between x z)
    opens_more = record { told = now; did = served.done x over.told over.did; opens = by new.stage refl next }

-- ---- what came of it

module _ (plan : PlanValue) (turns : List (List ℕ)) (request : RequestValue) (stage : ProbeStage)
    (x y : ConnectionValue) (o : IsOpened plan turns request stage (between x y)) where
  abbrev pub text : List ℕ
  text = text_of_request request (key_of probe_nonce)

  abbrev pub told : List Told
  told = o.over.told

  at_stage : (at : ProbeStage) → stage ≡ at → HasOpened at o.start o.now told
  at_stage at e = subst (λ (s : ProbeStage). HasOpened s o.start o.now told) (sym o.stands ∙ e) o.over.opens

  asked_text : (rest read : List ℕ) (before : List Told) → WasAsked o.start.rest rest o.start.read read before
      → WasAsked text rest [] read before
  asked_text rest read before h = subst (λ (l : List ℕ). WasAsked text rest l read before) o.none_read
      (subst (λ (l : List ℕ). WasAsked l rest o.start.read read before) o.request_is h)

  reads_head : (head : List ℕ) (decision : ResponseDecision) → GotHead o.start head decision told
      → ReadsResponse request.offers head decision
  reads_head head decision got =
      let whole : IsWholeHead (NeedsResponse probe_nonce request.offers) (DecidesResponse probe_nonce request.offers)
      head decision = subst (λ (a : AskedValue). IsWholeHead (NeedsResponse a.nonce a.offers)
      (DecidesResponse a.nonce a.offers) head decision) o.asked got.is_head in
      record { decides = whole.decided; bound = whole.bound; no_further = whole.no_further }

  asks_so : (head : List ℕ) (decision : ResponseDecision) → GotHead o.start head decision told
      → AsksServer text head (between x y)
  asks_so head decision got =
      record { told = told; did = o.over.did; was_asked = asked_text [] head told got.was_asked }

  got_so : (head : List ℕ) (decision : ResponseDecision) → GotHead o.start head decision told
      → ReadsBytes head (between x y)
  got_so head decision got = subst (λ (l : List ℕ). ReadsBytes l (between x y))
      (sym (asked_came_is text [] [] head told (asked_text [] head told got.was_asked))) (did_read x y told o.over.did)

  put_so : (head : List ℕ) (decision : ResponseDecision) → GotHead o.start head decision told
      → WritesBytes text (between x y)
  put_so head decision got = subst (λ (l : List ℕ). WritesBytes l (between x y))
      (sym (asked_taken_is text [] [] head told (asked_text [] head told got.was_asked) ∙ append-nil (all_taken told)))
      (did_write x y told o.over.did)

  stays_so : (head : List ℕ) (decision : ResponseDecision) → GotHead o.start head decision told → StaysOpen x y
  stays_so head decision got = asked_stays o.start.rest [] o.start.read head told x y got.was_asked o.over.did

  module _ (tester : TesterValue) (runs : stage ≡ Running tester) where
    pub begun : BeginsBehind o.start tester told
    begun = at_stage (Running tester) runs

    pub runs_behind : (transcript : Transcript) (z : ConnectionValue)
        → RecordsFrom tester.run transcript (between y z)
        → AnswersProbe plan turns request.offers text (Ran transcript) (between x z)
    runs_behind transcript z records =
        let d : ResponseDecision = Accepted begun.used begun.protocol in
        let stays : StaysOpen x y = stays_so begun.head d begun.got in
        let behind : List ℕ = drop begun.used begun.head in
        let budget : o.start.asked.budget ≡ y.input.allowance =
        ap (λ (a : AskedValue). a.budget) o.asked ∙ sym stays.allowance in
        let recorded : Records o.start.asked.plan (map concat o.start.script) behind transcript (between y z) =
        records (script_behind o.start behind) o.has_bytes begun.begins budget in
        record {
          head = begun.head;
          used = begun.used;
          protocol = begun.protocol;
          is_head = reads_head begun.head d begun.got;
          ready = y;
          asks = asks_so begun.head d begun.got;
          has_got = got_so begun.head d begun.got;
          has_put = put_so begun.head d begun.got;
          budget = stays.allowance;
          runs = subst (λ (l : List (List ℕ)). Records plan l behind transcript (between y z)) o.bytes
              (subst (λ (a : AskedValue). Records a.plan (map concat o.start.script) behind transcript (between y z))
              o.asked recorded);
        }

  -- the head is to be refused
  pub refuses_so : (refusal : HeadRefusal) → IsNewConnection x → stage ≡ Refused refusal
      → AnswersProbe plan turns request.offers text (RefusedProbe refusal) (between x y)
  refuses_so refusal new is =
      let h : RefusesHead o.start refusal told = at_stage (Refused refusal) is in
      let d : ResponseDecision = RefusedHead refusal.fault in
      let stays : StaysOpen x y = stays_so h.head d h.got in
      let reads_on : y.input.state ≡ state.Open = came_open x y h.got.ends.before h.got.ends.last
      (subst (λ (l : List Told). DidCalls x y l) h.got.ends.parts o.over.did) in
      record {
        head = h.head;
        is_head = reads_head h.head d h.got;
        status = h.status;
        asks = asks_so h.head d h.got;
        has_got = got_so h.head d h.got;
        has_put = put_so h.head d h.got;
        works = (ap (λ (s : Incoming). read_failed s) reads_on, stays.failed ∙ new.1);
        both_open = stays.ended ∙ new.2;
      }

  -- there was no whole answer
  pub no_answer_so : stage ≡ Lost → AnswersProbe plan turns request.offers text NoConnection (between x y)
  no_answer_so is =
      let h : LosesAnswer o.start told = at_stage Lost is in
      let was : WasAsked text h.rest [] h.read h.before = asked_text h.rest h.read h.before h.was_asked in
      let did : DidCalls x y (h.before ++ h.last ∷ []) = subst (λ (l : List Told). DidCalls x y l) h.parts o.over.did in
      let moves = moves_none h.rest h.last h.loses in
      record {
        before = h.before;
        last = h.last;
        did = did;
        rest = h.rest;
        read = h.read;
        was_asked = was;
        is_open = subst (λ (a : AskedValue). IsOpen a h.read) o.asked h.is_open;
        loses = h.loses;
        has_got = subst (λ (l : List ℕ). ReadsBytes l (between x y))
            (came_more h.before h.last ∙ (ap (λ (l : List ℕ). all_came h.before ++ l) moves.0
            ∙ (append-nil (all_came h.before) ∙ sym (asked_came_is text h.rest [] h.read h.before was))))
            (did_read x y (h.before ++ h.last ∷ []) did);
        has_put = (
          all_taken h.before,
          h.rest,
          asked_taken_is text h.rest [] h.read h.before was,
          subst (λ (l : List ℕ). WritesBytes l (between x y))
              (taken_more h.before h.last ∙ (ap (λ (l : List ℕ). all_taken h.before ++ l) moves.1
              ∙ append-nil (all_taken h.before)))
              (did_write x y (h.before ++ h.last ∷ []) did),
        );
      }
    where
      moves_none : (rest : List ℕ) (last : Told) → LosesHead rest last
          → (came_by last ≡ []) × (taken_by last ≡ [])
      moves_none rest (Came bytes) h = absurd h
      moves_none rest Ended h = (refl, refl)
      moves_none rest ReadFailed h = (refl, refl)
      moves_none rest NothingCame h = (refl, refl)
      moves_none rest (Taken bytes) h = absurd h
      moves_none rest WriteFailed h = (refl, refl)
      moves_none rest DirectionEnded h = absurd h
      moves_none rest (Reported lines) h = absurd h
      moves_none rest (DeadlinePassed waited) h = (refl, refl)
