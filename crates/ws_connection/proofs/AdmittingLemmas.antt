-- A request that was read and answered: what its calls come to.
use Rattle.std.proofs.Common.{◌≡◌, ◌∙◌, ℕ, true, inl, inr, List, [], ◌∷◌, ◌++◌, ap, append-nil, refl, subst, sym}
use Rattle.std.proofs.lemmas.Grind.{flat_map-append}
use Rattle.ws_upgrade.specs.declared.faults.HeadFault.{HeadFault}
use Rattle.ws_machines.specs.Told.{Told, all_came, all_taken, came_by, taken_by}
use Rattle.ws_machines.specs.Told.Told.{Came, Ended, ReadFailed, NothingCame, Taken, WriteFailed, DirectionEnded}
use Rattle.ws_machines.specs.Told.Told.{Reported, DeadlinePassed}
use Rattle.ws_machines.proofs.ExchangeLemmas.{came_more, taken_more}
use Rattle.ws_handshake.specs.Admissions.{AdmitGives, AdmitValue, BreaksAnswer, BreaksOff, EndsInHead, IsAnswerTo, IsTakenFrom}
use Rattle.ws_handshake.specs.Admissions.{LosesHeadOf, WritesAnswer}
use Rattle.ws_handshake.specs.ReadingHeads.{AreHeadPieces, AreTaken, IsWholeHead}
use Rattle.ws_handshake.specs.Requests.{NeedsRequest}
use Rattle.ws_handshake.specs.declared.admission.AcceptedRequest.{AcceptedRequest}
use Rattle.ws_handshake.specs.declared.admission.Admission.{Admission}
use Rattle.ws_handshake.specs.declared.admission.Admission.TheVariants.{Accepted, Refused, Lost}
use Rattle.ws_connection.specs.Admitting.{Admits, AdmitsByCalls, IsBrokenOff, ReadsUpgrade}
use Rattle.ws_connection.specs.ConnectionValues.{ConnectionValue, InputValue}
use Rattle.ws_connection.specs.Connections.{IsNewConnection, ReadsBytes, WritesBytes, is_open}
use Rattle.ws_connection.specs.StreamCalls.{DidCalls, IsCallOf}
use Rattle.ws_connection.specs.declared.incoming.Incoming.{Incoming}
use Rattle.ws_connection.specs.declared.incoming.Incoming.TheVariants as state
use Rattle.ws_connection.proofs.OpeningLemmas.{StaysOpen, came_open, did_parts, pieces_stay, pieces_take_none, stays_then}
use Rattle.ws_connection.proofs.OpeningLemmas.{taken_brings_none, taken_input, taken_stays}
use Rattle.ws_connection.proofs.ProbingLemmas.{between}
use Rattle.ws_connection.proofs.StreamLaws.{did_read, did_write}

-- ---- the bytes

-- pieces of a head came, and then bytes of an answer were taken
module _ (reads writes : List Told) (head taken : List ℕ) (r : AreHeadPieces reads head) (w : AreTaken writes taken) where
  came_first : all_came (reads ++ writes) ≡ head
  came_first = flat_map-append came_by reads writes
      ∙ (ap (λ (l : List ℕ). all_came reads ++ l) (taken_brings_none writes w.only)
      ∙ (append-nil (all_came reads) ∙ r.bytes_are))

  taken_then : all_taken (reads ++ writes) ≡ taken
  taken_then = flat_map-append taken_by reads writes
      ∙ (ap (λ (l : List ℕ). l ++ all_taken writes) (pieces_take_none reads r.only) ∙ w.bytes_are)

-- the last call of a broken answer moves nothing
breaks_nothing : (last : Told) → BreaksAnswer last → (came_by last ≡ []) × (taken_by last ≡ [])
breaks_nothing (Came bytes) h = absurd h
breaks_nothing Ended h = absurd h
breaks_nothing ReadFailed h = absurd h
breaks_nothing NothingCame h = absurd h
breaks_nothing (Taken bytes) h = absurd h
breaks_nothing WriteFailed h = (refl, refl)
breaks_nothing DirectionEnded h = absurd h
breaks_nothing (Reported lines) h = absurd h
breaks_nothing (DeadlinePassed waited) h = (refl, refl)

ends_nothing : (last : Told) → EndsInHead last → (came_by last ≡ []) × (taken_by last ≡ [])
ends_nothing (Came bytes) h = absurd h
ends_nothing Ended h = (refl, refl)
ends_nothing ReadFailed h = (refl, refl)
ends_nothing NothingCame h = (refl, refl)
ends_nothing (Taken bytes) h = absurd h
ends_nothing WriteFailed h = absurd h
ends_nothing DirectionEnded h = absurd h
ends_nothing (Reported lines) h = absurd h
ends_nothing (DeadlinePassed waited) h = (refl, refl)

-- and leaves the connection broken off
breaks_call : (last : Told) (x y : ConnectionValue) → BreaksAnswer last → IsCallOf last (between x y) → IsBrokenOff y
breaks_call (Came bytes) x y h call = absurd h
breaks_call Ended x y h call = absurd h
breaks_call ReadFailed x y h call = absurd h
breaks_call NothingCame x y h call = absurd h
breaks_call (Taken bytes) x y h call = absurd h
breaks_call WriteFailed x y h call = inl call.0.has_failed
breaks_call DirectionEnded x y h call = absurd h
breaks_call (Reported lines) x y h call = absurd h
breaks_call (DeadlinePassed waited) x y h (inl call) = inr call.makes.stands
breaks_call (DeadlinePassed waited) x y h (inr call) = inl call.has_failed

-- ---- what came of it

module _ (start : AdmitValue) (x y : ConnectionValue) where
  by_calls : (admission : Admission) (told : List Told) → DidCalls x y told → AdmitGives start told admission
      → AdmitsByCalls start.known admission (between x y)
  by_calls admission told did gives =
      record { start = start; knows = refl; told = told; did = did; gives = gives }

  asks_upgrade : (head answer : List ℕ) (request : AcceptedRequest)
      → (h : IsWholeHead (NeedsRequest start.known) (IsAnswerTo start.known answer) head (Accepted request))
      → ReadsUpgrade start.known head h.decided.upgrade h.decided.used
  asks_upgrade head answer request h = record {
    asks = h.decided.asks;
    is_head = record {
      decides = (h.decided.upgrade, refl, refl, h.decided.asks, h.decided.within);
      bound = h.bound;
      no_further = h.no_further;
    };
  }

  -- an answer was written, to its last byte or not
  module _ (admission : Admission) (rest : List ℕ) (told : List Told) (w : WritesAnswer start admission rest told)
      (z : ConnectionValue) (did : DidCalls x z told) where
    head_got : ReadsBytes w.head (between x z)
    head_got = subst (λ (l : List ℕ). ReadsBytes l (between x z))
        (ap (λ (l : List Told). all_came l) w.parts
        ∙ came_first w.reads w.writes w.head w.taken w.got w.are_taken) (did_read x z told did)

    some_put : WritesBytes w.taken (between x z)
    some_put = subst (λ (l : List ℕ). WritesBytes l (between x z))
        (ap (λ (l : List Told). all_taken l) w.parts
        ∙ taken_then w.reads w.writes w.head w.taken w.got w.are_taken) (did_write x z told did)

    two_parts : (mid : ConnectionValue) × DidCalls x mid w.reads × DidCalls mid z w.writes
    two_parts = did_parts x z w.reads w.writes (subst (λ (l : List Told). DidCalls x z l) w.parts did)

    stays_open : StaysOpen x z
    stays_open =
        let (mid, first, second) = two_parts in
        stays_then x mid z (pieces_stay x mid w.reads w.got.only first)
        (taken_stays mid z w.writes w.are_taken.only second)

    can_read : is_open z.input.state ≡ true
    can_read =
        let (mid, first, second) = two_parts in
        ap (λ (i : InputValue). is_open i.state) (taken_input mid z w.writes w.are_taken.only second)
        ∙ ap (λ (s : Incoming). is_open s) (came_open x mid w.ends.before w.ends.last
        (subst (λ (l : List Told). DidCalls x mid l) w.ends.parts first))

  -- an answer was broken off
  module _ (admission : Admission) (told : List Told) (b : BreaksOff start admission told) (did : DidCalls x y told) where
    last_part : (mid : ConnectionValue) × DidCalls x mid b.before × DidCalls mid y (b.last ∷ [])
    last_part = did_parts x y b.before (b.last ∷ []) (subst (λ (l : List Told). DidCalls x y l) b.parts did)

    broken_now : IsBrokenOff y
    broken_now =
        let (mid, first, (next, call, same)) = last_part in
        subst (λ (v : ConnectionValue). IsBrokenOff v) (sym same) (breaks_call b.last mid next b.breaks call)

    broken_got : ReadsBytes b.writes.head (between x y)
    broken_got = subst (λ (l : List ℕ). ReadsBytes l (between x y))
        (ap (λ (l : List Told). all_came l) b.parts ∙ (came_more b.before b.last
        ∙ (ap (λ (l : List ℕ). all_came b.before ++ l) (breaks_nothing b.last b.breaks).0
        ∙ (append-nil (all_came b.before) ∙ (ap (λ (l : List Told). all_came l) b.writes.parts
        ∙ came_first b.writes.reads b.writes.writes b.writes.head b.writes.taken b.writes.got b.writes.are_taken)))))
        (did_read x y told did)

    broken_put : WritesBytes b.writes.taken (between x y)
    broken_put = subst (λ (l : List ℕ). WritesBytes l (between x y))
        (ap (λ (l : List Told). all_taken l) b.parts ∙ (taken_more b.before b.last
        ∙ (ap (λ (l : List ℕ). all_taken b.before ++ l) (breaks_nothing b.last b.breaks).1
        ∙ (append-nil (all_taken b.before) ∙ (ap (λ (l : List Told). all_taken l) b.writes.parts
        ∙ taken_then b.writes.reads b.writes.writes b.writes.head b.writes.taken b.writes.got b.writes.are_taken)))))
        (did_write x y told did)

  -- ---- the whole

  accepts_so : (request : AcceptedRequest) (told : List Told) → IsNewConnection x → DidCalls x y told
      → WritesAnswer start (Accepted request) [] told → Admits start.known (Accepted request) (between x y)
  accepts_so request told new did w =
      let taken : IsTakenFrom start.known w.head w.answer request = w.is_head.decided in
      let stays : StaysOpen x y = stays_open (Accepted request) [] told w y did in
      record {
        calls = by_calls (Accepted request) told did w;
        head = w.head;
        upgrade = taken.upgrade;
        used = taken.used;
        reads = asks_upgrade w.head w.answer request w.is_head;
        has_got = head_got (Accepted request) [] told w y did;
        has_put = subst (λ (l : List ℕ). WritesBytes l (between x y))
            (sym (append-nil w.taken) ∙ (sym w.put ∙ taken.responds)) (some_put (Accepted request) [] told w y did);
        path = taken.path;
        behind = taken.behind;
        ready = (can_read (Accepted request) [] told w y did, stays.failed ∙ new.1, stays.ended ∙ new.2);
        allowance = stays.allowance;
      }

  refuses_whole : (fault : HeadFault) (told : List Told) → DidCalls x y told
      → WritesAnswer start (Refused fault) [] told → Admits start.known (Refused fault) (between x y)
  refuses_whole fault told did w = record {
    calls = by_calls (Refused fault) told did (inl w);
    head = w.head;
    is_head = record {
      decides = w.is_head.decided.0;
      bound = w.is_head.bound;
      no_further = w.is_head.no_further;
    };
    has_got = head_got (Refused fault) [] told w y did;
    put = inl (subst (λ (l : List ℕ). WritesBytes l (between x y))
        (sym (append-nil w.taken) ∙ (sym w.put ∙ w.is_head.decided.1)) (some_put (Refused fault) [] told w y did));
  }

  refuses_part : (fault : HeadFault) (told : List Told) → DidCalls x y told → BreaksOff start (Refused fault) told
      → Admits start.known (Refused fault) (between x y)
  refuses_part fault told did b =
      let w : WritesAnswer start (Refused fault) b.rest b.before = b.writes in
      record {
        calls = by_calls (Refused fault) told did (inr b);
        head = w.head;
        is_head = record {
          decides = w.is_head.decided.0;
          bound = w.is_head.bound;
          no_further = w.is_head.no_further;
        };
        has_got = broken_got (Refused fault) told b did;
        put = inr (
          broken_now (Refused fault) told b did,
          (w.taken, b.rest, sym w.is_head.decided.1 ∙ w.put, broken_put (Refused fault) told b did),
        );
      }

  loses_head : (told : List Told) → DidCalls x y told → LosesHeadOf start told
      → Admits start.known Lost (between x y)
  loses_head told did l = inl (record {
    calls = by_calls Lost told did (inl l);
    read = l.read;
    is_open = l.awaits.is_open;
    has_got = subst (λ (b : List ℕ). ReadsBytes b (between x y))
        (ap (λ (t : List Told). all_came t) l.parts ∙ (came_more l.before l.last
        ∙ (ap (λ (b : List ℕ). all_came l.before ++ b) (ends_nothing l.last l.ends).0
        ∙ (append-nil (all_came l.before) ∙ l.awaits.got.bytes_are)))) (did_read x y told did);
    has_put = subst (λ (b : List ℕ). WritesBytes b (between x y))
        (ap (λ (t : List Told). all_taken t) l.parts ∙ (taken_more l.before l.last
        ∙ (ap (λ (b : List ℕ). all_taken l.before ++ b) (ends_nothing l.last l.ends).1
        ∙ (append-nil (all_taken l.before) ∙ pieces_take_none l.before l.awaits.got.only)))) (did_write x y told did);
  })

  loses_response : (request : AcceptedRequest) (told : List Told) → DidCalls x y told
      → BreaksOff start (Accepted request) told → Admits start.known Lost (between x y)
  loses_response request told did b =
      let w : WritesAnswer start (Accepted request) b.rest b.before = b.writes in
      let taken : IsTakenFrom start.known w.head w.answer request = w.is_head.decided in
      inr (record {
        calls = by_calls Lost told did (inr (request, b));
        head = w.head;
        upgrade = taken.upgrade;
        used = taken.used;
        reads = asks_upgrade w.head w.answer request w.is_head;
        has_got = broken_got (Accepted request) told b did;
        broken_off = broken_now (Accepted request) told b did;
        begun = (w.taken, b.rest, sym taken.responds ∙ w.put, broken_put (Accepted request) told b did);
      })

  admits_here : (admission : Admission) (told : List Told) → IsNewConnection x → DidCalls x y told
      → AdmitGives start told admission → Admits start.known admission (between x y)
  admits_here (Accepted request) told new did w = accepts_so request told new did w
  admits_here (Refused fault) told new did (inl w) = refuses_whole fault told did w
  admits_here (Refused fault) told new did (inr b) = refuses_part fault told did b
  admits_here Lost told new did (inl l) = loses_head told did l
  admits_here Lost told new did (inr (request, b)) = loses_response request told did b

pub admits_so : (known : List (List ℕ)) (start : AdmitValue) (x y : ConnectionValue) (admission : Admission)
    (told : List Told) → start.known ≡ known → IsNewConnection x → DidCalls x y told
    → AdmitGives start told admission → Admits known admission (between x y)
admits_so known start x y admission told knows new did gives = subst (λ (l : List (List ℕ)).
    Admits l admission (between x y)) knows (admits_here start x y admission told new did gives)
