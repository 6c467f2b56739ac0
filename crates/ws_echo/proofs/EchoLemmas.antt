-- An echo that is told one thing more.
use Rattle.std.proofs.Common.{◌≡◌, ◌∙◌, ℕ, ◌+◌, ◌-◌, ◌*◌, ◌<◌, ◌≤◌, ◌&&◌, not, min, nat_lt, nat_eq, Bool, true, false}
use Rattle.std.proofs.Common.{if◌then◌else◌, List, [], ◌∷◌, ◌++◌, Option, None, Some, is_some, length, take, drop, refl}
use Rattle.std.proofs.Common.{sym, ap, subst, arith, inl, inr, append_assoc, append-nil, length-append}
use Rattle.std.proofs.lemmas.Bool.Decides.{nat_tests}
use Rattle.std.proofs.lemmas.List.{length-drop, nil_from_length, take-append-drop}
use Rattle.std.proofs.lemmas.List.Elements.{All-nil, All-push}
use Rattle.std.proofs.lemmas.Grind.{flat_map-append}
use Rattle.std.specs.List.{All}
use Rattle.ws_machines.specs.Told.{Told, all_came, all_taken, came_by, taken_by}
use Rattle.ws_machines.specs.Told.Told.{Came, Taken, Ended, ReadFailed, NothingCame, WriteFailed, DeadlinePassed}
use Rattle.ws_machines.specs.Machines.{Extends, HasNext, MayBeTold, told_at}
use Rattle.ws_machines.specs.declared.stream.StreamEvent.{StreamEvent}
use Rattle.ws_machines.specs.declared.stream.StreamEvent.TheVariants as event
use Rattle.ws_machines.proofs.ExchangeLemmas.{came_more, taken_more}
use Rattle.ws_session.specs.declared.status.Status.{Status}
use Rattle.ws_session.specs.declared.event.Event.{Event}
use Rattle.ws_session.specs.declared.event.PlacedEvent.{PlacedEvent}
use Rattle.ws_session.specs.Exchange.{SessionValue, HasExchanged, is_over, status_of}
use Rattle.ws_session.specs.Replies.{echo_reply_to, echo_replies_of}
use Rattle.ws_session.specs.Taking.{HasTakenAll}
use Rattle.ws_echo.specs.EchoLaws.{EchoLaws}
use Rattle.ws_echo.specs.Echoes.{BeginsAnswers, DriveCall, Echoes, HasAnsweredAll, IsEchoOf}
use Rattle.ws_echo.specs.EchoMachines.{BeginsEcho, EchoGives, EchoGivesSo, EchoValue, EndsReading, IsToldLast, AnswersSoFar}
use Rattle.ws_echo.specs.EchoMachines.{HasEndedSo, IsEndOfEcho, MovesBytes, StandsBehind, StopsEchoing, BreaksEchoing}
use Rattle.ws_echo.specs.EchoMachines.{TakesBytes, WasEchoing, echo_left, echo_room, is_reading, most_ahead}
use Rattle.ws_echo.specs.EchoMachines.{wanted_by_echo}
use Rattle.ws_echo.specs.InnerEchoing.{EndsStream, FitsReplies, StepsEcho, TakesOnePiece, piece_call}
use Rattle.ws_echo.specs.declared.echo_machine.EchoStop.{EchoStop}
use Rattle.ws_echo.specs.declared.echo_machine.EchoStop.TheVariants as stop
use Rattle.ws_echo.specs.declared.echo_machine.EchoEnd.{EchoEnd}
use Rattle.ws_echo.specs.declared.echo_machine.EchoEnd.TheVariants.{Done, Budget, Stopped}
use Rattle.ws_echo.proofs.Echoing.{echo_ended, echo_more, echo_new, front_begins, has_echoed}

-- ---- what is wanted

-- both hold
both : (a b : Bool) → (a && b) ≡ true → (a ≡ true) × (b ≡ true)
both true b e = (refl, e)
both false b e = absurd cc

-- more is read only where nothing has stopped it, the budget isn't used up, and the session goes on
reads_while : (s : Option EchoStop) (left : ℕ) (over : Bool) → (not (is_some s) && (nat_lt 0 left && not over)) ≡ true
    → (s ≡ None) × (0 < left) × (over ≡ false)
reads_while None left true e = absurd (let wrong = (both (nat_lt 0 left) false e).1 in cc)
reads_while None left false e =
    let some : nat_lt 0 left ≡ true = (both (nat_lt 0 left) true e).0 in
    let more : 0 < left = grind (some, arith, nat_tests) in
    (refl, more, refl)
reads_while (Some why) left over e = absurd cc

-- and else one of these is not so
reads_no_more : (s : Option EchoStop) (left : ℕ) (over : Bool)
    → (not (is_some s) && (nat_lt 0 left && not over)) ≡ false → s ≡ None → over ≡ false → left ≡ 0
reads_no_more None left true e none going = absurd cc
reads_no_more None left false e none going =
    let e : (nat_lt 0 left && true) ≡ false = e in
    let wrong : nat_lt 0 left ≡ false = sym (and_true (nat_lt 0 left)) ∙ e in grind (wrong, arith, nat_tests)
  where
    and_true : (b : Bool) → (b && true) ≡ b
    and_true true = refl
    and_true false = refl
reads_no_more (Some why) left over e none going = absurd cc

room_within : (a b : Bool) (l n : ℕ) → 0 < n → n ≤ (if a && b then min l most_ahead else 0) → (a ≡ true) × (n ≤ l)
room_within true true l n some fits = (refl, omega (arith, fits))
room_within true false l n some fits = absurd (let fits : n ≤ 0 = fits in omega (arith, some, fits))
room_within false b l n some fits = absurd (let fits : n ≤ 0 = fits in omega (arith, some, fits))

-- what is read where so much is wanted
pub record Reads (x : EchoValue) (n : ℕ) : Type 0 where
  pub reading : is_reading x ≡ true
  pub within : n ≤ x.left
  pub none : x.stop ≡ None
  pub some : 0 < x.left
  pub going : is_over x.session.status ≡ false

pub reads : (x : EchoValue) (n : ℕ) → 0 < n → n ≤ echo_room x → Reads x n
reads x n some fits =
    let (reading, within) = room_within (is_reading x) (nat_lt (length x.rest) most_ahead) x.left n some fits in
    let (none, more, going) = reads_while x.stop x.left (is_over x.session.status) reading in
    record { reading = reading; within = within; none = none; some = more; going = going }

pub reads_some : (x : EchoValue) → 0 < echo_room x → Reads x 1
reads_some x some = reads x 1 (omega arith) (omega (arith, some))

-- something is wanted, or it is done
pub wants_next : (x : EchoValue) → HasNext (wanted_by_echo x)
wants_next x = by x.rest (is_reading x) refl refl
  where
    by : (rest : List ℕ) (reading : Bool) → x.rest ≡ rest → is_reading x ≡ reading → HasNext (wanted_by_echo x)
    by (byte ∷ bytes) reading e r =
        let len : length x.rest ≡ length (byte ∷ bytes) = ap (λ (l : List ℕ). length l) e in
        inr (inr (inr (inl (omega (arith, len)))))
    by [] false e r =
        let len : nat_eq (length x.rest) 0 ≡ true = ap (λ (l : List ℕ). nat_eq (length l) 0) e in
        inl (ap (λ (b : Bool). not b && nat_eq (length x.rest) 0) r ∙ len)
    by [] true e r =
        let (none, some, going) = reads_while x.stop x.left (is_over x.session.status) r in
        let few : nat_lt (length x.rest) most_ahead ≡ true =
        ap (λ (l : List ℕ). nat_lt (length l) most_ahead) e in
        let room : echo_room x ≡ min x.left most_ahead =
        ap (λ (b : Bool). if b && nat_lt (length x.rest) most_ahead then min x.left most_ahead else 0) r
        ∙ ap (λ (b : Bool). if b then min x.left most_ahead else 0) few in
        inr (inr (inr (inr (omega (arith, some, room)))))

-- ---- what was told

module _ (call : DriveCall) (old new : EchoValue) (ended : Bool) (told : List Told) (h : AnswersSoFar call old ended told)
  where
    -- what moves no bytes
    quiet : (x : Told) → came_by x ≡ [] → taken_by x ≡ [] → new.session ≡ old.session → new.rest ≡ old.rest
        → new.left ≡ old.left → new.key ≡ old.key → AnswersSoFar call new ended (told ++ x ∷ [])
    quiet x no_came no_taken s r l k =
        let came : all_came (told ++ x ∷ []) ≡ all_came told =
        came_more told x ∙ (ap (λ (b : List ℕ). all_came told ++ b) no_came ∙ append-nil (all_came told)) in
        let taken : all_taken (told ++ x ∷ []) ≡ all_taken told =
        taken_more told x ∙ (ap (λ (b : List ℕ). all_taken told ++ b) no_taken ∙ append-nil (all_taken told)) in
        record {
          put = h.put;
          echo = subst (λ (y : SessionValue). IsEchoOf call (call.first ++ all_came (told ++ x ∷ [])) ended h.put y)
              (sym s) (subst (λ (b : List ℕ). IsEchoOf call (call.first ++ b) ended h.put old.session) (sym came)
              h.echo);
          written = h.written ∙ (ap (λ (b : List ℕ). b ++ old.rest) (sym taken)
              ∙ ap (λ (b : List ℕ). all_taken (told ++ x ∷ []) ++ b) (sym r));
          spent = ap (λ (b : List ℕ). length b + new.left) came ∙ (ap (λ (n : ℕ). length (all_came told) + n) l
              ∙ h.spent);
          key = k ∙ h.key;
        }

    -- bytes that were taken
    took : (count : ℕ) → new ≡ record old { rest = drop count old.rest }
        → AnswersSoFar call new ended (told ++ Taken (take count old.rest) ∷ [])
    took count e =
        let x : Told = Taken (take count old.rest) in
        let came : all_came (told ++ x ∷ []) ≡ all_came told = came_more told x ∙ append-nil (all_came told) in
        subst (λ (y : EchoValue). AnswersSoFar call y ended (told ++ x ∷ [])) (sym e) (record {
          put = h.put;
          echo = subst (λ (b : List ℕ). IsEchoOf call (call.first ++ b) ended h.put old.session) (sym came) h.echo;
          written = h.written ∙ (ap (λ (b : List ℕ). all_taken told ++ b) (sym (take-append-drop count old.rest))
              ∙ (sym (append_assoc (all_taken told) (take count old.rest) (drop count old.rest))
              ∙ ap (λ (b : List ℕ). b ++ drop count old.rest) (sym (taken_more told x))));
          spent = ap (λ (b : List ℕ). length b + old.left) came ∙ h.spent;
          key = h.key;
        })

    -- what was taken begins the replies
    begins_so : EchoLaws → BeginsAnswers call (all_came told) (all_taken told)
    begins_so laws = record {
      front = call.first ++ all_came told;
      later = [];
      parts = sym (append-nil (call.first ++ all_came told));
      status = status_of (echo_replies_of [] h.echo.events) false h.echo.events;
      more = old.rest;
      echoed = record {
        events = h.echo.events;
        has_events = h.echo.has_events;
        is_put = sym h.written ∙ h.echo.is_put;
        is_status = refl;
      };
      begins = λ put end after is.
          let at : Echoes call ((call.first ++ all_came told) ++ []) end put after = subst
          (λ (l : List ℕ). Echoes call l end put after) (sym (append-nil (call.first ++ all_came told))) is in
          let (rest, all) = front_begins laws call.role call.limits call.key (call.first ++ all_came told) []
          (all_taken told ++ old.rest) put h.echo.events h.echo.has_events (sym h.written ∙ h.echo.is_put) at.events
          at.has_events at.is_put in
          (old.rest ++ rest, all ∙ append_assoc (all_taken told) old.rest rest);
    }

-- bytes that came
came_on : EchoLaws → (call : DriveCall) (old new : EchoValue) (told : List Told) (piece : List ℕ)
    → AnswersSoFar call old false told → length piece ≤ old.left → TakesOnePiece old new piece
    → AnswersSoFar call new false (told ++ Came piece ∷ [])
came_on laws call old new told piece h fits t =
    let x : Told = Came piece in
    let came : all_came (told ++ x ∷ []) ≡ all_came told ++ piece = came_more told x in
    let taken : all_taken (told ++ x ∷ []) ≡ all_taken told = taken_more told x ∙ append-nil (all_taken told) in
    let under : HasTakenAll echo_reply_to old.session new.session (piece_call piece call.key old.rest new.rest) [] t.told =
    subst (λ (k : List ℕ). HasTakenAll echo_reply_to old.session new.session (piece_call piece k old.rest new.rest)
    [] t.told) h.key t.taken in
    let g = echo_more laws call.role call.limits call.key old.session new.session (call.first ++ all_came told) h.put
    piece old.rest new.rest [] t.told h.echo under in
    let bytes : (call.first ++ all_came told) ++ piece ≡ call.first ++ all_came (told ++ x ∷ []) =
    append_assoc call.first (all_came told) piece ∙ ap (λ (b : List ℕ). call.first ++ b) (sym came) in
    let len : length (all_came (told ++ x ∷ [])) ≡ length (all_came told) + length piece =
    ap (λ (b : List ℕ). length b) came ∙ length-append (all_came told) piece in
    record {
      put = h.put ++ g.more;
      echo = subst (λ (b : List ℕ). IsEchoOf call b false (h.put ++ g.more) new.session) bytes g.stands;
      written = ap (λ (b : List ℕ). b ++ g.more) h.written ∙ (append_assoc (all_taken told) old.rest g.more
          ∙ (ap (λ (b : List ℕ). all_taken told ++ b) (sym g.added)
          ∙ ap (λ (b : List ℕ). b ++ new.rest) (sym taken)));
      spent = omega (arith, len, t.left, fits, h.spent);
      key = t.key ∙ h.key;
    }

-- nothing but what was taken is told behind what ends the reading
taken_behind : (why : Told) (told : List Told) (bytes : List ℕ) → EndsReading why told
    → EndsReading why (told ++ Taken bytes ∷ [])
taken_behind why told bytes h = record {
  before = h.before;
  after = h.after ++ Taken bytes ∷ [];
  parts = ap (λ (l : List Told). l ++ Taken bytes ∷ []) h.parts
      ∙ append_assoc h.before (why ∷ h.after) (Taken bytes ∷ []);
  moved = h.moved;
  taken = All-push TakesBytes h.after (Taken bytes) h.taken tt;
}

ends_now : (why : Told) (told : List Told) → All MovesBytes told → EndsReading why (told ++ why ∷ [])
ends_now why told moved =
    record { before = told; after = []; parts = refl; moved = moved; taken = All-nil TakesBytes }

-- so much has come where bytes were taken
same_came : (told : List Told) (bytes : List ℕ)
    → length (all_came (told ++ Taken bytes ∷ [])) ≡ length (all_came told)
same_came told bytes = ap (λ (b : List ℕ). length b) (came_more told (Taken bytes) ∙ append-nil (all_came told))

-- and where nothing was moved
none_came : (told : List Told) (x : Told) → came_by x ≡ []
    → length (all_came (told ++ x ∷ [])) ≡ length (all_came told)
none_came told x none = ap (λ (b : List ℕ). length b)
    (came_more told x ∙ (ap (λ (b : List ℕ). all_came told ++ b) none ∙ append-nil (all_came told)))

-- ---- one thing more

module _ (laws : EchoLaws) (call : DriveCall) (old new : EchoValue) (told : List Told) where
  -- bytes were taken
  taken_so : (o : Option EchoStop) (count : ℕ) → 0 < count → count ≤ length old.rest
      → new ≡ record old { rest = drop count old.rest } → StandsBehind o call old told
      → StandsBehind o call new (told ++ Taken (take count old.rest) ∷ [])
  taken_so None count some fits e (false, h, moved) = (
    false,
    took call old new false told h count e,
    All-push MovesBytes told (Taken (take count old.rest)) moved tt,
  )
  taken_so None count some fits e (true, h, (ends, over, within)) = (
    true,
    took call old new true told h count e,
    (
      taken_behind Ended told (take count old.rest) ends,
      ap (λ (y : EchoValue). is_over y.session.status) e ∙ over,
      omega (arith, within, same_came told (take count old.rest)),
    ),
  )
  taken_so (Some stop.ReadFault) count some fits e h = stopped_so ReadFailed count e h
    where
      stopped_so : (why : Told) (count : ℕ) → new ≡ record old { rest = drop count old.rest }
          → StopsEchoing call old why told → StopsEchoing call new why (told ++ Taken (take count old.rest) ∷ [])
      stopped_so why count e h = record {
        answered = took call old new false told h.answered count e;
        going = ap (λ (y : EchoValue). is_over y.session.status) e ∙ h.going;
        within = omega (arith, h.within, same_came told (take count old.rest));
        ends = taken_behind why told (take count old.rest) h.ends;
      }
  taken_so (Some stop.NothingCame) count some fits e h = record {
    answered = took call old new false told h.answered count e;
    going = ap (λ (y : EchoValue). is_over y.session.status) e ∙ h.going;
    within = omega (arith, h.within, same_came told (take count old.rest));
    ends = taken_behind NothingCame told (take count old.rest) h.ends;
  }
  taken_so (Some stop.WriteFault) count some fits e h =
      let none : length old.rest ≡ 0 = ap (λ (l : List ℕ). length l) h.rest in
      absurd (omega (arith, some, fits, none))
  taken_so (Some stop.Late) count some fits e (waited, h) =
      let none : length old.rest ≡ 0 = ap (λ (l : List ℕ). length l) h.rest in
      absurd (omega (arith, some, fits, none))

  -- bytes came
  came_so : (piece : List ℕ) → Reads old (length piece) → TakesOnePiece old new piece → StandsBehind None call old told
      → StandsBehind None call new (told ++ Came piece ∷ [])
  came_so piece r t (false, h, moved) =
      (false, came_on laws call old new told piece h r.within t, All-push MovesBytes told (Came piece) moved tt)
  came_so piece r t (true, h, (ends, over, within)) = absurd (let wrong : true ≡ false = sym over ∙ r.going in cc)

  -- the stream has ended
  ended_so : Reads old 1 → EndsStream old new → StandsBehind None call old told
      → StandsBehind None call new (told ++ Ended ∷ [])
  ended_so r t (false, h, moved) =
      let q = quiet call old (record old { stop = None }) false told h Ended refl refl refl refl refl refl in
      let is : IsEchoOf call (call.first ++ all_came (told ++ Ended ∷ [])) true q.put new.session = echo_ended call.role
      call.limits call.key old.session new.session (call.first ++ all_came (told ++ Ended ∷ [])) q.put q.echo
      t.exchanged t.same.0 t.same.1 in
      let len = none_came told Ended refl in (
        true,
        record {
          put = q.put;
          echo = is;
          written = q.written ∙ ap (λ (b : List ℕ). all_taken (told ++ Ended ∷ []) ++ b) (sym t.rest);
          spent = omega (arith, q.spent, t.left);
          key = t.key ∙ h.key;
        },
        (ends_now Ended told moved, t.over r.going, omega (arith, len, h.spent, r.some)),
      )
  ended_so r t (true, h, (ends, over, within)) = absurd (let wrong : true ≡ false = sym over ∙ r.going in cc)

  -- it is stopped in the midst of its session
  stops_so : (why : Told) → came_by why ≡ [] → taken_by why ≡ [] → Reads old 1 → new.session ≡ old.session
      → new.rest ≡ old.rest → new.left ≡ old.left → new.key ≡ old.key → StandsBehind None call old told
      → StopsEchoing call new why (told ++ why ∷ [])
  stops_so why no_came no_taken r s e l k (false, h, moved) =
      let len = none_came told why no_came in
      record {
        answered = quiet call old new false told h why no_came no_taken s e l k;
        going = ap (λ (y : SessionValue). is_over y.status) s ∙ r.going;
        within = omega (arith, len, h.spent, r.some);
        ends = ends_now why told moved;
      }
  stops_so why no_came no_taken r s e l k (true, h, (ends, over, within)) =
      absurd (let wrong : true ≡ false = sym over ∙ r.going in cc)

  -- what was taken so far begins the replies, also where this is told
  begins_told : (last : Told) → came_by last ≡ [] → taken_by last ≡ []
      → BeginsAnswers call (all_came told) (all_taken told)
      → BeginsAnswers call (all_came (told ++ last ∷ [])) (all_taken (told ++ last ∷ []))
  begins_told last no_came no_taken b =
      let came : all_came (told ++ last ∷ []) ≡ all_came told =
      came_more told last ∙ (ap (λ (b : List ℕ). all_came told ++ b) no_came ∙ append-nil (all_came told)) in
      let taken : all_taken (told ++ last ∷ []) ≡ all_taken told =
      taken_more told last ∙ (ap (λ (b : List ℕ). all_taken told ++ b) no_taken ∙ append-nil (all_taken told)) in
      subst (λ (l : List ℕ). BeginsAnswers call l (all_taken (told ++ last ∷ []))) (sym came)
      (subst (λ (l : List ℕ). BeginsAnswers call (all_came told) l) (sym taken) b)

  -- some of the replies were taken
  begun : (o : Option EchoStop) → StandsBehind o call old told → (o ≡ old.stop)
      → not (is_reading old) && nat_eq (length old.rest) 0 ≡ false → BeginsAnswers call (all_came told) (all_taken told)
  begun None (ended, h, so) same undone = begins_so call old old ended told h laws
  begun (Some stop.ReadFault) h same undone = begins_so call old old false told h.answered laws
  begun (Some stop.NothingCame) h same undone = begins_so call old old false told h.answered laws
  begun (Some stop.WriteFault) h same undone = h.begins
  begun (Some stop.Late) (waited, h) same undone = h.begins

  -- nothing more is written
  breaks_so : (last : Told) → came_by last ≡ [] → taken_by last ≡ [] → new.rest ≡ []
      → BeginsAnswers call (all_came told) (all_taken told) → BreaksEchoing call new last (told ++ last ∷ [])
  breaks_so last no_came no_taken none b = record {
    rest = none;
    begins = begins_told last no_came no_taken b;
    ends = record { before = told; parts = refl };
  }

  -- one thing more
  one_more : (o : Option EchoStop) (ev : StreamEvent) → old.stop ≡ o → MayBeTold (wanted_by_echo old) ev
      → StepsEcho old ev new → StandsBehind o call old told
      → StandsBehind new.stop call new (told ++ told_at (wanted_by_echo old) ev ∷ [])
  one_more o (event.Came piece) same (undone, (some, fits)) t h =
      let r = reads old (length piece.now) some fits in
      let stands : StandsBehind None call old told =
      subst (λ (s : Option EchoStop). StandsBehind s call old told) (sym same ∙ r.none) h in
      subst (λ (s : Option EchoStop). StandsBehind s call new (told ++ Came piece.now ∷ [])) (sym (t.stop ∙ r.none))
      (came_so piece.now r t stands)
  one_more o (event.Taken count) same (undone, (some, fits)) e h =
      let stop_same : new.stop ≡ o = ap (λ (y : EchoValue). y.stop) e ∙ same in
      subst (λ (s : Option EchoStop). StandsBehind s call new (told ++ Taken (take count old.rest) ∷ [])) (sym stop_same)
      (taken_so o count some fits e h)
  one_more o event.Ended same (undone, some) t h =
      let r = reads_some old some in
      let stands : StandsBehind None call old told =
      subst (λ (s : Option EchoStop). StandsBehind s call old told) (sym same ∙ r.none) h in
      subst (λ (s : Option EchoStop). StandsBehind s call new (told ++ Ended ∷ [])) (sym (t.stop ∙ r.none))
      (ended_so r t stands)
  one_more o event.ReadFailed same (undone, some) e h =
      let r = reads_some old some in
      let stands : StandsBehind None call old told =
      subst (λ (s : Option EchoStop). StandsBehind s call old told) (sym same ∙ r.none) h in
      subst (λ (s : Option EchoStop). StandsBehind s call new (told ++ ReadFailed ∷ []))
      (sym (ap (λ (y : EchoValue). y.stop) e))
      (stops_so ReadFailed refl refl r (ap (λ (y : EchoValue). y.session) e) (ap (λ (y : EchoValue). y.rest) e)
      (ap (λ (y : EchoValue). y.left) e) (ap (λ (y : EchoValue). y.key) e) stands)
  one_more o event.NothingCame same (undone, (some, empty)) e h =
      let r = reads_some old some in
      let stands : StandsBehind None call old told =
      subst (λ (s : Option EchoStop). StandsBehind s call old told) (sym same ∙ r.none) h in
      subst (λ (s : Option EchoStop). StandsBehind s call new (told ++ NothingCame ∷ []))
      (sym (ap (λ (y : EchoValue). y.stop) e))
      (stops_so NothingCame refl refl r (ap (λ (y : EchoValue). y.session) e) (ap (λ (y : EchoValue). y.rest) e)
      (ap (λ (y : EchoValue). y.left) e) (ap (λ (y : EchoValue). y.key) e) stands)
  one_more o event.WriteFailed same (undone, some) e h =
      subst (λ (s : Option EchoStop). StandsBehind s call new (told ++ WriteFailed ∷ []))
      (sym (ap (λ (y : EchoValue). y.stop) e))
      (breaks_so WriteFailed refl refl (ap (λ (y : EchoValue). y.rest) e) (begun o h (sym same) undone))
  one_more o event.DirectionEnded same (undone, wrong) e h = absurd cc
  one_more o event.Reported same (undone, some) e h = absurd (let wrong : 0 < 0 = some in omega arith)
  one_more o (event.DeadlinePassed waited) same (undone, may) e h =
      subst (λ (s : Option EchoStop). StandsBehind s call new (told ++ DeadlinePassed waited ∷ []))
      (sym (ap (λ (y : EchoValue). y.stop) e)) (
        waited,
        breaks_so (DeadlinePassed waited) refl refl (ap (λ (y : EchoValue). y.rest) e)
            (begun o h (sym same) undone),
      )

-- whatever was told before
pub told_more : EchoLaws → (old new : EchoValue) (ev : StreamEvent) → MayBeTold (wanted_by_echo old) ev
    → StepsEcho old ev new → Extends WasEchoing old new (told_at (wanted_by_echo old) ev ∷ [])
told_more laws old new ev may steps start told h = λ call begins.
    one_more laws call old new told old.stop ev refl may steps (h call begins)

-- ---- what can still happen

one_at_most : (b : Bool) → (if b then 1 else 0) ≤ 1
one_at_most true = omega arith
one_at_most false = omega arith

not_reading : (s : Option EchoStop) (left : ℕ) (over : Bool) → over ≡ true
    → (not (is_some s) && (nat_lt 0 left && not over)) ≡ false
not_reading None left true e = and_false (nat_lt 0 left)
  where
    and_false : (b : Bool) → (b && false) ≡ false
    and_false true = refl
    and_false false = refl
not_reading None left false e = absurd cc
not_reading (Some why) left over e = refl

-- so much is left where it reads, or not
left_reading : (x : EchoValue) (b : Bool) → is_reading x ≡ b
    → echo_left x ≡ x.left * 18446744073709551616 + (length x.rest + (if b then 1 else 0))
left_reading x b e =
    ap (λ (c : Bool). x.left * 18446744073709551616 + (length x.rest + (if c then 1 else 0))) e

pub left_lower : (old new : EchoValue) (ev : StreamEvent) → MayBeTold (wanted_by_echo old) ev → StepsEcho old ev new
    → FitsReplies ev new → echo_left new < echo_left old
left_lower old new (event.Came piece) (undone, (some, fits)) t bound =
    let r = reads old (length piece.now) some fits in
    let before = left_reading old true r.reading in
    let one = one_at_most (is_reading new) in
    omega (arith, before, one, bound, t.left, some, r.within)
left_lower old new (event.Taken count) (undone, (some, fits)) e bound =
    let same : is_reading new ≡ is_reading old = ap (λ (y : EchoValue). is_reading y) e in
    let after = left_reading new (is_reading old) same in
    let rest : length new.rest ≡ length (drop count old.rest) = ap (λ (y : EchoValue). length y.rest) e in
    let left : new.left ≡ old.left = ap (λ (y : EchoValue). y.left) e in
    omega (arith, after, rest, left, some, fits, length-drop count old.rest)
left_lower old new event.Ended (undone, some) t bound =
    let r = reads_some old some in
    let before = left_reading old true r.reading in
    let after = left_reading new false (not_reading new.stop new.left (is_over new.session.status) (t.over r.going)) in
    let rest : length new.rest ≡ length old.rest = ap (λ (l : List ℕ). length l) t.rest in
    omega (arith, before, after, rest, t.left)
left_lower old new event.ReadFailed (undone, some) e bound =
    let r = reads_some old some in
    let before = left_reading old true r.reading in
    let after = left_reading new false (ap (λ (y : EchoValue). is_reading y) e) in
    let rest : length new.rest ≡ length old.rest = ap (λ (y : EchoValue). length y.rest) e in
    let left : new.left ≡ old.left = ap (λ (y : EchoValue). y.left) e in
    omega (arith, before, after, rest, left)
left_lower old new event.NothingCame (undone, (some, empty)) e bound =
    let r = reads_some old some in
    let before = left_reading old true r.reading in
    let after = left_reading new false (ap (λ (y : EchoValue). is_reading y) e) in
    let rest : length new.rest ≡ length old.rest = ap (λ (y : EchoValue). length y.rest) e in
    let left : new.left ≡ old.left = ap (λ (y : EchoValue). y.left) e in
    omega (arith, before, after, rest, left)
left_lower old new event.WriteFailed (undone, some) e bound =
    let after = left_reading new false (ap (λ (y : EchoValue). is_reading y) e) in
    let rest : length new.rest ≡ 0 = ap (λ (y : EchoValue). length y.rest) e in
    let left : new.left ≡ old.left = ap (λ (y : EchoValue). y.left) e in
    omega (arith, after, rest, left, some)
left_lower old new event.DirectionEnded (undone, wrong) e bound = absurd cc
left_lower old new event.Reported (undone, some) e bound = absurd (let wrong : 0 < 0 = some in omega arith)
left_lower old new (event.DeadlinePassed waited) (undone, may) e bound =
    by (is_reading old) refl
  where
    after : echo_left new ≡ new.left * 18446744073709551616 + (length new.rest + 0)
    after = left_reading new false (ap (λ (y : EchoValue). is_reading y) e)

    rest : length new.rest ≡ 0
    rest = ap (λ (y : EchoValue). length y.rest) e

    left : new.left ≡ old.left
    left = ap (λ (y : EchoValue). y.left) e

    by : (b : Bool) → is_reading old ≡ b → echo_left new < echo_left old
    by true r = let before = left_reading old true r in omega (arith, before, after, rest, left)
    by false r =
        let before = left_reading old false r in
        let some : nat_eq (length old.rest) 0 ≡ false =
        sym (ap (λ (b : Bool). not b && nat_eq (length old.rest) 0) r) ∙ undone in
        let more : 0 < length old.rest = grind (some, arith, nat_tests) in
        omega (arith, before, after, rest, left, more)

-- ---- what comes of it

module _ (laws : EchoLaws) (call : DriveCall) (x : EchoValue) (told : List Told) where
  -- all of the replies were taken
  all_taken_so : (ended : Bool) → AnswersSoFar call x ended told → x.rest ≡ []
      → Echoes call (call.first ++ all_came told) ended (all_taken told) x.session.status
  all_taken_so ended h none =
      let put : h.put ≡ all_taken told =
      h.written ∙ (ap (λ (l : List ℕ). all_taken told ++ l) none ∙ append-nil (all_taken told)) in
      subst (λ (l : List ℕ). Echoes call (call.first ++ all_came told) ended l x.session.status) put
      (has_echoed laws call.role call.limits call.key x.session (call.first ++ all_came told) h.put ended h.echo)

  done_so : (over : Bool) → is_over x.session.status ≡ over → x.rest ≡ []
      → (not (is_some x.stop) && (nat_lt 0 x.left && not (is_over x.session.status))) ≡ false → x.stop ≡ None
      → StandsBehind None call x told → (end : EchoEnd)
      → end ≡ (if is_over x.session.status then Done x.session.status else Budget) → EchoGives call told end
  done_so true over none idle unstopped (false, h, moved) end is =
      subst (λ (e : EchoEnd). EchoGives call told e) (sym (is ∙ ap (λ (b : Bool). if b then Done x.session.status else
      Budget) over)) (false, all_taken_so false h none, (over, moved))
  done_so true over none idle unstopped (true, h, (ends, is_so, within)) end is =
      subst (λ (e : EchoEnd). EchoGives call told e) (sym (is ∙ ap (λ (b : Bool). if b then Done x.session.status else
      Budget) over)) (true, all_taken_so true h none, (ends, within))
  done_so false over none idle unstopped (false, h, moved) end is =
      let used : x.left ≡ 0 = reads_no_more x.stop x.left (is_over x.session.status) idle unstopped over in
      subst (λ (e : EchoEnd). EchoGives call told e) (sym (is ∙ ap (λ (b : Bool). if b then Done x.session.status else
      Budget) over))
      ((x.session.status, all_taken_so false h none, over), omega (arith, h.spent, used), moved)
  done_so false over none idle unstopped (true, h, (ends, is_so, within)) end is =
      absurd (let wrong : true ≡ false = sym is_so ∙ over in cc)

  stopped_so : (why : Told) → x.rest ≡ [] → StopsEchoing call x why told
      → HasAnsweredAll call (all_came told) (all_taken told)
  stopped_so why none h = (x.session.status, all_taken_so false h.answered none, h.going)

  gives_so : (o : Option EchoStop) → x.stop ≡ o → x.rest ≡ [] → is_reading x ≡ false → StandsBehind o call x told
      → (end : EchoEnd) → IsEndOfEcho x.session.status o end → EchoGives call told end
  gives_so None unstopped none idle h end is =
      done_so (is_over x.session.status) refl none idle unstopped h end is
  gives_so (Some stop.ReadFault) unstopped none idle h end is = subst (λ (e : EchoEnd). EchoGives call told e) (sym is)
      (record { answered = stopped_so ReadFailed none h; within = h.within; ends = h.ends })
  gives_so (Some stop.NothingCame) unstopped none idle h end is = subst (λ (e : EchoEnd). EchoGives call told e) (sym is)
      (record { answered = stopped_so NothingCame none h; within = h.within; ends = h.ends })
  gives_so (Some stop.WriteFault) unstopped none idle h end is = subst (λ (e : EchoEnd). EchoGives call told e) (sym is)
      (record { begins = h.begins; ends = h.ends })
  gives_so (Some stop.Late) unstopped none idle (waited, h) end is = subst (λ (e : EchoEnd). EchoGives call told e) (sym is)
      (waited, record { begins = h.begins; ends = h.ends })

no_bytes : (l : List ℕ) → nat_eq (length l) 0 ≡ true → l ≡ []
no_bytes l e = let none : length l ≡ 0 = grind (e, arith, nat_tests) in nil_from_length l none

is_done_so : (reading : Bool) (rest : List ℕ) → (not reading && nat_eq (length rest) 0) ≡ true
    → (reading ≡ false) × (rest ≡ [])
is_done_so false rest e = (refl, no_bytes rest e)
is_done_so true rest e = absurd cc

pub ends_so : EchoLaws → (x : EchoValue) (end : EchoEnd) → (not (is_reading x) && nat_eq (length x.rest) 0) ≡ true
    → IsEndOfEcho x.session.status x.stop end → (start : EchoValue) (told : List Told) → WasEchoing start x told
    → EchoGivesSo start told end
ends_so laws x end done is start told h = λ call begins.
    let (idle, none) = is_done_so (is_reading x) x.rest done in
    gives_so laws call x told x.stop refl none idle (h call begins) end is

-- ---- its beginning

pub begins_new : EchoLaws → (call : DriveCall) (session : SessionValue) (made : EchoValue) (told : List PlacedEvent)
    → session.role ≡ call.role → session.limits ≡ call.limits → HasExchanged session [] [] false
    → HasTakenAll echo_reply_to session made.session (piece_call call.first call.key [] made.rest) [] told
    → made.left ≡ call.budget → made.key ≡ call.key → made.stop ≡ None → BeginsEcho call made
begins_new laws call session made told r l new taken left key unstopped =
    let is = echo_new laws call.role call.limits call.key session r l new in
    let g = echo_more laws call.role call.limits call.key session made.session [] [] call.first [] made.rest [] told is
    taken in
    subst (λ (o : Option EchoStop). StandsBehind o call made []) (sym unstopped) (
      false,
      record {
        put = g.more;
        echo = subst (λ (l : List ℕ). IsEchoOf call l false g.more made.session) (sym (append-nil call.first)) g.stands;
        written = sym g.added;
        spent = omega (arith, left);
        key = key;
      },
      All-nil MovesBytes,
    )
