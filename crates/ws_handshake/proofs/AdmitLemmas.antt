-- A machine that reads a request and answers it is told one thing more.
use Rattle.std.proofs.Common.{◌≡◌, ◌∙◌, ℕ, ◌<◌, ◌≤◌, false, List, [], ◌∷◌, ◌++◌}
use Rattle.std.proofs.Common.{Option, None, Some, length, take, drop, refl, sym, ap, subst, arith, inl, inr}
use Rattle.std.proofs.Common.{append_assoc, append-nil}
use Rattle.std.proofs.lemmas.List.{length-drop, take-append-drop}
use Rattle.ws_machines.specs.Told.{Told}
use Rattle.ws_machines.specs.Told.Told.{Came, Taken, Ended, ReadFailed, NothingCame, WriteFailed, DeadlinePassed}
use Rattle.ws_machines.specs.Machines.{Extends, MayBeTold, told_at}
use Rattle.ws_machines.specs.declared.stream.StreamEvent.{StreamEvent}
use Rattle.ws_machines.specs.declared.stream.StreamEvent.TheVariants as event
use Rattle.ws_tester.specs.RunStates.{is_nothing}
use Rattle.ws_handshake.specs.ReadingHeads.{AreHeadPieces, IsUndecided, head_room}
use Rattle.ws_handshake.specs.Requests.{DecidesRequest, NeedsRequest}
use Rattle.ws_handshake.specs.declared.request_head.RequestDecision.TheVariants.{Accepted as AcceptedHead}
use Rattle.ws_handshake.specs.Admissions.{AdmitValue, BreaksAnswer, BreaksOff, EndsInHead, HoldsUpgrade, IsAnswerTo, StillAwaits}
use Rattle.ws_handshake.specs.Admissions.{WasAdmitted, WasAdmittedAt, WritesAnswer, admit_left, admit_left_at}
use Rattle.ws_handshake.specs.Admissions.{admit_wants, wanted_to_admit}
use Rattle.ws_handshake.specs.InnerAdmissions.{AnswersOn, ReadsRequestOn, ReadsRequestTo, broken_off}
use Rattle.ws_handshake.specs.declared.admission.Admission.{Admission}
use Rattle.ws_handshake.specs.declared.admission.Admission.TheVariants.{Accepted, Refused, Lost}
use Rattle.ws_handshake.proofs.HeadLemmas.{decided_head, fits_piece, more_pieces, more_taken, none_taken}

-- ---- while the head is read

module _ (start old new : AdmitValue) (told : List Told) (known : old.known ≡ start.known) (none : old.rest ≡ [])
    (h : StillAwaits start old.read told) where
  module _ (piece : List ℕ) (fits : length piece ≤ head_room old.read) where
    abbrev now : List Told
    now = told ++ Came piece ∷ []

    came_so : AreHeadPieces now (old.read ++ piece)
    came_so = more_pieces told old.read piece (fits_piece old.read (length piece) fits) h.got

    writes_so : (admission : Admission) → IsAnswerTo old.known new.rest (old.read ++ piece) admission
        → WritesAnswer start admission new.rest now
    writes_so admission k = record {
      reads = now;
      writes = [];
      parts = sym (append-nil now);
      awaiting = h.awaiting;
      head = old.read ++ piece;
      got = came_so;
      ends = record { before = told; last = piece; parts = refl };
      answer = new.rest;
      is_head = decided_head (NeedsRequest start.known) (IsAnswerTo start.known new.rest) old.read piece admission
          h.is_open fits
          (subst (λ (l : List (List ℕ)). IsAnswerTo l new.rest (old.read ++ piece) admission) known k);
      taken = [];
      are_taken = none_taken;
      put = refl;
    }

    begins_so : (admission : Admission) → IsAnswerTo old.known new.rest (old.read ++ piece) admission
        → WasAdmittedAt (Some admission) start new now
    begins_so (Accepted request) k = writes_so (Accepted request) k
    begins_so (Refused fault) k = inl (writes_so (Refused fault) k)
    begins_so Lost k = absurd k

    reads_so : ReadsRequestTo (old.read ++ piece) old new → WasAdmitted start new now
    reads_so (inl stays) = subst (λ (o : Option Admission). WasAdmittedAt o start new now) (sym stays.outcome) (
      stays.known ∙ known,
      stays.rest ∙ none,
      subst (λ (l : List ℕ). StillAwaits start l now) (sym stays.got) (record {
        awaiting = h.awaiting;
        got = came_so;
        is_open = subst (λ (l : List (List ℕ)). IsUndecided (NeedsRequest l) (old.read ++ piece)) known
            stays.undecided;
      }),
    )
    reads_so (inr (admission, is, fit, k)) =
        subst (λ (o : Option Admission). WasAdmittedAt o start new now) (sym is) (begins_so admission k)

  loses_so : (last : Told) → EndsInHead last → new.rest ≡ old.rest → new.outcome ≡ Some Lost
      → WasAdmitted start new (told ++ last ∷ [])
  loses_so last ends same is = subst (λ (o : Option Admission). WasAdmittedAt o start new (told ++ last ∷ [])) (sym is) (
    same ∙ none,
    inl (record {
      before = told;
      last = last;
      parts = refl;
      read = old.read;
      awaits = h;
      ends = ends;
    }),
  )

  awaits_so : (ev : StreamEvent) → MayBeTold (admit_wants None old.rest old.read) ev → ReadsRequestOn old ev new
      → WasAdmitted start new (told ++ told_at (admit_wants None old.rest old.read) ev ∷ [])
  awaits_so (event.Came piece) (undone, (some, fits)) k = reads_so piece.now fits k
  awaits_so event.Ended may k = loses_so Ended tt k.rest k.outcome
  awaits_so event.ReadFailed may k = loses_so ReadFailed tt k.rest k.outcome
  awaits_so event.NothingCame may k = loses_so NothingCame tt k.rest k.outcome
  awaits_so (event.Taken count) (undone, (some, fits)) k = absurd (omega (arith, some, fits))
  awaits_so event.WriteFailed (undone, some) k = absurd (let wrong : 0 < 0 = some in omega arith)
  awaits_so event.DirectionEnded (undone, wrong) k = absurd cc
  awaits_so event.Reported (undone, some) k = absurd (let wrong : 0 < 0 = some in omega arith)
  awaits_so (event.DeadlinePassed waited) may k = loses_so (DeadlinePassed waited) tt k.rest k.outcome

pub awaits_told : (old new : AdmitValue) (ev : StreamEvent) → old.outcome ≡ None → MayBeTold (wanted_to_admit old) ev
    → ReadsRequestOn old ev new → Extends WasAdmitted old new (told_at (wanted_to_admit old) ev ∷ [])
awaits_told old new ev e may k start told h =
    let (known, none, awaits) = subst (λ (o : Option Admission). WasAdmittedAt o start old told) e h in
    subst (λ (o : Option Admission). WasAdmitted start new (told ++ told_at (admit_wants o old.rest old.read) ev ∷ []))
    (sym e) (awaits_so start old new told known none awaits ev
    (subst (λ (o : Option Admission). MayBeTold (admit_wants o old.rest old.read) ev) e may) k)

-- ---- while the answer is written

some_left : (rest : List ℕ) → is_nothing rest ≡ false → 0 < length rest
some_left [] e = absurd cc
some_left (byte ∷ bytes) e = omega arith

no_rest : (rest : List ℕ) (n : ℕ) → rest ≡ [] → 0 < n → n ≤ length rest → ⊥
no_rest rest n e some fits =
    let len : length rest ≡ 0 = ap (λ (l : List ℕ). length l) e in
    omega (arith, some, fits, len)

module _ (start old new : AdmitValue) (told : List Told) where
  written : (admission : Admission) (count : ℕ) → WritesAnswer start admission old.rest told
      → WritesAnswer start admission (drop count old.rest) (told ++ Taken (take count old.rest) ∷ [])
  written admission count w = record {
    reads = w.reads;
    writes = w.writes ++ Taken (take count old.rest) ∷ [];
    parts = ap (λ (l : List Told). l ++ Taken (take count old.rest) ∷ []) w.parts
        ∙ append_assoc w.reads w.writes (Taken (take count old.rest) ∷ []);
    awaiting = w.awaiting;
    head = w.head;
    got = w.got;
    ends = w.ends;
    answer = w.answer;
    is_head = w.is_head;
    taken = w.taken ++ take count old.rest;
    are_taken = more_taken w.writes w.taken (take count old.rest) w.are_taken;
    put = w.put ∙ (ap (λ (l : List ℕ). w.taken ++ l) (sym (take-append-drop count old.rest))
        ∙ sym (append_assoc w.taken (take count old.rest) (drop count old.rest)));
  }

  takes_so : (admission : Admission) (count : ℕ) → 0 < count → count ≤ length old.rest
      → WasAdmittedAt (Some admission) start old told → new.rest ≡ drop count old.rest
      → WasAdmittedAt (Some admission) start new (told ++ Taken (take count old.rest) ∷ [])
  takes_so (Accepted request) count some fits w same = subst (λ (l : List ℕ).
      WritesAnswer start (Accepted request) l (told ++ Taken (take count old.rest) ∷ [])) (sym same)
      (written (Accepted request) count w)
  takes_so (Refused fault) count some fits (inl w) same = inl (subst (λ (l : List ℕ).
      WritesAnswer start (Refused fault) l (told ++ Taken (take count old.rest) ∷ [])) (sym same)
      (written (Refused fault) count w))
  takes_so (Refused fault) count some fits (inr (none, b)) same = absurd (no_rest old.rest count none some fits)
  takes_so Lost count some fits (none, b) same = absurd (no_rest old.rest count none some fits)

  broken : (admission : Admission) (last : Told) → 0 < length old.rest → BreaksAnswer last
      → WritesAnswer start admission old.rest told → BreaksOff start admission (told ++ last ∷ [])
  broken admission last some breaks w = record {
    before = told;
    last = last;
    parts = refl;
    rest = old.rest;
    writes = w;
    some = some;
    breaks = breaks;
  }

  breaks_so : (admission : Admission) (last : Told) → 0 < length old.rest → BreaksAnswer last
      → WasAdmittedAt (Some admission) start old told → new.rest ≡ []
      → WasAdmittedAt (broken_off (Some admission)) start new (told ++ last ∷ [])
  breaks_so (Accepted request) last some breaks w none = (none, inr (request, broken (Accepted request) last some breaks w))
  breaks_so (Refused fault) last some breaks (inl w) none = inr (none, broken (Refused fault) last some breaks w)
  breaks_so (Refused fault) last some breaks (inr (empty, b)) none =
      absurd (no_rest old.rest (length old.rest) empty some (omega arith))
  breaks_so Lost last some breaks (empty, b) none = absurd (no_rest old.rest (length old.rest) empty some (omega arith))

  answers_so : (admission : Admission) (ev : StreamEvent) → old.outcome ≡ Some admission
      → MayBeTold (admit_wants (Some admission) old.rest old.read) ev → AnswersOn old ev new
      → WasAdmittedAt (Some admission) start old told
      → WasAdmitted start new (told ++ told_at (admit_wants (Some admission) old.rest old.read) ev ∷ [])
  answers_so admission (event.Came piece) e (undone, (some, fits)) k w = absurd (omega (arith, some, fits))
  answers_so admission event.Ended e (undone, some) k w = absurd (let wrong : 0 < 0 = some in omega arith)
  answers_so admission event.ReadFailed e (undone, some) k w = absurd (let wrong : 0 < 0 = some in omega arith)
  answers_so admission event.NothingCame e (undone, (some, empty)) k w =
      absurd (let wrong : 0 < 0 = some in omega arith)
  answers_so admission (event.Taken count) e (undone, (some, fits)) k w =
      subst (λ (o : Option Admission). WasAdmittedAt o start new (told ++ Taken (take count old.rest) ∷ []))
      (sym (k.outcome ∙ e)) (takes_so admission count some fits w k.rest)
  answers_so admission event.WriteFailed e (undone, some) k w =
      subst (λ (o : Option Admission). WasAdmittedAt o start new (told ++ WriteFailed ∷ []))
      (sym (k.outcome ∙ ap (λ (o : Option Admission). broken_off o) e))
      (breaks_so admission WriteFailed some tt w k.rest)
  answers_so admission event.DirectionEnded e (undone, wrong) k w = absurd cc
  answers_so admission event.Reported e (undone, some) k w = absurd (let wrong : 0 < 0 = some in omega arith)
  answers_so admission (event.DeadlinePassed waited) e (undone, may) k w =
      subst (λ (o : Option Admission). WasAdmittedAt o start new (told ++ DeadlinePassed waited ∷ []))
      (sym (k.outcome ∙ ap (λ (o : Option Admission). broken_off o) e))
      (breaks_so admission (DeadlinePassed waited) (some_left old.rest undone) tt w k.rest)

pub answers_told : (old new : AdmitValue) (admission : Admission) (ev : StreamEvent) → old.outcome ≡ Some admission
    → MayBeTold (wanted_to_admit old) ev → AnswersOn old ev new
    → Extends WasAdmitted old new (told_at (wanted_to_admit old) ev ∷ [])
answers_told old new admission ev e may k start told h =
    subst (λ (o : Option Admission). WasAdmitted start new (told ++ told_at (admit_wants o old.rest old.read) ev ∷ []))
    (sym e) (answers_so start old new told admission ev e
    (subst (λ (o : Option Admission). MayBeTold (admit_wants o old.rest old.read) ev) e may) k
    (subst (λ (o : Option Admission). WasAdmittedAt o start old told) e h))

-- ---- what can still happen

left_answering : (x : AdmitValue) (admission : Admission) → x.outcome ≡ Some admission → admit_left x ≡ length x.rest
left_answering x admission e = ap (λ (o : Option Admission). admit_left_at o x) e

broken_lower : (old new : AdmitValue) (admission : Admission) → admit_left old ≡ length old.rest → 0 < length old.rest
    → new.rest ≡ [] → new.outcome ≡ broken_off (Some admission) → admit_left new < admit_left old
broken_lower old new (Accepted request) same some none is =
    let len : length new.rest ≡ 0 = ap (λ (l : List ℕ). length l) none in
    omega (arith, same, some, len, left_answering new Lost is)
broken_lower old new (Refused fault) same some none is =
    let len : length new.rest ≡ 0 = ap (λ (l : List ℕ). length l) none in
    omega (arith, same, some, len, left_answering new (Refused fault) is)
broken_lower old new Lost same some none is =
    let len : length new.rest ≡ 0 = ap (λ (l : List ℕ). length l) none in
    omega (arith, same, some, len, left_answering new Lost is)

pub answers_lower : (old new : AdmitValue) (admission : Admission) (ev : StreamEvent) → old.outcome ≡ Some admission
    → MayBeTold (wanted_to_admit old) ev → AnswersOn old ev new → admit_left new < admit_left old
answers_lower old new admission ev e may k =
    by ev (subst (λ (o : Option Admission). MayBeTold (admit_wants o old.rest old.read) ev) e may) k
  where
    same : admit_left old ≡ length old.rest
    same = left_answering old admission e

    by : (ev : StreamEvent) → MayBeTold (admit_wants (Some admission) old.rest old.read) ev → AnswersOn old ev new
        → admit_left new < admit_left old
    by (event.Came piece) (undone, (some, fits)) k = absurd (omega (arith, some, fits))
    by event.Ended (undone, some) k = absurd (let wrong : 0 < 0 = some in omega arith)
    by event.ReadFailed (undone, some) k = absurd (let wrong : 0 < 0 = some in omega arith)
    by event.NothingCame (undone, (some, empty)) k = absurd (let wrong : 0 < 0 = some in omega arith)
    by (event.Taken count) (undone, (some, fits)) k =
        let left = left_answering new admission (k.outcome ∙ e) in
        let len : length new.rest ≡ length (drop count old.rest) = ap (λ (l : List ℕ). length l) k.rest in
        omega (arith, same, left, len, some, fits, length-drop count old.rest)
    by event.WriteFailed (undone, some) k = broken_lower old new admission same some k.rest
        (k.outcome ∙ ap (λ (o : Option Admission). broken_off o) e)
    by event.DirectionEnded (undone, wrong) k = absurd cc
    by event.Reported (undone, some) k = absurd (let wrong : 0 < 0 = some in omega arith)
    by (event.DeadlinePassed waited) (undone, may) k = broken_lower old new admission same
        (some_left old.rest undone) k.rest (k.outcome ∙ ap (λ (o : Option Admission). broken_off o) e)

-- ---- the bytes of the request

-- they decide nothing yet
pub came_awaiting : (old inner : AdmitValue) (read piece : List ℕ) → inner ≡ old → old.outcome ≡ None
    → read ≡ inner.read ++ piece → IsUndecided (NeedsRequest inner.known) read
    → ReadsRequestTo (old.read ++ piece) old (record inner { read = read })
came_awaiting old inner read piece e none more undecided =
    subst (λ (x : AdmitValue). ReadsRequestTo (x.read ++ piece) x (record inner { read = read })) e (inl (record {
      known = refl;
      got = more;
      rest = refl;
      outcome = ap (λ (x : AdmitValue). x.outcome) e ∙ none;
      undecided = subst (λ (l : List ℕ). IsUndecided (NeedsRequest inner.known) l) more undecided;
    }))

-- they are accepted
pub holds_upgrade : (known : List (List ℕ)) (head accept : List ℕ) (protocol : Option ℕ) (used : ℕ)
    → DecidesRequest known head (AcceptedHead accept protocol used) → HoldsUpgrade known head
holds_upgrade known head accept protocol used (upgrade, same, chosen, asks, within) = (upgrade, used, asks)
