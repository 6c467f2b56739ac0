-- A probe that is told one thing more: while its request is written, while the head of the answer is read, and behind it.
use Rattle.std.proofs.Common.{◌≡◌, ◌∙◌, ℕ, suc, ◌+◌, ◌-◌, ◌<◌, ◌≤◌, ◌⊎◌, Bool, true, false, if◌then◌else◌}
use Rattle.std.proofs.Common.{List, [], ◌∷◌, ◌++◌, length, take, drop, refl, sym, ap, subst, arith, inl, inr}
use Rattle.std.proofs.Common.{append_assoc, append-nil, length-append}
use Rattle.std.proofs.lemmas.List.{length-drop, take-append-drop}
use Rattle.ws_upgrade.specs.Reading.{max_head}
use Rattle.ws_machines.specs.Told.{Told}
use Rattle.ws_machines.specs.Told.Told.{Came, Taken, Ended, ReadFailed, NothingCame, WriteFailed, DeadlinePassed}
use Rattle.ws_machines.specs.Machines.{Extends, MayBeTold, told_at}
use Rattle.ws_machines.specs.declared.stream.StreamEvent.{StreamEvent}
use Rattle.ws_machines.specs.declared.stream.StreamEvent.TheVariants as event
use Rattle.ws_tester.specs.Outgoings.{Pieces}
use Rattle.ws_tester.specs.Following.{BeginsBy, BeginsRun, ScriptValue, TesterValue, WasTold, first_state}
use Rattle.ws_tester.specs.RunStates.{RunState, is_nothing, run_left, wanted_in}
use Rattle.ws_tester.specs.Standings.{is_server_close}
use Rattle.ws_tester.proofs.MeasureLemmas.{settles_lower}
use Rattle.ws_handshake.specs.ReadingHeads.{AreHeadPieces, head_room, max_head_piece}
use Rattle.ws_handshake.specs.Responses.{DecidesResponse, NeedsResponse}
use Rattle.ws_handshake.specs.Probes.{AskedValue, GotHead, IsOpen, LosesHead, ProbeValue, StillAsks, WasAsked, WasProbed}
use Rattle.ws_handshake.specs.Probes.{RunsBehind, WasProbedAt, probe_left_at, probe_left, script_behind, wanted_at, wanted_of}
use Rattle.ws_handshake.specs.InnerProbes.{ReadsAnswer, IsStageBehind, OpensOn, StaysUndecided}
use Rattle.ws_handshake.specs.declared.response_head.ResponseDecision.{ResponseDecision}
use Rattle.ws_handshake.specs.declared.response_head.ResponseDecision.TheVariants.{Accepted, Refused as RefusedHead}
use Rattle.ws_handshake.specs.declared.probe_machine.ProbeStage.{ProbeStage}
use Rattle.ws_handshake.specs.declared.probe_machine.ProbeStage.TheVariants.{Opening, Running, Refused, Lost}
use Rattle.ws_handshake.proofs.HeadLemmas.{decided_head, fits_piece, more_pieces, more_taken, no_pieces, none_taken}

-- ---- the request, and the head of the answer

pub nothing_asked : (request read : List ℕ) → WasAsked request request read read []
nothing_asked request read = record {
  writes = [];
  reads = [];
  parts = refl;
  taken = [];
  are_taken = none_taken;
  put = refl;
  came = [];
  got = no_pieces;
  adds = sym (append-nil read);
  order = inl refl;
}

-- more of the request was taken
asked_taken : (request rest had read : List ℕ) (told : List Told) (count : ℕ) → 0 < count → count ≤ length rest
    → WasAsked request rest had read told
    → WasAsked request (drop count rest) had read (told ++ Taken (take count rest) ∷ [])
asked_taken request rest had read told count some fits h = by h.order
  where
    by : (h.reads ≡ []) ⊎ (rest ≡ []) → WasAsked request (drop count rest) had read (told ++ Taken (take count rest) ∷ [])
    by (inl none) = record {
      writes = h.writes ++ Taken (take count rest) ∷ [];
      reads = [];
      parts = ap (λ (l : List Told). l ++ Taken (take count rest) ∷ []) (h.parts
          ∙ (ap (λ (l : List Told). h.writes ++ l) none ∙ append-nil h.writes))
          ∙ sym (append-nil (h.writes ++ Taken (take count rest) ∷ []));
      taken = h.taken ++ take count rest;
      are_taken = more_taken h.writes h.taken (take count rest) h.are_taken;
      put = h.put ∙ (ap (λ (l : List ℕ). h.taken ++ l) (sym (take-append-drop count rest))
          ∙ sym (append_assoc h.taken (take count rest) (drop count rest)));
      came = h.came;
      got = subst (λ (l : List Told). AreHeadPieces l h.came) none h.got;
      adds = h.adds;
      order = inl refl;
    }
    by (inr done) = absurd
        (let len : length rest ≡ 0 = ap (λ (l : List ℕ). length l) done in omega (arith, some, fits, len))

-- more of the answer came
pub asked_came : (request rest had read piece : List ℕ) (told : List Told) → rest ≡ []
    → length piece ≤ max_head_piece → WasAsked request rest had read told
    → WasAsked request rest had (read ++ piece) (told ++ Came piece ∷ [])
asked_came request rest had read piece told done fits h = record {
  writes = h.writes;
  reads = h.reads ++ Came piece ∷ [];
  parts = ap (λ (l : List Told). l ++ Came piece ∷ []) h.parts ∙ append_assoc h.writes h.reads (Came piece ∷ []);
  taken = h.taken;
  are_taken = h.are_taken;
  put = h.put;
  came = h.came ++ piece;
  got = more_pieces h.reads h.came piece fits h.got;
  adds = ap (λ (l : List ℕ). l ++ piece) h.adds ∙ append_assoc had h.came piece;
  order = inr done;
}

-- what may come while the request is written and the answer read
all_written : (rest : List ℕ) (room n : ℕ) → 0 < n → n ≤ (if is_nothing rest then room else 0) → rest ≡ []
all_written [] room n some fits = refl
all_written (byte ∷ bytes) room n some fits = absurd (omega (arith, some, fits))

fits_room : (rest : List ℕ) (room n : ℕ) → n ≤ (if is_nothing rest then room else 0) → n ≤ room
fits_room [] room n fits = fits
fits_room (byte ∷ bytes) room n fits = omega (arith, fits)

reads_now : (rest : List ℕ) (room : ℕ) → 0 < (if is_nothing rest then room else 0) → rest ≡ []
reads_now rest room some = all_written rest room (if is_nothing rest then room else 0) some (omega arith)

-- ---- one thing more, before the head is whole

module _ (start old new : ProbeValue) (told : List Told) (h : StillAsks start old told) where
  stays_so : (rest read : List ℕ) (now : List Told) → StaysUndecided old new rest read → WasAsked start.rest rest start.read read now
      → IsOpen start.asked read → WasProbed start new now
  stays_so rest read now stays asked is_open = subst (λ (s : ProbeStage). WasProbedAt s start new now) (sym stays.stage)
      (record {
        asking = h.asking;
        asked = stays.asked ∙ h.asked;
        script = stays.script ∙ h.script;
        was_asked = subst (λ (l : List ℕ). WasAsked start.rest l start.read new.read now) (sym stays.left)
            (subst (λ (l : List ℕ). WasAsked start.rest rest start.read l now) (sym stays.got) asked);
        is_open = subst (λ (l : List ℕ). IsOpen start.asked l) (sym stays.got) is_open;
      })

  same_script : (first : List ℕ) → script_behind old first ≡ script_behind start first
  same_script first = ap (λ (a : AskedValue). record {
    plan = a.plan;
    script = old.script;
    budget = a.budget;
    first = first;
  }) h.asked
      ∙ ap (λ (s : List Pieces). record {
        plan = start.asked.plan;
        script = s;
        budget = start.asked.budget;
        first = first;
      }) h.script

  decides_so : (head : List ℕ) (decision : ResponseDecision)
      → DecidesResponse old.asked.nonce old.asked.offers head decision
      → DecidesResponse start.asked.nonce start.asked.offers head decision
  decides_so head decision k = subst (λ (a : AskedValue). DecidesResponse a.nonce a.offers head decision) h.asked k

  loses : (last : Told) → LosesHead old.rest last → new.stage ≡ Lost → WasProbed start new (told ++ last ∷ [])
  loses last by lost = subst (λ (s : ProbeStage). WasProbedAt s start new (told ++ last ∷ [])) (sym lost) (record {
    before = told;
    last = last;
    parts = refl;
    rest = old.rest;
    read = old.read;
    asking = h.asking;
    was_asked = h.was_asked;
    is_open = h.is_open;
    loses = by;
  })

  module _ (piece : List ℕ) (done : old.rest ≡ []) (fits : length piece ≤ head_room old.read) where
    abbrev now : List Told
    now = told ++ Came piece ∷ []

    came_so : WasAsked start.rest old.rest start.read (old.read ++ piece) now
    came_so = asked_came start.rest old.rest start.read old.read piece told done (fits_piece old.read (length piece) fits)
        h.was_asked

    got_so : (decision : ResponseDecision)
        → DecidesResponse old.asked.nonce old.asked.offers (old.read ++ piece) decision
        → GotHead start (old.read ++ piece) decision now
    got_so decision k = record {
      asking = h.asking;
      was_asked = subst (λ (l : List ℕ). WasAsked start.rest l start.read (old.read ++ piece) now) done came_so;
      ends = record { before = told; last = piece; parts = refl };
      is_head = decided_head (NeedsResponse start.asked.nonce start.asked.offers)
          (DecidesResponse start.asked.nonce start.asked.offers) old.read piece decision h.is_open fits
          (decides_so (old.read ++ piece) decision k);
    }

    behind_so : (stage : ProbeStage) → IsStageBehind old.asked old.script (old.read ++ piece) stage → WasProbedAt stage start new now
    behind_so Opening k = absurd k
    behind_so (Running tester) (used, protocol, decided, begins, told_none, next) = record {
      opening = now;
      more = [];
      parts = sym (append-nil now);
      head = old.read ++ piece;
      used = used;
      protocol = protocol;
      got = got_so (Accepted used protocol) decided;
      first = tester;
      begins = subst (λ (run : ScriptValue). BeginsRun run tester.run)
          (same_script (drop used (old.read ++ piece))) begins;
      was_told = told_none;
    }
    behind_so (Refused refusal) (decided, status) = record {
      head = old.read ++ piece;
      got = got_so (RefusedHead refusal.fault) decided;
      status = status;
    }
    behind_so Lost k = absurd k

    answers_so : ReadsAnswer old new (old.read ++ piece) → WasProbed start new now
    answers_so (inl (stays, is_open)) = stays_so old.rest (old.read ++ piece) now stays came_so
        (subst (λ (a : AskedValue). IsOpen a (old.read ++ piece)) h.asked is_open)
    answers_so (inr k) = behind_so new.stage k

  opens_so : (ev : StreamEvent) → MayBeTold (wanted_at Opening old.rest old.read) ev → OpensOn old ev new
      → WasProbed start new (told ++ told_at (wanted_at Opening old.rest old.read) ev ∷ [])
  opens_so (event.Came piece) (undone, (some, fits)) k = answers_so piece.now
      (all_written old.rest (head_room old.read) (length piece.now) some fits)
      (fits_room old.rest (head_room old.read) (length piece.now) fits) k
  opens_so event.Ended (undone, room) k = loses Ended (reads_now old.rest (head_room old.read) room) k
  opens_so event.ReadFailed (undone, room) k = loses ReadFailed (reads_now old.rest (head_room old.read) room) k
  opens_so event.NothingCame (undone, (room, none)) k = loses NothingCame none k
  opens_so (event.Taken count) (undone, (some, fits)) k =
      stays_so (drop count old.rest) old.read (told ++ Taken (take count old.rest) ∷ []) k
      (asked_taken start.rest old.rest start.read old.read told count some fits h.was_asked) h.is_open
  opens_so event.WriteFailed (undone, some) k = loses WriteFailed some k
  opens_so event.DirectionEnded (undone, wrong) k = absurd cc
  opens_so event.Reported (undone, some) k = absurd (let wrong : 0 < 0 = some in omega arith)
  opens_so (event.DeadlinePassed waited) may k = loses (DeadlinePassed waited) tt k

-- it was told one thing more
pub opens_told : (old new : ProbeValue) (ev : StreamEvent) → old.stage ≡ Opening → MayBeTold (wanted_of old) ev
    → OpensOn old ev new → Extends WasProbed old new (told_at (wanted_of old) ev ∷ [])
opens_told old new ev e may k start told h =
    subst (λ (s : ProbeStage). WasProbed start new (told ++ told_at (wanted_at s old.rest old.read) ev ∷ [])) (sym e)
    (opens_so start old new told (subst (λ (s : ProbeStage). WasProbedAt s start old told) e h) ev
    (subst (λ (s : ProbeStage). MayBeTold (wanted_at s old.rest old.read) ev) e may) k)

-- ---- one thing more, behind the head

pub runs_on : (old : ProbeValue) (before after : TesterValue) (ev : StreamEvent) → old.stage ≡ Running before
    → Extends WasTold before after (told_at (wanted_in before.run) ev ∷ []) → (start : ProbeValue) (told : List Told)
    → WasProbed start old told → RunsBehind start after (told ++ told_at (wanted_of old) ev ∷ [])
runs_on old before after ev e told_more start told h =
    let x : Told = told_at (wanted_in before.run) ev in
    let k : RunsBehind start before told = subst (λ (s : ProbeStage). WasProbedAt s start old told) e h in
    subst (λ (s : ProbeStage). RunsBehind start after (told ++ told_at (wanted_at s old.rest old.read) ev ∷ [])) (sym e)
    (record {
      opening = k.opening;
      more = k.more ++ x ∷ [];
      parts = ap (λ (l : List Told). l ++ x ∷ []) k.parts ∙ append_assoc k.opening k.more (x ∷ []);
      head = k.head;
      used = k.used;
      protocol = k.protocol;
      got = k.got;
      first = k.first;
      begins = k.begins;
      was_told = told_more k.first k.more k.was_told;
    })

-- ---- what can still happen

-- a run begins no higher than its script
begins_by : (script : List Pieces) (x start : RunState) → BeginsBy script x start → run_left start ≤ run_left x
begins_by [] x start same = subst (λ (y : RunState). run_left y ≤ run_left x) (sym same) (omega arith)
begins_by (pieces ∷ turns) x start settles = settles_lower x start settles

-- and where a close came with the head no higher than where none did
closing_low : (run : ScriptValue) (closing : Bool) → run_left (first_state run closing) ≤ run_left (first_state run false)
closing_low run true = omega arith
closing_low run false = omega arith

begins_low : (x : ProbeValue) (first : List ℕ) (start : RunState) → BeginsRun (script_behind x first) start
    → run_left start ≤ run_left (first_state (script_behind x []) false)
begins_low x first start (standing, stands, by) =
    let closing = is_server_close x.asked.plan.tested standing in
    let low : run_left start ≤ run_left (first_state (script_behind x first) closing) =
    begins_by x.script (first_state (script_behind x first) closing) start by in
    let least : run_left (first_state (script_behind x first) closing)
    ≤ run_left (first_state (script_behind x first) false) = closing_low (script_behind x first) closing in
    omega (arith, low, least)

left_open : (x : ProbeValue) → x.stage ≡ Opening → probe_left x ≡ probe_left_at Opening x
left_open x e = ap (λ (s : ProbeStage). probe_left_at s x) e

-- so much is left of what follows the head
abbrev script_left : ProbeValue → ℕ
script_left x = run_left (first_state (script_behind x []) false)

same_left : (old new : ProbeValue) (rest read : List ℕ) → StaysUndecided old new rest read
    → probe_left new ≡ suc (length rest + ((max_head - length read) + script_left old))
same_left old new rest read k = left_open new k.stage
    ∙ (ap (λ (l : List ℕ). suc (length l + ((max_head - length new.read) + script_left new))) k.left
    ∙ (ap (λ (l : List ℕ). suc (length rest + ((max_head - length l) + script_left new))) k.got
    ∙ (ap (λ (a : AskedValue). suc (length rest + ((max_head - length read) + run_left (first_state (record {
      plan = a.plan;
      script = new.script;
      budget = a.budget;
      first = [];
    }) false)))) k.asked
    ∙ ap (λ (s : List Pieces). suc (length rest + ((max_head - length read) + run_left (first_state (record {
      plan = old.asked.plan;
      script = s;
      budget = old.asked.budget;
      first = [];
    }) false)))) k.script)))

lost_less : (old new : ProbeValue) → probe_left old ≡ probe_left_at Opening old → new.stage ≡ Lost → probe_left new < probe_left old
lost_less old new e lost =
    let none : probe_left new ≡ 0 = ap (λ (s : ProbeStage). probe_left_at s new) lost in
    omega (arith, e, none)

behind_less : (old new : ProbeValue) (stage : ProbeStage) (head : List ℕ)
    → IsStageBehind old.asked old.script head stage → probe_left_at stage new < probe_left_at Opening old
behind_less old new Opening head k = absurd k
behind_less old new (Running tester) head (used, protocol, decided, begins, told_none, next) =
    let low : run_left tester.run ≤ script_left old = begins_low old (drop used head) tester.run begins in
    omega (arith, low)
behind_less old new (Refused refusal) head k = omega arith
behind_less old new Lost head k = absurd k

came_less : (read piece : List ℕ) (a b : ℕ) → 0 < length piece → length (read ++ piece) < max_head
    → suc (a + ((max_head - length (read ++ piece)) + b)) < suc (a + ((max_head - length read) + b))
came_less read piece a b some bound = omega (arith, some, bound, length-append read piece)

taken_less : (rest : List ℕ) (count b : ℕ) → 0 < count → count ≤ length rest
    → suc (length (drop count rest) + b) < suc (length rest + b)
taken_less rest count b some fits = omega (arith, some, fits, length-drop count rest)

pub opens_lower : (old new : ProbeValue) (ev : StreamEvent) → old.stage ≡ Opening → MayBeTold (wanted_of old) ev
    → OpensOn old ev new → probe_left new < probe_left old
opens_lower old new ev e may k =
    by ev (subst (λ (s : ProbeStage). MayBeTold (wanted_at s old.rest old.read) ev) e may) k
  where
    same : probe_left old ≡ probe_left_at Opening old
    same = left_open old e

    answered : (piece : List ℕ) → 0 < length piece → ReadsAnswer old new (old.read ++ piece) → probe_left new < probe_left old
    answered piece some (inl (stays, is_open)) =
        let less = came_less old.read piece (length old.rest) (script_left old) some is_open.bound in
        omega (arith, same, same_left old new old.rest (old.read ++ piece) stays, less)
    answered piece some (inr k) =
        let less = behind_less old new new.stage (old.read ++ piece) k in
        omega (arith, same, less)

    by : (ev : StreamEvent) → MayBeTold (wanted_at Opening old.rest old.read) ev → OpensOn old ev new
        → probe_left new < probe_left old
    by (event.Came piece) (undone, (some, fits)) k = answered piece.now some k
    by event.Ended may k = lost_less old new same k
    by event.ReadFailed may k = lost_less old new same k
    by event.NothingCame may k = lost_less old new same k
    by (event.Taken count) (undone, (some, fits)) k =
        let less = taken_less old.rest count ((max_head - length old.read) + script_left old) some fits in
        omega (arith, same, same_left old new (drop count old.rest) old.read k, less)
    by event.WriteFailed may k = lost_less old new same k
    by event.DirectionEnded (undone, wrong) k = absurd cc
    by event.Reported (undone, some) k = absurd (let wrong : 0 < 0 = some in omega arith)
    by (event.DeadlinePassed waited) may k = lost_less old new same k

-- ---- the bytes of the answer

-- they decide nothing yet
pub came_open : (old inner : ProbeValue) (read piece : List ℕ) → inner ≡ old → old.stage ≡ Opening
    → read ≡ inner.read ++ piece → IsOpen inner.asked read
    → ReadsAnswer old (record inner { read = read }) (old.read ++ piece)
came_open old inner read piece e opening more is_open =
    subst (λ (x : ProbeValue). ReadsAnswer x (record inner { read = read }) (x.read ++ piece)) e (inl (
      record {
        asked = refl;
        script = refl;
        left = refl;
        got = more;
        stage = ap (λ (x : ProbeValue). x.stage) e ∙ opening;
      },
      subst (λ (l : List ℕ). IsOpen inner.asked l) more is_open,
    ))

-- they decide
pub came_decided : (old inner new : ProbeValue) (head piece : List ℕ) → inner ≡ old → head ≡ inner.read ++ piece
    → IsStageBehind inner.asked inner.script head new.stage → ReadsAnswer old new (old.read ++ piece)
came_decided old inner new head piece e more behind =
    subst (λ (x : ProbeValue). ReadsAnswer x new (x.read ++ piece)) e
    (inr (subst (λ (l : List ℕ). IsStageBehind inner.asked inner.script l new.stage) more behind))
