-- Each event lowers what can still happen to a run.
use Rattle.std.proofs.Common.{◌≡◌, ◌∙◌, ℕ, zero, suc, ◌+◌, ◌<◌, ◌≤◌, ◌&&◌, ◌||◌, not, Bool, true, false, if◌then◌else◌}
use Rattle.std.proofs.Common.{List, []}
use Rattle.std.proofs.Common.{◌∷◌, ◌++◌, length, take, drop, map, refl, sym, ap, subst, arith, inl, inr, length-append}
use Rattle.std.proofs.lemmas.List.{length-drop, length-take-le}
use Rattle.std.specs.Prelude.{Option, None, Some, is_some}
use Rattle.std.specs.List.{concat}
use Rattle.ws_scripts.specs.declared.transcript.Ended.{Ended}
use Rattle.ws_scripts.specs.declared.transcript.Ended.TheVariants.{Tester, Peer, Broken}
use Rattle.ws_machines.specs.Told.Told.{DirectionEnded}
use Rattle.ws_machines.specs.Machines.{MayBeTold, told_at}
use Rattle.ws_machines.specs.declared.stream.StreamEvent.{StreamEvent}
use Rattle.ws_machines.specs.declared.stream.StreamEvent.TheVariants as event
use Rattle.ws_tester.specs.Standings.{is_server_close}
use Rattle.ws_tester.specs.Outcomes.{by_deadline, by_silence, next_or_end, unless_failed}
use Rattle.ws_tester.specs.Outgoings.{Pieces, after_first, first_piece, first_turn, without_front}
use Rattle.ws_tester.specs.RunStates.{RunState, has_more, is_all_sent, is_nothing, run_left, some_turn, wanted_in}
use Rattle.ws_tester.specs.RunStates.{with_came, with_closing, with_run_end, with_event, with_failure, with_next_turn}
use Rattle.ws_tester.specs.RunStates.{with_anew, with_nothing_to_send, with_taken, with_unanswered}
use Rattle.ws_tester.specs.Following.{Happens, Obeys, Settles, SettlesIn}
use Rattle.ws_tester.specs.declared.outcome.Outcome.TheVariants.{Ends}
use Rattle.ws_tester.proofs.OutcomeLemmas.{next_more}
use Rattle.ws_tester.proofs.RecordsPieces.{one_left}
use Rattle.ws_tester.proofs.EventLemmas.{came_fits, goes, piece_of, taken_fits}

-- ---- a turn that begins, an end

-- the end of the run, and that of the own direction, as numbers
abbrev ending : Option Ended → ℕ
ending o = if is_some o then 0 else 1

abbrev closing : Bool → ℕ
closing half_closed = if half_closed then 0 else 1

turn_lowers : (rest : Pieces) (later : List Pieces) (n : ℕ) → some_turn later ≡ true
    → length (concat (first_turn later)) + (length (concat (map concat (after_first later)))
    + (length (after_first later) + n)) < length (concat rest) +
    (length (concat (map concat later)) + (length later + n))
turn_lowers rest [] n e = absurd cc
turn_lowers rest (pieces ∷ turns) n e = omega (arith, length-append (concat pieces) (concat (map concat turns)))

next_lowers : (x : RunState) → has_more x ≡ true → run_left (with_next_turn x) < run_left x
next_lowers x e = turn_lowers x.outgoing.rest x.outgoing.later
    (x.allowance + (closing x.half_closed + ending x.ended)) e

ends_no_more : (x : RunState) (how : Ended) → run_left (with_run_end how x) ≤ run_left x
ends_no_more x how = omega arith

ends_less : (x : RunState) (how : Ended) → x.ended ≡ None → run_left (with_run_end how x) < run_left x
ends_less x how e =
    let one : ending x.ended ≡ 1 = ap (λ (o : Option Ended). ending o) e in
    omega (arith, one)

-- ---- until the run rests

settles_in : (n : ℕ) (x now : RunState) → SettlesIn n x now → run_left now ≤ run_left x
settles_in zero x now (inl (h, same)) = subst (λ (y : RunState). run_left y ≤ run_left x) (sym same) (omega arith)
settles_in zero x now (inr (how, h, same)) =
    subst (λ (y : RunState). run_left y ≤ run_left x) (sym same) (ends_no_more x how)
settles_in (suc n) x now (h, rest) =
    let less : run_left now ≤ run_left (with_next_turn x) = settles_in n (with_next_turn x) now rest in
    let more : run_left (with_next_turn x) < run_left x = next_lowers x (next_more x h.facts h.is) in
    omega (arith, less, more)

pub settles_lower : (x now : RunState) → Settles x now → run_left now ≤ run_left x
settles_lower x now (n, h) = settles_in n x now h

-- what decides by itself
ends_obeyed : (x now : RunState) (how : Ended) → x.ended ≡ None → Obeys (Ends how) x now → run_left now < run_left x
ends_obeyed x now how going same =
    subst (λ (y : RunState). run_left y < run_left x) (sym same) (ends_less x how going)

next_obeyed : (x now : RunState) (more : Bool) → x.ended ≡ None → (more ≡ true → has_more x ≡ true)
    → Obeys (next_or_end more) x now → run_left now < run_left x
next_obeyed x now true going is h =
    let less : run_left now ≤ run_left (with_next_turn x) = settles_lower (with_next_turn x) now h in
    let more : run_left (with_next_turn x) < run_left x = next_lowers x (is refl) in
    omega (arith, less, more)
next_obeyed x now false going is h = ends_obeyed x now Tester going h

end_obeyed : (x now : RunState) (failed : Bool) (how : Ended) → x.ended ≡ None → Obeys (unless_failed failed how) x now
    → run_left now < run_left x
end_obeyed x now true how going h = ends_obeyed x now Broken going h
end_obeyed x now false how going h = ends_obeyed x now how going h

deadline_obeyed : (x now : RunState) (waited : Bool) → x.ended ≡ None → Obeys (by_deadline waited) x now
    → run_left now < run_left x
deadline_obeyed x now true going h = ends_obeyed x now Tester going h
deadline_obeyed x now false going h = ends_obeyed x now Broken going h

silence_obeyed : (x now : RunState) (sent failed more : Bool) → x.ended ≡ None → sent ≡ true
    → (more ≡ true → has_more x ≡ true) → Obeys (by_silence sent failed more) x now → run_left now < run_left x
silence_obeyed x now false failed more going e is h = absurd cc
silence_obeyed x now true true more going e is h = ends_obeyed x now Broken going h
silence_obeyed x now true false more going e is h = next_obeyed x now more going is h

-- ---- what an event changes

standing_no_more : (b : Bool) (x : RunState)
    → run_left (if b then with_closing (with_nothing_to_send x) else x) ≤ run_left x
standing_no_more true x = omega arith
standing_no_more false x = omega arith

came_less : (x : RunState) (bytes : List ℕ) → 0 < length bytes → length bytes ≤ x.allowance
    → run_left (with_came bytes x) < run_left x
came_less x bytes some fits = omega (arith, some, fits)

front_less : (count : ℕ) (rest : Pieces) → 0 < count → count ≤ length (first_piece rest)
    → length (concat (without_front count rest)) < length (concat rest)
front_less count [] some fits = omega (arith, some, fits)
front_less count (piece ∷ pieces) some fits =
    let same : length (concat (without_front count (piece ∷ pieces))) ≡ length (drop count piece ++ concat pieces) =
    ap (λ (l : List ℕ). length l) (one_left (drop count piece) pieces) in
    omega (
      arith,
      some,
      fits,
      same,
      length-append (drop count piece) (concat pieces),
      length-append piece (concat pieces),
      length-drop count piece,
    )

taken_less : (x : RunState) (bytes : List ℕ) → 0 < length bytes → length bytes ≤ length (first_piece x.outgoing.rest)
    → run_left (with_taken bytes x) < run_left x
taken_less x bytes some fits =
    let less : length (concat (without_front (length bytes) x.outgoing.rest)) < length (concat x.outgoing.rest) =
    front_less (length bytes) x.outgoing.rest some fits in
    omega (arith, less)

some_bytes : (rest : Pieces) → 0 < length (first_piece rest) → 0 < length (concat rest)
some_bytes [] some = omega (arith, some)
some_bytes (piece ∷ pieces) some = omega (arith, some, length-append piece (concat pieces))

failed_less : (x : RunState) → 0 < length (first_piece x.outgoing.rest)
    → run_left (with_failure (with_nothing_to_send x)) < run_left x
failed_less x some =
    let bytes : 0 < length (concat x.outgoing.rest) = some_bytes x.outgoing.rest some in
    omega (arith, bytes)

half_open : (ended : Option Ended) (closing half sent : Bool)
    → (not (is_some ended) && (closing && (not half && sent))) ≡ true → half ≡ false
half_open None true false sent e = refl
half_open None true true sent e = absurd cc
half_open None false half sent e = absurd cc
half_open (Some how) closing half sent e = absurd cc

closed_less : (x : RunState) → x.half_closed ≡ false → run_left (with_event DirectionEnded x) < run_left x
closed_less x e =
    let one : closing x.half_closed ≡ 1 = ap (λ (b : Bool). closing b) e in
    omega (arith, one)

nothing_there : (bytes : List ℕ) → bytes ≡ [] → is_nothing bytes ≡ true
nothing_there bytes e = ap (λ (l : List ℕ). is_nothing l) e

both : (a b : Bool) → (a && b) ≡ true → a ≡ true
both true b e = refl
both false b e = absurd cc

-- ---- an event

-- where the state after the change is lower and nothing decides by itself
changed_less : (old heard new : RunState) → run_left heard < run_left old → Settles heard new → run_left new < run_left old
changed_less old heard new less rest =
    let more : run_left new ≤ run_left heard = settles_lower heard new rest in
    omega (arith, less, more)

-- where nothing is changed, and the event decides
same_less : (old heard new : RunState) → heard ≡ old → run_left new < run_left heard → run_left new < run_left old
same_less old heard new same less = subst (λ (x : RunState). run_left new < run_left x) same less

same_goes : (old heard : RunState) → heard ≡ old → old.ended ≡ None → heard.ended ≡ None
same_goes old heard same going = ap (λ (x : RunState). x.ended) same ∙ going

pub happens_lowers : (old new : RunState) (ev : StreamEvent) → MayBeTold (wanted_in old) ev
    → Happens old (told_at (wanted_in old) ev) new → run_left new < run_left old
happens_lowers old new (event.Came piece) (undone, (some, fits)) h =
    let heard = h.changes in
    let came : run_left (with_came piece.now old) < run_left old =
    came_less old piece.now some (came_fits old (length piece.now) undone fits) in
    let no_more : run_left h.heard ≤ run_left (with_came piece.now old) =
    subst (λ (x : RunState). run_left x ≤ run_left (with_came piece.now old)) (sym heard.is)
    (standing_no_more (is_server_close old.plan.tested heard.standing && not old.closing)
    (with_anew heard.progress (with_unanswered heard.pings (with_came piece.now old)))) in
    changed_less old h.heard new (omega (arith, came, no_more)) h.goes_on
happens_lowers old new event.Ended may h = same_less (with_anew false old) h.heard new h.changes
    (end_obeyed h.heard new h.heard.write_failed Peer (same_goes (with_anew false old) h.heard h.changes h.goes)
    h.goes_on)
happens_lowers old new event.ReadFailed may h = same_less (with_anew false old) h.heard new h.changes
    (ends_obeyed h.heard new Broken (same_goes (with_anew false old) h.heard h.changes h.goes) h.goes_on)
happens_lowers old new event.NothingCame (undone, (room, none)) h =
    let sent : is_all_sent h.heard ≡ true = ap (λ (x : RunState). is_all_sent x) h.changes
    ∙ nothing_there (first_piece old.outgoing.rest) (sym (piece_of old (goes old undone)) ∙ none) in
    same_less (with_anew true old) h.heard new h.changes
    (silence_obeyed h.heard new (is_all_sent h.heard) h.heard.write_failed (has_more h.heard && not h.heard.closing)
    (same_goes (with_anew true old) h.heard h.changes h.goes) sent (both (has_more h.heard) (not h.heard.closing))
    h.goes_on)
happens_lowers old new (event.Taken count) (undone, (some, fits)) h =
    let len : length (take count (wanted_in old).write) ≡ count = length-take-le count (wanted_in old).write fits in
    let within : count ≤ length (first_piece old.outgoing.rest) = taken_fits old count undone fits in
    let less : run_left (with_taken (take count (wanted_in old).write) old) < run_left old =
    taken_less old (take count (wanted_in old).write) (omega (arith, len, some)) (omega (arith, len, within)) in
    changed_less old h.heard new
    (subst (λ (x : RunState). run_left x < run_left old) (sym h.changes.is) less) h.goes_on
happens_lowers old new event.WriteFailed (undone, some) h =
    let there : 0 < length (first_piece old.outgoing.rest) =
    subst (λ (l : List ℕ). 0 < length l) (piece_of old (goes old undone)) some in
    changed_less old h.heard new
    (subst (λ (x : RunState). run_left x < run_left old) (sym h.changes) (failed_less old there)) h.goes_on
happens_lowers old new event.DirectionEnded (undone, wants) h =
    changed_less old h.heard new (subst (λ (x : RunState). run_left x < run_left old) (sym h.changes)
    (closed_less old (half_open old.ended old.closing old.half_closed (is_all_sent old) wants))) h.goes_on
happens_lowers old new event.Reported (undone, some) h = absurd (let wrong : 0 < 0 = some in omega arith)
happens_lowers old new (event.DeadlinePassed waited) may h = same_less (with_anew false old) h.heard new h.changes
    (deadline_obeyed h.heard new (waited || not h.heard.plan.timeouts)
    (same_goes (with_anew false old) h.heard h.changes h.goes) h.goes_on)
