-- A probe whose lines are wanted: one event more, and its end.
use Rattle.std.proofs.Common.{◌≡◌, ◌∙◌, ℕ, true, List, [], ◌∷◌, ◌++◌, drop}
use Rattle.std.proofs.Common.{refl, sym, ap, subst, append-nil, append_assoc}
use Rattle.std.proofs.lemmas.Grind.{flat_map-append}
use Rattle.std.proofs.lemmas.List.Elements.{All-head, All-tail}
use Rattle.std.specs.List.{All}
use Rattle.ws_lines.specs.declared.transcript_lines.Showing.{Showing}
use Rattle.ws_scripts.specs.declared.transcript.Transcript.{Transcript}
use Rattle.ws_machines.specs.Told.{Told}
use Rattle.ws_machines.specs.Told.Told.{Came, DeadlinePassed, DirectionEnded, Ended, NothingCame, ReadFailed, Reported}
use Rattle.ws_machines.specs.Told.Told.{Taken, WriteFailed}
use Rattle.ws_machines.specs.Machines.{Extends}
use Rattle.ws_tester.specs.Following.{TesterValue, WasTold}
use Rattle.ws_tester.specs.Outgoings.{HaveBytes}
use Rattle.ws_handshake.specs.Probes.{LosesAnswer, LosesHead, ProbeValue, RanBehind, RefusesHead, RunsBehind, WasAsked}
use Rattle.ws_handshake.specs.Probes.{WasProbed, WasProbedAt, is_opening, script_behind}
use Rattle.ws_handshake.specs.declared.probe_end.HeadRefusal.{HeadRefusal}
use Rattle.ws_handshake.specs.declared.probe_end.Probe.{Probe}
use Rattle.ws_handshake.specs.declared.probe_end.Probe.TheVariants as probe
use Rattle.ws_handshake.specs.ReadingHeads.{TellsPiece, TellsTaken}
use Rattle.ws_handshake.specs.declared.probe_machine.ProbeStage.{ProbeStage}
use Rattle.ws_handshake.specs.declared.probe_machine.ProbeStage.TheVariants as stage
use Rattle.ws_shown.specs.MarkedLines.{AreMarkedLines}
use Rattle.ws_shown.specs.ShownProbes.{ComesOn, EndsAs, IsNoReport, IsStageOf, ReachesStage, ShownGives, ShownGivesAt}
use Rattle.ws_shown.specs.ShownProbes.{IsRunningAt, ShownValue, WasShown, WasShownAt}
use Rattle.ws_shown.specs.declared.shown_probe.ShownEnd.{ShownEnd}
use Rattle.ws_shown.specs.ShownTesters.{EndsShown, IsRunOfScript, IsShownBy, TellsShown, all_reported, reported_by}
use Rattle.ws_shown.specs.ShownTesters.{without_report, without_reports}
use Rattle.ws_shown.specs.declared.shown_probe.ShownStage.{ShownStage}
use Rattle.ws_shown.specs.declared.shown_probe.ShownStage.TheVariants.{Lost, Opening, Refused, Running}
use Rattle.ws_shown.specs.declared.shown_tester.ShownTester.{ShownTester}

-- ---- what was told without the lines

pub without_more : (told : List Told) (event : Told)
    → without_reports (told ++ event ∷ []) ≡ without_reports told ++ without_report event
without_more told event = flat_map-append without_report told (event ∷ [])
    ∙ ap (λ (l : List Told). without_reports told ++ l) (append-nil (without_report event))

pub reported_more : (told : List Told) (event : Told)
    → all_reported (told ++ event ∷ []) ≡ all_reported told ++ reported_by event
reported_more told event = flat_map-append reported_by told (event ∷ [])
    ∙ ap (λ (l : List ℕ). all_reported told ++ l) (append-nil (reported_by event))

-- nothing of it is that lines were taken
abbrev AreNoReports : List Told → Type 0
AreNoReports told = (without_reports told ≡ told) × (all_reported told ≡ [])

no_reports_more : (told : List Told) (event : Told) → AreNoReports told → IsNoReport event
    → AreNoReports (told ++ event ∷ [])
no_reports_more told event (same, none) (is, silent) = (
  without_more told event ∙ (ap (λ (l : List Told). l ++ without_report event) same
      ∙ ap (λ (l : List Told). told ++ l) is),
  reported_more told event ∙ (ap (λ (l : List ℕ). l ++ reported_by event) none ∙ silent),
)

no_reports_then : (told : List Told) (event : Told) → IsNoReport event → AreNoReports told
    → AreNoReports (event ∷ told)
no_reports_then told event (is, silent) (same, none) = (
  ap (λ (l : List Told). l ++ without_reports told) is ∙ ap (λ (l : List Told). event ∷ l) same,
  ap (λ (l : List ℕ). l ++ all_reported told) silent ∙ none,
)

taken_is_none : (event : Told) → TellsTaken event → IsNoReport event
taken_is_none (Taken bytes) h = (refl, refl)
taken_is_none (Came bytes) h = absurd h
taken_is_none Ended h = absurd h
taken_is_none ReadFailed h = absurd h
taken_is_none NothingCame h = absurd h
taken_is_none WriteFailed h = absurd h
taken_is_none DirectionEnded h = absurd h
taken_is_none (Reported lines) h = absurd h
taken_is_none (DeadlinePassed waited) h = absurd h

piece_is_none : (event : Told) → TellsPiece event → IsNoReport event
piece_is_none (Came bytes) h = (refl, refl)
piece_is_none (Taken bytes) h = absurd h
piece_is_none Ended h = absurd h
piece_is_none ReadFailed h = absurd h
piece_is_none NothingCame h = absurd h
piece_is_none WriteFailed h = absurd h
piece_is_none DirectionEnded h = absurd h
piece_is_none (Reported lines) h = absurd h
piece_is_none (DeadlinePassed waited) h = absurd h

none_reported : (P : Told → Type 0) → ((event : Told) → P event → IsNoReport event) → (told : List Told) → All P told
    → AreNoReports told
none_reported P each [] all = (refl, refl)
none_reported P each (event ∷ told) all = no_reports_then told event (each event (All-head P event told all))
    (none_reported P each told (All-tail P event told all))

both_none : (a b : List Told) → AreNoReports a → AreNoReports b → AreNoReports (a ++ b)
both_none a b (sa, na) (sb, nb) = (
  flat_map-append without_report a b ∙ (ap (λ (l : List Told). l ++ without_reports b) sa
      ∙ ap (λ (l : List Told). a ++ l) sb),
  flat_map-append reported_by a b ∙ (ap (λ (l : List ℕ). l ++ all_reported b) na ∙ nb),
)

asked_none : (request rest had read : List ℕ) (told : List Told) → WasAsked request rest had read told
    → AreNoReports told
asked_none request rest had read told h = subst (λ (l : List Told). AreNoReports l) (sym h.parts)
    (both_none h.writes h.reads (none_reported TellsTaken taken_is_none h.writes h.are_taken.only)
    (none_reported TellsPiece piece_is_none h.reads h.got.only))

-- while the head isn't whole nothing is
pub opening_none : (start probe : ProbeValue) (told : List Told) → WasProbed start probe told
    → is_opening probe.stage ≡ true → AreNoReports told
opening_none start probe told h opening = pick probe.stage refl opening h
  where
    pick : (s : ProbeStage) → probe.stage ≡ s → is_opening s ≡ true → WasProbedAt s start probe told
        → AreNoReports told
    pick stage.Opening e o asks = asked_none start.rest probe.rest start.read probe.read told asks.was_asked
    pick (stage.Running tester) e o k = absurd cc
    pick (stage.Refused refusal) e o k = absurd cc
    pick stage.Lost e o k = absurd cc

-- ---- a tester behind the head

pub runs_on : (start : ProbeValue) (x y : TesterValue) (told : List Told) (event : Told) → RunsBehind start x told
    → Extends WasTold x y (event ∷ []) → RunsBehind start y (told ++ event ∷ [])
runs_on start x y told event h on = record {
  opening = h.opening;
  more = h.more ++ event ∷ [];
  parts = ap (λ (l : List Told). l ++ event ∷ []) h.parts ∙ append_assoc h.opening h.more (event ∷ []);
  head = h.head;
  used = h.used;
  protocol = h.protocol;
  got = h.got;
  first = h.first;
  begins = h.begins;
  was_told = on h.first h.more h.was_told;
}

pub is_run : (start : ProbeValue) (x : TesterValue) (told : List Told) → HaveBytes start.script
    → RunsBehind start x told → IsRunOfScript x
is_run start x told pieces h = record {
  run = script_behind start (drop h.used h.head);
  pieces = pieces;
  start = h.first;
  begins = h.begins;
  told = h.more;
  was_told = h.was_told;
}

-- ---- one event

module _ (start : ProbeValue) (showing : Showing) (pieces : HaveBytes start.script) (told : List Told) (event : Told) where
  abbrev more : List Told
  more = told ++ event ∷ []

  -- while the head isn't whole, or with its last byte
  pub opening_on : (now : ProbeValue) (new : ShownStage) → AreNoReports more → WasProbed start now more
      → IsStageOf showing now new → ReachesStage start showing new more
  opening_on now (Opening probe) none was (same, opening) = (
    subst (λ (p : ProbeValue). WasProbed start p more) (sym same) was,
    ap (λ (p : ProbeValue). is_opening p.stage) same ∙ opening,
  )
  opening_on now (Running x) (same, none) was (at, (shown, is)) = (
    subst (λ (l : List Told). RunsBehind start x.tester l) (sym same)
        (subst (λ (s : ProbeStage). WasProbedAt s start now more) at was),
    (subst (λ (l : List ℕ). IsShownBy x l) (sym none) shown, is),
  )
  opening_on now (Refused refusal) none was at = subst (λ (s : ProbeStage). WasProbedAt s start now more) at was
  opening_on now Lost none was at = subst (λ (s : ProbeStage). WasProbedAt s start now more) at was

  -- behind it
  abbrev Reached : ShownTester → List Told → Type 0
  Reached x l = ReachesStage start showing (Running x) l

  running_told : (old new : ShownTester) → IsNoReport event → Extends WasTold old.tester new.tester (event ∷ [])
      → (IsRunOfScript old.tester → (taken : List ℕ) → IsShownBy old taken → IsShownBy new taken)
      → new.room.showing ≡ old.room.showing → Reached old told → Reached new more
  running_told old new (is, silent) on shows same (runs, (shown, shows_so)) = (
    subst (λ (l : List Told). RunsBehind start new.tester l)
        (sym (without_more told event ∙ ap (λ (l : List Told). without_reports told ++ l) is))
        (runs_on start old.tester new.tester (without_reports told) event runs on),
    (
      subst (λ (l : List ℕ). IsShownBy new l)
          (sym (reported_more told event ∙ (ap (λ (l : List ℕ). all_reported told ++ l) silent
          ∙ append-nil (all_reported told))))
          (shows (is_run start old.tester (without_reports told) pieces runs) (all_reported told) shown),
      same ∙ shows_so,
    ),
  )

  running_taken : (lines : List ℕ) (old new : ShownTester) → event ≡ Reported lines → new.tester ≡ old.tester
      → ((taken : List ℕ) → IsShownBy old taken → IsShownBy new (taken ++ lines))
      → new.room.showing ≡ old.room.showing → Reached old told → Reached new more
  running_taken lines old new e tester shows same (runs, (shown, shows_so)) = (
    subst (λ (x : TesterValue). RunsBehind start x (without_reports more)) (sym tester)
        (subst (λ (l : List Told). RunsBehind start old.tester l)
        (sym (without_more told event ∙ (ap (λ (x : Told). without_reports told ++ without_report x) e
        ∙ append-nil (without_reports told)))) runs),
    (
      subst (λ (l : List ℕ). IsShownBy new l)
          (sym (reported_more told event ∙ ap (λ (x : Told). all_reported told ++ reported_by x) e))
          (shows (all_reported told) shown),
      same ∙ shows_so,
    ),
  )

  running_on : (old new : ShownTester) → TellsShown old new event → new.room.showing ≡ old.room.showing
      → Reached old told → Reached new more
  running_on old new tells same reached = pick event refl tells
    where
      other : (x : Told) → IsNoReport x → event ≡ x → Extends WasTold old.tester new.tester (x ∷ [])
          → (IsRunOfScript old.tester → (taken : List ℕ) → IsShownBy old taken → IsShownBy new taken)
          → Reached new more
      other x silent e on shows = running_told old new (subst (λ (y : Told). IsNoReport y) (sym e) silent)
          (subst (λ (y : Told). Extends WasTold old.tester new.tester (y ∷ [])) (sym e) on) shows same reached

      pick : (e : Told) → event ≡ e → TellsShown old new e → Reached new more
      pick (Reported lines) e (tester, shows) = running_taken lines old new e tester shows same reached
      pick (Came bytes) e (on, shows) = other (Came bytes) (refl, refl) e on shows
      pick Ended e (on, shows) = other Ended (refl, refl) e on shows
      pick ReadFailed e (on, shows) = other ReadFailed (refl, refl) e on shows
      pick NothingCame e (on, shows) = other NothingCame (refl, refl) e on shows
      pick (Taken bytes) e (on, shows) = other (Taken bytes) (refl, refl) e on shows
      pick WriteFailed e (on, shows) = other WriteFailed (refl, refl) e on shows
      pick DirectionEnded e (on, shows) = other DirectionEnded (refl, refl) e on shows
      pick (DeadlinePassed waited) e (on, shows) = other (DeadlinePassed waited) (refl, refl) e on shows

  -- by any event
  pub reaches_on : (old new : ShownStage) → ComesOn showing old new event → ReachesStage start showing old told
      → ReachesStage start showing new more
  reaches_on (Opening probe) new (silent, (now, (on, is))) (was, opening) =
      opening_on now new (no_reports_more told event (opening_none start probe told was opening) silent)
      (on start told was) is
  reaches_on (Running old) (Running new) (tells, same) reached = running_on old new tells same reached
  reaches_on (Running old) (Opening probe) h reached = absurd h
  reaches_on (Running old) (Refused refusal) h reached = absurd h
  reaches_on (Running old) Lost h reached = absurd h
  reaches_on (Refused refusal) new h reached = absurd h
  reaches_on Lost new h reached = absurd h

-- the machine was told it
pub was_shown_on : (start old new : ShownValue) (told : List Told) (event : Told) → new.showing ≡ old.showing
    → ComesOn old.showing old.stage new.stage event → WasShown start old told → WasShown start new (told ++ event ∷ [])
was_shown_on start old new told event same comes h = pick start.stage h
  where
    pick : (s : ShownStage) → WasShownAt s start old told → WasShownAt s start new (told ++ event ∷ [])
    pick (Opening probe) (pieces, (opening, (showing, reached))) = (
      pieces,
      (
        opening,
        (
          same ∙ showing,
          reaches_on probe start.showing pieces told event old.stage new.stage
              (subst (λ (s : Showing). ComesOn s old.stage new.stage event) showing comes) reached,
        ),
      ),
    )
    pick (Running x) k = absurd k
    pick (Refused refusal) k = absurd k
    pick Lost k = absurd k

-- that is told of a stage, where the probe is what it was but for this
pub told_at_stage : (start now : ShownValue) (showing : Showing) (at new left : ShownStage) (event : Told)
    (told : List Told) → record { showing = showing; stage = at } ≡ now → ComesOn showing at new event → left ≡ new
    → WasShown start now told → WasShown start (record { showing = showing; stage = left }) (told ++ event ∷ [])
told_at_stage start now showing at new left event told same comes is h =
    was_shown_on start now (record { showing = showing; stage = left }) told event
    (ap (λ (x : ShownValue). x.showing) same)
    (subst (λ (s : ShownStage). ComesOn now.showing now.stage s event) (sym is)
    (subst (λ (x : ShownValue). ComesOn x.showing x.stage new event) same comes)) h

-- it was told something since some state
pub was_running : (start now : ShownValue) (told : List Told) → WasShown start now told → IsRunningAt now.stage
was_running start now told h = pick start.stage h
  where
    at : (probe : ProbeValue) (s : ShownStage) → ReachesStage probe start.showing s told → IsRunningAt s
    at probe (Opening x) (was, opening) = (probe, told, was)
    at probe (Running x) (runs, shown) = (runs.first, runs.more, runs.was_told)
    at probe (Refused refusal) reached = tt
    at probe Lost reached = tt

    pick : (s : ShownStage) → WasShownAt s start now told → IsRunningAt now.stage
    pick (Opening probe) (pieces, (opening, (showing, reached))) = at probe now.stage reached
    pick (Running x) k = absurd k
    pick (Refused refusal) k = absurd k
    pick Lost k = absurd k

-- ---- the end

-- where no script was run no lines were taken
pub refused_none : (start : ProbeValue) (refusal : HeadRefusal) (told : List Told) → RefusesHead start refusal told
    → all_reported told ≡ []
refused_none start refusal told h =
    (asked_none start.rest [] start.read h.head told h.got.was_asked).1

loses_none : (rest : List ℕ) (event : Told) → LosesHead rest event → IsNoReport event
loses_none rest WriteFailed h = (refl, refl)
loses_none rest Ended h = (refl, refl)
loses_none rest ReadFailed h = (refl, refl)
loses_none rest NothingCame h = (refl, refl)
loses_none rest (DeadlinePassed waited) h = (refl, refl)
loses_none rest (Came bytes) h = absurd h
loses_none rest (Taken bytes) h = absurd h
loses_none rest DirectionEnded h = absurd h
loses_none rest (Reported lines) h = absurd h

pub lost_none : (start : ProbeValue) (told : List Told) → LosesAnswer start told → all_reported told ≡ []
lost_none start told h = ap (λ (l : List Told). all_reported l) h.parts
    ∙ (no_reports_more h.before h.last (asked_none start.rest h.rest start.read h.read h.before h.was_asked)
    (loses_none h.rest h.last h.loses)).1

-- the script was run
pub ran_so : (start : ProbeValue) (x : ShownTester) (told : List Told) (transcript : Transcript) (last : List ℕ)
    → RunsBehind start x.tester told → EndsShown x transcript last → RanBehind start transcript told
ran_so start x told transcript last h ends = record {
  opening = h.opening;
  more = h.more;
  parts = h.parts;
  head = h.head;
  used = h.used;
  protocol = h.protocol;
  got = h.got;
  first = h.first;
  begins = h.begins;
  recorded = ends.is_end h.first h.more h.was_told;
}

pub ends_running : (start : ShownValue) (x : ShownTester) (showing : Showing) (told : List Told)
    (transcript : Transcript) (end : ShownEnd) → end.probe ≡ probe.Ran transcript
    → EndsShown x transcript end.last.items
    → WasShown start (record { showing = showing; stage = Running x }) told → ShownGives start told end
ends_running start x showing told transcript end is ends h = pick start.stage h
  where
    pick : (s : ShownStage) → WasShownAt s start (record { showing = showing; stage = Running x }) told
        → ShownGivesAt s start.showing told end
    pick (Opening asking) (pieces, (opening, (same, (runs, (shown, is_shown))))) =
        subst (λ (p : Probe). EndsAs asking start.showing told p end.last.items) (sym is) (
          ran_so asking x (without_reports told) transcript end.last.items runs ends,
          subst (λ (s : Showing). AreMarkedLines s transcript (all_reported told ++ end.last.items)) is_shown
              (ends.lines (is_run asking x.tester (without_reports told) pieces runs) (all_reported told) shown),
        )
    pick (Running y) k = absurd k
    pick (Refused refusal) k = absurd k
    pick Lost k = absurd k

pub ends_refused : (start : ShownValue) (showing : Showing) (refusal : HeadRefusal) (told : List Told)
    (end : ShownEnd) → end.probe ≡ probe.Refused refusal → end.last.items ≡ []
    → WasShown start (record { showing = showing; stage = Refused refusal }) told → ShownGives start told end
ends_refused start showing refusal told end is none h = pick start.stage h
  where
    pick : (s : ShownStage) → WasShownAt s start (record { showing = showing; stage = Refused refusal }) told
        → ShownGivesAt s start.showing told end
    pick (Opening asking) (pieces, (opening, (same, refuses))) =
        subst (λ (p : Probe). EndsAs asking start.showing told p end.last.items) (sym is) (refuses, none)
    pick (Running y) k = absurd k
    pick (Refused other) k = absurd k
    pick Lost k = absurd k

pub ends_lost : (start : ShownValue) (showing : Showing) (told : List Told) (end : ShownEnd)
    → end.probe ≡ probe.NoConnection → end.last.items ≡ []
    → WasShown start (record { showing = showing; stage = Lost }) told → ShownGives start told end
ends_lost start showing told end is none h = pick start.stage h
  where
    pick : (s : ShownStage) → WasShownAt s start (record { showing = showing; stage = Lost }) told
        → ShownGivesAt s start.showing told end
    pick (Opening asking) (pieces, (opening, (same, loses))) =
        subst (λ (p : Probe). EndsAs asking start.showing told p end.last.items) (sym is) (loses, none)
    pick (Running y) k = absurd k
    pick (Refused refusal) k = absurd k
    pick Lost k = absurd k
