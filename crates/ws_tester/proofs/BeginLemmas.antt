-- A run begins: what is shown of it before anything is sent, and what comes of that.
use Rattle.std.proofs.Common.{◌≡◌, ◌∙◌, ℕ, ◌||◌, Bool, true, false, List, [], ◌∷◌, refl, sym, ap, subst, append-nil}
use Rattle.std.proofs.Common.{if◌then◌else◌}
use Rattle.std.specs.Prelude.{None}
use Rattle.ws_session.specs.Exchange.{is_over}
use Rattle.ws_scripts.specs.declared.transcript.Ended.TheVariants.{Tester}
use Rattle.ws_scripts.specs.declared.transcript.Turn.{Turn}
use Rattle.ws_session.specs.declared.event.Event.{Event}
use Rattle.ws_session.specs.declared.event.Event.TheVariants as event
use Rattle.ws_suite.specs.Growing.{HasGrown}
use Rattle.ws_suite.specs.Progress.{after_pong, after_pongs}
use Rattle.ws_tester.specs.Standings.{HasServerClose, StandsAs, is_server_close}
use Rattle.ws_tester.specs.Outcomes.{HasSentEnd, got_in_all}
use Rattle.ws_tester.specs.Outgoings.{OutgoingValue, Pieces, after_first, first_turn}
use Rattle.ws_tester.specs.RunStates.{RunState, turns_of_run, with_run_end}
use Rattle.ws_tester.specs.Following.{BeginsRun, BeginsBy, ShowsTurns, ScriptValue, Settles, TesterValue, first_state, has_items}
use Rattle.ws_tester.proofs.FactsLemmas.{sent_end}

-- ---- the state before anything is sent

-- pongs that come before any ping was sent answer none
no_ping : (e : Event) → after_pong [] e ≡ []
no_ping event.Part = refl
no_ping (event.Message message) = refl
no_ping (event.Ping payload) = refl
no_ping (event.Pong payload) = refl
no_ping (event.Close close) = refl
no_ping (event.Failed reason) = refl

pub no_pings : (events : List Event) → after_pongs [] events ≡ []
no_pings [] = refl
no_pings (e ∷ events) = ap (λ (l : List (List ℕ)). after_pongs l events) (no_ping e) ∙ no_pings events

-- of these parts
abbrev of_parts : ScriptValue → Bool → Bool → List Turn → List ℕ → Pieces → List Pieces → List (List ℕ) → RunState
of_parts run closing begun past sent rest later pings = record {
  plan = run.plan;
  past = past;
  turn = record { sent = sent; got = run.first };
  outgoing = record { rest = rest; later = later };
  allowance = run.budget;
  closing = closing;
  half_closed = false;
  write_failed = false;
  pings = pings;
  waits_anew = true;
  begun = begun;
  ended = None;
}

pub first_state_is : (run : ScriptValue) (closing begun : Bool) (past : List Turn) (sent : List ℕ)
    (outgoing : OutgoingValue) (pings : List (List ℕ)) → past ≡ [] → sent ≡ []
    → outgoing.rest ≡ (if closing then [] else first_turn run.script)
    → outgoing.later ≡ after_first run.script → begun ≡ (has_items run.script || has_items run.first) → pings ≡ []
    → of_parts run closing begun past sent outgoing.rest outgoing.later pings ≡ first_state run closing
first_state_is run closing begun past sent outgoing pings no_turn no_byte rest later some none =
    ap (λ (l : List Turn). of_parts run closing begun l sent outgoing.rest outgoing.later pings) no_turn
    ∙ (ap (λ (l : List ℕ). of_parts run closing begun [] l outgoing.rest outgoing.later pings) no_byte
    ∙ (ap (λ (l : Pieces). of_parts run closing begun [] [] l outgoing.later pings) rest
    ∙ (ap (λ (l : List Pieces). of_parts run closing begun [] [] (if closing then [] else first_turn run.script) l pings) later
    ∙ (ap (λ (b : Bool). of_parts run closing b [] [] (if closing then [] else first_turn run.script)
    (after_first run.script) pings) some
    ∙ ap (λ (l : List (List ℕ)). of_parts run closing (has_items run.script || has_items run.first) [] []
    (if closing then [] else first_turn run.script) (after_first run.script) l) none))))

-- ---- the beginning

by_turns : (script : List Pieces) (x start : RunState) → has_items script ≡ true → Settles x start
    → BeginsBy script x start
by_turns [] x start e h = absurd cc
by_turns (pieces ∷ turns) x start e h = h

by_nothing : (script : List Pieces) (x start : RunState) → has_items script ≡ false → start ≡ with_run_end Tester x
    → BeginsBy script x start
by_nothing [] x start e h = h
by_nothing (pieces ∷ turns) x start e h = absurd cc

-- what came with the head, in a first turn
abbrev first_turns : ScriptValue → List Turn
first_turns run = record { sent = []; got = run.first } ∷ []

module _ (run : ScriptValue) (first : TesterValue)
    (state : first.run ≡ first_state run (is_server_close run.plan.tested first.standing))
    (grown : HasGrown run.plan.tested (first_turns run) first.seen)
    (stands : StandsAs run.plan.tested run.plan.expected first.standing (got_in_all (first_turns run)))
    (before : first.had_sent_end ≡ is_over first.seen.tested.status) where
  pub first_shown : ShowsTurns first
  first_shown = record {
    grown = subst (λ (x : RunState). HasGrown x.plan.tested (turns_of_run x) first.seen) (sym state) grown;
    stands = subst (λ (x : RunState). StandsAs x.plan.tested x.plan.expected first.standing
        (got_in_all (turns_of_run x))) (sym state) stands;
    before = subst (λ (b : Bool). HasSentEnd first.run.plan.tested first.run.past b) (sym before)
        (subst (λ (x : RunState). HasSentEnd x.plan.tested x.past (is_over first.seen.tested.status)) (sym state)
        (sent_end run.plan.tested (first_turns run) first.seen grown));
    closing = subst (λ (x : RunState). x.closing ≡ true
        → HasServerClose x.plan.tested x.plan.expected (got_in_all (turns_of_run x))) (sym state)
        (λ c. (first.standing, c, stands));
  }

  -- how what came with the head stands
  pub first_stands : StandsAs run.plan.tested run.plan.expected first.standing run.first
  first_stands = subst (λ (l : List ℕ). StandsAs run.plan.tested run.plan.expected first.standing l)
      (append-nil run.first) stands

  pub begins_settled : (start : RunState) → has_items run.script ≡ true → Settles first.run start → BeginsRun run start
  begins_settled start some settles = (
    first.standing,
    first_stands,
    by_turns run.script (first_state run (is_server_close run.plan.tested first.standing)) start some
        (subst (λ (x : RunState). Settles x start) state settles),
  )

  pub begins_ended : (start : RunState) → has_items run.script ≡ false → start ≡ with_run_end Tester first.run
      → BeginsRun run start
  begins_ended start none ended = (
    first.standing,
    first_stands,
    by_nothing run.script (first_state run (is_server_close run.plan.tested first.standing)) start none
        (ended ∙ ap (λ (x : RunState). with_run_end Tester x) state),
  )
