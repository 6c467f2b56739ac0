-- What holds of a run as it goes on, and that it still holds where no byte is moved.
use Rattle.std.proofs.Common.{◌≡◌, ◌∙◌, ℕ, ◌+◌, ◌<◌, ◌≤◌, ◌⊎◌, Bool, true, false, List, [], ◌∷◌, ◌++◌, length}
use Rattle.std.proofs.Common.{take, map, refl, sym, ap, inl, inr, append-nil}
use Rattle.std.specs.Prelude.{Option, None, Some, ⊤}
use Rattle.std.specs.List.{concat}
use Rattle.ws_scripts.specs.declared.transcript.Ended.{Ended}
use Rattle.ws_scripts.specs.declared.transcript.Ended.TheVariants.{Tester, Peer, Broken}
use Rattle.ws_scripts.specs.declared.transcript.Turn.{Turn}
use Rattle.ws_suite.specs.Evidence.{sent_turns}
use Rattle.ws_machines.specs.Told.{Told, all_came, all_taken, came_by, taken_by}
use Rattle.ws_machines.specs.Told.Told.{DirectionEnded, Ended as StreamEnded, WriteFailed}
use Rattle.ws_tester.specs.Standings.{HasServerClose}
use Rattle.ws_tester.specs.Outcomes.{got_in_all, sent_in_all}
use Rattle.ws_tester.specs.Outgoings.{HaveBytes, OutgoingValue}
use Rattle.ws_tester.specs.RunStates.{PlanValue, RunState, turns_of_run, with_closing, with_failure, with_nothing_to_send}
use Rattle.ws_tester.specs.Following.{ScriptValue}
use Rattle.ws_tester.specs.Records.{IsBrokenBy, IsEndedByTester, IsWaitedFor, Was, WasLast}
use Rattle.ws_machines.proofs.ExchangeLemmas.{came_more, taken_more}
use Rattle.ws_tester.proofs.RecordsTold.{was_more, was_before, waited_more}

-- ---- what holds of a run as it goes on

-- The bytes of the turns are those of the script: what was sent, what is still to be sent, and what isn't sent any
-- more, since a close was got or a write has failed.
pub record AreBytesOf (run : ScriptValue) (past : List Turn) (turn : Turn) (outgoing : OutgoingValue)
    (closing failed : Bool) : Type 0 where
  pub dropped : List ℕ
  pub split : map concat run.script ≡ sent_turns past ++ (turn.sent ++ (concat outgoing.rest ++ dropped))
      ∷ map concat outgoing.later
  pub whole : closing ≡ false → failed ≡ false → dropped ≡ []

-- What holds of the parts of a state, once just this was told. It is that of the run, and has begun. Just what was taken
-- was sent, and just what came was got; what came and what may still be read are the budget. The pieces that are still to
-- be sent aren't empty, and its bytes are those of the script. Where a write has failed that was told. Where it is
-- closing a server's close was got, and where its own direction was ended it is closing. And each of the turns before was
-- waited for.
pub record HoldsOf (run : ScriptValue) (told : List Told) (plan : PlanValue) (past : List Turn) (turn : Turn)
    (outgoing : OutgoingValue) (allowance : ℕ) (closing failed begun : Bool) : Type 0 where
  pub plan_is : plan ≡ run.plan
  pub begun_is : begun ≡ true
  pub sent : sent_in_all (past ++ turn ∷ []) ≡ all_taken told
  pub got : got_in_all (past ++ turn ∷ []) ≡ run.first ++ all_came told
  pub budget : run.budget ≡ length (all_came told) + allowance
  pub pieces : HaveBytes (outgoing.rest ∷ outgoing.later)
  pub bytes : AreBytesOf run past turn outgoing closing failed
  pub has_failed : failed ≡ true → Was WriteFailed told
  pub closed : closing ≡ true → HasServerClose run.plan.tested run.plan.expected (got_in_all (past ++ turn ∷ []))
  pub half : Was DirectionEnded told → closing ≡ true
  pub waited : (n : ℕ) → 0 < n → n ≤ length past → IsWaitedFor run (take n past) told

abbrev pub Holds : ScriptValue → List Told → RunState → Type 0
Holds run told x = HoldsOf run told x.plan x.past x.turn x.outgoing x.allowance x.closing x.write_failed x.begun

-- how it has ended, if it has
abbrev pub EndsBy : ScriptValue → List Told → List Turn → Option Ended → Type 0
EndsBy run told turns None = ⊤
EndsBy run told turns (Some Tester) = IsEndedByTester run told turns
EndsBy run told turns (Some Peer) = WasLast StreamEnded told
EndsBy run told turns (Some Broken) = IsBrokenBy run told turns

abbrev pub HoldsSo : ScriptValue → List Told → RunState → Type 0
HoldsSo run told x = Holds run told x × EndsBy run told (turns_of_run x) x.ended

-- ---- an event that moves no byte

pub all_more : (l a b : List ℕ) → b ≡ l ++ a → a ≡ [] → b ≡ l
all_more l a b e none = e ∙ (ap (λ (c : List ℕ). l ++ c) none ∙ append-nil l)

module _ (run : ScriptValue) (told : List Told) (x : Told) (no_came : came_by x ≡ []) (no_taken : taken_by x ≡ []) where
  pub same_came : all_came (told ++ x ∷ []) ≡ all_came told
  same_came = all_more (all_came told) (came_by x) (all_came (told ++ x ∷ [])) (came_more told x) no_came

  pub same_taken : all_taken (told ++ x ∷ []) ≡ all_taken told
  same_taken = all_more (all_taken told) (taken_by x) (all_taken (told ++ x ∷ [])) (taken_more told x) no_taken

  pub holds_more : (s : RunState) → (x ≡ DirectionEnded → s.closing ≡ true) → Holds run told s
      → Holds run (told ++ x ∷ []) s
  holds_more s ends h = record {
    plan_is = h.plan_is;
    begun_is = h.begun_is;
    sent = h.sent ∙ sym same_taken;
    got = h.got ∙ ap (λ (l : List ℕ). run.first ++ l) (sym same_came);
    budget = h.budget ∙ ap (λ (l : List ℕ). length l + s.allowance) (sym same_came);
    pieces = h.pieces;
    bytes = h.bytes;
    has_failed = λ e. was_more WriteFailed told x (h.has_failed e);
    closed = h.closed;
    half = λ w. pick (was_before DirectionEnded told x w);
    waited = λ n some within. waited_more run (take n s.past) told x (h.waited n some within);
  }
    where
      pick : Was DirectionEnded told ⊎ (x ≡ DirectionEnded) → s.closing ≡ true
      pick (inl w) = h.half w
      pick (inr e) = ends e

-- ---- nothing more is to be sent

module _ (run : ScriptValue) (told : List Told) (s : RunState) (h : Holds run told s) where
  pub stopped_bytes : (closing failed : Bool) → (closing ≡ false → failed ≡ false → ⊥)
      → AreBytesOf run s.past s.turn (record { rest = []; later = s.outgoing.later }) closing failed
  stopped_bytes closing failed never = record {
    dropped = concat s.outgoing.rest ++ h.bytes.dropped;
    split = h.bytes.split;
    whole = λ c f. absurd (never c f);
  }

  -- a server's close was got
  pub closing_holds : HasServerClose run.plan.tested run.plan.expected (got_in_all (turns_of_run s))
      → Holds run told (with_closing (with_nothing_to_send s))
  closing_holds closes = record {
    plan_is = h.plan_is;
    begun_is = h.begun_is;
    sent = h.sent;
    got = h.got;
    budget = h.budget;
    pieces = (tt, h.pieces.1);
    bytes = stopped_bytes true s.write_failed (λ c f. absurd cc);
    has_failed = h.has_failed;
    closed = λ e. closes;
    half = λ w. refl;
    waited = h.waited;
  }

  -- a write has failed
  pub failed_holds : Was WriteFailed told → Holds run told (with_failure (with_nothing_to_send s))
  failed_holds was = record {
    plan_is = h.plan_is;
    begun_is = h.begun_is;
    sent = h.sent;
    got = h.got;
    budget = h.budget;
    pieces = (tt, h.pieces.1);
    bytes = stopped_bytes s.closing true (λ c f. absurd cc);
    has_failed = λ e. was;
    closed = h.closed;
    half = h.half;
    waited = h.waited;
  }
