-- A run that goes on: what holds of it, one event more, and what is told of one that begins.
use Rattle.std.proofs.Common.{◌≡◌, ◌∙◌, Bool, true, false, List, [], ◌∷◌, ◌++◌, length}
use Rattle.std.proofs.Common.{refl, sym, ap, subst, inl, inr}
use Rattle.std.specs.Prelude.{Option, None, Some, is_some}
use Rattle.ws_scripts.specs.declared.transcript.Ended.{Ended}
use Rattle.ws_scripts.specs.declared.transcript.Ended.TheVariants.{Tester}
use Rattle.ws_scripts.specs.declared.transcript.Turn.{Turn}
use Rattle.ws_machines.specs.Told.{Told}
use Rattle.ws_machines.specs.Machines.{Extends}
use Rattle.ws_tester.specs.Standings.{is_server_close}
use Rattle.ws_tester.specs.Outgoings.{HaveBytes, Pieces}
use Rattle.ws_tester.specs.RunStates.{RunState, wanted_in, with_run_end}
use Rattle.ws_tester.specs.Following.{BeginsBy, BeginsRun, Follows, Happens, ScriptValue, ShowsTurns, TesterValue, WasTold}
use Rattle.ws_tester.specs.Following.{first_state}
use Rattle.ws_tester.proofs.RecordsHolds.{HoldsSo}
use Rattle.ws_tester.proofs.RecordsTests.{OneStanding}
use Rattle.ws_tester.proofs.RecordsSettled.{settled}
use Rattle.ws_tester.proofs.RecordLemmas.{begins_so, follows_so}
use Rattle.ws_shown.specs.TurnsTold.{IsPartOf, IsToldOfRun}
use Rattle.ws_shown.specs.declared.turns_told.TurnsTold.{TurnsTold}

-- ---- what holds of a run that hasn't ended

pub running_holds : OneStanding → (run : ScriptValue) (start now : RunState) (told : List Told) → HaveBytes run.script
    → BeginsRun run start → Follows start now told → now.ended ≡ None → HoldsSo run told now
running_holds one run start now told pieces (standing, stands, begins) follows going = pick run.script refl begins
  where
    ended : start ≡ with_run_end Tester (first_state run (is_server_close run.plan.tested standing))
        → start.ended ≡ Some Tester
    ended same = ap (λ (y : RunState). y.ended) same

    never : (told : List Told) → start.ended ≡ Some Tester → Follows start now told → HoldsSo run told now
    never [] e same = absurd (let wrong : Some Tester ≡ None =
        sym e ∙ (sym (ap (λ (y : RunState). y.ended) same) ∙ going) in cc)
    never (event ∷ told) e (next, happens, rest) =
        absurd (let wrong : Some Tester ≡ None = sym e ∙ happens.goes in cc)

    pick : (script : List Pieces) → run.script ≡ script
        → BeginsBy script (first_state run (is_server_close run.plan.tested standing)) start → HoldsSo run told now
    pick [] e same = never told (ended same) follows
    pick (first ∷ others) e settles = follows_so one run [] start now told (settled one run []
        (first_state run (is_server_close run.plan.tested standing)) start refl (begins_so run first others standing
        stands (subst (λ (l : List Pieces). HaveBytes l) e pieces) e) settles) follows

-- ---- one event

-- what happened to a tester that was told one thing
pub one_event : (x y : TesterValue) (event : Told) → ShowsTurns x → Extends WasTold x y (event ∷ [])
    → Happens x.run event y.run
one_event x y event shows told = pick (told x [] (refl, shows)).0
  where
    pick : (next : RunState) × Happens x.run event next × (y.run ≡ next) → Happens x.run event y.run
    pick (next, happens, same) = subst (λ (s : RunState). Happens x.run event s) (sym same) happens

-- a run that isn't done hasn't ended
pub not_ended : (x : RunState) → (wanted_in x).done ≡ false → x.ended ≡ None
not_ended x undone = pick x.ended refl
  where
    pick : (ended : Option Ended) → x.ended ≡ ended → x.ended ≡ None
    pick None e = e
    pick (Some how) e = absurd (let wrong : true ≡ false =
        sym (ap (λ (o : Option Ended). is_some o) e) ∙ undone in cc)

-- ---- what is told of one that begins

-- nothing was told
pub none_told : (told : TurnsTold) (x : RunState) → told.whole ≡ 0 → told.is_sent ≡ false → IsToldOfRun told x []
none_told told x whole none = pick x.past refl
  where
    no_part : (turn : Turn) → IsPartOf told.is_sent told.got turn []
    no_part turn = subst (λ (b : Bool). IsPartOf b told.got turn []) (sym none) refl

    pick : (past : List Turn) → x.past ≡ past → IsToldOfRun told x []
    pick [] e = inr (record {
      at = record {
        part = [];
        count = ap (λ (l : List Turn). length l) e ∙ sym whole;
        is_part = no_part x.turn;
        turns_are = ap (λ (l : List Turn). l ++ []) (sym e);
      };
      is_sent = λ s. absurd (let wrong : false ≡ true = sym none ∙ s in cc);
    })
    pick (turn ∷ past) e = inl (record {
      before = [];
      now = turn;
      after = past;
      part = [];
      parts = e;
      count = sym whole;
      is_part = no_part turn;
      turns_are = refl;
    })
