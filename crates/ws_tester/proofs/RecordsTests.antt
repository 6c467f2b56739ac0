-- What the table of outcomes says of a run of which it holds.
use Rattle.std.proofs.Common.{◌≡◌, ◌∙◌, ap, ℕ, ◌⊎◌, ◌&&◌, ◌||◌, not, Bool, true, false, nat_eq, List, refl, sym, inl, inr, subst, arith}
use Rattle.std.proofs.lemmas.Bool.Decides.{nat_tests}
use Rattle.ws_wire.specs.declared.role.Role.{Role}
use Rattle.ws_scripts.specs.declared.transcript.Ended.TheVariants.{Tester, Peer, Broken}
use Rattle.ws_scripts.specs.declared.transcript.Turn.{Turn}
use Rattle.ws_suite.specs.Evidence.{other_role}
use Rattle.ws_machines.specs.Told.{Told}
use Rattle.ws_scripts.specs.declared.expectation.Expectation.{Expectation}
use Rattle.ws_tester.specs.Standings.{HasServerClose, HasStanding, StandsAs, is_server_close}
use Rattle.ws_tester.specs.Outcomes.{AreFacts, HasSentEnd, got_in_all, by_tests, has_come, has_end, is_waited_out}
use Rattle.ws_tester.specs.Outcomes.{sent_in_all}
use Rattle.ws_tester.specs.RunStates.{PlanValue, RunState, has_more, turns_of_run}
use Rattle.ws_tester.specs.Following.{ScriptValue}
use Rattle.ws_tester.specs.declared.outcome.Outcome.TheVariants.{Ends}
use Rattle.ws_tester.specs.declared.outcome.TurnFacts.{TurnFacts}
use Rattle.ws_tester.specs.declared.standing.Standing.{Standing}
use Rattle.ws_tester.specs.declared.standing.Standing.TheVariants.{Going, Closed, Faulty}
use Rattle.ws_tester.proofs.RecordsHolds.{Holds}
use Rattle.ws_tester.proofs.StandingLemmas.{one_stands}

-- bytes stand in one way
abbrev pub OneStanding : Type 0
OneStanding = (reader : Role) (s t : Standing) (bytes : List ℕ) → HasStanding reader s bytes
    → HasStanding reader t bytes → s ≡ t

-- so does what was got stand to a run
pub stands_once : OneStanding → (tested : Role) (expected : Expectation) (s t : Standing) (got : List ℕ)
    → StandsAs tested expected s got → StandsAs tested expected t got → s ≡ t
stands_once one tested expected s t got a b =
    one_stands tested expected got (λ x y g h. one (other_role tested) x y got g h) s t a b

-- where what was got stands so, a server's close is its last event or isn't
pub one_close : OneStanding → (tested : Role) (expected : Expectation) (standing : Standing) (got : List ℕ)
    → StandsAs tested expected standing got → HasServerClose tested expected got
    → is_server_close tested standing ≡ true
one_close one tested expected standing got at (t, is, stands) =
    ap (λ (s : Standing). is_server_close tested s) (stands_once one tested expected standing t got at stands) ∙ is

pub both_true : (a b : Bool) → (a && b) ≡ true → (a ≡ true) × (b ≡ true)
both_true true true e = (refl, refl)
both_true true false e = absurd cc
both_true false b e = absurd cc

pub is_false : (b : Bool) → (b ≡ true → ⊥) → b ≡ false
is_false true never = absurd (never refl)
is_false false never = refl

pub not_true : (b : Bool) → not b ≡ true → b ≡ false
not_true true e = absurd cc
not_true false e = refl

-- a server's close is an end
pub close_ends : (tested : Role) (standing : Standing) → is_server_close tested standing ≡ true → has_end standing ≡ true
close_ends tested Going e = absurd cc
close_ends tested Closed e = refl
close_ends tested Faulty e = refl

-- where a server's close was got, what was got has an end
pub closing_ends : OneStanding → (run : ScriptValue) (told : List Told) (x : RunState) (facts : TurnFacts)
    → Holds run told x → AreFacts x.plan x.past (turns_of_run x) facts → x.closing ≡ true → has_end facts.standing ≡ true
closing_ends one run told x facts h are c =
    let stands : StandsAs run.plan.tested run.plan.expected facts.standing (got_in_all (turns_of_run x)) =
    subst (λ (plan : PlanValue). StandsAs plan.tested plan.expected facts.standing (got_in_all (turns_of_run x)))
    h.plan_is are.standing in
    close_ends run.plan.tested facts.standing
    (one_close one run.plan.tested run.plan.expected facts.standing (got_in_all (turns_of_run x)) stands (h.closed c))

-- what has to be so where what is waited for has come
come_parts : (ends failed out answered whole : Bool)
    → (not ends && (not failed && (not out && (answered && whole)))) ≡ true
    → (ends ≡ false) × (failed ≡ false) × (answered ≡ true)
come_parts true failed out answered whole e = absurd cc
come_parts false true out answered whole e = absurd cc
come_parts false false true answered whole e = absurd cc
come_parts false false false false whole e = absurd cc
come_parts false false false true whole e = (refl, refl, refl)

-- and that the turn isn't waited out
pub come_unwaited : (ends failed out answered whole : Bool)
    → (not ends && (not failed && (not out && (answered && whole)))) ≡ true → out ≡ false
come_unwaited true failed out answered whole e = absurd cc
come_unwaited false true out answered whole e = absurd cc
come_unwaited false false true answered whole e = absurd cc
come_unwaited false false false answered whole e = refl

-- what was sent has a close or a fault, or it hasn't
pub one_end : OneStanding → (tested : Role) (turns : List Turn) (a b : Bool) → HasSentEnd tested turns a
    → HasSentEnd tested turns b → a ≡ b
one_end one tested turns a b (s, has, is) (t, had, was) = is ∙ (ap (λ (y : Standing). has_end y)
    (one tested s t (sent_in_all turns) has had) ∙ sym was)

-- what was got has no close where what is waited for has come
pub open_where_come : OneStanding → (run : ScriptValue) (told : List Told) (x : RunState) (facts : TurnFacts)
    → Holds run told x → AreFacts x.plan x.past (turns_of_run x) facts → has_come x facts ≡ true
    → (x.closing ≡ false) × (x.write_failed ≡ false) × (facts.is_answered ≡ true)
open_where_come one run told x facts h are come =
    let parts : (has_end facts.standing ≡ false) × (x.write_failed ≡ false) × (facts.is_answered ≡ true) =
    come_parts (has_end facts.standing) x.write_failed (is_waited_out x.plan (has_more x) facts) facts.is_answered
    (has_more x || not facts.is_inside) come in
    let never : x.closing ≡ true → ⊥ = λ c.
    (let ends : has_end facts.standing ≡ true = closing_ends one run told x facts h are c in
    let none : has_end facts.standing ≡ false = parts.0 in cc) in
    (is_false x.closing never, parts.1, parts.2)

-- the tests of an end that is the tester's
pub tester_by : (final sent over spent more : Bool) → by_tests final sent over spent more ≡ Ends Tester
    → (final ≡ true) ⊎ ((sent ≡ true) × (over ≡ true) × (more ≡ false))
tester_by true sent over spent more e = inl refl
tester_by false false over spent more e = absurd cc
tester_by false true true spent true e = absurd cc
tester_by false true true spent false e = inr (refl, refl, refl)
tester_by false true false true more e = absurd cc
tester_by false true false false more e = absurd cc

-- the tests of an end that isn't the tester's
pub broken_by : (final sent come spent more : Bool) → by_tests final sent come spent more ≡ Ends Broken → spent ≡ true
broken_by true sent come spent more e = absurd cc
broken_by false false come spent more e = absurd cc
broken_by false true true spent true e = absurd cc
broken_by false true true spent false e = absurd cc
broken_by false true false true more e = refl
broken_by false true false false more e = absurd cc

-- and then what was got doesn't end the run by itself, all of the turn is sent, and it isn't over
pub broken_waits : (final sent over spent more : Bool) → by_tests final sent over spent more ≡ Ends Broken
    → (final ≡ false) × (sent ≡ true) × (over ≡ false)
broken_waits true sent over spent more e = absurd cc
broken_waits false false over spent more e = absurd cc
broken_waits false true true spent true e = absurd cc
broken_waits false true true spent false e = absurd cc
broken_waits false true false spent more e = (refl, refl, refl)

pub no_peer : (final sent come spent more : Bool) → by_tests final sent come spent more ≡ Ends Peer → ⊥
no_peer true sent come spent more e = cc
no_peer false false come spent more e = cc
no_peer false true true spent true e = cc
no_peer false true true spent false e = cc
no_peer false true false true more e = cc
no_peer false true false false more e = cc

pub nothing_left : (n : ℕ) (own : Bool) → (nat_eq n 0 && not own) ≡ true → n ≡ 0
nothing_left n true e = absurd (no_true (nat_eq n 0) e)
  where
    no_true : (none : Bool) → (none && false) ≡ true → ⊥
    no_true true e = cc
    no_true false e = cc
nothing_left n false e = none n (only (nat_eq n 0) e)
  where
    only : (none : Bool) → (none && true) ≡ true → none ≡ true
    only true e = refl
    only false e = absurd cc

    none : (n : ℕ) → nat_eq n 0 ≡ true → n ≡ 0
    none n e = grind (arith, nat_tests)
