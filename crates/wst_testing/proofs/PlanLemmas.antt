-- The end that a word names, and seconds that are no limit of time.
use Rattle.std.proofs.Common.{◌≡◌, ℕ, List, Option, Some, None, inl, inr, refl, subst, sym}
use Rattle.std.specs.Borrow.{Bor}
use Rattle.ws_wire.specs.declared.role.Role.TheVariants as role
use Rattle.ws_targets.specs.Advice.{Advises}
use Rattle.ws_targets.specs.Targets.{TargetValue, IsTargetText}
use Rattle.ws_targets.specs.declared.advice.Advice.{Advice}
use Rattle.wst_commands.specs.TimeLimits.{GivesDeadline, GivesRunTimeout, GivesWait, HasDeadline, HasRunTimeout, HasWait}
use Rattle.wst_commands.specs.declared.time_limit.TimeLimit.{TimeLimit}
use Rattle.wst_commands.specs.declared.time_limit.TimeLimit.TheVariants.{Seconds, Unlimited}
use Rattle.wst_commands.specs.declared.given_cases.NoCases.TheVariants.{NoMemory, NoSuchCase}
use Rattle.wst_testing.specs.RunPlans.{AdvisesClients, CanNotRun, HasAllButEnd, HasRequestWords, IsClientsAddress}
use Rattle.wst_testing.specs.RunPlans.{IsNoMemoryWord}
use Rattle.wst_testing.specs.RunPlans.{IsLimitRefusal, NamesEnd, RefusesTarget}
use Rattle.wst_testing.specs.RunPlans.{memory_word}
use Rattle.wst_words.specs.declared.run_options.RunOptions.{RunOptions}
use Rattle.wst_testing.specs.declared.case_server.MemoryPeer.{MemoryPeer}
use Rattle.wst_testing.specs.declared.case_server.MemoryPeer.TheVariants.{Own, Tung}
use Rattle.wst_testing.specs.declared.run_plans.Refusal.{Refusal}
use Rattle.wst_testing.specs.declared.run_plans.Refusal.TheVariants as refusal
use Rattle.wst_testing.specs.declared.run_plans.TestedEnd.TheVariants.{Clients, Memory, Server}

no_memory_word : (peer : MemoryPeer) (word : List ℕ) → IsNoMemoryWord word → word ≡ memory_word peer → ⊥
no_memory_word Own word none is = none.0 is
no_memory_word Tung word none is = none.1 is

no_server : (word : List ℕ) → IsNoMemoryWord word → ((target : TargetValue) → IsTargetText word target → ⊥)
    → ¬ (NamesEnd role.Server word)
no_server word none lacks (Memory end, asks) = no_memory_word end.peer word none asks.1
no_server word none lacks (Server target, asks) = lacks target asks.2
no_server word none lacks (Clients address, asks) = absurd (cc)

-- a word that is no target names no server
pub target_refused : (word : List ℕ) (given : Advice) → IsNoMemoryWord word
    → ((target : TargetValue) → IsTargetText word target → ⊥) → Advises word given
    → RefusesTarget role.Server word (refusal.BadAddress given)
target_refused word given none lacks is = (no_server word none lacks, is)

no_clients : (word : List ℕ) → IsNoMemoryWord word → ¬ (IsClientsAddress word) → ¬ (NamesEnd role.Client word)
no_clients word none lacks (Memory end, asks) = no_memory_word end.peer word none asks.1
no_clients word none lacks (Server target, asks) = absurd (cc)
no_clients word none lacks (Clients address, asks) = lacks asks.2

-- to a word that is no host, or is a URL, no clients come
pub address_refused : (word : List ℕ) (given : Advice) → IsNoMemoryWord word → ¬ (IsClientsAddress word)
    → AdvisesClients word given → RefusesTarget role.Client word (refusal.BadAddress given)
address_refused word given none lacks is = (no_clients word none lacks, is)

-- ---- seconds

-- what is told of seconds that are no limit of time for a byte
pub timeout_refused : (options : RunOptions) (why : Refusal) → HasRequestWords options
    → ¬ (HasRunTimeout options.timeout)
    → IsLimitRefusal options.timeout refusal.TimeoutWithUnit refusal.BadTimeout why → CanNotRun options why
timeout_refused options why head lacks (inl (unit, is)) = subst (λ r. CanNotRun options r) (sym is) (head, lacks, unit)
timeout_refused options why head lacks (inr (none, is)) = subst (λ r. CanNotRun options r) (sym is) (head, lacks, none)

-- and for a client to come
pub wait_refused : (options : RunOptions) (why : Refusal) → HasRequestWords options → HasRunTimeout options.timeout
    → ¬ (HasWait options.wait) → IsLimitRefusal options.wait refusal.WaitWithUnit refusal.BadWait why
    → CanNotRun options why
wait_refused options why head limit lacks (inl (unit, is)) =
    subst (λ r. CanNotRun options r) (sym is) (head, limit, lacks, unit)
wait_refused options why head limit lacks (inr (none, is)) =
    subst (λ r. CanNotRun options r) (sym is) (head, limit, lacks, none)

-- and for a connection
pub deadline_refused : (options : RunOptions) (why : Refusal) → HasRequestWords options → HasRunTimeout options.timeout
    → HasWait options.wait → ¬ (HasDeadline options.deadline)
    → IsLimitRefusal options.deadline refusal.DeadlineWithUnit refusal.BadDeadline why → CanNotRun options why
deadline_refused options why head limit wait lacks (inl (unit, is)) =
    subst (λ r. CanNotRun options r) (sym is) (head, limit, wait, lacks, unit)
deadline_refused options why head limit wait lacks (inr (none, is)) =
    subst (λ r. CanNotRun options r) (sym is) (head, limit, wait, lacks, none)

-- a word that gives one has one
pub has_timeout : (usual : TimeLimit) (word : Option (Bor (List ℕ))) (limit : TimeLimit)
    → GivesRunTimeout usual word limit → HasRunTimeout word
has_timeout usual None limit given = (Unlimited, refl)
has_timeout usual (Some word) Unlimited given = (Unlimited, given)
has_timeout usual (Some word) (Seconds seconds) given = (Seconds seconds, given)

pub has_wait : (word : Option (Bor (List ℕ))) (limit : TimeLimit) → GivesWait word limit → HasWait word
has_wait None limit given = (Unlimited, refl)
has_wait (Some word) Unlimited given = (Unlimited, given)
has_wait (Some word) (Seconds seconds) given = (Seconds seconds, given)

pub has_deadline : (usual : TimeLimit) (word : Option (Bor (List ℕ))) (limit : TimeLimit)
    → GivesDeadline usual word limit → HasDeadline word
has_deadline usual None limit given = (Unlimited, refl)
has_deadline usual (Some word) limit given = (limit, given)

-- ---- the target

-- what is told of a target that names no end of the role
pub end_refused : (options : RunOptions) (why : Refusal) → HasAllButEnd options
    → RefusesTarget options.role options.target.now why → CanNotRun options why
end_refused options (refusal.BadAddress given) all is = (all, is)
end_refused options refusal.BadConnect all is = absurd is
end_refused options (refusal.NoCases NoMemory) all is = tt
end_refused options (refusal.NoCases (NoSuchCase id)) all is = absurd is
end_refused options refusal.WaitForServer all is = absurd is
end_refused options refusal.BadProtocols all is = absurd is
end_refused options refusal.BadHeader all is = absurd is
end_refused options refusal.BadTimeout all is = absurd is
end_refused options refusal.TimeoutWithUnit all is = absurd is
end_refused options refusal.BadWait all is = absurd is
end_refused options refusal.WaitWithUnit all is = absurd is
end_refused options refusal.BadDeadline all is = absurd is
end_refused options refusal.DeadlineWithUnit all is = absurd is
end_refused options refusal.BadKey all is = absurd is
end_refused options refusal.CaptureInReport all is = absurd is
end_refused options refusal.AtOnceInTurn all is = absurd is
end_refused options refusal.BadAtOnce all is = absurd is
end_refused options refusal.TimeInMemory all is = absurd is
end_refused options refusal.NotOneCase all is = absurd is
end_refused options refusal.BadMaxFail all is = absurd is
