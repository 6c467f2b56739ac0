-- The verdict on an echo's transcript is Pass, and there is one.
use Rattle.std.proofs.Common.{◌≡◌, true, ap, subst}
use Rattle.ws_scripts.specs.declared.expectation.Expectation.{Expectation}
use Rattle.ws_scripts.specs.declared.expectation.Expectation.TheVariants.{Echo}
use Rattle.ws_scripts.specs.declared.script.Case.{Case}
use Rattle.ws_scripts.specs.declared.transcript.Transcript.{Transcript}
use Rattle.ws_suite.specs.Protocol.{IsVerdictBy}
use Rattle.ws_suite.specs.Verdicts.{IsVerdictOf}
use Rattle.ws_suite.specs.declared.verdict.Verdict.{Verdict}
use Rattle.ws_suite.specs.declared.verdict.Verdict.TheVariants as verdict
use Rattle.ws_wire.specs.declared.role.Role.{Role}
use Rattle.wst_testing.specs.declared.testing.RunRules.{RunRules}
use Rattle.wst_testing.specs.Outcomes.{is_pass, passes}
use Rattle.wst_testing.specs.Servers.{MeetsInMemory}
use Rattle.wst_testing.specs.Testing.{IsOutcomeOf}
use Rattle.wst_testing.specs.declared.case_server.MemoryPeer.TheVariants.{Own}
use Rattle.wst_sockets.specs.declared.meeting.Meeting.{Meeting}
use Rattle.wst_sockets.specs.declared.meeting.Meeting.TheVariants as meeting
use Rattle.wst_testing.specs.declared.outcome.Outcome.{Outcome}
use Rattle.wst_testing.specs.declared.outcome.Outcome.TheVariants as outcome
use Rattle.wst_testing.proofs.laws.our_echo_passes_every_script.Goals as goal

abbrev OneVerdict : Type 0
OneVerdict = (tested : Role) (transcript : Transcript) (one other : Verdict) → IsVerdictOf tested transcript one
    → IsVerdictOf tested transcript other → one ≡ other

met_passes : OneVerdict → (rules : RunRules) (case : Case) (met : Meeting) (told : Outcome) → rules.expected ≡ Echo
    → MeetsInMemory (record { peer = Own; role = rules.tested }) rules.key case met → IsOutcomeOf rules met told
    → is_pass told ≡ true
met_passes law rules case (meeting.Ran transcript) (outcome.Judged told) echo is so =
    ap passes (law rules.tested transcript told.verdict verdict.Pass
    (subst (λ (x : Expectation). IsVerdictBy x rules.tested transcript told.verdict) echo so.verdict) is.1)
met_passes law rules case (meeting.Ran transcript) (outcome.HeadRefused fault) echo is so = absurd so
met_passes law rules case (meeting.Ran transcript) (outcome.NoConnection why) echo is so = absurd so
met_passes law rules case (meeting.Ran transcript) outcome.NotRun echo is so = absurd so
met_passes law rules case (meeting.Refused fault) told echo is so = absurd is
met_passes law rules case (meeting.NoConnection why) told echo is so = absurd is

pub returns : goal.returns
returns c = λ rules script echo (short, tested).
    met_passes c.one_verdict.ensures rules.run script.case tested.meeting script.outcome echo tested.met
    tested.told
