-- What is told of a tested end in a case, and the total.
use Rattle.std.specs.Prelude.{ℕ, ◌+◌, ◌<◌, nat_lt, take, Bool, true, false, if◌then◌else◌, List, [], ◌∷◌, ◌++◌, length}
use Rattle.std.specs.Prelude.{filter, codes, string_bytes, ◌/◌, ◌%◌, ◌&&◌, Option, None, Some}
use Rattle.std.specs.List.{concat, suffix_len}
use Rattle.std.specs.Fmt.{decimal}
use Rattle.ws_suite.specs.Words.{verdict_words}
use Rattle.ws_suite.specs.declared.verdict.Verdict.{Verdict}
use Rattle.ws_suite.specs.declared.verdict.Verdict.TheVariants as verdict
use Rattle.ws_upgrade.specs.Words.{head_fault_name}
use Rattle.ws_upgrade.specs.declared.faults.HeadFault.{HeadFault}
use Rattle.ws_upgrade.specs.declared.faults.HeadFault.TheVariants.{Status}
use Rattle.ws_handshake.specs.declared.probe_end.HeadRefusal.{HeadRefusal}
use Rattle.wst_commands.specs.declared.exit.Exit.{Exit}
use Rattle.wst_commands.specs.declared.exit.Exit.TheVariants.{Damaged, Done}
use Rattle.wst_testing.specs.HeadRules.{head_rule}
use Rattle.wst_testing.specs.declared.outcome.Outcome.{Outcome}
use Rattle.wst_testing.specs.declared.outcome.Outcome.TheVariants.{HeadRefused, Judged, NoConnection, NotRun}
use Rattle.wst_testing.specs.declared.outcome.Tally.{Tally}
use Rattle.wst_testing.specs.declared.outcome.ToldRefusal.{ToldRefusal}

abbrev pub outcome_words : Outcome → List ℕ
outcome_words (Judged told) = verdict_words told.verdict
outcome_words (HeadRefused refusal) = codes "FAIL Head " ++ head_fault_name refusal.fault
outcome_words (NoConnection why) = codes "no connection"
outcome_words NotRun = codes "FAIL NotRun"

abbrev pub is_status : HeadFault → Bool
is_status Status = true
is_status _ = false

-- what is told of a refusal where it is asked why: its status where that is why, and the rule
abbrev pub told_refusal : Bool → HeadRefusal → ToldRefusal
told_refusal explains refusal = record {
  fault = refusal.fault;
  status = if explains && is_status refusal.fault then refusal.status else None;
  has_rule = explains;
}

-- the three digits of a status
abbrev pub status_digits : ℕ → List ℕ
status_digits status = decimal (status / 100) ++ decimal (status / 10 % 10) ++ decimal (status % 10)

-- the line that tells a status, where one is to be told
abbrev pub status_line : Option ℕ → List ℕ
status_line None = []
status_line (Some status) = codes "  status " ++ status_digits status ++ codes "\n"

-- the line that tells the rule of a refusal, where that is to be told
abbrev pub head_rule_line : ToldRefusal → List ℕ
head_rule_line refusal =
    if refusal.has_rule then concat (codes "  rule " ∷ head_rule refusal.fault ∷ codes "\n" ∷ []) else []

-- what stands below its line
abbrev pub below_line : Outcome → List ℕ
below_line (Judged told) = string_bytes told.below
below_line (HeadRefused refusal) = status_line refusal.status ++ head_rule_line refusal
below_line (NoConnection why) = []
below_line NotRun = []

-- an outcome that stands alone: its words, and what stands below them
abbrev pub lines_alone : Outcome → List ℕ
lines_alone outcome = concat (outcome_words outcome ∷ codes "\n" ∷ below_line outcome ∷ [])

-- a refusal that stands alone: its words, and below them its status, where that is why, and the rule
abbrev pub refused_lines : HeadRefusal → List ℕ
refused_lines refusal = lines_alone (HeadRefused (told_refusal true refusal))

abbrev pub passes : Verdict → Bool
passes verdict.Pass = true
passes (verdict.Loose why) = false
passes (verdict.Fail why) = false

abbrev pub is_pass : Outcome → Bool
is_pass (Judged told) = passes told.verdict
is_pass (HeadRefused refusal) = false
is_pass (NoConnection why) = false
is_pass NotRun = false

abbrev pub loosens : Verdict → Bool
loosens verdict.Pass = false
loosens (verdict.Loose why) = true
loosens (verdict.Fail why) = false

abbrev pub is_loose : Outcome → Bool
is_loose (Judged told) = loosens told.verdict
is_loose (HeadRefused refusal) = false
is_loose (NoConnection why) = false
is_loose NotRun = false

abbrev pub fails : Verdict → Bool
fails verdict.Pass = false
fails (verdict.Loose why) = false
fails (verdict.Fail why) = true

-- a head that is to be refused counts as a Fail, and so does a server to which there is no connection, and a client
-- that never asked for the case
abbrev pub is_fail : Outcome → Bool
is_fail (Judged told) = fails told.verdict
is_fail (HeadRefused refusal) = true
is_fail (NoConnection why) = true
is_fail NotRun = true

abbrev pub is_missed : Outcome → Bool
is_missed (Judged told) = false
is_missed (HeadRefused refusal) = false
is_missed (NoConnection why) = true
is_missed NotRun = false

-- how many of the last ones, in a row, are without a connection
abbrev pub missed_at_end : List Outcome → ℕ
missed_at_end outcomes = suffix_len is_missed outcomes

-- so many of them in a row end a run: three where servers are waited for in time, else one
abbrev pub max_missed : Bool → ℕ
max_missed is_limited = if is_limited then 3 else 1

-- before each of them there are fewer in a row without a connection
abbrev pub MayRunEach : ℕ → List Outcome → Type 0
MayRunEach most outcomes = (k : ℕ) → k < length outcomes → missed_at_end (take k outcomes) < most

-- how many of these there are of each kind
abbrev pub tally_of : List Outcome → Tally
tally_of outcomes = record {
  pass = length (filter is_pass outcomes);
  loose = length (filter is_loose outcomes);
  fail = length (filter is_fail outcomes);
}

-- how many there are of all kinds
abbrev pub count_in : Tally → ℕ
count_in tally = tally.pass + tally.loose + tally.fail

-- the line of the total
abbrev pub total_line : Tally → List ℕ
total_line tally = concat (decimal tally.pass ∷ codes " pass, " ∷ decimal tally.loose ∷ codes " loose, "
    ∷ decimal tally.fail ∷ codes " fail\n" ∷ [])

-- a rule that was broken has a status of its own
abbrev pub exit_of_tests : Tally → Exit
exit_of_tests tally = if nat_lt 0 tally.fail then Damaged else Done

-- ---- a step of a count: a reader may skip what follows

abbrev pub no_tally : Tally
no_tally = record { pass = 0; loose = 0; fail = 0 }

abbrev pub tally_with_verdict : Tally → Verdict → Tally
tally_with_verdict tally verdict.Pass = record tally { pass = tally.pass + 1 }
tally_with_verdict tally (verdict.Loose why) = record tally { loose = tally.loose + 1 }
tally_with_verdict tally (verdict.Fail why) = record tally { fail = tally.fail + 1 }

abbrev pub tally_with : Tally → Outcome → Tally
tally_with tally (Judged told) = tally_with_verdict tally told.verdict
tally_with tally (HeadRefused refusal) = record tally { fail = tally.fail + 1 }
tally_with tally (NoConnection why) = record tally { fail = tally.fail + 1 }
tally_with tally NotRun = record tally { fail = tally.fail + 1 }
