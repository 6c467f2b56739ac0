-- Verdicts on an end that was tapped, by what it was sent and what came from it. They are those by the protocol, but
-- that some names aren't told: which of two ends closes first is no business of either, so that an own close is none;
-- that an end ended the connection is told of the first to do so; and a ping that it left may have come when it had
-- closed, so that this is no Fail: that pongs are skipped is told in its place.
use Rattle.std.specs.Prelude.{◌≡◌, Bool, true, false}
use Rattle.ws_wire.specs.declared.role.Role.{Role}
use Rattle.ws_session.specs.Faults.{IsLowest}
use Rattle.ws_scripts.specs.declared.transcript.Transcript.{Transcript}
use Rattle.ws_suite.specs.declared.verdict.Verdict.{Verdict}
use Rattle.ws_suite.specs.declared.verdict.Verdict.TheVariants.{Pass, Loose, Fail}
use Rattle.ws_suite.specs.declared.verdict.FailWhy.{FailWhy}
use Rattle.ws_suite.specs.declared.verdict.FailWhy.TheVariants as fail
use Rattle.ws_suite.specs.declared.verdict.LooseWhy.{LooseWhy}
use Rattle.ws_suite.specs.declared.verdict.LooseWhy.TheVariants as loose
use Rattle.ws_suite.specs.declared.evidence.Evidence.{Evidence}
use Rattle.ws_suite.specs.declared.evidence.marks.Marks.{Marks}
use Rattle.ws_suite.specs.Protocol.{FailsProtocol, IsLooseByProtocol, IsMarkedEvidenceOf}
use Rattle.ws_suite.specs.Verdicts.{fail_number, loose_number}

-- this Fail is told of an end that was tapped
abbrev pub is_tapped_fail : FailWhy → Bool
is_tapped_fail fail.Pongs = false
is_tapped_fail _ = true

-- this Loose is, where the end was the first of the two to end its direction or wasn't
abbrev pub is_tapped_loose : Bool → LooseWhy → Bool
is_tapped_loose is_first loose.OwnFault = false
is_tapped_loose is_first loose.OwnClose = false
is_tapped_loose is_first loose.OwnEnd = is_first
is_tapped_loose is_first _ = true

-- this Fail applies
abbrev pub FailsTapped : Role → Evidence → Marks → FailWhy → Type 0
FailsTapped tested x marks why = FailsProtocol tested x marks why × (is_tapped_fail why ≡ true)

-- this Loose applies
abbrev pub IsLooseTapped : Role → Bool → Evidence → Marks → LooseWhy → Type 0
IsLooseTapped tested is_first x marks why =
    IsLooseByProtocol tested x marks why × (is_tapped_loose is_first why ≡ true)

-- the lowest Fail that applies; else the lowest Loose; else Pass
abbrev pub IsTappedVerdictOn : Role → Bool → Evidence → Marks → Verdict → Type 0
IsTappedVerdictOn tested is_first x marks (Fail why) = IsLowest FailWhy fail_number (FailsTapped tested x marks) why
IsTappedVerdictOn tested is_first x marks (Loose why) = ((other : FailWhy) → ¬ (FailsTapped tested x marks other))
    × IsLowest LooseWhy loose_number (IsLooseTapped tested is_first x marks) why
IsTappedVerdictOn tested is_first x marks Pass = ((other : FailWhy) → ¬ (FailsTapped tested x marks other))
    × ((other : LooseWhy) → ¬ (IsLooseTapped tested is_first x marks other))

-- the verdict on a transcript of an end that was tapped, where that end has this role, and was the first to end its
-- direction or wasn't
pub record IsTappedVerdictOf (tested : Role) (is_first : Bool) (transcript : Transcript) (verdict : Verdict)
    : Type 0 where
  pub counted : Evidence
  pub marks : Marks
  pub is_evidence : IsMarkedEvidenceOf tested transcript counted marks
  pub is_verdict : IsTappedVerdictOn tested is_first counted marks verdict
