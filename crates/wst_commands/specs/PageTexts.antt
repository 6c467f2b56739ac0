-- The page of `report`: what it has beside the runs are the titles and scripts of the cases, the names of their groups,
-- and the rules of verdicts.
use Rattle.std.specs.Prelude.{◌≡◌, ℕ, List, [], ◌∷◌, ◌++◌, codes, map, unwrap_or, string_bytes, if◌then◌else◌}
use Rattle.std.specs.Str.{bytes_eq}
use Rattle.ws_wire.specs.declared.role.Role.{Role}
use Rattle.ws_wire.specs.declared.role.Role.TheVariants.{Client, Server}
use Rattle.ws_scripts.specs.CaseNames.{case_names, listed_names}
use Rattle.ws_scripts.specs.ScriptTexts.{written_script}
use Rattle.ws_scripts.specs.Scripts.{CanBeRun}
use Rattle.ws_scripts.specs.declared.expectation.Expectation.{Expectation}
use Rattle.ws_scripts.specs.declared.expectation.Expectation.TheVariants.{Echo, Protocol}
use Rattle.ws_scripts.specs.declared.script.Case.{Case}
use Rattle.ws_suite.specs.Words.{fail_name, loose_name, rule_words}
use Rattle.ws_suite.specs.declared.verdict.Verdict.{Verdict}
use Rattle.ws_suite.specs.declared.verdict.Verdict.TheVariants as verdict
use Rattle.ws_suite.specs.declared.verdict.FailWhy.TheVariants as fail
use Rattle.ws_suite.specs.declared.verdict.LooseWhy.TheVariants as loose
use Rattle.ws_titles.specs.GroupTitles.{group_titles}
use Rattle.ws_titles.specs.Titles.{title_of}
use Rattle.ws_runs.specs.Runs.{RunsValue}
use Rattle.ws_pages.specs.Page.{IsPageOf}
use Rattle.ws_pages.specs.declared.named_text.NamedText.{NamedText}
use Rattle.wst_commands.specs.GivenCases.{AreCasesOf}

-- ---- titles, scripts and groups

-- a text with its name
abbrev pub named_text : List ℕ → List ℕ → NamedText
named_text name text = record { name = name; text = text }

-- the titles of all cases
abbrev pub title_texts : List NamedText
title_texts = map (λ name. named_text name (title_of name)) case_names

-- the names of the groups
abbrev pub group_texts : List NamedText
group_texts = map (λ (group : List ℕ × List ℕ). named_text group.0 group.1) group_titles

-- the script of a case as text, with its name
abbrev pub named_script : Case → NamedText
named_script case = record { name = string_bytes case.id; text = written_script case }

-- this is the script of a case of this name
abbrev pub IsScriptOf : List ℕ → NamedText → Type 0
IsScriptOf name script =
    (case : Case) × CanBeRun case × (string_bytes case.id ≡ name) × (script ≡ named_script case)

-- the scripts of cases of these names, in their order
abbrev pub AreScripts : List (List ℕ) → List NamedText → Type 0
AreScripts names scripts = (cases : List Case) × AreCasesOf names cases × (scripts ≡ map named_script cases)

-- ---- rules

-- the name of the rule of a verdict
abbrev pub why_name : Verdict → List ℕ
why_name verdict.Pass = []
why_name (verdict.Loose why) = loose_name why
why_name (verdict.Fail why) = fail_name why

-- the rule of a verdict on an end of this role, of which this is expected; empty if it has none
abbrev pub rule_of : Role → Expectation → Verdict → List ℕ
rule_of tested expected verdict = unwrap_or (rule_words tested expected verdict) []

-- the rule of a server, and in a second line that of a client, if it is different
abbrev pub both_rules : List ℕ → List ℕ → List ℕ
both_rules server client = if bytes_eq server client then server else server ++ 10 ∷ client

-- the rule of a verdict on an end of which this is expected, be it a server or a client
abbrev pub rules_by : Expectation → Verdict → List ℕ
rules_by expected verdict = both_rules (rule_of Server expected verdict) (rule_of Client expected verdict)

-- the rule of an end that is to echo, and in a further line that by the protocol alone, if it is different
abbrev pub with_protocol : List ℕ → List ℕ → List ℕ
with_protocol echo protocol =
    if bytes_eq echo protocol then echo else echo ++ (codes "\nWith --expect protocol: " ++ protocol)

-- the rule of a verdict, with its name
abbrev pub rule_text : Verdict → NamedText
rule_text verdict = record {
  name = why_name verdict;
  text = with_protocol (rules_by Echo verdict) (rules_by Protocol verdict);
}

-- the verdicts that have a rule
abbrev pub ruled_verdicts : List Verdict
ruled_verdicts = verdict.Fail fail.NotFrames ∷ verdict.Fail fail.Early ∷ verdict.Fail fail.Messages
    ∷ verdict.Fail fail.Pongs ∷ verdict.Fail fail.Close ∷ verdict.Fail fail.End ∷ verdict.Loose loose.PongsSkipped
    ∷ verdict.Loose loose.PongElsewhere ∷ verdict.Loose loose.OtherCode ∷ verdict.Loose loose.LateEnd
    ∷ verdict.Loose loose.EchoShort ∷ verdict.Loose loose.BrokenEnd ∷ verdict.Loose loose.OwnFault
    ∷ verdict.Loose loose.OwnClose ∷ verdict.Loose loose.OwnEnd ∷ verdict.Loose loose.LateFault
    ∷ verdict.Loose loose.Tolerated ∷ verdict.Loose loose.NoClose ∷ verdict.Loose loose.BehindClose
    ∷ verdict.Loose loose.TooBig ∷ []

-- the rules of verdicts
abbrev pub rule_texts : List NamedText
rule_texts = map rule_text ruled_verdicts

-- ---- the page

-- the page of these runs, with this text for its head, the titles and scripts of all cases, the names of the groups and
-- the rules of verdicts
abbrev pub IsPageWithTexts : List ℕ → RunsValue → List ℕ → Type 0
IsPageWithTexts date runs page = (scripts : List NamedText) × AreScripts case_names scripts
    × IsPageOf date listed_names runs (record {
      titles = title_texts;
      scripts = scripts;
      groups = group_texts;
      rules = rule_texts;
    }) page
