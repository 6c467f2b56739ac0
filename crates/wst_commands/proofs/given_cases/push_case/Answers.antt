-- The case that is found by its name has this name, can be run, and stands at the end; where none is, no case has it.
use Rattle.std.proofs.Common.{rules, ◌≡◌, [], ◌∷◌, ◌++◌, string_bytes}
use Rattle.std.specs.List.{Contains}
use Rattle.ws_scripts.specs.CaseNames.{case_names}
use Rattle.ws_scripts.specs.Scripts.{CanBeRun}
use Rattle.wst_commands.proofs.given_cases.push_case.Goals as goal

pub returns-in_ok-push-in-Some : goal.returns-in_ok-push-in-Some
returns-in_ok-push-in-Some c =
    let found = c.in-Some.found in
    let named : Contains case_names c.args.name.now × CanBeRun found × (string_bytes found.id ≡ c.args.name.now) =
    search rules in
    let grown : c.push.new.self.items ≡ c.args.cases.now.items ++ found ∷ [] = search rules in
    (named.0, (found, named.1, named.2, grown))
