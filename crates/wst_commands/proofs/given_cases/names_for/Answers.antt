-- Where a word is a glob the names are those of all cases; else none are needed.
use Rattle.std.proofs.Common.{rules, ◌≡◌, ◌∙◌, ap, Bool, MatchBool, List, [], map, string_bytes, subst, sym}
use Rattle.std.specs.Bool.{⊤}
use Rattle.std.specs.declared.alloc.Global.{Global}
use Rattle.std.specs.declared.string.String.{String}
use Rattle.wst_commands.specs.GivenCases.{AreNamesFor, HaveNoGlob}
use Rattle.wst_commands.proofs.CaseLemmas.{all_given, none_needed}
use Rattle.wst_commands.proofs.given_cases.names_for.Goals as goal

pub returns-in_ok-names : goal.returns-in_ok-names
returns-in_ok-names c =
    all_given c.args.words.now (map string_bytes c.into_vec.result.items)
    (ap (λ (l : List (String Global)). map string_bytes l) c.into_vec.ensures ∙ c.in_ok-names.ensures)

pub returns-else-has_glob : goal.returns-else-has_glob
returns-else-has_glob c =
    let none : c.new.result.items ≡ [] = search rules in
    subst (λ (l : List (String Global)). AreNamesFor c.args.words.now (map string_bytes l)) (sym none)
    (none_needed c.args.words.now
    (subst (λ (b : Bool). MatchBool b ⊤ (HaveNoGlob c.args.words.now)) c.if-has_glob.false c.has_glob.ensures))
