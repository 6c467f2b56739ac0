-- The behaviors are those of the words.
use Rattle.std.proofs.Common.{◌≡◌, ◌∙◌, ◌++◌, List, ℕ, ap, codes, rules, subst}
use Rattle.std.specs.Fmt.{HasWritten}
use Rattle.ws_runs.specs.Shown.{in_string}
use Rattle.ws_runs.specs.Json.{behavior, close_behavior}
use Rattle.ws_runs.specs.Marks.{mark_of_words, why_of}
use Rattle.ws_runs.proofs.index.CaseMemberDisplay.fmt.Goals as goal

pub returns-clause-writes : goal.returns-clause-writes
returns-clause-writes g c = λ plain ok.
    let case = c.args.self.now.0 in
    let text = λ (b : List ℕ) (k : List ℕ). codes "\"" ++ (in_string case.id.now ++ (codes "\":{\"behavior\":\"" ++ (b
    ++ (codes "\",\"behaviorClose\":\"" ++ (k ++ codes "\"}"))))) in
    let opened : c.behavior-behavior.result.now ≡ behavior (mark_of_words case.words.now) =
    c.behavior-behavior.ensures ∙ ap behavior c.mark_of_words.ensures in
    let closed : c.close_behavior-close.result.now ≡ close_behavior (why_of case.words.now) =
    c.close_behavior-close.ensures ∙ ap close_behavior c.why_of.ensures in
    let written : HasWritten g.W.Write.write_str_gives c.args.f.now
    (text c.behavior-behavior.result.now c.close_behavior-close.result.now) c.write.new.self = search rules in
    subst (λ (k : List ℕ). HasWritten g.W.Write.write_str_gives c.args.f.now
    (text (behavior (mark_of_words case.words.now)) k) c.write.new.self) closed
    (subst (λ (b : List ℕ). HasWritten g.W.Write.write_str_gives c.args.f.now
    (text b c.close_behavior-close.result.now) c.write.new.self) opened written)
