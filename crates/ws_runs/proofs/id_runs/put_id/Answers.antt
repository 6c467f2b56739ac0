-- The case goes on with the last run, or begins another.
use Rattle.std.proofs.Common.{◌≡◌, ◌∙◌, ◌++◌, ◌∷◌, [], map, rules, string_bytes, sym}
use Rattle.ws_runs.proofs.IdRuns.{run_begins, run_goes_on}
use Rattle.ws_runs.proofs.id_runs.put_id.Goals as goal

pub returns-in_ok-push-2 : goal.returns-in_ok-push-2
returns-in_ok-push-2 c =
    let old : c.args.runs.now.items ≡ c.pop.new.self.items ++ c.in-Some.run' ∷ [] =
    search (rules, c.in-Some.ensures.items) in
    run_goes_on (map string_bytes c.args.listed.now) c.args.runs.now.items c.pop.new.self.items
    c.push-then-goes_on.new.self.items c.in-Some.run' c.longer_run.result c.args.id.now old c.in_ok-push-2.ensures.items
    (sym c.goes_on.ensures ∙ c.if-goes_on.true) c.longer_run.ensures

pub returns-in_ok-push-4 : goal.returns-in_ok-push-4
returns-in_ok-push-4 c =
    let old : c.args.runs.now.items ≡ c.pop.new.self.items ++ c.in-Some.run' ∷ [] =
    search (rules, c.in-Some.ensures.items) in
    run_begins (map string_bytes c.args.listed.now) c.args.runs.now.items c.pop.new.self.items
    c.push-else-goes_on.new.self.items c.push-else-goes_on-2.new.self.items c.in-Some.run'
    c.run_of_one-else-goes_on.result c.args.id.now old c.in_ok-push-3.ensures.items c.in_ok-push-4.ensures.items
    (sym c.goes_on.ensures ∙ c.if-goes_on.false) c.run_of_one-else-goes_on.ensures
