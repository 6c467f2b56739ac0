-- One run more is written.
use Rattle.std.proofs.Common.{List, ℕ, [], ap, codes, false, get_or, map, refl, rules}
use Rattle.std.proofs.lemmas.List.{drop_all, get_or_default}
use Rattle.ws_runs.specs.Summary.{run_text, runs_text}
use Rattle.ws_runs.specs.Views.{run_value}
use Rattle.ws_runs.specs.declared.id_runs.IdRun.{IdRun}
use Rattle.ws_runs.proofs.Marked.{marked_step, text_end}
use Rattle.ws_runs.proofs.id_runs.RunsTextDisplay.fmt.Goals as goal

pub loop-run-preserved : goal.loop-run-preserved
loop-run-preserved g c = (
  search rules,
  λ plain.
      let so_far = c.loop-run.invariant.1 plain in
      let runs = c.args.self.now.0.now in
      let none : IdRun = record {
        first = record { ref_ptr = (0, 0); now = [] };
        last = record { ref_ptr = (0, 0); now = [] };
        between = false;
      } in
      let run = get_or runs c.loop-run.run-index none in
      marked_step g.W.Write.write_str_gives c.args.f.now c.loop-run.f c.write.new.self
      (λ (run : IdRun). run_text (run_value run))
      (λ (runs : List IdRun) (mark : List ℕ). runs_text mark (map run_value runs)) (codes ", ")
      (λ run runs mark. refl) runs c.loop-run.run-index run c.loop-run.mark.now _ (search rules)
      (get_or_default runs c.loop-run.run-index none run (search rules)) so_far
      (c.in_ok-write.ensures.writes so_far.2.plain refl),
)

pub returns-clause-writes : goal.returns-clause-writes
returns-clause-writes g c = λ plain ok.
    text_end g.W.Write.write_str_gives c.args.f.now c.loop-run.f _ _ (c.loop-run.invariant.1 plain)
    (ap (λ (l : List IdRun). runs_text c.loop-run.mark.now (map run_value l))
    (drop_all c.loop-run.run-index c.args.self.now.0.now (search rules)))
