-- The line of one script more was written, or why the run ends with it.
use Rattle.std.proofs.Common.{◌≡◌, ◌∙◌, ◌||◌, ℕ, Bool, List, Option, ap, false, subst, sym, true}
use Rattle.std.specs.Io.KnownBytes.{Appends}
use Rattle.ws_frame.specs.Watching.{AppendsFront, has_failed, inner_of}
use Rattle.wst_testing.specs.Sweeps.{script_line, swept}
use Rattle.wst_testing.specs.Testing.{IsOutcomeOf}
use Rattle.wst_testing.specs.declared.sweeping.SweepRules.{SweepRules}
use Rattle.wst_testing.specs.declared.testing.RunRules.{RunRules}
use Rattle.wst_testing.specs.Failures.{is_enough}
use Rattle.wst_testing.proofs.SweepLemmas.{enough_told, line_breaks, script_misses, script_room, told_one_more}
use Rattle.wst_testing.proofs.sweeping.SweeperSink.came.Goals as goal

pub with-self-requires-clause-pass : goal.with-self-requires-clause-pass
with-self-requires-clause-pass g c =
    let (start, came, fits, (kept, so)) = c.requires in (script_room start.rules came _ _ _ so fits).0

pub with-self-requires-clause-loose : goal.with-self-requires-clause-loose
with-self-requires-clause-loose g c =
    let (start, came, fits, (kept, so)) = c.requires in (script_room start.rules came _ _ _ so fits).1

pub with-self-requires-clause-fail : goal.with-self-requires-clause-fail
with-self-requires-clause-fail g c =
    let (start, came, fits, (kept, so)) = c.requires in (script_room start.rules came _ _ _ so fits).2

pub one_more-self-requires : goal.one_more-self-requires
one_more-self-requires g c =
    let (start, came, fits, (kept, so)) = c.requires in (script_room start.rules came _ _ _ so fits).3

pub returns-in-Some-clause-heard : goal.returns-in-Some-clause-heard
returns-in-Some-clause-heard g c = λ start told (kept, so).
    let old = c.args.self.now in
    let outcome = c.in_ok-outcome.outcome in
    let is = subst (λ (r : RunRules). IsOutcomeOf r c.args.meeting outcome)
    (ap (λ (r : SweepRules). r.run) kept) c.in_ok-outcome.ensures in
    script_misses start.rules told c.args.run.now c.args.meeting outcome old.count old.tally
    (g.W.Write.contents (inner_of start.writer.now)) (g.W.Write.contents (inner_of old.writer.now))
    (g.W.Write.contents (inner_of old.writer.now)) (has_failed old.writer.now) (has_failed old.writer.now) so is
    c.in-Some.why (sym c.missed_by.ensures ∙ c.in-Some.is)

pub returns-in-Err-clause-heard : goal.returns-in-Err-clause-heard
returns-in-Err-clause-heard g c = λ start told (kept, so).
    let old = c.args.self.now in
    let outcome = c.in_ok-outcome.outcome in
    let is = subst (λ (r : RunRules). IsOutcomeOf r c.args.meeting outcome)
    (ap (λ (r : SweepRules). r.run) kept) c.in_ok-outcome.ensures in
    let next = swept c.args.run.now.places c.args.run.now.case outcome in
    let line = subst (λ (r : SweepRules). script_line r next ≡ c.as_bytes.result.now) kept
    (sym (c.as_bytes.ensures.value ∙ c.in_ok-line.ensures)) in
    line_breaks start.rules told c.args.run.now c.args.meeting outcome old.count old.tally
    (g.W.Write.contents (inner_of start.writer.now)) (g.W.Write.contents (inner_of old.writer.now))
    (g.W.Write.contents (inner_of c.write_whole.new.writer)) (has_failed old.writer.now)
    (has_failed c.write_whole.new.writer) so is
    (subst (λ (l : List ℕ). AppendsFront (g.W.Write.contents (inner_of old.writer.now))
    (g.W.Write.contents (inner_of c.write_whole.new.writer)) l) (sym line) c.in-Err.ensures.begun)
    (c.in-Err.ensures.failed ∙ ap (λ (b : Bool). b || true) so.works)

pub returns-then-is_enough-clause-heard : goal.returns-then-is_enough-clause-heard
returns-then-is_enough-clause-heard g c = λ start told (kept, so).
    let old = c.args.self.now in
    let outcome = c.in_ok-outcome.outcome in
    let is = subst (λ (r : RunRules). IsOutcomeOf r c.args.meeting outcome)
    (ap (λ (r : SweepRules). r.run) kept) c.in_ok-outcome.ensures in
    let next = swept c.args.run.now.places c.args.run.now.case outcome in
    let line = subst (λ (r : SweepRules). script_line r next ≡ c.as_bytes.result.now) kept
    (sym (c.as_bytes.ensures.value ∙ c.in_ok-line.ensures)) in
    enough_told start.rules told c.args.run.now c.args.meeting outcome old.count old.tally
    (g.W.Write.contents (inner_of start.writer.now)) (g.W.Write.contents (inner_of old.writer.now))
    (g.W.Write.contents (inner_of c.write_whole.new.writer)) (has_failed old.writer.now)
    (has_failed c.write_whole.new.writer) so is c.with-self.result c.one_more-self.result c.with-self.ensures
    c.one_more-self.ensures
    (subst (λ (r : SweepRules). is_enough r.run.max_fail c.with-self.result.fail ≡ true) kept
    (sym c.is_enough.ensures ∙ c.if-is_enough.true))
    (sym c.missed_by.ensures ∙ c.in-None.is)
    (subst (λ (l : List ℕ). Appends (g.W.Write.contents (inner_of old.writer.now))
    (g.W.Write.contents (inner_of c.write_whole.new.writer)) l) (sym line) c.in-Ok.ensures.written)
    (c.in-Ok.ensures.failed ∙ ap (λ (b : Bool). b || false) so.works)

pub returns-clause-heard : goal.returns-clause-heard
returns-clause-heard g c = λ start told (kept, so).
    let old = c.args.self.now in
    let outcome = c.in_ok-outcome.outcome in
    let is = subst (λ (r : RunRules). IsOutcomeOf r c.args.meeting outcome)
    (ap (λ (r : SweepRules). r.run) kept) c.in_ok-outcome.ensures in
    let next = swept c.args.run.now.places c.args.run.now.case outcome in
    let line = subst (λ (r : SweepRules). script_line r next ≡ c.as_bytes.result.now) kept
    (sym (c.as_bytes.ensures.value ∙ c.in_ok-line.ensures)) in (
      kept,
      told_one_more start.rules told c.args.run.now c.args.meeting outcome old.count old.tally
          (g.W.Write.contents (inner_of start.writer.now)) (g.W.Write.contents (inner_of old.writer.now))
          (g.W.Write.contents (inner_of c.write_whole.new.writer)) (has_failed old.writer.now)
          (has_failed c.write_whole.new.writer) so is c.with-self.result c.one_more-self.result c.with-self.ensures
          c.one_more-self.ensures
          (subst (λ (r : SweepRules). is_enough r.run.max_fail c.with-self.result.fail ≡ false) kept
          (sym c.is_enough.ensures ∙ c.if-is_enough.false))
          (sym c.missed_by.ensures ∙ c.in-None.is)
          (subst (λ (l : List ℕ). Appends (g.W.Write.contents (inner_of old.writer.now))
          (g.W.Write.contents (inner_of c.write_whole.new.writer)) l) (sym line) c.in-Ok.ensures.written)
          (c.in-Ok.ensures.failed ∙ ap (λ (b : Bool). b || false) so.works),
    )
