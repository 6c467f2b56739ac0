-- Lines that were taken are gone, and all else its tester hears.
use Rattle.std.proofs.Common.{◌∙◌, refl, sym}
use Rattle.ws_shown.proofs.ShownLemmas.{hears_tells, may_hear, taken_nears, taken_tells}
use Rattle.ws_shown.proofs.shown_tester.ShownTester.on_event.Goals as goal

pub tell-requires : goal.tell-requires
tell-requires c = record {
  may = may_hear c.args.self.now c.args.event (sym c.is_report.ensures ∙ c.if-is_report.false) c.requires.may;
}

pub returns-then-is_report-clause-told : goal.returns-then-is_report-clause-told
returns-then-is_report-clause-told c = taken_tells c.args.self.now
    (record { tester = c.args.self.now.tester; told = c.args.self.now.told; room = c.clear.new.self }) c.args.event
    (sym c.is_report.ensures ∙ c.if-is_report.true) refl refl c.clear.ensures

pub returns-then-is_report-clause-nears : goal.returns-then-is_report-clause-nears
returns-then-is_report-clause-nears c = λ running. taken_nears c.args.self.now
    (record { tester = c.args.self.now.tester; told = c.args.self.now.told; room = c.clear.new.self }) c.args.event
    (sym c.is_report.ensures ∙ c.if-is_report.true) c.requires.may refl c.clear.ensures

pub returns-clause-told : goal.returns-clause-told
returns-clause-told c = hears_tells c.args.self.now c.tell.new.self c.args.event
    (sym c.is_report.ensures ∙ c.if-is_report.false) c.in_ok-tell.ensures.told
