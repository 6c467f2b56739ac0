-- Nothing was taken either way, and nothing is to be compared.
use Rattle.std.proofs.Common.{[], refl, subst}
use Rattle.ws_wire.specs.declared.role.Role.{Role}
use Rattle.ws_suite.specs.Evidence.{due_for, got_in, other_role}
use Rattle.ws_suite.specs.Growing.{AreKeptSince, HasTakenTurns}
use Rattle.ws_suite.proofs.GrowingLemmas.{none_fresh}
use Rattle.ws_suite.proofs.evidence.growing.RunEvidence.new.Goals as goal

pub returns-clause-grown : goal.returns-clause-grown
returns-clause-grown c =
    let sent = c.nothing_taken.result in
    let got = c.nothing_taken-2.result in
    let taken : HasTakenTurns (AreKeptSince []) got_in (other_role c.args.tested) [] got.session got.collected =
    subst (λ (r : Role). HasTakenTurns (AreKeptSince []) got_in r [] got.session got.collected) c.other.ensures
    c.nothing_taken-2.ensures.taken in
    record {
      dues = [];
      gots = [];
      due = c.nothing_taken.ensures.taken;
      got = taken;
      no_due = none_fresh due_for c.args.tested sent.session sent.collected c.nothing_taken.ensures.taken;
      no_got = none_fresh got_in (other_role c.args.tested) got.session got.collected taken;
      pairing = c.new-2.ensures;
      last_ping = c.new-3.ensures 0;
      count = refl;
    }
