-- The fault that was seen, or that none is told.
use Rattle.std.proofs.Common.{◌≡◌, Some, None, refl, rules, subst, sym, Option}
use Rattle.std.specs.List.{concat}
use Rattle.ws_suite.specs.Evidence.{got_turns}
use Rattle.ws_suite.specs.InnerMarks.{EndsSo}
use Rattle.ws_suite.specs.declared.evidence.streams.StreamEnd.{StreamEnd}
use Rattle.ws_suite.specs.declared.evidence.streams.StreamEnd.TheVariants as stream
use Rattle.ws_suite.proofs.FoundLemmas.{closed_no_fault, open_no_fault, seen_fault_begins}
use Rattle.ws_suite.proofs.evidence.found.fault_in.Goals as goal

pub returns-in-Some-Closed : goal.returns-in-Some-Closed
returns-in-Some-Closed c = λ role h.
    let is : c.args.seen.end ≡ Some stream.Closed = search rules in
    closed_no_fault role (concat (got_turns c.args.transcript.now.turns)) c.args.seen h is

pub returns-in-None : goal.returns-in-None
returns-in-None c = λ role h.
    let is : c.args.seen.end ≡ None = search rules in
    open_no_fault role (concat (got_turns c.args.transcript.now.turns)) c.args.seen h is

pub returns-in_ok-bytes-in-Some-Failed : goal.returns-in_ok-bytes-in-Some-Failed
returns-in_ok-bytes-in-Some-Failed c = λ role h.
    let is : c.args.seen.end ≡ Some (stream.Failed c.in-Some-Failed.reason) = search rules in
    let begins = seen_fault_begins role (concat (got_turns c.args.transcript.now.turns)) c.args.seen
    c.in-Some-Failed.reason h is in
    record {
      reason = c.in-Some-Failed.reason;
      is_first = begins.0;
      shown = c.in_ok-bytes-in-Some-Failed.ensures role begins.0 begins.1;
    }
