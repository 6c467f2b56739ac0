-- What came of the run is that of its script, and its lines were written.
use Rattle.std.proofs.Common.{List, rules, subst, ◌≡◌, ◌∙◌, ℕ}
use Rattle.ws_frame.specs.declared.watching.Watched.{Watched}
use Rattle.wst_testing.specs.LineOutputs.{WritesRest}
use Rattle.wst_clients.proofs.SendLemmas.{alone_name, alone_shown, placed_heard, shown_at_by, shown_over}
use Rattle.wst_clients.proofs.sending_to_client.show_alone.Goals as goal

pub returns-clause-runs : goal.returns-clause-runs
returns-clause-runs g c = shown_over (placed_heard g.W.Write.contents) g.L.Client.NonBlocking.did c.args.visitors.now.clients.held c.args.at c.args.run
    c.in_ok-end.end c.new-sink.result c.play_alone.new.sink c.in_ok-end.ensures.ends

pub returns-clause-there : goal.returns-clause-there
returns-clause-there g c = shown_at_by (placed_heard g.W.Write.contents) g.L.Client.NonBlocking.did
    c.args.visitors.now.clients.held c.args.at c.args.run c.in_ok-end.end c.new-sink.result c.play_alone.new.sink
    c.in_ok-end.ensures.ends

pub returns-clause-shown : goal.returns-clause-shown
returns-clause-shown g c =
    let name = alone_name g.W.Write.contents g.L.Client.NonBlocking.did c.args.visitors.now.clients.held c.args.at c.args.run c.in_ok-end.end
    c.args.writer.now c.new-sink.result c.play_alone.new.sink c.in_ok-end.ensures.ends c.requires.works
    c.new-sink.ensures.writer in
    let same = c.write_last.ensures.borrow ∙ (name ∙ c.new-sink.ensures.borrow) in
    let left : c.write_last.new.self.writer.now ≡ c.writer-2-1.given.0 = search rules in
    let contents = g.W.Write.contents in
    let before = c.play_alone.new.sink.writer.now in
    let rest = subst (λ (w : Watched g.row.W.Denot). WritesRest contents before w c.in_ok-end.end.last.items) left
    (subst (λ (l : List ℕ). WritesRest contents before c.write_last.new.self.writer.now l) c.as_slice.ensures.value
    c.in_ok-write_last.ensures.written) in
    alone_shown contents g.L.Client.NonBlocking.did c.args.visitors.now.clients.held c.args.at c.args.run c.in_ok-end.end c.args.writer.now
    c.writer-2-1.given.0 c.new-sink.result c.play_alone.new.sink c.in_ok-end.ensures.ends c.requires.works
    c.new-sink.ensures.at c.new-sink.ensures.writer rest
