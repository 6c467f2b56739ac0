-- A connection whose request is decided is served as that decision asks, over all that was read and written.
use Rattle.std.proofs.Common.{List, ℕ, map, refl, sym, subst}
use Rattle.std.specs.Borrow.{Bor}
use Rattle.ws_frame.specs.Devices.{watched}
use Rattle.ws_connection.specs.ReadingHeads.{ReadsHead}
use Rattle.ws_handshake.specs.Requests.{DecidesRequest, NeedsRequest}
use Rattle.ws_connection.specs.declared.reading_head.HeadEnd.TheVariants.{Decided}
use Rattle.ws_connection.proofs.ServingLemmas.{serves}
use Rattle.ws_connection.proofs.serving.serve_one.Goals as goal

pub returns-in-Decided : goal.returns-in-Decided
returns-in-Decided g c =
    let known : List (List ℕ) = map (λ (name : Bor (List ℕ)). name.now) c.args.protocols.now in
    let head = c.as_slice.result.now in
    let decision = c.in-Decided.decision in
    let before = watched g.R.Read.remaining c.args.reader.now c.read_head.new.reader in
    let after = watched g.R.Read.remaining c.read_head.new.reader c.answer.new.reader in
    let input = watched g.R.Read.remaining c.args.reader.now c.answer.new.reader in
    let output = watched g.W.Write.contents c.args.writer.now c.answer.new.writer in
    let reads : ReadsHead (NeedsRequest known) (DecidesRequest known) (Decided decision) head before =
    subst (λ (l : List ℕ). ReadsHead (NeedsRequest known) (DecidesRequest known) (Decided decision) l before) (sym c.as_slice.ensures.bytes) c.in-Decided.ensures in
    serves c.args.limits c.args.budget known head before after input output refl refl refl refl decision c.answer.result reads c.answer.ensures
