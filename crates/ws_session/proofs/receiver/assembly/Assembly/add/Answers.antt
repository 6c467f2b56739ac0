-- What is put behind all that is kept is the frame's payload so far.
use Rattle.std.proofs.Common.{◌≡◌, ◌∙◌, ◌+◌, ◌++◌, ◌%◌, length, List, ℕ, ap, sym, arith}
use Rattle.std.proofs.lemmas.List.{length-append, take_all}
use Rattle.ws_session.specs.InnerMasked.{masked_from}
use Rattle.ws_session.specs.Faults.{open_payload}
use Rattle.ws_session.specs.InnerReceiving.{AssemblyValue, first_bytes}
use Rattle.ws_session.proofs.MaskedParts.{masked_from_phase, length-masked_from}
use Rattle.ws_session.proofs.receiver.assembly.Assembly.add.Goals as goal

pub returns-clause-added : goal.returns-clause-added
returns-clause-added c =
    let v = c.args.self.now in
    let came = c.args.came in
    let whole : first_bytes v came ≡ v.payload = take_all (length (open_payload v.opened) + came) v.payload (omega (arith, c.requires)) in
    let kept : c.self.inside.payload.items ≡ first_bytes v came = ap (λ (a : AssemblyValue). a.payload) c.self.view_is ∙ sym whole in
    c.in_ok-append_in_room.ensures.put ∙ ap (λ (l : List ℕ). l ++ masked_from c.args.key (came % 4) c.args.bytes.now) kept
    ∙ ap (λ (l : List ℕ). first_bytes v came ++ l) (masked_from_phase c.args.key came c.args.bytes.now)

pub returns-clause-size : goal.returns-clause-size
returns-clause-size c =
    let v = c.args.self.now in
    let kept : length c.self.inside.payload.items ≡ length v.payload = ap (λ (a : AssemblyValue). length a.payload) c.self.view_is in
    let all : length c.append_in_room.new.kept.items ≡ length c.self.inside.payload.items + length (masked_from c.args.key (c.args.came % 4) c.args.bytes.now) =
    ap (λ (l : List ℕ). length l) c.in_ok-append_in_room.ensures.put ∙ length-append c.self.inside.payload.items (masked_from c.args.key (c.args.came % 4) c.args.bytes.now) in
    omega (arith, all, kept, c.requires, length-masked_from c.args.key (c.args.came % 4) c.args.bytes.now)
