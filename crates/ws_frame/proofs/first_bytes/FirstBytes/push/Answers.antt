-- What fits is the front of what comes, as long as the room that is left.
use Rattle.std.proofs.Common.{◌≡◌, ◌+◌, ◌-◌, ◌++◌, ◌∙◌, length, min, take, ℕ, List, sym, ap, arith}
use Rattle.std.proofs.lemmas.List.{take_min, length-take-le}
use Rattle.std.proofs.lemmas.Slice.{take-put_mid}
use Rattle.std.proofs.Math.Seq.{take-append-add}
use Rattle.ws_frame.proofs.first_bytes.FirstBytes.push.Goals as goal

pub returns : goal.returns
returns c =
    let len = c.self.inside.len in
    let old : List ℕ = take len c.self.inside.bytes in
    let more = c.args.more.now in
    let count = c.min-count.result in
    let fits : length old ≡ len = length-take-le len c.self.inside.bytes (omega arith) in
    let room : length old + (16 - len) ≡ 16 = omega (arith, fits) in
    let least : count ≡ min (16 - len) (length more) = omega (arith, c.min-count.ensures) in
    take-put_mid len ((len + count) - len) c.self.inside.bytes c.copy_from_slice.new.self (len + count) (omega (arith, c.copy_from_slice.ensures.len)) (omega arith)
    ∙ ap (λ (l : List ℕ). old ++ l) (c.copy_from_slice.ensures.after ∙ ap (λ n. take n more) least ∙ take_min (16 - len) more)
    ∙ sym (take-append-add old more (16 - len)) ∙ ap (λ n. take n (old ++ more)) room
    ∙ ap (λ (l : List ℕ). take 16 (l ++ more)) c.self.view_is
