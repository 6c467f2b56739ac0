-- The header at the front of the bytes from the frame at fault on, or the last bytes of its payload.
use Rattle.std.proofs.Common.{◌≡◌, ◌∙◌, ◌+◌, ◌-◌, ◌++◌, ℕ, Bool, true, false, if◌then◌else◌, List, ap, arith}
use Rattle.std.proofs.Common.{drop, length, rules, sym, take}
use Rattle.std.proofs.lemmas.List.{take_at}
use Rattle.std.specs.List.{concat}
use Rattle.ws_wire.specs.Header.{header_bytes}
use Rattle.ws_wire.specs.Masking.{masked_payload}
use Rattle.ws_session.proofs.MaskedParts.{length-masked_from}
use Rattle.ws_suite.specs.Evidence.{got_turns}
use Rattle.ws_suite.specs.Found.{is_of_payload, last_sixteen}
use Rattle.ws_suite.proofs.FoundLemmas.{header_cut, header_first, last_of_payload, place_so}
use Rattle.ws_suite.proofs.evidence.found.bytes_of_fault.Goals as goal

pub returns-then-not-is_of_payload : goal.returns-then-not-is_of_payload
returns-then-not-is_of_payload c = λ role found at.
    let all = concat (got_turns c.args.transcript.now.turns) in
    let place = c.args.seen.after in
    let last = c.args.seen.last in
    let reason = c.args.reason in
    let f = found.fault in
    let head = header_bytes f.header in
    let front = c.in_ok-front.front.items in
    let front_is : front ≡ take 14 (drop last all) = search rules in
    let lent : c.as_slice.result.now ≡ front = search rules in
    let read = c.head_of-head.ensures f.header
    (take (14 - length head) (masked_payload f.header.key f.payload ++ drop place all)) f.is_header
    (lent ∙ (front_is ∙ header_first role all place reason f last at)) in
    let no : is_of_payload reason ≡ false = search rules in
    let cut : c.truncate.new.self.items ≡ take c.head_of-head.result.len front = search rules in
    cut ∙ (header_cut role all place reason f last at front c.head_of-head.result.len front_is read.0
    ∙ ap (λ (b : Bool). if b then last_sixteen f.payload else head) (sym no))

pub returns : goal.returns
returns c = λ role found at.
    let all = concat (got_turns c.args.transcript.now.turns) in
    let place = c.args.seen.after in
    let last = c.args.seen.last in
    let reason = c.args.reason in
    let f = found.fault in
    let head = header_bytes f.header in
    let front = c.in_ok-front.front.items in
    let front_is : front ≡ take 14 (drop last all) = search rules in
    let lent : c.as_slice.result.now ≡ front = search rules in
    let read = c.head_of-head.ensures f.header
    (take (14 - length head) (masked_payload f.header.key f.payload ++ drop place all)) f.is_header
    (lent ∙ (front_is ∙ header_first role all place reason f last at)) in
    let yes : is_of_payload reason ≡ true = search rules in
    let size = place_so role all place reason f last at in
    let start : c.saturating_add-start.result ≡ last + length head =
    omega (arith, c.saturating_add-start.ensures, read.0, size) in
    let skipped : c.saturating_sub-skipped.result ≡ length f.payload - 16 = omega (
      arith,
      c.saturating_sub-skipped.ensures,
      c.saturating_sub.ensures,
      start,
      size,
    ) in
    let from : c.saturating_add-from.result ≡ last + (length head + c.saturating_sub-skipped.result) =
    omega (arith, c.saturating_add-from.ensures, start, skipped, size) in
    let came : c.as_mut_slice.result.now
    ≡ take (place - c.saturating_add-from.result) (drop c.saturating_add-from.result all) = search rules in
    let key = c.head_of-head.result.key in
    let part = c.unmask_from.new.part in
    let items = c.in_ok-bytes.bytes.items in
    let lent_too : c.as_mut_slice.result.now ≡ items = search rules in
    let count : c.in_ok-bytes.bytes.len ≡ length items = search rules in
    let whole : length part ≡ c.in_ok-bytes.bytes.len = omega (
      arith,
      count,
      ap (λ (l : List ℕ). length l) c.unmask_from.ensures,
      length-masked_from key c.saturating_sub-skipped.result c.as_mut_slice.result.now,
      ap (λ (l : List ℕ). length l) lent_too,
    ) in
    take_at part (drop (length part) items) c.in_ok-bytes.bytes.len whole
    ∙ last_of_payload role all place reason f last at c.as_mut_slice.result.now part
    c.saturating_sub-skipped.result c.saturating_add-from.result key skipped from came read.1 c.unmask_from.ensures
    ∙ ap (λ (b : Bool). if b then last_sixteen f.payload else head) (sym yes)
