-- A header that began in earlier pieces ends in this one, or it goes on.
use Rattle.std.proofs.Common.{◌≡◌, ◌∙◌, ◌-◌, ◌++◌, length, take, List, ℕ, ap, arith, subst, sym}
use Rattle.ws_wire.specs.Reading.{Begins, BeginsNoHeader}
use Rattle.ws_session.specs.InnerReceiving.{CompletesHeader}
use Rattle.ws_session.proofs.HeaderEnds.{past_kept, cut_header_ends, cut_none}
use Rattle.ws_session.proofs.receiver.header_end.complete_cut.Goals as goal

pub returns-in-Need : goal.returns-in-Need
returns-in-Need c =
    let kept = c.args.kept.now in
    let piece = c.args.piece.now in
    let front = c.min-front.result in
    let came : length c.as_slice-came.result.now ≡ length kept = ap (λ (l : List ℕ). length l) c.as_slice-came.ensures.bytes in
    let bytes : c.as_slice.result.now ≡ kept ++ take front piece = c.as_slice.ensures.bytes ∙ c.push.ensures ∙ ap (λ (l : List ℕ). l ++ take front piece) (c.of-bytes.ensures ∙ c.as_slice-came.ensures.bytes) in
    let few = c.fourteen_bytes_hold_a_header.ensures kept c.requires.bytes c.requires.none in
    cut_none kept piece front (omega (arith, c.min-front.ensures)) c.fourteen_bytes_hold_a_header.ensures c.requires.bytes (λ i. omega (arith, c.type_inv.piece i)) (λ less. omega (arith, c.min-front.ensures, less, came, few))
    (subst (λ (l : List ℕ). BeginsNoHeader l) bytes c.in-Need.ensures)

pub overflow_sub-result : goal.overflow_sub-result
overflow_sub-result c =
    let kept = c.args.kept.now in
    let piece = c.args.piece.now in
    let front = c.min-front.result in
    let came : length c.as_slice-came.result.now ≡ length kept = ap (λ (l : List ℕ). length l) c.as_slice-came.ensures.bytes in
    let bytes : c.as_slice.result.now ≡ kept ++ take front piece = c.as_slice.ensures.bytes ∙ c.push.ensures ∙ ap (λ (l : List ℕ). l ++ take front piece) (c.of-bytes.ensures ∙ c.as_slice-came.ensures.bytes) in
    let begins = subst (λ (l : List ℕ). Begins c.in-Got.header c.in-Got.used l) bytes c.in-Got.ensures.0 in
    omega (arith, came, past_kept kept piece front (omega (arith, c.min-front.ensures)) c.in-Got.header c.in-Got.used c.requires.none begins)

pub returns-in-Got : goal.returns-in-Got
returns-in-Got c =
    let kept = c.args.kept.now in
    let piece = c.args.piece.now in
    let front = c.min-front.result in
    let came : length c.as_slice-came.result.now ≡ length kept = ap (λ (l : List ℕ). length l) c.as_slice-came.ensures.bytes in
    let bytes : c.as_slice.result.now ≡ kept ++ take front piece = c.as_slice.ensures.bytes ∙ c.push.ensures ∙ ap (λ (l : List ℕ). l ++ take front piece) (c.of-bytes.ensures ∙ c.as_slice-came.ensures.bytes) in
    let begins = subst (λ (l : List ℕ). Begins c.in-Got.header c.in-Got.used l) bytes c.in-Got.ensures.0 in
    subst (λ n. CompletesHeader kept piece c.in-Got.header (c.in-Got.used - n)) (sym came)
    (cut_header_ends kept piece front (omega (arith, c.min-front.ensures)) c.in-Got.header c.in-Got.used c.requires.none begins)

pub overflow_sub-result-in-BadLength : goal.overflow_sub-result-in-BadLength
overflow_sub-result-in-BadLength c =
    let kept = c.args.kept.now in
    let piece = c.args.piece.now in
    let front = c.min-front.result in
    let came : length c.as_slice-came.result.now ≡ length kept = ap (λ (l : List ℕ). length l) c.as_slice-came.ensures.bytes in
    let bytes : c.as_slice.result.now ≡ kept ++ take front piece = c.as_slice.ensures.bytes ∙ c.push.ensures ∙ ap (λ (l : List ℕ). l ++ take front piece) (c.of-bytes.ensures ∙ c.as_slice-came.ensures.bytes) in
    let begins = subst (λ (l : List ℕ). Begins c.in-BadLength.header c.in-BadLength.used l) bytes c.in-BadLength.ensures.0 in
    omega (arith, came, past_kept kept piece front (omega (arith, c.min-front.ensures)) c.in-BadLength.header c.in-BadLength.used c.requires.none begins)

pub returns-in-BadLength : goal.returns-in-BadLength
returns-in-BadLength c =
    let kept = c.args.kept.now in
    let piece = c.args.piece.now in
    let front = c.min-front.result in
    let came : length c.as_slice-came.result.now ≡ length kept = ap (λ (l : List ℕ). length l) c.as_slice-came.ensures.bytes in
    let bytes : c.as_slice.result.now ≡ kept ++ take front piece = c.as_slice.ensures.bytes ∙ c.push.ensures ∙ ap (λ (l : List ℕ). l ++ take front piece) (c.of-bytes.ensures ∙ c.as_slice-came.ensures.bytes) in
    let begins = subst (λ (l : List ℕ). Begins c.in-BadLength.header c.in-BadLength.used l) bytes c.in-BadLength.ensures.0 in
    subst (λ n. CompletesHeader kept piece c.in-BadLength.header (c.in-BadLength.used - n)) (sym came)
    (cut_header_ends kept piece front (omega (arith, c.min-front.ensures)) c.in-BadLength.header c.in-BadLength.used c.requires.none begins)
