-- Plain bytes of a text are put run after run, and its other characters one by one.
use Rattle.std.proofs.Common.{◌≡◌, ◌++◌, ◌∙◌, ◌+◌, sym, ap, arith, length, List, ℕ}
use Rattle.std.specs.Char.{encode_utf8}
use Rattle.std.proofs.lemmas.Result.{on_ok_weaker}
use Rattle.ws_formats.proofs.QuotedTexts.{AreShown, cut_behind_plain, few_shown, most_are_shown, one_more_shown}
use Rattle.ws_formats.proofs.QuotedTexts.{run_shown}
use Rattle.ws_formats.proofs.quoting.put_characters.Goals as goal

pub range_from-left-requires : goal.range_from-left-requires
range_from-left-requires c = λ some.
    cut_behind_plain c.plain_len-run.result c.as_bytes-bytes.result.now c.loop-count.left.now c.loop-count.invariant.0
    c.as_bytes-bytes.ensures.value c.plain_len-run.ensures.within c.plain_len-run.ensures.plain

pub returns-in_default : goal.returns-in_default
returns-in_default c =
    let run = c.plain_len-run.result in
    let rest = c.range_from-left.result.now in
    let before = c.extend_from_slice.new.self.items in
    let mid = c.extend_from_slice-in-loop-count.new.self.items in
    let shown : AreShown c.args.text.now rest before mid (c.loop-count.count + run) =
    run_shown c.args.text.now c.loop-count.left.now c.as_bytes-bytes.result.now rest before c.loop-count.line.items mid
    c.loop-count.count run c.loop-count.invariant.2 c.as_bytes-bytes.ensures.value
    c.plain_len-run.ensures.within c.plain_len-run.ensures.plain
    c.range_from-left.ensures.value c.in_ok-extend_from_slice-2.ensures.items in
    on_ok_weaker c.put_end.result (few_shown c.args.text.now rest c.args.line.now.items before mid
    c.put_end.new.line.items (c.loop-count.count + run) c.in_ok-extend_from_slice.ensures.items shown
    c.if-count-lt-SHOWN.true (sym (ap (λ (l : List ℕ). length l) c.chars-others.ensures.rest)
    ∙ c.in_default.ensures.steps.0.0)) c.put_end.ensures

pub loop-count-preserved-then-count-lt-SHOWN : goal.loop-count-preserved-then-count-lt-SHOWN
loop-count-preserved-then-count-lt-SHOWN c =
    let run = c.plain_len-run.result in
    let rest = c.range_from-left.result.now in
    let left = c.as_str-left.result.now in
    let before = c.extend_from_slice.new.self.items in
    let mid = c.extend_from_slice-in-loop-count.new.self.items in
    let character = c.in-Some.character in
    let shown : AreShown c.args.text.now rest before mid (c.loop-count.count + run) =
    run_shown c.args.text.now c.loop-count.left.now c.as_bytes-bytes.result.now rest before c.loop-count.line.items mid
    c.loop-count.count run c.loop-count.invariant.2 c.as_bytes-bytes.ensures.value
    c.plain_len-run.ensures.within c.plain_len-run.ensures.plain
    c.range_from-left.ensures.value c.in_ok-extend_from_slice-2.ensures.items in
    let parts : rest ≡ encode_utf8 character ++ left =
    sym c.chars-others.ensures.rest ∙ c.in-Some.ensures.steps.0
    ∙ ap (λ (l : List ℕ). encode_utf8 character ++ l) (sym c.as_str-left.ensures) in (
      c.as_str-left.utf8,
      omega (arith, c.if-count-lt-SHOWN.true),
      one_more_shown c.args.text.now rest left before mid c.put_character.new.line.items (c.loop-count.count + run)
          character shown c.range_from-left.utf8 parts c.in_ok-put_character.ensures,
    )

pub loop-count-preserved : goal.loop-count-preserved
loop-count-preserved c =
    let run = c.plain_len-run.result in (
      c.range_from-left.utf8,
      omega (arith, c.loop-count-test.true, c.plain_len-run.ensures.few),
      run_shown c.args.text.now c.loop-count.left.now c.as_bytes-bytes.result.now c.range_from-left.result.now
          c.extend_from_slice.new.self.items c.loop-count.line.items
          c.extend_from_slice-in-loop-count.new.self.items c.loop-count.count run
          c.loop-count.invariant.2 c.as_bytes-bytes.ensures.value
          c.plain_len-run.ensures.within c.plain_len-run.ensures.plain
          c.range_from-left.ensures.value c.in_ok-extend_from_slice-2.ensures.items,
    )

pub returns : goal.returns
returns c =
    on_ok_weaker c.put_end-2.result (most_are_shown c.args.text.now c.loop-count.left.now
    c.args.line.now.items c.extend_from_slice.new.self.items c.loop-count.line.items c.put_end-2.new.line.items
    c.is_empty.result c.loop-count.count (omega (arith, c.loop-count.invariant.1, c.loop-count-test.false))
    c.in_ok-extend_from_slice.ensures.items c.loop-count.invariant.2 c.loop-count.invariant.0 c.is_empty.ensures)
    c.put_end-2.ensures
