-- Each byte makes a line certain, or none, and it is kept where it fits.
use Rattle.std.proofs.Common.{◌≡◌, false, ◌+◌, ◌++◌, ◌∷◌, [], List, ℕ, take, get_or, arith, refl, sym, ap, ◌∙◌}
use Rattle.std.proofs.Common.{append_assoc, append-nil}
use Rattle.std.proofs.lemmas.List.{length-append, length-take-le, take_more, take_all}
use Rattle.ws_frame.specs.FrameStreaming.{frames_source}
use Rattle.ws_tap.specs.Telling.{kept_after}
use Rattle.ws_tap.proofs.KeepingLemmas.{keeping_byte, keeping_same, shown_same}
use Rattle.ws_tap.proofs.Sides.{lines_to}
use Rattle.ws_tap.proofs.keeping.keep_lines.Goals as goal

pub loop-byte-init : goal.loop-byte-init
loop-byte-init c = record {
  source = refl;
  keeps = refl;
  kept = λ bytes shown t. (
    [],
    shown_same c.args.lines.now bytes (bytes ++ []) shown (shown ++ []) (sym (append-nil bytes))
        (sym (append-nil shown)) t,
    λ k. keeping_same (frames_source c.args.lines.now) bytes (bytes ++ []) shown (shown ++ []) c.args.kept.now
        c.args.kept.now (sym (append-nil bytes)) (sym (append-nil shown)) refl k,
  );
}

pub keep_byte-requires : goal.keep_byte-requires
keep_byte-requires c =
    let (taken, written, t, small) = c.requires in
    let (more, on, still) = c.loop-byte.invariant.kept taken written t in
    let i = c.loop-byte.byte-index in
    let few = length-take-le i c.args.piece.now (omega (arith, c.loop-byte-test.true)) in (
      taken ++ take i c.args.piece.now,
      written ++ more,
      on,
      omega (arith, small, few, length-append taken (take i c.args.piece.now), c.loop-byte-test.true),
    )

pub loop-byte-preserved : goal.loop-byte-preserved
loop-byte-preserved c = record {
  source = c.keep_byte.ensures.source ∙ c.loop-byte.invariant.source;
  keeps = c.keep_byte.ensures.keeps ∙ c.loop-byte.invariant.keeps;
  kept = λ bytes shown t.
      let (more, on, still) = c.loop-byte.invariant.kept bytes shown t in
      let i = c.loop-byte.byte-index in
      let piece = c.args.piece.now in
      let byte = get_or piece i 0 in
      let source = frames_source c.args.lines.now in
      let before = bytes ++ take i piece in
      let (line, after, ek) = c.in_ok-keep_byte.ensures.kept before (shown ++ more) on in
      let eb : before ++ byte ∷ [] ≡ bytes ++ take (i + 1) piece = append_assoc bytes (take i piece) (byte ∷ [])
      ∙ ap (λ (t : List ℕ). bytes ++ t) (sym (take_more piece i 0 c.loop-byte-test.true)) in
      let es : (shown ++ more) ++ line ≡ shown ++ (more ++ line) = append_assoc shown more line in
      let certain = lines_to false source c.loop-byte.lines before (shown ++ more) c.loop-byte.invariant.source on in
      let all = lines_to false source c.keep_byte.new.lines (before ++ byte ∷ []) ((shown ++ more) ++ line)
      (c.keep_byte.ensures.source ∙ c.loop-byte.invariant.source) after in
      let kept : kept_after c.loop-byte.kept line ≡ c.keep_byte.new.kept = sym ek in (
        more ++ line,
        shown_same c.keep_byte.new.lines (before ++ byte ∷ []) (bytes ++ take (i + 1) piece)
            ((shown ++ more) ++ line) (shown ++ (more ++ line)) eb es after,
        λ k. keeping_same source (before ++ byte ∷ []) (bytes ++ take (i + 1) piece) ((shown ++ more) ++ line)
            (shown ++ (more ++ line)) (kept_after c.loop-byte.kept line) c.keep_byte.new.kept eb es kept
            (keeping_byte source before (shown ++ more) line byte c.loop-byte.kept on.are_bytes certain all (still k)),
      );
}

pub returns-clause-kept : goal.returns-clause-kept
returns-clause-kept c = λ bytes shown t k.
    let (more, on, still) = c.loop-byte.invariant.kept bytes shown t in
    let all = ap (λ (t : List ℕ). bytes ++ t) (take_all c.loop-byte.byte-index c.args.piece.now
    c.loop-byte-test.false) in (
      more,
      shown_same c.loop-byte.lines (bytes ++ take c.loop-byte.byte-index c.args.piece.now) (bytes ++ c.args.piece.now)
          (shown ++ more) (shown ++ more) all refl on,
      keeping_same (frames_source c.args.lines.now) (bytes ++ take c.loop-byte.byte-index c.args.piece.now)
          (bytes ++ c.args.piece.now) (shown ++ more) (shown ++ more) c.loop-byte.kept c.loop-byte.kept all refl refl
          (still k),
    )
