-- The places of both directions fit exactly where no sum of the turns' bytes passes 64 bits.
use Rattle.std.proofs.Common.{arith, ◌∙◌, ◌≡◌, ◌+◌, ◌++◌, ◌∷◌, [], ℕ, List, append-nil, drop, length, length-append, take, take_all, ap, sym}
use Rattle.std.proofs.lemmas.List.Concat.{flat_map-append}
use Rattle.std.specs.List.{flat_map}
use Rattle.ws_scripts.specs.declared.transcript.Turn.{Turn}
use Rattle.ws_scripts.specs.Pieces.{lent_turn}
use Rattle.ws_scripts.proofs.WalkLemmas.{is_there, one_more_done, others_left, within}
use Rattle.ws_lines.proofs.Wholes.{places_fit}
use Rattle.ws_lines.proofs.places.fits_places.Goals as goal

-- with one turn more so many bytes stand in the turns
counted : (f : Turn → List ℕ) (turns others : List Turn) (i n more : ℕ) (turn : Turn) → turn ∷ others ≡ drop i turns
    → n ≡ length (flat_map f (take i turns)) → more ≡ n + length (f turn)
    → more ≡ length (flat_map f (take (i + 1) turns))
counted f turns others i n more turn at count sum =
    let next = ap (λ (l : List Turn). length (flat_map f l)) (one_more_done turns i turn others at) in
    let parts = ap (λ (l : List ℕ). length l) (flat_map-append f (take i turns) (turn ∷ [])) in
    let last = ap (λ (l : List ℕ). length l) (append-nil (f turn)) in
    omega (arith, next, parts, last, length-append (flat_map f (take i turns)) (f turn ++ []), count, sum)

pub loop-number-preserved : goal.loop-number-preserved
loop-number-preserved g c =
    let turns = (g.T.AsTranscript.transcript c.args.transcript.now).turns in
    let i = c.loop-number._number in
    let turn = lent_turn c.take_first-turn.result in
    let others = c.take_first-turn.new.self in
    let at = sym c.take_first-turn.ensures ∙ c.loop-number.invariant.walk in
    let old = c.loop-number.invariant in
    record {
      sent_fits = omega (arith, c.in-Some.ensures.0, c.in-Some.ensures.1);
      got_fits = omega (arith, c.in-Some-checked_add.ensures.0, c.in-Some-checked_add.ensures.1);
      sent = counted (λ (t : Turn). t.sent) turns others i c.loop-number.sent c.in-Some.more_sent turn at old.sent
          c.in-Some.ensures.1;
      got = counted (λ (t : Turn). t.got) turns others i c.loop-number.got c.in-Some-checked_add.more_got turn at
          old.got c.in-Some-checked_add.ensures.1;
      walk = others_left turns i turn others at;
      count = old.count;
    }

pub returns-in_default : goal.returns-in_default
returns-in_default g c = (
  λ t. absurd cc,
  λ fits.
      let turns = (g.T.AsTranscript.transcript c.args.transcript.now).turns in
      let i = c.loop-number._number in
      let turn = lent_turn c.take_first-turn.result in
      let others = c.take_first-turn.new.self in
      let at = sym c.take_first-turn.ensures ∙ c.loop-number.invariant.walk in
      let room = places_fit (λ (t : Turn). t.sent) turns i turn (within turns i turn others at) (is_there turns i turn others at) fits.0 in
      absurd (c.in_default.ensures (omega (arith, room, c.loop-number.invariant.sent))),
)

pub returns-in_default-checked_add : goal.returns-in_default-checked_add
returns-in_default-checked_add g c = (
  λ t. absurd cc,
  λ fits.
      let turns = (g.T.AsTranscript.transcript c.args.transcript.now).turns in
      let i = c.loop-number._number in
      let turn = lent_turn c.take_first-turn.result in
      let others = c.take_first-turn.new.self in
      let at = sym c.take_first-turn.ensures ∙ c.loop-number.invariant.walk in
      let room = places_fit (λ (t : Turn). t.got) turns i turn (within turns i turn others at) (is_there turns i turn others at) fits.1 in
      absurd (c.in_default-checked_add.ensures (omega (arith, room, c.loop-number.invariant.got))),
)

pub returns : goal.returns
returns g c =
    let turns = (g.T.AsTranscript.transcript c.args.transcript.now).turns in
    let i = c.loop-number._number in
    let old = c.loop-number.invariant in
    let all : take i turns ≡ turns = take_all i turns (omega (arith, c.loop-number-test.false, old.count)) in
    let sent = ap (λ (l : List Turn). length (flat_map (λ (t : Turn). t.sent) l)) all in
    let got = ap (λ (l : List Turn). length (flat_map (λ (t : Turn). t.got) l)) all in
    (λ t. (omega (arith, old.sent, old.sent_fits, sent), omega (arith, old.got, old.got_fits, got)), λ fits. cc)
