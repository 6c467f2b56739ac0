-- Piece after piece the turn is fed, until the peer ends in one of them or goes on after all.
use Rattle.std.proofs.Common.{◌≡◌, ℕ, ◌+◌, ◌<◌, List, ◌∷◌, [], ◌++◌, ◌∙◌, ap, arith, drop, get_or, length, rules, take}
use Rattle.std.proofs.Common.{take-append-drop, sym, subst}
use Rattle.std.proofs.lemmas.List.{take_all}
use Rattle.std.specs.List.{concat}
use Rattle.ws_peer.specs.declared.peer.Going.TheVariants.{More, Ended}
use Rattle.ws_peer.proofs.RunLemmas.{HasFedPieces, fed_more, joined_one_more, one_piece_more, turn_ended, turn_run}
use Rattle.ws_peer.proofs.running.run_turn.Goals as goal

pub returns-then-eq : goal.returns-then-eq
returns-then-eq g c =
    let ended : c.in_ok-going.going ≡ Ended = search rules in
    let i = c.loop-number.number in
    let pieces = c.args.pieces in
    let same = c.loop-number.invariant.same in
    let within : i < length pieces = omega (arith, c.loop-number-test.true, c.len-count.ensures) in
    let piece : c.piece.result.now ≡ get_or pieces i [] =
    c.piece.ensures ∙ ap (λ (l : List (List ℕ)). get_or l i []) same in
    let next : take (i + 1) pieces ≡ take i pieces ++ c.piece.result.now ∷ [] =
    one_piece_more pieces i within ∙ ap (λ (x : List ℕ). take i pieces ++ x ∷ []) (sym piece) in
    let sent : concat (take (i + 1) pieces) ≡ concat (take i pieces) ++ c.piece.result.now =
    joined_one_more pieces i within ∙ ap (λ (x : List ℕ). concat (take i pieces) ++ x) (sym piece) in
    let all = sym (take-append-drop (i + 1) pieces) ∙ ap (λ (l : List (List ℕ)). l ++ drop (i + 1) pieces) next in
    let first : c.into_first-sent.result.items ≡ concat (take (i + 1) pieces) =
    c.into_first-sent.ensures ∙ ap (λ (l : List (List ℕ)). concat (take (i + 1) l)) same in
    let r = turn_ended g.P.Peer.agrees c.args.peer.now c.loop-number.peer c.feed.new.self pieces (take i pieces)
    (drop (i + 1) pieces) c.piece.result.now (concat (take i pieces)) (concat (take (i + 1) pieces))
    c.loop-number.got.items c.feed.new.out.items c.in_ok-going.going c.turn_of.result c.loop-number.invariant.fed
    c.in_ok-going.ensures.said sent ended all (c.turn_of.ensures.sent ∙ first) c.turn_of.ensures.got in
    (r.part, r.run, r.talked)

pub loop-number-preserved : goal.loop-number-preserved
loop-number-preserved g c =
    let more : c.in_ok-going.going ≡ More = search rules in
    let i = c.loop-number.number in
    let pieces = c.args.pieces in
    let same = c.loop-number.invariant.same in
    let within : i < length pieces = omega (arith, c.loop-number-test.true, c.len-count.ensures) in
    let piece : c.piece.result.now ≡ get_or pieces i [] =
    c.piece.ensures ∙ ap (λ (l : List (List ℕ)). get_or l i []) same in
    let next : take i pieces ++ c.piece.result.now ∷ [] ≡ take (i + 1) pieces =
    sym (one_piece_more pieces i within ∙ ap (λ (x : List ℕ). take i pieces ++ x ∷ []) (sym piece)) in
    let sent : concat (take (i + 1) pieces) ≡ concat (take i pieces) ++ c.piece.result.now =
    joined_one_more pieces i within ∙ ap (λ (x : List ℕ). concat (take i pieces) ++ x) (sym piece) in
    record {
      same = same;
      fed = subst (λ (l : List (List ℕ)). HasFedPieces g.P.Peer.agrees c.args.peer.now c.feed.new.self l
          (concat (take (i + 1) pieces)) c.feed.new.out.items) next
          (fed_more g.P.Peer.agrees c.args.peer.now c.loop-number.peer c.feed.new.self
          (take i pieces) c.piece.result.now (concat (take i pieces))
          (concat (take (i + 1) pieces)) c.loop-number.got.items c.feed.new.out.items
          c.in_ok-going.going c.loop-number.invariant.fed c.in_ok-going.ensures.said sent more);
    }

pub returns : goal.returns
returns g c =
    let i = c.loop-number.number in
    let pieces = c.args.pieces in
    let same = c.loop-number.invariant.same in
    let all : take i pieces ≡ pieces = take_all i pieces
    (omega (arith, c.loop-number-test.false, c.len-count.ensures)) in
    let count : c.len-count.result ≡ length pieces = c.len-count.ensures in
    let first : c.into_first-sent-2.result.items ≡ concat pieces =
    c.into_first-sent-2.ensures ∙ ap (λ (l : List (List ℕ)). concat (take c.len-count.result l)) same
    ∙ ap (λ (l : List (List ℕ)). concat l) (take_all c.len-count.result pieces (omega (arith, count))) in
    let fed : HasFedPieces g.P.Peer.agrees c.args.peer.now c.loop-number.peer pieces
    (concat pieces) c.loop-number.got.items =
    subst (λ (l : List (List ℕ)). HasFedPieces g.P.Peer.agrees c.args.peer.now c.loop-number.peer l
    (concat l) c.loop-number.got.items) all c.loop-number.invariant.fed in
    let r = turn_run g.P.Peer.agrees c.args.peer.now c.loop-number.peer pieces
    (concat pieces) c.loop-number.got.items c.turn_of-2.result fed
    (c.turn_of-2.ensures.sent ∙ first) c.turn_of-2.ensures.got in
    (r.part, r.run, r.talked)
