-- The run of a turn, piece after piece, and that of a script, turn after turn.
use Rattle.std.proofs.Common.{◌≡◌, ℕ, List, [], ◌∷◌, ◌++◌, refl, sym, ap, ◌∙◌, subst, append_assoc, append-nil, inl}
use Rattle.std.proofs.Common.{inr, length, ◌+◌, ◌<◌, arith, get_or, take}
use Rattle.std.specs.Prelude.{map}
use Rattle.std.specs.List.{AllByRecursion, concat}
use Rattle.std.proofs.lemmas.List.{length-append, map-append, take_more}
use Rattle.std.proofs.lemmas.Grind.{flat_map-append}
use Rattle.ws_scripts.specs.declared.transcript.Turn.{Turn}
use Rattle.ws_scripts.specs.declared.transcript.Transcript.{Transcript}
use Rattle.ws_scripts.specs.declared.transcript.Ended.TheVariants.{Tester, Peer}
use Rattle.ws_peer.specs.declared.peer.Going.{Going}
use Rattle.ws_peer.specs.declared.peer.Going.TheVariants.{More, Ended}
use Rattle.ws_peer.specs.Talks.{Entry, Fed, Finished, PeerEnd, Says, fed_in, appended_in}
use Rattle.ws_peer.specs.Runs.{PeerGoesOn, Talked, IsRunOf, joined_talk, pieces_in, pieces_by_turn, turn_of, with_finish}
use Rattle.ws_peer.specs.InnerTurnRuns.{IsTurnRun}
use Rattle.ws_peer.proofs.Talking.{fed_in-more, appended_in-more, pieces_in-more, talked_nothing, talked_more, said, goes_on_more, goes_on_both}

-- ---- a turn

-- these pieces of a turn were fed, and the peer goes on
pub record HasFedPieces {P : Type 0} (agrees : P → PeerEnd → List Entry → Type 0) (old new : P) (pieces : List (List ℕ)) (sent got : List ℕ) : Type 0 where
  pub part : List Entry
  pub sent_is : sent ≡ fed_in part
  pub got_is : got ≡ appended_in part
  pub fed : pieces_in part ≡ pieces
  pub goes_on : AllByRecursion PeerGoesOn part
  pub talked : Talked agrees old new part

pub fed_none : {P : Type 0} (agrees : P → PeerEnd → List Entry → Type 0) (p : P) (sent got : List ℕ) → sent ≡ [] → got ≡ [] → HasFedPieces agrees p p [] sent got
fed_none agrees p sent got s g = record { part = []; sent_is = s; got_is = g; fed = refl; goes_on = tt; talked = talked_nothing agrees p }

-- what one more call leaves, whatever its answer
pub record HasFedLast {P : Type 0} (agrees : P → PeerEnd → List Entry → Type 0) (old new : P) (before : List Entry) (piece : List ℕ) (going : Going) (sent got : List ℕ) : Type 0 where
  pub appended : List ℕ
  pub sent_is : sent ≡ fed_in (before ++ Fed piece appended going ∷ [])
  pub got_is : got ≡ appended_in (before ++ Fed piece appended going ∷ [])
  pub talked : Talked agrees old new (before ++ Fed piece appended going ∷ [])

pub fed_last : {P : Type 0} (agrees : P → PeerEnd → List Entry → Type 0) (old mid new : P) (pieces : List (List ℕ)) (piece sent sent_after got got_after : List ℕ) (going : Going)
    → (h : HasFedPieces agrees old mid pieces sent got) → Says agrees mid new (λ appended. Fed piece appended going) got got_after → sent_after ≡ sent ++ piece
    → HasFedLast agrees old new h.part piece going sent_after got_after
fed_last agrees old mid new pieces piece sent sent_after got got_after going h says s =
    let entry = Fed piece says.appended going in
    record {
      appended = says.appended;
      sent_is = s ∙ ap (λ (l : List ℕ). l ++ piece) h.sent_is ∙ sym (fed_in-more h.part entry);
      got_is = says.grown ∙ ap (λ (l : List ℕ). l ++ says.appended) h.got_is ∙ sym (appended_in-more h.part entry);
      talked = talked_more agrees old mid new h.part (entry ∷ []) h.talked (said agrees mid new (λ appended. Fed piece appended going) got got_after says);
    }

pub fed_more : {P : Type 0} (agrees : P → PeerEnd → List Entry → Type 0) (old mid new : P) (pieces : List (List ℕ)) (piece sent sent_after got got_after : List ℕ) (going : Going)
    → HasFedPieces agrees old mid pieces sent got → Says agrees mid new (λ appended. Fed piece appended going) got got_after → sent_after ≡ sent ++ piece → going ≡ More
    → HasFedPieces agrees old new (pieces ++ piece ∷ []) sent_after got_after
fed_more agrees old mid new pieces piece sent sent_after got got_after going h says s more =
    let l = fed_last agrees old mid new pieces piece sent sent_after got got_after going h says s in
    record {
      part = h.part ++ Fed piece l.appended going ∷ [];
      sent_is = l.sent_is;
      got_is = l.got_is;
      fed = pieces_in-more h.part (Fed piece l.appended going) ∙ ap (λ (x : List (List ℕ)). x ++ piece ∷ []) h.fed;
      goes_on = goes_on_more h.part (Fed piece l.appended going) h.goes_on more;
      talked = l.talked;
    }

-- the bytes of one more piece
joined_more : (pieces : List (List ℕ)) (piece : List ℕ) → concat (pieces ++ piece ∷ []) ≡ concat pieces ++ piece
joined_more [] piece = append-nil piece
joined_more (x ∷ pieces) piece = ap (λ (l : List ℕ). x ++ l) (joined_more pieces piece)
    ∙ sym (append_assoc x (concat pieces) piece)

-- the first pieces, and one more, and the pieces after it
pub one_piece_more : (pieces : List (List ℕ)) (i : ℕ) → i < length pieces
    → take (i + 1) pieces ≡ take i pieces ++ get_or pieces i [] ∷ []
one_piece_more pieces i more = take_more pieces i [] more

pub joined_one_more : (pieces : List (List ℕ)) (i : ℕ) → i < length pieces
    → concat (take (i + 1) pieces) ≡ concat (take i pieces) ++ get_or pieces i []
joined_one_more pieces i more = ap (λ (l : List (List ℕ)). concat l) (one_piece_more pieces i more)
    ∙ joined_more (take i pieces) (get_or pieces i [])

-- a turn, and that each talk leads on
pub record HasRunTurn {P : Type 0} (agrees : P → PeerEnd → List Entry → Type 0) (old new : P) (pieces : List (List ℕ)) (turn : Turn) (going : Going) : Type 0 where
  pub part : List Entry
  pub run : IsTurnRun pieces part turn going
  pub talked : Talked agrees old new part

turn_is : (turn : Turn) (part : List Entry) → turn.sent ≡ fed_in part → turn.got ≡ appended_in part → turn ≡ turn_of part
turn_is turn part s g = ap (λ (l : List ℕ). record { sent = l; got = turn.got }) s ∙ ap (λ (l : List ℕ). record { sent = fed_in part; got = l }) g

pub turn_run : {P : Type 0} (agrees : P → PeerEnd → List Entry → Type 0) (old new : P) (pieces : List (List ℕ)) (sent got : List ℕ) (turn : Turn)
    → (h : HasFedPieces agrees old new pieces sent got) → turn.sent ≡ sent → turn.got ≡ got → HasRunTurn agrees old new pieces turn More
turn_run agrees old new pieces sent got turn h s g = record {
  part = h.part;
  run = record { ends = record { all = h.fed; goes_on = h.goes_on }; recorded = turn_is turn h.part (s ∙ h.sent_is) (g ∙ h.got_is) };
  talked = h.talked;
}

pub turn_ended : {P : Type 0} (agrees : P → PeerEnd → List Entry → Type 0) (old mid new : P) (all fed others : List (List ℕ)) (piece sent sent_after got got_after : List ℕ) (going : Going) (turn : Turn)
    → HasFedPieces agrees old mid fed sent got → Says agrees mid new (λ appended. Fed piece appended going) got got_after → sent_after ≡ sent ++ piece → going ≡ Ended
    → all ≡ (fed ++ piece ∷ []) ++ others → turn.sent ≡ sent_after → turn.got ≡ got_after → HasRunTurn agrees old new all turn Ended
turn_ended agrees old mid new all fed others piece sent sent_after got got_after going turn h says s is e ts tg =
    let l = fed_last agrees old mid new fed piece sent sent_after got got_after going h says s in
    let part = h.part ++ Fed piece l.appended going ∷ [] in
    record {
      part = part;
      run = record {
        ends = record {
          others = others;
          some = e ∙ ap (λ (x : List (List ℕ)). x ++ others) (sym (pieces_in-more h.part (Fed piece l.appended going) ∙ ap (λ (x : List (List ℕ)). x ++ piece ∷ []) h.fed));
          before = h.part;
          piece = piece;
          appended = l.appended;
          last = ap (λ (x : Going). h.part ++ Fed piece l.appended x ∷ []) is;
          goes_on = h.goes_on;
        };
        recorded = turn_is turn part (ts ∙ l.sent_is) (tg ∙ l.got_is);
      };
      talked = l.talked;
    }

-- a turn at whose last piece the peer ended has a piece
some_last : (part before : List Entry) (piece appended : List ℕ) → part ≡ before ++ Fed piece appended Ended ∷ [] → 0 < length (pieces_in part)
some_last part before piece appended last =
    omega (arith, ap (λ (x : List Entry). length (pieces_in x)) last, ap (λ (x : List (List ℕ)). length x) (pieces_in-more before (Fed piece appended Ended)), length-append (pieces_in before) (piece ∷ []))

-- ---- a script

-- these turns were run, and the peer goes on
pub record HasRunTurns {P : Type 0} (agrees : P → PeerEnd → List Entry → Type 0) (old new : P) (turns : List (List (List ℕ))) (recorded : List Turn) : Type 0 where
  pub parts : List (List Entry)
  pub recorded_is : recorded ≡ map turn_of parts
  pub pieces : pieces_by_turn parts ≡ turns
  pub goes_on : AllByRecursion PeerGoesOn (joined_talk parts)
  pub talked : Talked agrees old new (joined_talk parts)

pub run_none : {P : Type 0} (agrees : P → PeerEnd → List Entry → Type 0) (p : P) (recorded : List Turn) → recorded ≡ [] → HasRunTurns agrees p p [] recorded
run_none agrees p recorded r = record { parts = []; recorded_is = r; pieces = refl; goes_on = tt; talked = talked_nothing agrees p }

joined-more : (parts : List (List Entry)) (part : List Entry) → joined_talk (parts ++ part ∷ []) ≡ joined_talk parts ++ part
joined-more parts part = flat_map-append (λ (x : List Entry). x) parts (part ∷ []) ∙ ap (λ (l : List Entry). joined_talk parts ++ l) (append-nil part)

recorded-more : (parts : List (List Entry)) (part : List Entry) (recorded after : List Turn) (turn : Turn) → recorded ≡ map turn_of parts → turn ≡ turn_of part → after ≡ recorded ++ turn ∷ [] → after ≡ map turn_of (parts ++ part ∷ [])
recorded-more parts part recorded after turn r t a =
    a ∙ ap (λ (l : List Turn). l ++ turn ∷ []) r ∙ ap (λ (x : Turn). map turn_of parts ++ x ∷ []) t ∙ sym (map-append turn_of parts (part ∷ []))

talked-more : {P : Type 0} (agrees : P → PeerEnd → List Entry → Type 0) (old mid new : P) (parts : List (List Entry)) (part : List Entry) → Talked agrees old mid (joined_talk parts) → Talked agrees mid new part → Talked agrees old new (joined_talk (parts ++ part ∷ []))
talked-more agrees old mid new parts part a b = subst (λ (l : List Entry). Talked agrees old new l) (sym (joined-more parts part)) (talked_more agrees old mid new (joined_talk parts) part a b)

pub run_more : {P : Type 0} (agrees : P → PeerEnd → List Entry → Type 0) (old mid new : P) (turns : List (List (List ℕ))) (pieces : List (List ℕ)) (recorded after : List Turn) (turn : Turn) (going : Going)
    → HasRunTurns agrees old mid turns recorded → HasRunTurn agrees mid new pieces turn going → going ≡ More → after ≡ recorded ++ turn ∷ [] → HasRunTurns agrees old new (turns ++ pieces ∷ []) after
run_more agrees old mid new turns pieces recorded after turn going h t more a =
    let r : IsTurnRun pieces t.part turn More = subst (λ (x : Going). IsTurnRun pieces t.part turn x) more t.run in
    record {
      parts = h.parts ++ t.part ∷ [];
      recorded_is = recorded-more h.parts t.part recorded after turn h.recorded_is r.recorded a;
      pieces = map-append pieces_in h.parts (t.part ∷ []) ∙ ap (λ (l : List (List (List ℕ))). l ++ pieces_in t.part ∷ []) h.pieces ∙ ap (λ (l : List (List ℕ)). turns ++ l ∷ []) r.ends.all;
      goes_on = subst (λ (l : List Entry). AllByRecursion PeerGoesOn l) (sym (joined-more h.parts t.part)) (goes_on_both (joined_talk h.parts) t.part h.goes_on r.ends.goes_on);
      talked = talked-more agrees old mid new h.parts t.part h.talked t.talked;
    }

-- the first of these turns were run, and those left are still to be
pub record HasRunFirst {P : Type 0} (agrees : P → PeerEnd → List Entry → Type 0) (old new : P)
    (all left : List (List (List ℕ))) (recorded : List Turn) : Type 0 where
  pub done : List (List (List ℕ))
  pub split : all ≡ done ++ left
  pub run : HasRunTurns agrees old new done recorded

pub run_first : {P : Type 0} (agrees : P → PeerEnd → List Entry → Type 0) (old mid new : P)
    (all left after : List (List (List ℕ))) (pieces : List (List ℕ)) (recorded written : List Turn) (turn : Turn)
    (going : Going)
    → HasRunFirst agrees old mid all left recorded → left ≡ pieces ∷ after
    → HasRunTurn agrees mid new pieces turn going → going ≡ More → written ≡ recorded ++ turn ∷ []
    → HasRunFirst agrees old new all after written
run_first agrees old mid new all left after pieces recorded written turn going h e t more w = record {
  done = h.done ++ pieces ∷ [];
  split = h.split ∙ (ap (λ (l : List (List (List ℕ))). h.done ++ l) e ∙ sym (append_assoc h.done (pieces ∷ []) after));
  run = run_more agrees old mid new h.done pieces recorded written turn going h.run t more w;
}

-- a run, and that each talk leads on
pub record HasRun {P : Type 0} (agrees : P → PeerEnd → List Entry → Type 0) (old new : P) (turns : List (List (List ℕ))) (transcript : Transcript) : Type 0 where
  pub talk : List Entry
  pub run : IsRunOf turns talk transcript
  pub talked : Talked agrees old new talk

pub run_ended : {P : Type 0} (agrees : P → PeerEnd → List Entry → Type 0) (old mid new : P) (all before after : List (List (List ℕ))) (pieces : List (List ℕ)) (recorded written : List Turn) (turn : Turn) (going : Going) (transcript : Transcript)
    → HasRunTurns agrees old mid before recorded → HasRunTurn agrees mid new pieces turn going → going ≡ Ended → written ≡ recorded ++ turn ∷ []
    → all ≡ before ++ pieces ∷ after → transcript.turns ≡ written → transcript.ended ≡ Peer → HasRun agrees old new all transcript
run_ended agrees old mid new all before after pieces recorded written turn going transcript h t is w e tw te =
    let r : IsTurnRun pieces t.part turn Ended = subst (λ (x : Going). IsTurnRun pieces t.part turn x) is t.run in
    let parts = h.parts ++ t.part ∷ [] in
    record {
      talk = joined_talk parts;
      run = inr (record {
        ended = te;
        parts = parts;
        talk_is = refl;
        before = joined_talk h.parts ++ r.ends.before;
        piece = r.ends.piece;
        appended = r.ends.appended;
        last = joined-more h.parts t.part ∙ ap (λ (l : List Entry). joined_talk h.parts ++ l) r.ends.last ∙ sym (append_assoc (joined_talk h.parts) r.ends.before (Fed r.ends.piece r.ends.appended Ended ∷ []));
        goes_on = goes_on_both (joined_talk h.parts) r.ends.before h.goes_on r.ends.goes_on;
        pieces = record {
          before = before;
          first = pieces_in t.part;
          others = r.ends.others;
          after = after;
          are_fed = map-append pieces_in h.parts (t.part ∷ []) ∙ ap (λ (l : List (List (List ℕ))). l ++ pieces_in t.part ∷ []) h.pieces;
          are_turns = e ∙ ap (λ (l : List (List ℕ)). before ++ l ∷ after) r.ends.some;
          some = some_last t.part r.ends.before r.ends.piece r.ends.appended r.ends.last;
        };
        recorded = tw ∙ recorded-more h.parts t.part recorded written turn h.recorded_is r.recorded w;
      });
      talked = talked-more agrees old mid new h.parts t.part h.talked t.talked;
    }

pub run_finished : {P : Type 0} (agrees : P → PeerEnd → List Entry → Type 0) (old mid new : P) (turns all : List (List (List ℕ))) (left : List ℕ) (recorded written : List Turn) (transcript : Transcript)
    → HasRunTurns agrees old mid turns recorded → Talked agrees mid new (Finished left ∷ []) → turns ≡ all → written ≡ with_finish recorded left
    → transcript.turns ≡ written → transcript.ended ≡ Tester → HasRun agrees old new all transcript
run_finished agrees old mid new turns all left recorded written transcript h f e w tw te = record {
  talk = joined_talk h.parts ++ Finished left ∷ [];
  run = inl (record {
    ended = te;
    parts = h.parts;
    left = left;
    talk_is = refl;
    goes_on = h.goes_on;
    pieces = h.pieces ∙ e;
    recorded = tw ∙ w ∙ ap (λ (l : List Turn). with_finish l left) h.recorded_is;
  });
  talked = talked_more agrees old mid new (joined_talk h.parts) (Finished left ∷ []) h.talked f;
}

-- ---- the finish

pub finish_last : (turns : List Turn) (turn : Turn) (left : List ℕ) → with_finish (turns ++ turn ∷ []) left ≡ turns ++ record { sent = turn.sent; got = turn.got ++ left } ∷ []
finish_last [] turn left = refl
finish_last (x ∷ []) turn left = refl
finish_last (x ∷ y ∷ turns) turn left = ap (λ (l : List Turn). x ∷ l) (finish_last (y ∷ turns) turn left)
