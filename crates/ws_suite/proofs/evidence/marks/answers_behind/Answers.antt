-- What is behind the close is all that was got but what is before; where none was got no pong is behind it.
use Rattle.std.proofs.Common.{◌≡◌, ◌∙◌, ◌+◌, ◌-◌, ℕ, Bool, List, [], MatchBool, ap, arith, drop, length, subst, sym}
use Rattle.std.proofs.lemmas.List.{length-drop}
use Rattle.std.specs.List.{concat}
use Rattle.ws_wire.specs.declared.role.Role.{Role}
use Rattle.ws_wire.specs.Frame.{WireFrame}
use Rattle.ws_wire.specs.Stream.{SplitsIntoAnyForm}
use Rattle.ws_suite.specs.declared.evidence.InTurn.{InTurn}
use Rattle.ws_suite.specs.declared.evidence.Reply.{Reply}
use Rattle.ws_suite.specs.declared.evidence.marks.Told.{Told}
use Rattle.ws_suite.specs.Evidence.{got_turns, other_role}
use Rattle.ws_suite.specs.InnerMarks.{HavePongsAmong, IsToldStream}
use Rattle.ws_suite.specs.Marks.{ArePongsAmong, ArePongsBehind}
use Rattle.ws_suite.proofs.ToldLemmas.{all_asked, behind_told}
use Rattle.ws_suite.proofs.evidence.marks.answers_behind.Goals as goal

module _ (role : Role) (turns : List (List ℕ)) (told : Told) (h : IsToldStream role (concat turns) told) where
  abbrev behind : List ℕ
  behind = drop told.seen.after (concat turns)

  all_there : told.seen.after + length behind ≡ length (concat turns)
  all_there = omega (arith, length-drop told.seen.after (concat turns), h.is_seen.within)

  are_behind : (pongs : List (InTurn Reply)) → HavePongsAmong role turns told.seen.after behind pongs
      → ArePongsBehind role turns pongs
  are_behind pongs (frames, rest, split, among) =
      let place : told.seen.after ≡ length (concat turns) - length behind = omega (arith, all_there) in
      record {
        events = h.is_seen.events;
        are_events = h.is_seen.are_events;
        behind = behind;
        stand_behind = h.is_seen.behind;
        frames = frames;
        rest = rest;
        split = split;
        among = subst (λ (n : ℕ). ArePongsAmong role turns n frames pongs) place among;
      }

pub behind-requires : goal.behind-requires
behind-requires c =
    all_asked (other_role c.args.tested) (concat (got_turns c.args.transcript.now.turns)) c.args.got.now c.requires

pub pongs_behind-requires : goal.pongs_behind-requires
pongs_behind-requires c =
    let role = other_role c.args.tested in
    let turns = got_turns c.args.transcript.now.turns in
    let at = c.behind.ensures ∙ behind_told role (concat turns) c.args.got.now c.requires in
    ap (λ (l : List ℕ). c.args.got.now.seen.after + length l) at ∙ all_there role turns c.args.got.now c.requires

pub returns : goal.returns
returns c =
    let turns = got_turns c.args.transcript.now.turns in
    let told = c.args.got.now in
    let at = c.behind.ensures ∙ behind_told (other_role c.args.tested) (concat turns) told c.requires in
    let pongs = c.in_ok-pongs.pongs in
    let among : HavePongsAmong (other_role c.args.tested) turns told.seen.after (drop told.seen.after (concat turns)) pongs =
    subst (λ (r : Role). HavePongsAmong r turns told.seen.after (drop told.seen.after (concat turns)) pongs)
    c.other-role.ensures
    (subst (λ (l : List ℕ). HavePongsAmong c.other-role.result turns told.seen.after l pongs) at
    c.in_ok-pongs.ensures) in
    subst (λ (b : Bool). MatchBool b (ArePongsBehind (other_role c.args.tested) turns pongs) (pongs ≡ []))
    (sym c.if-not-is_closed.false) (are_behind (other_role c.args.tested) turns told c.requires pongs among)
