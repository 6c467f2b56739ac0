-- Where a tap stands, behind each event.
use Rattle.std.proofs.Common.{◌≡◌, ℕ, ◌<◌, ◌≤◌, Bool, true, false, List, [], ◌∷◌, ◌++◌, length, take, refl}
use Rattle.std.proofs.Common.{sym}
use Rattle.std.proofs.Common.{ap, ◌∙◌, ◌&&◌, append-nil, arith, subst, Ok, Err, Option, Some, None}
use Rattle.std.proofs.Common.{Result}
use Rattle.ws_wire.specs.declared.role.Role.{Role}
use Rattle.ws_wire.specs.declared.role.Role.TheVariants.{Client, Server}
use Rattle.ws_frame.specs.declared.show_fault.ShowFault.{ShowFault}
use Rattle.ws_frame.specs.declared.writing_whole.WriteFault.{WriteFault}
use Rattle.ws_frame.specs.Devices.{Device, HasWritten}
use Rattle.ws_tap.specs.declared.tapped.Tapped.{Tapped}
use Rattle.ws_tap.specs.declared.tap.Tap.{Tap}
use Rattle.ws_tap.specs.declared.tap_lines.TapLines.{TapLines}
use Rattle.ws_tap.specs.Told.{TapTold, CameFrom, EndedBy, TakenBy, EndedTo, ArePassedOn, IsPassedOn, Passage}
use Rattle.ws_tap.specs.Told.{first_ended, other_end}
use Rattle.ws_tap.specs.Told.{passage, passage_after}
use Rattle.ws_tap.specs.Texts.{BeginsDue, TellsOfBoth, all_text}
use Rattle.ws_tap.specs.Piping.{PipeValue, IsPipeOf, is_passed, with_direction_ended, with_end_come, with_piece}
use Rattle.ws_tap.specs.Piping.{with_bytes_taken}
use Rattle.ws_tap.specs.Standing.{CanTellMore, TellsPieceOf, TellsEnded}
use Rattle.ws_tap.specs.Tapping.{HasTapped, StandsEnded, StandsOn, ends_wanted, first_end_of, pipe_from, room_from}
use Rattle.ws_tap.specs.Tapping.{waits_for}
use Rattle.ws_tap.specs.Tapping.{is_tap_over, with_end_by, with_pipe}
use Rattle.ws_tap.proofs.Passages.{first_known, first_now, first_stays, here, passage_with}
use Rattle.ws_tap.proofs.PipeLemmas.{has_room, is_passed_on, open_is, passed_is, pipe_came, pipe_ended, pipe_passed}
use Rattle.ws_tap.proofs.PipeLemmas.{pipe_took}
use Rattle.ws_tap.proofs.TapLemmas.{all_text_more}
use Rattle.ws_tap.proofs.ToldLemmas.{both_passed, both_taken, lines_tell, told_same}

-- ---- its pipes

pub pipe_stands : (role : Role) (tapped : Tapped) (told : List TapTold) (tap : Tap) (text : List ℕ)
    → HasTapped tapped told tap text → IsPipeOf (pipe_from role tap) (passage role told)
pipe_stands Client tapped told tap text h = h.client
pipe_stands Server tapped told tap text h = h.server

pub passed_on : (tapped : Tapped) (told : List TapTold) (tap : Tap) (text : List ℕ) → HasTapped tapped told tap text
    → ArePassedOn told
passed_on tapped told tap text h = record {
  client = is_passed_on tap.client (passage Client told) h.client;
  server = is_passed_on tap.server (passage Server told) h.server;
}

-- an end that may be read can be told
pub can_tell : (role : Role) (tapped : Tapped) (told : List TapTold) (tap : Tap) (text : List ℕ) (count : ℕ)
    → HasTapped tapped told tap text → 0 < room_from role tap → count ≤ room_from role tap
    → CanTellMore role count tap.lines
can_tell role tapped told tap text count h some fits =
    let pipe = pipe_from role tap in
    let s = pipe_stands role tapped told tap text h in
    let (none, is_open, most, counts) = has_room pipe.held pipe.stage pipe.total some in record {
      tapped = tapped;
      told = told;
      parts = h.parts;
      stands = h.lines;
      going = open_is (passage role told).ended (passage role told).passed (sym is_open ∙ s.stage);
      fits = omega (arith, counts, fits, s.count);
    }

-- the pipes of both ends behind an event that is one of this direction
record PipesStand (told : List TapTold) (to_server to_client : PipeValue) : Type 0 where
  pub client : IsPipeOf to_server (passage Client told)
  pub server : IsPipeOf to_client (passage Server told)

pipes_on : (role : Role) (told : List TapTold) (event : TapTold) (tap : Tap) (pipe : PipeValue)
    → IsPipeOf tap.client (passage Client told) → IsPipeOf tap.server (passage Server told)
    → IsPipeOf pipe (passage_after role (passage role told) event)
    → passage_after (other_end role) (passage (other_end role) told) event ≡ passage (other_end role) told
    → PipesStand (told ++ event ∷ []) (with_pipe role tap pipe).client (with_pipe role tap pipe).server
pipes_on Client told event tap pipe c s own other = record {
  client = subst (λ (p : Passage). IsPipeOf pipe p) (sym (passage_with Client told event)) own;
  server = subst (λ (p : Passage). IsPipeOf tap.server p) (sym (passage_with Server told event ∙ other)) s;
}
pipes_on Server told event tap pipe c s own other = record {
  client = subst (λ (p : Passage). IsPipeOf tap.client p) (sym (passage_with Client told event ∙ other)) c;
  server = subst (λ (p : Passage). IsPipeOf pipe p) (sym (passage_with Server told event)) own;
}

are_passed_on : (told : List TapTold) (to_server to_client : PipeValue) → PipesStand told to_server to_client
    → ArePassedOn told
are_passed_on told to_server to_client s = record {
  client = is_passed_on to_server (passage Client told) s.client;
  server = is_passed_on to_client (passage Server told) s.server;
}

came_elsewhere : (role : Role) (p : Passage) (piece : List ℕ)
    → passage_after (other_end role) p (CameFrom role piece) ≡ p
came_elsewhere Client p piece = refl
came_elsewhere Server p piece = refl

end_elsewhere : (role : Role) (p : Passage) → passage_after (other_end role) p (EndedBy role) ≡ p
end_elsewhere Client p = refl
end_elsewhere Server p = refl

both_true : (a b : Bool) → (a && b) ≡ true → (a ≡ true) × (b ≡ true)
both_true true true e = (refl, refl)
both_true true false e = absurd cc
both_true false b e = absurd cc

-- the first end, behind the end of a direction
first_by : (first : Option Role) (told : List TapTold) (role : Role) → first ≡ first_ended told
    → first_end_of first role ≡ first_ended (told ++ EndedBy role ∷ [])
first_by None told role e = sym (first_now told role (sym e))
first_by (Some known) told role e = sym (first_known told (EndedBy role) known (sym e))

first_at : (role : Role) (tap : Tap) (pipe : PipeValue) → (with_pipe role tap pipe).first ≡ tap.first
first_at Client tap pipe = refl
first_at Server tap pipe = refl

pub lines_at : (role : Role) (tap : Tap) (pipe : PipeValue) → (with_pipe role tap pipe).lines ≡ tap.lines
lines_at Client tap pipe = refl
lines_at Server tap pipe = refl

-- a piece is held whatever the lines are
pub held_behind : (role : Role) (tap : Tap) (lines : TapLines) (piece : List ℕ)
    → with_pipe role (record tap { lines = lines }) (with_piece (pipe_from role (record tap { lines = lines })) piece)
    ≡ record (with_pipe role tap (with_piece (pipe_from role tap) piece)) { lines = lines }
held_behind Client tap lines piece = refl
held_behind Server tap lines piece = refl

pub room_behind : (role : Role) (tap : Tap) (lines : TapLines)
    → room_from role (record tap { lines = lines }) ≡ room_from role tap
room_behind Client tap lines = refl
room_behind Server tap lines = refl

-- an end that may be read hasn't ended its direction
pub going_at : (role : Role) (tapped : Tapped) (told : List TapTold) (tap : Tap) (text : List ℕ)
    → HasTapped tapped told tap text → 0 < room_from role tap → (passage role told).ended ≡ false
going_at role tapped told tap text h some =
    let pipe = pipe_from role tap in
    let s = pipe_stands role tapped told tap text h in
    let (none, is_open, most, counts) = has_room pipe.held pipe.stage pipe.total some in
    open_is (passage role told).ended (passage role told).passed (sym is_open ∙ s.stage)

came_pipes : (role : Role) (tapped : Tapped) (told : List TapTold) (old : Tap) (text piece : List ℕ)
    → 0 < length piece → length piece ≤ room_from role old → HasTapped tapped told old text
    → PipesStand (told ++ CameFrom role piece ∷ []) (with_pipe role old (with_piece (pipe_from role old) piece)).client
    (with_pipe role old (with_piece (pipe_from role old) piece)).server
came_pipes role tapped told old text piece some fits h =
    let p = passage role told in
    let pipe = pipe_from role old in
    pipes_on role told (CameFrom role piece) old (with_piece pipe piece) h.client h.server
    (subst (λ (x : Passage). IsPipeOf (with_piece pipe piece) x) (sym (here role
    (record p { came = p.came ++ piece }) p))
    (pipe_came pipe p piece some fits (pipe_stands role tapped told old text h)))
    (came_elsewhere role (passage (other_end role) told) piece)

end_pipes : (role : Role) (tapped : Tapped) (told : List TapTold) (old : Tap) (text : List ℕ)
    → 0 < room_from role old → HasTapped tapped told old text
    → PipesStand (told ++ EndedBy role ∷ []) (with_pipe role old (with_end_come (pipe_from role old))).client
    (with_pipe role old (with_end_come (pipe_from role old))).server
end_pipes role tapped told old text some h =
    let p = passage role told in
    let pipe = pipe_from role old in
    pipes_on role told (EndedBy role) old (with_end_come pipe) h.client h.server
    (subst (λ (x : Passage). IsPipeOf (with_end_come pipe) x) (sym (here role (record p { ended = true }) p))
    (pipe_ended pipe p some (pipe_stands role tapped told old text h)))
    (end_elsewhere role (passage (other_end role) told))

-- ---- each event

-- these bytes came, and this was told
pub tap_came : (role : Role) (old : Tap) (lines : TapLines) (piece : List ℕ) (output : Device)
    (result : Result (Unit {0}) ShowFault) (tapped : Tapped) (told : List TapTold) (text : List ℕ)
    → 0 < length piece → length piece ≤ room_from role old → TellsPieceOf role old.lines lines piece output result
    → HasTapped tapped told old text → (more : List ℕ) × HasWritten more output
    × StandsOn tapped (told ++ CameFrom role piece ∷ [])
    (record (with_pipe role old (with_piece (pipe_from role old) piece)) { lines = lines }) (text ++ more) output.failed
    result
tap_came role old lines piece output (Ok tt) tapped told text some fits tells h =
    let pipes = came_pipes role tapped told old text piece some fits h in
    let (more, wrote, (works, now)) = tells tapped told h.parts h.lines
    (going_at role tapped told old text h (omega (arith, some, fits))) in (
      all_text more,
      wrote,
      (
        works,
        record {
          client = pipes.client;
          server = pipes.server;
          first = first_at role old (with_piece (pipe_from role old) piece)
              ∙ (h.first ∙ sym (first_stays told (CameFrom role piece) refl));
          parts = h.parts ++ more;
          lines = now;
          all = ap (λ (t : List ℕ). t ++ all_text more) h.all ∙ sym (all_text_more h.parts more);
        },
      ),
    )
tap_came role old lines piece output (Err fault) tapped told text some fits tells h =
    let pipes = came_pipes role tapped told old text piece some fits h in
    let (more, wrote, (failed, fair, due)) = tells tapped told h.parts h.lines
    (going_at role tapped told old text h (omega (arith, some, fits))) in (
      all_text more,
      wrote,
      (
        failed,
        fair,
        are_passed_on (told ++ CameFrom role piece ∷ []) _ _ pipes,
        subst (λ (t : List ℕ). BeginsDue tapped (told ++ CameFrom role piece ∷ []) t)
            (all_text_more h.parts more ∙ ap (λ (t : List ℕ). t ++ all_text more) (sym h.all)) due,
      ),
    )

-- a direction has ended, and this was told
pub tap_ended : (role : Role) (old : Tap) (lines : TapLines) (output : Device)
    (result : Result (Unit {0}) WriteFault) (tapped : Tapped) (told : List TapTold) (text : List ℕ)
    → 0 < room_from role old → TellsEnded role old.lines lines output result
    → HasTapped tapped told old text → (more : List ℕ) × HasWritten more output
    × StandsEnded tapped (told ++ EndedBy role ∷ []) (record (with_end_by role old) { lines = lines }) (text ++ more)
    output.failed result
tap_ended role old lines output (Ok tt) tapped told text some tells h =
    let pipes = end_pipes role tapped told old text some h in
    let (more, wrote, (works, now)) = tells tapped told h.parts h.lines (going_at role tapped told old text h some) in (
      all_text more,
      wrote,
      (
        works,
        record {
          client = pipes.client;
          server = pipes.server;
          first = first_by old.first told role h.first;
          parts = h.parts ++ more;
          lines = now;
          all = ap (λ (t : List ℕ). t ++ all_text more) h.all ∙ sym (all_text_more h.parts more);
        },
      ),
    )
tap_ended role old lines output (Err fault) tapped told text some tells h =
    let pipes = end_pipes role tapped told old text some h in
    let going = going_at role tapped told old text h some in
    let (more, wrote, (failed, due)) = tells tapped told h.parts h.lines going in (
      all_text more,
      wrote,
      (
        failed,
        are_passed_on (told ++ EndedBy role ∷ []) _ _ pipes,
        subst (λ (t : List ℕ). BeginsDue tapped (told ++ EndedBy role ∷ []) t)
            (all_text_more h.parts more ∙ ap (λ (t : List ℕ). t ++ all_text more) (sym h.all)) due,
      ),
    )

-- bytes were taken by an end
pub tap_took : (role : Role) (old : Tap) (count : ℕ) (tapped : Tapped) (told : List TapTold) (text : List ℕ)
    → HasTapped tapped told old text
    → HasTapped tapped (told ++ TakenBy role (take count (waits_for role old)) ∷ [])
    (with_pipe (other_end role) old (with_bytes_taken (pipe_from (other_end role) old) count)) text
tap_took Client old count tapped told text h =
    let event = TakenBy Client (take count old.server.held) in record {
      client = subst (λ (p : Passage). IsPipeOf old.client p) (sym (passage_with Client told event)) h.client;
      server = subst (λ (p : Passage). IsPipeOf (with_bytes_taken old.server count) p)
          (sym (passage_with Server told event)) (pipe_took old.server (passage Server told) count h.server);
      first = h.first ∙ sym (first_stays told event refl);
      parts = h.parts;
      lines = told_same tapped told event old.lines h.parts (both_taken Client told
          (take count old.server.held)) h.lines;
      all = h.all;
    }
tap_took Server old count tapped told text h =
    let event = TakenBy Server (take count old.client.held) in record {
      client = subst (λ (p : Passage). IsPipeOf (with_bytes_taken old.client count) p)
          (sym (passage_with Client told event)) (pipe_took old.client (passage Client told) count h.client);
      server = subst (λ (p : Passage). IsPipeOf old.server p) (sym (passage_with Server told event)) h.server;
      first = h.first ∙ sym (first_stays told event refl);
      parts = h.parts;
      lines = told_same tapped told event old.lines h.parts (both_taken Server told
          (take count old.client.held)) h.lines;
      all = h.all;
    }

-- the direction to an end was ended
pub tap_passed : (role : Role) (old : Tap) (tapped : Tapped) (told : List TapTold) (text : List ℕ)
    → ends_wanted role old ≡ true → HasTapped tapped told old text
    → HasTapped tapped (told ++ EndedTo role ∷ [])
    (with_pipe (other_end role) old (with_direction_ended (pipe_from (other_end role) old))) text
tap_passed Client old tapped told text wanted h = record {
  client = subst (λ (p : Passage). IsPipeOf old.client p) (sym (passage_with Client told (EndedTo Client))) h.client;
  server = subst (λ (p : Passage). IsPipeOf (with_direction_ended old.server) p)
      (sym (passage_with Server told (EndedTo Client))) (pipe_passed old.server (passage Server told) wanted h.server);
  first = h.first ∙ sym (first_stays told (EndedTo Client) refl);
  parts = h.parts;
  lines = told_same tapped told (EndedTo Client) old.lines h.parts (both_passed Client told) h.lines;
  all = h.all;
}
tap_passed Server old tapped told text wanted h = record {
  client = subst (λ (p : Passage). IsPipeOf (with_direction_ended old.client) p)
      (sym (passage_with Client told (EndedTo Server))) (pipe_passed old.client (passage Client told) wanted h.client);
  server = subst (λ (p : Passage). IsPipeOf old.server p) (sym (passage_with Server told (EndedTo Server))) h.server;
  first = h.first ∙ sym (first_stays told (EndedTo Server) refl);
  parts = h.parts;
  lines = told_same tapped told (EndedTo Server) old.lines h.parts (both_passed Server told) h.lines;
  all = h.all;
}

-- the text of all that was told
pub tap_tells : (tapped : Tapped) (told : List TapTold) (tap : Tap) (text : List ℕ) → HasTapped tapped told tap text
    → TellsOfBoth tapped told text
tap_tells tapped told tap text h = subst (λ (t : List ℕ). TellsOfBoth tapped told t) (sym h.all)
    (lines_tell tapped told tap.lines h.parts h.lines)

-- where it is over, both directions were ended
pub over_is : (tapped : Tapped) (told : List TapTold) (tap : Tap) (text : List ℕ) → HasTapped tapped told tap text
    → is_tap_over tap ≡ true → ((passage Client told).passed ≡ true) × ((passage Server told).passed ≡ true)
over_is tapped told tap text h over =
    let (client, server) = both_true (is_passed tap.client.stage) (is_passed tap.server.stage) over in (
      passed_is tap.client.stage (passage Client told).ended (passage Client told).passed h.client.stage client,
      passed_is tap.server.stage (passage Server told).ended (passage Server told).passed h.server.stage server,
    )

-- and so all that came was taken
pub all_taken : (p : Passage) → IsPassedOn p → p.passed ≡ true → p.taken ≡ p.came
all_taken p s passed = sym (s.begins ∙ ap (λ (t : List ℕ). p.taken ++ t) (s.over passed).1 ∙ append-nil p.taken)
