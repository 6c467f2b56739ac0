-- Worked examples of the lines of a transcript, each a theorem.
use Rattle.std.specs.Prelude.{◌≡◌, ⊤, ℕ, zero, suc, ◌<◌, true, List, [], ◌∷◌, length, None, codes, refl}
use Rattle.std.proofs.Common.{inl, arith}
use Rattle.std.specs.Fmt.{digits}
use Rattle.ws_wire.specs.declared.role.Role.TheVariants.{Client}
use Rattle.ws_wire.specs.declared.header.Form.TheVariants.{Short}
use Rattle.ws_wire.specs.Frame.{WireFrame, IsWireFrame}
use Rattle.ws_wire.proofs.Headers.{too_short_for_header}
use Rattle.ws_wire.proofs.Frames.{no_wire_without_header}
use Rattle.ws_frame.specs.declared.source.DataStyle.TheVariants.{Hex}
use Rattle.ws_frame.specs.declared.source.Source.{Source}
use Rattle.ws_frame.specs.declared.showing.StreamEnd.TheVariants.{Whole, CutAt}
use Rattle.ws_frame.specs.Lines.{AreCertainLines}
use Rattle.ws_frame.proofs.Fronts.{no_bad_without_header}
use Rattle.ws_scripts.specs.declared.transcript.Turn.{Turn}
use Rattle.ws_scripts.specs.declared.transcript.Ended.TheVariants.{Broken}
use Rattle.ws_lines.specs.declared.transcript_lines.Showing.{Showing}
use Rattle.ws_lines.specs.TurnLines.{TurnLines, StandInTheirTurns, HasTurnLines, sent_by_tester, got_by_tester}
use Rattle.ws_lines.specs.TurnLines.{turns_text}

-- what is computed at numbers that are written out
unfoldable on_numbers : ⊤
unfolding digits
on_numbers = tt

abbrev at_client : Showing
at_client = record { tested = Client; style = Hex; sent_fault = None; got_fault = None }

abbrev turn_of : List ℕ → List ℕ → Turn
turn_of sent got = record { sent = sent; got = got }

abbrev lines_of : List ℕ → List ℕ → TurnLines
lines_of sent got = record { sent = sent; got = got }

-- each turn has its line, and in it what was sent stands before what was got
pub text_of_three_turns : turns_text 1
    (lines_of (codes "> a\n") (codes "< b\n") ∷ lines_of [] [] ∷ lines_of [] (codes "< c\n") ∷ [])
    ≡ codes "turn 1\n> a\n< b\nturn 2\nturn 3\n< c\n"
unfolding on_numbers
text_of_three_turns = refl

-- ---- a ping whose two bytes are sent in two turns, at a client, and of whose pong one byte is got

abbrev ping : WireFrame
ping = record { header = record { fin = true; rsv = 0; opcode = 9; key = None; len = 0; form = Short }; payload = [] }

is_ping : IsWireFrame ping
is_ping = record {
  header = record { rsv = omega arith; opcode = omega arith; len = omega arith; key = tt };
  payload = λ i. omega arith;
  len = refl;
  small = omega arith;
}

-- of less than two bytes nothing is certain
none_yet : (source : Source) (bytes : List ℕ) → length bytes < 2 → AreCertainLines source bytes []
none_yet source bytes few = inl (record {
  frames = [];
  rest = bytes;
  split = record { each = tt; whole = refl; left = no_wire_without_header bytes (too_short_for_header bytes few) };
  goes_on = no_bad_without_header bytes (too_short_for_header bytes few);
  all = refl;
})

abbrev two_turns : List Turn
two_turns = turn_of (0x89 ∷ []) [] ∷ turn_of (0x00 ∷ []) (0x8a ∷ []) ∷ []

abbrev ping_line : List ℕ
ping_line = codes "> 0 ping fin=1 rsv=0 key=- len=0 short -\n"

abbrev two_lines : List TurnLines
two_lines = lines_of [] [] ∷ lines_of ping_line [] ∷ []

-- the line stands in the turn of the frame's last byte, and tells the place of its first one
pub ping_over_two_turns : StandInTheirTurns (sent_by_tester at_client) two_turns two_lines
unfolding on_numbers
ping_over_two_turns zero le = none_yet (sent_by_tester at_client).source [] (omega arith)
ping_over_two_turns (suc zero) le = none_yet (sent_by_tester at_client).source (0x89 ∷ []) (omega arith)
ping_over_two_turns (suc (suc zero)) le = inl (record {
  frames = ping ∷ [];
  rest = [];
  split = record {
    each = (is_ping, tt);
    whole = refl;
    left = no_wire_without_header [] (too_short_for_header [] (omega arith));
  };
  goes_on = no_bad_without_header [] (too_short_for_header [] (omega arith));
  all = refl;
})
ping_over_two_turns (suc (suc (suc n))) le = absurd (omega (arith, le))

pub nothing_got : StandInTheirTurns (got_by_tester at_client) two_turns two_lines
nothing_got zero le = none_yet (got_by_tester at_client).source [] (omega arith)
nothing_got (suc zero) le = none_yet (got_by_tester at_client).source [] (omega arith)
nothing_got (suc (suc zero)) le = none_yet (got_by_tester at_client).source (0x8a ∷ []) (omega arith)
nothing_got (suc (suc (suc n))) le = absurd (omega (arith, le))

-- what was sent ends with a whole frame, and what was got inside one
pub lines_of_a_ping : HasTurnLines at_client (record { turns = two_turns; ended = Broken })
    (codes "turn 1\nturn 2\n> 0 ping fin=1 rsv=0 key=- len=0 short -\n< cut at 0\nend broken\n")
unfolding on_numbers
lines_of_a_ping = record {
  lines = two_lines;
  are_lines = record { one_each = refl; sent = ping_over_two_turns; got = nothing_got };
  sent_cut = [];
  is_sent_cut = (
    Whole,
    record {
      frames = ping ∷ [];
      rest = [];
      split = record {
        each = (is_ping, tt);
        whole = refl;
        left = no_wire_without_header [] (too_short_for_header [] (omega arith));
      };
      leaves = refl;
      all = refl;
    },
  );
  got_cut = codes "< cut at 0\n";
  is_got_cut = (
    CutAt 0,
    record {
      frames = [];
      rest = 0x8a ∷ [];
      split = record {
        each = tt;
        whole = refl;
        left = no_wire_without_header (0x8a ∷ []) (too_short_for_header (0x8a ∷ []) (omega arith));
      };
      leaves = (refl, omega arith, no_bad_without_header (0x8a ∷ []) (too_short_for_header (0x8a ∷ []) (omega arith)));
      all = refl;
    },
  );
  all = refl;
}
