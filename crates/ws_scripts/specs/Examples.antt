-- Worked examples of scripts and captures, each a theorem.
use Rattle.std.specs.Prelude.{◌≡◌, ⊤, ℕ, true, false, List, [], ◌∷◌, Option, Some, None, codes}
use Rattle.std.specs.Prelude.{refl, replicate}
use Rattle.std.proofs.Common.{inl, inr, lit≤}
use Rattle.std.specs.Fmt.{digits}
use Rattle.ws_scripts.specs.declared.script.Step.{Step}
use Rattle.ws_scripts.specs.declared.script.Step.TheVariants.{Frame, Raw, Wait}
use Rattle.ws_scripts.specs.declared.script.Chop.TheVariants.{Octets, PerFrame, Whole}
use Rattle.ws_scripts.specs.declared.transcript.Turn.{Turn}
use Rattle.ws_scripts.specs.declared.transcript.Ended.TheVariants.{Broken, Tester}
use Rattle.ws_scripts.specs.declared.capture.line.Line.TheVariants.{Sent, Got}
use Rattle.ws_scripts.specs.Scripts.{ArePieces, turn_bytes, turns_of}
use Rattle.ws_wire.specs.declared.header.Form.TheVariants.{Two}
use Rattle.ws_scripts.specs.declared.script_text.fields.Layout.TheVariants.{Own}
use Rattle.ws_scripts.specs.declared.script_text.frame_line.FrameName.TheVariants.{CloseWith}
use Rattle.ws_scripts.specs.declared.script_text.line.ScriptLine.TheVariants.{Blank, Cut, Does}
use Rattle.ws_scripts.specs.QuotedTexts.{IsPairEscape, IsUnitEscape, StandsFor, escaped_by, is_alone, is_unescaped}
use Rattle.ws_scripts.specs.ScriptLines.{IsDataWord, IsPayloadField, frame_step}
use Rattle.ws_scripts.specs.ScriptTexts.{AreScriptLines, steps_in, written_chop, written_step}
use Rattle.ws_scripts.specs.Captures.{run_together, turns_in, written_capture}
use Rattle.ws_scripts.specs.Captures2.{written_capture2}

-- what is computed at numbers that are written out
unfoldable on_numbers : ⊤
unfolding digits
on_numbers = tt

-- ---- scripts

abbrev ping : Step
ping = Frame true 0 9 []

abbrev key : Option (List ℕ)
key = Some (0x37 ∷ 0xfa ∷ 0x21 ∷ 0x3d ∷ [])

-- a Wait ends a turn, and a last part without steps is no turn
pub two_turns : turns_of (ping ∷ Wait ∷ ping ∷ ping ∷ []) ≡ (ping ∷ []) ∷ (ping ∷ ping ∷ []) ∷ []
two_turns = refl

pub no_turn_after_the_last_wait : turns_of (ping ∷ Wait ∷ []) ≡ (ping ∷ []) ∷ []
no_turn_after_the_last_wait = refl

-- a Wait alone is a turn, in which nothing is sent
pub turn_without_bytes : turns_of (Wait ∷ ping ∷ []) ≡ [] ∷ (ping ∷ []) ∷ []
turn_without_bytes = refl

-- a frame is masked, and other bytes go as they are
pub bytes_of_a_turn : turn_bytes key (Frame true 0 2 (1 ∷ []) ∷ Raw (1 ∷ []) ∷ [])
    ≡ 0x82 ∷ 0x81 ∷ 0x37 ∷ 0xfa ∷ 0x21 ∷ 0x3d ∷ 0x36 ∷ 0x01 ∷ []
bytes_of_a_turn = refl

-- without a key it isn't
pub bytes_of_a_servers_turn : turn_bytes None (Frame true 0 2 (1 ∷ []) ∷ Raw (1 ∷ []) ∷ [])
    ≡ 0x82 ∷ 0x01 ∷ 0x01 ∷ 0x01 ∷ []
bytes_of_a_servers_turn = refl

-- pieces of two bytes, the last one shorter
pub by_two : ArePieces (Octets 2) key (Raw (1 ∷ 2 ∷ 3 ∷ []) ∷ []) ((1 ∷ 2 ∷ []) ∷ (3 ∷ []) ∷ [])
by_two = record { joined = refl; none_empty = (lit≤ tt, (lit≤ tt, tt)); cut = (refl, lit≤ tt) }

-- a step without bytes gives no piece
pub by_step : ArePieces PerFrame key (Raw (1 ∷ 2 ∷ []) ∷ Raw [] ∷ Raw (3 ∷ []) ∷ []) ((1 ∷ 2 ∷ []) ∷ (3 ∷ []) ∷ [])
by_step = record { joined = refl; none_empty = (lit≤ tt, (lit≤ tt, tt)); cut = refl }

-- nor does a turn without bytes
pub no_piece : ArePieces Whole key [] []
no_piece = record { joined = refl; none_empty = tt; cut = lit≤ tt }

-- ---- scripts as text

pub written_frame : written_step (Frame false 4 1 (97 ∷ [])) ≡ codes "text fin=0 rsv=4 61"
unfolding on_numbers
written_frame = refl

pub written_ping : written_step ping ≡ codes "ping -"
written_ping = refl

-- seventeen bytes that are the same are told by their number, and sixteen aren't
pub written_seventeen : written_step (Raw (replicate 17 42)) ≡ codes "raw 2a*17"
unfolding on_numbers
written_seventeen = refl

pub written_sixteen : written_step (Raw (replicate 16 42)) ≡ codes "raw 2a2a2a2a2a2a2a2a2a2a2a2a2a2a2a2a"
unfolding on_numbers
written_sixteen = refl

pub written_cut : written_chop (Octets 997) ≡ codes "chop octets 997" ∷ []
unfolding on_numbers
written_cut = refl

pub steps_of_lines : steps_in (Blank ∷ Cut PerFrame ∷ Does ping ∷ Blank ∷ Does Wait ∷ []) ≡ ping ∷ Wait ∷ []
steps_of_lines = refl

-- only comments and empty lines stand before the chop's line
pub chop_before_steps : AreScriptLines PerFrame (ping ∷ []) (Blank ∷ Cut PerFrame ∷ Does ping ∷ [])
chop_before_steps = inr (Blank ∷ [], Does ping ∷ [], (tt, tt), (tt, tt), refl, refl)

-- a frame without a key whose length stands in two bytes
pub unmasked_in_two : frame_step (record { fin = true; rsv = 0; layout = Own None (Some Two) }) 1 (97 ∷ [])
    ≡ Raw (0x81 ∷ 0x7e ∷ 0x00 ∷ 0x01 ∷ 97 ∷ [])
unmasked_in_two = refl

-- one under a key of its own, in the shortest form
pub masked_by_its_key : frame_step (record { fin = true; rsv = 0; layout = Own key None }) 1 (97 ∷ [])
    ≡ Raw (0x81 ∷ 0x81 ∷ 0x37 ∷ 0xfa ∷ 0x21 ∷ 0x3d ∷ 0x56 ∷ [])
masked_by_its_key = refl

-- the higher byte of a code stands first, and data may be left out after it
pub code_alone : IsPayloadField (CloseWith 1000) (0x03 ∷ 0xe8 ∷ []) []
code_alone = ([], inl (refl, refl), refl)

pub two_of_a_byte : IsDataWord (42 ∷ 42 ∷ []) (codes "2a*2")
unfolding on_numbers
two_of_a_byte = inr (inl (record {
  byte = 42;
  times = 2;
  is_byte = lit≤ tt;
  some = lit≤ tt;
  most = lit≤ tt;
  are = refl;
  spelled = refl;
}))

-- a quote stands for itself behind a backslash, and no other letter does
pub quote_escaped : StandsFor 34 (codes "\\\"")
quote_escaped = inr (inl (34, refl, refl))

pub letter_without_a_meaning : escaped_by 97 ≡ None
letter_without_a_meaning = refl

-- U+00FC as itself, and by digits in either case
pub character_as_it_is : StandsFor 0xfc (0xfc ∷ [])
character_as_it_is = inl (refl, refl)

pub digits_in_either_case : IsUnitEscape 0xfc (codes "\\u00Fc")
digits_in_either_case = record {
  first = 48;
  second = 48;
  third = 70;
  fourth = 99;
  is_first = lit≤ tt;
  is_second = lit≤ tt;
  is_third = lit≤ tt;
  is_fourth = lit≤ tt;
  value = refl;
  spelled = refl;
}

-- U+1F600 by two escapes, of which neither stands for a character alone
pub first_half : IsUnitEscape 0xd83d (codes "\\ud83d")
first_half = record {
  first = 100;
  second = 56;
  third = 51;
  fourth = 100;
  is_first = lit≤ tt;
  is_second = lit≤ tt;
  is_third = lit≤ tt;
  is_fourth = lit≤ tt;
  value = refl;
  spelled = refl;
}

pub second_half : IsUnitEscape 0xde00 (codes "\\ude00")
second_half = record {
  first = 100;
  second = 101;
  third = 48;
  fourth = 48;
  is_first = lit≤ tt;
  is_second = lit≤ tt;
  is_third = lit≤ tt;
  is_fourth = lit≤ tt;
  value = refl;
  spelled = refl;
}

pub both_halves : IsPairEscape 0x1f600 (codes "\\ud83d\\ude00")
both_halves = record {
  high = 0xd83d;
  low = 0xde00;
  front = codes "\\ud83d";
  back = codes "\\ude00";
  is_front = first_half;
  is_back = second_half;
  is_high = refl;
  is_low = refl;
  character = refl;
  spelled = refl;
}

pub neither_half_alone : (is_alone 0xd83d ≡ false) × (is_alone 0xde00 ≡ false)
neither_half_alone = (refl, refl)

-- U+007E and U+00A0 stand as themselves, and what is between them doesn't
pub edges_of_controls : (is_unescaped 0x7e ≡ true) × (is_unescaped 0x7f ≡ false) × (is_unescaped 0x9f ≡ false)
    × (is_unescaped 0xa0 ≡ true)
edges_of_controls = (refl, refl, refl, refl)

-- ---- captures

abbrev pub turn_of : List ℕ → List ℕ → Turn
turn_of sent got = record { sent = sent; got = got }

-- a connection that broke is written as one that the peer ended
pub lines_of_two_turns : written_capture (record {
  turns = turn_of (0x89 ∷ 0x00 ∷ []) (0x8a ∷ 0x00 ∷ []) ∷ turn_of (0xff ∷ []) [] ∷ [];
  ended = Broken;
}) ≡ codes "wst-capture 1\n> 8900\n< 8a00\n> ff\nend peer\n"
unfolding on_numbers
lines_of_two_turns = refl

-- in format 2 each turn is kept, also one without bytes, and so are the key and a connection that broke
pub kept_lines : written_capture2 (record {
  key = Some (0x37 ∷ 0xfa ∷ 0x21 ∷ 0x3d ∷ []);
  transcript = record {
    turns = turn_of (0x89 ∷ 0x00 ∷ []) [] ∷ turn_of [] [] ∷ turn_of [] (0x8a ∷ 0x00 ∷ []) ∷ [];
    ended = Broken;
  };
}) ≡ codes "wst-capture 2\nkey 37fa213d\nturn\n> 8900\nturn\nturn\n< 8a00\nend broken\n"
unfolding on_numbers
kept_lines = refl

pub kept_lines_without_a_key : written_capture2 (record {
  key = None;
  transcript = record { turns = turn_of (0x89 ∷ 0x00 ∷ []) (0x8a ∷ 0x00 ∷ []) ∷ []; ended = Tester };
}) ≡ codes "wst-capture 2\nkey -\nturn\n> 8900\n< 8a00\nend tester\n"
unfolding on_numbers
kept_lines_without_a_key = refl

-- a turn begins with the first line, and with each sent line that follows a got line
pub turns_of_lines :
    turns_in (Sent (1 ∷ []) ∷ Sent (2 ∷ []) ∷ Got (3 ∷ []) ∷ Sent (4 ∷ []) ∷ Got (5 ∷ []) ∷ Got (6 ∷ []) ∷ [])
    ≡ turn_of (1 ∷ 2 ∷ []) (3 ∷ []) ∷ turn_of (4 ∷ []) (5 ∷ 6 ∷ []) ∷ []
turns_of_lines = refl

pub got_before_any_is_sent :
    turns_in (Got (1 ∷ []) ∷ Sent (2 ∷ []) ∷ []) ≡ turn_of [] (1 ∷ []) ∷ turn_of (2 ∷ []) [] ∷ []
got_before_any_is_sent = refl

-- a turn in which nothing was got runs into the next one, and one in which nothing was sent into the one before
pub turns_run_together :
    run_together (turn_of (1 ∷ []) [] ∷ turn_of (2 ∷ []) (3 ∷ []) ∷ turn_of [] (4 ∷ []) ∷ turn_of (5 ∷ []) [] ∷ [])
    ≡ turn_of (1 ∷ 2 ∷ []) (3 ∷ 4 ∷ []) ∷ turn_of (5 ∷ []) [] ∷ []
turns_run_together = refl
