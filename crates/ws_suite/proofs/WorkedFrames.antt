-- The frames of the worked verdicts: a ping and the pong that answers it, texts and closes, which fit the layout and are
-- valid.
use Rattle.std.proofs.Common.{◌<◌, ℕ, zero, suc, true, List, [], ◌∷◌, Option, Some, None, refl, arith, inl, inr, lit≤}
use Rattle.std.proofs.lemmas.List.Elements.{All-nil, All-cons}
use Rattle.ws_wire.specs.Header.{AreBytes}
use Rattle.ws_wire.specs.Frame.{KeyedFrame, FitsTheLayout}
use Rattle.ws_text.specs.Text.{BeginsText, IsScalarValue, IsText, char_bytes}
use Rattle.ws_text.specs.Close.{CloseValue, IsClosePayload}
use Rattle.ws_text.proofs.Texts.{no_text}
use Rattle.ws_session.specs.Validity.{AreValidFrames, IsValidGroup}
use Rattle.ws_session.specs.Faults.{frames_of}
use Rattle.ws_session.specs.Sends.{most_limits}

abbrev pub ping : KeyedFrame
ping = record { frame = record { fin = true; rsv = 0; opcode = 9; payload = [] }; key = Some (0x00 ∷ 0x00 ∷ 0x00 ∷ 0x00 ∷ []) }

abbrev pub answer : KeyedFrame
answer = record { frame = record { fin = true; rsv = 0; opcode = 10; payload = [] }; key = None }

no_bytes : AreBytes []
no_bytes i = omega arith

and_zero : (bytes : List ℕ) → AreBytes bytes → AreBytes (0 ∷ bytes)
and_zero bytes are zero = lit≤ tt
and_zero bytes are (suc i) = are i

pub ping_fits : FitsTheLayout ping
ping_fits = record {
  rsv = lit≤ tt;
  opcode = lit≤ tt;
  key = (refl, and_zero (0 ∷ 0 ∷ 0 ∷ []) (and_zero (0 ∷ 0 ∷ []) (and_zero (0 ∷ []) (and_zero [] no_bytes))));
  payload = no_bytes;
  len = lit≤ tt;
}

pub answer_fits : FitsTheLayout answer
answer_fits = record { rsv = lit≤ tt; opcode = lit≤ tt; key = tt; payload = no_bytes; len = lit≤ tt }

pub none_valid : AreValidFrames most_limits []
none_valid = record { each = tt; sizes = tt; close = tt; finished = tt; unfinished = record { frames = tt; size = lit≤ tt; text = tt } }

pub ping_valid : AreValidFrames most_limits (frames_of (ping ∷ []))
ping_valid = record {
  each = (record { rsv = refl; opcode = inr (lit≤ tt, lit≤ tt); control = λ control. (refl, lit≤ tt) }, tt);
  sizes = (λ small. lit≤ tt, tt);
  close = (λ close. absurd cc, tt);
  finished = tt;
  unfinished = record { frames = tt; size = lit≤ tt; text = tt };
}

pub pings_valid : AreValidFrames most_limits (frames_of (ping ∷ ping ∷ []))
pings_valid = record {
  each = (
    record { rsv = refl; opcode = inr (lit≤ tt, lit≤ tt); control = λ control. (refl, lit≤ tt) },
    (record { rsv = refl; opcode = inr (lit≤ tt, lit≤ tt); control = λ control. (refl, lit≤ tt) }, tt),
  );
  sizes = (λ small. lit≤ tt, (λ small. lit≤ tt, tt));
  close = (λ close. absurd cc, (λ close. absurd cc, tt));
  finished = tt;
  unfinished = record { frames = tt; size = lit≤ tt; text = tt };
}

pub answer_valid : AreValidFrames most_limits (frames_of (answer ∷ []))
answer_valid = record {
  each = (record { rsv = refl; opcode = inr (lit≤ tt, lit≤ tt); control = λ control. (refl, lit≤ tt) }, tt);
  sizes = (λ small. lit≤ tt, tt);
  close = (λ close. absurd cc, tt);
  finished = tt;
  unfinished = record { frames = tt; size = lit≤ tt; text = tt };
}

-- ---- texts and closes

abbrev key_of_examples : List ℕ
key_of_examples = 0x37 ∷ 0xfa ∷ 0x21 ∷ 0x3d ∷ []

and_byte : (byte : ℕ) (bytes : List ℕ) → byte < 256 → AreBytes bytes → AreBytes (byte ∷ bytes)
and_byte byte bytes small are zero = small
and_byte byte bytes small are (suc i) = are i

key_bytes : AreBytes key_of_examples
key_bytes =
    and_byte 0x37 (0xfa ∷ 0x21 ∷ 0x3d ∷ []) (lit≤ tt) (and_byte 0xfa (0x21 ∷ 0x3d ∷ []) (lit≤ tt) (and_byte 0x21 (0x3d ∷ []) (lit≤ tt) (and_byte 0x3d [] (lit≤ tt) no_bytes)))

-- an empty text and a close with code 1000, both masked
abbrev pub text : KeyedFrame
text = record { frame = record { fin = true; rsv = 0; opcode = 1; payload = [] }; key = Some key_of_examples }

abbrev pub close : KeyedFrame
close = record { frame = record { fin = true; rsv = 0; opcode = 8; payload = 0x03 ∷ 0xe8 ∷ [] }; key = Some key_of_examples }

-- the text "a", a close with code 1000, and one with code 1008
abbrev pub text_back : KeyedFrame
text_back = record { frame = record { fin = true; rsv = 0; opcode = 1; payload = 0x61 ∷ [] }; key = None }

abbrev pub close_back : KeyedFrame
close_back = record { frame = record { fin = true; rsv = 0; opcode = 8; payload = 0x03 ∷ 0xe8 ∷ [] }; key = None }

abbrev pub policy_back : KeyedFrame
policy_back = record { frame = record { fin = true; rsv = 0; opcode = 8; payload = 0x03 ∷ 0xf0 ∷ [] }; key = None }

code_1000_bytes : AreBytes (0x03 ∷ 0xe8 ∷ [])
code_1000_bytes = and_byte 0x03 (0xe8 ∷ []) (lit≤ tt) (and_byte 0xe8 [] (lit≤ tt) no_bytes)

code_1008_bytes : AreBytes (0x03 ∷ 0xf0 ∷ [])
code_1008_bytes = and_byte 0x03 (0xf0 ∷ []) (lit≤ tt) (and_byte 0xf0 [] (lit≤ tt) no_bytes)

pub text_fits : FitsTheLayout text
text_fits = record { rsv = lit≤ tt; opcode = lit≤ tt; key = (refl, key_bytes); payload = no_bytes; len = lit≤ tt }

pub close_fits : FitsTheLayout close
close_fits = record { rsv = lit≤ tt; opcode = lit≤ tt; key = (refl, key_bytes); payload = code_1000_bytes; len = lit≤ tt }

pub text_back_fits : FitsTheLayout text_back
text_back_fits = record { rsv = lit≤ tt; opcode = lit≤ tt; key = tt; payload = and_byte 0x61 [] (lit≤ tt) no_bytes; len = lit≤ tt }

pub close_back_fits : FitsTheLayout close_back
close_back_fits = record { rsv = lit≤ tt; opcode = lit≤ tt; key = tt; payload = code_1000_bytes; len = lit≤ tt }

pub policy_back_fits : FitsTheLayout policy_back
policy_back_fits = record { rsv = lit≤ tt; opcode = lit≤ tt; key = tt; payload = code_1008_bytes; len = lit≤ tt }

letter_is_text : IsText (0x61 ∷ [])
unfolding char_bytes
letter_is_text = record { characters = 0x61 ∷ []; scalar = All-cons IsScalarValue 0x61 [] (inl (lit≤ tt)) (All-nil IsScalarValue); spelled = refl }

says_1000 : (close : Option CloseValue) × IsClosePayload (0x03 ∷ 0xe8 ∷ []) close
says_1000 = (Some (record { code = 1000; reason = [] }), (record { code = inl (lit≤ tt, lit≤ tt); reason = no_text; short = lit≤ tt }, refl))

says_1008 : (close : Option CloseValue) × IsClosePayload (0x03 ∷ 0xf0 ∷ []) close
says_1008 = (Some (record { code = 1008; reason = [] }), (record { code = inr (inl (lit≤ tt, lit≤ tt)); reason = no_text; short = lit≤ tt }, refl))

nothing_unfinished : IsValidGroup BeginsText most_limits []
nothing_unfinished = record { frames = tt; size = lit≤ tt; text = tt }

pub text_valid : AreValidFrames most_limits (frames_of (text ∷ []))
text_valid = record {
  each = (record { rsv = refl; opcode = inl (lit≤ tt); control = λ control. absurd cc }, tt);
  sizes = (λ small. lit≤ tt, tt);
  close = (λ close. absurd cc, tt);
  finished = (record { frames = (inl refl, tt); size = lit≤ tt; text = no_text }, tt);
  unfinished = nothing_unfinished;
}

pub text_back_valid : AreValidFrames most_limits (frames_of (text_back ∷ []))
text_back_valid = record {
  each = (record { rsv = refl; opcode = inl (lit≤ tt); control = λ control. absurd cc }, tt);
  sizes = (λ small. lit≤ tt, tt);
  close = (λ close. absurd cc, tt);
  finished = (record { frames = (inl refl, tt); size = lit≤ tt; text = letter_is_text }, tt);
  unfinished = nothing_unfinished;
}

pub close_valid : AreValidFrames most_limits (frames_of (close ∷ []))
close_valid = record {
  each = (record { rsv = refl; opcode = inr (lit≤ tt, lit≤ tt); control = λ control. (refl, lit≤ tt) }, tt);
  sizes = (λ small. lit≤ tt, tt);
  close = (λ is. (refl, says_1000), tt);
  finished = tt;
  unfinished = nothing_unfinished;
}

pub ping_and_close_valid : AreValidFrames most_limits (frames_of (ping ∷ close ∷ []))
ping_and_close_valid = record {
  each = (
    record { rsv = refl; opcode = inr (lit≤ tt, lit≤ tt); control = λ control. (refl, lit≤ tt) },
    (record { rsv = refl; opcode = inr (lit≤ tt, lit≤ tt); control = λ control. (refl, lit≤ tt) }, tt),
  );
  sizes = (λ small. lit≤ tt, (λ small. lit≤ tt, tt));
  close = (λ is. absurd cc, (λ is. (refl, says_1000), tt));
  finished = tt;
  unfinished = nothing_unfinished;
}

pub text_and_policy_valid : AreValidFrames most_limits (frames_of (text_back ∷ policy_back ∷ []))
text_and_policy_valid = record {
  each = (
    record { rsv = refl; opcode = inl (lit≤ tt); control = λ control. absurd cc },
    (record { rsv = refl; opcode = inr (lit≤ tt, lit≤ tt); control = λ control. (refl, lit≤ tt) }, tt),
  );
  sizes = (λ small. lit≤ tt, (λ small. lit≤ tt, tt));
  close = (λ is. absurd cc, (λ is. (refl, says_1008), tt));
  finished = (record { frames = (inl refl, tt); size = lit≤ tt; text = letter_is_text }, tt);
  unfinished = nothing_unfinished;
}
