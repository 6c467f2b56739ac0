-- Worked examples of texts and close payloads, as theorems. What is no text stands in proofs/NoTexts.antt.
use Rattle.std.proofs.Common.{◌≡◌, [], ◌∷◌, Some, None, refl, arith, inl, inr, lit≤}
use Rattle.std.proofs.lemmas.List.Elements.{All-nil, All-cons}
use Rattle.ws_text.specs.Text.{IsScalarValue, char_bytes, IsText, BeginsText, HasUnfinished}
use Rattle.ws_text.specs.Close.{CodeAllowed, IsClosePayload, HasBadCode}

-- the dollar sign, the pound sign, the Devanagari letter ha and the Gothic letter hwair
dollar_sign : char_bytes 0x24 ≡ 0x24 ∷ []
unfolding char_bytes
dollar_sign = refl

pound_sign : char_bytes 0xa3 ≡ 0xc2 ∷ 0xa3 ∷ []
unfolding char_bytes
pound_sign = refl

letter_ha : char_bytes 0x939 ≡ 0xe0 ∷ 0xa4 ∷ 0xb9 ∷ []
unfolding char_bytes
letter_ha = refl

letter_hwair : char_bytes 0x10348 ≡ 0xf0 ∷ 0x90 ∷ 0x8d ∷ 0x88 ∷ []
unfolding char_bytes
letter_hwair = refl

-- nothing is a text, and so is each character, also U+FFFF, which is kept for no use in a text
nothing_is_text : IsText []
nothing_is_text = record { characters = []; scalar = All-nil IsScalarValue; spelled = refl }

kappa_is_text : IsText (0xce ∷ 0xba ∷ [])
unfolding char_bytes
kappa_is_text = record {
  characters = 0x3ba ∷ [];
  scalar = All-cons IsScalarValue 0x3ba [] (inl (lit≤ tt)) (All-nil IsScalarValue);
  spelled = refl;
}

noncharacter_is_text : IsText (0xef ∷ 0xbf ∷ 0xbf ∷ [])
unfolding char_bytes
noncharacter_is_text = record {
  characters = 0xffff ∷ [];
  scalar = All-cons IsScalarValue 0xffff [] (inr (lit≤ tt, lit≤ tt)) (All-nil IsScalarValue);
  spelled = refl;
}

-- a kappa without its second byte begins a text, and keeps its first
kappa_is_unfinished : HasUnfinished (0xce ∷ []) (0xce ∷ [])
unfolding char_bytes
kappa_is_unfinished = record {
  front = [];
  is_text = nothing_is_text;
  parts = refl;
  unfinished = inr (0x3ba, record { scalar = inl (lit≤ tt); next = 0xba; more = []; missing = refl });
}

kappa_begins : BeginsText (0xce ∷ [])
kappa_begins = record { more = 0xba ∷ []; is_text = kappa_is_text }

-- an empty payload says nothing, and the code 1000 may stand alone
empty_payload : IsClosePayload [] None
empty_payload = refl

normal_closure : IsClosePayload (0x03 ∷ 0xe8 ∷ []) (Some (record { code = 1000; reason = [] }))
normal_closure = (record { code = inl (lit≤ tt, lit≤ tt); reason = nothing_is_text; short = lit≤ tt }, refl)

-- 1005 stands for an empty payload, and so in none
no_1005 : ¬ CodeAllowed 1005
no_1005 (inl h) = absurd (omega (arith, h.1))
no_1005 (inr (inl h)) = absurd (omega (arith, h.0))
no_1005 (inr (inr h)) = absurd (omega (arith, h.0))

holds_1005 : HasBadCode (0x03 ∷ 0xed ∷ [])
holds_1005 = (record { code = 1005; reason = [] }, record { fits = lit≤ tt; bytes = refl }, no_1005)
