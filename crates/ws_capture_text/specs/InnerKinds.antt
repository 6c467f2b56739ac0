-- Inside the crate: the lines of captures by their kinds, without the bytes that they tell. A reader may skip this
-- file.
use Rattle.std.specs.Prelude.{◌≡◌, ◌⊎◌, ◌<◌, ℕ, List, ◌∷◌, ◌++◌, length, codes}
use Rattle.ws_base.specs.Bytes.{AreBytes}
use Rattle.ws_formats.specs.Words.{AreFourBytes, hex}
use Rattle.ws_capture_text.specs.declared.line_kind.LineKind.{LineKind}
use Rattle.ws_capture_text.specs.declared.line_kind.LineKind.TheVariants.{FirstOf1, FirstOf2, Key, Begin, Data}
use Rattle.ws_capture_text.specs.declared.line_kind.LineKind.TheVariants.{End, Broken}
use Rattle.ws_capture_text.specs.InnerMarks.{letter}

-- the word spells at least one byte
abbrev pub SpellsSome : List ℕ → Type 0
SpellsSome word = (bytes : List ℕ) × (0 < length bytes) × AreBytes bytes × (word ≡ hex bytes)

-- the line tells a key, or that none is known
abbrev pub IsKeyLine : List ℕ → Type 0
IsKeyLine line = (line ≡ codes "key -") ⊎ ((key : List ℕ) × AreFourBytes key × (line ≡ codes "key " ++ hex key))

-- the line is one of this kind, which has no bytes
abbrev pub IsPlainKindOf : LineKind → List ℕ → Type 0
IsPlainKindOf FirstOf1 line = line ≡ codes "wst-capture 1"
IsPlainKindOf FirstOf2 line = line ≡ codes "wst-capture 2"
IsPlainKindOf Key line = IsKeyLine line
IsPlainKindOf Begin line = line ≡ codes "turn"
IsPlainKindOf (Data mark) line = ⊥
IsPlainKindOf End line = (line ≡ codes "end tester") ⊎ (line ≡ codes "end peer")
IsPlainKindOf Broken line = line ≡ codes "end broken"

-- the line is one of this kind
abbrev pub IsKindOf : LineKind → List ℕ → Type 0
IsKindOf FirstOf1 line = IsPlainKindOf FirstOf1 line
IsKindOf FirstOf2 line = IsPlainKindOf FirstOf2 line
IsKindOf Key line = IsPlainKindOf Key line
IsKindOf Begin line = IsPlainKindOf Begin line
IsKindOf (Data mark) line = (word : List ℕ) × SpellsSome word × (line ≡ letter mark ∷ 32 ∷ word)
IsKindOf End line = IsPlainKindOf End line
IsKindOf Broken line = IsPlainKindOf Broken line
