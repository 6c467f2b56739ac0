-- The segments of a followed stream: of each end what it sent, in pieces, in the order in which they came.
use Rattle.std.specs.Prelude.{◌≡◌, ℕ, ◌<◌, ◌==◌, if◌then◌else◌, List, [], ◌∷◌, ◌++◌, length}
use Rattle.ws_base.specs.Bytes.{AreBytes}
use Rattle.ws_formats.specs.Words.{hex}
use Rattle.ws_followed.specs.declared.segment.Node.{Node}
use Rattle.ws_followed.specs.declared.segment.Node.TheVariants.{Zero, One}
use Rattle.ws_followed.specs.declared.segment.Segment.{Segment}

-- what stands before the bytes of an end: a tab before those of node 1
abbrev pub indent_of : Node → List ℕ
indent_of Zero = []
indent_of One = 9 ∷ []

-- the word spells at least one byte, in lower-case pairs of digits
abbrev pub AreSegmentBytes : List ℕ → List ℕ → Type 0
AreSegmentBytes bytes word = (0 < length bytes) × AreBytes bytes × (word ≡ hex bytes)

-- the line tells the segment
abbrev pub IsSegmentLine : Segment → List ℕ → Type 0
IsSegmentLine segment line =
    (word : List ℕ) × AreSegmentBytes segment.bytes word × (line ≡ indent_of segment.node ++ word)

-- ---- inside the crate: how a line is parted. A reader may skip what follows.

-- the end whose segment a line tells, and the word of its bytes
abbrev pub parted_line : List ℕ → Node × List ℕ
parted_line [] = (Zero, [])
parted_line (byte ∷ bytes) = if byte == 9 then (One, bytes) else (Zero, byte ∷ bytes)
