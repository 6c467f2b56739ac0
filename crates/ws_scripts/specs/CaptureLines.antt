-- The lines of captures: what each tells, and the words that tell it.
use Rattle.std.specs.Prelude.{◌≡◌, ◌<◌, ⊤, ℕ, List, ◌++◌, length, codes, Some, None, IfSome}
use Rattle.ws_formats.specs.Words.{AreFourBytes, hex}
use Rattle.ws_base.specs.Bytes.{AreBytes}
use Rattle.ws_scripts.specs.declared.transcript.Ended.TheVariants.{Tester, Peer, Broken}
use Rattle.ws_scripts.specs.declared.capture.line.Format.TheVariants.{One, Two}
use Rattle.ws_scripts.specs.declared.capture.line.Line.{Line}
use Rattle.ws_scripts.specs.declared.capture.line.Line.TheVariants.{Sent, Got}
use Rattle.ws_scripts.specs.declared.capture.line.CaptureLine.{CaptureLine}
use Rattle.ws_scripts.specs.declared.capture.line.CaptureLine.TheVariants.{First, Key, Begin, Data, End}

-- the words of each line: bytes and keys stand in lower-case pairs of digits, bytes after the mark of their direction
abbrev pub line_words : CaptureLine (List ℕ) → List ℕ
line_words (First One) = codes "wst-capture 1"
line_words (First Two) = codes "wst-capture 2"
line_words (Key None) = codes "key -"
line_words (Key (Some key)) = codes "key " ++ hex key
line_words Begin = codes "turn"
line_words (Data (Sent bytes)) = codes "> " ++ hex bytes
line_words (Data (Got bytes)) = codes "< " ++ hex bytes
line_words (End Tester) = codes "end tester"
line_words (End Peer) = codes "end peer"
line_words (End Broken) = codes "end broken"

abbrev pub bytes_of : Line (List ℕ) → List ℕ
bytes_of (Sent bytes) = bytes
bytes_of (Got bytes) = bytes

-- a line with bytes has at least one byte
abbrev pub HasLineBytes : Line (List ℕ) → Type 0
HasLineBytes line = (0 < length (bytes_of line)) × AreBytes (bytes_of line)

-- the line can be written: it has at least one byte where it has bytes, and four where it has a key
abbrev pub HasWords : CaptureLine (List ℕ) → Type 0
HasWords (First format) = ⊤
HasWords (Key key) = IfSome key AreFourBytes
HasWords Begin = ⊤
HasWords (Data line) = HasLineBytes line
HasWords (End end) = ⊤

-- these are the words of the line
abbrev pub IsLineOf : CaptureLine (List ℕ) → List ℕ → Type 0
IsLineOf line words = HasWords line × (words ≡ line_words line)

-- ---- steps of reading: a reader may skip what follows

-- the bytes that a line has after its mark
pub record AreLineBytes (bytes word : List ℕ) : Type 0 where
  pub some : 0 < length bytes
  pub are_bytes : AreBytes bytes
  pub spelled : word ≡ hex bytes

abbrev pub mark_of : Line (List ℕ) → ℕ
mark_of (Sent bytes) = 62
mark_of (Got bytes) = 60
