-- Scripts of calls of one endpoint, one call a line. The words of a line are parted by one space, and every line ends
-- with LF.
use Rattle.std.specs.Prelude.{◌≡◌, ℕ, List, [], ◌∷◌, ◌++◌, codes}
use Rattle.ws_formats.specs.Words.{IsHexWord, IsKeyOrDash, space, words_of}
use Rattle.ws_formats.specs.Lines.{HasLineForEach}
use Rattle.ws_sends.specs.KeyedSends.{AreSendWords}
use Rattle.ws_calls.specs.declared.calls.Call.{Call}
use Rattle.ws_calls.specs.declared.calls.Call.TheVariants.{Send, Take, End}
use Rattle.ws_calls.specs.declared.calls.EchoCall.{EchoCall}
use Rattle.ws_calls.specs.declared.calls.EchoCall.TheVariants as echo
use Rattle.ws_calls.specs.declared.echo_script.EchoName.{EchoName}
use Rattle.ws_calls.specs.declared.echo_script.EchoName.TheVariants as echo_name

-- ---- the calls of an echo

abbrev pub echo_name_of : EchoCall → EchoName
echo_name_of (echo.Take piece key) = echo_name.Take
echo_name_of echo.End = echo_name.End

-- the first word of a call
abbrev pub echo_name_word : EchoName → List ℕ
echo_name_word echo_name.Take = codes "take"
echo_name_word echo_name.End = codes "end"

-- its words from the second on: `a` spells the piece, `k` the key
abbrev pub AreEchoCallFields : EchoCall → List (List ℕ) → Type 0
AreEchoCallFields (echo.Take piece key) fields = (a k : List ℕ)
    × (fields ≡ a ∷ k ∷ []) × IsHexWord piece a × IsKeyOrDash key k
AreEchoCallFields echo.End fields = fields ≡ []

-- the words of a call: its name and the others
abbrev pub AreEchoCallWords : EchoCall → List (List ℕ) → Type 0
AreEchoCallWords call words = (fields : List (List ℕ))
    × AreEchoCallFields call fields × (words ≡ echo_name_word (echo_name_of call) ∷ fields)

-- the line of a call, without its LF
abbrev pub IsEchoCallLine : EchoCall → List ℕ → Type 0
IsEchoCallLine call line = AreEchoCallWords call (words_of line)

-- the script of these calls
abbrev pub AreEchoCallLines : List EchoCall → List ℕ → Type 0
AreEchoCallLines calls text = HasLineForEach IsEchoCallLine calls text

-- ---- all calls

-- each call of an echo is a call of an endpoint
abbrev pub as_call : EchoCall → Call
as_call (echo.Take piece key) = Take piece key
as_call echo.End = End

-- the words of a call: those of a send, or those that an echo's call has
abbrev pub AreCallWords : Call → List (List ℕ) → Type 0
AreCallWords (Send what) words = (name : List ℕ) × (fields : List (List ℕ))
    × AreSendWords what name fields × (words ≡ name ∷ fields)
AreCallWords (Take piece key) words = AreEchoCallWords (echo.Take piece key) words
AreCallWords End words = AreEchoCallWords echo.End words

-- the line of a call, without its LF
abbrev pub IsCallLine : Call → List ℕ → Type 0
IsCallLine call line = AreCallWords call (words_of line)

-- the script of these calls
abbrev pub AreCallLines : List Call → List ℕ → Type 0
AreCallLines calls text = HasLineForEach IsCallLine calls text

-- ---- reading: a reader may skip what follows

-- the line takes the piece that this word spells, under this key
pub record IsTakeLine (word key line : List ℕ) : Type 0 where
  pub key_word : List ℕ
  pub key_spelled : IsKeyOrDash key key_word
  pub split : line ≡ codes "take " ++ (word ++ space ∷ key_word)
  pub words : words_of line ≡ codes "take" ∷ word ∷ key_word ∷ []

-- the call has this name, and these further words
pub record IsEchoCallOf (called : EchoName) (call : EchoCall) (fields : List (List ℕ)) : Type 0 where
  pub called_so : echo_name_of call ≡ called
  pub spelled : AreEchoCallFields call fields
