-- The lines of scripts as text: what each tells, and the words that tell it. Words are parted by one space.
use Rattle.std.specs.Prelude.{◌≡◌, ◌⊎◌, ℕ, ◌<◌, ◌≤◌, Bool, true, ⊤, List, [], ◌∷◌, ◌++◌, length, codes}
use Rattle.std.specs.Prelude.{Option, Some, None, replicate}
use Rattle.std.specs.Int.{w16, to_be_bytes}
use Rattle.std.specs.Fmt.{decimal}
use Rattle.ws_formats.specs.Words.{IsHexWord, IsKeyWord, IsNumberWord, hex}
use Rattle.ws_wire.specs.declared.header.Form.{Form}
use Rattle.ws_wire.specs.Header.{CanHold, HeaderFields, form_word, shortest_form}
use Rattle.ws_wire.specs.Frame.{wire_bytes}
use Rattle.ws_formats.specs.Words.{bit_word, opcode_word}
use Rattle.ws_scripts.specs.QuotedTexts.{IsQuotedText}
use Rattle.ws_scripts.specs.declared.script.Step.{Step}
use Rattle.ws_scripts.specs.declared.script.Step.TheVariants.{Frame, Raw, Wait}
use Rattle.ws_scripts.specs.declared.script.Chop.{Chop}
use Rattle.ws_scripts.specs.declared.script.Chop.TheVariants.{Octets, PerFrame, Whole}
use Rattle.ws_scripts.specs.declared.script_text.fields.FrameFields.{FrameFields}
use Rattle.ws_scripts.specs.declared.script_text.fields.Layout.{Layout}
use Rattle.ws_scripts.specs.declared.script_text.fields.Layout.TheVariants.{Own, Tester}
use Rattle.ws_scripts.specs.declared.script_text.frame_line.FrameName.{FrameName}
use Rattle.ws_scripts.specs.declared.script_text.frame_line.FrameName.TheVariants.{CloseWith, Kind}
use Rattle.ws_scripts.specs.declared.script_text.line.ScriptLine.{ScriptLine}
use Rattle.ws_scripts.specs.declared.script_text.line.ScriptLine.TheVariants.{Blank, Cut, Does}

-- ---- data

-- one byte so many times, up to 16,777,216: its two digits, a star, and the number
pub record IsRepeated (bytes word : List ℕ) : Type 0 where
  pub byte : ℕ
  pub times : ℕ
  pub is_byte : byte < 256
  pub some : 0 < times
  pub most : times ≤ 16777216
  pub are : bytes ≡ replicate times byte
  pub spelled : word ≡ hex (byte ∷ []) ++ (codes "*" ++ decimal times)

-- a text between quotes: the first quote that no backslash escapes ends it, and the word
pub record IsQuoted (bytes word : List ℕ) : Type 0 where
  pub inner : List ℕ
  pub is_text : IsQuotedText bytes inner
  pub spelled : word ≡ 34 ∷ (inner ++ 34 ∷ [])

-- the word spells the bytes: two digits each, or a dash for none; or one byte so many times; or a text between quotes
abbrev pub IsDataWord : List ℕ → List ℕ → Type 0
IsDataWord bytes word = IsHexWord bytes word ⊎ (IsRepeated bytes word ⊎ IsQuoted bytes word)

-- ---- the fields of a frame

-- a field: its name, which begins with a space, and a word for its value; where the value is the usual one there may be
-- no field
abbrev pub IsField : {T : Type 0} → List ℕ → T → (T → List ℕ → Type 0) → T → List ℕ → Type 0
IsField {T = T} name usual IsValue value words = ((value ≡ usual) × (words ≡ []))
    ⊎ ((word : List ℕ) × IsValue value word × (words ≡ name ++ word))

-- FIN is set where no field says otherwise
abbrev pub IsFinWord : Bool → List ℕ → Type 0
IsFinWord fin word = word ≡ bit_word fin

abbrev pub IsFinField : Bool → List ℕ → Type 0
IsFinField fin words = IsField (codes " fin=") true IsFinWord fin words

-- the reserved bits are 0 where no field says otherwise, and 7 at most
abbrev pub IsRsvWord : ℕ → List ℕ → Type 0
IsRsvWord rsv word = IsNumberWord 7 rsv word

abbrev pub IsRsvField : ℕ → List ℕ → Type 0
IsRsvField rsv words = IsField (codes " rsv=") 0 IsRsvWord rsv words

-- a masking key of eight digits, or a dash for a frame without one
abbrev pub IsKeyValue : Option (List ℕ) → List ℕ → Type 0
IsKeyValue None word = word ≡ codes "-"
IsKeyValue (Some key) word = IsKeyWord key word

-- a form is named, or it is the shortest
abbrev pub IsFormValue : Option Form → List ℕ → Type 0
IsFormValue None word = ⊥
IsFormValue (Some form) word = word ≡ form_word form

abbrev pub IsFormField : Option Form → List ℕ → Type 0
IsFormField form words = IsField (codes " form=") None IsFormValue form words

-- without a key's field the frame is laid out as the tester does it; a form stands only after a key's field
abbrev pub IsLayoutField : Layout → List ℕ → Type 0
IsLayoutField Tester words = words ≡ []
IsLayoutField (Own key form) words = (word rest : List ℕ) × IsKeyValue key word × IsFormField form rest
    × (words ≡ codes " key=" ++ (word ++ rest))

-- ---- frames

-- the first word of a frame's line: the name of its opcode, as `show` writes it, or `close=` and a code
abbrev pub frame_name_word : FrameName → List ℕ
frame_name_word (Kind opcode) = opcode_word opcode
frame_name_word (CloseWith code) = codes "close=" ++ decimal code

abbrev pub IsFrameName : FrameName → Type 0
IsFrameName (Kind opcode) = opcode < 16
IsFrameName (CloseWith code) = code ≤ 65535

abbrev pub named_opcode : FrameName → ℕ
named_opcode (Kind opcode) = opcode
named_opcode (CloseWith code) = 8

-- the payload: data; after a code, the two bytes of the code and then data, which may be left out for none
abbrev pub IsPayloadField : FrameName → List ℕ → List ℕ → Type 0
IsPayloadField (Kind opcode) payload words = (word : List ℕ) × IsDataWord payload word × (words ≡ codes " " ++ word)
IsPayloadField (CloseWith code) payload words =
    (data_bytes : List ℕ) × IsField (codes " ") [] IsDataWord data_bytes words
    × (payload ≡ to_be_bytes w16 code ++ data_bytes)

abbrev pub form_for : Option Form → ℕ → Form
form_for None len = shortest_form len
form_for (Some form) len = form

-- the form holds the length
abbrev pub FormFits : Layout → ℕ → Type 0
FormFits Tester len = ⊤
FormFits (Own key form) len = CanHold (form_for form len) len

-- the header of a frame with these fields
abbrev pub own_header : Bool → ℕ → ℕ → Option (List ℕ) → Option Form → ℕ → HeaderFields
own_header fin rsv opcode key form len =
    record { fin = fin; rsv = rsv; opcode = opcode; key = key; len = len; form = form_for form len }

-- the bytes of a frame with such a header: these, and its payload, masked where it has a key
abbrev pub own_bytes : Bool → ℕ → ℕ → Option (List ℕ) → Option Form → List ℕ → List ℕ
own_bytes fin rsv opcode key form payload =
    wire_bytes (record { header = own_header fin rsv opcode key form (length payload); payload = payload })

-- the step: a frame that the tester lays out, or the bytes of one that has a header of its own
abbrev pub laid_out : Layout → Bool → ℕ → ℕ → List ℕ → Step
laid_out Tester fin rsv opcode payload = Frame fin rsv opcode payload
laid_out (Own key form) fin rsv opcode payload = Raw (own_bytes fin rsv opcode key form payload)

abbrev pub frame_step : FrameFields → ℕ → List ℕ → Step
frame_step fields opcode payload = laid_out fields.layout fields.fin fields.rsv opcode payload

-- a frame's line: its first word, the fields in their order, and the payload
pub record IsFrameLine (name : FrameName) (fields : FrameFields) (payload words : List ℕ) : Type 0 where
  pub named : IsFrameName name
  pub fin : List ℕ
  pub rsv : List ℕ
  pub layout : List ℕ
  pub last : List ℕ
  pub is_fin : IsFinField fields.fin fin
  pub is_rsv : IsRsvField fields.rsv rsv
  pub is_layout : IsLayoutField fields.layout layout
  pub is_payload : IsPayloadField name payload last
  pub fits : FormFits fields.layout (length payload)
  pub all : words ≡ frame_name_word name ++ (fin ++ (rsv ++ (layout ++ last)))

-- ---- lines

-- a frame's line tells the step
abbrev pub IsFrameStepLine : Step → List ℕ → Type 0
IsFrameStepLine step words = (name : FrameName) × (fields : FrameFields) × (payload : List ℕ)
    × IsFrameLine name fields payload words × (step ≡ frame_step fields (named_opcode name) payload)

-- the bytes of this line go as they are
abbrev pub IsRawLine : Step → List ℕ → Type 0
IsRawLine step words = (bytes word : List ℕ) × (step ≡ Raw bytes) × IsDataWord bytes word
    × (words ≡ codes "raw " ++ word)

-- these words tell the step
abbrev pub IsStepLine : Step → List ℕ → Type 0
IsStepLine step words =
    ((step ≡ Wait) × (words ≡ codes "wait")) ⊎ (IsRawLine step words ⊎ IsFrameStepLine step words)

-- these words tell how the bytes of a turn are cut
abbrev pub IsChopLine : Chop → List ℕ → Type 0
IsChopLine Whole words = words ≡ codes "chop whole"
IsChopLine PerFrame words = words ≡ codes "chop frames"
IsChopLine (Octets n) words = (0 < n) × (word : List ℕ) × IsNumberWord 4294967295 n word
    × (words ≡ codes "chop octets " ++ word)

-- an empty line, or a comment
abbrev pub IsBlankLine : List ℕ → Type 0
IsBlankLine words = (words ≡ []) ⊎ ((comment : List ℕ) × (words ≡ codes "#" ++ comment))

-- these are words of the line
abbrev pub IsScriptLine : ScriptLine → List ℕ → Type 0
IsScriptLine Blank words = IsBlankLine words
IsScriptLine (Cut chop) words = IsChopLine chop words
IsScriptLine (Does step) words = IsStepLine step words
