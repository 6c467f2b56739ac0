-- A send with its masking key, and the words of a script that tell it.
use Rattle.std.specs.Prelude.{◌≡◌, ℕ, List, [], ◌∷◌, codes}
use Rattle.ws_formats.specs.Words.{IsHexWord, IsKeyOrDash, AreCloseWords, fin_word}
use Rattle.ws_sends.specs.declared.keyed_send.KeyedSend.{KeyedSend}
use Rattle.ws_sends.specs.declared.keyed_send.KeyedSend.TheVariants.{Begin, More, Ping, Pong, Close}
use Rattle.ws_sends.specs.declared.keyed_send.SendName.{SendName}
use Rattle.ws_sends.specs.declared.keyed_send.SendName.TheVariants as name
use Rattle.ws_session.specs.Sends.{Send, close_owned}
use Rattle.ws_session.specs.Sends as send
use Rattle.ws_session.specs.Words.{kind_word}

-- the send without its key
abbrev pub send_in : KeyedSend → Send
send_in (Begin kind payload fin key) = send.Begin kind payload fin
send_in (More payload fin key) = send.More payload fin
send_in (Ping payload key) = send.Ping payload
send_in (Pong payload key) = send.Pong payload
send_in (Close given key) = send.Close (close_owned given)

-- its key
abbrev pub key_in : KeyedSend → List ℕ
key_in (Begin kind payload fin key) = key
key_in (More payload fin key) = key
key_in (Ping payload key) = key
key_in (Pong payload key) = key
key_in (Close given key) = key

-- ---- its words

abbrev pub send_name_of : KeyedSend → SendName
send_name_of (Begin kind payload fin key) = name.Begin
send_name_of (More payload fin key) = name.More
send_name_of (Ping payload key) = name.Ping
send_name_of (Pong payload key) = name.Pong
send_name_of (Close given key) = name.Close

-- its first word
abbrev pub send_name_word : SendName → List ℕ
send_name_word name.Begin = codes "begin"
send_name_word name.More = codes "more"
send_name_word name.Ping = codes "ping"
send_name_word name.Pong = codes "pong"
send_name_word name.Close = codes "close"

-- its further words: `a` and `b` spell the payload, or the code and the reason, `k` the key
abbrev pub AreSendFields : KeyedSend → List (List ℕ) → Type 0
AreSendFields (Begin kind payload fin key) fields = (a k : List ℕ)
    × (fields ≡ kind_word kind ∷ fin_word fin ∷ a ∷ k ∷ []) × IsHexWord payload a × IsKeyOrDash key k
AreSendFields (More payload fin key) fields = (a k : List ℕ)
    × (fields ≡ fin_word fin ∷ a ∷ k ∷ []) × IsHexWord payload a × IsKeyOrDash key k
AreSendFields (Ping payload key) fields = (a k : List ℕ)
    × (fields ≡ a ∷ k ∷ []) × IsHexWord payload a × IsKeyOrDash key k
AreSendFields (Pong payload key) fields = (a k : List ℕ)
    × (fields ≡ a ∷ k ∷ []) × IsHexWord payload a × IsKeyOrDash key k
AreSendFields (Close given key) fields = (a b k : List ℕ)
    × (fields ≡ a ∷ b ∷ k ∷ []) × AreCloseWords given a b × IsKeyOrDash key k

-- a name and further words tell it
abbrev pub AreSendWords : KeyedSend → List ℕ → List (List ℕ) → Type 0
AreSendWords what name fields = (name ≡ send_name_word (send_name_of what)) × AreSendFields what fields

-- ---- reading: a reader may skip what follows

-- the send has this name, and these further words
pub record IsSendOf (called : SendName) (what : KeyedSend) (fields : List (List ℕ)) : Type 0 where
  pub called_so : send_name_of what ≡ called
  pub spelled : AreSendFields what fields
