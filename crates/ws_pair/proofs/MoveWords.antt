-- The moves that a name and further words tell.
use Rattle.std.proofs.Common.{◌≡◌, ◌∙◌, ℕ, List, ap, arith, slice_index_or, sym}
use Rattle.ws_sends.specs.declared.keyed_send.KeyedSend.{KeyedSend}
use Rattle.ws_sends.specs.declared.keyed_send.KeyedSend.TheVariants as send
use Rattle.ws_sends.specs.KeyedSends.{AreSendWords, send_name_of, send_name_word}
use Rattle.ws_pair.specs.declared.moves.End.{End}
use Rattle.ws_pair.specs.declared.moves.Move.{Move}
use Rattle.ws_pair.specs.declared.moves.Move.TheVariants.{Begin, More, Ping, Pong, Close, Arrive, Cut}
use Rattle.ws_pair.specs.declared.script.MoveName.{MoveName}
use Rattle.ws_pair.specs.declared.script.MoveName.TheVariants as name
use Rattle.ws_pair.specs.Script.{IsArriveOf, IsMoveAt, move_name_word}

abbrev first : List ℕ → ℕ
first word = slice_index_or word 0 0

no_send : (what : KeyedSend) → send_name_word (send_name_of what) ≡ move_name_word name.Arrive → ⊥
no_send (send.Begin kind payload fin key) e = absurd (omega (arith, ap first e))
no_send (send.More payload fin key) e = absurd (omega (arith, ap first e))
no_send (send.Ping payload key) e = absurd (omega (arith, ap first e))
no_send (send.Pong payload key) e = absurd (omega (arith, ap first e))
no_send (send.Close given key) e = absurd (omega (arith, ap first e))

-- a move of this name is bytes that arrive
pub arrive_told : (side : End) (word : List ℕ) (fields : List (List ℕ)) → word ≡ move_name_word name.Arrive → (move : Move) → IsMoveAt side move word fields → IsArriveOf side move fields
arrive_told side word fields e (Begin s kind payload fin key) h = absurd (no_send (send.Begin kind payload fin key) (sym h.told.0 ∙ e))
arrive_told side word fields e (More s payload fin key) h = absurd (no_send (send.More payload fin key) (sym h.told.0 ∙ e))
arrive_told side word fields e (Ping s payload key) h = absurd (no_send (send.Ping payload key) (sym h.told.0 ∙ e))
arrive_told side word fields e (Pong s payload key) h = absurd (no_send (send.Pong payload key) (sym h.told.0 ∙ e))
arrive_told side word fields e (Close s given key) h = absurd (no_send (send.Close given key) (sym h.told.0 ∙ e))
arrive_told side word fields e (Arrive s bytes key) h = let (_, a, k, are, number, spelled) = h.told in (bytes, key, a, k, ap (λ (x : End). Arrive x bytes key) h.there, are, number, spelled)
arrive_told side word fields e (Cut s) h = absurd (omega (arith, ap first (sym h.told.0 ∙ e)))

-- another move is a send
pub send_told : (side : End) (word : List ℕ) (fields : List (List ℕ)) → ((n : MoveName) → word ≡ move_name_word n → ⊥) → (move : Move) → IsMoveAt side move word fields → (what : KeyedSend) × AreSendWords what word fields
send_told side word fields none (Begin s kind payload fin key) h = (send.Begin kind payload fin key, h.told)
send_told side word fields none (More s payload fin key) h = (send.More payload fin key, h.told)
send_told side word fields none (Ping s payload key) h = (send.Ping payload key, h.told)
send_told side word fields none (Pong s payload key) h = (send.Pong payload key, h.told)
send_told side word fields none (Close s given key) h = (send.Close given key, h.told)
send_told side word fields none (Arrive s bytes key) h = absurd (none name.Arrive h.told.0)
send_told side word fields none (Cut s) h = absurd (none name.Cut h.told.0)
