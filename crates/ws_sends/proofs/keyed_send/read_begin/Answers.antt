-- Words of which the fourth spells no key, and is no dash, tell no begin of a message.
use Rattle.std.proofs.Common.{◌≡◌, ◌∷◌, [], List, ℕ, zero, suc, ap, map, refl, subst, sym, ◌∙◌, slice_index_or}
use Rattle.std.specs.Borrow.{Bor}
use Rattle.ws_sends.specs.declared.keyed_send.KeyedSend.{KeyedSend}
use Rattle.ws_sends.specs.declared.keyed_send.KeyedSend.TheVariants.{Begin, More, Ping, Pong, Close}
use Rattle.ws_formats.specs.Words.{IsKeyOrDash}
use Rattle.ws_sends.specs.KeyedSends.{IsSendOf}
use Rattle.ws_sends.specs.declared.keyed_send.SendName.TheVariants as name
use Rattle.ws_sends.proofs.keyed_send.read_begin.Goals as goal

abbrev nothing : Bor (List ℕ)
nothing = record { ref_ptr = (0, 0); now = [] }

word_at : (words : List (Bor (List ℕ))) (i : ℕ) → slice_index_or (map (λ w. w.now) words) i [] ≡ (slice_index_or words i nothing).now
word_at [] i = refl
word_at (w ∷ words) zero = refl
word_at (w ∷ words) (suc i) = word_at words i

-- the fourth word behind the name spells a key
key_told : (what : KeyedSend) (words : List (Bor (List ℕ))) → IsSendOf name.Begin what (map (λ w. w.now) words)
    → (key : List ℕ) × IsKeyOrDash key (slice_index_or words 3 nothing).now
key_told (Begin kind payload fin key) words h =
    let (a, k, e, hex, spelled) = h.spelled in
    (key, subst (IsKeyOrDash key) (sym (ap (λ (l : List (List ℕ)). slice_index_or l 3 []) e) ∙ word_at words 3) spelled)
key_told (More payload fin key) words h = absurd (let e = h.called_so in cc)
key_told (Ping payload key) words h = absurd (let e = h.called_so in cc)
key_told (Pong payload key) words h = absurd (let e = h.called_so in cc)
key_told (Close given key) words h = absurd (let e = h.called_so in cc)

pub returns-in_default-read_key_or_dash : goal.returns-in_default-read_key_or_dash
returns-in_default-read_key_or_dash c = λ e found h.
    let key = key_told found c.args.fields.now h in
    c.in_default-read_key_or_dash.ensures key.0 key.1
