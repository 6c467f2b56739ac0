-- Replies that are put behind others, of which the first bytes were written.
use Rattle.std.proofs.Common.{◌≡◌, ◌∙◌, ℕ, ◌≤◌, List, [], length, drop, ap, sym}
use Rattle.std.proofs.lemmas.List.{drop-append-le, drop_all}
use Rattle.ws_session.specs.declared.event.PlacedEvent.{PlacedEvent}
use Rattle.ws_session.specs.Exchange.{SessionValue}
use Rattle.ws_session.specs.Replies.{echo_reply_to}
use Rattle.ws_session.specs.Taking.{HasTakenAll}
use Rattle.ws_echo.specs.InnerEchoing.{piece_call}

-- they are put behind those that are left
pub behind_left : (old new : SessionValue) (piece key before after : List ℕ) (n : ℕ) (told : List PlacedEvent)
    → n ≤ length before → HasTakenAll echo_reply_to old new (piece_call piece key before after) [] told
    → HasTakenAll echo_reply_to old new (piece_call piece key (drop n before) (drop n after)) [] told
behind_left old new piece key before after n told fits h = record {
  told = h.told;
  added = h.added;
  within = h.within;
  same = h.same;
  takes = λ exchange going agrees.
      let t = h.takes exchange going agrees in
      record {
        agrees = t.agrees;
        events = t.events;
        places = t.places;
        put = ap (λ (l : List ℕ). drop n l) t.put ∙ drop-append-le n before _ fits;
      };
}

-- where all were written none is left
pub none_left : (n : ℕ) (bytes : List ℕ) → length bytes ≤ n → drop 0 [] ≡ drop n bytes
none_left n bytes all = sym (drop_all n bytes all)
