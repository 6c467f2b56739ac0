-- An exchange that is told one thing more.
use Rattle.std.proofs.Common.{◌≡◌, ◌∙◌, ℕ, ◌+◌, Bool, List, [], ◌∷◌, ◌++◌, take, drop, ap, sym, append_assoc}
use Rattle.std.proofs.Common.{append-nil}
use Rattle.std.proofs.lemmas.List.{drop-drop, take-append-drop}
use Rattle.std.proofs.lemmas.Grind.{flat_map-append}
use Rattle.ws_machines.specs.Told.{Told, all_came, all_taken, came_by, taken_by}
use Rattle.ws_machines.specs.Machines.{told_at}
use Rattle.ws_machines.specs.Exchanges.{ExchangeValue, IsExchanged, wanted_by}
use Rattle.ws_machines.specs.declared.stream.StreamEvent.{StreamEvent}
use Rattle.ws_machines.specs.declared.stream.StreamEvent.TheVariants as event

-- what came, and what was taken, with one thing more
pub came_more : (told : List Told) (x : Told) → all_came (told ++ x ∷ []) ≡ all_came told ++ came_by x
came_more told x = flat_map-append came_by told (x ∷ [])
    ∙ ap (λ (l : List ℕ). all_came told ++ l) (append-nil (came_by x))

pub taken_more : (told : List Told) (x : Told) → all_taken (told ++ x ∷ []) ≡ all_taken told ++ taken_by x
taken_more told x = flat_map-append taken_by told (x ∷ [])
    ∙ ap (λ (l : List ℕ). all_taken told ++ l) (append-nil (taken_by x))

-- where just that is moved, it is exchanged so
pub exchanged_more : (start old new : ExchangeValue) (told : List Told) (x : Told) → IsExchanged start old told
    → old.rest ≡ taken_by x ++ new.rest → new.got ≡ old.got ++ came_by x → IsExchanged start new (told ++ x ∷ [])
exchanged_more start old new told x h sent got = record {
  sent = h.sent ∙ (ap (λ (l : List ℕ). all_taken told ++ l) sent
      ∙ (sym (append_assoc (all_taken told) (taken_by x) new.rest)
      ∙ ap (λ (l : List ℕ). l ++ new.rest) (sym (taken_more told x))));
  got = got ∙ (ap (λ (l : List ℕ). l ++ came_by x) h.got
      ∙ (append_assoc start.got (all_came told) (came_by x)
      ∙ ap (λ (l : List ℕ). start.got ++ l) (sym (came_more told x))));
}

-- so many bytes of what was to be written were taken
pub taken_so : (start x : ExchangeValue) (told : List Told) (ev : StreamEvent) (count written : ℕ) (bytes got : List ℕ)
    (left : ℕ) (over : Bool) → x ≡ record { rest = drop written bytes; got = got; left = left; over = over }
    → ev ≡ event.Taken count → IsExchanged start x told
    → IsExchanged start (record { rest = drop (written + count) bytes; got = got; left = left; over = over })
    (told ++ told_at (wanted_by x) ev ∷ [])
taken_so start x told ev count written bytes got left over e f h =
    exchanged_more start x (record { rest = drop (written + count) bytes; got = got; left = left; over = over }) told
    (told_at (wanted_by x) ev) h sent same
  where
    tells : taken_by (told_at (wanted_by x) ev) ≡ take count x.rest
    tells = ap (λ (v : StreamEvent). taken_by (told_at (wanted_by x) v)) f

    others : drop count x.rest ≡ drop (written + count) bytes
    others = ap (λ (v : ExchangeValue). drop count v.rest) e ∙ drop-drop count written bytes

    sent : x.rest ≡ taken_by (told_at (wanted_by x) ev) ++ drop (written + count) bytes
    sent = sym (take-append-drop count x.rest) ∙ (ap (λ (l : List ℕ). take count x.rest ++ l) others
        ∙ ap (λ (l : List ℕ). l ++ drop (written + count) bytes) (sym tells))

    same : got ≡ x.got ++ came_by (told_at (wanted_by x) ev)
    same = ap (λ (v : ExchangeValue). v.got) (sym e) ∙ (sym (append-nil x.got)
        ∙ ap (λ (v : StreamEvent). x.got ++ came_by (told_at (wanted_by x) v)) (sym f))
