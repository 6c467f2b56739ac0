-- What a sink heard of clients.
use Rattle.std.specs.Prelude.{ℕ, ◌+◌, List, [], ◌∷◌, ◌++◌}
use Rattle.ws_serving.specs.declared.client_end.ClientEnd.{ClientEnd}
use Rattle.ws_serving.specs.declared.news_sink.News.{News}
use Rattle.ws_serving.specs.declared.news_sink.News.TheVariants.{Ended, Full}

-- each list of what the sink took until the first state, followed by this, is one of what it took until the second
abbrev pub HasTakenNews : {E : Type 0} → (E → E → List News → Type 0) → E → E → List News → Type 0
HasTakenNews {E} heard old new more = (start : E) (taken : List News) → heard start old taken
    → heard start new (taken ++ more)

-- the ends of connections among it, each with the number of its client
abbrev pub ends_in : List News → List (ℕ × ClientEnd)
ends_in [] = []
ends_in (Ended number end ∷ more) = (number, end) ∷ ends_in more
ends_in (Full ∷ more) = ends_in more

-- how often it was told that no client can be taken
abbrev pub fulls_in : List News → ℕ
fulls_in [] = 0
fulls_in (Ended number end ∷ more) = fulls_in more
fulls_in (Full ∷ more) = 1 + fulls_in more
