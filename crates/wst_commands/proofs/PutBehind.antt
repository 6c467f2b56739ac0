-- Texts that are put into a room one behind the other.
use Rattle.std.specs.Prelude.{Option}
use Rattle.std.proofs.Common.{◌≡◌, ◌∙◌, ℕ, List, [], ◌∷◌, ◌++◌, ap, sym, append_assoc, append-nil}
use Rattle.std.proofs.lemmas.Grind.{flat_map-append}
use Rattle.std.specs.List.{flat_map}
use Rattle.ws_frame.specs.Watching.{AppendsFront}
use Rattle.ws_rooms.proofs.Waiting.{Stands, begun_behind, begun_more, stands_behind}

-- behind what stands, a text was begun that isn't the last one
pub begun_on : (due waiting text rest all : List ℕ) (old mid new : Option (List ℕ)) → Stands due waiting old mid
    → all ≡ due ++ (text ++ rest) → AppendsFront mid new (waiting ++ text) → AppendsFront old new all
begun_on due waiting text rest all old mid new first e begun =
    begun_behind due waiting (text ++ rest) all old mid new first e
    (begun_more (waiting ++ text) rest (waiting ++ (text ++ rest)) mid new (sym (append_assoc waiting text rest)) begun)

-- the text of one more of a list of things
pub one_text_more : {T : Type 0} (text : T → List ℕ) (front : List ℕ) (done : List T) (x : T)
    → front ++ flat_map text (done ++ x ∷ []) ≡ (front ++ flat_map text done) ++ text x
one_text_more text front done x =
    ap (λ (l : List ℕ). front ++ l)
    (flat_map-append text done (x ∷ []) ∙ ap (λ (l : List ℕ). flat_map text done ++ l) (append-nil (text x)))
    ∙ sym (append_assoc front (flat_map text done) (text x))

-- the text of all of them, where more follow one
pub texts_behind : {T : Type 0} (text : T → List ℕ) (front : List ℕ) (all done left : List T) (x : T)
    → all ≡ done ++ (x ∷ left)
    → front ++ flat_map text all ≡ (front ++ flat_map text done) ++ (text x ++ flat_map text left)
texts_behind text front all done left x e =
    ap (λ (l : List _). front ++ flat_map text l) e
    ∙ (ap (λ (l : List ℕ). front ++ l) (flat_map-append text done (x ∷ left))
    ∙ sym (append_assoc front (flat_map text done) (text x ++ flat_map text left)))
