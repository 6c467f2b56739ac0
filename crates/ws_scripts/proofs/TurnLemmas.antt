-- Steps cut into turns, and bytes into pieces.
use Rattle.std.proofs.Common.{◌≡◌, ◌∙◌, ℕ, zero, suc, ◌+◌, ◌<◌, ◌≤◌, true, false, List, [], ◌∷◌, ◌++◌, length, take, drop, map, ap, sym, refl, subst, arith, append_assoc, append-nil, Option}
use Rattle.std.proofs.lemmas.List.{flat_map_more, take-append-drop}
use Rattle.std.specs.List.{AllByRecursion, AllZip, concat, flat_map, onto_first}
use Rattle.ws_scripts.specs.declared.script.Step.{Step}
use Rattle.ws_scripts.specs.declared.script.Step.TheVariants.{Frame, Raw, Wait}
use Rattle.ws_scripts.specs.declared.script.Chop.TheVariants.{Octets, PerFrame, Whole}
use Rattle.ws_scripts.proofs.CutLemmas.{ends_more}
use Rattle.ws_scripts.specs.InnerCutting.{AreEndsOf, IsCutEvery, ends_of}
use Rattle.ws_scripts.specs.Scripts.{ArePieces, IsAct, has_bytes, is_wait, step_bytes, turn_bytes, turns_of, without_empty}

-- ---- turns

-- a Wait is the only step that ends a turn
pub only_wait : (step : Step) → is_wait step ≡ true → step ≡ Wait
only_wait (Frame fin rsv opcode payload) e = absurd cc
only_wait (Raw bytes) e = absurd cc
only_wait Wait e = refl

-- the steps before a Wait are a turn
pub turns_at_wait : (acts rest : List Step) → AllByRecursion IsAct acts → turns_of (acts ++ Wait ∷ rest) ≡ acts ∷ turns_of rest
turns_at_wait [] rest h = refl
turns_at_wait (Frame fin rsv opcode payload ∷ acts) rest h = ap (λ (l : List (List Step)). onto_first (Frame fin rsv opcode payload) l) (turns_at_wait acts rest h.1)
turns_at_wait (Raw bytes ∷ acts) rest h = ap (λ (l : List (List Step)). onto_first (Raw bytes) l) (turns_at_wait acts rest h.1)
turns_at_wait (Wait ∷ acts) rest h = absurd (let e : true ≡ false = h.0 in cc)

-- steps without a Wait are one turn
pub last_turn : (acts : List Step) → AllByRecursion IsAct acts → 0 < length acts → turns_of acts ≡ acts ∷ []
last_turn [] h some = absurd (omega arith)
last_turn (Frame fin rsv opcode payload ∷ []) h some = refl
last_turn (Raw bytes ∷ []) h some = refl
last_turn (Wait ∷ acts) h some = absurd (let e : true ≡ false = h.0 in cc)
last_turn (Frame fin rsv opcode payload ∷ next ∷ acts) h some = ap (λ (l : List (List Step)). onto_first (Frame fin rsv opcode payload) l) (last_turn (next ∷ acts) h.1 (omega arith))
last_turn (Raw bytes ∷ next ∷ acts) h some = ap (λ (l : List (List Step)). onto_first (Raw bytes) l) (last_turn (next ∷ acts) h.1 (omega arith))

-- the steps before the first Wait are the first turn
pub cut_turns : (steps : List Step) (at : ℕ) (rest : List Step) → AllByRecursion IsAct (take at steps) → drop at steps ≡ Wait ∷ rest → turns_of steps ≡ take at steps ∷ turns_of rest
cut_turns steps at rest h e =
    ap (λ (l : List Step). turns_of l) (sym (take-append-drop at steps) ∙ ap (λ (l : List Step). take at steps ++ l) e) ∙ turns_at_wait (take at steps) rest h

-- the bytes of the turns one after the other are those of the steps: a Wait has none
first_longer : (key : Option (List ℕ)) (step : Step) (turns : List (List Step)) → flat_map (turn_bytes key) (onto_first step turns) ≡ step_bytes key step ++ flat_map (turn_bytes key) turns
first_longer key step [] = append-nil (step_bytes key step ++ [])
first_longer key step (turn ∷ turns) = append_assoc (step_bytes key step) (turn_bytes key turn) (flat_map (turn_bytes key) turns)

pub bytes_of_turns : (key : Option (List ℕ)) (steps : List Step) → turn_bytes key steps ≡ flat_map (turn_bytes key) (turns_of steps)
bytes_of_turns key [] = refl
bytes_of_turns key (Frame fin rsv opcode payload ∷ steps) =
    let step = Frame fin rsv opcode payload in
    ap (λ (l : List ℕ). step_bytes key step ++ l) (bytes_of_turns key steps) ∙ sym (first_longer key step (turns_of steps))
bytes_of_turns key (Raw bytes ∷ steps) =
    ap (λ (l : List ℕ). bytes ++ l) (bytes_of_turns key steps) ∙ sym (first_longer key (Raw bytes) (turns_of steps))
bytes_of_turns key (Wait ∷ steps) = bytes_of_turns key steps

-- ---- places side by side

-- one more of both
pub zip_more : {A B : Type 0} (R : A → B → Type 0) (all rest left : List A) (first : A) (done new : List B) (b : B) → new ≡ done ++ b ∷ [] → rest ≡ first ∷ left → R first b
    → ((more : List B) → AllZip R rest more → AllZip R all (done ++ more)) → (more : List B) → AllZip R left more → AllZip R all (new ++ more)
zip_more {A} {B} R all rest left first done new b e f is h more left_is =
    subst (λ (l : List B). AllZip R all l) (sym (ap (λ (l : List B). l ++ more) e ∙ append_assoc done (b ∷ []) more))
    (h (b ∷ more) (subst (λ (l : List A). AllZip R l (b ∷ more)) (sym f) (is, left_is)))

pub zip_done : {A B : Type 0} (R : A → B → Type 0) (all rest : List A) (done new : List B) → new ≡ done → rest ≡ []
    → ((more : List B) → AllZip R rest more → AllZip R all (done ++ more)) → AllZip R all new
zip_done {A} {B} R all rest done new e f h =
    subst (λ (l : List B). AllZip R all l) (append-nil done ∙ sym e) (h [] (subst (λ (l : List A). AllZip R l []) (sym f) tt))

pub no_items : {X : Type 0} (xs : List X) → length xs ≤ 0 → xs ≡ []
no_items [] h = refl
no_items (x ∷ xs) h = absurd (omega arith)

-- ---- all of a list

pub all_taken : {X : Type 0} (P : X → Type 0) (n : ℕ) (xs : List X) → AllByRecursion P xs → AllByRecursion P (take n xs)
all_taken P zero xs h = tt
all_taken P (suc n) [] h = tt
all_taken P (suc n) (x ∷ xs) h = (h.0, all_taken P n xs h.1)

pub all_dropped : {X : Type 0} (P : X → Type 0) (n : ℕ) (xs : List X) → AllByRecursion P xs → AllByRecursion P (drop n xs)
all_dropped P zero xs h = h
all_dropped P (suc n) [] h = tt
all_dropped P (suc n) (x ∷ xs) h = all_dropped P n xs h.1

pub all_added : {X : Type 0} (P : X → Type 0) (xs : List X) (x : X) → AllByRecursion P xs → P x → AllByRecursion P (xs ++ x ∷ [])
all_added P [] x h is = (is, tt)
all_added P (y ∷ xs) x h is = (h.0, all_added P xs x h.1 is)

-- ---- pieces

pub bytes_of_map : (key : Option (List ℕ)) (steps : List Step) → concat (map (step_bytes key) steps) ≡ turn_bytes key steps
bytes_of_map key [] = refl
bytes_of_map key (step ∷ steps) = ap (λ (l : List ℕ). step_bytes key step ++ l) (bytes_of_map key steps)

-- lists without bytes join to nothing
pub joined_without_empty : (lists : List (List ℕ)) → concat (without_empty lists) ≡ concat lists
joined_without_empty [] = refl
joined_without_empty ([] ∷ lists) = joined_without_empty lists
joined_without_empty ((b ∷ bytes) ∷ lists) = ap (λ (l : List ℕ). (b ∷ bytes) ++ l) (joined_without_empty lists)

pub none_empty_without : (lists : List (List ℕ)) → AllByRecursion has_bytes (without_empty lists)
none_empty_without [] = tt
none_empty_without ([] ∷ lists) = none_empty_without lists
none_empty_without ((b ∷ bytes) ∷ lists) = (omega arith, none_empty_without lists)

-- the bytes of each step, where there are any, are the pieces of a turn
pub step_pieces : (key : Option (List ℕ)) (steps : List Step) (pieces : List (List ℕ)) → pieces ≡ without_empty (map (step_bytes key) steps) → ArePieces PerFrame key steps pieces
step_pieces key steps pieces e =
    let lists = map (step_bytes key) steps in
    record {
      joined = ap (λ (l : List (List ℕ)). concat l) e ∙ (joined_without_empty lists ∙ bytes_of_map key steps);
      none_empty = subst (λ (l : List (List ℕ)). AllByRecursion has_bytes l) (sym e) (none_empty_without lists);
      cut = e;
    }

-- bytes that are cut in one place at most, or after each n of them
pub whole_pieces : (key : Option (List ℕ)) (steps : List Step) (n : ℕ) (bytes : List ℕ) (pieces : List (List ℕ)) → bytes ≡ turn_bytes key steps → length bytes ≤ n → IsCutEvery n bytes pieces → ArePieces Whole key steps pieces
whole_pieces key steps n bytes pieces is one every = record {
  joined = every.joined ∙ is;
  none_empty = every.none_empty;
  cut = every.whole one;
}

pub octet_pieces : (key : Option (List ℕ)) (steps : List Step) (n : ℕ) (bytes : List ℕ) (pieces : List (List ℕ)) → bytes ≡ turn_bytes key steps → IsCutEvery n bytes pieces → ArePieces (Octets n) key steps pieces
octet_pieces key steps n bytes pieces is every = record {
  joined = every.joined ∙ is;
  none_empty = every.none_empty;
  cut = every.octets;
}

-- ---- where the pieces of steps end

-- a piece ends behind its bytes, and one without bytes is none
pub end_of_some : (before end : ℕ) (piece : List ℕ) → before + length piece ≡ end → before < end → end ∷ [] ≡ ends_of before (without_empty (piece ∷ []))
end_of_some before end [] e some = absurd (omega (arith, e, some))
end_of_some before end (b ∷ piece) e some = ap (λ (k : ℕ). k ∷ []) (sym e)

pub end_of_none : (before end : ℕ) (piece : List ℕ) → before + length piece ≡ end → end ≤ before → [] ≡ ends_of before (without_empty (piece ∷ []))
end_of_none before end [] e none = refl
end_of_none before end (b ∷ piece) e none = absurd (omega (arith, e, none))

without_empty_more : (lists : List (List ℕ)) (piece : List ℕ) → without_empty (lists ++ piece ∷ []) ≡ without_empty lists ++ without_empty (piece ∷ [])
without_empty_more [] piece = refl
without_empty_more ([] ∷ lists) piece = without_empty_more lists piece
without_empty_more ((b ∷ bytes) ∷ lists) piece = ap (λ (l : List (List ℕ)). (b ∷ bytes) ∷ l) (without_empty_more lists piece)

map_one_more : (key : Option (List ℕ)) (steps : List Step) (step : Step) → map (step_bytes key) (steps ++ step ∷ []) ≡ map (step_bytes key) steps ++ step_bytes key step ∷ []
map_one_more key [] step = refl
map_one_more key (x ∷ steps) step = ap (λ (l : List (List ℕ)). step_bytes key x ∷ l) (map_one_more key steps step)

-- the bytes of one step more
pub bytes_of_step : (key : Option (List ℕ)) (steps : List Step) (step : Step) (bytes new : List ℕ) → bytes ≡ turn_bytes key steps → new ≡ bytes ++ step_bytes key step → new ≡ turn_bytes key (steps ++ step ∷ [])
bytes_of_step key steps step bytes new is e = e ∙ (ap (λ (l : List ℕ). l ++ step_bytes key step) is ∙ flat_map_more (step_bytes key) [] steps step)

-- the ends of the pieces of one step more
pub ends_of_step : (key : Option (List ℕ)) (steps : List Step) (step : Step) (bytes old new : List ℕ) → bytes ≡ turn_bytes key steps → old ≡ ends_of 0 (without_empty (map (step_bytes key) steps))
    → new ≡ old ++ ends_of (length bytes) (without_empty (step_bytes key step ∷ [])) → new ≡ ends_of 0 (without_empty (map (step_bytes key) (steps ++ step ∷ [])))
ends_of_step key steps step bytes old new is o e =
    let lists = map (step_bytes key) steps in
    let piece = step_bytes key step in
    let long : length bytes ≡ 0 + length (concat (without_empty lists)) =
    omega (arith, ap (λ (l : List ℕ). length l) (is ∙ sym (joined_without_empty lists ∙ bytes_of_map key steps))) in
    e ∙ (ap (λ (l : List ℕ). l ++ ends_of (length bytes) (without_empty (piece ∷ []))) o
    ∙ (ap (λ (n : ℕ). ends_of 0 (without_empty lists) ++ ends_of n (without_empty (piece ∷ []))) long
    ∙ (sym (ends_more 0 (without_empty lists) (without_empty (piece ∷ [])))
    ∙ ap (λ (l : List (List ℕ)). ends_of 0 l) (sym (ap (λ (l : List (List ℕ)). without_empty l) (map_one_more key steps step) ∙ without_empty_more lists piece)))))

-- the bytes and ends of all steps are those of their pieces
pub ends_of_steps : (key : Option (List ℕ)) (steps : List Step) (bytes ends : List ℕ) → bytes ≡ turn_bytes key steps → ends ≡ ends_of 0 (without_empty (map (step_bytes key) steps))
    → AreEndsOf (without_empty (map (step_bytes key) steps)) bytes ends
ends_of_steps key steps bytes ends is e = record {
  joined = joined_without_empty (map (step_bytes key) steps) ∙ (bytes_of_map key steps ∙ sym is);
  ends_are = e;
}
