-- A text that is written line by line.
use Rattle.std.proofs.Common.{◌≡◌, ℕ, List, [], ◌∷◌, ◌++◌, append_assoc, append-nil}
use Rattle.std.specs.List.{flat_map}
use Rattle.std.proofs.Common.{map}
use Rattle.std.proofs.lemmas.Grind.{flat_map-append}
use Rattle.std.proofs.lemmas.List.Folds.{flat_map-map}

-- six lines after nothing, each with its end, then more lines, those of headers, and one more end
pub six_lines : {Header : Type 0} (line_of : Header → List ℕ) (end a b c d e f : List ℕ) (more : List (List ℕ)) (headers : List Header) (t0 t1 t2 t3 t4 t5 t6 t7 t8 t9 : List ℕ)
    → t0 ≡ [] → t1 ≡ t0 ++ (a ++ end) → t2 ≡ t1 ++ (b ++ end) → t3 ≡ t2 ++ (c ++ end) → t4 ≡ t3 ++ (d ++ end)
    → t5 ≡ t4 ++ (e ++ end) → t6 ≡ t5 ++ (f ++ end) → t7 ≡ t6 ++ flat_map (λ line. line ++ end) more
    → t8 ≡ t7 ++ flat_map (λ (header : Header). line_of header ++ end) headers → t9 ≡ t8 ++ end
    → t9 ≡ flat_map (λ line. line ++ end) (a ∷ b ∷ c ∷ d ∷ e ∷ f ∷ more ++ map line_of headers) ++ end
six_lines line_of end a b c d e f more headers t0 t1 t2 t3 t4 t5 t6 t7 t8 t9 e0 e1 e2 e3 e4 e5 e6 e7 e8 e9 =
    rw (e9, e8, e7, e6, e5, e4, e3, e2, e1, e0, flat_map-append (λ line. line ++ end) more (map line_of headers), flat_map-map (λ line. line ++ end) line_of headers)
    (simp (append_assoc, append-nil))

-- one line of names, written piece by piece
pub named_line : (t0 t1 t2 t3 t4 t5 name colon first more end : List ℕ) → t1 ≡ t0 ++ name → t2 ≡ t1 ++ colon → t3 ≡ t2 ++ first → t4 ≡ t3 ++ more → t5 ≡ t4 ++ end
    → t5 ≡ t0 ++ (((name ++ (colon ++ (first ++ more))) ++ end) ++ [])
named_line t0 t1 t2 t3 t4 t5 name colon first more end e1 e2 e3 e4 e5 = rw (e5, e4, e3, e2, e1) (simp (append_assoc, append-nil))
