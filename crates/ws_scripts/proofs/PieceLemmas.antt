-- Byte strings that are kept behind each other: how many there are, and what one more makes.
use Rattle.std.proofs.Common.{◌≡◌, ◌∙◌, ℕ, suc, ◌+◌, ◌*◌, ◌≤◌, if◌then◌else◌, nat_eq, Bool, true, false}
use Rattle.std.proofs.Common.{List, [], ◌∷◌, ◌++◌, length, take, drop, ap, ap₂, append-nil, sym, refl, subst, arith}
use Rattle.std.proofs.lemmas.List.{drop-append-le, length-append, length-drop, take-append-le, take_all}
use Rattle.ws_scripts.specs.declared.transcript.Turn.{Turn}
use Rattle.ws_scripts.specs.Pieces.{AreInPairs, HasPieces, len_told, long_after, long_count, kept_pieces, told_bytes}
use Rattle.ws_scripts.specs.Pieces.{turn_with, turns_of_pairs}

-- ---- how many

pub piece_count : (lens long bytes : List ℕ) → length (kept_pieces lens long bytes) ≡ length lens
piece_count [] long bytes = refl
piece_count (byte ∷ lens) long bytes =
    ap suc (piece_count lens (long_after byte long) (drop (len_told byte long) bytes))

pub pair_count : (pairs : List (List ℕ)) → AreInPairs pairs → length pairs ≡ 2 * length (turns_of_pairs pairs)
pair_count [] h = refl
pair_count (sent ∷ []) h = absurd h
pair_count (sent ∷ got ∷ others) h = omega (arith, pair_count others h)

-- ---- one more

-- behind the others stand more lengths, which change nothing for the first
record StaysFirst (byte : ℕ) (lens long more : List ℕ) : Type 0 where
  len : len_told byte (long ++ more) ≡ len_told byte long
  after : long_after byte (long ++ more) ≡ long_after byte long ++ more
  count : long_count lens ≡ length (long_after byte long)

stays_first : (b : Bool) (byte : ℕ) (lens long more : List ℕ) → nat_eq byte 255 ≡ b
    → (if b then 1 else 0) + long_count lens ≡ length long → StaysFirst byte lens long more
stays_first true byte lens [] more e count = absurd (omega (arith, count))
stays_first true byte lens (first ∷ long) more e count =
    record { len = rw e refl; after = rw e refl; count = rw e (omega (arith, count)) }
stays_first false byte lens long more e count = record { len = rw e refl; after = rw e refl; count = rw e (omega (arith, count)) }

-- without the first, no length and no byte is missing, or left over
rest_has : (byte : ℕ) (lens long bytes more : List ℕ) → HasPieces (byte ∷ lens) long bytes
    → HasPieces lens (long_after byte long) (drop (len_told byte long) bytes)
rest_has byte lens long bytes more has = record {
  longs = (stays_first (nat_eq byte 255) byte lens long more refl has.longs).count;
  len = omega (arith, has.len, length-drop (len_told byte long) bytes);
}

pub pieces_more : (lens long bytes : List ℕ) (byte : ℕ) (more piece : List ℕ) → HasPieces lens long bytes
    → len_told byte more ≡ length piece
    → kept_pieces (lens ++ byte ∷ []) (long ++ more) (bytes ++ piece) ≡ kept_pieces lens long bytes ++ piece ∷ []
pieces_more [] [] [] byte more piece has len =
    ap (λ (l : List ℕ). l ∷ []) (take_all (len_told byte more) piece (omega (arith, len)))
pieces_more [] (x ∷ long) bytes byte more piece has len = absurd (omega (arith, has.longs))
pieces_more [] [] (x ∷ bytes) byte more piece has len = absurd (omega (arith, has.len))
pieces_more (first ∷ lens) long bytes byte more piece has len =
    let s = stays_first (nat_eq first 255) first lens long more refl has.longs in
    let n = len_told first long in
    let less : n ≤ length bytes = omega (arith, has.len) in
    let left = long_after first long in
    ap₂ (λ (m : ℕ) (l : List ℕ). take m (bytes ++ piece) ∷ kept_pieces (lens ++ byte ∷ []) l (drop m (bytes ++ piece)))
    s.len s.after
    ∙ (ap₂ (λ (a b : List ℕ). a ∷ kept_pieces (lens ++ byte ∷ []) (left ++ more) b)
    (take-append-le n bytes piece less) (drop-append-le n bytes piece less)
    ∙ ap (λ (l : List (List ℕ)). take n bytes ∷ l)
    (pieces_more lens left (drop n bytes) byte more piece (rest_has first lens long bytes more has) len))

count_more : (lens : List ℕ) (byte : ℕ)
    → long_count (lens ++ byte ∷ []) ≡ long_count lens + (if nat_eq byte 255 then 1 else 0)
count_more [] byte = omega arith
count_more (first ∷ lens) byte = omega (arith, count_more lens byte)

told_more : (lens long bytes : List ℕ) (byte : ℕ) (more : List ℕ) → HasPieces lens long bytes
    → told_bytes (lens ++ byte ∷ []) (long ++ more) ≡ told_bytes lens long + len_told byte more
told_more [] [] bytes byte more has = omega arith
told_more [] (x ∷ long) bytes byte more has = absurd (omega (arith, has.longs))
told_more (first ∷ lens) long bytes byte more has =
    let s = stays_first (nat_eq first 255) first lens long more refl has.longs in
    let left = long_after first long in
    ap₂ (λ (m : ℕ) (l : List ℕ). m + told_bytes (lens ++ byte ∷ []) l) s.len s.after
    ∙ omega (
      arith,
      told_more lens left (drop (len_told first long) bytes) byte more (rest_has first lens long bytes more has),
    )

pub has_more : (lens long bytes : List ℕ) (byte : ℕ) (more piece : List ℕ) → HasPieces lens long bytes
    → (if nat_eq byte 255 then 1 else 0) ≡ length more → len_told byte more ≡ length piece
    → HasPieces (lens ++ byte ∷ []) (long ++ more) (bytes ++ piece)
has_more lens long bytes byte more piece has count len = record {
  longs = omega (arith, has.longs, count_more lens byte, count, length-append long more);
  len = omega (arith, told_more lens long bytes byte more has, has.len, len, length-append bytes piece);
}

-- ---- one more, of a short or a long length

module _ (lens long bytes : List ℕ) (n : ℕ) (piece : List ℕ) (has : HasPieces lens long bytes)
    (len : n ≡ length piece) where
  pub short_has : nat_eq n 255 ≡ false → HasPieces (lens ++ n ∷ []) long (bytes ++ piece)
  short_has short =
      subst (λ (l : List ℕ). HasPieces (lens ++ n ∷ []) l (bytes ++ piece)) (append-nil long)
      (has_more lens long bytes n [] piece has (rw short refl) (rw short len))

  pub short_pieces : nat_eq n 255 ≡ false
      → kept_pieces (lens ++ n ∷ []) long (bytes ++ piece) ≡ kept_pieces lens long bytes ++ piece ∷ []
  short_pieces short =
      ap (λ (l : List ℕ). kept_pieces (lens ++ n ∷ []) l (bytes ++ piece)) (sym (append-nil long))
      ∙ pieces_more lens long bytes n [] piece has (rw short len)

  pub long_has : HasPieces (lens ++ 255 ∷ []) (long ++ n ∷ []) (bytes ++ piece)
  long_has = has_more lens long bytes 255 (n ∷ []) piece has refl len

  pub long_pieces : kept_pieces (lens ++ 255 ∷ []) (long ++ n ∷ []) (bytes ++ piece)
      ≡ kept_pieces lens long bytes ++ piece ∷ []
  long_pieces = pieces_more lens long bytes 255 (n ∷ []) piece has len

-- ---- turns

pub turns_more : (pairs : List (List ℕ)) (sent got : List ℕ) → AreInPairs pairs
    → turns_of_pairs ((pairs ++ sent ∷ []) ++ got ∷ []) ≡ turns_of_pairs pairs ++ turn_with sent got ∷ []
turns_more [] sent got h = refl
turns_more (one ∷ []) sent got h = absurd h
turns_more (one ∷ other ∷ pairs) sent got h =
    ap (λ (l : List Turn). turn_with one other ∷ l) (turns_more pairs sent got h)

pub pairs_more : (pairs : List (List ℕ)) (sent got : List ℕ) → AreInPairs pairs
    → AreInPairs ((pairs ++ sent ∷ []) ++ got ∷ [])
pairs_more [] sent got h = tt
pairs_more (one ∷ []) sent got h = absurd h
pairs_more (one ∷ other ∷ pairs) sent got h = pairs_more pairs sent got h
