-- The last turn in which bytes were got, of one turn more.
use Rattle.std.proofs.Common.{◌≡◌, ◌≢◌, ◌∙◌, ◌+◌, ◌<◌, ℕ, List, [], ◌∷◌, ◌++◌, Option, Some, None, ap, append_assoc, arith}
use Rattle.std.proofs.Common.{length, refl, slice_index_or, subst, sym, take}
use Rattle.std.proofs.lemmas.List.{length-take-le, take_more}
use Rattle.std.proofs.lemmas.List.Elements.{All-nil, All-push}
use Rattle.std.specs.List.{All}
use Rattle.ws_scripts.specs.declared.transcript.Turn.{Turn}
use Rattle.wst_commands.specs.Explaining.{GotLastIn, IsLastGot, last_after}

pub none_got : (last : Option ℕ) → last ≡ None → IsLastGot [] last
none_got None is = All-nil (λ (turn : Turn). turn.got ≡ [])
none_got (Some number) is = absurd (cc)

-- bytes were got in it
got_now : (turns : List Turn) (i : ℕ) (turn : Turn) → i < length turns → turn ≡ slice_index_or turns i turn
    → turn.got ≢ [] → IsLastGot (take (i + 1) turns) (Some i)
got_now turns i turn within is got = record {
  front = take i turns;
  turn = turn;
  back = [];
  all = take_more turns i turn within ∙ ap (λ (t : Turn). take i turns ++ t ∷ []) (sym is);
  place = length-take-le i turns (omega (arith, within));
  got = got;
  no_more = All-nil (λ (later : Turn). later.got ≡ []);
}

-- none were
push_none : (turns : List Turn) (turn : Turn) (last : Option ℕ) → IsLastGot turns last → turn.got ≡ []
    → IsLastGot (turns ++ turn ∷ []) last
push_none turns turn None before none = All-push (λ (t : Turn). t.got ≡ []) turns turn before none
push_none turns turn (Some number) before none = record {
  front = before.front;
  turn = before.turn;
  back = before.back ++ turn ∷ [];
  all = ap (λ (l : List Turn). l ++ turn ∷ []) before.all ∙ append_assoc before.front (before.turn ∷ before.back) (turn ∷ []);
  place = before.place;
  got = before.got;
  no_more = All-push (λ (later : Turn). later.got ≡ []) before.back turn before.no_more none;
}

got_before : (turns : List Turn) (i : ℕ) (turn : Turn) (last : Option ℕ) → i < length turns
    → turn ≡ slice_index_or turns i turn → IsLastGot (take i turns) last → turn.got ≡ []
    → IsLastGot (take (i + 1) turns) last
got_before turns i turn last within is before none =
    subst (λ (l : List Turn). IsLastGot l last)
    (sym (take_more turns i turn within ∙ ap (λ (t : Turn). take i turns ++ t ∷ []) (sym is)))
    (push_none (take i turns) turn last before none)

-- with one turn more
next_by : (turns : List Turn) (i : ℕ) (turn : Turn) (last : Option ℕ) (got : List ℕ) → i < length turns
    → turn ≡ slice_index_or turns i turn → IsLastGot (take i turns) last → turn.got ≡ got
    → IsLastGot (take (i + 1) turns) (last_after last i got)
next_by turns i turn last [] within is before none = got_before turns i turn last within is before none
next_by turns i turn last (byte ∷ bytes) within is before some = got_now turns i turn within is not_none
  where
    not_none : turn.got ≢ []
    not_none none =
        let bad : byte ∷ bytes ≡ [] = sym some ∙ none in
        absurd (cc)

pub next_last : (turns : List Turn) (i : ℕ) (turn : Turn) (last next : Option ℕ) (got : List ℕ) → i < length turns
    → turn ≡ slice_index_or turns i turn → IsLastGot (take i turns) last → got ≡ turn.got → next ≡ last_after last i got
    → IsLastGot (take (i + 1) turns) next
next_last turns i turn last next got within is before same grown =
    subst (λ (l : Option ℕ). IsLastGot (take (i + 1) turns) l) (sym grown)
    (next_by turns i turn last got within is before (sym same))
