-- The scripts of cases by their names, one after the other.
use Rattle.std.proofs.Common.{◌≡◌, ◌∙◌, ◌<◌, ℕ, List, [], ◌∷◌, ◌++◌, ap, ap₂, arith, length, map}
use Rattle.std.proofs.Common.{refl, slice_index_or, string_bytes, subst, sym}
use Rattle.std.proofs.lemmas.List.{get_or-map, length-map, map-append}
use Rattle.std.proofs.lemmas.List.Elements.{Contains-get_or}
use Rattle.std.specs.List.{Contains}
use Rattle.std.specs.declared.alloc.Global.{Global}
use Rattle.std.specs.declared.string.String.{String}
use Rattle.ws_pages.specs.declared.named_text.NamedText.{NamedText}
use Rattle.ws_scripts.specs.CaseNames.{case_names}
use Rattle.wst_commands.specs.PageTexts.{AreScripts, IsScriptOf, named_script}
use Rattle.wst_commands.proofs.CaseLemmas.{one_more_case}

abbrev pub named : List ℕ → List ℕ → NamedText
named name text = record { name = name; text = text }

-- a text with its name, in other words
pub same_named : (name text name2 text2 : List ℕ) → name ≡ name2 → text ≡ text2 → named name text ≡ named name2 text2
same_named name text name2 text2 e f = ap₂ named e f

-- the scripts of one case more
pub one_more_script : (names : List (List ℕ)) (name : List ℕ) (old new : List NamedText) (script : NamedText)
    → AreScripts names old → IsScriptOf name script → new ≡ old ++ script ∷ [] → AreScripts (names ++ name ∷ []) new
one_more_script names name old new script (cases, are, is) (case, runs, called, same) grown = (
  cases ++ case ∷ [],
  one_more_case names name cases (cases ++ case ∷ []) case are runs called refl,
  grown ∙ ap (λ (l : List NamedText). l ++ script ∷ []) is
      ∙ ap (λ (s : NamedText). map named_script cases ++ s ∷ []) same
      ∙ sym (map-append named_script cases (case ∷ [])),
)

-- each of the names of all cases is the name of a case
pub name_of_case : (names : List (String Global)) (i : ℕ) (name : String Global) → i < length names
    → name ≡ slice_index_or names i name → map string_bytes names ≡ case_names
    → Contains case_names (string_bytes name)
name_of_case names i name within is all =
    subst (λ (l : List (List ℕ)). Contains l (string_bytes name)) all
    (subst (λ (n : List ℕ). Contains (map string_bytes names) n)
    (get_or-map string_bytes names i name [] within ∙ ap string_bytes (sym is))
    (Contains-get_or (map string_bytes names) i []
    (omega (arith, within, length-map names string_bytes))))
