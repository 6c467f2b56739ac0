-- The page of some texts is that of equal ones.
use Rattle.std.proofs.Common.{◌≡◌, ℕ, List, subst}
use Rattle.ws_pages.specs.Page.{IsPageOf, PageTextsValue}
use Rattle.ws_pages.specs.declared.named_text.NamedText.{NamedText}
use Rattle.ws_runs.specs.Runs.{RunsValue}

-- what a page has beside the runs
abbrev pub texts_with : List NamedText → List NamedText → List NamedText → List NamedText → PageTextsValue
texts_with titles scripts groups rules =
    record { titles = titles; scripts = scripts; groups = groups; rules = rules }

pub page_of_equal : (runs : RunsValue) (page date : List ℕ) (listed listed2 : List (List ℕ))
    (titles titles2 scripts scripts2 groups groups2 rules rules2 : List NamedText)
    → listed ≡ listed2 → titles ≡ titles2 → scripts ≡ scripts2 → groups ≡ groups2 → rules ≡ rules2
    → IsPageOf date listed runs (texts_with titles scripts groups rules) page
    → IsPageOf date listed2 runs (texts_with titles2 scripts2 groups2 rules2) page
page_of_equal runs page date listed listed2 titles titles2 scripts scripts2 groups groups2 rules rules2 l t s g r is =
    subst (λ (x : List (List ℕ)). IsPageOf date x runs (texts_with titles2 scripts2 groups2 rules2) page) l
    (subst (λ (x : List NamedText). IsPageOf date listed runs (texts_with x scripts2 groups2 rules2) page) t
    (subst (λ (x : List NamedText). IsPageOf date listed runs (texts_with titles x groups2 rules2) page) s
    (subst (λ (x : List NamedText). IsPageOf date listed runs (texts_with titles scripts x rules2) page) g
    (subst (λ (x : List NamedText). IsPageOf date listed runs (texts_with titles scripts groups x) page) r is))))
