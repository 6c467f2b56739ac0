-- What there is to tell of a case.
use Rattle.std.specs.Prelude.{ℕ, List}
use Rattle.ws_reports.specs.declared.told.Told.{Told}

pub record ToldValue : Type 0 where
  -- its name
  pub id : List ℕ
  -- what it tries, in a few words
  pub title : List ℕ
  -- the words of its verdict
  pub verdict : List ℕ
  -- the lines that stand below its line, each with its LF
  pub below : List ℕ

abbrev pub texts_of : Told → ToldValue
texts_of told =
    record { id = told.id.now; title = told.title.now; verdict = told.verdict.now; below = told.below.now }
