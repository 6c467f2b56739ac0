-- Where a path has no question mark, nothing stands behind it.
use Rattle.std.proofs.Common.{◌+◌, ap, sym, List, ℕ, arith}
use Rattle.std.proofs.lemmas.List.{drop_all, take_all}
use Rattle.std.specs.List.{position_or_len, slice_split}
use Rattle.ws_paths.specs.Paths.{is_ampersand, is_question_mark}
use Rattle.ws_paths.proofs.named_case.cut_path.Goals as goal

pub returns-in-None : goal.returns-in-None
returns-in-None c =
    let beyond = c.in-None.ensures in record {
      place = sym (take_all (position_or_len is_question_mark c.args.path.now) c.args.path.now beyond);
      parts = ap (λ (l : List ℕ). slice_split is_ampersand l)
          (sym (drop_all (position_or_len is_question_mark c.args.path.now + 1) c.args.path.now (omega (arith, beyond))));
    }
