-- A result that is none, for a place where there is none.
use Rattle.std.proofs.Common.{[]}
use Rattle.ws_runs.specs.declared.result.CaseResult.{CaseResult}

abbrev pub no_result : CaseResult
no_result = record {
  id = record { ref_ptr = (0, 0); now = [] };
  words = record { ref_ptr = (0, 0); now = [] };
  line = record { ref_ptr = (0, 0); now = [] };
  below = record { ref_ptr = (0, 0); now = [] };
}
