-- The next command is put on behind those before it.
use Rattle.std.proofs.Common.{◌≡◌, ◌∙◌, ◌+◌, ◌<◌, ◌∷◌, ℕ, List, length, drop, map, add-one, ap, drop-cons}
use Rattle.std.proofs.Common.{slice_index_or, sym}
use Rattle.clap.specs.Words.{App, Shape, with_subcommand}
use Rattle.wst_words.specs.Commands.{command_shape, with_commands}
use Rattle.wst_words.specs.Words.{row_of}
use Rattle.wst_words.specs.declared.arguments.NameParsers.{NameParsers}
use Rattle.wst_words.specs.declared.commands.CommandName.{CommandName}
use Rattle.wst_words.proofs.commands.with_commands.Goals as goal

next : (names : NameParsers) (cs : List CommandName) (i : ℕ) (old new whole : App) (sub : Shape) (d : CommandName)
    → i < length cs → new ≡ with_subcommand old sub
    → sub ≡ command_shape names (row_of (slice_index_or cs i d))
    → with_commands names old (map row_of (drop i cs)) ≡ whole
    → with_commands names new (map row_of (drop (i + 1) cs)) ≡ whole
next names cs i old new whole sub d below put same so_far =
    let cut : drop i cs ≡ slice_index_or cs i d ∷ drop (i + 1) cs = rw (add-one, drop-cons cs i d) in
    ap (λ (a : App). with_commands names a (map row_of (drop (i + 1) cs)))
    (put ∙ ap (λ (s : Shape). with_subcommand old s) same)
    ∙ ap (λ (l : List CommandName). with_commands names old (map row_of l)) (sym cut) ∙ so_far

pub loop-name-preserved : goal.loop-name-preserved
loop-name-preserved c =
    next c.args.names c.args.commands.now c.loop-name.name-index _ _ _ _ _ c.loop-name-test.true
    (c.in_ok-command.ensures.shape c.in_ok-subcommand.ensures.local)
    c.in_ok-subcommand.ensures.shape c.loop-name.invariant
