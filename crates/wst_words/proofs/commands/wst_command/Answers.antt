-- The names of the ends lie somewhere, and the texts of help leave the shape of `wst`.
use Rattle.std.proofs.Common.{rules, ◌≡◌, ◌∙◌, ap, map, codes, [], ◌∷◌, true}
use Rattle.clap.specs.Words.{App, app_of, new_app}
use Rattle.clap.specs.Simple.{app_of_fields, on_top}
use Rattle.clap.specs.declared.builder.value_parser.ValueParser.TheVariants.{Names}
use Rattle.wst_words.specs.Arguments.{Places, name_parsers}
use Rattle.wst_words.specs.Commands.{with_commands}
use Rattle.wst_words.specs.Words.{bare_app, all_commands}
use Rattle.wst_words.specs.declared.arguments.NameParsers.{NameParsers}
use Rattle.wst_words.proofs.WordLemmas.{places_of, places_of_three}
use Rattle.wst_words.proofs.commands.wst_command.Goals as goal

abbrev versioned : App
versioned = on_top (λ s. record s { has_version = true }) (new_app (codes "wst"))

pub returns : goal.returns
returns c =
    let two : map (λ s. s.now) c.as_slice.result.now ≡ codes "client" ∷ codes "server" ∷ [] = search rules in
    let both : map (λ s. s.now) c.as_slice-2.result.now ≡ codes "echo" ∷ codes "protocol" ∷ [] = search rules in
    let three : map (λ s. s.now) c.as_slice-3.result.now ≡ codes "hex" ∷ codes "text" ∷ codes "all" ∷ [] =
    search rules in
    let of_ends = places_of (codes "client") (codes "server") c.as_slice.result.ref_ptr c.as_slice.result.now two in
    let of_others =
    places_of (codes "echo") (codes "protocol") c.as_slice-2.result.ref_ptr c.as_slice-2.result.now both in
    let of_styles =
    places_of_three (codes "hex") (codes "text") (codes "all") c.as_slice-3.result.ref_ptr c.as_slice-3.result.now three in
    let places : Places = record {
      list = c.as_slice.result.ref_ptr;
      client = of_ends.0.0;
      server = of_ends.0.1;
      expectations = c.as_slice-2.result.ref_ptr;
      echo = of_others.0.0;
      protocol = of_others.0.1;
      styles = c.as_slice-3.result.ref_ptr;
      hex = of_styles.0.0;
      text = of_styles.0.1.0;
      all = of_styles.0.1.1;
    } in
    let parsers : NameParsers = record {
      ends = c.from.result;
      expectations = c.from-2.result;
      styles = c.from-3.result;
    } in
    let names : parsers ≡ name_parsers places = λ i. record {
      ends = (c.from.ensures ∙ ap (λ n. Names n) of_ends.1) i;
      expectations = (c.from-2.ensures ∙ ap (λ n. Names n) of_others.1) i;
      styles = (c.from-3.ensures ∙ ap (λ n. Names n) of_styles.1) i;
    } in
    let called : app_of c.in_ok-named.named ≡ new_app (codes "wst") =
    ap app_of_fields c.in_ok-named.ensures.0 ∙ c.new.ensures.app in
    let named : app_of c.version.result ≡ versioned = ap app_of_fields c.version.ensures
    ∙ ap (λ (a : App). on_top (λ s. record s { has_version = true }) a) called in
    let texts : app_of c.after_help.result ≡ versioned =
    ap app_of_fields c.after_help.ensures ∙ ap app_of_fields c.about.ensures ∙ named in
    let required : app_of c.subcommand_required-wst.result ≡ bare_app =
    ap app_of_fields c.subcommand_required-wst.ensures
    ∙ ap (λ (a : App). on_top (λ s. record s { subcommand_required = true }) a) texts in
    (places, c.in_ok-command.ensures ∙ (λ i. with_commands (names i) (required i) all_commands))
