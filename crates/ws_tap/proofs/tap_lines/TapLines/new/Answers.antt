-- Nothing was told, of nothing that came.
use Rattle.std.proofs.Common.{refl}
use Rattle.ws_wire.specs.declared.role.Role.TheVariants.{Client, Server}
use Rattle.ws_tap.specs.Texts.{NotYet}
use Rattle.ws_tap.proofs.HeadStarts.{nothing_has_no_head}
use Rattle.ws_tap.proofs.tap_lines.TapLines.new.Goals as goal

pub returns : goal.returns
returns c = record {
  begun = record {
    answered = NotYet;
    has_answered = nothing_has_no_head Server;
    stands = record {
      tapped_is = refl;
      knows = nothing_has_no_head Server;
      of_client = ((c.in_ok-client.ensures, nothing_has_no_head Client), refl, c.in_ok-kept.ensures);
      of_server = ((c.in_ok-server.ensures, nothing_has_no_head Server), refl, tt);
      in_order = tt;
    };
  };
}
