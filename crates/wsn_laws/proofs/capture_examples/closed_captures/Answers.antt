use Rattle.std.proofs.Common.{refl, inr, true, false, Some, None, [], ◌∷◌, codes}
use Rattle.hex.specs.Hex.{decode_pairs}
use Rattle.wsn_wire.specs.declared.endpoint.Role.TheVariants.{Client, Server}
use Rattle.wsn_rules.specs.Examples.{greatest}
use Rattle.wsn_rules.specs.Entries.Entry.{Nothing, Bytes, Mark}
use Rattle.wsn_rules.specs.declared.closing_handshake.Side.TheVariants.{Closed}
use Rattle.wsn_rules.specs.declared.closing_handshake.Outcome.TheVariants.{Clean, Complete}
use Rattle.wsn_rules.proofs.Computed.{found}
use Rattle.wsn_rules.proofs.Outcomes.{has_outcome}
use Rattle.wsn_laws.proofs.ComputedReports.{given_bytes, judged_stream, earlier_first, report_is}
use Rattle.wsn_laws.proofs.capture_examples.closed_captures.Goals as goal

pub returns : goal.returns
unfolding found judged_stream has_outcome decode_pairs
returns c = record {
  clean = record {
    entries = Bytes Client (0x88 ∷ 0x82 ∷ 0x00 ∷ 0x00 ∷ 0x00 ∷ 0x00 ∷ 0x03 ∷ 0xe8 ∷ []) ∷ Bytes Server (0x88 ∷ 0x02 ∷ 0x03 ∷ 0xe8 ∷ []) ∷ Mark Server ∷ Mark Client ∷ [];
    given = (given_bytes Client 56 (codes "8820000000003e8") (0x88 ∷ 0x82 ∷ 0x00 ∷ 0x00 ∷ 0x00 ∷ 0x00 ∷ 0x03 ∷ 0xe8 ∷ []) refl, (given_bytes Server 56 (codes "80203e8") (0x88 ∷ 0x02 ∷ 0x03 ∷ 0xe8 ∷ []) refl, (refl, (refl, tt))));
    is = report_is greatest (Bytes Client (0x88 ∷ 0x82 ∷ 0x00 ∷ 0x00 ∷ 0x00 ∷ 0x00 ∷ 0x03 ∷ 0xe8 ∷ []) ∷ Bytes Server (0x88 ∷ 0x02 ∷ 0x03 ∷ 0xe8 ∷ []) ∷ Mark Server ∷ Mark Client ∷ []) refl refl refl
        (record { client = Closed (Some 1000); server = Closed (Some 1000); first = Some Client; echo = Some true; client_sees = Some 1000; server_sees = Some 1000; outcome = Clean })
        (earlier_first greatest (Bytes Client (0x88 ∷ 0x82 ∷ 0x00 ∷ 0x00 ∷ 0x00 ∷ 0x00 ∷ 0x03 ∷ 0xe8 ∷ []) ∷ Bytes Server (0x88 ∷ 0x02 ∷ 0x03 ∷ 0xe8 ∷ []) ∷ Mark Server ∷ Mark Client ∷ []) refl refl refl Client 0 refl refl refl refl)
        refl refl refl refl refl refl;
  };
  no_end_marks = record {
    entries = Bytes Client (0x88 ∷ 0x82 ∷ 0x00 ∷ 0x00 ∷ 0x00 ∷ 0x00 ∷ 0x03 ∷ 0xe8 ∷ []) ∷ Bytes Server (0x88 ∷ 0x02 ∷ 0x03 ∷ 0xe8 ∷ []) ∷ [];
    given = (given_bytes Client 56 (codes "8820000000003e8") (0x88 ∷ 0x82 ∷ 0x00 ∷ 0x00 ∷ 0x00 ∷ 0x00 ∷ 0x03 ∷ 0xe8 ∷ []) refl, (given_bytes Server 56 (codes "80203e8") (0x88 ∷ 0x02 ∷ 0x03 ∷ 0xe8 ∷ []) refl, tt));
    is = report_is greatest (Bytes Client (0x88 ∷ 0x82 ∷ 0x00 ∷ 0x00 ∷ 0x00 ∷ 0x00 ∷ 0x03 ∷ 0xe8 ∷ []) ∷ Bytes Server (0x88 ∷ 0x02 ∷ 0x03 ∷ 0xe8 ∷ []) ∷ []) refl refl refl
        (record { client = Closed (Some 1000); server = Closed (Some 1000); first = Some Client; echo = Some true; client_sees = Some 1000; server_sees = Some 1000; outcome = Complete })
        (earlier_first greatest (Bytes Client (0x88 ∷ 0x82 ∷ 0x00 ∷ 0x00 ∷ 0x00 ∷ 0x00 ∷ 0x03 ∷ 0xe8 ∷ []) ∷ Bytes Server (0x88 ∷ 0x02 ∷ 0x03 ∷ 0xe8 ∷ []) ∷ []) refl refl refl Client 0 refl refl refl refl)
        refl refl refl refl refl refl;
  };
  other_code = record {
    entries = Bytes Client (0x88 ∷ 0x82 ∷ 0x00 ∷ 0x00 ∷ 0x00 ∷ 0x00 ∷ 0x03 ∷ 0xe8 ∷ []) ∷ Bytes Server (0x88 ∷ 0x02 ∷ 0x03 ∷ 0xe9 ∷ []) ∷ [];
    given = (given_bytes Client 56 (codes "8820000000003e8") (0x88 ∷ 0x82 ∷ 0x00 ∷ 0x00 ∷ 0x00 ∷ 0x00 ∷ 0x03 ∷ 0xe8 ∷ []) refl, (given_bytes Server 56 (codes "80203e9") (0x88 ∷ 0x02 ∷ 0x03 ∷ 0xe9 ∷ []) refl, tt));
    is = report_is greatest (Bytes Client (0x88 ∷ 0x82 ∷ 0x00 ∷ 0x00 ∷ 0x00 ∷ 0x00 ∷ 0x03 ∷ 0xe8 ∷ []) ∷ Bytes Server (0x88 ∷ 0x02 ∷ 0x03 ∷ 0xe9 ∷ []) ∷ []) refl refl refl
        (record { client = Closed (Some 1000); server = Closed (Some 1001); first = Some Client; echo = Some false; client_sees = Some 1001; server_sees = Some 1000; outcome = Complete })
        (earlier_first greatest (Bytes Client (0x88 ∷ 0x82 ∷ 0x00 ∷ 0x00 ∷ 0x00 ∷ 0x00 ∷ 0x03 ∷ 0xe8 ∷ []) ∷ Bytes Server (0x88 ∷ 0x02 ∷ 0x03 ∷ 0xe9 ∷ []) ∷ []) refl refl refl Client 0 refl refl refl refl)
        refl refl refl refl refl refl;
  };
  no_codes = record {
    entries = Nothing ∷ Bytes Server (0x88 ∷ 0x00 ∷ []) ∷ Bytes Client (0x88 ∷ 0x80 ∷ 0x00 ∷ 0x00 ∷ 0x00 ∷ 0x00 ∷ []) ∷ Mark Client ∷ [];
    given = (inr (codes " closed", refl), (given_bytes Server 56 (codes "800") (0x88 ∷ 0x00 ∷ []) refl, (given_bytes Client 56 (codes "88000000000") (0x88 ∷ 0x80 ∷ 0x00 ∷ 0x00 ∷ 0x00 ∷ 0x00 ∷ []) refl, (refl, tt))));
    is = report_is greatest (Nothing ∷ Bytes Server (0x88 ∷ 0x00 ∷ []) ∷ Bytes Client (0x88 ∷ 0x80 ∷ 0x00 ∷ 0x00 ∷ 0x00 ∷ 0x00 ∷ []) ∷ Mark Client ∷ []) refl refl refl
        (record { client = Closed None; server = Closed None; first = Some Server; echo = Some true; client_sees = Some 1005; server_sees = Some 1005; outcome = Complete })
        (earlier_first greatest (Nothing ∷ Bytes Server (0x88 ∷ 0x00 ∷ []) ∷ Bytes Client (0x88 ∷ 0x80 ∷ 0x00 ∷ 0x00 ∷ 0x00 ∷ 0x00 ∷ []) ∷ Mark Client ∷ []) refl refl refl Server 1 refl refl refl refl)
        refl refl refl refl refl refl;
  };
  in_parts = record {
    entries = Bytes Server (0x88 ∷ 0x02 ∷ []) ∷ Bytes Client (0x88 ∷ 0x80 ∷ 0x00 ∷ 0x00 ∷ 0x00 ∷ 0x00 ∷ []) ∷ Bytes Server (0x03 ∷ 0xe8 ∷ []) ∷ [];
    given = (given_bytes Server 56 (codes "802") (0x88 ∷ 0x02 ∷ []) refl, (given_bytes Client 56 (codes "88000000000") (0x88 ∷ 0x80 ∷ 0x00 ∷ 0x00 ∷ 0x00 ∷ 0x00 ∷ []) refl, (given_bytes Server 48 (codes "3E8") (0x03 ∷ 0xe8 ∷ []) refl, tt)));
    is = report_is greatest (Bytes Server (0x88 ∷ 0x02 ∷ []) ∷ Bytes Client (0x88 ∷ 0x80 ∷ 0x00 ∷ 0x00 ∷ 0x00 ∷ 0x00 ∷ []) ∷ Bytes Server (0x03 ∷ 0xe8 ∷ []) ∷ []) refl refl refl
        (record { client = Closed None; server = Closed (Some 1000); first = Some Client; echo = Some false; client_sees = Some 1000; server_sees = Some 1005; outcome = Complete })
        (earlier_first greatest (Bytes Server (0x88 ∷ 0x02 ∷ []) ∷ Bytes Client (0x88 ∷ 0x80 ∷ 0x00 ∷ 0x00 ∷ 0x00 ∷ 0x00 ∷ []) ∷ Bytes Server (0x03 ∷ 0xe8 ∷ []) ∷ []) refl refl refl Client 1 refl refl refl refl)
        refl refl refl refl refl refl;
  };
}
