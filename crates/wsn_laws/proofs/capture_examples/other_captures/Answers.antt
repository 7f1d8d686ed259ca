use Rattle.std.proofs.Common.{refl, Some, None, [], ◌∷◌, codes}
use Rattle.hex.specs.Hex.{decode_pairs}
use Rattle.wsn_wire.specs.declared.endpoint.Role.TheVariants.{Client, Server}
use Rattle.wsn_rules.specs.Examples.{greatest}
use Rattle.wsn_rules.specs.Entries.Entry.{Bytes, Mark}
use Rattle.wsn_wire.specs.declared.refusal.Reason.TheVariants.{ReservedBits, CloseCode}
use Rattle.wsn_rules.specs.declared.closing_handshake.Side.TheVariants.{Closed, Refused, Ended, Cut, Running}
use Rattle.wsn_rules.specs.declared.closing_handshake.Outcome.TheVariants.{Failed, Abnormal, Half, Live}
use Rattle.wsn_rules.proofs.Computed.{found}
use Rattle.wsn_rules.proofs.Outcomes.{has_outcome}
use Rattle.wsn_laws.proofs.ComputedReports.{given_bytes, judged_stream, none_first, alone_first, report_is}
use Rattle.wsn_laws.proofs.capture_examples.other_captures.Goals as goal

pub returns : goal.returns
unfolding found judged_stream has_outcome decode_pairs
returns c = record {
  ended = record {
    entries = Mark Server ∷ [];
    given = (refl, tt);
    is = report_is greatest (Mark Server ∷ []) refl refl refl
        (record { client = Running; server = Ended; first = None; echo = None; client_sees = Some 1006; server_sees = None; outcome = Abnormal })
        (none_first greatest (Mark Server ∷ []) refl refl refl refl refl)
        refl refl refl refl refl refl;
  };
  cut = record {
    entries = Bytes Server (0x81 ∷ 0x05 ∷ []) ∷ Mark Server ∷ [];
    given = (given_bytes Server 56 (codes "105") (0x81 ∷ 0x05 ∷ []) refl, (refl, tt));
    is = report_is greatest (Bytes Server (0x81 ∷ 0x05 ∷ []) ∷ Mark Server ∷ []) refl refl refl
        (record { client = Running; server = Cut; first = None; echo = None; client_sees = Some 1006; server_sees = None; outcome = Abnormal })
        (none_first greatest (Bytes Server (0x81 ∷ 0x05 ∷ []) ∷ Mark Server ∷ []) refl refl refl refl refl)
        refl refl refl refl refl refl;
  };
  half = record {
    entries = Bytes Server (0x88 ∷ 0x00 ∷ []) ∷ [];
    given = (given_bytes Server 56 (codes "800") (0x88 ∷ 0x00 ∷ []) refl, tt);
    is = report_is greatest (Bytes Server (0x88 ∷ 0x00 ∷ []) ∷ []) refl refl refl
        (record { client = Running; server = Closed None; first = Some Server; echo = None; client_sees = Some 1005; server_sees = None; outcome = Half })
        (alone_first greatest (Bytes Server (0x88 ∷ 0x00 ∷ []) ∷ []) refl refl refl Server 0 refl refl refl refl)
        refl refl refl refl refl refl;
  };
  refused = record {
    entries = Bytes Server (0xc1 ∷ []) ∷ [];
    given = (given_bytes Server 99 (codes "1") (0xc1 ∷ []) refl, tt);
    is = report_is greatest (Bytes Server (0xc1 ∷ []) ∷ []) refl refl refl
        (record { client = Running; server = Refused (record { offset = 0; reason = ReservedBits }); first = None; echo = None; client_sees = Some 1006; server_sees = None; outcome = Failed })
        (none_first greatest (Bytes Server (0xc1 ∷ []) ∷ []) refl refl refl refl refl)
        refl refl refl refl refl refl;
  };
  nothing = record {
    entries = [];
    given = tt;
    is = report_is greatest ([]) refl refl refl
        (record { client = Running; server = Running; first = None; echo = None; client_sees = None; server_sees = None; outcome = Live })
        (none_first greatest ([]) refl refl refl refl refl)
        refl refl refl refl refl refl;
  };
  refused_after_a_close = record {
    entries = Bytes Client (0x88 ∷ 0x80 ∷ 0x00 ∷ 0x00 ∷ 0x00 ∷ 0x00 ∷ []) ∷ Bytes Server (0x88 ∷ 0x02 ∷ 0x03 ∷ 0xec ∷ []) ∷ Mark Server ∷ [];
    given = (given_bytes Client 56 (codes "88000000000") (0x88 ∷ 0x80 ∷ 0x00 ∷ 0x00 ∷ 0x00 ∷ 0x00 ∷ []) refl, (given_bytes Server 56 (codes "80203ec") (0x88 ∷ 0x02 ∷ 0x03 ∷ 0xec ∷ []) refl, (refl, tt)));
    is = report_is greatest (Bytes Client (0x88 ∷ 0x80 ∷ 0x00 ∷ 0x00 ∷ 0x00 ∷ 0x00 ∷ []) ∷ Bytes Server (0x88 ∷ 0x02 ∷ 0x03 ∷ 0xec ∷ []) ∷ Mark Server ∷ []) refl refl refl
        (record { client = Closed None; server = Refused (record { offset = 3; reason = CloseCode }); first = Some Client; echo = None; client_sees = Some 1006; server_sees = Some 1005; outcome = Failed })
        (alone_first greatest (Bytes Client (0x88 ∷ 0x80 ∷ 0x00 ∷ 0x00 ∷ 0x00 ∷ 0x00 ∷ []) ∷ Bytes Server (0x88 ∷ 0x02 ∷ 0x03 ∷ 0xec ∷ []) ∷ Mark Server ∷ []) refl refl refl Client 0 refl refl refl refl)
        refl refl refl refl refl refl;
  };
  cut_client = record {
    entries = Bytes Client (0x81 ∷ 0x85 ∷ []) ∷ Bytes Server (0x81 ∷ 0x00 ∷ []) ∷ Mark Client ∷ Mark Server ∷ [];
    given = (given_bytes Client 56 (codes "185") (0x81 ∷ 0x85 ∷ []) refl, (given_bytes Server 56 (codes "100") (0x81 ∷ 0x00 ∷ []) refl, (refl, (refl, tt))));
    is = report_is greatest (Bytes Client (0x81 ∷ 0x85 ∷ []) ∷ Bytes Server (0x81 ∷ 0x00 ∷ []) ∷ Mark Client ∷ Mark Server ∷ []) refl refl refl
        (record { client = Cut; server = Ended; first = None; echo = None; client_sees = Some 1006; server_sees = Some 1006; outcome = Abnormal })
        (none_first greatest (Bytes Client (0x81 ∷ 0x85 ∷ []) ∷ Bytes Server (0x81 ∷ 0x00 ∷ []) ∷ Mark Client ∷ Mark Server ∷ []) refl refl refl refl refl)
        refl refl refl refl refl refl;
  };
}
