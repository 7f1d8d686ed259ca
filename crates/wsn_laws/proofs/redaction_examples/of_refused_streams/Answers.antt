use Rattle.std.proofs.Common.{None, false, true, [], ◌∷◌, inl, inr, refl, arith}
use Rattle.wsn_wire.specs.declared.endpoint.Role.TheVariants.{Server}
use Rattle.wsn_wire.specs.declared.opcode.Op.TheVariants.{Continue, Text, Close}
use Rattle.wsn_wire.specs.declared.length_encoding.Form.TheVariants.{Shortest}
use Rattle.wsn_wire.specs.declared.refusal.Reason.TheVariants.{CloseOneByte}
use Rattle.wsn_wire.specs.Frame.{Frame}
use Rattle.wsn_text.proofs.Prefixes.{begins-nil}
use Rattle.wsn_text.proofs.Rests.{text-nil, after_ascii, after_two, after_E0, after_E1_to_EC}
use Rattle.wsn_rules.specs.Evidence.Evidence.{BySecond}
use Rattle.wsn_rules.specs.Examples.{greatest}
use Rattle.wsn_rules.proofs.Computed.{found}
use Rattle.wsn_rules.proofs.LawfulLists.{no_close_nil, no_close_push}
use Rattle.wsn_laws.proofs.ComputedRedactions.{head_tested, quiet_head, computed_with, no_head_of_two, wrong_text}
use Rattle.wsn_redact.proofs.RedactedPayloads.{payload_is}
use Rattle.wsn_laws.proofs.redaction_examples.of_refused_streams.Goals as goal

-- the frame that comes first
abbrev first : Frame
first = record { fin = false; op = Text; key = None; form = Shortest; payload = 0x61 ∷ [] }

pub returns : goal.returns
unfolding found head_tested
returns c = record {
  close_code =
      computed_with Server greatest (0x88 ∷ 0x04 ∷ 0x03 ∷ 0xec ∷ 0x61 ∷ 0x62 ∷ []) (0x88 ∷ 0x04 ∷ 0x03 ∷ 0xec ∷ 0x00 ∷ 0x00 ∷ []) (0x88 ∷ 0x04 ∷ 0x03 ∷ 0xec ∷ []) refl refl
      (inr (inr (
        no_close_nil,
        record {
          info = record { offset = 0; fin = true; op = Close; key = None; form = Shortest; len = 4 };
          begins = record { head = 0x88 ∷ 0x04 ∷ []; following = 0x03 ∷ 0xec ∷ []; whole = refl; offset = refl; encoded = refl; key = tt; form = tt; size = omega arith; has_no_evidence = quiet_head Server greatest [] (0x88 ∷ 0x04 ∷ []) refl };
          part = 0x03 ∷ 0xec ∷ [];
          is_part = payload_is [] Close (0x03 ∷ 0xec ∷ []) begins-nil;
          redacted_is = refl;
        },
      )))
      refl;
  close_reason =
      computed_with Server greatest (0x88 ∷ 0x05 ∷ 0x03 ∷ 0xe8 ∷ 0x61 ∷ 0xc3 ∷ 0x41 ∷ 0x42 ∷ []) (0x88 ∷ 0x05 ∷ 0x03 ∷ 0xe8 ∷ 0x78 ∷ 0xc3 ∷ 0x58 ∷ 0x00 ∷ []) (0x88 ∷ 0x05 ∷ 0x03 ∷ 0xe8 ∷ 0x78 ∷ 0xc3 ∷ 0x58 ∷ []) refl refl
      (inr (inr (
        no_close_nil,
        record {
          info = record { offset = 0; fin = true; op = Close; key = None; form = Shortest; len = 5 };
          begins = record { head = 0x88 ∷ 0x05 ∷ []; following = 0x03 ∷ 0xe8 ∷ 0x61 ∷ 0xc3 ∷ 0x41 ∷ []; whole = refl; offset = refl; encoded = refl; key = tt; form = tt; size = omega arith; has_no_evidence = quiet_head Server greatest [] (0x88 ∷ 0x05 ∷ []) refl };
          part = 0x03 ∷ 0xe8 ∷ 0x78 ∷ 0xc3 ∷ 0x58 ∷ [];
          is_part = (
            0x78 ∷ 0xc3 ∷ 0x58 ∷ [],
            wrong_text (0x61 ∷ 0xc3 ∷ []) 0x41
                (record { more = 0x80 ∷ []; text = (after_ascii 0x61 (omega arith) (0xc3 ∷ 0x80 ∷ [])).1 ((after_two 0xc3 (omega arith, omega arith) (0x80 ∷ [])).1 (omega arith, omega arith, text-nil)) })
                (λ begins. let rest = (after_two 0xc3 (omega arith, omega arith) (0x41 ∷ begins.more)).0 ((after_ascii 0x61 (omega arith) (0xc3 ∷ 0x41 ∷ begins.more)).0 begins.text) in let low = rest.0 in omega (arith, low)),
            refl,
          );
          redacted_is = refl;
        },
      )))
      refl;
  close_one_byte =
      computed_with Server greatest (0x88 ∷ 0x01 ∷ 0x61 ∷ []) (0x88 ∷ 0x01 ∷ 0x00 ∷ []) (0x88 ∷ 0x01 ∷ []) refl refl
      (inr (inl (no_close_nil, no_head_of_two Server greatest [] (0x88 ∷ 0x01 ∷ []) CloseOneByte (omega arith) (BySecond 0x88 0x01 refl (refl, refl)), refl))) refl;
  cut =
      computed_with Server greatest (0x81 ∷ 0x05 ∷ 0x61 ∷ 0xe2 ∷ 0x9c ∷ []) (0x81 ∷ 0x05 ∷ 0x78 ∷ 0xe2 ∷ 0x82 ∷ []) (0x81 ∷ 0x05 ∷ 0x78 ∷ 0xe2 ∷ 0x82 ∷ []) refl refl
      (inr (inr (
        no_close_nil,
        record {
          info = record { offset = 0; fin = true; op = Text; key = None; form = Shortest; len = 5 };
          begins = record { head = 0x81 ∷ 0x05 ∷ []; following = 0x61 ∷ 0xe2 ∷ 0x9c ∷ []; whole = refl; offset = refl; encoded = refl; key = tt; form = tt; size = omega arith; has_no_evidence = quiet_head Server greatest [] (0x81 ∷ 0x05 ∷ []) refl };
          part = 0x78 ∷ 0xe2 ∷ 0x82 ∷ [];
          is_part = payload_is [] Text (0x61 ∷ 0xe2 ∷ 0x9c ∷ []) (λ _. record { more = 0x80 ∷ []; text = (after_ascii 0x61 (omega arith) (0xe2 ∷ 0x9c ∷ 0x80 ∷ [])).1 ((after_E1_to_EC 0xe2 (omega arith, omega arith) (0x9c ∷ 0x80 ∷ [])).1 (omega arith, omega arith, (omega arith, omega arith, text-nil))) });
          redacted_is = refl;
        },
      )))
      refl;
  overlong =
      computed_with Server greatest (0x01 ∷ 0x01 ∷ 0x61 ∷ 0x80 ∷ 0x04 ∷ 0x62 ∷ 0xe0 ∷ 0x9f ∷ 0xbf ∷ 0x41 ∷ []) (0x01 ∷ 0x01 ∷ 0x78 ∷ 0x80 ∷ 0x04 ∷ 0x78 ∷ 0xe0 ∷ 0x9f ∷ 0x00 ∷ 0x00 ∷ []) (0x80 ∷ 0x04 ∷ 0x78 ∷ 0xe0 ∷ 0x9f ∷ []) refl refl
      (inr (inr (
        no_close_push [] first no_close_nil (λ is. cc),
        record {
          info = record { offset = 3; fin = true; op = Continue; key = None; form = Shortest; len = 4 };
          begins = record { head = 0x80 ∷ 0x04 ∷ []; following = 0x62 ∷ 0xe0 ∷ 0x9f ∷ []; whole = refl; offset = refl; encoded = refl; key = tt; form = tt; size = omega arith; has_no_evidence = quiet_head Server greatest (first ∷ []) (0x80 ∷ 0x04 ∷ []) refl };
          part = 0x78 ∷ 0xe0 ∷ 0x9f ∷ [];
          is_part = record {
            before = 0x78 ∷ [];
            same_place = refl;
            is = wrong_text (0x61 ∷ 0x62 ∷ 0xe0 ∷ []) 0x9f
                (record { more = 0xa0 ∷ 0x80 ∷ []; text = (after_ascii 0x61 (omega arith) (0x62 ∷ 0xe0 ∷ 0xa0 ∷ 0x80 ∷ [])).1 ((after_ascii 0x62 (omega arith) (0xe0 ∷ 0xa0 ∷ 0x80 ∷ [])).1 ((after_E0 0xe0 refl (0xa0 ∷ 0x80 ∷ [])).1 (omega arith, omega arith, (omega arith, omega arith, text-nil)))) })
                (λ begins. let rest = (after_E0 0xe0 refl (0x9f ∷ begins.more)).0 ((after_ascii 0x62 (omega arith) (0xe0 ∷ 0x9f ∷ begins.more)).0 ((after_ascii 0x61 (omega arith) (0x62 ∷ 0xe0 ∷ 0x9f ∷ begins.more)).0 begins.text)) in let low = rest.0 in omega (arith, low));
          };
          redacted_is = refl;
        },
      )))
      refl;
}
