use Rattle.std.proofs.Common.{true, false, List, [], ◌∷◌, ◌++◌, refl, inr, arith}
use Rattle.wsn_wire.specs.declared.opcode.Op.TheVariants.{Continue, Text, Ping}
use Rattle.wsn_wire.specs.Frame.{IsEncodable}
use Rattle.wsn_rules.specs.ShownOffsets.{AreDealt}
use Rattle.wsn_laws.specs.PlanExamples.{server_frame}
use Rattle.wsn_rules.specs.BadCharacter.{PlacedByte, placed}
use Rattle.wsn_laws.proofs.offset_examples.in_place.Goals as goal

ping_encodable : IsEncodable (server_frame true Ping [])
ping_encodable = record { key = tt; payload = tt; size = omega arith; form = tt }

first_encodable : IsEncodable (server_frame false Text (0x41 ∷ []))
first_encodable = record { key = tt; payload = (omega arith, tt); size = omega arith; form = tt }

last_encodable : IsEncodable (server_frame true Continue (0x42 ∷ []))
last_encodable = record { key = tt; payload = (omega arith, tt); size = omega arith; form = tt }

pub returns-clause-ping : goal.returns-clause-ping
returns-clause-ping c = record {
  piles = placed 0 (0x89 ∷ 0x00 ∷ []) ∷ [];
  dealt = ([], _, [], refl, ([], [], [], refl, (refl, tt)));
  are_placed = (
    record {
      begins = refl;
      is_pile = (server_frame true Ping [], record { encodable = ping_encodable; control = refl; final = refl }, refl, refl, refl, refl);
      within = omega arith;
    },
    tt,
  );
  in_order = ((λ e. absurd e), inr (refl, refl, omega arith, tt));
}

-- The bytes of the ping, and those of the message after it.
abbrev ping : List PlacedByte
ping = placed 3 (0x89 ∷ 0x00 ∷ [])

abbrev last : List PlacedByte
last = placed 5 (0x80 ∷ 0x01 ∷ 0x42 ∷ [])

rest_dealt : AreDealt (placed 3 (0x89 ∷ 0x00 ∷ 0x80 ∷ 0x01 ∷ 0x42 ∷ [])) (ping ∷ last ∷ [])
rest_dealt =
    ([], placed 4 (0x00 ∷ []), last ∷ [], refl, ([], [], last ∷ [], refl, ([] ∷ [], placed 6 (0x01 ∷ 0x42 ∷ []), [], refl, ([] ∷ [], placed 7 (0x42 ∷ []), [], refl, ([] ∷ [], [], [], refl, (refl, (refl, tt)))))))

pub returns-clause-ping_between : goal.returns-clause-ping_between
returns-clause-ping_between c = record {
  piles = ping ∷ (placed 0 (0x01 ∷ 0x01 ∷ 0x41 ∷ []) ++ last) ∷ [];
  dealt =
      (ping ∷ [], placed 1 (0x01 ∷ 0x41 ∷ []) ++ last, [], refl, (ping ∷ [], placed 2 (0x41 ∷ []) ++ last, [], refl, (ping ∷ [], last, [], refl, rest_dealt)));
  are_placed = (
    record {
      begins = refl;
      is_pile = (server_frame true Ping [], record { encodable = ping_encodable; control = refl; final = refl }, refl, refl, refl, refl);
      within = omega arith;
    },
    (
      record {
        begins = refl;
        is_pile = (
          record { offset = 0; frame = server_frame false Text (0x41 ∷ []) } ∷ [],
          record { offset = 5; frame = server_frame true Continue (0x42 ∷ []) },
          (record { encodable = first_encodable; data_frame = refl; not_final = refl }, tt),
          record { encodable = last_encodable; data_frame = refl; final = refl },
          record { group = record { data_frames = (refl, (refl, tt)); of_kind = refl; joined = refl; counted = refl }; once = ((λ e. cc), (refl, tt)) },
          refl,
        );
        within = omega arith;
      },
      tt,
    ),
  );
  in_order = ((λ e. absurd e), inr (refl, refl, omega arith, ((λ e. absurd e), inr (refl, refl, omega arith, tt))));
}
