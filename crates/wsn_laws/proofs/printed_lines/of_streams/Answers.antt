use Rattle.std.specs.Fmt.{digits}
use Rattle.std.specs.Prelude.{codes}
use Rattle.std.proofs.Common.{[], ◌∷◌, true, None, refl}
use Rattle.wsn_wire.specs.declared.endpoint.Role.TheVariants.{Server}
use Rattle.wsn_wire.specs.declared.opcode.Op.TheVariants.{Text, Close}
use Rattle.wsn_wire.specs.declared.length_encoding.Form.TheVariants.{Shortest}
use Rattle.wsn_rules.specs.Examples.{greatest}
use Rattle.wsn_rules.proofs.Computed.{found}
use Rattle.wsn_laws.proofs.ComputedHeads.{lists_cut, lists_closed, lists_to_a_head, lists_to_a_payload}
use Rattle.wsn_laws.proofs.printed_lines.of_streams.Goals as goal

pub returns-clause-ping_between : goal.returns-clause-ping_between
unfolding found digits
returns-clause-ping_between c = lists_cut Server greatest (0x01 ∷ 0x01 ∷ 0x48 ∷ 0x89 ∷ 0x00 ∷ 0x80 ∷ 0x01 ∷ 0x69 ∷ 0x81 ∷ []) (codes "0 more text - 1\n3 fin ping - 0\n5 fin cont - 1\n") refl refl (0x81 ∷ []) refl refl refl refl

pub returns-clause-refused_in_a_payload : goal.returns-clause-refused_in_a_payload
unfolding found digits
returns-clause-refused_in_a_payload c = lists_to_a_payload Server greatest (0x89 ∷ 0x00 ∷ 0x81 ∷ 0x02 ∷ 0x41 ∷ 0xff ∷ []) (codes "0 fin ping - 0\n2 fin text - 2\n") refl refl (0x81 ∷ 0x02 ∷ 0x41 ∷ 0xff ∷ []) (record { offset = 2; fin = true; op = Text; key = None; form = Shortest; len = 2 }) (0x41 ∷ 0xff ∷ []) refl refl refl tt tt refl refl refl

pub returns-clause-refused_in_a_head : goal.returns-clause-refused_in_a_head
unfolding found digits
returns-clause-refused_in_a_head c = lists_to_a_head Server greatest (0x81 ∷ 0x01 ∷ 0x41 ∷ 0xc1 ∷ 0x00 ∷ []) (codes "0 fin text - 1\n") refl refl (0xc1 ∷ 0x00 ∷ []) refl refl refl

pub returns-clause-cut_by_an_empty_frame : goal.returns-clause-cut_by_an_empty_frame
unfolding found digits
returns-clause-cut_by_an_empty_frame c = lists_to_a_head Server greatest (0x01 ∷ 0x01 ∷ 0xe2 ∷ 0x80 ∷ 0x00 ∷ []) (codes "0 more text - 1\n") refl refl (0x80 ∷ 0x00 ∷ []) refl refl refl

pub returns-clause-ended_by_an_empty_frame : goal.returns-clause-ended_by_an_empty_frame
unfolding found digits
returns-clause-ended_by_an_empty_frame c = lists_cut Server greatest (0x01 ∷ 0x01 ∷ 0x41 ∷ 0x80 ∷ 0x00 ∷ 0x81 ∷ []) (codes "0 more text - 1\n3 fin cont - 0\n") refl refl (0x81 ∷ []) refl refl refl refl

pub returns-clause-after_a_close : goal.returns-clause-after_a_close
unfolding found digits
returns-clause-after_a_close c = lists_closed Server greatest (0x88 ∷ 0x00 ∷ 0x81 ∷ 0x00 ∷ []) (codes "0 fin close - 0\n") refl refl (0x81 ∷ 0x00 ∷ []) refl refl [] (record { fin = true; op = Close; key = None; form = Shortest; payload = [] }) refl refl refl
