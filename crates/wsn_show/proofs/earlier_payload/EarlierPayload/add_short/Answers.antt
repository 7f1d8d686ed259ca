use Rattle.std.proofs.Common.{ℕ, List, refl, ap, ◌∙◌, rules}
use Rattle.wsn_rules.specs.BadCharacter.{last_of}
use Rattle.wsn_rules.proofs.LastElements.{last_of_both}
use Rattle.wsn_show.proofs.earlier_payload.EarlierPayload.add_short.Goals as goal

pub make_room-requires : goal.make_room-requires
make_room-requires c = search rules

pub add-requires : goal.add-requires
add-requires c = search rules

pub returns : goal.returns
returns c =
    let bytes = c.args.bytes.now in
    ap (λ (bs : List ℕ). last_of 48 bs) c.add.ensures ∙ last_of_both 48 c.make_room.new.self.held bytes c.args.self.now.held bytes c.make_room.ensures.last refl
