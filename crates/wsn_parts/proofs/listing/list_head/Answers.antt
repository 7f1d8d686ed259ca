use Rattle.std.proofs.Common.{List, sym, subst, rules}
use Rattle.wsn_rules.specs.declared.head_info.HeadInfo.{HeadInfo}
use Rattle.wsn_parts.specs.Listing.{ListsMore}
use Rattle.wsn_parts.proofs.ListedParts.{begun_head, none_begun, lists_none, lists_one}
use Rattle.wsn_parts.proofs.listing.list_head.Goals as goal

pub returns-then-part : goal.returns-then-part
returns-then-part g c =
    subst (λ (heads : List HeadInfo). ListsMore c.args.format c.args.output.now c.make_room.new.output c.args.lines.now c.add.new.self heads) (sym (begun_head c.args.found c.args.part.now c.in-Part.is c.if-part.true))
    (lists_one c.args.format c.args.output.now c.make_room.new.output c.args.lines.now c.make_room.new.lines c.add.new.self c.args.part.now.head c.make_room.ensures.held c.add.ensures)

pub returns-else-part : goal.returns-else-part
returns-else-part g c =
    subst (λ (heads : List HeadInfo). ListsMore c.args.format c.args.output.now c.args.output.now c.args.lines.now c.args.lines.now heads) (sym (none_begun c.args.found c.args.part.now (λ _. c.if-part.false)))
    (lists_none c.args.format c.args.output.now c.args.lines.now)

pub returns-in_default : goal.returns-in_default
returns-in_default g c =
    subst (λ (heads : List HeadInfo). ListsMore c.args.format c.args.output.now c.args.output.now c.args.lines.now c.args.lines.now heads) (sym (none_begun c.args.found c.args.part.now (λ is. absurd (c.in_default.not-Part is))))
    (lists_none c.args.format c.args.output.now c.args.lines.now)

pub add-requires : goal.add-requires
add-requires g c = search rules
