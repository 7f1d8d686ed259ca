use Rattle.std.proofs.Common.{◌≡◌, true, false, ◌++◌, sym, ◌∙◌, subst, arith, length-append}
use Rattle.wsn_wire.specs.Frame.{is_control}
use Rattle.wsn_rules.specs.Group.{unfinished, payload_of}
use Rattle.wsn_show.specs.StreamParts.{KeepsMessage}
use Rattle.wsn_show.proofs.KeptParts.{part_of_data, adds_data, adds_to_control}
use Rattle.wsn_show.proofs.stream_parts.StreamParts.add_payload.Goals as goal

pub returns-then-not-is_control : goal.returns-then-not-is_control
returns-then-not-is_control c n fs part rest share size fits small kept =
    let own = kept.frame in
    let head = c.args.head.now in
    let message = c.args.self.now.message in
    let added = c.add-then-not-is_control.ensures in
    let other : is_control head.op ≡ false = sym c.is_control.ensures ∙ c.if-not-is_control.true in
    adds_data n _ fs head message part c.args.payload.now rest (rest ++ share) other
    (added.kept n fs part (omega (arith, small, length-append (payload_of (unfinished fs)) part)) (subst (KeepsMessage n message fs) (part_of_data head part other) kept.message)) (kept.joined other) added.op added.offset
    (record {
      offset = own.offset;
      size = let sum = c.saturating_add-self.ensures in let before = own.size in omega (arith, sum, before, size, fits, length-append rest share);
      head = own.head;
      begun = own.begun;
      last = c.add.ensures part (omega (arith, small)) own.last;
    })

pub returns-else-not-is_control : goal.returns-else-not-is_control
returns-else-not-is_control c n fs part rest share size fits small kept =
    let own = kept.frame in
    let head = c.args.head.now in
    let control : is_control head.op ≡ true = sym c.is_control.ensures ∙ c.if-not-is_control.false in
    adds_to_control n _ fs head part c.args.payload.now (rest ++ share) control kept.message
    (record {
      offset = own.offset;
      size = let sum = c.saturating_add-self.ensures in let before = own.size in omega (arith, sum, before, size, fits, length-append rest share);
      head = own.head;
      begun = own.begun;
      last = c.add.ensures part (omega (arith, small)) own.last;
    })
