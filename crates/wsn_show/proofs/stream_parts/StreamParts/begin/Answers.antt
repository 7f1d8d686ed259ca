use Rattle.std.proofs.Common.{◌≡◌, true, false, sym, refl, ◌∙◌}
use Rattle.wsn_wire.specs.Frame.{is_control}
use Rattle.wsn_rules.specs.ShownStream.{frame_so_far}
use Rattle.wsn_show.proofs.KeptParts.{begins}
use Rattle.wsn_show.proofs.stream_parts.StreamParts.begin.Goals as goal

pub returns-then-not-is_control : goal.returns-then-not-is_control
returns-then-not-is_control c n fs rest kept =
    let own = kept.frame in
    let message = c.begin.ensures in
    begins n _ fs c.args.head rest (message.kept n fs _ kept.message) (λ other. message.joined n fs (frame_so_far c.args.head _) refl own.offset kept.message)
    (record { offset = own.offset; size = own.size; head = refl; begun = c.clear.ensures; last = c.clear-2.ensures })

pub returns-else-not-is_control : goal.returns-else-not-is_control
returns-else-not-is_control c n fs rest kept =
    let own = kept.frame in
    let control : is_control c.args.head.op ≡ true = sym c.is_control.ensures ∙ c.if-not-is_control.false in
    begins n _ fs c.args.head rest kept.message (λ other. let both : true ≡ false = sym control ∙ other in absurd cc)
    (record { offset = own.offset; size = own.size; head = refl; begun = c.clear.ensures; last = c.clear-2.ensures })
