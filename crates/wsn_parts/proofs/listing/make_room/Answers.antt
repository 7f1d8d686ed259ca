use Rattle.std.proofs.Common.{◌++◌, ℕ, List, [], refl, ap, ◌∙◌, append-nil}
use Rattle.wsn_parts.proofs.Printing.{prints_none}
use Rattle.wsn_parts.proofs.listing.make_room.Goals as goal

pub returns-then-is_full-clause-held : goal.returns-then-is_full-clause-held
returns-then-is_full-clause-held g c =
    let held = c.args.lines.now in
    (held, ap (λ (rest : List ℕ). held ++ rest) c.print_lines.ensures.none_held ∙ append-nil held, c.print_lines.ensures.printed)

pub returns-else-is_full-clause-held : goal.returns-else-is_full-clause-held
returns-else-is_full-clause-held g c = ([], refl, prints_none c.args.output.now)
