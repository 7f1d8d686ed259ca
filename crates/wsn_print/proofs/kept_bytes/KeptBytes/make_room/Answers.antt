use Rattle.std.proofs.Common.{◌++◌, ℕ, List, [], refl, ap, ◌∙◌, append-nil}
use Rattle.std.proofs.KnownBytes.{Appends-nil}
use Rattle.wsn_print.proofs.kept_bytes.KeptBytes.make_room.Goals as goal

pub returns-then-has_room-clause-kept : goal.returns-then-has_room-clause-kept
returns-then-has_room-clause-kept g c = ([], refl, (c.requires.unfailed, Appends-nil c.args.to.now.written))

pub returns-else-has_room-clause-kept : goal.returns-else-has_room-clause-kept
returns-else-has_room-clause-kept g c =
    let kept = c.args.self.now in
    (kept, ap (λ (rest : List ℕ). kept ++ rest) c.write_to.ensures.none_kept ∙ append-nil kept, c.write_to.ensures.written)
