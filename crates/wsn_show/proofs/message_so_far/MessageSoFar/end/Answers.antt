use Rattle.std.proofs.Common.{◌≡◌, ◌+◌, refl, ap, ◌∙◌, arith, ℕ, List}
use Rattle.wsn_rules.specs.BadCharacter.{payload_offset, last_of, open_payload}
use Rattle.wsn_rules.specs.Group.{unfinished, payload_of}
use Rattle.wsn_rules.specs.Heads.{info_of}
use Rattle.wsn_rules.proofs.Groups.{unfinished_final}
use Rattle.wsn_rules.proofs.LastElements.{last_of_last}
use Rattle.wsn_show.proofs.OpenMessages.{kept_after_fragment, end_of_frame}
use Rattle.wsn_show.proofs.message_so_far.MessageSoFar.end.Goals as goal

pub returns-then-final_frame : goal.returns-then-final_frame
returns-then-final_frame c n fs f data_frame final is end small kept joined = c.close.ensures n _ kept.payload.enough (unfinished_final fs f data_frame (final ∙ c.if-final_frame.true))

pub returns-else-final_frame : goal.returns-else-final_frame
returns-else-final_frame c n fs f data_frame final is end small kept joined =
    let before = kept.frames in
    let sum = c.saturating_add-self.ensures in
    let frames : c.saturating_add-self.result ≡ c.args.self.now.frames + 1 = omega (arith, before, sum, small) in
    let earlier = c.add.ensures (payload_of (unfinished fs)) f.payload (ap (λ (bs : List ℕ). last_of 48 bs) is ∙ last_of_last 48 2048 f.payload (omega arith)) kept.earlier in
    let last = c.add-else-final_frame.ensures (open_payload fs) f.payload (payload_offset (info_of _ f)) 2048 (omega arith) is (end_of_frame fs f c.args.end end) kept.last in
    kept_after_fragment n c.args.self.now _ fs f data_frame (final ∙ c.if-final_frame.false) kept joined frames c.count-self.ensures refl earlier last refl refl
