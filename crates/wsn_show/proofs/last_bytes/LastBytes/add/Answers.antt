use Rattle.std.proofs.Common.{◌≡◌, ℕ, ◌+◌, ◌-◌, List, ◌++◌, length, take, drop, min, refl, ap, ◌∙◌}
use Rattle.wsn_print.proofs.HeldParts.{rest_is}
use Rattle.wsn_show.proofs.MoreBytesHeld.{counted, last_more}
use Rattle.wsn_show.proofs.last_bytes.LastBytes.add.Goals as goal

pub returns : goal.returns
returns c came small has =
    let held = c.args.self.now.held in
    let bytes = c.args.bytes.now in
    let from : c.saturating_sub.result ≡ length bytes - 2048 = c.saturating_sub.ensures in
    let last = drop (length bytes - 2048) bytes in
    let passed : take (length bytes - c.saturating_sub.result) (drop c.saturating_sub.result bytes) ≡ last = rest_is c.saturating_sub.result bytes ∙ ap (λ (m : ℕ). drop m bytes) from in
    let room : c.make_room.new.self.held ≡ drop (length held + length last - 2048) held = c.make_room.ensures.held ∙ ap (λ (bs : List ℕ). drop (length held + length bs - 2048) held) passed in
    record {
      count = counted c.args.self.now.count (length bytes) c.saturating_add-self.result came bytes has.count refl small (c.saturating_add-self.ensures ∙ ap (λ (m : ℕ). min (m + length bytes) 18446744073709551615) c.make_room.ensures.count);
      held =
          c.add.ensures
          ∙ ap (λ (bs : List ℕ). bs ++ take (length bytes - c.saturating_sub.result) (drop c.saturating_sub.result bytes)) room
          ∙ ap (λ (bs : List ℕ). drop (length held + length last - 2048) held ++ bs) passed ∙ last_more held came bytes has.held;
    }
