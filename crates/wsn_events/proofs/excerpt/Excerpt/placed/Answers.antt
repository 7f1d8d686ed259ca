use Rattle.std.proofs.Common.{refl}
use Rattle.wsn_events.proofs.ExcerptViews.{is_placed}
use Rattle.wsn_events.proofs.excerpt.Excerpt.placed.Goals as goal

pub returns : goal.returns
returns c n offset event frames few is =
    is_placed n offset event frames c.args.self.now
    (record { offset = c.args.self.now.offset; event = record { op = c.args.self.now.op; bytes = c.args.self.now.bytes; frames = c.args.self.now.frames; held = c.as_slice.result } }) few is refl refl refl refl c.as_slice.ensures.value
