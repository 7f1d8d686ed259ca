use Rattle.std.proofs.Common.{◌-◌, length, take, drop, sym, ◌∙◌}
use Rattle.wsn_print.proofs.HeldParts.{rest_is}
use Rattle.wsn_show.proofs.ShownChunks.{shows_none, shows_rest, frames_of}
use Rattle.wsn_show.proofs.feeding.feed.Goals as goal

pub returns-in-Some : goal.returns-in-Some
returns-in-Some g c role limits came shown small has =
    shows_none role limits c.args.scan.now c.args.parts.now c.add.new.self c.args.context.now c.args.output.now came c.args.chunk.now shown c.in-Some.field-0 c.add.ensures small (sym c.refusal.ensures ∙ c.in-Some.is) has

pub returns-in-None : goal.returns-in-None
returns-in-None g c role limits came shown small has =
    let read = c.feed_unrefused-read.result in
    let there = c.feed_unrefused-read.new.chunk in
    let left = rest_is read there ∙ c.feed_unrefused-read.ensures.kept in
    shows_rest role limits c.feed_unrefused-read.new.scan c.feed_unrefused-read.new.parts c.add-in-None.new.self c.args.context.now c.args.output.now c.feed_unrefused-read.new.output came c.args.chunk.now (take (length there - read) (drop read there)) read shown
    c.add-in-None.ensures left c.feed_unrefused-read.ensures.all c.feed_unrefused-read.ensures.within small
    (c.feed_unrefused-read.ensures.shows role limits came shown (frames_of c.args.context.now.style role limits c.args.scan.now c.args.parts.now came shown (sym c.refusal.ensures ∙ c.in-None.is) has))

pub feed_unrefused-read-requires-clause-begun : goal.feed_unrefused-read-requires-clause-begun
feed_unrefused-read-requires-clause-begun g c = c.requires.begun (sym c.refusal.ensures ∙ c.in-None.is)

pub feed_unrefused-read-requires-clause-fits : goal.feed_unrefused-read-requires-clause-fits
feed_unrefused-read-requires-clause-fits g c = c.requires.fits (sym c.refusal.ensures ∙ c.in-None.is)
