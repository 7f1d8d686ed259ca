use Rattle.std.proofs.Common.{◌≡◌, ℕ, ◌+◌, ◌-◌, ◌<◌, ◌≤◌, List, [], ◌++◌, length, take, drop, None, refl, sym, ap, ◌∙◌, subst, append-nil, arith, length-drop}
use borrow.Rule.Slice.PartMut.{mid_of, same_len_mid}
use Rattle.wsn_scan.specs.Scans.{refusal_in}
use Rattle.wsn_scan.proofs.FedChunks.{share_is, kept_after, same_further}
use Rattle.wsn_show.specs.ShownSoFar.{HasShownFrames}
use Rattle.wsn_show.proofs.ShownChunks.{same_frames_shown, goes_on, unrefused_more, frames_more}
use Rattle.wsn_show.proofs.feeding.feed_unrefused.Goals as goal

pub loop-at-init : goal.loop-at-init
loop-at-init g c = record {
  within = omega arith;
  size = refl;
  kept = refl;
  room = omega arith;
  shows = λ role limits came shown frames.
      same_frames_shown role limits c.args.scan.now c.args.parts.now c.args.context.now c.args.output.now c.args.output.now (came ++ []) shown
      (subst (λ (bs : List ℕ). HasShownFrames c.args.context.now.style role limits c.args.scan.now c.args.parts.now bs shown) (sym (append-nil came)) frames);
}

pub returns-in-Some-clause-kept : goal.returns-in-Some-clause-kept
returns-in-Some-clause-kept g c =
    let at = c.loop-at.at in
    let here = c.loop-at.chunk in
    let known = c.loop-at.invariant in
    let in_here : at ≤ length here = omega (arith, known.within, known.size) in
    kept_after at (length here - at) c.step-at.result here c.step-at.new.chunk in_here c.step-at.ensures.within c.step-at.auto.chunk c.step-at.ensures.kept
    ∙ same_further at c.step-at.result here c.args.chunk.now in_here known.within known.kept

pub returns-in-Some-clause-shows : goal.returns-in-Some-clause-shows
returns-in-Some-clause-shows g c role limits came shown frames =
    let at = c.loop-at.at in
    let here = c.loop-at.chunk in
    let chunk = c.args.chunk.now in
    let share = mid_of at (length here - at) here in
    let is : share ≡ drop at chunk = share_is at here ∙ c.loop-at.invariant.kept in
    goes_on role limits c.loop-at.scan c.step-at.new.scan c.loop-at.parts c.step-at.new.parts c.args.context.now c.args.output.now c.loop-at.output c.step-at.new.output came chunk share at c.step-at.result shown is
    (c.loop-at.invariant.shows role limits came shown frames) (λ so_far now. c.step-at.ensures.shows role limits (came ++ take at chunk) so_far now)

pub loop-at-smaller : goal.loop-at-smaller
loop-at-smaller g c =
    let at = c.loop-at.at in
    let here = c.loop-at.chunk in
    let chunk = c.args.chunk.now in
    let known = c.loop-at.invariant in
    let share = mid_of at (length here - at) here in
    let is : share ≡ drop at chunk = share_is at here ∙ known.kept in
    let size : length share ≡ length (drop at chunk) = ap (λ (bs : List ℕ). length bs) is in
    let less : at < length chunk = omega (arith, known.size, c.loop-at-test.true) in
    let begun = c.requires.begun in
    let so_far = known.shows begun.role begun.limits begun.came begun.shown begun.frames in
    let none : refusal_in c.step-at.new.scan ≡ None = sym c.refusal.ensures ∙ c.in_default.is in
    let some = c.step-at.ensures.progress (record { role = begun.role; limits = begun.limits; came = begun.came ++ take at chunk; shown = begun.shown ++ so_far.extra; frames = so_far.frames }) none in
    omega (arith, size, length-drop at chunk, c.step-at.ensures.within, less, some)

pub loop-at-preserved : goal.loop-at-preserved
loop-at-preserved g c =
    let at = c.loop-at.at in
    let here = c.loop-at.chunk in
    let chunk = c.args.chunk.now in
    let known = c.loop-at.invariant in
    let share = mid_of at (length here - at) here in
    let is : share ≡ drop at chunk = share_is at here ∙ known.kept in
    let size : length share ≡ length (drop at chunk) = ap (λ (bs : List ℕ). length bs) is in
    let in_here : at ≤ length here = omega (arith, known.within, known.size) in
    let none : refusal_in c.step-at.new.scan ≡ None = sym c.refusal.ensures ∙ c.in_default.is in
    record {
      within = omega (arith, size, length-drop at chunk, c.step-at.ensures.within, known.within);
      size = same_len_mid at (length here - at) here c.step-at.new.chunk c.step-at.auto.chunk ∙ known.size;
      kept =
          kept_after at (length here - at) c.step-at.result here c.step-at.new.chunk in_here c.step-at.ensures.within c.step-at.auto.chunk c.step-at.ensures.kept
          ∙ same_further at c.step-at.result here chunk in_here known.within known.kept;
      room = omega (arith, c.step-at.ensures.room, known.room);
      shows = λ role limits came shown frames.
          unrefused_more role limits c.step-at.new.scan c.step-at.new.parts c.args.context.now c.args.output.now c.step-at.new.output (came ++ take (at + c.step-at.result) chunk) shown
          (goes_on role limits c.loop-at.scan c.step-at.new.scan c.loop-at.parts c.step-at.new.parts c.args.context.now c.args.output.now c.loop-at.output c.step-at.new.output came chunk share at c.step-at.result shown is
          (known.shows role limits came shown frames) (λ so_far now. c.step-at.ensures.shows role limits (came ++ take at chunk) so_far now))
          none;
    }

pub returns-clause-shows : goal.returns-clause-shows
returns-clause-shows g c role limits came shown frames =
    let at = c.loop-at.at in
    frames_more role limits c.loop-at.scan c.loop-at.parts c.args.context.now c.args.output.now c.loop-at.output (came ++ take at c.args.chunk.now) shown (c.loop-at.invariant.shows role limits came shown frames)
