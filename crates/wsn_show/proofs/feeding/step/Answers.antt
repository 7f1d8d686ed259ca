use Rattle.std.proofs.Common.{◌≡◌, ◌+◌, ◌<◌, ◌^◌, ℕ, Some, List, ◌++◌, length, take, sym, ap, ◌∙◌, subst, arith}
use Rattle.std.proofs.lemmas.List.{length-take, length-take-le}
use Rattle.wsn_scan.specs.declared.part.Taken.{Taken}
use Rattle.wsn_scan.specs.Positions.{BetweenFrames}
use Rattle.wsn_scan.specs.Scans.{refusal_in}
use Rattle.wsn_scan.specs.FollowedScans.{IsCall}
use Rattle.wsn_show.specs.StreamParts.{KeepsStream, held_at}
use Rattle.wsn_scan.proofs.FollowedScans.{lawful_done}
use Rattle.wsn_show.proofs.ShownSteps.{more_step, closed_step, part_step, refused_step, goes_wrong, small_evidence, consumes_some}
use Rattle.wsn_show.proofs.feeding.step.Goals as goal

pub returns-in-More-clause-shows : goal.returns-in-More-clause-shows
returns-in-More-clause-shows g c role limits came shown frames =
    let old = c.args.scan.now in
    let new = c.follow-count.new.self in
    let chunk = c.args.chunk.now in
    let after = c.follow-count.new.chunk in
    let n = c.follow-count.result.0 in
    let part = c.follow-count.new.part in
    let context = c.args.context.now in
    let call = subst (λ (f : Taken). IsCall old new chunk after n f part) c.in-More.is (c.follow-count.ensures.call c.follow-count.ensures.in_bytes) in
    let same : take n after ≡ take n chunk = ap (λ (bs : List ℕ). take n bs) (call.untouched (λ other. cc) (λ other. cc)) in
    let size = ap (λ (bs : List ℕ). length bs) same in
    more_step role limits old new chunk after n part came shown c.args.parts.now c.add_bytes.new.self context c.args.output.now c.args.output.now frames call c.requires.some
    (λ rest small kept.
    subst (λ (bs : List ℕ). KeepsStream c.args.context.now.style.view c.add_bytes.new.self frames.done BetweenFrames (rest ++ bs)) same
    (c.add_bytes.ensures context.style.view frames.done rest (omega (arith, small, size, length-take-le n chunk call.within)) kept))

pub returns-in-More-clause-progress : goal.returns-in-More-clause-progress
returns-in-More-clause-progress g c showing none =
    consumes_some showing.role showing.limits c.args.scan.now c.follow-count.new.self c.args.chunk.now c.follow-count.new.chunk c.follow-count.result.0 c.follow-count.result.1 c.follow-count.new.part showing.came showing.frames.done showing.frames.at showing.frames.rest
    showing.frames.followed (c.follow-count.ensures.call c.follow-count.ensures.in_bytes) c.requires.some none

pub returns-in-Closed-clause-shows : goal.returns-in-Closed-clause-shows
returns-in-Closed-clause-shows g c role limits came shown frames =
    let old = c.args.scan.now in
    let new = c.follow-count.new.self in
    let chunk = c.args.chunk.now in
    let after = c.follow-count.new.chunk in
    let n = c.follow-count.result.0 in
    let part = c.follow-count.new.part in
    let context = c.args.context.now in
    let call = subst (λ (f : Taken). IsCall old new chunk after n f part) c.in-Closed.is (c.follow-count.ensures.call c.follow-count.ensures.in_bytes) in
    let same : take n after ≡ take n chunk = ap (λ (bs : List ℕ). take n bs) (call.untouched (λ other. cc) (λ other. cc)) in
    let size = ap (λ (bs : List ℕ). length bs) same in
    closed_step role limits old new chunk after n part came shown c.args.parts.now c.add_bytes-in-Closed.new.self context c.args.output.now c.args.output.now frames call c.requires.some
    (λ rest small kept.
    subst (λ (bs : List ℕ). KeepsStream c.args.context.now.style.view c.add_bytes-in-Closed.new.self frames.done BetweenFrames (rest ++ bs)) same
    (c.add_bytes-in-Closed.ensures context.style.view frames.done rest (omega (arith, small, size, length-take-le n chunk call.within)) kept))

pub returns-in-Closed-clause-progress : goal.returns-in-Closed-clause-progress
returns-in-Closed-clause-progress g c showing none =
    consumes_some showing.role showing.limits c.args.scan.now c.follow-count.new.self c.args.chunk.now c.follow-count.new.chunk c.follow-count.result.0 c.follow-count.result.1 c.follow-count.new.part showing.came showing.frames.done showing.frames.at showing.frames.rest
    showing.frames.followed (c.follow-count.ensures.call c.follow-count.ensures.in_bytes) c.requires.some none

pub returns-in-Part-clause-shows : goal.returns-in-Part-clause-shows
returns-in-Part-clause-shows g c role limits came shown frames =
    let old = c.args.scan.now in
    let new = c.follow-count.new.self in
    let chunk = c.args.chunk.now in
    let after = c.follow-count.new.chunk in
    let n = c.follow-count.result.0 in
    let part = c.follow-count.new.part in
    let context = c.args.context.now in
    let call = subst (λ (f : Taken). IsCall old new chunk after n f part) c.in-Part.is (c.follow-count.ensures.call c.follow-count.ensures.in_bytes) in
    part_step role limits old new chunk after n part came shown c.args.parts.now c.take.new.self context c.args.output.now c.take.new.output frames call
    (λ ended to before since is_at t kept.
    c.take.ensures role limits frames.done ended frames.at to frames.rest before (take n chunk) since (length-take-le n chunk call.within) is_at t kept)

pub returns-in-Part-clause-progress : goal.returns-in-Part-clause-progress
returns-in-Part-clause-progress g c showing none =
    consumes_some showing.role showing.limits c.args.scan.now c.follow-count.new.self c.args.chunk.now c.follow-count.new.chunk c.follow-count.result.0 c.follow-count.result.1 c.follow-count.new.part showing.came showing.frames.done showing.frames.at showing.frames.rest
    showing.frames.followed (c.follow-count.ensures.call c.follow-count.ensures.in_bytes) c.requires.some none

pub returns-in-Some-clause-shows : goal.returns-in-Some-clause-shows
returns-in-Some-clause-shows g c role limits came shown frames =
    let old = c.args.scan.now in
    let new = c.follow-count.new.self in
    let chunk = c.args.chunk.now in
    let after = c.follow-count.new.chunk in
    let n = c.follow-count.result.0 in
    let part = c.follow-count.new.part in
    let context = c.args.context.now in
    let call = subst (λ (f : Taken). IsCall old new chunk after n f part) c.in-Refused.is (c.follow-count.ensures.call c.follow-count.ensures.in_bytes) in
    let refusal = c.in-Some.refusal in
    let is : refusal_in new ≡ Some refusal = sym c.refusal.ensures ∙ c.in-Some.is in
    let small = small_evidence role limits old new chunk after n part came shown c.args.parts.now c.refuse.new.self context c.args.output.now c.refuse.new.output frames refusal is call in
    let few : length (held_at frames.at frames.rest) + length (take n after) < 2 ^ 64 = omega (arith, small, length-take n after) in
    let wrong = goes_wrong role limits old new chunk after n part came shown c.args.parts.now c.refuse.new.self context c.args.output.now c.refuse.new.output frames refusal is call in
    refused_step role limits old new chunk after n part came shown c.args.parts.now c.refuse.new.self context c.args.output.now c.refuse.new.output frames refusal is call c.refuse.ensures.first
    (c.refuse.ensures.printed role limits frames.done frames.at frames.rest (lawful_done role limits old came frames.done frames.at frames.rest frames.followed) few wrong frames.keeps)

pub returns-in-More-clause-within : goal.returns-in-More-clause-within
returns-in-More-clause-within g c = (c.follow-count.ensures.call c.follow-count.ensures.in_bytes).within

pub returns-in-More-clause-room : goal.returns-in-More-clause-room
returns-in-More-clause-room g c = (c.follow-count.ensures.call c.follow-count.ensures.in_bytes).room

pub returns-in-More-clause-kept : goal.returns-in-More-clause-kept
returns-in-More-clause-kept g c = c.follow-count.ensures.kept

pub returns-in-Closed-clause-within : goal.returns-in-Closed-clause-within
returns-in-Closed-clause-within g c = (c.follow-count.ensures.call c.follow-count.ensures.in_bytes).within

pub returns-in-Closed-clause-room : goal.returns-in-Closed-clause-room
returns-in-Closed-clause-room g c = (c.follow-count.ensures.call c.follow-count.ensures.in_bytes).room

pub returns-in-Closed-clause-kept : goal.returns-in-Closed-clause-kept
returns-in-Closed-clause-kept g c = c.follow-count.ensures.kept

pub returns-in-Part-clause-within : goal.returns-in-Part-clause-within
returns-in-Part-clause-within g c = (c.follow-count.ensures.call c.follow-count.ensures.in_bytes).within

pub returns-in-Part-clause-room : goal.returns-in-Part-clause-room
returns-in-Part-clause-room g c = (c.follow-count.ensures.call c.follow-count.ensures.in_bytes).room

pub returns-in-Part-clause-kept : goal.returns-in-Part-clause-kept
returns-in-Part-clause-kept g c = c.follow-count.ensures.kept

pub returns-in-Some-clause-within : goal.returns-in-Some-clause-within
returns-in-Some-clause-within g c = (c.follow-count.ensures.call c.follow-count.ensures.in_bytes).within

pub returns-in-Some-clause-room : goal.returns-in-Some-clause-room
returns-in-Some-clause-room g c = (c.follow-count.ensures.call c.follow-count.ensures.in_bytes).room

pub returns-in-Some-clause-kept : goal.returns-in-Some-clause-kept
returns-in-Some-clause-kept g c = c.follow-count.ensures.kept

pub returns-in_default-clause-within : goal.returns-in_default-clause-within
returns-in_default-clause-within g c = (c.follow-count.ensures.call c.follow-count.ensures.in_bytes).within

pub returns-in_default-clause-room : goal.returns-in_default-clause-room
returns-in_default-clause-room g c = (c.follow-count.ensures.call c.follow-count.ensures.in_bytes).room

pub returns-in_default-clause-kept : goal.returns-in_default-clause-kept
returns-in_default-clause-kept g c = c.follow-count.ensures.kept

pub returns-in-Some-clause-progress : goal.returns-in-Some-clause-progress
returns-in-Some-clause-progress g c showing none =
    consumes_some showing.role showing.limits c.args.scan.now c.follow-count.new.self c.args.chunk.now c.follow-count.new.chunk c.follow-count.result.0 c.follow-count.result.1 c.follow-count.new.part showing.came showing.frames.done showing.frames.at showing.frames.rest
    showing.frames.followed (c.follow-count.ensures.call c.follow-count.ensures.in_bytes) c.requires.some none

pub returns-in_default-clause-progress : goal.returns-in_default-clause-progress
returns-in_default-clause-progress g c showing none =
    consumes_some showing.role showing.limits c.args.scan.now c.follow-count.new.self c.args.chunk.now c.follow-count.new.chunk c.follow-count.result.0 c.follow-count.result.1 c.follow-count.new.part showing.came showing.frames.done showing.frames.at showing.frames.rest
    showing.frames.followed (c.follow-count.ensures.call c.follow-count.ensures.in_bytes) c.requires.some none
