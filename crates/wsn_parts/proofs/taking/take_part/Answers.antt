use Rattle.std.proofs.Common.{◌≡◌, Option, Result, Ok, Err, take, refl, sym, ap, ◌∙◌, subst}
use Rattle.std.proofs.lemmas.Result.{err_from_is_err_and}
use Rattle.wsn_io.specs.declared.stop.Stop.{Stop}
use Rattle.wsn_scan.specs.declared.part.Taken.{Taken}
use Rattle.wsn_scan.specs.Scans.{refusal_in}
use Rattle.wsn_rules.specs.declared.verdict.Verdict.{Verdict}
use Rattle.wsn_parts.specs.declared.answer.Payload.{Payload}
use Rattle.wsn_scan.specs.FollowedScans.{IsCall}
use Rattle.wsn_parts.specs.Following.{TakesPart, SeeksOn, ended_answer}
use Rattle.wsn_scan.proofs.FollowedScans.{part_taken, reach}
use Rattle.wsn_scan.proofs.ReaderCalls.{refused_as}
use Rattle.wsn_scan.proofs.ReaderSteps.{refusal_by}
use Rattle.wsn_parts.proofs.SoughtSteps.{quiet, may_begin, part_step, refused_step, refused_failed}
use Rattle.wsn_parts.proofs.taking.take_part.Goals as goal

pub returns-in-More-clause-seeks : goal.returns-in-More-clause-seeks
returns-in-More-clause-seeks g c role limits at came first h =
    quiet role limits at c.args.scan.now c.follow-count.new.self c.args.chunk.now c.follow-count.new.chunk c.follow-count.result.0 c.follow-count.new.part came first c.args.output.now c.args.event.now h
    c.follow-count.result.1 (c.follow-count.ensures.call c.follow-count.ensures.in_bytes) c.in-More.is

pub returns-in_err-answer-in-Part-clause-seeks : goal.returns-in_err-answer-in-Part-clause-seeks
returns-in_err-answer-in-Part-clause-seeks g c role limits at came first h =
    let old = c.args.scan.now in
    let new = c.follow-count.new.self in
    let chunk = c.args.chunk.now in
    let after = c.follow-count.new.chunk in
    let n = c.follow-count.result.0 in
    let part = c.follow-count.new.part in
    let call = subst (λ (f : Taken). IsCall old new chunk after n f part) c.in-Part.is (c.follow-count.ensures.call c.follow-count.ensures.in_bytes) in
    let r = reach role limits old new chunk after n part came h.frames h.position h.rest h.followed call in
    let may = may_begin role limits at old new chunk after n part came first c.args.output.now c.args.event.now h call in
    let taken = c.take.ensures role limits at h.frames r.frames h.position r.position h.rest r.found.before (take n chunk) r.since h.payload may r.found.is_at
    (part_taken role limits old new chunk after n part came h.frames h.position h.rest h.followed call) h.keeps in
    let failed = subst (λ (x : Result (Option Payload) Stop). TakesPart c.take.new.self at h.frames part.head r.frames r.position h.payload c.args.output.now c.take.new.output x) c.in_err-answer-in-Part.was taken in
    let out = err_from_is_err_and c.from_residual.result c.from_residual.ensures.1 in
    let is : c.from_residual.result ≡ Err c.in_err-answer-in-Part.field-0.0 = out.1 ∙ ap Err out.2 in
    part_step role limits at old new chunk after n part came first c.args.output.now c.args.event.now h call c.take.new.self c.take.new.output (Err c.in_err-answer-in-Part.field-0.0) failed c.from_residual.result is

pub returns-in_ok-answer-in-Part-clause-seeks : goal.returns-in_ok-answer-in-Part-clause-seeks
returns-in_ok-answer-in-Part-clause-seeks g c role limits at came first h =
    let old = c.args.scan.now in
    let new = c.follow-count.new.self in
    let chunk = c.args.chunk.now in
    let after = c.follow-count.new.chunk in
    let n = c.follow-count.result.0 in
    let part = c.follow-count.new.part in
    let call = subst (λ (f : Taken). IsCall old new chunk after n f part) c.in-Part.is (c.follow-count.ensures.call c.follow-count.ensures.in_bytes) in
    let r = reach role limits old new chunk after n part came h.frames h.position h.rest h.followed call in
    let may = may_begin role limits at old new chunk after n part came first c.args.output.now c.args.event.now h call in
    let taken = c.take.ensures role limits at h.frames r.frames h.position r.position h.rest r.found.before (take n chunk) r.since h.payload may r.found.is_at
    (part_taken role limits old new chunk after n part came h.frames h.position h.rest h.followed call) h.keeps in
    let given = subst (λ (x : Result (Option Payload) Stop). TakesPart c.take.new.self at h.frames part.head r.frames r.position h.payload c.args.output.now c.take.new.output x) c.in_ok-answer-in-Part.was taken in
    part_step role limits at old new chunk after n part came first c.args.output.now c.args.event.now h call c.take.new.self c.take.new.output (Ok c.in_ok-answer-in-Part.answer) given (Ok (n, c.in_ok-answer-in-Part.answer)) refl

pub returns-in_err-put-in-Refused-clause-seeks : goal.returns-in_err-put-in-Refused-clause-seeks
returns-in_err-put-in-Refused-clause-seeks g c role limits at came first h =
    let old = c.args.scan.now in
    let new = c.follow-count.new.self in
    let chunk = c.args.chunk.now in
    let after = c.follow-count.new.chunk in
    let n = c.follow-count.result.0 in
    let part = c.follow-count.new.part in
    let call = subst (λ (f : Taken). IsCall old new chunk after n f part) c.in-Refused.is (c.follow-count.ensures.call c.follow-count.ensures.in_bytes) in
    let refusal = refusal_by (refusal_in new) (call.reported.1 refl) in
    let failed = c.in_err-put-in-Refused.ensures.written in
    let out = err_from_is_err_and c.from_residual-in_err-put-in-Refused.result c.from_residual-in_err-put-in-Refused.ensures.1 in
    let is : c.from_residual-in_err-put-in-Refused.result ≡ Err c.in_err-put-in-Refused.field-0.0 = out.1 ∙ ap Err out.2 in
    let fails = refused_failed role limits at old new chunk after n part came first c.args.output.now c.args.event.now h refusal.0 refusal.1 call c.put.new.output c.in_err-put-in-Refused.ensures.own failed.1 in
    subst (SeeksOn role limits at new c.args.event.now came chunk first c.put.new.output) (sym is)
    (failed.0, fails.0, fails.1)

pub returns-in_ok-put-in-Refused-clause-seeks : goal.returns-in_ok-put-in-Refused-clause-seeks
returns-in_ok-put-in-Refused-clause-seeks g c role limits at came first h =
    let old = c.args.scan.now in
    let new = c.follow-count.new.self in
    let chunk = c.args.chunk.now in
    let after = c.follow-count.new.chunk in
    let n = c.follow-count.result.0 in
    let part = c.follow-count.new.part in
    let call = subst (λ (f : Taken). IsCall old new chunk after n f part) c.in-Refused.is (c.follow-count.ensures.call c.follow-count.ensures.in_bytes) in
    let refusal = refusal_by (refusal_in new) (call.reported.1 refl) in
    let verdict = refused_as c.finish.result refusal.0 (c.finish.ensures.reported ∙ refusal.1) in
    refused_step role limits at old new chunk after n part came first c.args.output.now c.args.event.now h refusal.0 refusal.1 call c.put.new.output c.in_ok-put-in-Refused.ensures.written c.ended.result
    (c.ended.ensures ∙ ap (λ (v : Verdict). ended_answer c.args.event.now v) verdict)
