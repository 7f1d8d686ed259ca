use Rattle.std.proofs.Common.{◌≡◌, ℕ, List, ◌++◌, length, take, drop, inr, sym, ap, ◌∙◌, subst, arith}
use Rattle.std.proofs.lemmas.List.{take_all, take_at, length-take-le}
use Rattle.std.proofs.lemmas.Grind.{common_steps}
use Rattle.wsn_redact.specs.Redaction.{zeros_for}
use Rattle.std.specs.Prelude.{Option}
use Rattle.wsn_rules.specs.declared.verdict.Refusal.{Refusal}
use Rattle.wsn_redact.specs.RedactedParts.{HasRedacted, Rewrites}
use Rattle.wsn_redact.proofs.RedactedPayloads.{length-zeros}
use Rattle.wsn_redact.proofs.RedactedEnds.{refused_on}
use Rattle.wsn_redact.proofs.RedactedCalls.{unrefused_of, refused_of, some_taken, call_step}
use Rattle.wsn_redact.proofs.redacting.redact_part.Goals as goal

pub returns-then-has_refused-clause-redacts : goal.returns-then-has_refused-clause-redacts
returns-then-has_refused-clause-redacts c role limits came written h =
    let scan = c.args.scan.now in
    let kept = c.args.redactor.now in
    let chunk = c.args.chunk.now in
    let cleared = c.clear.new.bytes in
    let size : length cleared ≡ length chunk = ap (λ (bs : List ℕ). length bs) c.clear.ensures ∙ length-zeros chunk in
    let all : take (length cleared) chunk ≡ chunk = take_all (length cleared) chunk (omega (arith, size)) in
    let whole : take (length cleared) cleared ≡ zeros_for chunk = take_all (length cleared) cleared (omega arith) ∙ c.clear.ensures in
    let refused = refused_of role limits scan kept came written (c.has_refused.ensures.refused c.if-has_refused.true) h in
    let it : HasRedacted role limits scan kept (came ++ chunk) (written ++ zeros_for chunk) = inr (refused_on role limits scan came written chunk refused) in
    subst (λ (bs : List ℕ). HasRedacted role limits scan kept (came ++ bs) (written ++ take (length cleared) cleared)) (sym all)
    (subst (λ (bs : List ℕ). HasRedacted role limits scan kept (came ++ chunk) (written ++ bs)) (sym whole) it)

pub returns-clause-progress : goal.returns-clause-progress
returns-clause-progress c =
    let b = c.requires.begun in
    let h = unrefused_of b.role b.limits c.args.scan.now c.args.redactor.now b.came b.written (c.has_refused.ensures.unrefused c.if-has_refused.false) b.has_redacted in
    some_taken b.role b.limits c.args.scan.now c.follow-count.new.self c.args.chunk.now c.follow-count.new.chunk c.follow-count.result.0 c.follow-count.new.part b.came c.args.redactor.now b.written h
    c.follow-count.result.1 (c.follow-count.ensures.call c.follow-count.ensures.in_bytes) c.requires.some

pub returns-clause-redacts : goal.returns-clause-redacts
returns-clause-redacts c role limits came written h =
    let chunk = c.args.chunk.now in
    let after = c.follow-count.new.chunk in
    let n = c.follow-count.result.0 in
    let out = c.rewrite.new.bytes in
    let call = c.follow-count.ensures.call c.follow-count.ensures.in_bytes in
    let redacting = unrefused_of role limits c.args.scan.now c.args.redactor.now came written (c.has_refused.ensures.unrefused c.if-has_refused.false) h in
    let within = call.within in
    let sized : length after ≡ length chunk = c.follow-count.auto.chunk in
    let size : length out ≡ n = c.rewrite.auto.bytes ∙ length-take-le n after (omega (arith, within, sized)) in
    let front : take n (out ++ drop n after) ≡ out = take_at out (drop n after) n size in
    subst (λ (bs : List ℕ). HasRedacted role limits c.follow-count.new.self c.rewrite.new.redactor (came ++ take n chunk) (written ++ bs)) (sym front)
    (call_step role limits c.args.scan.now c.follow-count.new.self chunk after n c.follow-count.new.part came c.args.redactor.now written redacting c.follow-count.result.1 c.rewrite.new.redactor out c.requires.some sized call (λ is. (c.follow-count.ensures.start is, c.follow-count.ensures.head is))
    (subst (λ (r : Option Refusal). Rewrites c.args.redactor.now c.rewrite.new.redactor r c.follow-count.result.1 c.follow-count.new.part (take n after) out) c.refusal.ensures c.rewrite.ensures))

pub returns-then-has_refused-clause-kept : goal.returns-then-has_refused-clause-kept
returns-then-has_refused-clause-kept c = grind (arith, common_steps)

pub returns-clause-kept : goal.returns-clause-kept
returns-clause-kept c = grind (arith, common_steps)
