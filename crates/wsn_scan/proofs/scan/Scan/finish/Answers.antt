use Rattle.std.proofs.Common.{ℕ, List, [], inl, subst, append-nil}
use Rattle.wsn_scan.specs.declared.stage.Stage.{Stage}
use Rattle.wsn_wire.specs.Frame.{IsBytes, stream}
use Rattle.wsn_wire.proofs.FrameLemmas.{IsBytes-right}
use Rattle.wsn_rules.specs.Group.{unfinished}
use Rattle.wsn_rules.specs.Verdict.{IsRefused}
use Rattle.wsn_scan.specs.Scans.{IsAt}
use Rattle.wsn_scan.proofs.HeadsSoFar.{heads_reported}
use Rattle.wsn_scan.proofs.ScanVerdicts.{cut_verdict, between_verdict, some_payload}
use Rattle.wsn_scan.proofs.WithinFrames.{head_within, payload_within}
use Rattle.wsn_scan.proofs.scan.Scan.finish.Goals as goal

pub returns-in-Refused-clause-verdict : goal.returns-in-Refused-clause-verdict
returns-in-Refused-clause-verdict c role limits bytes rest fs pos has_scanned =
    let refusal = c.in-Refused.refusal in
    let at = subst (λ (stage : Stage). IsAt role limits stage bytes fs rest pos) c.in-Refused.is has_scanned.is_at in
    subst (λ (all : List ℕ). IsRefused role limits all fs refusal.offset refusal.reason) (append-nil bytes) (at.refused [])

pub returns-in-Between-clause-verdict : goal.returns-in-Between-clause-verdict
returns-in-Between-clause-verdict c role limits bytes rest fs pos has_scanned =
    let at = subst (λ (stage : Stage). IsAt role limits stage bytes fs rest pos) c.in-Between.is has_scanned.is_at in
    rw c.between.ensures (between_verdict role limits c.args.self.now bytes rest fs pos c.args.self.now.stage has_scanned at.0 at.1)

pub returns-in-Head-clause-verdict : goal.returns-in-Head-clause-verdict
returns-in-Head-clause-verdict c role limits bytes rest fs pos has_scanned =
    let at = subst (λ (stage : Stage). IsAt role limits stage bytes fs rest pos) c.in-Head.is has_scanned.is_at in
    let in_bytes = IsBytes-right (stream fs) rest (subst IsBytes has_scanned.has_consumed.whole has_scanned.has_consumed.in_bytes) in
    rw c.cut.ensures (cut_verdict role limits c.args.self.now bytes rest fs pos c.args.self.now.stage has_scanned at.0 at.1.2.has_no_evidence (head_within rest in_bytes at.1.2.short) (inl at.1.1))

pub returns-in-Payload-clause-verdict : goal.returns-in-Payload-clause-verdict
returns-in-Payload-clause-verdict c role limits bytes rest fs pos has_scanned =
    let at = subst (λ (stage : Stage). IsAt role limits stage bytes fs rest pos) c.in-Payload.is has_scanned.is_at in
    let inside = c.in-Payload.field-0 in
    let in_bytes = IsBytes-right (stream fs) rest (subst IsBytes has_scanned.has_consumed.whole has_scanned.has_consumed.in_bytes) in
    rw c.cut-in-Payload.ensures (cut_verdict role limits c.args.self.now bytes rest fs pos c.args.self.now.stage has_scanned at.0 at.1.1.holds.has_no_evidence (payload_within role limits (unfinished fs) inside rest at.1.0 in_bytes at.1.1) (inl (some_payload role limits (unfinished fs) inside rest at.1.0 at.1.1)))

pub returns-in-Refused-clause-heads : goal.returns-in-Refused-clause-heads
returns-in-Refused-clause-heads c role limits bytes rest fs at has_scanned = heads_reported role limits c.args.self.now bytes rest fs at has_scanned

pub returns-in-Closed-clause-heads : goal.returns-in-Closed-clause-heads
returns-in-Closed-clause-heads c role limits bytes rest fs at has_scanned = heads_reported role limits c.args.self.now bytes rest fs at has_scanned

pub returns-in-Between-clause-heads : goal.returns-in-Between-clause-heads
returns-in-Between-clause-heads c role limits bytes rest fs at has_scanned = heads_reported role limits c.args.self.now bytes rest fs at has_scanned

pub returns-in-Head-clause-heads : goal.returns-in-Head-clause-heads
returns-in-Head-clause-heads c role limits bytes rest fs at has_scanned = heads_reported role limits c.args.self.now bytes rest fs at has_scanned

pub returns-in-Payload-clause-heads : goal.returns-in-Payload-clause-heads
returns-in-Payload-clause-heads c role limits bytes rest fs at has_scanned = heads_reported role limits c.args.self.now bytes rest fs at has_scanned
