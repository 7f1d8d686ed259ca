use Rattle.std.proofs.Common.{refl, sym, subst, rules, arith, ◌≡◌, ◌≢◌, ◌<◌, length, ℕ, List, [], ◌++◌, append-nil, take, drop, ap, ◌∙◌}
use Rattle.std.proofs.lemmas.Grind.{common_steps}
use Rattle.wsn_rules.specs.Group.{unfinished}
use Rattle.wsn_frame.specs.PartialHeads.{IsHeadSoFar}
use Rattle.wsn_frame.proofs.HeadsAtOnce.{nothing_so_far}
use Rattle.wsn_scan.proofs.BegunFrames.{from_between}
use Rattle.wsn_scan.proofs.HeadBytes.{some_length}
use Rattle.wsn_scan.specs.declared.stage.Stage.{Stage}
use Rattle.wsn_scan.specs.Scans.{HasScannedAt, HasScanned, HasConsumed}
use Rattle.wsn_scan.proofs.MoreBytes.{same_scan}
use Rattle.wsn_scan.proofs.UnmaskedParts.{unmasked_none, same_between}
use Rattle.wsn_scan.specs.declared.part.Taken.TheVariants as taken
use Rattle.wsn_scan.proofs.scan.Scan.next_slow.Goals as goal

pub returns-in-Between-clause-taken : goal.returns-in-Between-clause-taken
returns-in-Between-clause-taken c role limits bytes rest fs at in_bytes has_scanned =
    let there = subst (λ (stage : Stage). HasScannedAt role limits c.args.self.now stage bytes fs rest at) c.in-Between.is has_scanned in
    let scanned = subst (λ (bs : List ℕ). HasScanned role limits c.args.self.now bs fs rest at) (sym (append-nil bytes)) has_scanned in
    let none : length c.args.chunk.now ≡ 0 = search (rules, c.is_empty.ensures, c.if-is_empty.true) in
    (record { frames = fs; since = rest; position = at; has_scanned = scanned; found = (refl, refl, there.is_at.0) }, sym none)

pub returns-in-Between-2-clause-taken : goal.returns-in-Between-2-clause-taken
returns-in-Between-2-clause-taken c role limits bytes rest fs at in_bytes has_scanned =
    let there = subst (λ (stage : Stage). HasScannedAt role limits c.args.self.now stage bytes fs rest at) c.in-Between-2.is has_scanned in
    let nothing : c.new.result.items ≡ [] = c.new.ensures in
    let same : rest ≡ c.new.result.items = there.is_at.1 ∙ sym nothing in
    let some : 0 < length c.args.chunk.now = search (rules, c.is_empty.ensures, c.if-is_empty.false) in
    from_between role limits c.next_head.new.self (bytes ++ take c.next_head.result.0 c.args.chunk.now) c.next_head.result.1 c.next_head.new.part fs at
    (drop c.next_head.new.part.start (take c.next_head.result.0 c.next_head.new.chunk)) there.is_at.2
    (c.next_head.ensures.taken role limits bytes fs in_bytes (subst (λ (bs : List ℕ). HasConsumed role limits c.args.self.now bytes fs bs) same there.has_consumed) there.is_at.0
    (subst (λ (bs : List ℕ). IsHeadSoFar role limits (unfinished fs) bs) (sym nothing) (nothing_so_far role limits (unfinished fs))) (omega (arith, some)))

pub returns-in-Head-clause-taken : goal.returns-in-Head-clause-taken
returns-in-Head-clause-taken c role limits bytes rest fs at in_bytes has_scanned =
    let there = subst (λ (stage : Stage). HasScannedAt role limits c.args.self.now stage bytes fs rest at) c.in-Head.is has_scanned in
    let begun = c.replace-begun.result.items in
    let same : rest ≡ begun = there.is_at.1.0 ∙ ap (λ v. v.items) (sym c.replace-begun.ensures.value) in
    let some : 0 < length begun = some_length begun (subst (λ (bs : List ℕ). bs ≢ []) same there.is_at.1.1) in
    from_between role limits c.next_head-in-Head.new.self (bytes ++ take c.next_head-in-Head.result.0 c.args.chunk.now) c.next_head-in-Head.result.1 c.next_head-in-Head.new.part fs at
    (drop c.next_head-in-Head.new.part.start (take c.next_head-in-Head.result.0 c.next_head-in-Head.new.chunk)) there.is_at.2
    (c.next_head-in-Head.ensures.taken role limits bytes fs in_bytes
    (same_scan role limits c.args.self.now _ bytes begun fs refl refl refl refl (subst (λ (bs : List ℕ). HasConsumed role limits c.args.self.now bytes fs bs) same there.has_consumed)) there.is_at.0
    (subst (λ (bs : List ℕ). IsHeadSoFar role limits (unfinished fs) bs) same there.is_at.1.2) (omega (arith, some)))

pub returns-in-Payload-clause-taken : goal.returns-in-Payload-clause-taken
returns-in-Payload-clause-taken c role limits bytes rest fs at in_bytes has_scanned =
    let there = subst (λ (stage : Stage). HasScannedAt role limits c.args.self.now stage bytes fs rest at) c.in-Payload.is has_scanned in
    c.next_payload.ensures.taken role limits bytes rest fs at in_bytes
    (record { has_consumed = same_scan role limits c.args.self.now _ bytes rest fs refl refl refl refl there.has_consumed; is_at = there.is_at })

pub next_head-requires : goal.next_head-requires
next_head-requires c = search rules

pub next_head-requires-in-Head : goal.next_head-requires-in-Head
next_head-requires-in-Head c = search rules

pub next_payload-requires : goal.next_payload-requires
next_payload-requires c = search rules

pub count_tail-requires : goal.count_tail-requires
count_tail-requires c = search rules

pub returns-in-Between-2-clause-untouched : goal.returns-in-Between-2-clause-untouched
returns-in-Between-2-clause-untouched c = search rules

pub returns-in-Head-clause-untouched : goal.returns-in-Head-clause-untouched
returns-in-Head-clause-untouched c = search rules

pub returns-in-Payload-clause-untouched : goal.returns-in-Payload-clause-untouched
returns-in-Payload-clause-untouched c = search rules

pub returns-in-Closed-clause-taken : goal.returns-in-Closed-clause-taken
returns-in-Closed-clause-taken c = grind (arith, common_steps)

pub returns-in-Closed-clause-untouched : goal.returns-in-Closed-clause-untouched
returns-in-Closed-clause-untouched c = grind (arith, common_steps)

pub returns-in-Refused-clause-taken : goal.returns-in-Refused-clause-taken
returns-in-Refused-clause-taken c = search rules

pub returns-in-Refused-clause-untouched : goal.returns-in-Refused-clause-untouched
returns-in-Refused-clause-untouched c = search rules

pub returns-in-Between-2-clause-again : goal.returns-in-Between-2-clause-again
returns-in-Between-2-clause-again c = grind (arith, common_steps)

pub returns-in-Head-clause-again : goal.returns-in-Head-clause-again
returns-in-Head-clause-again c = grind (arith, common_steps)

pub returns-in-Payload-clause-again : goal.returns-in-Payload-clause-again
returns-in-Payload-clause-again c = grind (arith, common_steps)

pub returns-in-Closed-clause-again : goal.returns-in-Closed-clause-again
returns-in-Closed-clause-again c = search rules

pub returns-in-Refused-clause-again : goal.returns-in-Refused-clause-again
returns-in-Refused-clause-again c = search rules

pub returns-in-Between-2-clause-refused : goal.returns-in-Between-2-clause-refused
returns-in-Between-2-clause-refused c is role limits bytes rest fs at has_scanned =
    let there = subst (λ (stage : Stage). HasScannedAt role limits c.args.self.now stage bytes fs rest at) c.in-Between-2.is has_scanned in
    let n = c.next_head.result.0 in
    ap (λ (bs : List ℕ). take n bs) (c.next_head.ensures.untouched (λ part. let both : taken.Refused ≡ taken.Part = sym is ∙ part in cc)) ∙ same_between at (take n c.args.chunk.now) there.is_at.2

pub returns-in-Head-clause-refused : goal.returns-in-Head-clause-refused
returns-in-Head-clause-refused c is role limits bytes rest fs at has_scanned =
    let there = subst (λ (stage : Stage). HasScannedAt role limits c.args.self.now stage bytes fs rest at) c.in-Head.is has_scanned in
    let n = c.next_head-in-Head.result.0 in
    ap (λ (bs : List ℕ). take n bs) (c.next_head-in-Head.ensures.untouched (λ part. let both : taken.Refused ≡ taken.Part = sym is ∙ part in cc)) ∙ same_between at (take n c.args.chunk.now) there.is_at.2

pub returns-in-Payload-clause-refused : goal.returns-in-Payload-clause-refused
returns-in-Payload-clause-refused c is role limits bytes rest fs at has_scanned =
    let there = subst (λ (stage : Stage). HasScannedAt role limits c.args.self.now stage bytes fs rest at) c.in-Payload.is has_scanned in
    c.next_payload.ensures.refused is role limits bytes rest fs at
    (record { has_consumed = same_scan role limits c.args.self.now _ bytes rest fs refl refl refl refl there.has_consumed; is_at = there.is_at })

pub returns-in-Refused-clause-refused : goal.returns-in-Refused-clause-refused
returns-in-Refused-clause-refused c is role limits bytes rest fs at has_scanned = unmasked_none at

pub returns-in-Closed-clause-refused : goal.returns-in-Closed-clause-refused
returns-in-Closed-clause-refused c = search rules

pub returns-in-Between-clause-untouched : goal.returns-in-Between-clause-untouched
returns-in-Between-clause-untouched c = search rules

pub returns-in-Between-clause-again : goal.returns-in-Between-clause-again
returns-in-Between-clause-again c = search rules

pub returns-in-Between-clause-refused : goal.returns-in-Between-clause-refused
returns-in-Between-clause-refused c is role limits bytes rest fs at has_scanned = unmasked_none at

pub new-requires : goal.new-requires
new-requires c = search rules

pub new-requires-in-Head : goal.new-requires-in-Head
new-requires-in-Head c = search rules

pub returns-in-Between-2-clause-found : goal.returns-in-Between-2-clause-found
returns-in-Between-2-clause-found c = search rules

pub returns-in-Head-clause-found : goal.returns-in-Head-clause-found
returns-in-Head-clause-found c = search rules

pub returns-in-Payload-clause-found : goal.returns-in-Payload-clause-found
returns-in-Payload-clause-found c = search rules

pub returns-in-Closed-clause-found : goal.returns-in-Closed-clause-found
returns-in-Closed-clause-found c = search rules

pub returns-in-Refused-clause-found : goal.returns-in-Refused-clause-found
returns-in-Refused-clause-found c = search rules

pub returns-in-Between-clause-found : goal.returns-in-Between-clause-found
returns-in-Between-clause-found c = search rules
