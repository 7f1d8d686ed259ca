use Rattle.std.proofs.Common.{Option, ◌++◌, List, ℕ, take, drop, sym, ap, subst, rules}
use Rattle.wsn_wire.specs.declared.endpoint.Role.{Role}
use Rattle.wsn_rules.specs.Limits.{Limits}
use Rattle.wsn_rules.specs.Group.{unfinished}
use Rattle.wsn_frame.specs.declared.kept_message.OpenMessage.{OpenMessage}
use Rattle.wsn_frame.specs.KeptMessages.{IsOpenMessage}
use Rattle.wsn_frame.specs.PartialHeads.{IsHead}
use Rattle.wsn_scan.specs.declared.part.Taken.TheVariants as taken
use Rattle.wsn_scan.proofs.BegunFrames.{from_between, if_some}
use Rattle.wsn_scan.proofs.scan.Scan.take_frame_after.Goals as goal

pub returns-clause-taken : goal.returns-clause-taken
returns-clause-taken c =
    if_some c.begin.result
    (λ count begun role limits bytes rest fs at in_chunk has_scanned.
    let head = c.in_ok-start.head in
    let front = take c.in_ok-start.start c.args.chunk.now in
    let group = unfinished fs in
    let has_consumed = has_scanned.has_consumed in
    let is_open = subst (λ (m : Option OpenMessage). IsOpenMessage m group) (sym c.requires.open) has_consumed.message in
    let of_role = subst (λ (r : Role). IsHead r c.args.self.now.context.limits group head front) has_consumed.sender (c.in_ok-start.ensures.2 group is_open) in
    let of_limits = subst (λ (b : Limits). IsHead role b group head front) has_consumed.under of_role in
    let is_head = subst (λ (bs : List ℕ). IsHead role limits group head bs) (sym (ap (λ (bs : List ℕ). bs ++ front) has_scanned.is_at.1)) of_limits in
    from_between role limits c.begin.new.self (bytes ++ take count c.args.chunk.now) taken.Part c.begin.new.part fs at (drop c.begin.new.part.start (take count c.begin.new.chunk)) has_scanned.is_at.2 (begun role limits bytes rest fs in_chunk has_consumed has_scanned.is_at.0 c.in_ok-start.ensures.0 is_head))
    c.begin.ensures.taken

pub returns-in_err-start-clause-taken : goal.returns-in_err-start-clause-taken
returns-in_err-start-clause-taken c = search rules

pub returns-in_err-start-clause-none : goal.returns-in_err-start-clause-none
returns-in_err-start-clause-none c = search rules

pub returns-then-eq-clause-none : goal.returns-then-eq-clause-none
returns-then-eq-clause-none c = search rules

pub begin-requires-clause-fits : goal.begin-requires-clause-fits
begin-requires-clause-fits c = search rules

pub begin-requires-clause-open : goal.begin-requires-clause-open
begin-requires-clause-open c = search rules

pub begin-requires-clause-within : goal.begin-requires-clause-within
begin-requires-clause-within c = search rules

pub returns-clause-none : goal.returns-clause-none
returns-clause-none c = search rules

pub returns-in_err-start-clause-part : goal.returns-in_err-start-clause-part
returns-in_err-start-clause-part c = search rules

pub returns-clause-part : goal.returns-clause-part
returns-clause-part c = search rules
