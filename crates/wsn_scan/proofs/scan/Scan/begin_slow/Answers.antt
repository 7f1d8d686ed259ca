use Rattle.std.proofs.Common.{◌≡◌, ℕ, inl, inr, [], ◌++◌, take, drop, refl, sym, ap, ◌∙◌, subst, arith, rules}
use Rattle.std.proofs.lemmas.List.{length-take-le}
use Rattle.wsn_wire.specs.declared.refusal.Reason.TheVariants.{TextCut}
use Rattle.wsn_rules.specs.Group.{unfinished}
use Rattle.wsn_frame.proofs.FrameStarts.{goes_on, begins}
use Rattle.wsn_frame.proofs.PayloadBytes.{starts}
use Rattle.wsn_frame.proofs.PayloadMore.{unmasked_nothing}
use Rattle.wsn_scan.specs.Positions.{BetweenFrames}
use Rattle.wsn_rules.proofs.PlanTheory.MessageFrames.{bytes_take}
use Rattle.wsn_scan.proofs.HeadsReported.{cut_begins_none}
use Rattle.wsn_scan.proofs.PayloadPrefixes.{none_taken}
use Rattle.wsn_scan.proofs.Refusals.{refuses}
use Rattle.wsn_scan.proofs.BegunFrames.{begun_part, none_shown}
use Rattle.wsn_scan.specs.declared.scan.Scan.{Scan}
use Rattle.wsn_scan.specs.Scans.{HasConsumed}
use Rattle.wsn_scan.proofs.scan.Scan.begin_slow.Goals as goal

pub returns-then-head-eq0-clause-taken : goal.returns-then-head-eq0-clause-taken
returns-then-head-eq0-clause-taken c role limits bytes rest fs in_chunk has_consumed none some is_head =
    let head = c.args.head.now in
    let start = c.args.start in
    let chunk = c.args.chunk.now in
    let group = unfinished fs in
    let last = take start chunk in
    let same : c.begin.new.self ≡ c.args.self.now = c.in_default.ensures.none.0 in
    let room = ap (λ (s : Scan). s.room) same in
    let consumed = subst (λ (s : Scan). HasConsumed role limits s bytes fs rest) (sym same) has_consumed in
    let is_evident = c.in_default.ensures.cut c.if-head-eq0.true role limits group (rest ++ last) has_consumed.message is_head in
    let there = refuses role limits c.begin.new.self bytes rest last fs BetweenFrames start TextCut consumed none (length-take-le start chunk c.requires.within) (omega (arith, c.requires, room)) (bytes_take start chunk in_chunk) some is_evident
    (inr (inl (refl, none, cut_begins_none role limits fs head (rest ++ last) TextCut is_head is_evident.is_evident))) (none_taken fs (bytes ++ last) BetweenFrames refl) in
    rw (c.refuse.ensures.reported.0, c.refuse.ensures.reported.1, c.refuse.ensures.after) (record { frames = fs; since = rest ++ last; position = BetweenFrames; has_scanned = there; found = (refl, refl) }, tt)

pub returns-clause-taken : goal.returns-clause-taken
returns-clause-taken c role limits bytes rest fs in_chunk has_consumed none some is_head =
    let head = c.args.head.now in
    let start = c.args.start in
    let chunk = c.args.chunk.now in
    let group = unfinished fs in
    let last = take start chunk in
    let checked = c.new-check.ensures group has_consumed.message (goes_on role limits group head (rest ++ last) is_head) (begins role limits group head (rest ++ last) is_head) in
    let holds = starts role limits group head (rest ++ last) is_head c.new-check.result checked (omega (arith, c.if-head-eq0.false)) in
    let consumed = subst (λ (s : Scan). HasConsumed role limits s bytes fs rest) (sym c.in_default.ensures.none.0) has_consumed in
    let added = c.add_part.ensures.taken role limits bytes rest last [] [] [] fs consumed none (bytes_take start chunk in_chunk) (length-take-le start chunk c.requires.within) holds refl (omega arith) (unmasked_nothing head.key) in (
      record {
        frames = added.frames;
        since = added.since;
        position = added.position;
        has_scanned = added.has_scanned;
        found = record {
          before = [];
          is_at = (refl, refl);
          goes_on = begun_part fs c.add_part.new.part [] _ added.frames added.position (ap (λ (n : ℕ). drop n (take start c.begin.new.chunk)) c.add_part.ensures.start ∙ none_shown start c.begin.new.chunk) added.found;
        };
      },
      (λ more. some, λ is. inr (refl, c.add_part.ensures.start)),
    )

pub begin-requires-clause-fits : goal.begin-requires-clause-fits
begin-requires-clause-fits c = search rules

pub begin-requires-clause-open : goal.begin-requires-clause-open
begin-requires-clause-open c = search rules

pub begin-requires-clause-within : goal.begin-requires-clause-within
begin-requires-clause-within c = search rules

pub returns-in-Some-clause-taken : goal.returns-in-Some-clause-taken
returns-in-Some-clause-taken c = search rules

pub returns-in-Some-clause-untouched : goal.returns-in-Some-clause-untouched
returns-in-Some-clause-untouched c = search rules

pub refuse-requires : goal.refuse-requires
refuse-requires c = search rules

pub returns-then-head-eq0-clause-untouched : goal.returns-then-head-eq0-clause-untouched
returns-then-head-eq0-clause-untouched c = search rules

pub add_part-requires-clause-fits : goal.add_part-requires-clause-fits
add_part-requires-clause-fits c = search rules

pub add_part-requires-clause-open : goal.add_part-requires-clause-open
add_part-requires-clause-open c = search rules

pub returns-clause-untouched : goal.returns-clause-untouched
returns-clause-untouched c = search rules

pub returns-in-Some-clause-found : goal.returns-in-Some-clause-found
returns-in-Some-clause-found c = search rules

pub returns-then-head-eq0-clause-found : goal.returns-then-head-eq0-clause-found
returns-then-head-eq0-clause-found c = search rules

pub returns-clause-found : goal.returns-clause-found
returns-clause-found c = search rules
