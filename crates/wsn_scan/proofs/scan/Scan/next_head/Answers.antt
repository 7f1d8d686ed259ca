-- The bytes that came of a head and those of the chunk are parsed together.
use Rattle.std.proofs.Common.{◌≡◌, ◌≢◌, ◌-◌, ◌≤◌, ℕ, List, [], ◌++◌, length, take, inl, inr, refl, sym, ap, ◌∙◌, subst, length-append, arith, rules}
use Rattle.std.proofs.lemmas.List.{length-take-le}
use Rattle.wsn_frame.specs.declared.parsing.Parsed.{Parsed}
use Rattle.wsn_frame.specs.PartialHeads.{IsEvidentLast, IsHeadSoFar, IsHead, IsParsed, IsWithin}
use Rattle.wsn_rules.specs.Group.{unfinished}
use Rattle.wsn_rules.specs.Heads.{BeginsWithHead}
use Rattle.wsn_rules.specs.declared.head_info.HeadInfo.{HeadInfo}
use Rattle.wsn_rules.proofs.PlanTheory.MessageFrames.{bytes_take}
use Rattle.wsn_scan.specs.Positions.{BetweenFrames}
use Rattle.wsn_scan.proofs.HeadBytes.{parsed_on, joined, short_size, head_since, refused_since, joined_front, refused_head}
use Rattle.wsn_scan.proofs.MoreBytes.{knows_more}
use Rattle.wsn_scan.proofs.Refusals.{refuses}
use Rattle.wsn_scan.proofs.PayloadPrefixes.{none_taken}
use Rattle.wsn_scan.proofs.scan.Scan.next_head.Goals as goal

pub returns-in-Incomplete-clause-taken : goal.returns-in-Incomplete-clause-taken
returns-in-Incomplete-clause-taken c role limits bytes fs in_bytes has_consumed none so_far any =
    let chunk = c.args.chunk.now in
    let begun = c.args.begun.items in
    let all = c.deref.result.now in
    let are = joined c.try_extend_from_slice-fits.result begun c.try_extend_from_slice-fits.new.self.items all chunk c.remaining_capacity.result c.min-came.result c.remaining_capacity.ensures c.min-came.ensures c.try_extend_from_slice-fits.ensures.variant c.try_extend_from_slice-fits.ensures.ok c.deref.ensures.0 in
    let here = subst (λ (p : Parsed). IsParsed role limits (unfinished fs) all p) c.in-Incomplete.is (parsed_on role limits c.args.self.now bytes begun all fs c.parse.result has_consumed c.parse.ensures.parsed) in
    let last = take (length chunk) chunk in
    let whole : all ≡ begun ++ last = are.whole (short_size all here.short) in
    let size : length last ≡ length chunk = length-take-le (length chunk) chunk (omega arith) in
    let some : begun ++ last ≢ [] = λ nothing. let none_left = ap (λ (bs : List ℕ). length bs) nothing in omega (arith, none_left, length-append begun last, size, any) in (
      record {
        frames = fs;
        since = begun ++ last;
        position = BetweenFrames;
        has_scanned = record {
          has_consumed = knows_more role limits c.args.self.now _ bytes begun last fs (record { sender = refl; under = refl; room = omega (arith, size, c.requires); used = refl; counts = refl; message = refl })
              (bytes_take (length chunk) chunk in_bytes) has_consumed;
          is_at = (none, (sym whole ∙ c.deref.ensures.0, some, subst (λ (bs : List ℕ). IsHeadSoFar role limits (unfinished fs) bs) whole here), refl);
        };
        found = (refl, refl, none);
      },
      refl,
    )

pub returns-in-Whole-clause-taken : goal.returns-in-Whole-clause-taken
returns-in-Whole-clause-taken c role limits bytes fs in_bytes has_consumed none so_far any =
    let chunk = c.args.chunk.now in
    let begun = c.args.begun.items in
    let all = c.deref.result.now in
    let size = c.in-Whole.size in
    let head = c.in-Whole.head in
    let are = joined c.try_extend_from_slice-fits.result begun c.try_extend_from_slice-fits.new.self.items all chunk c.remaining_capacity.result c.min-came.result c.remaining_capacity.ensures c.min-came.ensures c.try_extend_from_slice-fits.ensures.variant c.try_extend_from_slice-fits.ensures.ok c.deref.ensures.0 in
    let is_head = subst (λ (p : Parsed). IsParsed role limits (unfinished fs) all p) c.in-Whole.is (parsed_on role limits c.args.self.now bytes begun all fs c.parse.result has_consumed c.parse.ensures.parsed) in
    let within = (subst (λ (p : Parsed). IsWithin (length all) p) c.in-Whole.is c.parse.ensures.within).1 in
    let since = head_since role limits fs begun so_far all chunk c.min-came.result size are head is_head in
    let start : size - length begun ≡ c.saturating_sub.result = ap (λ (n : ℕ). size - n) (sym c.len-before.ensures.value) ∙ sym c.saturating_sub.ensures in
    let front = joined_front begun all chunk c.min-came.result size are since within ∙ ap (λ (n : ℕ). begun ++ take n chunk) start in
    c.begin_slow.ensures.taken role limits bytes begun fs in_bytes has_consumed none (omega (arith, since, start)) (subst (λ (bs : List ℕ). IsHead role limits (unfinished fs) head bs) front is_head)

pub returns-in-Refused-clause-taken : goal.returns-in-Refused-clause-taken
returns-in-Refused-clause-taken c role limits bytes fs in_bytes has_consumed none so_far any =
    let chunk = c.args.chunk.now in
    let begun = c.args.begun.items in
    let all = c.deref.result.now in
    let size = c.in-Refused.size in
    let reason = c.in-Refused.reason in
    let count = c.saturating_sub-in-Refused.result in
    let last = take count chunk in
    let are = joined c.try_extend_from_slice-fits.result begun c.try_extend_from_slice-fits.new.self.items all chunk c.remaining_capacity.result c.min-came.result c.remaining_capacity.ensures c.min-came.ensures c.try_extend_from_slice-fits.ensures.variant c.try_extend_from_slice-fits.ensures.ok c.deref.ensures.0 in
    let found = subst (λ (p : Parsed). IsParsed role limits (unfinished fs) all p) c.in-Refused.is (parsed_on role limits c.args.self.now bytes begun all fs c.parse.result has_consumed c.parse.ensures.parsed) in
    let within = subst (λ (p : Parsed). IsWithin (length all) p) c.in-Refused.is c.parse.ensures.within in
    let since = refused_since role limits fs begun so_far all chunk c.min-came.result size are reason found.1 in
    let start : size - length begun ≡ count = ap (λ (n : ℕ). size - n) (sym c.len-before.ensures.value) ∙ sym c.saturating_sub-in-Refused.ensures in
    let front : take size all ≡ begun ++ last = joined_front begun all chunk c.min-came.result size are since within.1 ∙ ap (λ (n : ℕ). begun ++ take n chunk) start in
    let is_evident = subst (λ (bs : List ℕ). IsEvidentLast role limits (unfinished fs) reason bs) front found.1 in
    let no_head = subst (λ (bs : List ℕ). (info : HeadInfo) → BeginsWithHead role limits fs bs info → ⊥) front (refused_head role limits fs all size reason within.0 within.1 found.0 found.1) in
    let fits : count ≤ length chunk = omega (arith, within.1, start, are.size, are.within) in
    let there = refuses role limits c.args.self.now bytes begun last fs BetweenFrames count reason has_consumed none (length-take-le count chunk fits) (omega (arith, fits, c.requires)) (bytes_take count chunk in_bytes)
    (omega (arith, since, start)) is_evident (inr (inl (refl, none, no_head))) (none_taken fs (bytes ++ last) BetweenFrames refl) in
    rw (c.refuse.ensures.reported.0, c.refuse.ensures.reported.1, c.refuse.ensures.after) (record { frames = fs; since = begun ++ last; position = BetweenFrames; has_scanned = there; found = (refl, refl) }, tt)

pub begin_slow-requires-clause-within : goal.begin_slow-requires-clause-within
begin_slow-requires-clause-within c =
    let chunk = c.args.chunk.now in
    let begun = c.args.begun.items in
    let all = c.deref.result.now in
    let are = joined c.try_extend_from_slice-fits.result begun c.try_extend_from_slice-fits.new.self.items all chunk c.remaining_capacity.result c.min-came.result c.remaining_capacity.ensures c.min-came.ensures c.try_extend_from_slice-fits.ensures.variant c.try_extend_from_slice-fits.ensures.ok c.deref.ensures.0 in
    let within = (subst (λ (p : Parsed). IsWithin (length all) p) c.in-Whole.is c.parse.ensures.within).1 in
    omega (arith, within, are.size, are.within, c.len-before.ensures.value, c.saturating_sub.ensures)

pub refuse-requires : goal.refuse-requires
refuse-requires c =
    let chunk = c.args.chunk.now in
    let begun = c.args.begun.items in
    let all = c.deref.result.now in
    let are = joined c.try_extend_from_slice-fits.result begun c.try_extend_from_slice-fits.new.self.items all chunk c.remaining_capacity.result c.min-came.result c.remaining_capacity.ensures c.min-came.ensures c.try_extend_from_slice-fits.ensures.variant c.try_extend_from_slice-fits.ensures.ok c.deref.ensures.0 in
    let within = (subst (λ (p : Parsed). IsWithin (length all) p) c.in-Refused.is c.parse.ensures.within).1 in
    omega (arith, within, are.size, are.within, c.len-before.ensures.value, c.saturating_sub-in-Refused.ensures, c.requires)

pub len-before-requires : goal.len-before-requires
len-before-requires c = search rules

pub remaining_capacity-requires : goal.remaining_capacity-requires
remaining_capacity-requires c = search rules

pub slice_bounds-try_extend_from_slice-end : goal.slice_bounds-try_extend_from_slice-end
slice_bounds-try_extend_from_slice-end c = search rules

pub slice_bounds-try_extend_from_slice-end-2 : goal.slice_bounds-try_extend_from_slice-end-2
slice_bounds-try_extend_from_slice-end-2 c = search rules

pub try_extend_from_slice-fits-requires : goal.try_extend_from_slice-fits-requires
try_extend_from_slice-fits-requires c = search rules

pub deref-requires : goal.deref-requires
deref-requires c = search rules

pub overflow_sub-self : goal.overflow_sub-self
overflow_sub-self c = search rules

pub begin_slow-requires-clause-fits : goal.begin_slow-requires-clause-fits
begin_slow-requires-clause-fits c = search rules

pub returns-in-Incomplete-clause-untouched : goal.returns-in-Incomplete-clause-untouched
returns-in-Incomplete-clause-untouched c = search rules

pub returns-in-Whole-clause-untouched : goal.returns-in-Whole-clause-untouched
returns-in-Whole-clause-untouched c = search rules

pub returns-in-Refused-clause-untouched : goal.returns-in-Refused-clause-untouched
returns-in-Refused-clause-untouched c = search rules

pub returns-in-Refused-clause-found : goal.returns-in-Refused-clause-found
returns-in-Refused-clause-found c =
    let chunk = c.args.chunk.now in
    let begun = c.args.begun.items in
    let all = c.deref.result.now in
    let are = joined c.try_extend_from_slice-fits.result begun c.try_extend_from_slice-fits.new.self.items all chunk c.remaining_capacity.result c.min-came.result c.remaining_capacity.ensures c.min-came.ensures c.try_extend_from_slice-fits.ensures.variant c.try_extend_from_slice-fits.ensures.ok c.deref.ensures.0 in
    let within = (subst (λ (p : Parsed). IsWithin (length all) p) c.in-Refused.is c.parse.ensures.within).1 in
    ((omega (arith, within, are.size, are.within, c.len-before.ensures.value, c.saturating_sub-in-Refused.ensures, c.refuse.ensures.reported.0), search rules, search rules), search rules, search rules)

pub returns-in-Incomplete-clause-found : goal.returns-in-Incomplete-clause-found
returns-in-Incomplete-clause-found c = search rules

pub returns-in-Whole-clause-found : goal.returns-in-Whole-clause-found
returns-in-Whole-clause-found c = search rules
