use Rattle.std.proofs.Common.{rules, ◌≡◌, Option, None, take, slice_range, sym, ap, ◌∙◌, subst}
use Rattle.std.specs.Prelude.{is_some}
use Rattle.std.specs.Io.KnownBytes.{Keeps}
use Rattle.wsn_capture.specs.declared.side_bytes.FaultyLine.{FaultyLine}
use Rattle.wsn_capture.specs.SideStates.{SideReading, IsLineStop, stop_of, source_left}
use Rattle.wsn_capture.proofs.SideSources.{given_consumes, nothing_given, line_is_some, none_is, unfaulted_before, not_both}
use Rattle.wsn_capture.proofs.side_reader.SideReaderRead.read.Goals as goal

pub returns-in-Err-clause-for_good : goal.returns-in-Err-clause-for_good
returns-in-Err-clause-for_good g c line =
    let old = c.self.inside in
    let was : IsLineStop (stop_of old.source.lines.side.fault old.failed) = subst (λ (r : SideReading). IsLineStop r.stop) (sym c.self.view_is) line in
    absurd (cc ((c.in-Err.ensures.faulty (line_is_some old.source.lines.side.fault old.failed was)).0))

pub returns-then-is_some-clause-for_good : goal.returns-then-is_some-clause-for_good
returns-then-is_some-clause-for_good g c line =
    let old = c.self.inside in
    let was : IsLineStop (stop_of old.source.lines.side.fault old.failed) = subst (λ (r : SideReading). IsLineStop r.stop) (sym c.self.view_is) line in
    (search rules, rw ((c.read_on.ensures.faulty (line_is_some old.source.lines.side.fault old.failed was)).1) c.self.view_is)

pub returns : goal.returns
returns g c = record {
  bytes = let found = c.read_on.new.self in
      let known = g.R.Read.remaining found.reader in
      let chunk = slice_range found.chunk found.start found.end in
      let keeps = subst (λ (r : SideReading). Keeps r.remaining (source_left g.R.Read.remaining found)) c.self.view_is c.read_on.ensures.left in (
        given_consumes found.ended known c.args.self.now.remaining found.lines.begun chunk (take c.copy_to.result c.copy_to.new.into) found.lines.side c.copy_to.new.self keeps c.copy_to.ensures.left,
        λ none some.
            let ready = c.copy_to.ensures.none none some in
            nothing_given found.ended known found.lines.begun chunk c.copy_to.new.into c.copy_to.result found.lines.side c.copy_to.new.self (c.in_default.ensures.found ready) ready none c.copy_to.ensures.left,
      );
  same = let old = c.self.inside in
      let fault = c.read_on.new.self.lines.side.fault in
      let none : fault ≡ None = none_is fault (ap is_some (sym c.fault.ensures) ∙ sym c.is_some.ensures ∙ c.if-is_some.false) in
      let was : old.source.lines.side.fault ≡ None = unfaulted_before old.source.lines.side.fault fault (λ some. ap (λ s. s.lines.side.fault) (c.read_on.ensures.faulty some).1) none in
      ap (λ (f : Option FaultyLine). stop_of f old.failed) (c.copy_to.ensures.unfaulted ∙ sym was) ∙ ap (λ (r : SideReading). r.stop) c.self.view_is;
  for_good = λ line.
      let old = c.self.inside in
      let some = line_is_some old.source.lines.side.fault old.failed (subst (λ (r : SideReading). IsLineStop r.stop) (sym c.self.view_is) line) in
      let fault = c.read_on.new.self.lines.side.fault in
      let none : fault ≡ None = none_is fault (ap is_some (sym c.fault.ensures) ∙ sym c.is_some.ensures ∙ c.if-is_some.false) in
      let was_none : old.source.lines.side.fault ≡ None = unfaulted_before old.source.lines.side.fault fault (λ some. ap (λ s. s.lines.side.fault) (c.read_on.ensures.faulty some).1) none in
      absurd (not_both old.source.lines.side.fault some was_none);
  bound = search rules;
  stopped = search rules;
}

pub returns-in-Err-clause-bytes : goal.returns-in-Err-clause-bytes
returns-in-Err-clause-bytes g c = search rules

pub returns-in-Err-clause-stopped : goal.returns-in-Err-clause-stopped
returns-in-Err-clause-stopped g c = search rules

pub returns-then-is_some-clause-bytes : goal.returns-then-is_some-clause-bytes
returns-then-is_some-clause-bytes g c = search rules

pub returns-then-is_some-clause-stopped : goal.returns-then-is_some-clause-stopped
returns-then-is_some-clause-stopped g c = search rules

pub copy_to-requires : goal.copy_to-requires
copy_to-requires g c = search rules

pub invariant_of-self-inside : goal.invariant_of-self-inside
invariant_of-self-inside g c = search rules
