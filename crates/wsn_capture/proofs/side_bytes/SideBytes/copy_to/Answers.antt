use Rattle.std.proofs.Common.{rules, ◌≡◌, ◌-◌, length, slice_range, arith}
use Rattle.wsn_capture.specs.SideTexts.{sent_in_lines}
use Rattle.wsn_capture.proofs.SideSteps.{given_out}
use Rattle.wsn_capture.proofs.side_bytes.SideBytes.copy_to.Goals as goal

pub returns : goal.returns
returns c = record {
  left = λ lines.
      let old = c.args.self.now in
      let count = c.min-count.result in
      let size : length (slice_range old.bytes old.start old.end) ≡ old.end - old.start = search rules in
      let copied : length c.copy_from_slice.new.self ≡ count = search rules in
      given_out old.fault old.bytes c.copy_from_slice.new.self c.args.into.now (sent_in_lines old.role old.before lines) old.start old.end count c.requires
      (omega (arith, c.min-count.ensures, size)) copied (search rules);
  within = search rules;
  none = search rules;
  unfaulted = search rules;
}

pub slice_bounds-held-count : goal.slice_bounds-held-count
slice_bounds-held-count c = search rules

pub slice_bounds-held-start : goal.slice_bounds-held-start
slice_bounds-held-start c = search rules

pub slice_bounds-held-end : goal.slice_bounds-held-end
slice_bounds-held-end c = search rules

pub slice_bounds-copy_from_slice-end : goal.slice_bounds-copy_from_slice-end
slice_bounds-copy_from_slice-end c = search rules

pub slice_bounds-copy_from_slice-end-2 : goal.slice_bounds-copy_from_slice-end-2
slice_bounds-copy_from_slice-end-2 c = search rules

pub slice_bounds-copy_from_slice-end-3 : goal.slice_bounds-copy_from_slice-end-3
slice_bounds-copy_from_slice-end-3 c = search rules

pub copy_from_slice-requires : goal.copy_from_slice-requires
copy_from_slice-requires c = search rules

pub overflow_add-self : goal.overflow_add-self
overflow_add-self c = search rules

pub invariant_of-self : goal.invariant_of-self
invariant_of-self c = search rules
