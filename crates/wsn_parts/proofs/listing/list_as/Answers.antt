use Rattle.std.proofs.Common.{◌≡◌, ◌∙◌, Option, Result, Ok, Err, List, [], take, refl, sym, ap, subst, length-take-le, rules}
use Rattle.std.proofs.KnownBytes.{Appends-nil}
use Rattle.wsn_rules.specs.declared.verdict.Refusal.{Refusal}
use Rattle.wsn_rules.specs.declared.verdict.Verdict.{Verdict}
use Rattle.wsn_io.specs.declared.stop.Stop.{Stop}
use Rattle.wsn_rules.specs.declared.head_info.HeadInfo.{HeadInfo}
use Rattle.wsn_rules.specs.Heads.{AreHeads}
use Rattle.wsn_parts.specs.Listing.{IsListedAs, IsListedChunk}
use Rattle.wsn_scan.proofs.ChunksSoFar.{next_chunk, next_end, same_size, short_chunk}
use Rattle.wsn_scan.proofs.JudgedInputs.{begins, fits}
use Rattle.wsn_parts.proofs.ListedInputs.{list_stopped, list_ended, list_failed, list_refused, list_goes_on}
use Rattle.wsn_parts.proofs.OneListing.{whole_listing}
use Rattle.wsn_parts.proofs.listing.list_as.Goals as goal

pub loop-len-init : goal.loop-len-init
loop-len-init g c = record {
  read = ([], [], begins c.args.role c.args.limits c.args.input.now c.new-chunks.result c.new-scan.result (c.new-chunks.ensures c.args.input.now c.requires.readable) c.new-scan.ensures, Appends-nil c.args.output.now.written);
  unfailed = c.requires.writable;
  size = refl;
  none_held = c.new-lines.ensures;
}

pub returns-in_err-len-clause-listed : goal.returns-in_err-len-clause-listed
returns-in_err-len-clause-listed g c =
    let read = c.loop-len.invariant.read in
    let is : c.from_residual.result ≡ Err c.in_err-len.field-0.0 = search rules in
    subst (λ (r : Result Verdict Stop). IsListedAs c.args.format c.args.role c.args.limits c.args.input.now c.next.new.input c.args.output.now c.loop-len.output r) (sym is)
    (list_stopped c.args.format c.args.role c.args.limits c.args.input.now c.loop-len.input c.next.new.input c.args.output.now c.loop-len.output c.loop-len.chunks c.loop-len.scan read.0 read.1 read.2 read.3
    c.loop-len.invariant.unfailed c.in_err-len.field-0.0 (c.in_err-len.ensures.next c.args.limits c.args.input.now read.0 read.2.come))

pub returns-in_err-len-clause-whole : goal.returns-in_err-len-clause-whole
returns-in_err-len-clause-whole g c all known = whole_listing c.args.role c.args.limits c.args.format _ _ _ _ _ all (returns-in_err-len-clause-listed g c) known

pub returns-then-failed-clause-listed : goal.returns-then-failed-clause-listed
returns-then-failed-clause-listed g c =
    let read = c.loop-len.invariant.read in
    let got = next_chunk c.in-Some.is (c.in_ok-len.ensures.next c.args.limits c.args.input.now read.0 read.2.come) in
    list_failed c.args.format c.args.role c.args.limits c.args.input.now c.loop-len.input c.next.new.input c.args.output.now c.loop-len.output c.list_chunk-refusal.new.output c.loop-len.chunks c.next.new.self
    c.loop-len.scan c.list_chunk-refusal.new.scan read.0 read.1 read.2 read.3 c.loop-len.invariant.unfailed (take c.in-Some.len c.next.new.buffer) got.come (short_chunk got (c.next.auto.buffer ∙ c.loop-len.invariant.size))
    c.list_chunk-refusal.result c.list_chunk-refusal.ensures.listed (sym c.failed.ensures ∙ c.if-failed.true)

pub returns-in-Some-refusal-clause-listed : goal.returns-in-Some-refusal-clause-listed
returns-in-Some-refusal-clause-listed g c =
    let read = c.loop-len.invariant.read in
    let got = next_chunk c.in-Some.is (c.in_ok-len.ensures.next c.args.limits c.args.input.now read.0 read.2.come) in
    let listed = subst (λ (r : Option Refusal). IsListedChunk c.args.format c.loop-len.scan c.list_chunk-refusal.new.scan c.loop-len.output c.list_chunk-refusal.new.output (take c.in-Some.len c.next.new.buffer) r)
    c.in-Some-refusal.is c.list_chunk-refusal.ensures.listed in
    list_refused c.args.format c.args.role c.args.limits c.args.input.now c.loop-len.input c.next.new.input c.args.output.now c.loop-len.output c.list_chunk-refusal.new.output c.loop-len.chunks c.next.new.self
    c.loop-len.scan c.list_chunk-refusal.new.scan read.0 read.1 read.2 read.3 c.loop-len.invariant.unfailed (take c.in-Some.len c.next.new.buffer) got.come (short_chunk got (c.next.auto.buffer ∙ c.loop-len.invariant.size))
    c.end.new.output c.in-Some-refusal.refusal c.end.result listed (sym c.failed.ensures ∙ c.if-failed.false) c.end.ensures

pub returns-in-Some-refusal-clause-whole : goal.returns-in-Some-refusal-clause-whole
returns-in-Some-refusal-clause-whole g c all known = whole_listing c.args.role c.args.limits c.args.format _ _ _ _ _ all (returns-in-Some-refusal-clause-listed g c) known

pub loop-len-smaller : goal.loop-len-smaller
loop-len-smaller g c = c.in_ok-len.ensures.falls c.in-Some.len (ap Ok c.in-Some.is)

pub loop-len-preserved : goal.loop-len-preserved
loop-len-preserved g c =
    let read = c.loop-len.invariant.read in
    let got = next_chunk c.in-Some.is (c.in_ok-len.ensures.next c.args.limits c.args.input.now read.0 read.2.come) in
    record {
      read = list_goes_on c.args.format c.args.role c.args.limits c.args.input.now c.loop-len.input c.next.new.input c.args.output.now c.loop-len.output c.list_chunk-refusal.new.output c.loop-len.chunks c.next.new.self
          c.loop-len.scan c.list_chunk-refusal.new.scan read.0 read.1 read.2 read.3 c.loop-len.invariant.unfailed (take c.in-Some.len c.next.new.buffer) got.come (short_chunk got (c.next.auto.buffer ∙ c.loop-len.invariant.size))
          c.in_default-refusal.ensures.listed (sym c.failed.ensures ∙ c.if-failed.false);
      unfailed = sym c.failed.ensures ∙ c.if-failed.false;
      size = same_size c.in-Some.len c.next.new.buffer c.list_chunk-refusal.new.chunk got.in_buffer c.list_chunk-refusal.auto.chunk ∙ c.next.auto.buffer ∙ c.loop-len.invariant.size;
      none_held = c.list_chunk-refusal.ensures.none_held;
    }

pub returns-clause-listed : goal.returns-clause-listed
returns-clause-listed g c =
    let read = c.loop-len.invariant.read in
    let end = next_end c.next.new.self c.next.new.buffer c.in_default.is (c.in_ok-len.ensures.next c.args.limits c.args.input.now read.0 read.2.come) in
    list_ended c.args.format c.args.role c.args.limits c.args.input.now c.loop-len.input c.next.new.input c.args.output.now c.loop-len.output c.end-2.new.output c.loop-len.chunks c.loop-len.scan read.0 read.1 c.finish.result c.end-2.result
    read.2 read.3 end
    (c.finish.ensures.verdict c.args.role c.args.limits read.0 read.2.taken.since read.2.taken.frames _ read.2.taken.has_scanned)
    (subst (λ (heads : List HeadInfo). AreHeads c.args.role c.args.limits read.0 read.2.taken.frames heads) (sym read.2.taken.heads_are)
    (c.finish.ensures.heads c.args.role c.args.limits read.0 read.2.taken.since read.2.taken.frames _ read.2.taken.has_scanned)) c.finish.ensures.reported c.end-2.ensures

pub returns-clause-whole : goal.returns-clause-whole
returns-clause-whole g c all known = whole_listing c.args.role c.args.limits c.args.format _ _ _ _ _ all (returns-clause-listed g c) known

pub slice_bounds-next-end : goal.slice_bounds-next-end
slice_bounds-next-end g c = search rules

pub next-requires : goal.next-requires
next-requires g c = search rules

pub slice_bounds-buffer-end : goal.slice_bounds-buffer-end
slice_bounds-buffer-end g c =
    let read = c.loop-len.invariant.read in
    let got = next_chunk c.in-Some.is (c.in_ok-len.ensures.next c.args.limits c.args.input.now read.0 read.2.come) in
    got.in_buffer

pub slice_bounds-list_chunk-end : goal.slice_bounds-list_chunk-end
slice_bounds-list_chunk-end g c =
    let read = c.loop-len.invariant.read in
    let got = next_chunk c.in-Some.is (c.in_ok-len.ensures.next c.args.limits c.args.input.now read.0 read.2.come) in
    sym (length-take-le c.in-Some.len c.next.new.buffer got.in_buffer)

pub list_chunk-refusal-requires-clause-begun : goal.list_chunk-refusal-requires-clause-begun
list_chunk-refusal-requires-clause-begun g c = search rules

pub list_chunk-refusal-requires-clause-fits : goal.list_chunk-refusal-requires-clause-fits
list_chunk-refusal-requires-clause-fits g c =
    let read = c.loop-len.invariant.read in
    let got = next_chunk c.in-Some.is (c.in_ok-len.ensures.next c.args.limits c.args.input.now read.0 read.2.come) in
    fits c.args.role c.args.limits c.args.input.now c.loop-len.input c.loop-len.chunks c.loop-len.scan read.0 read.1 read.2 c.next.new.input c.next.new.self c.loop-len.scan (take c.in-Some.len c.next.new.buffer) got.come

pub list_chunk-refusal-requires-clause-writable : goal.list_chunk-refusal-requires-clause-writable
list_chunk-refusal-requires-clause-writable g c = search rules

pub list_chunk-refusal-requires-clause-none_held : goal.list_chunk-refusal-requires-clause-none_held
list_chunk-refusal-requires-clause-none_held g c = search rules

pub end-requires : goal.end-requires
end-requires g c = search rules

pub end-requires-2 : goal.end-requires-2
end-requires-2 g c = search rules
