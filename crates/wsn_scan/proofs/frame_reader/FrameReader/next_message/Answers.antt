use Rattle.std.proofs.Common.{refl, sym, ◌∙◌, arith}
use Rattle.std.proofs.lemmas.Grind.{common_steps}
use Rattle.wsn_scan.specs.declared.part.Taken.TheVariants as taken
use Rattle.wsn_scan.specs.EventFrames.{whole_part}
use Rattle.wsn_scan.proofs.EventParts.{op_by_first}
use Rattle.wsn_scan.proofs.FoundHeads.{none_refused}
use Rattle.wsn_scan.proofs.ReaderSteps.{steps}
use Rattle.wsn_scan.proofs.frame_reader.FrameReader.next_message.Goals as goal

pub returns-clause-taken : goal.returns-clause-taken
returns-clause-taken c role limits came fs at h =
    let e = c.in_ok-count.ensures in
    let head = c.in_ok-count.head in
    let count = c.in_ok-count.count in
    let part = whole_part head count in
    record {
      part = part;
      whole = record { begins = refl; ends = refl; final = e.first.0; op = op_by_first c.in_ok-kind.kind head.op (sym c.in_ok-kind.ensures ∙ e.first.1) };
      offset_is = refl;
      takes = steps role limits c.args.self.now _ part count came fs at h taken.Part
          (record {
            in_bytes = c.event_in.ensures.in_bytes;
            advances = e.taken;
            kept = e.kept;
            room = e.room;
            reported = (λ some. absurd (none_refused c.event_in.new.scan some e.reported), λ is. absurd cc);
            start = λ _. omega arith;
            from_is = λ _. omega (arith, e.within);
            at_is = refl;
            end_is = refl;
            chunks_is = refl;
            whole = λ _ _. e.whole;
          });
    }

pub event_in-requires-clause-fits : goal.event_in-requires-clause-fits
event_in-requires-clause-fits c = grind (arith, common_steps)
