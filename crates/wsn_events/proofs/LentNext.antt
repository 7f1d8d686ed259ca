-- A message that a source lends right after what it has given, without reading on.
use Rattle.std.proofs.Common.{◌≡◌, ℕ, List, length, sym, ap, ◌∙◌, subst}
use Rattle.wsn_wire.specs.declared.endpoint.Role.{Role}
use Rattle.wsn_wire.specs.declared.opcode.Kind.{Kind}
use Rattle.wsn_wire.specs.Frame.{stream}
use Rattle.wsn_rules.specs.Limits.{Limits}
use Rattle.wsn_rules.specs.Meaning.{MeantEvent}
use Rattle.wsn_rules.specs.NormalForm.{op_of}
use Rattle.wsn_scan.specs.declared.frame_reader.FrameReader.{FrameReader}
use Rattle.wsn_scan.specs.FrameReaders.{held_payload}
use Rattle.wsn_scan.specs.Positions.{IsTakenOf}
use Rattle.wsn_scan.specs.ReadParts.{TakesMessage}
use Rattle.wsn_scan.proofs.FollowedScans.{begins_at}
use Rattle.wsn_scan.proofs.ReaderReports.{reported_of}
use Rattle.wsn_events.specs.declared.reassembly.Reassembly.{Reassembly}
use Rattle.wsn_events.specs.SourceStates.{SourceState, HasGiven}
use Rattle.wsn_events.specs.LentMessages.{LendsMessage}
use Rattle.wsn_events.specs.Reassembly.{IsReassembled, IsBetweenFrames}
use Rattle.wsn_events.proofs.LentMessages.{lends_part}
use Rattle.wsn_events.proofs.TakenParts.{place_of}

module _ {A : Type 0} (role : Role) (limits : Limits) (reading : SourceState A) (came : List ℕ) (given : List MeantEvent) (has : HasGiven role limits reading came given) (reader : FrameReader) (kind : Kind) (offset : ℕ)
    (message : TakesMessage role limits reader kind offset came has.frames has.position) (g : Reassembly A)
    (passed : g ≡ record reading.reassembly { op = op_of kind; frame_offset = offset }) where
  pub lends_next : LendsMessage role limits (record { reader = reader; reassembly = g; answer = reading.answer }) came given kind
  lends_next =
      let part = message.part in
      let takes = message.takes in
      let fs = has.frames in
      let taken : IsTakenOf role limits came takes.frames takes.position = reported_of role limits reader came takes.frames takes.position takes.has_taken in
      let begins = begins_at has.position part takes.is_part.before takes.is_part.is_at message.whole.begins in
      let at : offset ≡ length (stream fs) = sym message.offset_is ∙ place_of role limits came fs has.position part (held_payload reader) takes.frames takes.position takes.is_part taken in
      let between : IsBetweenFrames reading.reassembly fs = subst (IsReassembled reading.reassembly fs) begins.0 has.reassembly in
      lends_part role limits reading reader part came came given has takes taken g kind message.whole
      (ap (λ (r : Reassembly A). r.op) passed) (ap (λ (r : Reassembly A). r.frame_offset) passed ∙ at) (ap (λ (r : Reassembly A). r.message.items) passed ∙ between.message)
