-- One whole frame more in the reassembly.
use Rattle.std.proofs.Common.{◌≡◌, ℕ, ◌+◌, true, false, List, [], ◌∷◌, ◌++◌, length, sym, ap, ◌∙◌, subst, length-append, arith}
use Rattle.std.proofs.lemmas.Bool.{cond-true, cond-false}
use Rattle.wsn_wire.specs.declared.endpoint.Role.{Role}
use Rattle.wsn_wire.specs.declared.opcode.Op.{Op}
use Rattle.wsn_wire.specs.declared.opcode.Op.TheVariants.{Continue}
use Rattle.wsn_wire.specs.Frame.{Frame, is_control, stream}
use Rattle.wsn_rules.specs.Limits.{Limits}
use Rattle.wsn_rules.specs.Group.{unfinished, kind_at, kind_of}
use Rattle.wsn_rules.specs.Lawful.{LawAt, IsLawful}
use Rattle.wsn_rules.specs.Meaning.{Message, Control, event_at}
use Rattle.wsn_rules.specs.ShownStream.{open_offset}
use Rattle.wsn_rules.proofs.Groups.{unfinished_control, unfinished_final, unfinished_more, data_kind}
use Rattle.wsn_rules.proofs.OpenOffsets.{offset_of_none, offset_after_control, offset_after_fragment}
use Rattle.wsn_rules.proofs.LawfulLists.{law_at_split}
use Rattle.wsn_rules.proofs.MessageText.{text_of_push}
use Rattle.wsn_events.specs.declared.reassembly.Reassembly.{Reassembly}
use Rattle.wsn_rules.specs.LawfulEvents.{IsLawfulControl}
use Rattle.wsn_scan.specs.declared.part.Part.{Part}
use Rattle.wsn_scan.specs.Parts.{IsPartAt}
use Rattle.wsn_scan.specs.Positions.{Position, BetweenFrames, InFrame}
use Rattle.wsn_events.specs.Reassembly.{HasBegun, IsBetweenFrames, IsInFrame, IsPlacedAt, IsReassembled, given_by}
use Rattle.wsn_rules.proofs.LawfulMeaning.{event_of_control, event_of_data}
use Rattle.wsn_scan.proofs.FollowedScans.{begins_at, goes_on_at}

-- ---- what is known of an event by the opcode of its last frame

pub given_of_frame : (op : Op) (message frame : ℕ) → (op ≡ Continue → ⊥) → given_by op message frame ≡ frame
given_of_frame op message frame other = grind arith

given_alike : (op : Op) (message frame : ℕ) → ((op ≡ Continue → ⊥) → frame ≡ message) → given_by op message frame ≡ message
given_alike op message frame same = grind arith

-- ---- a part of a frame, which begins there or has begun before

pub begins_by : {A : Type 0} (g begun : Reassembly A) (part : Part) (fs : List Frame) (before : List ℕ) (at : Position) → part.begins ≡ true → IsPartAt at part before → IsReassembled g fs at → (IsBetweenFrames g fs → IsInFrame begun fs part.head.op []) → IsInFrame begun fs part.head.op before
begins_by g begun part fs before at begins is was begin = grind (arith, begins_at)

pub begun_before : {A : Type 0} (g : Reassembly A) (part : Part) (fs : List Frame) (before : List ℕ) (at : Position) → part.begins ≡ false → IsPartAt at part before → IsReassembled g fs at → IsInFrame g fs part.head.op before
begun_before g part fs before at begun is was = subst (λ (p : Position). IsReassembled g fs p) (goes_on_at at part before is begun) was

-- ---- the end of a frame

module _ {A : Type 0} (role : Role) (limits : Limits) (g : Reassembly A) (fs : List Frame) (f : Frame) (lawful : IsLawful role limits (fs ++ f ∷ [])) (within : IsInFrame g fs f.op f.payload) where
  law : LawAt role limits fs f
  law = law_at_split role limits fs f [] lawful

  -- a frame that isn't final is a data frame
  pub of_data : f.fin ≡ false → is_control f.op ≡ false
  of_data more = grind (arith, law)

  -- a frame that begins a message has its kind
  first_kind : (op : Op) → f.op ≡ op → is_control f.op ≡ false → (f.op ≡ Continue → ⊥) → g.kind ≡ kind_at f.op
  first_kind op is plain begins = grind arith

  pub kind_is : is_control f.op ≡ false → g.kind ≡ kind_of (unfinished fs ++ f ∷ [])
  kind_is other = grind (arith, first_kind, law)

  -- the message of a data frame has begun
  begun : is_control f.op ≡ false → HasBegun g (open_offset fs) (length (unfinished fs) + 1)
  begun other = grind (arith, data_kind, law, offset_of_none)

  -- where the frame's event is, if it ends one
  pub placed : IsPlacedAt g fs f
  placed = grind (arith, given_of_frame, cond-true, begun, data_kind, given_alike, cond-false, length-append)

  -- a fragment is added to the open message
  pub fragment : f.fin ≡ false → IsBetweenFrames g (fs ++ f ∷ [])
  fragment more = grind (arith, of_data, unfinished_more, text_of_push, kind_is, begun, offset_after_fragment, length-append)

  -- a control leaves the open message unchanged
  pub control : is_control f.op ≡ true → IsBetweenFrames g (fs ++ f ∷ [])
  control is = grind (arith, unfinished_control, begun, offset_after_control)

  pub control_event : is_control f.op ≡ true → Control g.op g.body.items ≡ event_at fs f
  control_event is = grind (arith, law, control, event_of_control)

  pub message_event : is_control f.op ≡ false → Message g.kind g.message.items ≡ event_at fs f
  message_event other = grind (arith, kind_is, text_of_push, event_of_data)

  -- a whole control's body is lawful
  pub lawful_body : is_control g.op ≡ true → IsLawfulControl g.op g.body.items
  lawful_body is =
      let control = sym (ap is_control within.op) ∙ is in
      let short = law.frame.encoded.control control in
      subst (λ (op : Op). IsLawfulControl op g.body.items) (sym within.op)
      (subst (λ (bs : List ℕ). IsLawfulControl f.op bs) (sym (within.body control short.short))
      (record { control = control; in_bytes = law.frame.encoded.encodable.payload; size = short.short; close = law.frame.close }))

-- after a final data frame no message is open
pub message_ended : {A : Type 0} (g : Reassembly A) (fs : List Frame) (f : Frame) → is_control f.op ≡ false → f.fin ≡ true → g.message.items ≡ [] → IsBetweenFrames g (fs ++ f ∷ [])
message_ended g fs f other final none = grind (arith, unfinished_final)

-- ---- other room for the open message

module _ {A : Type 0} (g h : Reassembly A) (same : h ≡ record g { message = h.message }) (held : h.message.items ≡ g.message.items) (fs : List Frame) where
  begun_alike : (offset count : ℕ) → HasBegun g offset count → HasBegun (record g { message = h.message }) offset count
  begun_alike offset count begun = record { offset_is = begun.offset_is; count_is = begun.count_is }

  between_alike : IsBetweenFrames g fs → IsBetweenFrames (record g { message = h.message }) fs
  between_alike was = grind (arith, begun, begun_alike)

  pub reassembled_alike : (at : Position) → IsReassembled g fs at → IsReassembled h fs at
  reassembled_alike BetweenFrames was = subst (λ (r : Reassembly A). IsBetweenFrames r fs) (sym same) (between_alike was)
  reassembled_alike (InFrame info payload) was = subst (λ (r : Reassembly A). IsInFrame r fs info.op payload) (sym same) (record {
    op = was.op;
    of_control = λ control. between_alike (was.of_control control);
    body = was.body;
    message = λ other. held ∙ was.message other;
    text = was.text;
    binary = was.binary;
    continued = was.continued;
    offset = was.offset;
    first = λ begins. begun_alike (length (stream fs)) 1 (was.first begins);
    further = λ continues some. begun_alike (open_offset fs) (length (unfinished fs) + 1) (was.further continues some);
  })
