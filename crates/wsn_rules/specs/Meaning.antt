-- The meaning of a stream: its messages, pings and pongs, and its Close. RFC 6455 sections 5.4 to 5.6.
use Rattle.std.specs.Prelude.{ℕ, List, [], ◌∷◌, ◌++◌, if◌then◌else◌}
use Rattle.wsn_wire.specs.declared.opcode.Op.{Op}
use Rattle.wsn_wire.specs.declared.opcode.Kind.{Kind}
use Rattle.wsn_wire.specs.Frame.{Frame, is_control}
use Rattle.wsn_rules.specs.Group.{unfinished, kind_of, payload_of}

-- A message has a kind and a payload; a Close, Ping or Pong has a body.
pub data MeantEvent : Type 0 where
  Message : Kind → List ℕ → MeantEvent
  Control : Op → List ℕ → MeantEvent

-- The payload of an event: a message's, joined from its frames, or a control's.
abbrev pub payload_in : MeantEvent → List ℕ
payload_in (Message kind payload) = payload
payload_in (Control op body) = body

-- The event that a final frame completes after the frames before it: the control, or the message of its group.
abbrev pub event_at : List Frame → Frame → MeantEvent
event_at before f =
    let group = unfinished before ++ f ∷ [] in
    if is_control f.op then Control f.op f.payload else Message (kind_of group) (payload_of group)

-- The events of the final frames in fs, in order, after the frames `before`.
abbrev pub events_after : List Frame → List Frame → List MeantEvent
events_after before [] = []
events_after before (f ∷ fs) =
    (if f.fin then event_at before f ∷ [] else []) ++ events_after (before ++ f ∷ []) fs

-- The meaning of frames: the events of their final frames, in order. Two accepted streams of one role mean the
-- same if the meanings of their frames are equal.
abbrev pub meaning : List Frame → List MeantEvent
meaning fs = events_after [] fs
