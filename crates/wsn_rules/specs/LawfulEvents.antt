-- Lawful events: those that lawful frames can mean. RFC 6455 sections 5.5, 5.6, 7.4 and 8.1.
use Rattle.std.specs.Prelude.{◌≡◌, ℕ, ◌^◌, ◌<◌, ◌≤◌, true, List, [], ◌∷◌, length}
use Rattle.wsn_wire.specs.declared.opcode.Op.{Op, TheVariants.{Close}}
use Rattle.wsn_wire.specs.declared.opcode.Kind.{Kind, TheVariants.{Text}}
use Rattle.wsn_wire.specs.Frame.{is_control, IsBytes}
use Rattle.wsn_text.specs.Utf8.{IsText}
use Rattle.wsn_text.specs.CloseBody.{IsCloseBody}
use Rattle.wsn_rules.specs.Meaning.{MeantEvent, Message, Control}

-- [5.6] A message is shorter than 2^63 bytes; a text message is UTF-8.
pub record IsLawfulMessage (kind : Kind) (text : List ℕ) : Type 0 where
  pub in_bytes : IsBytes text
  pub size : length text < 2 ^ 63
  pub utf8 : kind ≡ Text → IsText text

-- [5.5] The body of a control has at most 125 bytes; that of a Close is empty, or an accepted code and a reason.
pub record IsLawfulControl (op : Op) (body : List ℕ) : Type 0 where
  pub control : is_control op ≡ true
  pub in_bytes : IsBytes body
  pub size : length body ≤ 125
  pub close : op ≡ Close → IsCloseBody body

-- The event is a lawful message or a lawful control.
abbrev pub IsLawfulEvent : MeantEvent → Type 0
IsLawfulEvent (Message kind text) = IsLawfulMessage kind text
IsLawfulEvent (Control op body) = IsLawfulControl op body

-- The event is within the limit on messages; if it is a Close, no event follows.
abbrev pub IsWithin : ℕ → MeantEvent → List MeantEvent → Type 0
IsWithin most (Message kind text) later = length text ≤ most
IsWithin most (Control op body) later = op ≡ Close → later ≡ []

-- The events are lawful, each message has at most `most` bytes, and a Close is last.
abbrev pub AreLawful : ℕ → List MeantEvent → Type 0
AreLawful most [] = Unit {0}
AreLawful most (e ∷ events) = IsLawfulEvent e × IsWithin most e events × AreLawful most events
