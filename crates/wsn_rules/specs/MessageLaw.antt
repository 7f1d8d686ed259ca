-- The law of a message: which data frame may follow which, how many frames and bytes it may have, and its text. RFC 6455
-- sections 5.4, 5.6 and 8.1.
use Rattle.std.specs.Prelude.{◌≡◌, ◌≢◌, ◌≤◌, ◌↔◌, true, List, [], ◌∷◌, ◌++◌, length}
use Rattle.std.specs.Option.{ForSome}
use Rattle.wsn_wire.specs.declared.opcode.Op.TheVariants.{Continue, Text}
use Rattle.wsn_wire.specs.Frame.{Frame}
use Rattle.wsn_text.specs.Utf8.{IsText, BeginsText}
use Rattle.wsn_rules.specs.Limits.{Limits}
use Rattle.wsn_rules.specs.Group.{first_op, payload_of}

-- The rules for a group whose last frame is f; `earlier` is the group's frames before f.
pub record GroupLaw (limits : Limits) (earlier : List Frame) (f : Frame) : Type 0 where
  -- [5.4] A group begins with Text or Binary and continues with Continue.
  pub continues : (f.op ≡ Continue) ↔ (earlier ≢ [])
  pub size : length (payload_of (earlier ++ f ∷ [])) ≤ limits.message
  pub count : ForSome limits.frames (λ most. length (earlier ++ f ∷ []) ≤ most)
  -- [5.6, 8.1] The text is UTF-8 as a whole, and begins UTF-8 at the end of each fragment.
  pub begins : first_op (earlier ++ f ∷ []) ≡ Text → BeginsText (payload_of (earlier ++ f ∷ []))
  pub text : first_op (earlier ++ f ∷ []) ≡ Text → f.fin ≡ true → IsText (payload_of (earlier ++ f ∷ []))
