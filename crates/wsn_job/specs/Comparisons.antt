-- What `same` prints.
use Rattle.std.specs.Prelude.{◌≡◌, ℕ, Option, None, Some, Result, Ok, Err, List}
use Rattle.wsn_io.specs.Transfer.{Incoming, Outgoing, IsWritten, IsPartlyWritten}
use Rattle.wsn_io.specs.declared.stop.Stop.{Stop}
use Rattle.wsn_io.specs.declared.stop.Stop.TheVariants as stop
use Rattle.wsn_print.specs.Formats.{comparison_text}
use Rattle.wsn_shown_text.specs.DifferenceText.{difference_text}
use Rattle.wsn_rules.specs.LeftOut.{events_without}
use Rattle.wsn_rules.specs.ShownStream.{Item}
use Rattle.wsn_rules.specs.ShownEvents.{IsShownAt}
use Rattle.wsn_rules.specs.declared.compared.Compared.{Compared, TheVariants.{Different}}
use Rattle.wsn_events.specs.Comparing.{IsComparedBy}
use Rattle.wsn_command.specs.declared.comparison.Comparison.{Comparison}

-- The two inputs that are compared, and standard output.
pub record ComparedChannels : Type 0 where
  pub first : Incoming
  pub second : Incoming
  pub output : Outgoing

-- the channels of a comparison, from each by itself
abbrev pub compared_channels : Incoming → Incoming → Outgoing → ComparedChannels
compared_channels first second output = record { first = first; second = second; output = output }

-- This answer or stop is of the two inputs: of their meanings without what the comparison leaves out.
abbrev pub IsComparisonAnswer : Comparison → ComparedChannels → ComparedChannels → Result Compared Stop → Type 0
IsComparisonAnswer comparison before after answer =
    IsComparedBy (events_without comparison.without) comparison.role comparison.limits before.first after.first
    before.second after.second answer

-- The text of a difference at the index k of streams with these bytes: the answer; with a view of n bytes also the event
-- with this index of each stream, as it is shown.
abbrev pub IsDifferenceText : Option ℕ → Comparison → List ℕ → List ℕ → ℕ → List ℕ → Type 0
IsDifferenceText None comparison bytes others k text = text ≡ comparison_text comparison.format (Different k)
IsDifferenceText (Some n) comparison bytes others k text =
    (one : Option Item) × (other : Option Item)
    × IsShownAt comparison.without comparison.role comparison.limits bytes k one
    × IsShownAt comparison.without comparison.role comparison.limits others k other
    × (text ≡ difference_text comparison.format n comparison.role k one other)

-- The text of the answer for streams with these bytes.
abbrev pub IsAnswerText : Comparison → List ℕ → List ℕ → Compared → List ℕ → Type 0
IsAnswerText comparison bytes others (Different k) text =
    IsDifferenceText comparison.view comparison bytes others k text
IsAnswerText comparison bytes others compared text = text ≡ comparison_text comparison.format compared

-- What an answer or a stop says of the two inputs. The answer's text was printed; before a stop, nothing was. If a write
-- failed, there is an answer, and a prefix of its text was printed.
abbrev pub IsComparisonPrinted : Comparison → ComparedChannels → ComparedChannels → Result Compared Stop → Type 0
IsComparisonPrinted comparison before after (Ok compared) =
    (answer : IsComparisonAnswer comparison before after (Ok compared)) × (text : List ℕ)
    × IsAnswerText comparison answer.came answer.other_came compared text
    × IsWritten before.output after.output text
IsComparisonPrinted comparison before after (Err stop.Write) =
    (compared : Compared) × (answer : IsComparisonAnswer comparison before after (Ok compared)) × (text : List ℕ)
    × IsAnswerText comparison answer.came answer.other_came compared text
    × IsPartlyWritten before.output after.output text
IsComparisonPrinted comparison before after (Err stopped) =
    IsComparisonAnswer comparison before after (Err stopped) × (after.output ≡ before.output)
