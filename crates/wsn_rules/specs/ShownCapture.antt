-- What is shown of a capture: with each of its lines, in order, what the line completes; then what is left over of both
-- streams, each with the time of its last bytes; then the report.
use Rattle.std.specs.Prelude.{◌≡◌, ◌≢◌, ℕ, ◌+◌, ◌≤◌, ◌⊎◌, true, false, nat_lt, Option, None, Some, List, [], ◌∷◌, ◌++◌, length, take, filter, map, codes}
use Rattle.std.specs.List.{AllByRecursion, flat_map}
use Rattle.wsn_wire.specs.declared.endpoint.Role.{Role, TheVariants.{Client, Server}}
use Rattle.wsn_rules.specs.declared.detail.Detail.{Detail}
use Rattle.wsn_rules.specs.Limits.{Limits}
use Rattle.wsn_rules.specs.Entries.{Entry, without_cr, AreEntries}
use Rattle.wsn_rules.specs.Entries.Entry.{Nothing, Bytes, Mark}
use Rattle.wsn_rules.specs.Sides.{bytes_in, sent, has_ended}
use Rattle.wsn_rules.specs.ClosingHandshake.{IsReportOf}
use Rattle.wsn_rules.specs.declared.closing_handshake.Report.{Report}
use Rattle.wsn_rules.specs.ShownStream.{Item, Shown, IsShownStream, IsLeftOver}

-- ---- times

-- A decimal digit.
abbrev pub IsDigit : ℕ → Type 0
IsDigit b = (48 ≤ b) × (b ≤ 57)

-- Digits without a leading zero, at least one.
pub record IsWholePart (text : List ℕ) : Type 0 where
  pub digits : AllByRecursion IsDigit text
  pub some : 1 ≤ length text
  pub no_leading_zero : (digit : ℕ) (following : List ℕ) → text ≡ 48 ∷ digit ∷ following → ⊥

-- One to nine digits.
pub record IsFractionalPart (text : List ℕ) : Type 0 where
  pub digits : AllByRecursion IsDigit text
  pub some : 1 ≤ length text
  pub few : length text ≤ 9

-- Seconds: the two parts, and a point between them.
pub record IsSeconds (text : List ℕ) : Type 0 where
  pub whole : List ℕ
  pub fraction : List ℕ
  pub is : text ≡ whole ++ codes "." ++ fraction
  pub whole_is : IsWholePart whole
  pub fraction_is : IsFractionalPart fraction

-- The text of a line, without its CR, is a comment that gives this time.
abbrev pub GivesTime : List ℕ → List ℕ → Type 0
GivesTime text seconds = (text ≡ codes "# " ++ seconds) × IsSeconds seconds

-- The text gives no time.
abbrev pub GivesNoTime : List ℕ → Type 0
GivesNoTime text = (seconds : List ℕ) → GivesTime text seconds → ⊥

-- The line gives this time.
abbrev pub IsTime : List ℕ → List ℕ → Type 0
IsTime line seconds = GivesTime (without_cr line) seconds

-- The line gives no time.
abbrev pub IsNoTime : List ℕ → Type 0
IsNoTime line = GivesNoTime (without_cr line)

-- The time that holds after these lines: that of the last line that gives one; none if no line does.
abbrev pub IsTimeAfter : List (List ℕ) → Option (List ℕ) → Type 0
IsTimeAfter lines None = AllByRecursion IsNoTime lines
IsTimeAfter lines (Some seconds) =
    (before after : List (List ℕ)) × (line : List ℕ) × (lines ≡ before ++ line ∷ after) × IsTime line seconds
    × AllByRecursion IsNoTime after

-- ---- what a line shows

-- What is shown of one line: an item of an endpoint's stream, the end of a stream with its number of bytes, or a comment.
pub data LineItem : Type 0 where
  OfStream : Role → Item → LineItem
  End : Role → ℕ → LineItem
  Comment : List ℕ → LineItem

-- Items of an endpoint's stream.
abbrev pub of_stream : Role → List Item → List LineItem
of_stream role = map (OfStream role)

-- The items that are shown with more than n bytes.
abbrev pub beyond : ℕ → List Shown → List Item
beyond n shown = map (λ s. s.item) (filter (λ s. nat_lt n s.after) shown)

-- A comment is shown as it is; an empty line and a comment with a time aren't shown.
abbrev pub IsShownNothing : List ℕ → List LineItem → Type 0
IsShownNothing text items =
    ((text ≢ []) × GivesNoTime text × (items ≡ Comment text ∷ []))
    ⊎ (((text ≡ []) ⊎ ((seconds : List ℕ) × GivesTime text seconds)) × (items ≡ []))

-- What a line shows whose text, without its CR, and whose entry are given, after lines with the entries `given`. Of the
-- bytes of an endpoint, what is shown of its stream with these bytes and not without them.
abbrev pub IsShownOfEntry : Detail → Limits → List Entry → List ℕ → Entry → List LineItem → Type 0
IsShownOfEntry detail limits given text Nothing items = IsShownNothing text items
IsShownOfEntry detail limits given text (Bytes role bytes) items = (shown : List Shown)
    × IsShownStream detail role limits (sent role given ++ bytes) shown
    × (items ≡ of_stream role (beyond (length (sent role given)) shown))
IsShownOfEntry detail limits given text (Mark role) items = (left : List Item)
    × IsLeftOver role limits (sent role given) left
    × (items ≡ of_stream role left ++ End role (length (sent role given)) ∷ [])

-- A line's number, from 1, its items, and the time that holds for them.
pub record ShownLine : Type 0 where
  pub number : ℕ
  pub time : Option (List ℕ)
  pub items : List LineItem

-- After the lines `before`, which gave the entries `given`, these lines with these entries show this, one for each.
abbrev pub AreShownAfter :
    Detail → Limits → List (List ℕ) → List Entry → List (List ℕ) → List Entry → List ShownLine → Type 0
AreShownAfter detail limits before given [] [] [] = Unit {0}
AreShownAfter detail limits before given (line ∷ lines) (entry ∷ entries) (s ∷ shown) =
    (s.number ≡ length before + 1) × IsTimeAfter before s.time
    × IsShownOfEntry detail limits given (without_cr line) entry s.items
    × AreShownAfter detail limits (before ++ line ∷ []) (given ++ entry ∷ []) lines entries shown
AreShownAfter detail limits before given lines entries shown = ⊥

-- The items of an endpoint's stream among those of a line.
abbrev pub item_of : Role → LineItem → List Item
item_of Client (OfStream Client item) = item ∷ []
item_of Server (OfStream Server item) = item ∷ []
item_of role item = []

-- The items of an endpoint's stream in the lines with its bytes.
abbrev pub items_with_bytes : Role → List Entry → List ShownLine → List Item
items_with_bytes role (Bytes _ bytes ∷ entries) (s ∷ shown) =
    flat_map (item_of role) s.items ++ items_with_bytes role entries shown
items_with_bytes role (entry ∷ entries) (s ∷ shown) = items_with_bytes role entries shown
items_with_bytes role entries shown = []

-- ---- the end of a capture

-- The last entry with bytes of this endpoint, and the time that holds after the lines before it.
pub record IsTimeOfLastBytes (role : Role) (lines : List (List ℕ)) (entries : List Entry) (time : Option (List ℕ))
    : Type 0 where
  pub before : List Entry
  pub last : Entry
  pub after : List Entry
  pub are : entries ≡ before ++ last ∷ after
  pub some : bytes_in role last ≢ []
  pub no_more : sent role after ≡ []
  pub held : IsTimeAfter (take (length before) lines) time

-- The time that held when the last bytes of this endpoint came; none if there are no bytes of it.
abbrev pub IsTimeOfLast : Role → List (List ℕ) → List Entry → Option (List ℕ) → Type 0
IsTimeOfLast role lines entries time =
    IsTimeOfLastBytes role lines entries time ⊎ ((sent role entries ≡ []) × (time ≡ None))

-- What is left over of an endpoint's stream at the end of the capture, and the time that held when its last bytes came.
pub record LeftAtEnd : Type 0 where
  pub time : Option (List ℕ)
  pub items : List Item

-- Nothing is left over after the endpoint's end mark.
abbrev pub AreLeftAtEnd : Role → Limits → List Entry → List Item → Type 0
AreLeftAtEnd role limits entries items =
    ((has_ended role entries ≡ true) × (items ≡ []))
    ⊎ ((has_ended role entries ≡ false) × IsLeftOver role limits (sent role entries) items)

-- This is left over of an endpoint's stream at the end of a capture with these lines and entries.
pub record IsLeftAtEnd (role : Role) (limits : Limits) (lines : List (List ℕ)) (entries : List Entry) (left : LeftAtEnd)
    : Type 0 where
  pub time : IsTimeOfLast role lines entries left.time
  pub items : AreLeftAtEnd role limits entries left.items

-- ---- the whole capture

-- What is shown of a capture with these lines: of each line; of what is left over of the client's stream and of the
-- server's; and the report.
pub record IsShownCapture (detail : Detail) (limits : Limits) (lines : List (List ℕ)) (shown : List ShownLine)
    (client server : LeftAtEnd) (report : Report) : Type 0 where
  pub entries : List Entry
  pub given : AreEntries lines entries
  pub each : AreShownAfter detail limits [] [] lines entries shown
  pub of_client : IsLeftAtEnd Client limits lines entries client
  pub of_server : IsLeftAtEnd Server limits lines entries server
  pub is_report : IsReportOf limits entries report
