-- What is printed of items in a style.
use Rattle.std.specs.Prelude.{ℕ, min, Option, List, ◌++◌, flat_map}
use Rattle.wsn_wire.specs.declared.endpoint.Role.{Role, TheVariants.{Client, Server}}
use Rattle.wsn_rules.specs.declared.closing_handshake.Report.{Report}
use Rattle.wsn_rules.specs.declared.verdict.Verdict.{Verdict}
use Rattle.wsn_rules.specs.ShownStream.{Item}
use Rattle.wsn_rules.specs.ShownStream.Item.{RefusedFrame, Unread, Tail}
use Rattle.wsn_rules.specs.ShownCapture.{LineItem, ShownLine, LeftAtEnd}
use Rattle.wsn_rules.specs.ShownCapture.LineItem.{OfStream}
use Rattle.wsn_print.specs.ShownParts.{EntryPosition}
use Rattle.wsn_print.specs.ShownParts.EntryPosition.{InLine, AtEnd}
use Rattle.wsn_shown_text.specs.EntryFormats.{item_entry, line_item_entry}
use Rattle.wsn_print.specs.Formats.{report_text, verdict_text}
use Rattle.wsn_print.specs.declared.style.Style.{Style}
use Rattle.wsn_capture.specs.declared.ended_by.EndedBy.{EndedBy}
use Rattle.wsn_show.specs.EndedByTexts.{ended_by_text}

-- With views of n bytes, the view of this item: of an event's payload n bytes; of the evidence for a refusal, and of bytes
-- that belong to no frame, at most 4,096.
abbrev pub item_view : ℕ → Item → ℕ
item_view n (RefusedFrame offset refusal evidence character) = min n 4096
item_view n (Unread offset bytes) = min n 4096
item_view n (Tail offset bytes) = min n 4096
item_view n item = n

-- An item of an endpoint's stream.
abbrev pub styled_item : Style → Role → EntryPosition → Item → List ℕ
styled_item style role position item = item_entry style.format (item_view style.view item) role position item

-- Items, in order.
abbrev pub styled_items : Style → Role → EntryPosition → List Item → List ℕ
styled_items style role position = flat_map (styled_item style role position)

-- What is printed of an item of a capture's line.
abbrev pub styled_line_item : Style → EntryPosition → LineItem → List ℕ
styled_line_item style position (OfStream role item) = styled_item style role position item
styled_line_item style position item = line_item_entry style.format style.view position item

-- What is printed of a line of a capture.
abbrev pub styled_line : Style → ShownLine → List ℕ
styled_line style shown = flat_map (styled_line_item style (InLine shown.number shown.time)) shown.items

-- What is left over of an endpoint's stream at the end of a capture.
abbrev pub styled_left : Style → Role → LeftAtEnd → List ℕ
styled_left style role left = styled_items style role (AtEnd left.time) left.items

-- A report.
abbrev pub styled_report : Style → Report → List ℕ
styled_report style = report_text style.format

-- A verdict.
abbrev pub styled_verdict : Style → Verdict → List ℕ
styled_verdict style = verdict_text style.format

-- Who ended the connection.
abbrev pub styled_ended_by : Style → Option EndedBy → List ℕ
styled_ended_by style = ended_by_text style.format

-- What is printed of a capture: of each line, of what is left over of the client's stream and of the server's, who ended
-- the connection, and the report.
abbrev pub styled_capture : Style → List ShownLine → LeftAtEnd → LeftAtEnd → Option EndedBy → Report → List ℕ
styled_capture style lines client server ended_by report =
    flat_map (styled_line style) lines ++ styled_left style Client client ++ styled_left style Server server
    ++ styled_ended_by style ended_by ++ styled_report style report
