-- What a line gives, as it is read: its form, and an entry whose bytes are held elsewhere.
use Rattle.std.specs.Prelude.{◌≡◌, ℕ, ◌≤◌, ⊤, Option, None, Some, List, ◌++◌, take}
use Rattle.wsn_capture.specs.declared.line_form.LineForm.{LineForm}
use Rattle.wsn_capture.specs.declared.line_form.LineForm.TheVariants as forms
use Rattle.wsn_capture.specs.declared.line_form.LineEntry.{LineEntry}
use Rattle.wsn_capture.specs.declared.line_form.LineEntry.TheVariants as lines
use Rattle.wsn_rules.specs.Entries.{Entry, IsHex, GivesEntry, bytes_prefix, end_mark}
use Rattle.wsn_rules.specs.Entries as entries
use Rattle.wsn_capture.specs.LineFaults.{HasNoForm}

-- The text has this form, or none of the forms.
abbrev pub IsForm : List ℕ → Option LineForm → Type 0
IsForm text (Some forms.Nothing) = GivesEntry text entries.Nothing
IsForm text (Some (forms.Bytes role)) = (digits : List ℕ) × (text ≡ bytes_prefix role ++ digits)
IsForm text (Some (forms.Mark role)) = text ≡ end_mark role
IsForm text None = HasNoForm text

-- The digits encode no bytes.
abbrev pub HasNoHex : List ℕ → Type 0
HasNoHex digits = (bytes : List ℕ) → IsHex digits bytes → ⊥

-- The entry whose bytes are the first of these.
abbrev pub held_entry : LineEntry → List ℕ → Entry
held_entry lines.Nothing held = entries.Nothing
held_entry (lines.Bytes role count) held = entries.Bytes role (take count held)
held_entry (lines.Mark role) held = entries.Mark role

-- A line may give this many bytes.
abbrev pub FitsInLine : LineEntry → Type 0
FitsInLine (lines.Bytes role count) = count ≤ 4096
FitsInLine entry = ⊤
