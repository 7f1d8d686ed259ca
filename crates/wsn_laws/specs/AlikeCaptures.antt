-- Captures that differ only in what was said: in their streams, in the parameters' values of extensions, and in comments
-- that are no times and say of no reset. Nothing here speaks of redactions.
use Rattle.std.specs.Prelude.{◌≡◌, ℕ, ◌⊎◌, List, [], ◌∷◌, ◌↔◌, length}
use Rattle.wsn_wire.specs.declared.endpoint.Role.{Role}
use Rattle.wsn_rules.specs.Limits.{Limits}
use Rattle.wsn_rules.specs.Entries.{Entry, without_cr, IsEntry}
use Rattle.wsn_rules.specs.Entries.Entry.{Nothing, Bytes, Mark}
use Rattle.wsn_rules.specs.Sides.{sent}
use Rattle.wsn_capture.specs.LineFaults.{AreAcceptedLines}
use Rattle.wsn_redact.specs.declared.extension_names.Within.TheVariants.{Name}
use Rattle.wsn_redact.specs.ExtensionNames.{names_in}
use Rattle.wsn_redact.specs.RedactedCaptures.{Stays, HasExtensions, SaysElse, cr_of}
use Rattle.wsn_laws.specs.AlikeStreams.{AreAlikeStreams}
use Rattle.wsn_rules.specs.ShownCapture.{IsTime}
use Rattle.wsn_capture.specs.EndedBy.{reset_comment}
use Rattle.std.specs.List.{AllZip}

-- Both entries give nothing; or as many bytes of the same endpoint; or the end mark of the same endpoint.
abbrev pub IsAlike : Entry → Entry → Type 0
IsAlike Nothing Nothing = Unit {0}
IsAlike (Bytes role bytes) (Bytes other others) = (other ≡ role) × (length others ≡ length bytes)
IsAlike (Mark role) (Mark other) = other ≡ role
IsAlike entry other = ⊥

-- As many entries, each like its counterpart.
abbrev pub AreAlike : List Entry → List Entry → Type 0
AreAlike = AllZip IsAlike

-- The lines give alike entries and the same time, or none; and both say that an endpoint reset the connection, or neither.
pub record IsAlikeLine (line other : List ℕ) : Type 0 where
  pub entry : Entry
  pub other_entry : Entry
  pub given : IsEntry line entry
  pub other_given : IsEntry other other_entry
  pub alike : IsAlike entry other_entry
  pub time : (seconds : List ℕ) → IsTime line seconds ↔ IsTime other seconds
  pub reset : (role : Role) → (without_cr line ≡ reset_comment role) ↔ (without_cr other ≡ reset_comment role)

-- As many lines, each like its counterpart.
abbrev pub AreAlikeLines : List (List ℕ) → List (List ℕ) → Type 0
AreAlikeLines = AllZip IsAlikeLine

-- Two texts of lines that give nothing, without their CRs: both are empty, or the same time or reset; or lists of
-- extensions with the same names; or comments that say anything else.
abbrev pub AreAlikeComments : List ℕ → List ℕ → Type 0
AreAlikeComments text other =
    (((text ≡ []) ⊎ Stays text) × (text ≡ other))
    ⊎ ((list other_list : List ℕ) × HasExtensions text list × HasExtensions other other_list
    × (names_in Name list ≡ names_in Name other_list))
    ⊎ (SaysElse text × SaysElse other)

-- Two texts of lines with these entries: comments that are alike; as many bytes of the same endpoint; or its end mark.
abbrev pub AreAlikeIn : Entry → Entry → List ℕ → List ℕ → Type 0
AreAlikeIn Nothing Nothing text other = AreAlikeComments text other
AreAlikeIn entry other_entry text other = IsAlike entry other_entry

-- Lines with these entries, in pairs: the same CR or none, and texts that are alike.
abbrev pub AreAlikeInLines : List (List ℕ) → List (List ℕ) → List Entry → List Entry → Type 0
AreAlikeInLines [] [] [] [] = Unit {0}
AreAlikeInLines (line ∷ lines) (other ∷ others) (entry ∷ entries) (other_entry ∷ other_entries) =
    AreAlikeIn entry other_entry (without_cr line) (without_cr other) × (cr_of line ≡ cr_of other)
    × AreAlikeInLines lines others entries other_entries
AreAlikeInLines lines others entries other_entries = ⊥

-- Two captures whose lines are accepted and alike in pairs, and in which each endpoint's streams are alike.
pub record AreAlikeCaptures (limits : Limits) (lines others : List (List ℕ)) : Type 0 where
  pub entries : List Entry
  pub other_entries : List Entry
  pub taken : AreAcceptedLines limits lines entries
  pub other_taken : AreAcceptedLines limits others other_entries
  pub alike : AreAlikeInLines lines others entries other_entries
  pub streams : (role : Role) → AreAlikeStreams role limits (sent role entries) (sent role other_entries)
