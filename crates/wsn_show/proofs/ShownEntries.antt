-- What a line with one entry shows.
use Rattle.std.proofs.Common.{◌≡◌, ℕ, ◌+◌, ◌≤◌, ◌<◌, Option, Some, List, [], ◌∷◌, ◌++◌, length, flat_map, inl, inr, refl, sym, ap, ◌∙◌, subst, append-nil, arith}
use Rattle.std.proofs.lemmas.List.Concat.{flat_map-append}
use Rattle.wsn_wire.specs.declared.endpoint.Role.{Role}
use Rattle.wsn_wire.specs.declared.endpoint.Role.TheVariants.{Client, Server}
use Rattle.wsn_io.specs.Transfer.{Outgoing, IsWrittenUpToFailure}
use Rattle.wsn_rules.specs.Limits.{Limits}
use Rattle.wsn_rules.specs.Entries.{Entry, GivesEntry, IsHex, bytes_prefix, end_mark}
use Rattle.wsn_rules.specs.Entries.Entry.{Nothing, Bytes, Mark}
use Rattle.wsn_rules.specs.Sides.{sent, bytes_in}
use Rattle.wsn_rules.specs.ShownStream.{Item, Shown, IsShownStream, IsLeftOver}
use Rattle.wsn_rules.specs.ShownCapture.{of_stream, beyond, GivesTime, GivesNoTime}
use Rattle.wsn_rules.specs.ShownCapture.LineItem.{End, Comment}
use Rattle.wsn_print.specs.ShownParts.{EntryPosition}
use Rattle.wsn_shown_text.specs.EntryFormats.{end_entry, comment_entry}
use Rattle.wsn_capture.specs.CaptureLines.{count_of}
use Rattle.wsn_print.specs.declared.style.Style.{Style}
use Rattle.wsn_show.specs.Styles.{styled_item, styled_items, styled_line_item}
use Rattle.wsn_capture.specs.declared.line_fault.LineFault.TheVariants.{InputLimit}
use Rattle.wsn_rules.proofs.Prefixes.{head_same}
use Rattle.wsn_rules.proofs.OneEntry.{letter_of, front_is, mark_is, one_given}
use Rattle.wsn_capture.specs.declared.capture_lines.CaptureLines.{CaptureLines}
use Rattle.wsn_capture.proofs.ClosingLines.{sent-push}
use Rattle.wsn_show.specs.declared.capture_view.CaptureView.{CaptureView}
use Rattle.wsn_show.specs.declared.stream_view.StreamView.{StreamView}
use Rattle.wsn_show.specs.ShownSoFar.{HasViewed}
use Rattle.wsn_show.specs.CaptureViews.{AreViewed, IsAcceptedText, CanShow, line_position, ShowsText, ShowsMark}

-- ---- what a stream's view does

pub record Takes (role : Role) (limits : Limits) (style : Style) (new : StreamView) (came bytes : List ℕ) (position : EntryPosition)
    (before after : Outgoing) : Type 0 where
  pub viewed : HasViewed role limits style new (came ++ bytes)
  pub shown : List Shown
  pub is_shown : IsShownStream style.detail role limits (came ++ bytes) shown
  pub printed : IsWrittenUpToFailure before after (styled_items style role position (beyond (length came) shown))

pub record PutsLeft (role : Role) (limits : Limits) (style : Style) (came : List ℕ) (position : EntryPosition) (before after : Outgoing) : Type 0 where
  pub left : List Item
  pub is_left : IsLeftOver role limits came left
  pub printed : IsWrittenUpToFailure before after (styled_items style role position left)

-- ---- the text of items

of_stream_text : (style : Style) (role : Role) (position : EntryPosition) (items : List Item) →
    flat_map (styled_line_item style position) (of_stream role items) ≡ styled_items style role position items
of_stream_text style role position [] = refl
of_stream_text style role position (item ∷ items) =
    ap (λ (bs : List ℕ). styled_item style role position item ++ bs) (of_stream_text style role position items)

with_end_text : (style : Style) (role : Role) (position : EntryPosition) (items : List Item) (offset : ℕ) →
    flat_map (styled_line_item style position) (of_stream role items ++ End role offset ∷ []) ≡ styled_items style role position items ++ end_entry style.format role position offset
with_end_text style role position items offset =
    flat_map-append (styled_line_item style position) (of_stream role items) (End role offset ∷ [])
    ∙ ap (λ (bs : List ℕ). bs ++ flat_map (styled_line_item style position) (End role offset ∷ [])) (of_stream_text style role position items)
    ∙ ap (λ (bs : List ℕ). styled_items style role position items ++ bs) (append-nil (end_entry style.format role position offset))

-- ---- streams

sent_kept : (role : Role) (given : List Entry) (entry : Entry) → bytes_in role entry ≡ [] → sent role given ≡ sent role (given ++ entry ∷ [])
sent_kept role given entry none =
    sym (sent-push role given entry ∙ ap (λ (bs : List ℕ). sent role given ++ bs) none ∙ append-nil (sent role given))

no_letter : (role : Role) (rest comment : List ℕ) → letter_of role ∷ rest ≡ 35 ∷ comment → ⊥
no_letter Client rest comment is = let first = head_same _ _ _ _ is in omega (arith, first)
no_letter Server rest comment is = let first = head_same _ _ _ _ is in omega (arith, first)

no_time_in_bytes : (role : Role) (digits : List ℕ) → GivesNoTime (bytes_prefix role ++ digits)
no_time_in_bytes role digits seconds gives =
    no_letter role (32 ∷ digits) (32 ∷ seconds) (sym (front_is role digits) ∙ gives.0)

no_time_in_mark : (role : Role) → GivesNoTime (end_mark role)
no_time_in_mark role seconds gives = no_letter role (46 ∷ []) (32 ∷ seconds) (sym (mark_is role) ∙ gives.0)

module _ (limits : Limits) (style : Style) (given : List Entry) (old : CaptureView) (viewed : AreViewed limits style old given) where
  -- an entry without bytes leaves both streams as they are
  kept : (entry : Entry) → bytes_in Client entry ≡ [] → bytes_in Server entry ≡ [] → AreViewed limits style old (given ++ entry ∷ [])
  kept entry no_client no_server = record {
    client = subst (HasViewed Client limits style old.client) (sent_kept Client given entry no_client) viewed.client;
    server = subst (HasViewed Server limits style old.server) (sent_kept Server given entry no_server) viewed.server;
  }

  module _ (entry : Entry) (before after : Outgoing) where
    pub shows_client : (lines : CaptureLines) (new : StreamView) (digits bytes : List ℕ) → IsAcceptedText limits given (bytes_prefix Client ++ digits) entry → IsHex digits bytes
        → Takes Client limits style new (sent Client given) bytes (line_position old) before after
        → ShowsText limits style old (record old { lines = lines; client = new }) given (bytes_prefix Client ++ digits) entry before after
    shows_client lines new digits bytes accepted hex takes =
        let text = bytes_prefix Client ++ digits in
        let is : Bytes Client bytes ≡ entry = one_given text (Bytes Client bytes) entry (digits, refl, hex) accepted.gives in
        let items = of_stream Client (beyond (length (sent Client given)) takes.shown) in
        subst (λ (e : Entry). ShowsText limits style old (record old { lines = lines; client = new }) given text e before after) is (record {
          viewed = record {
            client = subst (HasViewed Client limits style new) (sym (sent-push Client given (Bytes Client bytes))) takes.viewed;
            server = subst (HasViewed Server limits style old.server) (sent_kept Server given (Bytes Client bytes) refl) viewed.server;
          };
          time = inr (no_time_in_bytes Client digits, refl);
          items = items;
          shows = (takes.shown, takes.is_shown, refl);
          printed = subst (IsWrittenUpToFailure before after) (sym (of_stream_text style Client (line_position old) (beyond (length (sent Client given)) takes.shown))) takes.printed;
        })

    pub shows_server : (lines : CaptureLines) (new : StreamView) (digits bytes : List ℕ) → IsAcceptedText limits given (bytes_prefix Server ++ digits) entry → IsHex digits bytes
        → Takes Server limits style new (sent Server given) bytes (line_position old) before after
        → ShowsText limits style old (record old { lines = lines; server = new }) given (bytes_prefix Server ++ digits) entry before after
    shows_server lines new digits bytes accepted hex takes =
        let text = bytes_prefix Server ++ digits in
        let is : Bytes Server bytes ≡ entry = one_given text (Bytes Server bytes) entry (digits, refl, hex) accepted.gives in
        let items = of_stream Server (beyond (length (sent Server given)) takes.shown) in
        subst (λ (e : Entry). ShowsText limits style old (record old { lines = lines; server = new }) given text e before after) is (record {
          viewed = record {
            client = subst (HasViewed Client limits style old.client) (sent_kept Client given (Bytes Server bytes) refl) viewed.client;
            server = subst (HasViewed Server limits style new) (sym (sent-push Server given (Bytes Server bytes))) takes.viewed;
          };
          time = inr (no_time_in_bytes Server digits, refl);
          items = items;
          shows = (takes.shown, takes.is_shown, refl);
          printed = subst (IsWrittenUpToFailure before after) (sym (of_stream_text style Server (line_position old) (beyond (length (sent Server given)) takes.shown))) takes.printed;
        })

    -- an end mark
    pub shows_mark : (role : Role) → IsAcceptedText limits given (end_mark role) entry → bytes_in Client (Mark role) ≡ [] → bytes_in Server (Mark role) ≡ []
        → ShowsMark role limits style given (line_position old) before after → ShowsText limits style old old given (end_mark role) entry before after
    shows_mark role accepted no_client no_server marks =
        let is : Mark role ≡ entry = one_given (end_mark role) (Mark role) entry refl accepted.gives in
        subst (λ (e : Entry). ShowsText limits style old old given (end_mark role) e before after) is (record {
          viewed = kept (Mark role) no_client no_server;
          time = inr (no_time_in_mark role, refl);
          items = marks.items;
          shows = marks.shows;
          printed = marks.printed;
        })

    -- an empty line
    pub shows_empty : (text : List ℕ) → IsAcceptedText limits given text entry → text ≡ [] → GivesEntry text Nothing
        → IsWrittenUpToFailure before after [] → ShowsText limits style old old given text entry before after
    shows_empty text accepted empty nothing printed =
        let is : Nothing ≡ entry = one_given text Nothing entry nothing accepted.gives in
        subst (λ (e : Entry). ShowsText limits style old old given text e before after) is (record {
          viewed = kept Nothing refl refl;
          time = inr ((λ seconds gives. let both : [] ≡ 35 ∷ 32 ∷ seconds = sym empty ∙ gives.0 in cc), refl);
          items = [];
          shows = inr (inl empty, refl);
          printed = printed;
        })

    -- a comment that gives a time
    pub shows_time : (text seconds : List ℕ) (time : Option (List ℕ)) → IsAcceptedText limits given text entry → GivesEntry text Nothing
        → GivesTime text seconds → time ≡ Some seconds → IsWrittenUpToFailure before after []
        → ShowsText limits style old (record old { time = time }) given text entry before after
    shows_time text seconds time accepted nothing gives holds printed =
        let is : Nothing ≡ entry = one_given text Nothing entry nothing accepted.gives in
        let stays = kept Nothing refl refl in
        subst (λ (e : Entry). ShowsText limits style old (record old { time = time }) given text e before after) is (record {
          viewed = record { client = stays.client; server = stays.server };
          time = inl (seconds, gives, holds);
          items = [];
          shows = inr (inr (seconds, gives), refl);
          printed = printed;
        })

    -- a comment
    pub shows_comment : (text : List ℕ) → IsAcceptedText limits given text entry → (text ≡ [] → ⊥) → GivesEntry text Nothing → GivesNoTime text
        → IsWrittenUpToFailure before after (comment_entry style.format (count_of old.lines) text) → ShowsText limits style old old given text entry before after
    shows_comment text accepted some nothing none printed =
        let is : Nothing ≡ entry = one_given text Nothing entry nothing accepted.gives in
        subst (λ (e : Entry). ShowsText limits style old old given text e before after) is (record {
          viewed = kept Nothing refl refl;
          time = inr (none, refl);
          items = Comment text ∷ [];
          shows = inl (some, none, refl);
          printed = subst (IsWrittenUpToFailure before after) (sym (append-nil (comment_entry style.format (count_of old.lines) text))) printed;
        })

-- ---- room

-- an accepted line of bytes fits into the input limit
module _ (limits : Limits) (given : List Entry) (entry : Entry) where
  pub fits : (role : Role) (digits bytes : List ℕ) → IsAcceptedText limits given (bytes_prefix role ++ digits) entry → IsHex digits bytes
      → length (sent role given) + length bytes ≤ limits.input
  fits role digits bytes accepted hex =
      let over : limits.input < length (sent role given) + length bytes → ⊥ =
      λ less. accepted.none InputLimit (role, bytes, (digits, refl, hex), less) in
      omega (arith, over)

pub room_for_client : (view : CaptureView) (digits bytes : List ℕ) → CanShow view (bytes_prefix Client ++ digits) → IsHex digits bytes → length bytes ≤ view.client.room
room_for_client view digits bytes can hex =
    omega (arith, fits can.limits can.given can.entry Client digits bytes can.accepted hex, can.viewed.client.room)

pub room_for_server : (view : CaptureView) (digits bytes : List ℕ) → CanShow view (bytes_prefix Server ++ digits) → IsHex digits bytes → length bytes ≤ view.server.room
room_for_server view digits bytes can hex =
    omega (arith, fits can.limits can.given can.entry Server digits bytes can.accepted hex, can.viewed.server.room)

-- ---- end marks

pub marks : (role : Role) (limits : Limits) (style : Style) (given : List Entry) (position : EntryPosition) (before after : Outgoing) (left : List Item)
    → IsLeftOver role limits (sent role given) left
    → IsWrittenUpToFailure before after (styled_items style role position left ++ end_entry style.format role position (length (sent role given)))
    → ShowsMark role limits style given position before after
marks role limits style given position before after left is_left printed = record {
  items = of_stream role left ++ End role (length (sent role given)) ∷ [];
  shows = (left, is_left, refl);
  printed = subst (IsWrittenUpToFailure before after) (sym (with_end_text style role position left (length (sent role given)))) printed;
}
