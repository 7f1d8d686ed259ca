-- A view of a stream after more bytes.
use Rattle.std.proofs.Common.{◌≡◌, ℕ, ◌+◌, ◌-◌, ◌<◌, ◌≤◌, ◌^◌, false, None, List, [], ◌++◌, length, sym, ap, ◌∙◌, subst, arith, length-append}
use Rattle.wsn_io.specs.Transfer.{Outgoing, IsWrittenUpToFailure}
use Rattle.wsn_io.proofs.PutTexts.{prints_nothing}
use Rattle.wsn_wire.specs.declared.endpoint.Role.{Role}
use Rattle.wsn_rules.specs.Limits.{Limits}
use Rattle.wsn_rules.specs.ShownStream.{Item, Shown, IsShownStream}
use Rattle.wsn_rules.specs.ShownCapture.{beyond}
use Rattle.wsn_rules.proofs.Prefixes.{append_cancel}
use Rattle.wsn_rules.proofs.ShownStreams.{shown_goes_on}
use Rattle.wsn_scan.specs.declared.scan.Scan.{Scan}
use Rattle.wsn_scan.specs.Scans.{refusal_in}
use Rattle.wsn_print.specs.declared.style.Style.{Style}
use Rattle.wsn_show.specs.Styles.{styled_items}
use Rattle.wsn_show.specs.declared.entry_context.EntryContext.{EntryContext}
use Rattle.wsn_show.specs.declared.stream_parts.StreamParts.{StreamParts}
use Rattle.wsn_show.specs.ShownItems.{position_in, Prints}
use Rattle.wsn_show.specs.ShownSoFar.{items_in, HasShown, IsShowing, ShowsMore, Viewed, HasViewed}
use Rattle.wsn_show.proofs.ShownChunks.{frames_of}
use Rattle.wsn_show.proofs.StreamsShown.{all_shown}

module _ (role : Role) (limits : Limits) (style : Style) (viewed : Viewed) (came : List ℕ) (has : HasViewed role limits style viewed came) where
  -- The same in the view's own style.
  pub own_shown : HasShown viewed.style role limits viewed.scan viewed.parts came has.shown
  own_shown = subst (λ (s : Style). HasShown s role limits viewed.scan viewed.parts came has.shown) (sym has.in_style) has.has

  pub own_showing : refusal_in viewed.scan ≡ None → IsShowing viewed.style viewed.scan viewed.parts
  own_showing none = record {
    role = role;
    limits = limits;
    came = came;
    shown = has.shown;
    frames = frames_of viewed.style role limits viewed.scan viewed.parts came has.shown none own_shown;
  }

  -- The lines were written with the view's own role and style.
  pub written : (context : EntryContext) (old new : Outgoing) (items : List Item) → context.role ≡ viewed.role → context.style ≡ viewed.style → old.failed ≡ false → Prints context old new items
      → IsWrittenUpToFailure old new (styled_items style role (position_in context) items)
  written context old new items own_role own_style unfailed printed =
      subst (λ (s : Style). IsWrittenUpToFailure old new (styled_items s role (position_in context) items)) (own_style ∙ has.in_style)
      (subst (λ (r : Role). IsWrittenUpToFailure old new (styled_items context.style r (position_in context) items)) (own_role ∙ has.sender)
      (printed old [] (prints_nothing old unfailed)))

  -- They were written after what was printed before.
  pub written_on : (context : EntryContext) (old new : Outgoing) (items : List Item) → context.role ≡ viewed.role → context.style ≡ viewed.style → Prints context old new items
      → (before : Outgoing) (text : List ℕ) → IsWrittenUpToFailure before old text → IsWrittenUpToFailure before new (text ++ styled_items style role (position_in context) items)
  written_on context old new items own_role own_style printed before text earlier =
      subst (λ (s : Style). IsWrittenUpToFailure before new (text ++ styled_items s role (position_in context) items)) (own_style ∙ has.in_style)
      (subst (λ (r : Role). IsWrittenUpToFailure before new (text ++ styled_items context.style r (position_in context) items)) (own_role ∙ has.sender)
      (printed before text earlier))

  module _ (bytes : List ℕ) (fits : length bytes ≤ viewed.room) where
    pub small : length came + length bytes < 2 ^ 64
    small = let room = has.room in let input = has.in_range.input in omega (arith, room, input, fits)

    module _ (scan : Scan) (parts : StreamParts) (context : EntryContext) (own_style : context.style ≡ viewed.style) (old new : Outgoing) (s : ShowsMore role limits scan parts context old new (came ++ bytes) has.shown) where
      in_style : HasShown style role limits scan parts (came ++ bytes) (has.shown ++ s.extra)
      in_style = subst (λ (t : Style). HasShown t role limits scan parts (came ++ bytes) (has.shown ++ s.extra)) (own_style ∙ has.in_style) s.has

      pub viewed_more : HasViewed role limits style (record viewed { room = viewed.room - length bytes; scan = scan; parts = parts }) (came ++ bytes)
      viewed_more = record {
        sender = has.sender;
        in_style = has.in_style;
        in_range = has.in_range;
        input = has.input;
        room = let room = has.room in omega (arith, room, fits, length-append came bytes);
        shown = has.shown ++ s.extra;
        has = in_style;
      }

      pub shows_more : context.role ≡ viewed.role → old.failed ≡ false
          → (shown : List Shown) × IsShownStream style.detail role limits (came ++ bytes) shown × IsWrittenUpToFailure old new (styled_items style role (position_in context) (beyond (length came) shown))
      shows_more own_role unfailed =
          let longer = has.shown ++ s.extra in
          let before = all_shown style role limits viewed.scan viewed.parts came has.shown has.has in
          let now = all_shown style role limits scan parts (came ++ bytes) longer in_style in
          let on = shown_goes_on role limits style.detail came bytes has.shown longer before now in
          let same : s.extra ≡ on.0 = append_cancel has.shown s.extra on.0 on.1 in
          let items : items_in s.extra ≡ beyond (length came) longer = ap items_in same ∙ sym on.4 in (
            longer,
            now,
            subst (λ (is : List Item). IsWrittenUpToFailure old new (styled_items style role (position_in context) is)) items
                (written context old new (items_in s.extra) own_role own_style unfailed s.printed),
          )
