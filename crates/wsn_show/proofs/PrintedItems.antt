-- What was printed, and then more items.
use Rattle.std.proofs.Common.{◌≡◌, ℕ, true, false, Result, List, [], ◌∷◌, ◌++◌, sym, ap, ◌∙◌, subst, append-nil, append_assoc}
use Rattle.std.proofs.lemmas.List.Concat.{flat_map-append}
use Rattle.wsn_io.specs.Transfer.{Outgoing, IsWrittenUpToFailure}
use Rattle.wsn_io.specs.Stops.{IsWrittenOrStops}
use Rattle.wsn_io.specs.declared.stop.Stop.{Stop}
use Rattle.wsn_io.proofs.PutTexts.{prints_on, prints_no_more, went_out}
use Rattle.wsn_rules.specs.ShownStream.{Item}
use Rattle.wsn_show.specs.Styles.{styled_item, styled_items}
use Rattle.wsn_show.specs.declared.entry_context.EntryContext.{EntryContext}
use Rattle.wsn_show.specs.ShownItems.{position_in, Prints}

-- The line of one item.
pub prints_line : {A : Type 0} (context : EntryContext) (old new : Outgoing) (item is : Item) (result : Result A Stop) → item ≡ is → old.failed ≡ false
    → IsWrittenOrStops old new (styled_item context.style context.role (position_in context) is) result → Prints context old new (item ∷ [])
prints_line context old new item is result same unfailed written before text first =
    let line = styled_item context.style context.role (position_in context) is in
    subst (λ (i : Item). IsWrittenUpToFailure before new (text ++ (styled_item context.style context.role (position_in context) i ++ []))) (sym same)
    (subst (λ (bs : List ℕ). IsWrittenUpToFailure before new (text ++ bs)) (sym (append-nil line))
    (prints_on before old new text line unfailed first (went_out old new line result written)))

-- After a failed write.
pub prints_none : (context : EntryContext) (old : Outgoing) (items : List Item) → old.failed ≡ true → Prints context old old items
prints_none context old items failed before text first = prints_no_more before old text (styled_items context.style context.role (position_in context) items) failed first

-- No item.
pub prints_nothing : (context : EntryContext) (old : Outgoing) → Prints context old old []
prints_nothing context old before text first = subst (IsWrittenUpToFailure before old) (sym (append-nil text)) first

-- Some items, and then others.
pub prints_both : (context : EntryContext) (old mid new : Outgoing) (items more : List Item) → Prints context old mid items → Prints context mid new more → Prints context old new (items ++ more)
prints_both context old mid new items more first second before text so_far =
    let line = styled_item context.style context.role (position_in context) in
    subst (IsWrittenUpToFailure before new) (append_assoc text (styled_items context.style context.role (position_in context) items) (styled_items context.style context.role (position_in context) more)
    ∙ ap (λ (bs : List ℕ). text ++ bs) (sym (flat_map-append line items more)))
    (second before (text ++ styled_items context.style context.role (position_in context) items) (first before text so_far))
