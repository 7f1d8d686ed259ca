-- Every capture with a report is shown.
use Rattle.std.proofs.Common.{◌≡◌, ℕ, ◌+◌, Option, None, List, [], ◌∷◌, ◌++◌, length, refl, sym, ap, ◌∙◌, subst, inl, inr, arith, append_assoc, append-nil, length-append}
use Rattle.std.proofs.lemmas.Bool.{cases_Bool}
use Rattle.std.proofs.lemmas.List.Concat.{flat_map-append}
use Rattle.wsn_wire.specs.declared.endpoint.Role.{Role}
use Rattle.wsn_wire.specs.declared.endpoint.Role.TheVariants.{Client, Server}
use Rattle.wsn_wire.specs.Frame.{IsBytes}
use Rattle.wsn_wire.proofs.FrameLemmas.{IsBytes-left}
use Rattle.wsn_rules.specs.declared.detail.Detail.{Detail}
use Rattle.wsn_rules.specs.declared.closing_handshake.Report.{Report}
use Rattle.wsn_rules.specs.Limits.{Limits, InRange}
use Rattle.wsn_rules.specs.Entries.{Entry, without_cr, AreEntries}
use Rattle.wsn_rules.specs.Entries.Entry.{Nothing, Bytes, Mark}
use Rattle.wsn_rules.specs.ClosingHandshake.{IsReportOf}
use Rattle.wsn_rules.specs.Sides.{bytes_in, sent, has_ended}
use Rattle.wsn_rules.specs.ShownCapture.{IsTimeAfter, LineItem, of_stream, beyond, IsShownNothing, IsShownOfEntry, ShownLine, AreShownAfter, IsTimeOfLast, LeftAtEnd, AreLeftAtEnd, IsLeftAtEnd, IsShownCapture}
use Rattle.wsn_rules.specs.ShownCapture.LineItem.{End, Comment}
use Rattle.wsn_rules.specs.ShownStream.{Item}
use Rattle.wsn_rules.proofs.EveryShown.{some_left, some_shown}
use Rattle.wsn_rules.proofs.EveryTime.{gives_time, time_after}
use Rattle.wsn_rules.proofs.LastTimes.{next_last_time}

some_nothing : (text : List ℕ) → (items : List LineItem) × IsShownNothing text items
some_nothing [] = ([], inr (inl refl, refl))
some_nothing (b ∷ text) =
    elim (gives_time (b ∷ text)) [
      | inl time ↦ ([], inr (inr time, refl))
      | inr none ↦ (Comment (b ∷ text) ∷ [], inl ((λ empty. cc), none, refl))
    ]

bytes_of_line : (role : Role) (bytes : List ℕ) → bytes_in role (Bytes role bytes) ≡ bytes
bytes_of_line Client bytes = refl
bytes_of_line Server bytes = refl

-- Both streams have bytes.
abbrev AreSentBytes : List Entry → Type 0
AreSentBytes entries = (role : Role) → IsBytes (sent role entries)

sent_parts : (role : Role) (given entries : List Entry) → sent role (given ++ entries) ≡ sent role given ++ sent role entries
sent_parts role given entries = flat_map-append (bytes_in role) given entries

sent_front : (given entries : List Entry) → AreSentBytes (given ++ entries) → AreSentBytes given
sent_front given entries all role = IsBytes-left (sent role given) (sent role entries) (subst IsBytes (sent_parts role given entries) (all role))

-- The time of the last bytes after the first lines of a capture, and after all.
some_last_time : (role : Role) (before : List (List ℕ)) (given : List Entry) (lines : List (List ℕ)) (entries : List Entry) (held time : Option (List ℕ)) → length before ≡ length given → IsTimeAfter before held → IsTimeOfLast role before given time
    → AreEntries lines entries → (next : Option (List ℕ)) × IsTimeOfLast role (before ++ lines) (given ++ entries) next
some_last_time role before given [] [] held time each holds is are =
    (time, subst (λ (ls : List (List ℕ)). IsTimeOfLast role ls (given ++ []) time) (sym (append-nil before)) (subst (λ (es : List Entry). IsTimeOfLast role before es time) (sym (append-nil given)) is))
some_last_time role before given [] (entry ∷ entries) held time each holds is are = absurd are
some_last_time role before given (line ∷ lines) [] held time each holds is are = absurd are
some_last_time role before given (line ∷ lines) (entry ∷ entries) held time each holds is are =
    let after = time_after before line held holds in
    let next = next_last_time role before given line entry each held time holds is in
    let longer : length (before ++ line ∷ []) ≡ length (given ++ entry ∷ []) = omega (arith, each, length-append before (line ∷ []), length-append given (entry ∷ [])) in
    let rest = some_last_time role (before ++ line ∷ []) (given ++ entry ∷ []) lines entries after.0 next.0 longer after.1 next.1 are.1 in (
      rest.0,
      subst (λ (ls : List (List ℕ)). IsTimeOfLast role ls (given ++ entry ∷ entries) rest.0) (append_assoc before (line ∷ []) lines)
          (subst (λ (es : List Entry). IsTimeOfLast role ((before ++ line ∷ []) ++ lines) es rest.0) (append_assoc given (entry ∷ []) entries) rest.1),
    )

module _ (detail : Detail) (limits : Limits) (range : InRange limits) where
  some_of_entry : (given : List Entry) (text : List ℕ) (entry : Entry) → AreSentBytes (given ++ entry ∷ []) → (items : List LineItem) × IsShownOfEntry detail limits given text entry items
  some_of_entry given text Nothing all = some_nothing text
  some_of_entry given text (Bytes role bytes) all =
      let line : sent role (Bytes role bytes ∷ []) ≡ bytes = append-nil (bytes_in role (Bytes role bytes)) ∙ bytes_of_line role bytes in
      let whole : sent role (given ++ Bytes role bytes ∷ []) ≡ sent role given ++ bytes = sent_parts role given (Bytes role bytes ∷ []) ∙ ap (λ (bs : List ℕ). sent role given ++ bs) line in
      let shown = some_shown role limits range detail (sent role given ++ bytes) (subst IsBytes whole (all role)) in
      (of_stream role (beyond (length (sent role given)) shown.0), (shown.0, shown.1, refl))
  some_of_entry given text (Mark role) all =
      let left = some_left role limits range (sent role given) (sent_front given (Mark role ∷ []) all role) in
      (of_stream role left.0 ++ End role (length (sent role given)) ∷ [], (left.0, left.1, refl))

  some_shown_after : (before : List (List ℕ)) (given : List Entry) (lines : List (List ℕ)) (entries : List Entry) (time : Option (List ℕ)) → IsTimeAfter before time → AreEntries lines entries → AreSentBytes (given ++ entries)
      → (shown : List ShownLine) × AreShownAfter detail limits before given lines entries shown
  some_shown_after before given [] [] time is are all = ([], tt)
  some_shown_after before given [] (entry ∷ entries) time is are all = absurd are
  some_shown_after before given (line ∷ lines) [] time is are all = absurd are
  some_shown_after before given (line ∷ lines) (entry ∷ entries) time is are all =
      let joined : given ++ entry ∷ entries ≡ (given ++ entry ∷ []) ++ entries = sym (append_assoc given (entry ∷ []) entries) in
      let moved = subst AreSentBytes joined all in
      let items = some_of_entry given (without_cr line) entry (sent_front (given ++ entry ∷ []) entries moved) in
      let next = time_after before line time is in
      let rest = some_shown_after (before ++ line ∷ []) (given ++ entry ∷ []) lines entries next.0 next.1 are.1 moved in
      (record { number = length before + 1; time = time; items = items.0 } ∷ rest.0, (refl, is, items.1, rest.1))

  some_items_left : (role : Role) (entries : List Entry) → AreSentBytes entries → (items : List Item) × AreLeftAtEnd role limits entries items
  some_items_left role entries all =
      elim (cases_Bool (has_ended role entries)) [
        | inl ended ↦ ([], inl (ended, refl))
        | inr running ↦ let left = some_left role limits range (sent role entries) (all role) in (left.0, inr (running, left.1))
      ]

  some_at_end : (role : Role) (lines : List (List ℕ)) (entries : List Entry) → AreEntries lines entries → AreSentBytes entries → (left : LeftAtEnd) × IsLeftAtEnd role limits lines entries left
  some_at_end role lines entries are all =
      let time = some_last_time role [] [] lines entries None None refl tt (inr (refl, refl)) are in
      let left = some_items_left role entries all in
      (record { time = time.0; items = left.0 }, record { time = time.1; items = left.1 })

  pub some_shown_capture : (lines : List (List ℕ)) (entries : List Entry) (report : Report) → AreEntries lines entries → ((role : Role) → IsBytes (sent role entries)) → IsReportOf limits entries report
      → (shown : List ShownLine) × (client server : LeftAtEnd) × IsShownCapture detail limits lines shown client server report
  some_shown_capture lines entries report are all is =
      let shown = some_shown_after [] [] lines entries None tt are all in
      let client = some_at_end Client lines entries are all in
      let server = some_at_end Server lines entries are all in (
        shown.0,
        client.0,
        server.0,
        record {
          entries = entries;
          given = are;
          each = shown.1;
          of_client = client.1;
          of_server = server.1;
          is_report = is;
        },
      )
