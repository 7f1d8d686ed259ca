-- What is left over of a stream is one list, and what is shown of a capture is one list of lines.
use Rattle.std.proofs.Common.{◌≡◌, ℕ, Option, None, Some, List, [], ◌∷◌, ◌++◌, ◌⊎◌, ◌≢◌, length, take, drop, refl, sym, ap, ◌∙◌, subst, inl, inr, true≢false, codes, append-nil}
use Rattle.std.specs.List.{AllByRecursion}
use Rattle.wsn_wire.specs.declared.endpoint.Role.{Role}
use Rattle.wsn_wire.specs.declared.endpoint.Role.TheVariants.{Client, Server}
use Rattle.wsn_wire.specs.Frame.{Frame, stream, wire_payload}
use Rattle.wsn_rules.specs.declared.detail.Detail.{Detail}
use Rattle.wsn_rules.specs.declared.head_info.HeadInfo.{HeadInfo}
use Rattle.wsn_rules.specs.declared.closing_handshake.Report.{Report}
use Rattle.wsn_rules.specs.declared.verdict.Verdict.{Verdict}
use Rattle.wsn_rules.specs.declared.verdict.Verdict.TheVariants.{Accepted, Cut, Refused}
use Rattle.wsn_rules.specs.Limits.{Limits}
use Rattle.wsn_rules.specs.Entries.{Entry, without_cr}
use Rattle.wsn_rules.specs.Entries.Entry.{Nothing, Bytes, Mark}
use Rattle.wsn_rules.specs.ClosingHandshake.{IsReportOf}
use Rattle.wsn_rules.specs.Sides.{bytes_in, sent}
use Rattle.wsn_rules.specs.ShownCapture.{GivesTime, IsTime, IsNoTime, IsTimeAfter, LineItem, of_stream, beyond, IsShownNothing, IsShownOfEntry, ShownLine, AreShownAfter, IsTimeOfLast, LeftAtEnd, AreLeftAtEnd, IsLeftAtEnd, IsShownCapture}
use Rattle.wsn_rules.specs.ShownCapture.LineItem.{End}
use Rattle.wsn_rules.specs.ShownStream.{Item, Shown, items_of_part, IsLeftOfRest, IsLeftOf, IsLeftOver}
use Rattle.wsn_rules.proofs.Prefixes.{append_cancel, head_same, tail_same, nil-parts, GoesOn, two_fronts}
use Rattle.wsn_rules.proofs.OneVerdict.{one_verdict}
use Rattle.wsn_rules.proofs.OneHead.{one_begun, one_following}
use Rattle.wsn_rules.proofs.OneEntry.{same_entries}
use Rattle.wsn_rules.proofs.OneReport.{one_report_of}
use Rattle.wsn_rules.proofs.ShownStreams.{one_shown}

-- ---- what is left over

module _ (role : Role) (limits : Limits) where
  one_of_rest : (fs : List Frame) (rest : List ℕ) (items others : List Item) → IsLeftOfRest role limits fs rest items → IsLeftOfRest role limits fs rest others → items ≡ others
  one_of_rest fs rest items others (inl p) (inl q) =
      let same = one_begun role limits fs rest p.0 q.0 p.1 q.1 in
      let following = one_following role limits fs rest p.0 q.0 p.1 q.1 in
      p.2 ∙ ap (λ (h : HeadInfo). items_of_part fs h (wire_payload h.key p.1.following)) same ∙ ap (λ (bs : List ℕ). items_of_part fs q.0 (wire_payload q.0.key bs)) following ∙ sym q.2
  one_of_rest fs rest items others (inl p) (inr q) = absurd (q.0 p.0 p.1)
  one_of_rest fs rest items others (inr p) (inl q) = absurd (p.0 q.0 q.1)
  one_of_rest fs rest items others (inr p) (inr q) = p.1 ∙ sym q.1

  one_left_of : (bytes : List ℕ) (fs : List Frame) (v : Verdict) (items others : List Item) → IsLeftOf role limits bytes fs v items → IsLeftOf role limits bytes fs v others → items ≡ others
  one_left_of bytes fs (Accepted summary) items others p q = p ∙ sym q
  one_left_of bytes fs (Cut summary) items others p q = one_of_rest fs (drop (length (stream fs)) bytes) items others p q
  one_left_of bytes fs (Refused refusal) items others p q = p ∙ sym q

  pub one_left : (bytes : List ℕ) (items others : List Item) → IsLeftOver role limits bytes items → IsLeftOver role limits bytes others → items ≡ others
  one_left bytes items others p q =
      let same = one_verdict role limits bytes p.frames q.frames p.verdict q.verdict p.is_verdict q.is_verdict in
      one_left_of bytes q.frames q.verdict items others
      (subst (λ (v : Verdict). IsLeftOf role limits bytes q.frames v items) same.1 (subst (λ (fs : List Frame). IsLeftOf role limits bytes fs p.verdict items) same.0 p.is)) q.is

-- ---- times

-- A text gives one time at most.
one_given : (text seconds other : List ℕ) → GivesTime text seconds → GivesTime text other → seconds ≡ other
one_given text seconds other is also = append_cancel (codes "# ") seconds other (sym is.0 ∙ also.0)

-- No line after the last one that gives a time gives one.
no_time_in : (before : List (List ℕ)) (line : List ℕ) (after lines : List (List ℕ)) (seconds : List ℕ) → AllByRecursion IsNoTime lines → lines ≡ before ++ line ∷ after → IsTime line seconds → ⊥
no_time_in before line after lines seconds none is time = in_all before (subst (λ (ls : List (List ℕ)). AllByRecursion IsNoTime ls) is none)
  where
    in_all : (front : List (List ℕ)) → AllByRecursion IsNoTime (front ++ line ∷ after) → ⊥
    in_all [] all = all.0 seconds time
    in_all (l ∷ front) all = in_all front all.1

same_last : (before others : List (List ℕ)) (line other : List ℕ) (after rest : List (List ℕ)) (seconds time : List ℕ) → before ++ line ∷ after ≡ others ++ other ∷ rest → IsTime line seconds → IsTime other time → AllByRecursion IsNoTime after → AllByRecursion IsNoTime rest
    → seconds ≡ time
same_last before others line other after rest seconds time is here there none also = by (two_fronts before others (line ∷ after) (other ∷ rest) is)
  where
    first : (more : List (List ℕ)) → line ∷ after ≡ more ++ other ∷ rest → seconds ≡ time
    first [] e = one_given (without_cr other) seconds time (subst (λ (l : List ℕ). IsTime l seconds) (head_same line other after rest e) here) there
    first (m ∷ more) e = absurd (no_time_in more other rest after time none (tail_same line m after (more ++ other ∷ rest) e) there)

    second : (more : List (List ℕ)) → other ∷ rest ≡ more ++ line ∷ after → seconds ≡ time
    second [] e = one_given (without_cr line) seconds time here (subst (λ (l : List ℕ). IsTime l time) (head_same other line rest after e) there)
    second (m ∷ more) e = absurd (no_time_in more line after rest seconds also (tail_same other m rest (more ++ line ∷ after) e) here)

    by : GoesOn before (line ∷ after) others (other ∷ rest) ⊎ GoesOn others (other ∷ rest) before (line ∷ after) → seconds ≡ time
    by (inl p) = first p.0 p.2
    by (inr p) = second p.0 p.2

pub one_time : (lines : List (List ℕ)) (time other : Option (List ℕ)) → IsTimeAfter lines time → IsTimeAfter lines other → time ≡ other
one_time lines None None is also = refl
one_time lines None (Some seconds) is also = absurd (no_time_in also.0 also.2 also.1 lines seconds is also.3 also.4)
one_time lines (Some seconds) None is also = absurd (no_time_in is.0 is.2 is.1 lines seconds also is.3 is.4)
one_time lines (Some seconds) (Some other) is also =
    ap Some (same_last is.0 also.0 is.2 also.2 is.1 also.1 seconds other (sym is.3 ∙ also.3) is.4 also.4 is.5 also.5)

-- ---- the time of the last bytes

-- An endpoint whose entry has bytes sent some.
sent_some : (role : Role) (before : List Entry) (last : Entry) (after : List Entry) → bytes_in role last ≢ [] → sent role (before ++ last ∷ after) ≡ [] → ⊥
sent_some role [] last after some none = some (nil-parts (bytes_in role last) (sent role after) (sym none)).0
sent_some role (entry ∷ before) last after some none = sent_some role before last after some (nil-parts (bytes_in role entry) (sent role (before ++ last ∷ after)) (sym none)).1

-- Two entries with bytes, after which no more was sent, are the same.
same_before : (role : Role) (before others : List Entry) (last other : Entry) (after rest : List Entry) → before ++ last ∷ after ≡ others ++ other ∷ rest → bytes_in role last ≢ [] → bytes_in role other ≢ [] → sent role after ≡ [] → sent role rest ≡ [] → before ≡ others
same_before role before others last other after rest is some more none nothing = by (two_fronts before others (last ∷ after) (other ∷ rest) is)
  where
    first : (between : List Entry) → others ≡ before ++ between → last ∷ after ≡ between ++ other ∷ rest → before ≡ others
    first [] e f = sym (append-nil before) ∙ sym e
    first (entry ∷ between) e f = absurd (sent_some role between other rest more (ap (λ (es : List Entry). sent role es) (sym (tail_same last entry after (between ++ other ∷ rest) f)) ∙ none))

    second : (between : List Entry) → before ≡ others ++ between → other ∷ rest ≡ between ++ last ∷ after → before ≡ others
    second [] e f = e ∙ append-nil others
    second (entry ∷ between) e f = absurd (sent_some role between last after some (ap (λ (es : List Entry). sent role es) (sym (tail_same other entry rest (between ++ last ∷ after) f)) ∙ nothing))

    by : GoesOn before (last ∷ after) others (other ∷ rest) ⊎ GoesOn others (other ∷ rest) before (last ∷ after) → before ≡ others
    by (inl p) = first p.0 p.1 p.2
    by (inr p) = second p.0 p.1 p.2

pub one_last_time : (role : Role) (lines : List (List ℕ)) (entries : List Entry) (time other : Option (List ℕ)) → IsTimeOfLast role lines entries time → IsTimeOfLast role lines entries other → time ≡ other
one_last_time role lines entries time other (inl p) (inl q) =
    let same = same_before role p.before q.before p.last q.last p.after q.after (sym p.are ∙ q.are) p.some q.some p.no_more q.no_more in
    one_time (take (length q.before) lines) time other (subst (λ (es : List Entry). IsTimeAfter (take (length es) lines) time) same p.held) q.held
one_last_time role lines entries time other (inl p) (inr q) = absurd (sent_some role p.before p.last p.after p.some (subst (λ (es : List Entry). sent role es ≡ []) p.are q.0))
one_last_time role lines entries time other (inr p) (inl q) = absurd (sent_some role q.before q.last q.after q.some (subst (λ (es : List Entry). sent role es ≡ []) q.are p.0))
one_last_time role lines entries time other (inr p) (inr q) = p.1 ∙ sym q.1

-- ---- lines

one_nothing : (text : List ℕ) (items others : List LineItem) → IsShownNothing text items → IsShownNothing text others → items ≡ others
one_nothing text items others (inl p) (inl q) = p.2 ∙ sym q.2
one_nothing text items others (inl p) (inr (inl empty, none)) = absurd (p.0 empty)
one_nothing text items others (inl p) (inr (inr time, none)) = absurd (p.1 time.0 time.1)
one_nothing text items others (inr (inl empty, none)) (inl q) = absurd (q.0 empty)
one_nothing text items others (inr (inr time, none)) (inl q) = absurd (q.1 time.0 time.1)
one_nothing text items others (inr p) (inr q) = p.1 ∙ sym q.1

module _ (detail : Detail) (limits : Limits) where
  one_of_entry : (given : List Entry) (text : List ℕ) (entry : Entry) (items others : List LineItem) → IsShownOfEntry detail limits given text entry items → IsShownOfEntry detail limits given text entry others → items ≡ others
  one_of_entry given text Nothing items others p q = one_nothing text items others p q
  one_of_entry given text (Bytes role bytes) items others p q =
      p.2 ∙ ap (λ (shown : List Shown). of_stream role (beyond (length (sent role given)) shown)) (one_shown role limits detail (sent role given ++ bytes) p.0 q.0 p.1 q.1) ∙ sym q.2
  one_of_entry given text (Mark role) items others p q =
      p.2 ∙ ap (λ (left : List Item). of_stream role left ++ End role (length (sent role given)) ∷ []) (one_left role limits (sent role given) p.0 q.0 p.1 q.1) ∙ sym q.2

  pub one_shown_after : (before : List (List ℕ)) (given : List Entry) (lines : List (List ℕ)) (entries : List Entry) (shown others : List ShownLine) → AreShownAfter detail limits before given lines entries shown
      → AreShownAfter detail limits before given lines entries others → shown ≡ others
  one_shown_after before given [] [] [] [] p q = refl
  one_shown_after before given [] [] [] (other ∷ others) p q = absurd q
  one_shown_after before given [] [] (s ∷ shown) others p q = absurd p
  one_shown_after before given [] (entry ∷ entries) shown others p q = absurd p
  one_shown_after before given (line ∷ lines) [] shown others p q = absurd p
  one_shown_after before given (line ∷ lines) (entry ∷ entries) [] others p q = absurd p
  one_shown_after before given (line ∷ lines) (entry ∷ entries) (s ∷ shown) [] p q = absurd q
  one_shown_after before given (line ∷ lines) (entry ∷ entries) (s ∷ shown) (other ∷ others) p q =
      let number : s.number ≡ other.number = p.0 ∙ sym q.0 in
      let time = one_time before s.time other.time p.1 q.1 in
      let items = one_of_entry given (without_cr line) entry s.items other.items p.2 q.2 in
      let first : s ≡ other = λ i. record { number = number i; time = time i; items = items i } in
      let rest = one_shown_after (before ++ line ∷ []) (given ++ entry ∷ []) lines entries shown others p.3 q.3 in
      cc (first, rest)

  one_items_left : (role : Role) (entries : List Entry) (items others : List Item) → AreLeftAtEnd role limits entries items → AreLeftAtEnd role limits entries others → items ≡ others
  one_items_left role entries items others (inl p) (inl q) = p.1 ∙ sym q.1
  one_items_left role entries items others (inl p) (inr q) = absurd (true≢false (sym p.0 ∙ q.0))
  one_items_left role entries items others (inr p) (inl q) = absurd (true≢false (sym q.0 ∙ p.0))
  one_items_left role entries items others (inr p) (inr q) = one_left role limits (sent role entries) items others p.1 q.1

  one_at_end : (role : Role) (lines : List (List ℕ)) (entries : List Entry) (left other : LeftAtEnd) → IsLeftAtEnd role limits lines entries left → IsLeftAtEnd role limits lines entries other → left ≡ other
  one_at_end role lines entries left other p q =
      let time = one_last_time role lines entries left.time other.time p.time q.time in
      let items = one_items_left role entries left.items other.items p.items q.items in
      λ i. record { time = time i; items = items i }

  pub one_shown_capture : (lines : List (List ℕ)) (shown others : List ShownLine) (client server other_client other_server : LeftAtEnd) (report other : Report) → IsShownCapture detail limits lines shown client server report
      → IsShownCapture detail limits lines others other_client other_server other → (shown ≡ others) × (client ≡ other_client) × (server ≡ other_server) × (report ≡ other)
  one_shown_capture lines shown others client server other_client other_server report other p q =
      let same = same_entries lines p.entries q.entries p.given q.given in (
        one_shown_after [] [] lines q.entries shown others (subst (λ (es : List Entry). AreShownAfter detail limits [] [] lines es shown) same p.each) q.each,
        one_at_end Client lines q.entries client other_client (subst (λ (es : List Entry). IsLeftAtEnd Client limits lines es client) same p.of_client) q.of_client,
        one_at_end Server lines q.entries server other_server (subst (λ (es : List Entry). IsLeftAtEnd Server limits lines es server) same p.of_server) q.of_server,
        one_report_of limits q.entries other report q.is_report (subst (λ (es : List Entry). IsReportOf limits es report) same p.is_report),
      )
