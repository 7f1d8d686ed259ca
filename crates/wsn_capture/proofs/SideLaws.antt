-- A side of a text is what its entries give, up to the first faulty line.
use Rattle.std.proofs.Common.{◌≡◌, ℕ, ◌+◌, ◌*◌, ◌<◌, ◌≤◌, ◌||◌, Bool, false, Result, Ok, Err, List, [], ◌∷◌, ◌++◌, length, inl, inr, refl, sym, ap, ◌∙◌, subst, append_assoc, append-nil, length-append, arith}
use Rattle.std.specs.List.{AllByRecursion}
use Rattle.std.proofs.lemmas.List.Concat.{flat_map-append}
use Rattle.std.proofs.lemmas.List.Folds.{list_any-append}
use Rattle.wsn_wire.specs.declared.endpoint.Role.{Role}
use Rattle.wsn_wire.specs.Frame.{IsBytes}
use Rattle.wsn_wire.proofs.FrameLemmas.{IsBytes-right}
use Rattle.wsn_rules.specs.Limits.{Limits}
use Rattle.wsn_rules.specs.TextLines.{IsLine, ended, AreLines, lines_of}
use Rattle.wsn_rules.proofs.Prefixes.{nil-push, split_push}
use Rattle.wsn_rules.proofs.TextLines.{lines_are, lines_first, are_lines_of}
use Rattle.wsn_rules.specs.Entries.{without_cr, Entry, GivesEntry}
use Rattle.wsn_rules.specs.Entries.Entry.{Bytes}
use Rattle.wsn_rules.specs.Sides.{bytes_in, is_mark, sent, has_ended}
use Rattle.wsn_capture.specs.declared.line_fault.LineFault.{LineFault}
use Rattle.wsn_capture.specs.declared.line_fault.LineFault.TheVariants.{TooLong}
use Rattle.wsn_capture.specs.declared.lines_before.LinesBefore.{LinesBefore}
use Rattle.wsn_capture.specs.LineFaults.{fault_order, IsAcceptedLine, AreAcceptedAfter, AreAcceptedLines, IsFaultAfter, line_most}
use Rattle.wsn_capture.specs.CaptureAnswers.{IsFaulty}
use Rattle.wsn_capture.specs.SideTexts.{entry_after, with_entry, lines_giving, sentinel, sent_in_lines, sent_in, side_most}
use Rattle.wsn_capture.proofs.OneFault.{same_fault}
use Rattle.wsn_capture.proofs.AcceptedTexts.{taken_given, as_many}
use Rattle.wsn_capture.proofs.EveryReport.{sent_bytes}
use Rattle.wsn_capture.proofs.OneAnswer.{all_or_faulty}
use Rattle.wsn_capture.proofs.SideEntries.{HasRoom, few_bytes, accepted_entry, first_fault}

-- ---- one line

module _ (role : Role) (before : LinesBefore) (line : List ℕ) (lines : List (List ℕ)) where
  abbrev step : Result Entry LineFault → List ℕ
  step entry = elim entry [
    | Ok entry ↦ bytes_in role entry ++ sent_in_lines role (with_entry before entry) lines
    | Err fault ↦ sentinel (before.count + 1) fault ∷ []
  ]

  pub side-entry : (entry : Entry) → entry_after before line ≡ Ok entry → sent_in_lines role before (line ∷ lines) ≡ bytes_in role entry ++ sent_in_lines role (with_entry before entry) lines
  side-entry entry is = ap step is

  pub side-fault : (fault : LineFault) → entry_after before line ≡ Err fault → sent_in_lines role before (line ∷ lines) ≡ sentinel (before.count + 1) fault ∷ []
  side-fault fault is = ap step is

-- ---- the lines before

or_swap : (a b : Bool) → (a || (b || false)) ≡ (b || a)
or_swap a b = grind arith

ended-push : (role : Role) (given : List Entry) (entry : Entry) → has_ended role (given ++ entry ∷ []) ≡ (is_mark role entry || has_ended role given)
ended-push role given entry = list_any-append (is_mark role) given (entry ∷ []) ∙ or_swap (has_ended role given) (is_mark role entry)

pub before-push : (given : List Entry) (entry : Entry) → with_entry (lines_giving given) entry ≡ lines_giving (given ++ entry ∷ [])
before-push given entry = grind (arith, length-append, ended-push)

-- ---- the number of bytes

in_entry : (role : Role) (entry : Entry) (n : ℕ) → ((sender : Role) (bytes : List ℕ) → entry ≡ Bytes sender bytes → length bytes ≤ n) → length (bytes_in role entry) ≤ n
in_entry role entry n few = grind arith

entry_short : (limits : Limits) (given : List Entry) (line : List ℕ) (entry : Entry) (role : Role) → IsAcceptedLine limits given line entry → length (bytes_in role entry) ≤ 4096
entry_short limits given line entry role is = in_entry role entry 4096 few
  where
    short : length (without_cr line) ≤ line_most
    short = let not : line_most < length (without_cr line) → ⊥ = is.none TooLong in omega (arith, not)

    few : (sender : Role) (bytes : List ℕ) → entry ≡ Bytes sender bytes → length bytes ≤ 4096
    few sender bytes same =
        let gives : GivesEntry (without_cr line) (Bytes sender bytes) = subst (GivesEntry (without_cr line)) same is.gives in
        few_bytes sender (without_cr line) gives.0 bytes short gives.1 gives.2

-- The endpoints sent at most 4,096 bytes in each line.
abbrev AreShort : List Entry → Type 0
AreShort given = (role : Role) → length (sent role given) ≤ 4096 * length given

short_push : (limits : Limits) (given : List Entry) (line : List ℕ) (entry : Entry) → AreShort given → IsAcceptedLine limits given line entry → AreShort (given ++ entry ∷ [])
short_push limits given line entry short is role =
    let one = entry_short limits given line entry role is in
    let joined = ap (λ (bs : List ℕ). length bs) (flat_map-append (bytes_in role) given (entry ∷ []) ∙ ap (λ (bs : List ℕ). sent role given ++ bs) (append-nil (bytes_in role entry))) in
    omega (arith, one, short role, joined, length-append (sent role given) (bytes_in role entry), length-append given (entry ∷ []))

has_room : (limits : Limits) (given : List Entry) → side_most ≤ limits.input → AreShort given → HasRoom limits given
has_room limits given most short few role = let so_far = short role in omega (arith, most, few, so_far)

none_short : AreShort []
none_short role = omega arith

-- ---- lines

module _ (limits : Limits) (most : side_most ≤ limits.input) where
  all_short : (given : List Entry) (lines : List (List ℕ)) (entries : List Entry) → AreShort given → AreAcceptedAfter limits given lines entries → AreShort (given ++ entries)
  all_short given [] [] short are = subst AreShort (sym (append-nil given)) short
  all_short given (line ∷ lines) (entry ∷ entries) short are =
      subst AreShort (append_assoc given (entry ∷ []) entries) (all_short (given ++ entry ∷ []) lines entries (short_push limits given line entry short are.0) are.1)
  all_short given _ _ short are = absurd are

  pub room_after : (lines : List (List ℕ)) (entries : List Entry) → AreAcceptedLines limits lines entries → HasRoom limits entries
  room_after lines entries are = has_room limits entries most (all_short [] lines entries none_short are)

  side_more : (role : Role) (given : List Entry) (lines : List (List ℕ)) (entries : List Entry) (more : List (List ℕ)) → AreShort given → AreAcceptedAfter limits given lines entries
      → sent_in_lines role (lines_giving given) (lines ++ more) ≡ sent role entries ++ sent_in_lines role (lines_giving (given ++ entries)) more
  side_more role given [] [] more short are = ap (λ (es : List Entry). sent_in_lines role (lines_giving es) more) (sym (append-nil given))
  side_more role given (line ∷ lines) (entry ∷ entries) more short are =
      let rest = side_more role (given ++ entry ∷ []) lines entries more (short_push limits given line entry short are.0) are.1 in
      let whole : (given ++ entry ∷ []) ++ entries ≡ given ++ entry ∷ entries = append_assoc given (entry ∷ []) entries in
      side-entry role (lines_giving given) line (lines ++ more) entry (accepted_entry limits given line entry are.0)
      ∙ ap (λ (b : LinesBefore). bytes_in role entry ++ sent_in_lines role b (lines ++ more)) (before-push given entry)
      ∙ ap (λ (bs : List ℕ). bytes_in role entry ++ bs) (rest ∙ ap (λ (es : List Entry). sent role entries ++ sent_in_lines role (lines_giving es) more) whole)
      ∙ sym (append_assoc (bytes_in role entry) (sent role entries) (sent_in_lines role (lines_giving (given ++ entry ∷ entries)) more))
  side_more role given _ _ more short are = absurd are

  -- after accepted lines
  pub side-accepted : (role : Role) (lines : List (List ℕ)) (entries : List Entry) (more : List (List ℕ)) → AreAcceptedLines limits lines entries
      → sent_in_lines role (lines_giving []) (lines ++ more) ≡ sent role entries ++ sent_in_lines role (lines_giving entries) more
  side-accepted role lines entries more are = side_more role [] lines entries more none_short are

  pub side-faulty : (role : Role) (lines : List (List ℕ)) (line : List ℕ) (more : List (List ℕ)) (fault : LineFault) → (is : IsFaultAfter limits lines line fault)
      → sent_in_lines role (lines_giving []) (lines ++ line ∷ more) ≡ sent role is.given ++ sentinel (length lines + 1) fault ∷ []
  side-faulty role lines line more fault is =
      let room = room_after lines is.given is.taken in
      side-accepted role lines is.given (line ∷ more) is.taken
      ∙ ap (λ (bs : List ℕ). sent role is.given ++ bs) (side-fault role (lines_giving is.given) line more fault (first_fault limits is.given line room fault is.is)
      ∙ ap (λ (n : ℕ). sentinel (n + 1) fault ∷ []) (as_many limits [] lines is.given is.taken))

  -- ---- texts

  pub sent_in-accepted : (role : Role) (text : List ℕ) (lines : List (List ℕ)) (entries : List Entry) → AreLines text lines → AreAcceptedLines limits lines entries → sent_in role text ≡ sent role entries
  sent_in-accepted role text lines entries are taken =
      ap (sent_in_lines role (lines_giving [])) (lines_are text lines are ∙ sym (append-nil lines)) ∙ side-accepted role lines entries [] taken ∙ append-nil (sent role entries)

  pub sent_in-faulty : (role : Role) (text : List ℕ) (number : ℕ) (fault : LineFault) → (is : IsFaulty limits text number fault) → sent_in role text ≡ sent role is.is.given ++ sentinel number fault ∷ []
  sent_in-faulty role text number fault is = grind (arith, lines_are, side-faulty)

  -- whole lines, and what comes after them
  pub sent_in-longer : (role : Role) (lines : List (List ℕ)) (entries : List Entry) (later : List ℕ) → AllByRecursion IsLine lines → AreAcceptedLines limits lines entries
      → sent_in role (ended lines ++ later) ≡ sent role entries ++ sent_in_lines role (lines_giving entries) (lines_of later)
  sent_in-longer role lines entries later each taken = ap (sent_in_lines role (lines_giving [])) (lines_first lines later each) ∙ side-accepted role lines entries (lines_of later) taken

  pub sent_in-stopped : (role : Role) (lines : List (List ℕ)) (line : List ℕ) (fault : LineFault) (later : List ℕ) → AllByRecursion IsLine (lines ++ line ∷ []) → (is : IsFaultAfter limits lines line fault)
      → sent_in role (ended (lines ++ line ∷ []) ++ later) ≡ sent role is.given ++ sentinel (length lines + 1) fault ∷ []
  sent_in-stopped role lines line fault later each is = grind (arith, lines_first, append_assoc, side-faulty)

-- ---- sentinels

order_small : (fault : LineFault) → fault_order fault < 8
order_small fault = grind arith

pub sentinel-same : (number other : ℕ) (fault another : LineFault) → sentinel number fault ≡ sentinel other another → (number ≡ other) × (fault ≡ another)
sentinel-same number other fault another is = grind (arith, order_small, same_fault)

pub sentinel_big : (number : ℕ) (fault : LineFault) → 256 ≤ sentinel number fault
sentinel_big number fault = omega arith

last_same : (xs ys : List ℕ) (x y : ℕ) → xs ++ x ∷ [] ≡ ys ++ y ∷ [] → x ≡ y
last_same xs ys x y is = grind (arith, split_push, nil-push)

-- no sentinel is among bytes
no_sentinel : (came bytes : List ℕ) (number : ℕ) (fault : LineFault) → IsBytes bytes → bytes ≡ came ++ sentinel number fault ∷ [] → ⊥
no_sentinel came bytes number fault all is = grind (arith, IsBytes-right, sentinel_big)

-- a side that ends with a sentinel has this faulty line
pub sentinel_found : (limits : Limits) (role : Role) (text came : List ℕ) (number : ℕ) (fault : LineFault) → side_most ≤ limits.input → sent_in role text ≡ came ++ sentinel number fault ∷ [] → IsFaulty limits text number fault
sentinel_found limits role text came number fault most is =
    elim (all_or_faulty limits [] (lines_of text)) [
      | inl all ↦ absurd (no_sentinel came (sent role all.0) number fault (sent_bytes role (lines_of text) all.0 (taken_given limits [] (lines_of text) all.0 all.1))
          (sym (sent_in-accepted limits most role text (lines_of text) all.0 (are_lines_of text) all.1) ∙ is))
      | inr bad ↦
          let found : IsFaulty limits text (length bad.before + 1) bad.fault = record {
            before = bad.before;
            line = bad.line;
            after = bad.after;
            are = subst (AreLines text) bad.whole (are_lines_of text);
            at = refl;
            is = record { given = bad.entries; taken = bad.taken; is = bad.is };
          } in
          same_sentinel (length bad.before + 1) bad.fault found
    ]
  where
    same_sentinel : (other : ℕ) (another : LineFault) → IsFaulty limits text other another → IsFaulty limits text number fault
    same_sentinel other another found =
        let ends = sym (sent_in-faulty limits most role text other another found) ∙ is in
        let ends_alike = last_same (sent role found.is.given) came (sentinel other another) (sentinel number fault) ends in
        let same = sentinel-same other number another fault ends_alike in
        subst (λ (n : ℕ). IsFaulty limits text n fault) same.0 (subst (IsFaulty limits text other) same.1 found)
